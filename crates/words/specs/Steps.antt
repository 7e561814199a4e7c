-- How the reader's state moves on from word to word, and where it stands as a part begins.
use Rattle.std.specs.Prelude.{◌≡◌, ℕ, ◌+◌, ◌-◌, ◌≤◌, Bool, true, false, cond, ◌&&◌, List, length, Some, None, Ok, Err, Option, Result, ◌==◌, nat_le, nat_lt}
use Rattle.words.specs.Layout.{shape_in, width, limit_place, close_place}
use Rattle.words.specs.Faults.{due_fault, shape_of, RightBefore}
use Rattle.words.specs.declared.kind.Kind.{Kind}
use Rattle.words.specs.declared.kind.Kind.TheVariants.{Head as HeadKind, Gain as GainKind, Coefficient as CoefficientKind, Constant as ConstantKind, Slope as SlopeKind, Close as CloseKind}
use Rattle.words.specs.declared.counts.Counts.{Counts}
use Rattle.words.specs.declared.counts.Shape.{Shape}
use Rattle.words.specs.declared.state.State.{State}
use Rattle.words.specs.declared.state.State.TheVariants.{Head, Gain, Coefficient, Constant, Slope, Close, Done}
use Rattle.words.specs.declared.refusal.Refusal.{Refusal}

-- The kind that a state waits for; none once the close has been read.
abbrev pub expects : State → Option Kind
expects Head = Some HeadKind
expects (Gain c left) = Some GainKind
expects (Coefficient c left limits) = Some CoefficientKind
expects (Constant c limits) = Some ConstantKind
expects (Slope c left limits) = Some SlopeKind
expects (Close c) = Some CloseKind
expects (Done c) = None

-- After the first of so many limits.
abbrev pub after_limit : Counts → ℕ → State
after_limit c limits = cond (nat_lt 1 limits) (Coefficient c c.shape.commands (limits - 1)) (Close c)

-- The state after a word of the kind that was due, where that was no head; the line of `Head` is never asked for.
abbrev pub moved : State → State
moved Head = Head
moved (Gain c left) = cond (nat_lt 1 left) (Gain c (left - 1)) (Coefficient c c.shape.commands c.shape.limits)
moved (Coefficient c left limits) = cond (nat_lt 1 left) (Coefficient c (left - 1) limits) (Constant c limits)
moved (Constant c limits) = cond (nat_lt 0 c.shape.readings) (Slope c c.shape.readings limits) (after_limit c limits)
moved (Slope c left limits) = cond (nat_lt 1 left) (Slope c (left - 1) limits) (after_limit c limits)
moved (Close c) = Done c
moved (Done c) = Done c

-- The state after a head that says these counts.
abbrev pub Opened : Shape → State → Type 0
Opened e (Gain c left) = (c.shape ≡ e) × (left ≡ e.commands)
Opened e t = ⊥

-- The state after the word w of the kind that was due.
abbrev pub Moved : ℕ → State → State → Type 0
Moved w Head t = Opened (shape_in w) t
Moved w s t = t ≡ moved s

-- One step with the word w at place k: it is refused for what is wrong with it, or the state moves on.
abbrev pub Stepped : ℕ → ℕ → State → State → Result Unit Refusal → Type 0
Stepped w k s t (Ok x) = (due_fault (expects s) w k ≡ None) × Moved w s t
Stepped w k s t (Err e) = due_fault (expects s) w k ≡ Some e

-- A state in which the first word of a part is due, or none.
abbrev pub opens : State → Bool
opens Head = true
opens (Gain c left) = left == c.shape.commands
opens (Coefficient c left limits) = left == c.shape.commands && (nat_le 1 limits && nat_le limits c.shape.limits)
opens (Constant c limits) = false
opens (Slope c left limits) = false
opens (Close c) = true
opens (Done c) = true

abbrev pub done : State → Bool
done Head = false
done (Gain c left) = false
done (Coefficient c left limits) = false
done (Constant c limits) = false
done (Slope c left limits) = false
done (Close c) = false
done (Done c) = true

-- The place at which such a state stands.
abbrev pub begins : State → ℕ
begins Head = 0
begins (Gain c left) = 1
begins (Coefficient c left limits) = limit_place c.shape (c.shape.limits - limits)
begins (Constant c limits) = 0
begins (Slope c left limits) = 0
begins (Close c) = close_place c.shape
begins (Done c) = close_place c.shape + 1

-- The number of words of the part that begins there.
abbrev pub span : State → ℕ
span Head = 1
span (Gain c left) = left
span (Coefficient c left limits) = width c.shape
span (Constant c limits) = 0
span (Slope c left limits) = 0
span (Close c) = 1
span (Done c) = 0

-- What the head said, once it was read.
abbrev pub shape_told : Shape → State → Shape
shape_told c Head = c
shape_told c (Gain e left) = e.shape
shape_told c (Coefficient e left limits) = e.shape
shape_told c (Constant e limits) = e.shape
shape_told c (Slope e left limits) = e.shape
shape_told c (Close e) = e.shape
shape_told c (Done e) = e.shape

abbrev pub SameShape : Shape → Shape → Type 0
SameShape c e = (c.commands ≡ e.commands) × (c.limits ≡ e.limits) × (c.readings ≡ e.readings)

-- A reader of the words ws that is in this state stands at place k, where a part begins or, past the close, none is left.
pub record Stands (ws : List ℕ) (k : ℕ) (s : State) : Type 0 where
  pub within : k ≤ length ws
  pub right : RightBefore ws k
  pub opened : opens s ≡ true
  pub placed : k ≡ begins s
  pub told : SameShape (shape_told (shape_of ws) s) (shape_of ws)
