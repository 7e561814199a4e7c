-- What is wrong with one word at its place, and with a whole list of words.
use Rattle.std.specs.Prelude.{◌≡◌, ℕ, ◌+◌, ◌<◌, ◌≤◌, Bool, false, cond, ◌&&◌, List, length, is_some, Some, None, Option, ◌==◌, nat_le, slice_index}
use Rattle.words.specs.Bounds.{most_commands, most_limits, most_readings, in_bounds}
use Rattle.words.specs.Words.{kind_bits, bits_of_payload, payload}
use Rattle.words.specs.Kinds.{code}
use Rattle.words.specs.Layout.{shape_in, spare_in, close_place, due}
use Rattle.words.specs.declared.counts.Shape.{Shape}
use Rattle.words.specs.declared.kind.Kind.{Kind}
use Rattle.words.specs.declared.kind.Kind.TheVariants.{Head, Gain, Coefficient, Constant, Slope, Close as CloseKind}
use Rattle.words.specs.declared.refusal.Refusal.{Refusal}
use Rattle.words.specs.declared.refusal.Refusal.TheVariants.{Short, WrongKind, Counts, Value, Close}

-- The refusal where a test fails.
abbrev pub unless : Bool → Refusal → Option Refusal
unless b e = cond b None (Some e)

-- Do the counts of a head lie in their bounds, and are its spare bits 0?
abbrev pub head_fits : ℕ → Bool
head_fits w =
    nat_le 1 (shape_in w).commands && (nat_le (shape_in w).commands most_commands
    && (nat_le 1 (shape_in w).limits && (nat_le (shape_in w).limits most_limits
    && (nat_le (shape_in w).readings most_readings && spare_in w == 0))))

-- Is the payload a number of a plant?
abbrev pub value_fits : ℕ → Bool
value_fits w = in_bounds (payload w)

-- What is wrong with the payload of a word of a kind at place k. The other kinds are due nowhere.
abbrev pub payload_fault : Kind → ℕ → ℕ → Option Refusal
payload_fault Head w k = unless (head_fits w) Counts
payload_fault Gain w k = unless (value_fits w) (Value k)
payload_fault Coefficient w k = unless (value_fits w) (Value k)
payload_fault Constant w k = unless (value_fits w) (Value k)
payload_fault Slope w k = unless (value_fits w) (Value k)
payload_fault CloseKind w k = unless (bits_of_payload w == k) (Close k)
payload_fault kind w k = None

-- What is wrong with a word at place k, where a kind is due: first its kind, then its payload.
abbrev pub word_fault : Kind → ℕ → ℕ → Option Refusal
word_fault kind w k = cond (kind_bits w == code kind) (payload_fault kind w k) (Some (WrongKind k))

-- The same where it may be that no word is due: then each is of a wrong kind.
abbrev pub due_fault : Option Kind → ℕ → ℕ → Option Refusal
due_fault (Some kind) w k = word_fault kind w k
due_fault None w k = Some (WrongKind k)

module _ (ws : List ℕ) where
  -- The counts that the first word says.
  abbrev pub shape_of : Shape
  shape_of = shape_in (slice_index ws 0)

  -- What is wrong with the word at place k.
  abbrev pub fault : ℕ → Option Refusal
  fault k = word_fault (due shape_of k) (slice_index ws k) k

  -- Nothing is wrong with the words before place k.
  abbrev pub RightBefore : ℕ → Type 0
  RightBefore k = (i : ℕ) → i < k → is_some (fault i) ≡ false

  -- The words are laid out as those of a plant, from the head to the close.
  pub record LaidOut : Type 0 where
    pub long : length ws ≡ close_place shape_of + 1
    pub right : RightBefore (length ws)

  -- The refusal that the words earn: that of the first wrong word up to the close; that they end before the close, where no
  -- word is wrong; or that words follow the close, where no word up to it is wrong.
  pub data Faulty : Refusal → Type 0 where
    wrong_word : {e : Refusal} (k : ℕ) → k < length ws → k ≤ close_place shape_of → RightBefore k → fault k ≡ Some e → Faulty e
    too_short : {k : ℕ} → k ≡ length ws → length ws ≤ close_place shape_of → RightBefore (length ws) → Faulty (Short k)
    too_long : {k : ℕ} → k ≡ close_place shape_of + 1 → k < length ws → RightBefore k → Faulty (Close k)

-- Words earn at most one refusal, and none where they are laid out as a plant's.
abbrev pub OneRefusal : Type 0
OneRefusal = (ws : List ℕ) (e f : Refusal) → Faulty ws e → Faulty ws f → e ≡ f

abbrev pub RefusedOrLaidOut : Type 0
RefusedOrLaidOut = (ws : List ℕ) (e : Refusal) → Faulty ws e → LaidOut ws → ⊥
