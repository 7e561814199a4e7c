-- What becomes of a limit that enters at a corner.
use Rattle.std.specs.Prelude.{◌≡◌, ℕ, suc, ◌+◌, ◌<◌, ◌≤◌, List, ℤ, pos, ◌≤ℤ◌, Ok, Err, Result}
use Rattle.plant.specs.Commands.{value}
use Rattle.plant.specs.Meaning.{Meaning, shape_of}
use Rattle.tableau.specs.Exchange.{Leaves, Replaced}
use Rattle.tableau.specs.Plants.{commands, limits}
use Rattle.tableau.specs.Tableau.{entry}
use Rattle.words.specs.declared.counts.Shape.{Shape}
use Rattle.corner_words.specs.Corners.{CornerIn, InWidthAt, Holds}
use Rattle.corner_words.specs.declared.enter.NotEntered.{NotEntered}
use Rattle.corner_words.specs.declared.enter.NotEntered.TheVariants.{NoRow, OutOfWidth}

module _ (p : Meaning) (n : ℕ) (a : ℕ → ℕ → ℤ) (X : CornerIn p n a) (j : ℕ) where
  -- Limit l leaves when limit j enters, and the words then hold the tableau of the corner across.
  pub record GoneAcross (l : ℕ) (after : List ℤ) : Type 0 where
    pub row : ℕ
    pub leaves : Leaves (commands p) a (suc (commands p)) (value p) X.U j row
    pub left : l ≡ X.β row
    pub to : CornerIn p n a
    pub across : Replaced (commands p) X.β row j to.β
    pub holds : Holds p n a to after

  -- No row can leave when limit j enters.
  abbrev pub NoRowFor : Type 0
  NoRowFor = (r : ℕ) → r < commands p → entry p a X.U r j ≤ℤ pos 0

  -- A limit leaves, but the corner across is out of width, in whatever order its rows are told.
  pub record OutOfWidthAt : Type 0 where
    pub row : ℕ
    pub leaves : Leaves (commands p) a (suc (commands p)) (value p) X.U j row
    pub out : (Y : CornerIn p n a) → Replaced (commands p) X.β row j Y.β → ¬ InWidthAt p n a Y

  -- What became of limit j at the corner X.
  abbrev pub EnteredAt : List ℤ → List ℤ → Result ℕ NotEntered → Type 0
  EnteredAt before after (Ok l) = GoneAcross l after
  EnteredAt before after (Err NoRow) = NoRowFor × (after ≡ before)
  EnteredAt before after (Err OutOfWidth) = OutOfWidthAt

-- It is so at any corner whose tableau the words held.
abbrev pub EnterAnswer : Shape → ℕ → List ℤ → List ℤ → Result ℕ NotEntered → Type 0
EnterAnswer c j before after e = (p : Meaning) (n : ℕ) (a : ℕ → ℕ → ℤ) (X : CornerIn p n a) → c ≡ shape_of p → limits p ≤ n → n ≤ limits p + commands p → Holds p n a X before → EnteredAt p n a X j before after e
