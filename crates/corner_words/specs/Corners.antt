-- Words that hold the tableau of a corner.
use Rattle.std.specs.Prelude.{◌≡◌, ℕ, suc, ◌+◌, ◌≤◌, List, ℤ}
use Rattle.plant.specs.Commands.{value}
use Rattle.plant.specs.Meaning.{Meaning, shape_of}
use Rattle.tableau.specs.Corner.{Corner}
use Rattle.tableau.specs.Plants.{commands, limits}
use Rattle.tableau.specs.Tableau.{TableauInWidth}
use Rattle.words.specs.declared.counts.Shape.{Shape}
use Rattle.tableau_words.specs.Held.{Held}

-- A corner of a program over a plant's gains: the plant's own, or the one with artificial limits behind the plant's.
abbrev pub CornerIn : (p : Meaning) (n : ℕ) (a : ℕ → ℕ → ℤ) → Type 0
CornerIn p n a = Corner (commands p) n a (suc (commands p)) (value p)

-- No number of its tableau is out of width.
abbrev pub InWidthAt : (p : Meaning) (n : ℕ) (a : ℕ → ℕ → ℤ) → CornerIn p n a → Type 0
InWidthAt p n a X = TableauInWidth p (limits p) a X.β X.D X.U

-- The words hold the tableau of the corner X, which is in width.
pub record Holds (p : Meaning) (n : ℕ) (a : ℕ → ℕ → ℤ) (X : CornerIn p n a) (ws : List ℤ) : Type 0 where
  pub held : Held p a X.β X.D X.U ws
  pub in_width : InWidthAt p n a X

-- The words hold the tableau of some corner of a program with these counts, which has no more artificial limits than commands.
pub record Holding (c : Shape) (ws : List ℤ) : Type 0 where
  pub p : Meaning
  pub n : ℕ
  pub a : ℕ → ℕ → ℤ
  pub X : CornerIn p n a
  pub shape : c ≡ shape_of p
  pub all : limits p ≤ n
  pub few : n ≤ limits p + commands p
  pub holds : Holds p n a X ws
