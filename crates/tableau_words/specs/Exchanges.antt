-- What an exchange does to words that hold a tableau.
use Rattle.std.specs.Prelude.{◌≡◌, ℕ, List, ℤ, Ok, Err, Result}
use Rattle.exact.specs.LowestTerms.{Lowest}
use Rattle.plant.specs.Meaning.{Meaning, shape_of}
use Rattle.rows.specs.declared.OutOfWidth.{OutOfWidth}
use Rattle.tableau.specs.Exchange.{Exchanged}
use Rattle.tableau.specs.Plants.{commands, limits}
use Rattle.tableau.specs.Tableau.{Tableau, TableauInWidth}
use Rattle.words.specs.declared.counts.Shape.{Shape}
use Rattle.tableau_words.specs.Held.{Held}

module _ (p : Meaning) (a : ℕ → ℕ → ℤ) (β : ℕ → ℕ) (D : ℤ) (U : ℕ → ℕ → ℤ) (r j : ℕ) where
  -- The words hold the tableau of the basis across, in which limit j has taken the place of the limit of row r, and it is in width.
  pub record HoldsAcross (after : List ℤ) : Type 0 where
    pub divisor : ℤ
    pub β' : ℕ → ℕ
    pub D' : ℤ
    pub U' : ℕ → ℕ → ℤ
    pub exchanged : Exchanged (commands p) a β D U r j divisor β' D' U'
    pub tableau : Tableau (commands p) a β' D' U'
    pub in_width : TableauInWidth p (limits p) a β' D' U'
    pub held : Held p a β' D' U' after

  -- The tableau of the basis across is out of width.
  abbrev pub OutOfWidthAcross : Type 0
  OutOfWidthAcross = (g : ℤ) (β' : ℕ → ℕ) (D' : ℤ) (U' : ℕ → ℕ → ℤ) → Exchanged (commands p) a β D U r j g β' D' U' → Lowest (commands p) D' U' → TableauInWidth p (limits p) a β' D' U' → ⊥

-- What the exchange answers over words that hold any tableau: they then hold the tableau across, or that is out of width.
abbrev pub ExchangeAnswer : Shape → ℕ → ℕ → List ℤ → List ℤ → Result Unit OutOfWidth → Type 0
ExchangeAnswer c r j before after (Ok x) = (p : Meaning) (a : ℕ → ℕ → ℤ) (β : ℕ → ℕ) (D : ℤ) (U : ℕ → ℕ → ℤ) → c ≡ shape_of p → Tableau (commands p) a β D U → Held p a β D U before → HoldsAcross p a β D U r j after
ExchangeAnswer c r j before after (Err e) = (p : Meaning) (a : ℕ → ℕ → ℤ) (β : ℕ → ℕ) (D : ℤ) (U : ℕ → ℕ → ℤ) → c ≡ shape_of p → Tableau (commands p) a β D U → Held p a β D U before → OutOfWidthAcross p a β D U r j
