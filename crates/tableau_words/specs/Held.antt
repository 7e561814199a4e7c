-- Words that hold a tableau.
use Rattle.std.specs.Prelude.{◌≡◌, ℕ, ◌+◌, ◌-◌, ◌<◌, ◌≤◌, cond, List, length, ℤ, pos, neg_ℤ, ◌==◌, nat_le}
use Rattle.exact.specs.Vectors.{entries}
use Rattle.plant.specs.Meaning.{Meaning, shape_of}
use Rattle.tableau.specs.Plants.{commands}
use Rattle.tableau.specs.Tableau.{row_gain, entry, law, law_gain, slack_rate}
use Rattle.tableau_words.specs.Layout.{row_width, size, number_at}

module _ (p : Meaning) (a : ℕ → ℕ → ℤ) (β : ℕ → ℕ) (D : ℤ) (U : ℕ → ℕ → ℤ) where
  -- The row of a limit of the basis: b · U_r, U_r, and T_rj for each limit j.
  abbrev pub basis_row : ℕ → ℕ → ℤ
  basis_row r i = cond (i == 0) (row_gain p U r) (cond (nat_le i (commands p)) (U r (i - 1)) (entry p a U r (i - (1 + commands p))))

  -- The row of the constants (k = 0) or of reading k: −G_k, −L_k, and S_kj for each limit j.
  abbrev pub reading_row : ℕ → ℕ → ℤ
  reading_row k i = cond (i == 0) (neg_ℤ (law_gain p β U k)) (cond (nat_le i (commands p)) (neg_ℤ (law p β U k (i - 1))) (slack_rate p a β D U k (i - (1 + commands p))))

  -- The words hold the tableau of the basis β with the inverse U / D.
  pub record Held (ws : List ℤ) : Type 0 where
    pub long : length ws ≡ size (shape_of p)
    pub denominator : entries ws 0 ≡ D
    pub limits : (r : ℕ) → r < commands p → entries ws (1 + r) ≡ pos (β r)
    pub basis_rows : (r i : ℕ) → r < commands p → i < row_width (shape_of p) → number_at (shape_of p) ws r i ≡ basis_row r i
    pub reading_rows : (k i : ℕ) → k ≤ p.readings → i < row_width (shape_of p) → number_at (shape_of p) ws (commands p + k) i ≡ reading_row k i
