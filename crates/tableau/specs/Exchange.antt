-- An exchange: one limit enters a basis and another leaves it.
use Rattle.std.specs.Prelude.{ℕ, ◌<◌, ◌≡◌, ℤ, pos, ◌-ℤ◌, ◌*ℤ◌, ◌<ℤ◌}
use Rattle.exact.specs.Vectors.{dot}
use Rattle.exact.specs.Lists.{Before}

-- No other row s with T_sj > 0 has a lexicographically lesser ratio V (U s) / T_sj than the row r.
abbrev pub Least : ℕ → (ℕ → ℕ → ℤ) → ℕ → ((ℕ → ℤ) → ℕ → ℤ) → (ℕ → ℕ → ℤ) → ℕ → ℕ → Type 0
Least m a w V U r j = (s : ℕ) → s < m → ¬ (s ≡ r) → pos 0 <ℤ dot m (a j) (U s) → Before w (V (U s)) (dot m (a j) (U s)) (V (U r)) (dot m (a j) (U r)) → ⊥

-- The limit of row r leaves when limit j enters: T_rj > 0, and among the rows with T_sj > 0 its ratio is the least.
pub record Leaves (m : ℕ) (a : ℕ → ℕ → ℤ) (w : ℕ) (V : (ℕ → ℤ) → ℕ → ℤ) (U : ℕ → ℕ → ℤ) (j r : ℕ) : Type 0 where
  pub inside : r < m
  pub above : pos 0 <ℤ dot m (a j) (U r)
  pub least : Least m a w V U r j

-- β' has limit j in place of the limit of row r of β, and the other limits of β, in any order.
pub record Replaced (m : ℕ) (β : ℕ → ℕ) (r j : ℕ) (β' : ℕ → ℕ) : Type 0 where
  pub comes : (s : ℕ) × (s < m) × (β' s ≡ j)
  pub stay : (i : ℕ) → i < m → ¬ (i ≡ r) → (s : ℕ) × (s < m) × (β' s ≡ β i)

-- The same in numbers, with limit j in row r: U' / D' is made from U / D, and g is what the new numbers were divided by.
pub record Exchanged (m : ℕ) (a : ℕ → ℕ → ℤ) (β : ℕ → ℕ) (D : ℤ) (U : ℕ → ℕ → ℤ) (r j : ℕ) (g : ℤ) (β' : ℕ → ℕ) (D' : ℤ) (U' : ℕ → ℕ → ℤ) : Type 0 where
  pub inside : r < m
  pub gpos : pos 0 <ℤ g
  pub tpos : pos 0 <ℤ dot m (a j) (U r)
  pub comes : β' r ≡ j
  pub stays : (i : ℕ) → i < m → ¬ (i ≡ r) → β' i ≡ β i
  pub denominator : g *ℤ D' ≡ D *ℤ dot m (a j) (U r)
  pub pivot_row : (c : ℕ) → c < m → g *ℤ U' r c ≡ D *ℤ U r c
  pub other_row : (i : ℕ) → i < m → ¬ (i ≡ r) → (c : ℕ) → c < m → g *ℤ U' i c ≡ dot m (a j) (U r) *ℤ U i c -ℤ dot m (a j) (U i) *ℤ U r c
