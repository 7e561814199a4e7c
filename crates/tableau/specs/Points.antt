-- What a basis with the inverse U / D makes of right sides h: limit j allows h j.
use Rattle.std.specs.Prelude.{ℕ, zero, suc, ◌/◌, ◌%◌, ◌<◌, ◌≡◌, cond, eqb, ℤ, pos, ◌-ℤ◌, ◌*ℤ◌, ◌<ℤ◌}
use Rattle.exact.specs.Vectors.{sum, dot}

-- D times the solution at which every limit of the basis is met exactly: the sum of h (β r) U r.
abbrev pub point : ℕ → (ℕ → ℕ) → (ℕ → ℕ → ℤ) → (ℕ → ℤ) → ℕ → ℤ
point m β U h c = sum m (λ r. h (β r) *ℤ U r c)

-- D times what the solution leaves of limit j: its slack, or reduced cost.
abbrev pub slack : (m : ℕ) (a : ℕ → ℕ → ℤ) (β : ℕ → ℕ) (D : ℤ) (U : ℕ → ℕ → ℤ) (h : ℕ → ℤ) (j : ℕ) → ℤ
slack m a β D U h j = D *ℤ h j -ℤ dot m (a j) (point m β U h)

-- 1 at l, else 0.
abbrev pub unit : ℕ → ℕ → ℤ
unit l i = cond (eqb l i) (pos 1) (pos 0)

-- The right sides h, and then one list of right sides for each limit, with 1 at that limit.
abbrev pub sides : (ℕ → ℤ) → ℕ → ℕ → ℤ
sides h zero = h
sides h (suc l) = unit l

-- Limit j, whose slack is z, is willing to enter when z is negative, or is 0 and, of the limits below j in the basis with T_rj ≠ 0, the least has T_rj > 0.
pub data Willing (m : ℕ) (a : ℕ → ℕ → ℤ) (β : ℕ → ℕ) (U : ℕ → ℕ → ℤ) (z : ℤ) (j : ℕ) : Type 0 where
  negative : z <ℤ pos 0 → Willing m a β U z j
  tied : z ≡ pos 0 → (q : ℕ) → q < m → β q < j → pos 0 <ℤ dot m (a j) (U q)
      → ((s : ℕ) → s < m → β s < β q → dot m (a j) (U s) ≡ pos 0) → Willing m a β U z j

-- The value lists of the solutions for the right sides H 0, H 1, .., laid end to end.
abbrev pub standing : ℕ → ℕ → ((ℕ → ℤ) → ℕ → ℤ) → (ℕ → ℕ) → (ℕ → ℕ → ℤ) → (ℕ → ℕ → ℤ) → ℕ → ℤ
standing m w V β U H k = V (point m β U (H (k / w))) (k % w)
