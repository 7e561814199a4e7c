-- Limits of a basis and their unit right sides; what willingness says of the slacks.
use Prim.Native.Nat.{ℕ, zero, suc, ◌<◌}
use mathlib.Core.Path.{◌≡◌, refl, sym, ◌∙◌, subst}
use mathlib.Core.Logic.{◌⊎◌, inl, inr}
use mathlib.Core.Bool.{Bool, true, false}
use native.Mathlib.Omega.{arith}
use native.Mathlib.Decide.{ℕ_discrete}
use lib.Dec.{T, eqb, eqb→eq, eqb_refl}
use lib.IntN.{ℤ, pos, ◌-ℤ◌, ◌*ℤ◌, neg_ℤ, zero-*ℤ, *ℤ-zero}
use lib.Signed.{◌<ℤ◌}
use Rattle.exact.specs.Vectors.{sum, dot}
use Rattle.exact.specs.Lists.{Positive}
use Rattle.exact.proofs.Ring.{lin, one-*}
use Rattle.exact.proofs.Sums.{sum_zero, sum_at}
use Rattle.tableau.specs.Basis.{Inverse}
use Rattle.tableau.specs.Points.{point, slack, unit, sides, Willing, negative, tied}
use Rattle.tableau.proofs.Simplex.{dot_point}

pub unit_by : (l i : ℕ) (t : Bool) → eqb l i ≡ t → ((l ≡ i) × (unit l i ≡ pos 1)) ⊎ (unit l i ≡ pos 0)
unit_by l i true e = inl (eqb→eq l i (subst T (sym e) tt), rw e)
unit_by l i false e = inr (rw e)

is_true : (t : Bool) → T t → t ≡ true
is_true true h = refl
is_true false h = absurd h

pub unit_same : (l : ℕ) → unit l l ≡ pos 1
unit_same l = rw (is_true (eqb l l) (eqb_refl l))

pub unit_other : (l i : ℕ) → ¬ (l ≡ i) → unit l i ≡ pos 0
unit_other l i d = elim (unit_by l i (eqb l i) refl) [ inl e ↦ absurd (d e.0) | inr e ↦ e ]

-- A sum against the unit vector of k.
pub sum_unit : (n k : ℕ) (f : ℕ → ℤ) → k < n → sum n (λ l. unit k l *ℤ f l) ≡ f k
sum_unit n k f l = sum_at n k _ l (λ i q d. rw (unit_other k i (λ e. d (sym e))) (zero-*ℤ (f i))) ∙ rw (unit_same k) (one-* (f k))

module _ (m : ℕ) (a : ℕ → ℕ → ℤ) (β : ℕ → ℕ) (D : ℤ) (U : ℕ → ℕ → ℤ) (B : Inverse m a β D U) where
  -- The limits of a basis are different.
  pub injective : (s q : ℕ) → s < m → q < m → β s ≡ β q → s ≡ q
  injective s q ls lq e = elim (ℕ_discrete s q) [
    | yes d ↦ d
    | no d ↦ absurd (omega (arith, lin, B.dpos, B.left_same q lq, rw e at (B.left_other q s lq ls (λ f. d (sym f)))))
  ]

  pub at_unit : (q : ℕ) → q < m → (f : ℕ → ℤ) → sum m (λ s. unit (β q) (β s) *ℤ f s) ≡ f q
  at_unit q l f = sum_at m q _ l (λ s k d. rw (unit_other (β q) (β s) (λ e. d (injective s q k l (sym e)))) (zero-*ℤ (f s))) ∙ rw (unit_same (β q)) (one-* (f q))

  pub off_unit : (l : ℕ) (f : ℕ → ℤ) → ((s : ℕ) → s < m → l ≡ β s → f s ≡ pos 0) → sum m (λ s. unit l (β s) *ℤ f s) ≡ pos 0
  off_unit l f z = sum_zero m _ (λ s k. elim (unit_by l (β s) (eqb l (β s)) refl) [
    | inl e ↦ rw (z s k e.0) (*ℤ-zero (unit l (β s)))
    | inr e ↦ rw e (zero-*ℤ (f s))
  ])

  -- The solution for the right sides that are 1 at l alone: the row of a limit of the basis, and 0 for another limit.
  pub table_in : (q : ℕ) → q < m → (c : ℕ) → point m β U (unit (β q)) c ≡ U q c
  table_in q l c = at_unit q l (λ s. U s c)

  pub table_out : (l : ℕ) → ((s : ℕ) → s < m → ¬ (l ≡ β s)) → (c : ℕ) → point m β U (unit l) c ≡ pos 0
  table_out l n c = off_unit l (λ s. U s c) (λ s k e. absurd (n s k e))

  -- The first nonzero slack of a willing limit is negative.
  pub begins : (h : ℕ → ℤ) (n j : ℕ) → j < n → Willing m a β U (slack m a β D U h j) j
      → Positive (suc n) (λ l. neg_ℤ (D *ℤ sides h l j -ℤ dot m (a j) (point m β U (sides h l))))
  begins h n j l (negative k) = record { place = 0; inside = omega arith; zeros = λ i k. absurd (omega arith); lead = omega (arith, lin) }
  begins h n j l (tied e q lq lj tp z) = record { place = suc (β q); inside = omega arith; zeros = zs; lead = ld }
    where
      ld : pos 0 <ℤ neg_ℤ (D *ℤ unit (β q) j -ℤ dot m (a j) (point m β U (unit (β q))))
      ld = let e₁ : D *ℤ unit (β q) j ≡ pos 0 = rw (unit_other (β q) j (omega arith)) (*ℤ-zero D) in
          omega (arith, lin, dot_point m a β D U B (a j) (unit (β q)), at_unit q lq (λ s. dot m (a j) (U s)))

      zs : (i : ℕ) → i < suc (β q) → neg_ℤ (D *ℤ sides h i j -ℤ dot m (a j) (point m β U (sides h i))) ≡ pos 0
      zs zero k = omega (arith, lin)
      zs (suc i) k = let e₁ : D *ℤ unit i j ≡ pos 0 = rw (unit_other i j (omega arith)) (*ℤ-zero D) in
          omega (arith, lin, dot_point m a β D U B (a j) (unit i), off_unit i (λ s. dot m (a j) (U s)) (λ s ls f. z s ls (omega arith)))
