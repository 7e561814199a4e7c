-- Which limits are willing can be decided, and at one reading no two corners have no willing limit.
use Prim.Native.Nat.{ℕ, zero, suc, ◌+◌, ◌*◌, ◌/◌, ◌%◌, ◌<◌}
use mathlib.Core.Path.{◌≡◌, refl, sym, ap, ap₂, ◌∙◌, subst}
use mathlib.Core.Logic.{◌⊎◌, inl, inr}
use mathlib.Core.Bool.{Bool, true, false}
use native.Mathlib.Omega.{arith}
use native.Mathlib.Nat as NatL
use native.Mathlib.Decide.{ℕ_discrete, dec_lt}
use borrow.Author.Tests.{both_ways}
use lib.IntN.{ℤ, pos, ◌-ℤ◌, ◌*ℤ◌, neg_ℤ, zero-*ℤ, *ℤ-zero, *ℤ_comm}
use lib.Signed.{◌<ℤ◌, ◌≤ℤ◌}
use lib.Arith.{digits_lt, digits_div, digits_mod}
use lib.Dec.{eqb}
use Rattle.exact.specs.Vectors.{sum, dot}
use Rattle.exact.specs.Lists.{Positive}
use Rattle.exact.specs.EndToEnd.{PositiveEndToEnd}
use Rattle.exact.specs.Value.{Value}
use Rattle.exact.proofs.Ring.{lin, one-*, mul_nonneg, mul_pos}
use Rattle.exact.proofs.Sums.{sum_zero, sum_mix}
use Rattle.exact.proofs.Positive.{pos_cong, pos_not_neg, pos-+, pos_scale, plus, nil, minus, sign}
use Rattle.exact.proofs.Values.{value_comb}
use Rattle.exact.proofs.EndToEnd.{flat}
use Rattle.tableau.specs.Basis.{Inverse, Among}
use Rattle.tableau.specs.Points.{point, slack, unit, sides, Willing, negative, tied, standing}
use Rattle.tableau.specs.Masks.{holds}
use Rattle.tableau.specs.Corner.{Corner, Falls}
use Rattle.tableau.proofs.Simplex.{value_spread, dot_point}
use Rattle.tableau.proofs.Willing.{unit_by, unit_same, unit_other, begins, at_unit, off_unit}
use Rattle.tableau.proofs.Unique.{meets}
use Rattle.tableau.proofs.Count.{holds_in, holds_out}
use Rattle.tableau.proofs.Lowest.{among_back}
use Rattle.tableau.proofs.Runs.{falls_trans, same_stands}

-- All zeros, or positive.
abbrev pub NonNeg : ℕ → (ℕ → ℤ) → Type 0
NonNeg w f = ((i : ℕ) → i < w → f i ≡ pos 0) ⊎ Positive w f

-- A sum of such lists: all of them zeros, or positive.
pub sum_nonneg : (w n : ℕ) (F : ℕ → ℕ → ℤ) → ((r : ℕ) → r < n → NonNeg w (F r)) → ((r : ℕ) → r < n → (i : ℕ) → i < w → F r i ≡ pos 0) ⊎ Positive w (λ i. sum n (λ r. F r i))
unfolding sum
sum_nonneg w zero F h = inl (λ r l. absurd (omega arith))
sum_nonneg w (suc n) F h = elim (sum_nonneg w n F (λ r l. h r (omega arith))) [
  | inl z ↦ elim (h n (omega arith)) [
    | inl y ↦ inl (λ r l i k. elim (ℕ_discrete r n) [ yes e ↦ rw e (y i k) | no d ↦ z r (omega arith) i k ])
    | inr p ↦ inr (pos_cong w _ _ (λ i k. omega (arith, lin, sum_zero n (λ r. F r i) (λ r l. z r l i k))) p)
  ]
  | inr p ↦ elim (h n (omega arith)) [
    | inl y ↦ inr (pos_cong w _ _ (λ i k. omega (arith, lin, y i k)) p)
    | inr q ↦ inr (pos-+ w _ _ p q)
  ]
]

outer_pos : (n w : ℕ) (ρ u : ℕ → ℤ) → Positive n ρ → Positive w u → PositiveEndToEnd n w (λ l c. ρ l *ℤ u c)
outer_pos n w ρ u p q = record { row = p.place; among = p.inside; blank = λ i l c k. rw (p.zeros i l) (zero-*ℤ (u c)); first = pos_scale w (ρ p.place) u p.lead q }

outer_nonneg : (n w : ℕ) (ρ u : ℕ → ℤ) → 0 < w → NonNeg n ρ → Positive w u → NonNeg (n * w) (λ k. ρ (k / w) *ℤ u (k % w))
outer_nonneg n w ρ u pw (inl z) q = inl (λ k l. rw (z (k / w) ((NatL.div-lt_iff_lt-mul {k = w} {x = k} {y = n} pw).1 l)) (zero-*ℤ (u (k % w))))
outer_nonneg n w ρ u pw (inr p) q = inr (flat n w _ (outer_pos n w ρ u p q))

module _ (m : ℕ) (a : ℕ → ℕ → ℤ) (β : ℕ → ℕ) (D : ℤ) (U : ℕ → ℕ → ℤ) (B : Inverse m a β D U) where
  pub slack_in : (H : ℕ → ℕ → ℤ) (q : ℕ) → q < m → (l : ℕ) → slack m a β D U (H l) (β q) ≡ pos 0
  slack_in H q k l = omega (arith, lin, meets m a β D U B (H l) q k)

  -- The slacks of a limit outside the basis for the unit right sides: -T_qj at the limit of row q, D at j itself, 0 elsewhere.
  pub slack_at : (h : ℕ → ℤ) (j q : ℕ) → q < m → ¬ (β q ≡ j) → slack m a β D U (sides h (suc (β q))) j ≡ neg_ℤ (dot m (a j) (U q))
  slack_at h j q l d = omega (arith, lin, dot_point m a β D U B (a j) (unit (β q)), at_unit m a β D U B q l (λ s. dot m (a j) (U s)), ap (λ z. D *ℤ z) (unit_other (β q) j d), *ℤ-zero D)

  pub slack_off : (h : ℕ → ℤ) (j l : ℕ) → ((s : ℕ) → s < m → ¬ (β s ≡ l)) → slack m a β D U (sides h (suc l)) j ≡ D *ℤ unit l j
  slack_off h j l out = omega (arith, lin, dot_point m a β D U B (a j) (unit l), off_unit m a β D U B l (λ s. dot m (a j) (U s)) (λ s k e. absurd (out s k (sym e))))

  pub slack_own : (h : ℕ → ℤ) (j : ℕ) → ((s : ℕ) → s < m → ¬ (β s ≡ j)) → slack m a β D U (sides h (suc j)) j ≡ D
  slack_own h j out = slack_off h j j out ∙ rw (unit_same j) (*ℤ_comm D (pos 1) ∙ one-* D)

  unit_nonneg : (l i : ℕ) → pos 0 ≤ℤ unit l i
  unit_nonneg l i = elim (unit_by l i (eqb l i) refl) [ inl e ↦ omega (arith, lin, e.1) | inr e ↦ omega (arith, lin) ]

  -- A limit whose first nonzero slack is negative is willing.
  pub willing_back : (h : ℕ → ℤ) (n j : ℕ) → Positive (suc n) (λ l. neg_ℤ (slack m a β D U (sides h l) j)) → Willing m a β U (slack m a β D U h j) j
  willing_back h n j p = at p.place p.zeros p.lead
    where
      inside_not : (l : ℕ) → pos 0 <ℤ neg_ℤ (slack m a β D U (sides h l) j) → (s : ℕ) → s < m → ¬ (β s ≡ j)
      inside_not l g s k e = omega (arith, lin, subst (λ j. slack m a β D U (sides h l) j ≡ pos 0) e (slack_in (sides h) s k l))

      found : (q : ℕ) → q < m → ((i : ℕ) → i < suc (β q) → neg_ℤ (slack m a β D U (sides h i) j) ≡ pos 0) → pos 0 <ℤ neg_ℤ (slack m a β D U (sides h (suc (β q))) j) → Willing m a β U (slack m a β D U h j) j
      found q lq z g =
          let out : (s : ℕ) → s < m → ¬ (β s ≡ j) = inside_not (suc (β q)) g in
          let z₀ : D *ℤ h j ≡ dot m (a j) (point m β U h) = omega (arith, lin, z 0 (omega arith)) in
          let d : ¬ (β q ≡ j) = out q lq in
          let up : β q < j = elim (dec_lt (β q) j) [ yes y ↦ y | no x ↦ absurd (omega (arith, lin, z (suc j) (omega arith), slack_own h j out, B.dpos)) ] in
          tied (omega (arith, lin, z₀)) q lq up (omega (arith, lin, g, slack_at h j q lq d)) (λ s ls k. omega (arith, lin, z (suc (β s)) (omega arith), slack_at h j s ls (out s ls)))

      at : (l : ℕ) → ((i : ℕ) → i < l → neg_ℤ (slack m a β D U (sides h i) j) ≡ pos 0) → pos 0 <ℤ neg_ℤ (slack m a β D U (sides h l) j) → Willing m a β U (slack m a β D U h j) j
      at zero z g = negative (omega (arith, lin))
      at (suc l) z g = by (holds m β l) refl
        where
          by : (t : Bool) → holds m β l ≡ t → Willing m a β U (slack m a β D U h j) j
          by true e = let (q, lq, f) = holds_out m β l e in found q lq (λ i k. z i (omega arith)) (rw (sym f) at g)
          by false e = absurd (omega (arith, lin, g, slack_off h j l (λ s k f. both_ways (holds m β l) e (ap (holds m β) (sym f) ∙ holds_in m β s k)), mul_nonneg D (unit l j) (omega (arith, lin, B.dpos)) (unit_nonneg l j)))

  pub willing? : (h : ℕ → ℤ) (n j : ℕ) → j < n → Dec (Willing m a β U (slack m a β D U h j) j)
  willing? h n j l = elim (sign (suc n) (λ l. slack m a β D U (sides h l) j)) [
    | minus p ↦ yes (willing_back h n j p)
    | plus p ↦ no (λ v. pos_not_neg (suc n) _ p (begins m a β D U B h n j l v))
    | nil z ↦ no (λ v. let q = begins m a β D U B h n j l v in omega (arith, lin, q.lead, z q.place q.inside))
  ]

  pub unwilling : (h : ℕ → ℤ) (n j : ℕ) → ¬ Willing m a β U (slack m a β D U h j) j → NonNeg (suc n) (λ l. slack m a β D U (sides h l) j)
  unwilling h n j w = elim (sign (suc n) (λ l. slack m a β D U (sides h l) j)) [ plus p ↦ inr p | nil z ↦ inl z | minus p ↦ absurd (w (willing_back h n j p)) ]

module _ (m n : ℕ) (a : ℕ → ℕ → ℤ) (w : ℕ) (V : (ℕ → ℤ) → ℕ → ℤ) (L : Value m w V) where
  -- D' V(P) - D V(P') is a sum of products of the slacks at the other basis and the own rows.
  gap : (H : ℕ → ℕ → ℤ) (X Y : Corner m n a w V) (k : ℕ)
      → sum m (λ r. slack m a Y.β Y.D Y.U (H (k / w)) (X.β r) *ℤ V (X.U r) (k % w)) ≡ Y.D *ℤ standing m w V X.β X.U H k -ℤ X.D *ℤ standing m w V Y.β Y.U H k
  gap H X Y k =
      let l = k / w in
      let i = k % w in
      let q : i < w = NatL.mod-lt k {m = w} L.wide in
      omega (
        arith,
        lin,
        value_spread m a X.β X.D X.U X.inverse w V L (point m Y.β Y.U (H l)) i q,
        ap (λ z. Y.D *ℤ z) (value_comb m w V L m (λ r. H l (X.β r)) X.U i q),
        sum_mix m Y.D (λ r. H l (X.β r)) (λ r. dot m (a (X.β r)) (point m Y.β Y.U (H l))) (λ r. V (X.U r) i),
      )

  -- X has the limits of Y, or Y stands below X.
  apart : (h : ℕ → ℤ) (X Y : Corner m n a w V) → ((j : ℕ) → j < n → ¬ Willing m a Y.β Y.U (slack m a Y.β Y.D Y.U h j) j) → Among m X.β Y.β ⊎ Falls m n a w V (suc n) (sides h) X Y
  apart h X Y none_willing = elim (sum_nonneg (suc n * w) m (λ r k. slack m a Y.β Y.D Y.U (sides h (k / w)) (X.β r) *ℤ V (X.U r) (k % w))
      (λ r l. outer_nonneg (suc n) w _ _ L.wide (unwilling m a Y.β Y.D Y.U Y.inverse h n (X.β r) (none_willing (X.β r) (X.known r l))) (X.rows r l))) [
        | inl z ↦ inl (λ r l. by r l (holds m Y.β (X.β r)) refl (X.rows r l).place (X.rows r l).inside (X.rows r l).lead (z r l))
        | inr p ↦ inr (pos_cong (suc n * w) _ _ (λ k l. gap (sides h) X Y k) p)
      ]
    where
      by : (r : ℕ) → r < m → (t : Bool) → holds m Y.β (X.β r) ≡ t → (i : ℕ) → i < w → pos 0 <ℤ V (X.U r) i
          → ((k : ℕ) → k < suc n * w → slack m a Y.β Y.D Y.U (sides h (k / w)) (X.β r) *ℤ V (X.U r) (k % w) ≡ pos 0) → (s : ℕ) × (s < m) × (Y.β s ≡ X.β r)
      by r l true e i q g z = holds_out m Y.β (X.β r) e
      by r l false e i q g z =
          let j = X.β r in
          let own : slack m a Y.β Y.D Y.U (sides h (suc j)) j ≡ Y.D = slack_own m a Y.β Y.D Y.U Y.inverse h j (λ s k f. both_ways (holds m Y.β j) e (ap (holds m Y.β) (sym f) ∙ holds_in m Y.β s k)) in
          let zero_at : slack m a Y.β Y.D Y.U (sides h (suc j)) j *ℤ V (X.U r) i ≡ pos 0 =
          ap₂ (λ u v. slack m a Y.β Y.D Y.U (sides h u) j *ℤ V (X.U r) v) (sym (digits_div (suc j) q)) (sym (digits_mod (suc j) q)) ∙ z (suc j * w + i) (digits_lt (omega (arith, X.known r l)) q) in
          absurd (omega (arith, lin, mul_pos Y.D (V (X.U r) i) Y.inverse.dpos g, zero_at, ap (λ k. k *ℤ V (X.U r) i) own))

  -- At one h, corners with no willing limit have the same limits.
  pub one_unwilling_corner : (h : ℕ → ℤ) (X Y : Corner m n a w V) → ((j : ℕ) → j < n → ¬ Willing m a X.β X.U (slack m a X.β X.D X.U h j) j) → ((j : ℕ) → j < n → ¬ Willing m a Y.β Y.U (slack m a Y.β Y.D Y.U h j) j) → Among m X.β Y.β
  one_unwilling_corner h X Y wX wY = elim (apart h X Y wY) [
    | inl s ↦ s
    | inr p ↦ elim (apart h Y X wX) [
      | inl s ↦ among_back m a Y.β Y.D Y.U Y.inverse X.β X.D X.U X.inverse s
      | inr q ↦ absurd (same_stands m n a w V L (suc n) (sides h) X X (λ r l. (r, l, refl)) (falls_trans m n a w V L (suc n) (sides h) X Y X p q))
    ]
  ]
