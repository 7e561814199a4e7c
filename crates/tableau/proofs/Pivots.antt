-- An exchange exists wherever a limit can leave, and can be undone.
use Prim.Native.Nat.{ℕ, suc, ◌*◌, ◌<◌}
use mathlib.Core.Path.{◌≡◌, refl, sym, ap, ap₂, ◌∙◌}
use mathlib.Core.Bool.{cond}
use native.Mathlib.Omega.{arith}
use native.Mathlib.Decide.{ℕ_discrete}
use lib.Dec.{eqb}
use borrow.Author.Tests.{eq-eqb, ne_eqb}
use lib.IntN.{ℤ, pos, ◌-ℤ◌, ◌*ℤ◌, neg_ℤ, *ℤ-zero}
use lib.Signed.{◌<ℤ◌, quot_z}
use Rattle.exact.specs.Vectors.{dot}
use Rattle.exact.specs.Lists.{Positive, Before}
use Rattle.exact.specs.Value.{Value}
use Rattle.exact.specs.Divisors.{Divides, Gcd}
use Rattle.exact.specs.LowestTerms.{every, Lowest}
use Rattle.exact.proofs.Ring.{lin, expand, mul_pos, pos_of_mul}
use Rattle.exact.proofs.Sums.{dot_cong}
use Rattle.exact.proofs.Positive.{pos_cong, pos_not_neg, pos_scale, plus, nil, minus, sign, before_trans, decide}
use Rattle.exact.proofs.Values.{value_lin}
use Rattle.exact.proofs.Exact.{exact_back}
use Rattle.exact.proofs.Divides.{div_pos}
use Rattle.exact.proofs.Gcd.{Bezout, bezout}
use Rattle.exact.proofs.Lowest.{every_entry, over_gcd}
use Rattle.exact.proofs.Finite.{none, one, lowest_of}
use Rattle.tableau.specs.Basis.{Inverse, Among}
use Rattle.tableau.specs.Exchange.{Exchanged, Least, Leaves}
use Rattle.tableau.proofs.Exchange.{exchange, value_pivot, value_other, dot_pivot, dot_other, dot_lin, dot_zero}
use Rattle.tableau.proofs.Points.{above?}
use Rattle.tableau.proofs.Lowest.{lowest_d, lowest_u}

-- The inverse after an exchange, in lowest terms.
pub record Reached (m : ℕ) (a : ℕ → ℕ → ℤ) (β : ℕ → ℕ) (D : ℤ) (U : ℕ → ℕ → ℤ) (r j : ℕ) : Type 0 where
  pub g : ℤ
  pub β' : ℕ → ℕ
  pub D' : ℤ
  pub U' : ℕ → ℕ → ℤ
  pub exchanged : Exchanged m a β D U r j g β' D' U'
  pub lowest : Lowest m D' U'

-- The numbers of an exchange before they are divided.
abbrev pub pivoted : (m : ℕ) (a : ℕ → ℕ → ℤ) (D : ℤ) (U : ℕ → ℕ → ℤ) (r j : ℕ) → ℕ → ℕ → ℤ
pivoted m a D U r j i c = cond (eqb i r) (D *ℤ U r c) (dot m (a j) (U r) *ℤ U i c -ℤ dot m (a j) (U i) *ℤ U r c)

module _ (m : ℕ) (a : ℕ → ℕ → ℤ) (β : ℕ → ℕ) (D : ℤ) (U : ℕ → ℕ → ℤ) (B : Inverse m a β D U) where
  -- Divided by their greatest common divisor, they are the inverse across, in lowest terms.
  pub quotients : (r j : ℕ) → r < m → pos 0 <ℤ dot m (a j) (U r) → (g : ℤ) → Gcd (suc (m * m)) (every m (D *ℤ dot m (a j) (U r)) (pivoted m a D U r j)) g
      → Exchanged m a β D U r j g (λ i. cond (eqb i r) j (β i)) (quot_z (D *ℤ dot m (a j) (U r)) g) (λ i c. quot_z (pivoted m a D U r j i c) g)
      × Lowest m (quot_z (D *ℤ dot m (a j) (U r)) g) (λ i c. quot_z (pivoted m a D U r j i c) g)
  quotients r j l p g h = (
    record {
      inside = l;
      gpos = gpos;
      tpos = p;
      comes = rw (eq-eqb r r refl);
      stays = λ i k d. rw (ne_eqb i r d);
      denominator = over;
      pivot_row = λ c k. rows r c l k ∙ rw (eq-eqb r r refl);
      other_row = λ i k d c q. rows i c k q ∙ rw (ne_eqb i r d);
    },
    over_gcd m (D *ℤ dot m (a j) (U r)) (pivoted m a D U r j) g (quot_z (D *ℤ dot m (a j) (U r)) g) (λ i c. quot_z (pivoted m a D U r j i c) g) positive h over rows,
  )
    where
      positive : pos 0 <ℤ (D *ℤ dot m (a j) (U r))
      positive = mul_pos D (dot m (a j) (U r)) B.dpos p

      gpos : pos 0 <ℤ g
      gpos = div_pos g (D *ℤ dot m (a j) (U r)) h.nonneg positive (h.divides 0 (omega arith))

      over : g *ℤ quot_z (D *ℤ dot m (a j) (U r)) g ≡ D *ℤ dot m (a j) (U r)
      over = exact_back g (D *ℤ dot m (a j) (U r)) gpos (h.divides 0 (omega arith))

      rows : (i c : ℕ) → i < m → c < m → g *ℤ quot_z (pivoted m a D U r j i c) g ≡ pivoted m a D U r j i c
      rows i c k q = exact_back g (pivoted m a D U r j i c) gpos (every_entry (Divides g) m (D *ℤ dot m (a j) (U r)) (pivoted m a D U r j) h.divides i c k q)

  pub exchange_there : (r j : ℕ) → r < m → pos 0 <ℤ dot m (a j) (U r) → Reached m a β D U r j
  exchange_there r j l p = by (bezout (suc (m * m)) (every m (D *ℤ dot m (a j) (U r)) (pivoted m a D U r j)))
    where
      by : Bezout (suc (m * m)) (every m (D *ℤ dot m (a j) (U r)) (pivoted m a D U r j)) → Reached m a β D U r j
      by e = let (x, low) = quotients r j l p e.g e.is_gcd in
          record { g = e.g; β' = λ i. cond (eqb i r) j (β i); D' = quot_z (D *ℤ dot m (a j) (U r)) e.g; U' = λ i c. quot_z (pivoted m a D U r j i c) e.g; exchanged = x; lowest = low }

  -- Where some row has T_qj > 0, a limit leaves, and only one.
  pub leaving_there : (w : ℕ) (V : (ℕ → ℤ) → ℕ → ℤ) (j q : ℕ) → q < m → pos 0 <ℤ dot m (a j) (U q) → (r : ℕ) × Leaves m a w V U j r
  leaving_there w V j q l p = elim (lowest_of (λ i. pos 0 <ℤ dot m (a j) (U i)) (λ i k. Before w (V (U k)) (dot m (a j) (U k)) (V (U i)) (dot m (a j) (U i)))
      (λ i. above? (dot m (a j) (U i))) (λ i k. decide w _) not_self (λ i k s pi pk ps u v. before_trans w _ _ _ _ _ _ ps pk pi v u) m) [
        | none f ↦ absurd (f q l p)
        | one r k pr f ↦ (r, record { inside = k; above = pr; least = λ s ls d ps u. f s ls ps u })
      ]
    where
      not_self : (i : ℕ) → pos 0 <ℤ dot m (a j) (U i) → Before w (V (U i)) (dot m (a j) (U i)) (V (U i)) (dot m (a j) (U i)) → ⊥
      not_self i g u = omega (arith, lin, u.lead)

  pub leaving_one : (w : ℕ) (V : (ℕ → ℤ) → ℕ → ℤ) (L : Value m w V) (j r s : ℕ) → Leaves m a w V U j r → Leaves m a w V U j s → r ≡ s
  leaving_one w V L j r s fr fs = at r s fr.inside fs.inside fr.above fs.above fr.least fs.least
    where
      at : (r s : ℕ) → r < m → s < m → pos 0 <ℤ dot m (a j) (U r) → pos 0 <ℤ dot m (a j) (U s) → Least m a w V U r j → Least m a w V U s j → r ≡ s
      at r s lr ls pr ps fr fs = elim (ℕ_discrete s r) [
        | yes e ↦ sym e
        | no d ↦ elim (sign w (λ i. dot m (a j) (U s) *ℤ V (U r) i -ℤ dot m (a j) (U r) *ℤ V (U s) i)) [
          | plus p ↦ absurd (fr s ls d ps p)
          | minus p ↦ absurd (fs r lr (λ e. d (sym e)) pr (pos_cong w _ _ (λ i k. omega (arith, lin)) p))
          | nil z ↦
              let e : dot m (a (β r)) (λ c. dot m (a j) (U s) *ℤ U r c -ℤ dot m (a j) (U r) *ℤ U s c) ≡ pos 0 = dot_cong m (a (β r)) _ (λ c. pos 0) (L.faithful _ (λ i k. value_lin m w V L (dot m (a j) (U s)) (dot m (a j) (U r)) (U r) (U s) i k ∙ z i k)) ∙ dot_zero m (a (β r)) in
              absurd (omega (arith, lin, e, dot_lin m (a (β r)) (dot m (a j) (U s)) (dot m (a j) (U r)) (U r) (U s), ap (λ z. dot m (a j) (U s) *ℤ z) (B.left_same r lr), ap (λ z. dot m (a j) (U r) *ℤ z) (B.left_other s r ls lr d), *ℤ-zero (dot m (a j) (U r)), mul_pos (dot m (a j) (U s)) D ps B.dpos))
        ]
      ]

back_by : (g D t T T' t' x y x' y' : ℤ) → g *ℤ T' ≡ neg_ℤ (T *ℤ D) → g *ℤ t' ≡ D *ℤ D → g *ℤ x' ≡ D *ℤ x → g *ℤ y' ≡ t *ℤ y -ℤ T *ℤ x
    → (g *ℤ g) *ℤ (T' *ℤ x' -ℤ t' *ℤ y') ≡ neg_ℤ ((D *ℤ D *ℤ t) *ℤ y)
back_by g D t T T' t' x y x' y' e₁ e₂ e₃ e₄ = regroup g T' x' t' y' ∙ ap₂ ◌-ℤ◌ (ap₂ ◌*ℤ◌ e₁ e₃) (ap₂ ◌*ℤ◌ e₂ e₄) ∙ finish D t T x y
  where
    regroup : (g T x t y : ℤ) → (g *ℤ g) *ℤ (T *ℤ x -ℤ t *ℤ y) ≡ (g *ℤ T) *ℤ (g *ℤ x) -ℤ (g *ℤ t) *ℤ (g *ℤ y)
    regroup g T x t y = simp expand (omega (arith, lin))

    finish : (D t T x y : ℤ) → neg_ℤ (T *ℤ D) *ℤ (D *ℤ x) -ℤ (D *ℤ D) *ℤ (t *ℤ y -ℤ T *ℤ x) ≡ neg_ℤ ((D *ℤ D *ℤ t) *ℤ y)
    finish D t T x y = simp expand (omega (arith, lin))

module _ (m : ℕ) (a : ℕ → ℕ → ℤ) (β : ℕ → ℕ) (D : ℤ) (U : ℕ → ℕ → ℤ) (r j : ℕ) (g : ℤ) (β' : ℕ → ℕ) (D' : ℤ) (U' : ℕ → ℕ → ℤ)
    (B : Inverse m a β D U) (X : Exchanged m a β D U r j g β' D' U') where
  back_t : g *ℤ dot m (a (β r)) (U' r) ≡ D *ℤ D
  back_t = dot_pivot m a β D U r j g β' D' U' B X (a (β r)) ∙ ap (λ z. D *ℤ z) (B.left_same r X.inside)

  -- The limit that left can enter again where it left.
  pub back_positive : pos 0 <ℤ dot m (a (β r)) (U' r)
  back_positive = pos_of_mul (dot m (a (β r)) (U' r)) g X.gpos (rw back_t (mul_pos D D B.dpos B.dpos))

  back_T : (s : ℕ) → s < m → ¬ (s ≡ r) → g *ℤ dot m (a (β r)) (U' s) ≡ neg_ℤ (dot m (a j) (U s) *ℤ D)
  back_T s l d = dot_other m a β D U r j g β' D' U' B X (a (β r)) s l d
      ∙ omega (arith, lin, ap (λ z. dot m (a j) (U r) *ℤ z) (B.left_other s r l X.inside d), *ℤ-zero (dot m (a j) (U r)), ap (λ z. dot m (a j) (U s) *ℤ z) (B.left_same r X.inside))

  -- And there has the least ratio.
  pub back_leaves : (w : ℕ) (V : (ℕ → ℤ) → ℕ → ℤ) (L : Value m w V) → ((s : ℕ) → s < m → Positive w (V (U s))) → Leaves m a w V U' (β r) r
  back_leaves w V L rows = record {
    inside = X.inside;
    above = back_positive;
    least = λ s l d p u. pos_not_neg w _ (pos_scale w (D *ℤ D *ℤ dot m (a j) (U r)) _ (mul_pos (D *ℤ D) (dot m (a j) (U r)) (mul_pos D D B.dpos B.dpos) X.tpos) (rows s l))
        (pos_cong w _ _ (λ i k. back_by g D (dot m (a j) (U r)) (dot m (a j) (U s)) (dot m (a (β r)) (U' s)) (dot m (a (β r)) (U' r)) (V (U r) i) (V (U s) i) (V (U' r) i) (V (U' s) i)
        (back_T s l d) back_t (value_pivot m a β D U r j g β' D' U' B X w V L i k) (value_other m a β D U r j g β' D' U' B X w V L s l d i k))
        (pos_scale w (g *ℤ g) _ (mul_pos g g X.gpos X.gpos) u));
  }

  -- Each exchange there leads back to the old limits, in the old places.
  pub back_limits : (g'' : ℤ) (β'' : ℕ → ℕ) (D'' : ℤ) (U'' : ℕ → ℕ → ℤ) → Exchanged m a β' D' U' r (β r) g'' β'' D'' U'' → (s : ℕ) → s < m → β'' s ≡ β s
  back_limits g'' β'' D'' U'' Y s l = elim (ℕ_discrete s r) [ yes e ↦ rw e Y.comes | no d ↦ Y.stays s l d ∙ X.stays s l d ]

  -- And in lowest terms to the old inverse.
  pub back : Lowest m D U → (g'' : ℤ) × Exchanged m a β' D' U' r (β r) g'' β D U
  back low = by (exchange_there m a β' D' U' (exchange m a β D U r j g β' D' U' B X) r (β r) X.inside back_positive)
    where
      by : Reached m a β' D' U' r (β r) → (g'' : ℤ) × Exchanged m a β' D' U' r (β r) g'' β D U
      by e =
          let Y = e.exchanged in
          let limits : (s : ℕ) → s < m → e.β' s ≡ β s = back_limits e.g e.β' e.D' e.U' Y in
          let C : Inverse m a e.β' e.D' e.U' = exchange m a β' D' U' r (β r) e.g e.β' e.D' e.U' (exchange m a β D U r j g β' D' U' B X) Y in
          let among : Among m β e.β' = λ s l. (s, l, limits s l) in
          let sameD : D ≡ e.D' = lowest_d m a β D U B e.β' e.D' e.U' C among low e.lowest in
          let sameU : (s : ℕ) → s < m → (c : ℕ) → c < m → e.U' s c ≡ U s c = λ s l. lowest_u m a β D U B e.β' e.D' e.U' C among low e.lowest s s l l (limits s l) in (
            e.g,
            record {
              inside = X.inside;
              gpos = Y.gpos;
              tpos = Y.tpos;
              comes = refl;
              stays = λ i l d. sym (X.stays i l d);
              denominator = ap (λ z. e.g *ℤ z) sameD ∙ Y.denominator;
              pivot_row = λ c k. ap (λ z. e.g *ℤ z) (sym (sameU r X.inside c k)) ∙ Y.pivot_row c k;
              other_row = λ i l d c k. ap (λ z. e.g *ℤ z) (sym (sameU i l c k)) ∙ Y.other_row i l d c k;
            },
          )
