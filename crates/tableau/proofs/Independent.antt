-- Independent columns have an inverse: they enter the unit matrix one after another.
use Prim.Native.Nat.{ℕ, zero, suc, ◌+◌, ◌<◌, ◌≤◌}
use mathlib.Core.Path.{◌≡◌, refl, sym, ap, ◌∙◌}
use mathlib.Core.Logic.{inl, inr}
use mathlib.Core.Bool.{cond}
use native.Mathlib.Omega.{arith}
use native.Mathlib.Decide.{ℕ_discrete, dec_le, dec_lt}
use lib.Dec.{eqb}
use borrow.Author.Tests.{eq-eqb, ne_eqb}
use lib.IntN.{ℤ, pos, negsuc, ◌-ℤ◌, ◌*ℤ◌, zero-*ℤ, *ℤ_comm}
use lib.Signed.{◌<ℤ◌}
use Rattle.exact.specs.Vectors.{sum, dot}
use Rattle.exact.proofs.Ring.{lin, expand, one-*, below, same, above, order}
use Rattle.exact.proofs.Sums.{sum_cong, dot_scale}
use Rattle.exact.proofs.Finite.{any_below}
use Rattle.tableau.specs.Basis.{Inverse}
use Rattle.tableau.specs.Points.{unit}
use Rattle.tableau.specs.Artificial.{diag, sign_of}
use Rattle.tableau.proofs.Simplex.{dual_spread}
use Rattle.tableau.proofs.Exchange.{exchange, sum_lin}
use Rattle.tableau.proofs.Willing.{unit_same, sum_unit}
use Rattle.tableau.proofs.Artificial.{first_basis, sign_ones}
use Rattle.tableau.proofs.Permuted.{permuted, swap, first, second, other, swap_is, swap_permutes, own_columns, signed}
use Rattle.tableau.proofs.Pivots.{exchange_there}

sign_positive : (t : ℤ) → ¬ (t ≡ pos 0) → pos 0 <ℤ (sign_of t *ℤ t)
sign_positive (pos zero) n = absurd (n refl)
sign_positive (pos (suc k)) n = omega (arith, lin)
sign_positive (negsuc k) n = omega (arith, lin)

zero? : (x : ℤ) → Dec (x ≡ pos 0)
zero? x = elim (order x (pos 0)) [ below l ↦ no (λ e. omega (arith, lin)) | same e ↦ yes e | above l ↦ no (λ e. omega (arith, lin)) ]

-- An inverse whose first s columns are those of b.
record Partly (m : ℕ) (b : ℕ → ℕ → ℤ) (s : ℕ) : Type 0 where
  A : ℕ → ℕ → ℤ
  D : ℤ
  U : ℕ → ℕ → ℤ
  inverse : Inverse m A (λ r. r) D U
  placed : (r c : ℕ) → r < s → c < m → A r c ≡ b r c

start : (m : ℕ) (b : ℕ → ℕ → ℤ) → Partly m b 0
start m b = record {
  A = λ r. diag (λ c. pos 1) r;
  D = pos 1;
  U = diag (λ c. pos 1);
  inverse = own_columns m (diag (λ c. pos 1)) (diag (λ c. pos 1)) (λ i. 0 + i) (λ r. r) (pos 1) (diag (λ c. pos 1)) (λ r c l k. let e : 0 + r ≡ r = omega arith in rw e)
      (first_basis m 0 (diag (λ c. pos 1)) (λ c. pos 1) (λ i l c k. let e : 0 + i ≡ i = omega arith in rw e) (λ i l. refl));
  placed = λ r c l. absurd (omega arith);
}

module _ (m : ℕ) (b : ℕ → ℕ → ℤ) (independent : (k : ℕ → ℤ) → ((c : ℕ) → c < m → sum m (λ r. k r *ℤ b r c) ≡ pos 0) → (r : ℕ) → r < m → k r ≡ pos 0) where
  -- The next column has an entry other than 0 in a row that is not placed.
  found : (s : ℕ) → s < m → (P : Partly m b s) → (q : ℕ) × (q < m) × (s ≤ q) × ¬ (dot m (b s) (P.U q) ≡ pos 0)
  found s ls P = elim (any_below m (λ q. (s ≤ q) × ¬ (T q ≡ pos 0)) test) [
    | inl (q, l, (k, n)) ↦ (q, l, k, n)
    | inr f ↦ absurd (none (λ r l k. elim (zero? (T r)) [ yes e ↦ e | no n ↦ absurd (f r l (k, n)) ]))
  ]
    where
      T : ℕ → ℤ
      T q = dot m (b s) (P.U q)

      test : (q : ℕ) → q < m → Dec ((s ≤ q) × ¬ (T q ≡ pos 0))
      test q l = elim (dec_le s q) [ no d ↦ no (λ (k, n). d k) | yes k ↦ elim (zero? (T q)) [ yes e ↦ no (λ (k, n). n e) | no n ↦ yes (k, n) ] ]

      none : ((r : ℕ) → r < m → s ≤ r → T r ≡ pos 0) → ⊥
      none vanish = omega (arith, lin, independent (λ r. T r -ℤ P.D *ℤ unit s r) zeros s ls, vanish s ls (omega arith), ap (λ z. P.D *ℤ z) (unit_same s), *ℤ_comm P.D (pos 1), one-* P.D, P.inverse.dpos)
        where
          by : (t D u x : ℤ) → (t -ℤ D *ℤ u) *ℤ x ≡ pos 1 *ℤ (t *ℤ x) -ℤ D *ℤ (u *ℤ x)
          by t D u x = rw (one-* (t *ℤ x)) (simp expand (omega (arith, lin)))

          agree : (r c : ℕ) → r < m → c < m → T r *ℤ b r c ≡ T r *ℤ P.A r c
          agree r c l k = elim (dec_lt r s) [ yes y ↦ ap (λ z. T r *ℤ z) (sym (P.placed r c y k)) | no n ↦ rw (vanish r l (omega arith)) (zero-*ℤ (b r c) ∙ sym (zero-*ℤ (P.A r c))) ]

          zeros : (c : ℕ) → c < m → sum m (λ r. (T r -ℤ P.D *ℤ unit s r) *ℤ b r c) ≡ pos 0
          zeros c k =
              sum_cong m _ _ (λ r l. by (T r) P.D (unit s r) (b r c))
              ∙ sum_lin m (pos 1) P.D (λ r. T r *ℤ b r c) (λ r. unit s r *ℤ b r c)
              ∙ omega (arith, lin, one-* (sum m (λ r. T r *ℤ b r c)), sum_cong m _ _ (λ r l. agree r c l k), dual_spread m P.A (λ r. r) P.D P.U P.inverse (b s) c k, ap (λ z. P.D *ℤ z) (sum_unit m s (λ r. b r c) ls))

  -- There it enters.
  step : (s : ℕ) → s < m → Partly m b s → Partly m b (suc s)
  step s ls P = by (found s ls P)
    where
      by : (q : ℕ) × (q < m) × (s ≤ q) × ¬ (dot m (b s) (P.U q) ≡ pos 0) → Partly m b (suc s)
      by (q, lq, k, n) =
          let e = exchange_there m columns (λ r. r) P.D rows turned s m ls positive in
          record {
            A = λ r. columns (e.β' r);
            D = e.D';
            U = e.U';
            inverse = own_columns m columns (λ r. columns (e.β' r)) e.β' (λ r. r) e.D' e.U' (λ r c l k. refl) (exchange m columns (λ r. r) P.D rows s m e.g e.β' e.D' e.U' turned e.exchanged);
            placed = λ r c l i. elim (ℕ_discrete r s) [
              | yes d ↦ rw (d, e.exchanged.comes, eq-eqb m m refl)
              | no d ↦ rw (e.exchanged.stays r (omega arith) d, ne_eqb r m (omega arith)) (kept r c (omega arith) i)
            ];
          }
        where
          t : ℤ
          t = dot m (b s) (P.U q)

          σ : ℕ → ℤ
          σ r = cond (eqb r s) (sign_of t) (pos 1)

          rows : ℕ → ℕ → ℤ
          rows r c = σ r *ℤ P.U (swap s q r) c

          columns : ℕ → ℕ → ℤ
          columns j = cond (eqb j m) (b s) (λ c. σ j *ℤ P.A (swap s q j) c)

          ones : (r : ℕ) → r < m → σ r *ℤ σ r ≡ pos 1
          ones r l = elim (ℕ_discrete r s) [ yes d ↦ rw (eq-eqb r s d) (sign_ones t) | no d ↦ rw (ne_eqb r s d) refl ]

          turned : Inverse m columns (λ r. r) P.D rows
          turned = own_columns m (λ r c. σ r *ℤ P.A (swap s q r) c) columns (λ r. r) (λ r. r) P.D rows (λ r c l k. rw (ne_eqb r m (omega arith)))
              (signed m P.A (swap s q) P.D (λ r. P.U (swap s q r)) σ ones (permuted m P.A (λ r. r) P.D P.U (swap s q) (swap s q) (swap_permutes m s q ls lq) P.inverse))

          swap_s : swap s q s ≡ q
          swap_s = elim (swap_is s q s) [ first e f ↦ f | second d e f ↦ absurd (d refl) | other d e f ↦ absurd (d refl) ]

          positive : pos 0 <ℤ dot m (columns m) (rows s)
          positive = rw (eq-eqb m m refl, dot_scale m (σ s) (b s) (P.U (swap s q s)), eq-eqb s s refl, swap_s) (sign_positive t n)

          kept : (r c : ℕ) → r < s → c < m → σ r *ℤ P.A (swap s q r) c ≡ b r c
          kept r c l i = elim (swap_is s q r) [
            | first e f ↦ absurd (omega arith)
            | second d e f ↦ absurd (omega arith)
            | other d e f ↦ rw (f, ne_eqb r s d) (one-* (P.A r c) ∙ P.placed r c l i)
          ]

  build : (s : ℕ) → s ≤ m → Partly m b s
  build zero l = start m b
  build (suc s) l = step s (omega arith) (build s (omega arith))

-- Independent columns have an inverse.
pub invertible : (m : ℕ) (a : ℕ → ℕ → ℤ) (β : ℕ → ℕ) → ((k : ℕ → ℤ) → ((c : ℕ) → c < m → sum m (λ r. k r *ℤ a (β r) c) ≡ pos 0) → (r : ℕ) → r < m → k r ≡ pos 0)
    → (D : ℤ) × (U : ℕ → ℕ → ℤ) × Inverse m a β D U
invertible m a β independent = by (build m (λ r. a (β r)) independent m (omega arith))
  where
    by : Partly m (λ r. a (β r)) m → (D : ℤ) × (U : ℕ → ℕ → ℤ) × Inverse m a β D U
    by P = (P.D, P.U, own_columns m P.A a (λ r. r) β P.D P.U (λ r c l k. P.placed r c l k) P.inverse)
