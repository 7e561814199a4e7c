-- What an inverse does not depend on: the order of its rows, the names of its limits, the columns of others, signs.
use Prim.Native.Nat.{ℕ, ◌<◌}
use mathlib.Core.Path.{◌≡◌, refl, sym, ap, ◌∙◌, subst}
use mathlib.Core.Bool.{cond}
use native.Mathlib.Omega.{arith}
use native.Mathlib.Decide.{ℕ_discrete}
use lib.Dec.{eqb}
use borrow.Author.Tests.{eq-eqb, ne_eqb}
use lib.IntN.{ℤ, pos, ◌*ℤ◌, zero-*ℤ, *ℤ-zero}
use Rattle.exact.specs.Vectors.{sum, dot}
use Rattle.exact.specs.Divisors.{Divides}
use Rattle.exact.specs.LowestTerms.{Lowest}
use Rattle.exact.proofs.Ring.{expand, one-*, *-assoc}
use Rattle.exact.proofs.Sums.{sum_cong, sum_at, sum_swap, dot_comm, dot_cong, dot_scale}
use Rattle.tableau.specs.Basis.{Inverse}
use Rattle.tableau.specs.Points.{unit}
use Rattle.tableau.proofs.Willing.{unit_same, unit_other}

-- π and π⁻ undo one another below m.
pub record Permutes (m : ℕ) (π π⁻ : ℕ → ℕ) : Type 0 where
  pub there : (i : ℕ) → i < m → π i < m
  pub back : (i : ℕ) → i < m → π⁻ i < m
  pub right : (i : ℕ) → i < m → π (π⁻ i) ≡ i
  pub left : (i : ℕ) → i < m → π⁻ (π i) ≡ i

pub sum_permuted : (m : ℕ) (π π⁻ : ℕ → ℕ) → Permutes m π π⁻ → (f : ℕ → ℤ) → sum m (λ i. f (π i)) ≡ sum m f
sum_permuted m π π⁻ P f =
    sum_cong m _ _ (λ i l. sym (sum_at m (π i) (λ r. unit r (π i) *ℤ f r) (P.there i l) (λ r k d. rw (unit_other r (π i) d) (zero-*ℤ (f r))) ∙ rw (unit_same (π i)) (one-* (f (π i)))))
    ∙ sum_swap m m (λ i r. unit r (π i) *ℤ f r)
    ∙ sum_cong m _ _ (λ r l. sum_at m (π⁻ r) (λ i. unit r (π i) *ℤ f r) (P.back r l) (λ i k d. rw (unit_other r (π i) (λ e. d (sym (P.left i k) ∙ ap π⁻ (sym e)))) (zero-*ℤ (f r))) ∙ rw (P.right r l, unit_same r) (one-* (f r)))

-- The limits of a basis may be told in any order.
pub permuted : (m : ℕ) (a : ℕ → ℕ → ℤ) (β : ℕ → ℕ) (D : ℤ) (U : ℕ → ℕ → ℤ) (π π⁻ : ℕ → ℕ) → Permutes m π π⁻ → Inverse m a β D U → Inverse m a (λ r. β (π r)) D (λ r. U (π r))
permuted m a β D U π π⁻ P B = record {
  dpos = B.dpos;
  left_same = λ r l. B.left_same (π r) (P.there r l);
  left_other = λ r s l k d. B.left_other (π r) (π s) (P.there r l) (P.there s k) (λ e. d (sym (P.left r l) ∙ ap π⁻ e ∙ P.left s k));
  right_same = λ c l. sum_permuted m π π⁻ P (λ r. U r c *ℤ a (β r) c) ∙ B.right_same c l;
  right_other = λ c k l q d. sum_permuted m π π⁻ P (λ r. U r c *ℤ a (β r) k) ∙ B.right_other c k l q d;
}

-- Lowest terms stay so.
pub lowest_permuted : (m : ℕ) (D : ℤ) (U : ℕ → ℕ → ℤ) (π π⁻ : ℕ → ℕ) → Permutes m π π⁻ → Lowest m D U → Lowest m D (λ r. U (π r))
lowest_permuted m D U π π⁻ P low d pd dD dU = low d pd dD (λ r c lr lc. subst (λ i. Divides d (U i c)) (P.right r lr) (dU (π⁻ r) c (P.back r lr) lc))

-- Places s and q change with one another.
pub swap : ℕ → ℕ → ℕ → ℕ
swap s q i = cond (eqb i s) q (cond (eqb i q) s i)

-- Where a place stands.
pub data Where (s q i : ℕ) : Type 0 where
  first : i ≡ s → swap s q i ≡ q → Where s q i
  second : ¬ (i ≡ s) → i ≡ q → swap s q i ≡ s → Where s q i
  other : ¬ (i ≡ s) → ¬ (i ≡ q) → swap s q i ≡ i → Where s q i

pub swap_is : (s q i : ℕ) → Where s q i
unfolding swap
swap_is s q i = elim (ℕ_discrete i s) [
  | yes e ↦ first e (rw (eq-eqb i s e))
  | no d ↦ elim (ℕ_discrete i q) [ yes e ↦ second d e (rw (ne_eqb i s d, eq-eqb i q e)) | no f ↦ other d f (rw (ne_eqb i s d, ne_eqb i q f)) ]
]

swap_back : (s q i : ℕ) → swap s q (swap s q i) ≡ i
swap_back s q i = elim (swap_is s q i) [
  | first e f ↦ rw f (elim (swap_is s q q) [ first e' f' ↦ f' ∙ e' ∙ sym e | second d e' f' ↦ f' ∙ sym e | other d d' f' ↦ absurd (d' refl) ])
  | second d e f ↦ rw f (elim (swap_is s q s) [ first e' f' ↦ f' ∙ sym e | second d' e' f' ↦ absurd (d' refl) | other d' e' f' ↦ absurd (d' refl) ])
  | other d e f ↦ rw f f
]

pub swap_permutes : (m s q : ℕ) → s < m → q < m → Permutes m (swap s q) (swap s q)
swap_permutes m s q ls lq = record { there = inside; back = inside; right = λ i l. swap_back s q i; left = λ i l. swap_back s q i }
  where
    inside : (i : ℕ) → i < m → swap s q i < m
    inside i l = elim (swap_is s q i) [ first e f ↦ omega arith | second d e f ↦ omega arith | other d e f ↦ omega arith ]

dot_congˡ : (m : ℕ) (x y z : ℕ → ℤ) → ((c : ℕ) → c < m → x c ≡ y c) → dot m x z ≡ dot m y z
dot_congˡ m x y z h = dot_comm m x z ∙ dot_cong m z x y h ∙ dot_comm m z y

-- The inverse depends on the columns of the basis alone.
pub own_columns : (m : ℕ) (a a' : ℕ → ℕ → ℤ) (β β' : ℕ → ℕ) (D : ℤ) (U : ℕ → ℕ → ℤ) → ((r c : ℕ) → r < m → c < m → a (β r) c ≡ a' (β' r) c) → Inverse m a β D U → Inverse m a' β' D U
own_columns m a a' β β' D U e B = record {
  dpos = B.dpos;
  left_same = λ r l. sym (dot_congˡ m _ _ (U r) (λ c k. e r c l k)) ∙ B.left_same r l;
  left_other = λ r s l q d. sym (dot_congˡ m _ _ (U r) (λ c k. e s c q k)) ∙ B.left_other r s l q d;
  right_same = λ c l. sum_cong m _ _ (λ r k. ap (λ z. U r c *ℤ z) (sym (e r c k l))) ∙ B.right_same c l;
  right_other = λ c q l k d. sum_cong m _ _ (λ r i. ap (λ z. U r c *ℤ z) (sym (e r q i k))) ∙ B.right_other c q l k d;
}

-- A column and its row may change their sign together.
pub signed : (m : ℕ) (a : ℕ → ℕ → ℤ) (β : ℕ → ℕ) (D : ℤ) (U : ℕ → ℕ → ℤ) (σ : ℕ → ℤ) → ((r : ℕ) → r < m → σ r *ℤ σ r ≡ pos 1) → Inverse m a β D U → Inverse m (λ r c. σ r *ℤ a (β r) c) (λ r. r) D (λ r c. σ r *ℤ U r c)
signed m a β D U σ ones B = record {
  dpos = B.dpos;
  left_same = λ r l. pull r r ∙ rw (ones r l) (one-* (dot m (a (β r)) (U r))) ∙ B.left_same r l;
  left_other = λ r s l k d. pull r s ∙ rw (B.left_other r s l k d) (*ℤ-zero (σ r *ℤ σ s));
  right_same = λ c l. across c c ∙ B.right_same c l;
  right_other = λ c k l q d. across c k ∙ B.right_other c k l q d;
}
  where
    pull : (r s : ℕ) → dot m (λ c. σ s *ℤ a (β s) c) (λ c. σ r *ℤ U r c) ≡ (σ r *ℤ σ s) *ℤ dot m (a (β s)) (U r)
    pull r s = dot_scale m (σ r) (λ c. σ s *ℤ a (β s) c) (U r) ∙ ap (λ z. σ r *ℤ z) (dot_comm m (λ c. σ s *ℤ a (β s) c) (U r) ∙ dot_scale m (σ s) (U r) (a (β s)) ∙ ap (λ z. σ s *ℤ z) (dot_comm m (U r) (a (β s)))) ∙ sym (*-assoc (σ r) (σ s) (dot m (a (β s)) (U r)))

    by : (x u v : ℤ) → x *ℤ x ≡ pos 1 → (x *ℤ u) *ℤ (x *ℤ v) ≡ u *ℤ v
    by x u v e = regroup x u v ∙ rw e (one-* (u *ℤ v))
      where
        regroup : (x u v : ℤ) → (x *ℤ u) *ℤ (x *ℤ v) ≡ (x *ℤ x) *ℤ (u *ℤ v)
        regroup x u v = simp expand

    across : (c k : ℕ) → sum m (λ r. (σ r *ℤ U r c) *ℤ (σ r *ℤ a (β r) k)) ≡ sum m (λ r. U r c *ℤ a (β r) k)
    across c k = sum_cong m _ _ (λ r l. by (σ r) (U r c) (a (β r) k) (ones r l))
