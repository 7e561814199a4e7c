-- The inverse of a basis in lowest terms is one, and has the least denominator.
use Prim.Native.Nat.{ℕ, suc, ◌*◌, ◌<◌}
use mathlib.Core.Path.{◌≡◌, refl, sym, ap, ◌∙◌, subst}
use mathlib.Core.Bool.{Bool, true, false}
use native.Mathlib.Omega.{arith}
use native.Mathlib.Decide.{ℕ_discrete}
use borrow.Author.Tests.{both_ways}
use lib.IntN.{ℤ, pos, ◌*ℤ◌, zero-*ℤ, *ℤ_comm}
use lib.Signed.{◌<ℤ◌, ◌≤ℤ◌, quot_z}
use Rattle.exact.specs.Vectors.{sum, dot}
use Rattle.exact.specs.Divisors.{Divides}
use Rattle.exact.specs.LowestTerms.{every, Lowest}
use Rattle.exact.proofs.Ring.{lin, one-*, *-assoc, *-left-comm, cancel, cancel≤, pos_of_mul, zero_of_mul}
use Rattle.exact.proofs.Sums.{sum_cong, sum_zero, sum-*ˡ, dot_cong, dot_scale}
use Rattle.exact.proofs.Exact.{exact_back}
use Rattle.exact.proofs.Divides.{div_mul, div_sum, div_pos, div_le}
use Rattle.exact.proofs.Gcd.{Bezout, bezout}
use Rattle.exact.proofs.Lowest.{every_all, every_entry, only_one, div_times}
use Rattle.tableau.specs.Basis.{Inverse, Among, Smallest}
use Rattle.tableau.specs.TheoremsExchange.{GreatestDivisorGivesLowestTerms}
use Rattle.tableau.specs.Masks.{holds}
use Rattle.tableau.proofs.Simplex.{spread}
use Rattle.tableau.proofs.Exchange.{dot_zero}
use Rattle.tableau.proofs.Unique.{tableau_unique}
use Rattle.tableau.proofs.Count.{holds_in, holds_out}

-- An inverse divided by d is an inverse.
pub divided : (m : ℕ) (a : ℕ → ℕ → ℤ) (β : ℕ → ℕ) (D : ℤ) (U : ℕ → ℕ → ℤ) (d E : ℤ) (V : ℕ → ℕ → ℤ) → Inverse m a β D U → pos 0 <ℤ d → d *ℤ E ≡ D → ((r c : ℕ) → r < m → c < m → d *ℤ V r c ≡ U r c) → Inverse m a β E V
divided m a β D U d E V B pd eD eU = record {
  dpos = pos_of_mul E d pd (rw eD B.dpos);
  left_same = λ r l. same (times (a (β r)) r l ∙ B.left_same r l);
  left_other = λ r s l k f. zero_of_mul _ d pd (times (a (β s)) r l ∙ B.left_other r s l k f);
  right_same = λ c l. same (across c c l ∙ B.right_same c l);
  right_other = λ c k l q f. zero_of_mul _ d pd (across c k l ∙ B.right_other c k l q f);
}
  where
    same : {x : ℤ} → d *ℤ x ≡ D → x ≡ E
    same {x} e = cancel x E d pd (*ℤ_comm x d ∙ e ∙ sym eD ∙ *ℤ_comm d E)

    times : (y : ℕ → ℤ) (r : ℕ) → r < m → d *ℤ dot m y (V r) ≡ dot m y (U r)
    times y r l = sym (dot_scale m d y (V r)) ∙ dot_cong m y _ _ (λ c k. eU r c l k)

    across : (c k : ℕ) → c < m → d *ℤ sum m (λ r. V r c *ℤ a (β r) k) ≡ sum m (λ r. U r c *ℤ a (β r) k)
    across c k l = sym (sum-*ˡ m d (λ r. V r c *ℤ a (β r) k)) ∙ sum_cong m _ _ (λ r q. sym (*-assoc d (V r c) (a (β r) k)) ∙ ap (λ z. z *ℤ a (β r) k) (eU r c q l))

pub exchanged_lowest : GreatestDivisorGivesLowestTerms
exchanged_lowest m a β D U r j g β' D' U' X greatest d pd dD dU =
    let (q, e) = greatest (g *ℤ d) (div_times g d D' _ X.denominator dD) (λ c l. div_times g d (U' r c) _ (X.pivot_row c l) (dU r c X.inside l)) (λ i k n c l. div_times g d (U' i c) _ (X.other_row i k n c l) (dU i c k l)) in
    only_one g d q X.gpos pd e

module _ (m : ℕ) (a : ℕ → ℕ → ℤ) (β : ℕ → ℕ) (D : ℤ) (U : ℕ → ℕ → ℤ) (B : Inverse m a β D U) (β' : ℕ → ℕ) (D' : ℤ) (U' : ℕ → ℕ → ℤ) (B' : Inverse m a β' D' U') (among : Among m β β') where
  -- m limits among m limits: the other way round too.
  pub among_back : Among m β' β
  among_back s l = by (holds m β (β' s)) refl
    where
      none : holds m β (β' s) ≡ false → (r : ℕ) → r < m → dot m (a (β r)) (U' s) ≡ pos 0
      none f r k = let (q, lq, e) = among r k in elim (ℕ_discrete s q) [
        | yes d ↦ absurd (both_ways (holds m β (β' s)) f (ap (holds m β) (ap β' d ∙ e) ∙ holds_in m β r k))
        | no d ↦ rw (← e) (B'.left_other s q l lq d)
      ]

      zero_row : holds m β (β' s) ≡ false → (c : ℕ) → c < m → U' s c ≡ pos 0
      zero_row f c k = zero_of_mul (U' s c) D B.dpos (spread m a β D U B (U' s) c k ∙ sum_zero m _ (λ r q. rw (none f r q) (zero-*ℤ (U r c))))

      by : (t : Bool) → holds m β (β' s) ≡ t → (r : ℕ) × (r < m) × (β r ≡ β' s)
      by true e = holds_out m β (β' s) e
      by false e = absurd (omega (arith, lin, B'.dpos, B'.left_same s l, dot_cong m (a (β' s)) (U' s) (λ c. pos 0) (zero_row e), dot_zero m (a (β' s))))

  -- The denominator in lowest terms divides every other.
  pub lowest_divides : Lowest m D U → Divides D D'
  lowest_divides low = by (bezout (suc (m * m)) (every m D U))
    where
      part : (r c : ℕ) → r < m → c < m → Divides D (D' *ℤ U r c)
      part r c lr lc = let (s, ls, e) = among r lr in (U' s c, sym (tableau_unique m a β D U B β' D' U' B' among r s lr ls e c lc))

      by : Bezout (suc (m * m)) (every m D U) → Divides D D'
      by e =
          let pg : pos 0 <ℤ e.g = div_pos e.g D e.is_gcd.nonneg B.dpos (e.is_gcd.divides 0 (omega arith)) in
          let one : e.g ≡ pos 1 = low e.g pg (e.is_gcd.divides 0 (omega arith)) (every_entry (Divides e.g) m D U e.is_gcd.divides) in
          let all : Divides D (sum (suc (m * m)) (λ i. e.k i *ℤ (D' *ℤ every m D U i))) = div_sum (suc (m * m)) D _ (λ i l. div_mul D (e.k i) _ (every_all (λ x. Divides D (D' *ℤ x)) m D U (D', *ℤ_comm D' D) part i l)) in
          subst (Divides D) (sum_cong (suc (m * m)) _ _ (λ i l. *-left-comm (e.k i) D' (every m D U i)) ∙ sum-*ˡ (suc (m * m)) D' (λ i. e.k i *ℤ every m D U i) ∙ ap (λ z. D' *ℤ z) (e.sums ∙ one) ∙ *ℤ_comm D' (pos 1) ∙ one-* D') all

-- Lowest terms are the only ones.
module _ (m : ℕ) (a : ℕ → ℕ → ℤ) (β : ℕ → ℕ) (D : ℤ) (U : ℕ → ℕ → ℤ) (B : Inverse m a β D U) (β' : ℕ → ℕ) (D' : ℤ) (U' : ℕ → ℕ → ℤ) (B' : Inverse m a β' D' U') (among : Among m β β')
    (low : Lowest m D U) (low' : Lowest m D' U') where
  pub lowest_d : D ≡ D'
  lowest_d =
      let l : D ≤ℤ D' = div_le D D' B.dpos B'.dpos (lowest_divides m a β D U B β' D' U' B' among low) in
      let k : D' ≤ℤ D = div_le D' D B'.dpos B.dpos (lowest_divides m a β' D' U' B' β D U B (among_back m a β D U B β' D' U' B' among) low') in
      omega (arith, lin)

  pub lowest_u : (r s : ℕ) → r < m → s < m → β' s ≡ β r → (c : ℕ) → c < m → U' s c ≡ U r c
  lowest_u r s lr ls e c l = cancel (U' s c) (U r c) D B.dpos (*ℤ_comm (U' s c) D ∙ tableau_unique m a β D U B β' D' U' B' among r s lr ls e c l ∙ ap (λ z. z *ℤ U r c) (sym lowest_d) ∙ *ℤ_comm D (U r c))

module _ (m : ℕ) (a : ℕ → ℕ → ℤ) (β : ℕ → ℕ) (D : ℤ) (U : ℕ → ℕ → ℤ) (B : Inverse m a β D U) where
  pub lowest_smallest : Lowest m D U → Smallest m a β D
  lowest_smallest low D' U' B' = div_le D D' B.dpos B'.dpos (lowest_divides m a β D U B β D' U' B' (λ r l. (r, l, refl)) low)

  pub smallest_lowest : Smallest m a β D → Lowest m D U
  smallest_lowest small d pd dD dU =
      let e : d *ℤ quot_z D d ≡ D = exact_back d D pd dD in
      let B' : Inverse m a β (quot_z D d) (λ r c. quot_z (U r c) d) = divided m a β D U d (quot_z D d) (λ r c. quot_z (U r c) d) B pd e (λ r c lr lc. exact_back d (U r c) pd (dU r c lr lc)) in
      let l : d ≤ℤ pos 1 = cancel≤ d (pos 1) (quot_z D d) B'.dpos (omega (arith, lin, e, one-* (quot_z D d), small (quot_z D d) (λ r c. quot_z (U r c) d) B')) in
      omega (arith, lin)
