-- The sets of m of n limits, numbered from 0 below choose n m.
use Prim.Native.Nat.{ℕ, zero, suc, ◌+◌, ◌<◌, ◌≤◌}
use mathlib.Core.Path.{◌≡◌, refl, sym, ap, ◌∙◌}
use mathlib.Core.Bool.{Bool, true, false, cond}
use native.Mathlib.Omega.{arith}
use native.Mathlib.Decide.{ℕ_discrete}
use lib.Dec.{eqb}
use borrow.Author.Tests.{eqb-true, eq-eqb, ne_eqb, both_ways}
use Rattle.tableau.specs.Choose.{choose}
use Rattle.tableau.specs.Masks.{holds}

choose_grows : (n k : ℕ) → choose n k ≤ choose (suc n) k
unfolding choose
choose_grows zero zero = omega arith
choose_grows zero (suc k) = omega arith
choose_grows (suc n) zero = omega arith
choose_grows (suc n) (suc k) = omega arith

-- How many numbers below n the set S holds.
unfoldable pub count : ℕ → (ℕ → Bool) → ℕ
count zero S = 0
count (suc n) S = cond (S n) (suc (count n S)) (count n S)

-- The place of S among the sets of its size.
unfoldable pub rank : ℕ → (ℕ → Bool) → ℕ
rank zero S = 0
rank (suc n) S = cond (S n) (choose n (suc (count n S)) + rank n S) (rank n S)

pub rank_below : (n : ℕ) (S : ℕ → Bool) → rank n S < choose n (count n S)
unfolding rank count choose
rank_below zero S = omega arith
rank_below (suc n) S = by (S n) (rank_below n S)
  where
    by : (t : Bool) → rank n S < choose n (count n S) → cond t (choose n (suc (count n S)) + rank n S) (rank n S) < choose (suc n) (cond t (suc (count n S)) (count n S))
    by true h = omega arith
    by false h = omega (arith, choose_grows n (count n S))

-- Sets of one size and one place are the same.
pub rank_same : (n : ℕ) (S S' : ℕ → Bool) → count n S ≡ count n S' → rank n S ≡ rank n S' → (i : ℕ) → i < n → S i ≡ S' i
unfolding rank count
rank_same zero S S' c r i l = absurd (omega arith)
rank_same (suc n) S S' c r i l = by (S n) (S' n) refl refl c r (rank_same n S S')
  where
    next : S n ≡ S' n → (i < n → S i ≡ S' i) → S i ≡ S' i
    next e f = elim (ℕ_discrete i n) [ yes d ↦ rw d e | no d ↦ f (omega arith) ]

    by : (t t' : Bool) → S n ≡ t → S' n ≡ t'
        → cond t (suc (count n S)) (count n S) ≡ cond t' (suc (count n S')) (count n S')
        → cond t (choose n (suc (count n S)) + rank n S) (rank n S) ≡ cond t' (choose n (suc (count n S')) + rank n S') (rank n S')
        → (count n S ≡ count n S' → rank n S ≡ rank n S' → (i : ℕ) → i < n → S i ≡ S' i) → S i ≡ S' i
    by true true e e' c r ih = let d : count n S ≡ count n S' = omega arith in next (e ∙ sym e') (ih d (omega (arith, ap (λ k. choose n (suc k)) d)) i)
    by false false e e' c r ih = next (e ∙ sym e') (ih c r i)
    by true false e e' c r ih = absurd (omega (arith, rank_below n S', ap (λ k. choose n k) c))
    by false true e e' c r ih = absurd (omega (arith, rank_below n S, ap (λ k. choose n k) c))

pub holds_in : (m : ℕ) (β : ℕ → ℕ) (r : ℕ) → r < m → holds m β (β r) ≡ true
unfolding holds
holds_in zero β r l = absurd (omega arith)
holds_in (suc m) β r l = elim (ℕ_discrete r m) [
  | yes e ↦ rw (e, eq-eqb (β m) (β m) refl)
  | no d ↦ by (eqb (β m) (β r)) (holds_in m β r (omega arith))
]
  where
    by : (t : Bool) → holds m β (β r) ≡ true → cond t true (holds m β (β r)) ≡ true
    by true h = refl
    by false h = h

pub holds_out : (m : ℕ) (β : ℕ → ℕ) (i : ℕ) → holds m β i ≡ true → (r : ℕ) × (r < m) × (β r ≡ i)
unfolding holds
holds_out zero β i e = absurd (both_ways false refl e)
holds_out (suc m) β i e = by (eqb (β m) i) refl e (holds_out m β i)
  where
    by : (t : Bool) → eqb (β m) i ≡ t → cond t true (holds m β i) ≡ true → (holds m β i ≡ true → (r : ℕ) × (r < m) × (β r ≡ i)) → (r : ℕ) × (r < suc m) × (β r ≡ i)
    by true q e f = (m, omega arith, eqb-true (β m) i q)
    by false q e f = let (r, l, p) = f e in (r, omega arith, p)

count_cong : (n : ℕ) (S S' : ℕ → Bool) → ((i : ℕ) → i < n → S i ≡ S' i) → count n S ≡ count n S'
unfolding count
count_cong zero S S' e = refl
count_cong (suc n) S S' e = rw (e n (omega arith), count_cong n S S' (λ i l. e i (omega arith)))

count_none : (n : ℕ) (S : ℕ → Bool) → ((i : ℕ) → i < n → S i ≡ false) → count n S ≡ 0
unfolding count
count_none zero S e = refl
count_none (suc n) S e = rw (e n (omega arith)) (count_none n S (λ i l. e i (omega arith)))

-- S' is S and k.
count_more : (n k : ℕ) (S S' : ℕ → Bool) → k < n → S k ≡ false → S' k ≡ true → ((i : ℕ) → i < n → ¬ (i ≡ k) → S' i ≡ S i) → count n S' ≡ suc (count n S)
unfolding count
count_more zero k S S' l f t e = absurd (omega arith)
count_more (suc n) k S S' l f t e = elim (ℕ_discrete n k) [
  | yes d ↦ rw (d, f, t) (ap suc (count_cong k S' S (λ i q. e i (omega arith) (omega arith))))
  | no d ↦ rw (e n (omega arith) d, count_more n k S S' (omega arith) f t (λ i q. e i (omega arith))) (by (S n))
]
  where
    by : (t : Bool) → cond t (suc (suc (count n S))) (suc (count n S)) ≡ suc (cond t (suc (count n S)) (count n S))
    by true = refl
    by false = refl

pub count_holds : (n m : ℕ) (β : ℕ → ℕ) → ((r : ℕ) → r < m → β r < n) → ((r s : ℕ) → r < m → s < m → β r ≡ β s → r ≡ s) → count n (holds m β) ≡ m
unfolding holds
count_holds n zero β b one = count_none n (holds zero β) (λ i l. refl)
count_holds n (suc m) β b one =
    count_more n (β m) (holds m β) (holds (suc m) β) (b m (omega arith)) (out (holds m β (β m)) refl) (holds_in (suc m) β m (omega arith)) (λ i l d. rw (ne_eqb (β m) i (λ e. d (sym e))))
    ∙ ap suc (count_holds n m β (λ r l. b r (omega arith)) (λ r s lr ls. one r s (omega arith) (omega arith)))
  where
    out : (t : Bool) → holds m β (β m) ≡ t → holds m β (β m) ≡ false
    out false e = e
    out true e = let (r, l, p) = holds_out m β (β m) e in absurd (omega (arith, one r m (omega arith) (omega arith) p))
