-- The numbers of pairs: each pair of a corner and a limit outside it has one of its own.
use Rattle.std.proofs.Common.{◌≡◌, ℕ, zero, suc, ◌+◌, ◌*◌, ◌/◌, ◌<◌, ◌≤◌, Bool, cond, sym, refl, ap, ◌∙◌, inl, inr, mul-le-mul_right, suc-mul, le-div_iff_mul-le, arith}
use native.Mathlib.Decide.{ℕ_discrete}
use lib.Arith.{digits_div}
use Rattle.std.proofs.lemmas.Bool.{cases_order}
use Rattle.plant.specs.Meaning.{Meaning}
use Rattle.plant.specs.Commands.{column}
use Rattle.tableau.specs.Masks.{holds}
use Rattle.tableau.specs.Plants.{commands, limits, CornerOf}
use Rattle.tableau.specs.Runs.{HasSameLimits, InBasis}
use Rattle.tableau.proofs.Count.{count, count_holds}
use Rattle.tableau.proofs.Willing.{injective}
use Rattle.map_steps.specs.Pairs.{outside_below, pairs_each}
use Rattle.promises.proofs.SameLimits.{not_held, holds_same}

module _ (p : Meaning) (X : CornerOf p) where
  -- Of the limits below j each is in the basis or outside it.
  inside_and_outside : (j : ℕ) → outside_below p X j + count j (holds (commands p) X.β) ≡ j
  unfolding outside_below count
  inside_and_outside zero = refl
  inside_and_outside (suc j) = one_more (holds (commands p) X.β j) (outside_below p X j) (count j (holds (commands p) X.β)) j (inside_and_outside j)
    where
      one_more : (t : Bool) (n m j : ℕ) → n + m ≡ j → cond t n (suc n) + cond t (suc m) m ≡ suc j
      one_more t n m j e = grind arith

  all_outside : outside_below p X (limits p) + commands p ≡ limits p
  all_outside = ap (λ k. outside_below p X (limits p) + k) (sym (count_holds (limits p) (commands p) X.β X.known (injective (commands p) (column p) X.β X.D X.U X.inverse))) ∙ inside_and_outside (limits p)

  outside_grows : (i j : ℕ) → i ≤ j → outside_below p X i ≤ outside_below p X j
  unfolding outside_below
  outside_grows i zero l = let e : i ≡ 0 = omega arith in rw e (omega arith)
  outside_grows i (suc j) l = elim (ℕ_discrete i (suc j)) [ yes e ↦ rw e (omega arith) | no d ↦ one_more (holds (commands p) X.β j) (outside_below p X i) (outside_below p X j) (outside_grows i j (omega arith)) ]
    where
      one_more : (t : Bool) (m n : ℕ) → m ≤ n → m ≤ cond t n (suc n)
      one_more t m n h = grind arith

  -- A limit outside the basis is counted below every later one.
  outside_rises : (i j : ℕ) → ¬ InBasis p X i → i < j → outside_below p X i < outside_below p X j
  unfolding outside_below
  outside_rises i j out l =
      let e : outside_below p X (suc i) ≡ suc (outside_below p X i) = rw (not_held p X i out) in
      omega (arith, e, outside_grows (suc i) j l)

  -- A pair's number within its corner is below the pairs of one corner.
  pub outside_few : (j : ℕ) → j < limits p → ¬ InBasis p X j → outside_below p X j < pairs_each p
  outside_few j l out = omega (arith, all_outside, outside_rises j (limits p) out l)

  -- And says which limit it is.
  pub outside_one : (i j : ℕ) → ¬ InBasis p X i → ¬ InBasis p X j → outside_below p X i ≡ outside_below p X j → i ≡ j
  outside_one i j oi oj e = elim (cases_order i j) [
    | inl d ↦ d
    | inr (inl l) ↦ absurd (omega (arith, outside_rises i j oi l))
    | inr (inr l) ↦ absurd (omega (arith, outside_rises j i oj l))
  ]

-- It does not depend on the order of the rows.
pub outside_same : (p : Meaning) (X Y : CornerOf p) → HasSameLimits p X Y → (j : ℕ) → outside_below p X j ≡ outside_below p Y j
unfolding outside_below
outside_same p X Y same zero = refl
outside_same p X Y same (suc j) = rw (holds_same p X Y same j, outside_same p X Y same j)

-- Numbers k n + i, with i below n.
pub at_most : (n k i k' i' : ℕ) → i' < n → k * n + i < k' * n + i' + 1 → k ≤ k'
at_most n k i k' i' h l = let d : k ≤ (k' * n + i') / n = (le-div_iff_mul-le (omega arith)).1 (omega arith) in rw (digits_div k' h) at d

pub number_below : (n k i k' : ℕ) → k < k' → i < n → k * n + i < k' * n
number_below n k i k' h l = let a : suc k * n ≤ k' * n = mul-le-mul_right n h in let b : suc k * n ≡ k * n + n = suc-mul k n in omega arith
