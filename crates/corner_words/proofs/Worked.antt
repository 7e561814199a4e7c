-- Plant K and its corner at the limits 1 and 3, whose words the tests have.
use Rattle.std.proofs.Common.{◌≡◌, ℕ, zero, suc, ◌+◌, ◌<◌, List, [], ◌∷◌, get_or, ℤ, pos, negsuc, ◌*ℤ◌, ◌≤ℤ◌, ◌<ℤ◌, refl, arith}
use native.Mathlib.Decide.{ℕ_discrete}
use Rattle.std.proofs.lemmas.Int.{ints}
use Rattle.exact.specs.Bounds.{AllInWidth}
use Rattle.exact.specs.Lists.{Positive}
use Rattle.exact.specs.LowestTerms.{Lowest}
use Rattle.exact.specs.Vectors.{sum, dot, entries}
use Rattle.exact.proofs.Divides.{div_le}
use Rattle.exact.proofs.Ring.{lin}
use Rattle.exact.proofs.Sizes.{in_width_drop}
use Rattle.plant.specs.Commands.{column, value}
use Rattle.plant.specs.Meaning.{Meaning, shape_of}
use Rattle.tableau.specs.Basis.{Inverse}
use Rattle.tableau.specs.Plants.{CornerOf}
use Rattle.tableau_words.specs.Held.{basis_row, reading_row, Held}
use Rattle.tableau_words.specs.Layout.{number_at}
use Rattle.tableau_words.proofs.Across.{held_in_width}
use Rattle.tableau_words.proofs.Checked.{greatest_size, checked}
use Rattle.tableau_words.proofs.Worked.{one_and_three}
use Rattle.corner_words.specs.Corners.{Holding}
use Rattle.corner_words.specs.Reads.{OwnLimits}

-- The first n numbers, the last one first.
unfoldable table : ℕ → (ℕ → ℤ) → List ℤ
table zero f = []
table (suc n) f = f n ∷ table n f

-- Numbers that are seen to be the same by computing.
computed : (n : ℕ) (f g : ℕ → ℤ) → table n f ≡ table n g → (i : ℕ) → i < n → f i ≡ g i
unfolding table
computed zero f g e i l = absurd (omega arith)
computed (suc n) f g e i l =
    let first : f n ≡ g n = cc in
    let rest : table n f ≡ table n g = cc in
    elim (ℕ_discrete i n) [ yes d ↦ rw d first | no d ↦ computed n f g rest i (omega arith) ]

abbrev pub plant_k : Meaning
plant_k = record {
  gains = pos 1 ∷ pos 1 ∷ [];
  readings = 1;
  limits =
      record { coefficients = pos 1 ∷ pos 0 ∷ []; constant = pos 4; slopes = pos 1 ∷ [] }
      ∷ record { coefficients = pos 0 ∷ pos 1 ∷ []; constant = pos 3; slopes = pos 0 ∷ [] }
      ∷ record { coefficients = pos 1 ∷ pos 1 ∷ []; constant = pos 6; slopes = pos 0 ∷ [] }
      ∷ record { coefficients = negsuc 0 ∷ pos 0 ∷ []; constant = pos 0; slopes = pos 0 ∷ [] }
      ∷ record { coefficients = pos 0 ∷ negsuc 0 ∷ []; constant = pos 0; slopes = pos 0 ∷ [] }
      ∷ [];
}

abbrev basis : ℕ → ℕ
basis r = get_or (0 ∷ 2 ∷ []) r 0

abbrev inverse_rows : ℕ → ℕ → ℤ
inverse_rows r = entries (get_or ((pos 1 ∷ negsuc 0 ∷ []) ∷ (pos 0 ∷ pos 1 ∷ []) ∷ []) r [])

-- What holds at 0 and 1 holds below 2.
of_two : (P : ℕ → Type 0) → P 0 → P 1 → (i : ℕ) → i < 2 → P i
of_two P x y zero l = x
of_two P x y (suc zero) l = y
of_two P x y (suc (suc i)) l = absurd (omega arith)

inverse : Inverse 2 (column plant_k) basis (pos 1) inverse_rows
unfolding dot sum
inverse = record {
  dpos = omega (arith, lin);
  left_same = of_two (λ r. dot 2 (column plant_k (basis r)) (inverse_rows r) ≡ pos 1) refl refl;
  left_other = λ r s l k. of_two (λ r. ¬ (r ≡ s) → dot 2 (column plant_k (basis s)) (inverse_rows r) ≡ pos 0)
      (of_two (λ s. ¬ (0 ≡ s) → dot 2 (column plant_k (basis s)) (inverse_rows 0) ≡ pos 0) (λ d. absurd (d refl)) (λ d. refl) s k)
      (of_two (λ s. ¬ (1 ≡ s) → dot 2 (column plant_k (basis s)) (inverse_rows 1) ≡ pos 0) (λ d. refl) (λ d. absurd (d refl)) s k) r l;
  right_same = of_two (λ c. sum 2 (λ r. inverse_rows r c *ℤ column plant_k (basis r) c) ≡ pos 1) refl refl;
  right_other = λ c k l q. of_two (λ c. ¬ (k ≡ c) → sum 2 (λ r. inverse_rows r c *ℤ column plant_k (basis r) k) ≡ pos 0)
      (of_two (λ k. ¬ (k ≡ 0) → sum 2 (λ r. inverse_rows r 0 *ℤ column plant_k (basis r) k) ≡ pos 0) (λ d. absurd (d refl)) (λ d. refl) k q)
      (of_two (λ k. ¬ (k ≡ 1) → sum 2 (λ r. inverse_rows r 1 *ℤ column plant_k (basis r) k) ≡ pos 0) (λ d. refl) (λ d. absurd (d refl)) k q) c l;
}

-- One over one is in lowest terms.
lowest : Lowest 2 (pos 1) inverse_rows
lowest d above whole rest = let l : d ≤ℤ pos 1 = div_le d (pos 1) above (omega (arith, lin)) whole in omega (arith, lin)

-- The gain of the first row is 0 and its first number 1; the gain of the second is 1.
positive : (r : ℕ) → r < 2 → Positive 3 (value plant_k (inverse_rows r))
unfolding dot sum
positive = of_two (λ r. Positive 3 (value plant_k (inverse_rows r)))
    (record { place = 1; inside = omega arith; zeros = λ i l. let e : i ≡ 0 = omega arith in rw e refl; lead = omega (arith, lin) })
    (record { place = 0; inside = omega arith; zeros = λ i l. absurd (omega arith); lead = omega (arith, lin) })

abbrev corner : CornerOf plant_k
corner = record {
  β = basis;
  D = pos 1;
  U = inverse_rows;
  known = of_two (λ r. basis r < 5) (omega arith) (omega arith);
  inverse = inverse;
  lowest = lowest;
  rows = positive;
}

held : Held plant_k (column plant_k) basis (pos 1) inverse_rows one_and_three
unfolding table dot sum
held = record {
  long = refl;
  denominator = refl;
  limits = of_two (λ r. entries one_and_three (1 + r) ≡ pos (basis r)) refl refl;
  basis_rows = λ r i l h. of_two (λ r. number r i ≡ basis_row plant_k (column plant_k) basis (pos 1) inverse_rows r i)
      (computed 8 (number 0) (basis_row plant_k (column plant_k) basis (pos 1) inverse_rows 0) refl i h)
      (computed 8 (number 1) (basis_row plant_k (column plant_k) basis (pos 1) inverse_rows 1) refl i h) r l;
  reading_rows = λ k i l h. of_two (λ k. number (2 + k) i ≡ reading_row plant_k (column plant_k) basis (pos 1) inverse_rows k i)
      (computed 8 (number 2) (reading_row plant_k (column plant_k) basis (pos 1) inverse_rows 0) refl i h)
      (computed 8 (number 3) (reading_row plant_k (column plant_k) basis (pos 1) inverse_rows 1) refl i h) k (omega arith);
}
  where
    number : ℕ → ℕ → ℤ
    number = number_at (shape_of plant_k) one_and_three

in_width : AllInWidth one_and_three
unfolding greatest_size
in_width = checked one_and_three refl

pub holding : Holding (shape_of plant_k) one_and_three
holding = record {
  p = plant_k;
  n = 5;
  a = column plant_k;
  X = corner;
  shape = refl;
  all = omega arith;
  few = omega arith;
  holds = record { held = held; in_width = held_in_width plant_k (column plant_k) basis (pos 1) inverse_rows one_and_three held (in_width_drop 3 one_and_three in_width) (in_width 0) };
}

pub own_limits : OwnLimits (shape_of plant_k) one_and_three
own_limits = of_two (λ r. entries one_and_three (1 + r) <ℤ pos 5) (omega (arith, ints)) (omega (arith, ints))
