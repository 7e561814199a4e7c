-- The command of a corner, divided by the common divisor of its numbers.
use Rattle.std.proofs.Common.{◌≡◌, ℕ, suc, ◌+◌, ◌<◌, List, ◌++◌, map, length, take, drop, ℤ, pos, ◌*ℤ◌, neg_ℤ, ◌<ℤ◌, sym, ap, ◌∙◌, subst, arith}
use lib.IntN.{neg_ℤ-neg_ℤ}
use lib.Signed.{quot_z}
use Rattle.exact.specs.Divisors.{Gcd}
use Rattle.exact.specs.Vectors.{dot, entries, first_then}
use Rattle.exact.proofs.Exact.{exact, exact_back}
use Rattle.exact.proofs.Ring.{neg-*ˡ, neg-*ʳ, pos_of_mul}
use Rattle.exact.proofs.Sums.{sum_cong, dot_cong, dot_scale, dot_comb}
use Rattle.plant.specs.Commands.{Command, column}
use Rattle.plant.specs.Meaning.{Meaning, shape_of}
use Rattle.rows.proofs.Pivots.{gcd_cong, first_then_cong}
use Rattle.tableau.specs.Plants.{commands, with_one, CornerOf}
use Rattle.tableau.specs.Readings.{at_reading, command_at, IsInLowestTerms}
use Rattle.tableau.specs.Tableau.{law, law_gain}
use Rattle.tableau.proofs.Simplex.{sum_neg}
use Rattle.tableau_words.specs.Held.{Held}
use Rattle.tableau_words.specs.Readings.{column_at}
use Rattle.tableau_words.proofs.Across.{in_law}
use Rattle.tableau_words.proofs.ReadingSums.{held_column}
use Rattle.words.specs.declared.counts.Shape.{Shape}
use Rattle.trays.specs.Commands.{command_list, CommandAnswer}
use Rattle.trays.specs.Trays.{first, fraction_list}
use Rattle.trays.proofs.Fills.{first_length, first_at, fraction_front, fraction_mapped}

neg_at_reading : (p : Meaning) (θ : List ℤ) (f : ℕ → ℤ) → neg_ℤ (at_reading p θ (λ k. neg_ℤ (f k))) ≡ at_reading p θ f
neg_at_reading p θ f =
    ap neg_ℤ (sum_cong (suc p.readings) _ _ (λ k l. neg-*ˡ (with_one θ k) (f k) ∙ sym (neg-*ʳ (with_one θ k) (f k))) ∙ sum_neg (suc p.readings) (with_one θ) f) ∙ neg_ℤ-neg_ℤ (at_reading p θ f)

module _ (p : Meaning) (X : CornerOf p) (θ ws : List ℤ) (H : Held p (column p) X.β X.D X.U ws) where
  abbrev m : ℕ
  m = commands p

  abbrev P : ℕ → ℤ
  P = (command_at p X θ).numerators

  -- What the code reads for the numerators and for the gain.
  abbrev numerator : ℕ → ℤ
  numerator i = neg_ℤ (column_at (shape_of p) θ ws (1 + i))

  abbrev gain : ℤ
  gain = neg_ℤ (column_at (shape_of p) θ ws 0)

  numerator_is : (i : ℕ) → i < m → numerator i ≡ P i
  numerator_is i l =
      ap neg_ℤ (held_column p (column p) X.β X.D X.U θ ws (1 + i) H (omega arith) ∙ sum_cong (suc p.readings) _ _ (λ k h. ap (λ z. with_one θ k *ℤ z) (in_law p (column p) X.β X.D X.U k i l)))
      ∙ neg_at_reading p θ (λ k. law p X.β X.U k i)

  gain_is : gain ≡ dot m (entries p.gains) P
  gain_is =
      ap neg_ℤ (held_column p (column p) X.β X.D X.U θ ws 0 H (omega arith))
      ∙ neg_at_reading p θ (law_gain p X.β X.U)
      ∙ sym (dot_comb m (suc p.readings) (entries p.gains) (with_one θ) (law p X.β X.U))

  module _ (q : ℤ) (positive : pos 0 <ℤ q) (G : Gcd (suc m) (first_then (entries ws 0) numerator) q) where
    divided_numerator : (i : ℕ) → i < m → q *ℤ quot_z (numerator i) q ≡ numerator i
    divided_numerator i l = exact_back q (numerator i) positive (G.divides (suc i) (omega arith))

    divided_denominator : q *ℤ quot_z (entries ws 0) q ≡ X.D
    divided_denominator = exact_back q (entries ws 0) positive (G.divides 0 (omega arith)) ∙ H.denominator

    abbrev lowest : Command
    lowest = record {
      numerators = λ i. quot_z (numerator i) q;
      denominator = quot_z (entries ws 0) q;
      above = pos_of_mul (quot_z (entries ws 0) q) q positive (subst (λ z. pos 0 <ℤ z) (sym divided_denominator) X.inverse.dpos);
    }

    lowest_terms : IsInLowestTerms p (command_at p X θ) lowest
    lowest_terms = record {
      divisor = q;
      greatest = gcd_cong (suc m) _ _ q (λ i l. first_then_cong m (entries ws 0) numerator P numerator_is i l ∙ ap (λ z. first_then z P i) H.denominator) G;
      denominator = divided_denominator;
      numerators = λ i l. divided_numerator i l ∙ numerator_is i l;
    }

    -- The divisor divides every numerator, and so the gain.
    divided_gain : quot_z gain q ≡ dot m (entries p.gains) lowest.numerators
    divided_gain =
        ap (λ z. quot_z z q) (gain_is
        ∙ dot_cong m (entries p.gains) P (λ i. q *ℤ quot_z (numerator i) q) (λ i l. sym (divided_numerator i l ∙ numerator_is i l))
        ∙ dot_scale m q (entries p.gains) lowest.numerators)
        ∙ exact q (dot m (entries p.gains) lowest.numerators) positive

    lowest_command : (xs : List ℤ) → xs ≡ fraction_list m (λ i. quot_z (numerator i) q) (quot_z (entries ws 0) q) (quot_z gain q) → (v : Command) × IsInLowestTerms p (command_at p X θ) v × (xs ≡ command_list p v)
    lowest_command xs e = (lowest, lowest_terms, e ∙ ap (fraction_list m lowest.numerators lowest.denominator) divided_gain)

-- The answer, for words of a shape.
command_answered : (c : Shape) (θ ws : List ℤ) (q : ℤ) (xs : List ℤ) → pos 0 <ℤ q → Gcd (suc c.commands) (first_then (entries ws 0) (λ i. neg_ℤ (column_at c θ ws (1 + i)))) q
    → xs ≡ fraction_list c.commands (λ i. quot_z (neg_ℤ (column_at c θ ws (1 + i))) q) (quot_z (entries ws 0) q) (quot_z (neg_ℤ (column_at c θ ws 0)) q) → CommandAnswer c θ ws xs
command_answered c θ ws q xs positive G e p X same H =
    let at = λ (s : Shape). (Gcd (suc s.commands) (first_then (entries ws 0) (λ i. neg_ℤ (column_at s θ ws (1 + i)))) q
    → xs ≡ fraction_list s.commands (λ i. quot_z (neg_ℤ (column_at s θ ws (1 + i))) q) (quot_z (entries ws 0) q) (quot_z (neg_ℤ (column_at s θ ws 0)) q)
    → (v : Command) × IsInLowestTerms p (command_at p X θ) v × (xs ≡ command_list p v)) in
    subst at (sym same) (λ G' e'. lowest_command p X θ ws H q positive G' xs e') G e

-- The same from the numbers before the division, of which the first m + 2 are divided.
pub divided_answered : (c : Shape) (θ ws : List ℤ) (q : ℤ) (xs ys : List ℤ) → pos 0 <ℤ q
    → xs ≡ fraction_list c.commands (λ i. neg_ℤ (column_at c θ ws (1 + i))) (entries ws 0) (neg_ℤ (column_at c θ ws 0))
    → Gcd (suc (length (take c.commands xs))) (first_then (entries ws 0) (entries (take c.commands xs))) q
    → ys ≡ map (λ z. quot_z z q) (take (c.commands + 2) xs) → CommandAnswer c θ ws (ys ++ drop (c.commands + 2) xs)
divided_answered c θ ws q xs ys positive e G divided =
    let m = c.commands in
    let f = λ (i : ℕ). neg_ℤ (column_at c θ ws (1 + i)) in
    let g = neg_ℤ (column_at c θ ws 0) in
    let front : take m xs ≡ first m f = ap (take m) e ∙ fraction_front m f (entries ws 0) g in
    let G₁ : Gcd (suc (length (first m f))) (first_then (entries ws 0) (entries (first m f))) q = subst (λ (zs : List ℤ). Gcd (suc (length zs)) (first_then (entries ws 0) (entries zs)) q) front G in
    let G₂ : Gcd (suc m) (first_then (entries ws 0) (entries (first m f))) q = subst (λ n. Gcd (suc n) (first_then (entries ws 0) (entries (first m f))) q) (first_length m f) G₁ in
    command_answered c θ ws q (ys ++ drop (m + 2) xs) positive (gcd_cong (suc m) _ _ q (first_then_cong m (entries ws 0) (entries (first m f)) f (first_at m f)) G₂)
    (ap (λ zs. zs ++ drop (m + 2) xs) divided ∙ ap (λ zs. map (λ z. quot_z z q) (take (m + 2) zs) ++ drop (m + 2) zs) e ∙ fraction_mapped m f (entries ws 0) g (λ z. quot_z z q))
