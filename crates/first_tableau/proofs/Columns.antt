-- The rows of the tableau of the artificial limits, column by column.
use Rattle.std.proofs.Common.{◌≡◌, ℕ, ◌+◌, ◌-◌, ◌<◌, ◌≤◌, ℤ, pos, ◌*ℤ◌, neg_ℤ, sym, ap, ◌∙◌, ⊎_elim, arith, w64, SFits, to_z, of_z}
use Rattle.std.proofs.lemmas.Int.{to_z-of_z}
use Rattle.std.proofs.lemmas.Bool.{eq-eqb, ne_eqb, le-leb, lt-leb, lt-ltb, le-ltb, cases_eq}
use Rattle.exact.specs.Vectors.{entries}
use Rattle.exact.proofs.Ring.{one-*}
use Rattle.plant.specs.Meaning.{Meaning, shape_of}
use Rattle.plant.specs.Commands.{column}
use Rattle.tableau.specs.Artificial.{sign_of}
use Rattle.tableau.specs.Plants.{commands, rate}
use Rattle.tableau.proofs.Artificial.{diag_same}
use Rattle.tableau_words.specs.Layout.{row_width}
use Rattle.first_tableau.specs.First.{first_basis_row, first_reading_row, first_number}
use Rattle.first_tableau.proofs.FirstNumbers.{first_gain, first_entry, first_law, first_law_gain, first_slack}

-- What the code hands out after it has turned a number's sign.
pub turned_is : (n g r x : ℤ) → SFits w64 n → SFits w64 g → SFits w64 r → r ≡ to_z w64 (of_z w64 n) *ℤ sign_of (to_z w64 (of_z w64 g)) → x ≡ n *ℤ sign_of g → to_z w64 (of_z w64 r) ≡ x
turned_is n g r x fits_n fits_g fits_r e same = to_z-of_z w64 r fits_r ∙ e ∙ rw (to_z-of_z w64 n fits_n, to_z-of_z w64 g fits_g) (sym same)

module _ (p : Meaning) where
  module _ (r : ℕ) (l : r < commands p) (g : ℤ) (gain : g ≡ entries p.gains r) (i : ℕ) where
    pub gain_column : i ≡ 0 → first_basis_row p r i ≡ g *ℤ sign_of g
    gain_column e = rw (eq-eqb i 0 e, gain) (first_gain p r l)

    pub own_column : i ≡ 1 + r → first_basis_row p r i ≡ pos 1 *ℤ sign_of g
    own_column e =
        let back : i - 1 ≡ r = omega arith in
        rw (ne_eqb i 0 (λ z. omega arith), le-leb i (commands p) (omega arith), back, gain) (diag_same (λ i. sign_of (entries p.gains i)) r ∙ sym (one-* (sign_of (entries p.gains r))))

    pub limit_column : (list : ℕ) → list ≡ 1 + commands p → list ≤ i → i < row_width (shape_of p) → (a : ℤ) → a ≡ column p (i - list) r → first_basis_row p r i ≡ a *ℤ sign_of g
    limit_column list e h in' a number =
        rw (ne_eqb i 0 (λ z. omega arith), lt-leb i (commands p) (omega arith), number, gain, e) (first_entry p r (i - (1 + commands p)) l (omega arith))

  module _ (k i : ℕ) where
    pub no_number : i < 1 + commands p → first_reading_row p k i ≡ pos 0
    no_number h = ⊎_elim
        (λ e. rw (eq-eqb i 0 e) (ap neg_ℤ (first_law_gain p k)))
        (λ d. rw (ne_eqb i 0 d, le-leb i (commands p) (omega arith)) (ap neg_ℤ (first_law p k (i - 1))))
        (cases_eq i 0)

    pub rate_column : (list : ℕ) → list ≡ 1 + commands p → list ≤ i → first_reading_row p k i ≡ rate p k (i - list)
    rate_column list e h =
        rw (ne_eqb i 0 (λ z. omega arith), lt-leb i (commands p) (omega arith), e) (first_slack p k (i - (1 + commands p)))

  -- The rows of the basis come first.
  pub in_basis : (s i : ℕ) → s < commands p → first_number p s i ≡ first_basis_row p s i
  in_basis s i h = rw (lt-ltb s (commands p) h)

  pub in_readings : (s i : ℕ) → commands p ≤ s → first_number p s i ≡ first_reading_row p (s - commands p) i
  in_readings s i h = rw (le-ltb s (commands p) h)
