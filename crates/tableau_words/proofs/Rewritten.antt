-- An exchange rewrites every row that is held, by one formula.
use Rattle.std.proofs.Common.{◌≡◌, ℕ, ◌+◌, ◌-◌, ◌<◌, ◌≤◌, ℤ, ◌+ℤ◌, ◌-ℤ◌, ◌*ℤ◌, neg_ℤ, ⊎_elim, arith}
use Rattle.std.proofs.lemmas.Bool.{eq-eqb, ne_eqb, le-leb, lt-leb, cases_eq, cases_lt}
use Rattle.exact.proofs.Ring.{lin, expand}
use Rattle.plant.specs.Meaning.{Meaning}
use Rattle.tableau.specs.Basis.{Inverse}
use Rattle.tableau.specs.Exchange.{Exchanged}
use Rattle.tableau.specs.Plants.{commands}
use Rattle.tableau.specs.Tableau.{row_gain, entry, law, law_gain, slack_rate}
use Rattle.tableau.proofs.Exchanges.{rewrites}
use Rattle.tableau_words.specs.Held.{basis_row, reading_row}

-- A column is that of the gain, of a command or of a limit.
pub by_column : (Q : Type 0) (m i : ℕ) → (i ≡ 0 → Q) → ((i ≡ 0 → ⊥) → i ≤ m → Q) → ((i ≡ 0 → ⊥) → m < i → Q) → Q
by_column Q m i a b c = ⊎_elim a (λ n. ⊎_elim (λ h. b n (omega arith)) (λ h. c n (omega arith)) (cases_lt i (1 + m))) (cases_eq i 0)

negated : (g t s x y z : ℤ) → g *ℤ x ≡ t *ℤ y +ℤ s *ℤ z → g *ℤ neg_ℤ x ≡ t *ℤ neg_ℤ y -ℤ s *ℤ z
negated g t s x y z e = simp expand (omega (arith, lin, e))

module _ (p : Meaning) (a : ℕ → ℕ → ℤ) (β : ℕ → ℕ) (D : ℤ) (U : ℕ → ℕ → ℤ) (r j : ℕ) (g : ℤ) (β' : ℕ → ℕ) (D' : ℤ) (U' : ℕ → ℕ → ℤ)
    (B : Inverse (commands p) a β D U) (X : Exchanged (commands p) a β D U r j g β' D' U') where
  pub pivot_row : (i : ℕ) → g *ℤ basis_row p a β' D' U' r i ≡ D *ℤ basis_row p a β D U r i
  pivot_row i =
      let R = rewrites p a β D U r j g β' D' U' B X in
      by_column _ (commands p) i
      (λ z. rw (eq-eqb i 0 z) R.pivot_gain)
      (λ n h. rw (ne_eqb i 0 n, le-leb i (commands p) h) (X.pivot_row (i - 1) (omega arith)))
      (λ n h. rw (ne_eqb i 0 n, lt-leb i (commands p) h) (R.pivot_entries (i - (1 + commands p))))

  pub other_row : (s i : ℕ) → s < commands p → ¬ (s ≡ r) → g *ℤ basis_row p a β' D' U' s i ≡ entry p a U r j *ℤ basis_row p a β D U s i -ℤ entry p a U s j *ℤ basis_row p a β D U r i
  other_row s i l ne =
      let R = rewrites p a β D U r j g β' D' U' B X in
      by_column _ (commands p) i
      (λ z. rw (eq-eqb i 0 z) (R.row_gains s l ne))
      (λ n h. rw (ne_eqb i 0 n, le-leb i (commands p) h) (X.other_row s l ne (i - 1) (omega arith)))
      (λ n h. rw (ne_eqb i 0 n, lt-leb i (commands p) h) (R.entries s (i - (1 + commands p)) l ne))

  pub readings_row : (k i : ℕ) → g *ℤ reading_row p a β' D' U' k i ≡ entry p a U r j *ℤ reading_row p a β D U k i -ℤ slack_rate p a β D U k j *ℤ basis_row p a β D U r i
  readings_row k i =
      let R = rewrites p a β D U r j g β' D' U' B X in
      by_column _ (commands p) i
      (λ z. rw (eq-eqb i 0 z) (negated g (entry p a U r j) (slack_rate p a β D U k j) (law_gain p β' U' k) (law_gain p β U k) (row_gain p U r) (R.law_gains k)))
      (λ n h. rw (ne_eqb i 0 n, le-leb i (commands p) h) (negated g (entry p a U r j) (slack_rate p a β D U k j) (law p β' U' k (i - 1)) (law p β U k (i - 1)) (U r (i - 1)) (R.laws k (i - 1) (omega arith))))
      (λ n h. rw (ne_eqb i 0 n, lt-leb i (commands p) h) (R.slack_rates k (i - (1 + commands p))))
