-- The corner that some words hold, told by the numbers of the words alone.
use Rattle.std.proofs.Common.{◌≡◌, ℕ, suc, ◌+◌, ◌-◌, ◌<◌, List, ℤ, pos, ◌-ℤ◌, ◌*ℤ◌, neg_ℤ, nat_abs, ◌<ℤ◌, sym, refl, ap, ◌∙◌, subst, ap₂, arith}
use std.Logic.{∥∥₁_elim}
use denote.Struct.Props.{props}
use Rattle.std.proofs.lemmas.Bool.{eq-eqb, ne_eqb, le-leb, lt-leb}
use Rattle.exact.specs.Divisors.{Divides}
use Rattle.exact.specs.Lists.{Positive}
use Rattle.exact.specs.LowestTerms.{Lowest}
use Rattle.exact.specs.Vectors.{entries, dot}
use Rattle.exact.proofs.Positive.{pos_cong, decide}
use Rattle.exact.proofs.Sums.{sum_cong, dot_cong}
use Rattle.plant.specs.Commands.{column, value}
use Rattle.plant.specs.Meaning.{Meaning, shape_of}
use Rattle.tableau.specs.Basis.{Inverse}
use Rattle.tableau.specs.Plants.{commands, limits, rate, CornerOf}
use Rattle.tableau.specs.Tableau.{law, slack_rate}
use Rattle.tableau.proofs.Readings.{plant_value}
use Rattle.tableau_words.specs.Held.{basis_row, reading_row}
use Rattle.tableau_words.specs.Layout.{number_at}
use Rattle.tableau_words.proofs.Across.{in_command}
use Rattle.tableau_words.proofs.Rewritten.{by_column}
use Rattle.corner_words.proofs.Masks.{limit_in}
use Rattle.corner_words.proofs.Orders.{in_width_same}
use Rattle.corner_runs.specs.Answers.{HoldsCorner}
use Rattle.corner_list.specs.Records.{CornerWords}

-- The denominator in the words; `limit_in` is the limit of a row.
abbrev pub denominator_in : List ℤ → ℤ
denominator_in ws = entries ws 0

-- U_ri in the words.
abbrev pub entry_in : Meaning → List ℤ → ℕ → ℕ → ℤ
entry_in p ws r i = number_at (shape_of p) ws r (1 + i)

-- What the words say of a corner whose tableau they hold.
module _ (p : Meaning) (ws : List ℤ) (X : CornerOf p) (H : HoldsCorner p X ws) where
  abbrev m : ℕ
  m = commands p

  abbrev D : ℤ
  D = denominator_in ws

  abbrev U : ℕ → ℕ → ℤ
  U = entry_in p ws

  pub same_limit : (r : ℕ) → r < m → limit_in ws r ≡ X.β r
  same_limit r l = ap nat_abs (H.held.limits r l)

  same_entry : (r i : ℕ) → r < m → i < m → U r i ≡ X.U r i
  same_entry r i l h = H.held.basis_rows r (1 + i) l (omega arith) ∙ in_command p (column p) X.β X.D X.U r i h

  same_dot : (y : ℕ → ℤ) (r : ℕ) → r < m → dot m y (U r) ≡ dot m y (X.U r)
  same_dot y r l = dot_cong m y (U r) (X.U r) (λ c h. same_entry r c l h)

  same_column : (r s : ℕ) → r < m → s < m → dot m (column p (limit_in ws s)) (U r) ≡ dot m (column p (X.β s)) (X.U r)
  same_column r s l k = ap (λ j. dot m (column p j) (U r)) (same_limit s k) ∙ same_dot (column p (X.β s)) r l

  same_law : (k i : ℕ) → i < m → law p (limit_in ws) U k i ≡ law p X.β X.U k i
  same_law k i h = sum_cong m _ _ (λ r l. ap₂ ◌*ℤ◌ (ap (rate p k) (same_limit r l)) (same_entry r i l h))

  same_slack : (k j : ℕ) → slack_rate p (column p) (limit_in ws) D U k j ≡ slack_rate p (column p) X.β X.D X.U k j
  same_slack k j = ap₂ ◌-ℤ◌ (ap (λ z. z *ℤ rate p k j) H.held.denominator) (dot_cong m (column p j) _ _ (same_law k))

  -- That corner again.
  abbrev told : CornerOf p
  told = record {
    β = limit_in ws;
    D = D;
    U = U;
    known = λ r l. subst (λ j. j < limits p) (sym (same_limit r l)) (X.known r l);
    inverse = record {
      dpos = subst (λ z. pos 0 <ℤ z) (sym H.held.denominator) X.inverse.dpos;
      left_same = λ r l. same_column r r l l ∙ X.inverse.left_same r l ∙ sym H.held.denominator;
      left_other = λ r s l k d. same_column r s l k ∙ X.inverse.left_other r s l k d;
      right_same = λ c h. sum_cong m _ _ (λ r l. ap₂ ◌*ℤ◌ (same_entry r c l h) (ap (λ j. column p j c) (same_limit r l))) ∙ X.inverse.right_same c h ∙ sym H.held.denominator;
      right_other = λ c k h q d. sum_cong m _ _ (λ r l. ap₂ ◌*ℤ◌ (same_entry r c l h) (ap (λ j. column p j k) (same_limit r l))) ∙ X.inverse.right_other c k h q d;
    };
    lowest = λ d a divides each. X.lowest d a (subst (Divides d) H.held.denominator divides) (λ r c l h. subst (Divides d) (same_entry r c l h) (each r c l h));
    rows = λ r l. pos_cong (suc m) _ _ ((plant_value p).cong (X.U r) (U r) (λ c h. sym (same_entry r c l h))) (X.rows r l);
  }

  told_basis_row : (r i : ℕ) → r < m → basis_row p (column p) X.β X.D X.U r i ≡ basis_row p (column p) (limit_in ws) D U r i
  told_basis_row r i l = by_column _ m i
      (λ z. rw (eq-eqb i 0 z) (sym (same_dot (entries p.gains) r l)))
      (λ n h. rw (ne_eqb i 0 n, le-leb i m h) (sym (same_entry r (i - 1) l (omega arith))))
      (λ n h. rw (ne_eqb i 0 n, lt-leb i m h) (sym (same_dot (column p (i - (1 + m))) r l)))

  told_reading_row : (k i : ℕ) → reading_row p (column p) X.β X.D X.U k i ≡ reading_row p (column p) (limit_in ws) D U k i
  told_reading_row k i = by_column _ m i
      (λ z. rw (eq-eqb i 0 z) (ap neg_ℤ (sym (dot_cong m (entries p.gains) _ _ (same_law k)))))
      (λ n h. rw (ne_eqb i 0 n, le-leb i m h) (ap neg_ℤ (sym (same_law k (i - 1) (omega arith)))))
      (λ n h. rw (ne_eqb i 0 n, lt-leb i m h) (sym (same_slack k (i - (1 + m)))))

  told_holds : HoldsCorner p told ws
  told_holds = record {
    held = record {
      long = H.held.long;
      denominator = refl;
      limits = λ r l. H.held.limits r l ∙ ap pos (sym (same_limit r l));
      basis_rows = λ r i l h. H.held.basis_rows r i l h ∙ told_basis_row r i l;
      reading_rows = λ k i l h. H.held.reading_rows k i l h ∙ told_reading_row k i;
    };
    in_width = in_width_same p (limits p) (column p) X told (λ r l. (r, l, same_limit r l)) H.in_width;
  }

-- The numbers of the words that hold some corner are those of a corner.
module _ (p : Meaning) (ws : List ℤ) (t : CornerWords p ws) where
  -- What holds of each corner that the words hold, and can hold in one way only.
  of_each : {P : Type 0} → IsProp P → ((X : CornerOf p) → HoldsCorner p X ws → P) → P
  of_each one f = ∥∥₁_elim t one (λ h. f h.0 h.1)

  pub known_in : (r : ℕ) → r < commands p → limit_in ws r < limits p
  known_in = of_each (hlevel props) (λ X H. (told p ws X H).known)

  pub inverse_in : Inverse (commands p) (column p) (limit_in ws) (denominator_in ws) (entry_in p ws)
  inverse_in = record {
    dpos = of_each (hlevel props) (λ X H. (told p ws X H).inverse.dpos);
    left_same = of_each (hlevel props) (λ X H. (told p ws X H).inverse.left_same);
    left_other = of_each (hlevel props) (λ X H. (told p ws X H).inverse.left_other);
    right_same = of_each (hlevel props) (λ X H. (told p ws X H).inverse.right_same);
    right_other = of_each (hlevel props) (λ X H. (told p ws X H).inverse.right_other);
  }

  pub lowest_in : Lowest (commands p) (denominator_in ws) (entry_in p ws)
  lowest_in = of_each (hlevel props) (λ X H. (told p ws X H).lowest)

  pub positive_in : (r : ℕ) → r < commands p → Positive (suc (commands p)) (value p (entry_in p ws r))
  positive_in r l = elim (decide (suc (commands p)) (value p (entry_in p ws r))) [ yes h ↦ h | no n ↦ absurd (of_each (hlevel props) (λ X H. n ((told p ws X H).rows r l))) ]

  abbrev pub corner_in : CornerOf p
  corner_in = record { β = limit_in ws; D = denominator_in ws; U = entry_in p ws; known = known_in; inverse = inverse_in; lowest = lowest_in; rows = positive_in }

  pub corner_in_holds : HoldsCorner p corner_in ws
  corner_in_holds = record {
    held = record {
      long = of_each (hlevel props) (λ X H. (told_holds p ws X H).held.long);
      denominator = refl;
      limits = of_each (hlevel props) (λ X H. (told_holds p ws X H).held.limits);
      basis_rows = of_each (hlevel props) (λ X H. (told_holds p ws X H).held.basis_rows);
      reading_rows = of_each (hlevel props) (λ X H. (told_holds p ws X H).held.reading_rows);
    };
    in_width = record {
      denominator = of_each (hlevel props) (λ X H. (told_holds p ws X H).in_width.denominator);
      row_gains = of_each (hlevel props) (λ X H. (told_holds p ws X H).in_width.row_gains);
      rows = of_each (hlevel props) (λ X H. (told_holds p ws X H).in_width.rows);
      entries = of_each (hlevel props) (λ X H. (told_holds p ws X H).in_width.entries);
      law_gains = of_each (hlevel props) (λ X H. (told_holds p ws X H).in_width.law_gains);
      laws = of_each (hlevel props) (λ X H. (told_holds p ws X H).in_width.laws);
      slack_rates = of_each (hlevel props) (λ X H. (told_holds p ws X H).in_width.slack_rates);
    };
  }
