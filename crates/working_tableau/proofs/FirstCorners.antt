-- From the end of a search to what a start comes to.
use Rattle.std.proofs.Common.{◌≡◌, ℕ, ◌+◌, ◌-◌, ◌<◌, ◌≤◌, List, ℤ, pos, ◌-ℤ◌, ◌*ℤ◌, ◌≤ℤ◌, ◌<ℤ◌, Ok, Err, Result, sym, refl, ap, ◌∙◌, subst, arith}
use Rattle.std.proofs.lemmas.Int.{ints}
use Rattle.std.proofs.lemmas.Bool.{eq-eqb, ne_eqb, le-leb, lt-leb}
use Rattle.exact.specs.Bounds.{InWidth}
use Rattle.exact.specs.Vectors.{dot}
use Rattle.plant.specs.Commands.{column}
use Rattle.plant.specs.Meaning.{Meaning, shape_of}
use Rattle.tableau.specs.Plants.{commands, limits, rate, all_columns, CornerOf, SearchCorner}
use Rattle.tableau.specs.Tableau.{TableauInWidth, entry, law, slack_rate}
use Rattle.tableau.proofs.Artificial.{extended_true}
use Rattle.tableau.proofs.Searches.{true_limits}
use Rattle.words.specs.declared.counts.Shape.{Shape}
use Rattle.words.specs.declared.refusal.Refusal.{Refusal}
use Rattle.tableau_words.specs.Held.{Held, basis_row, reading_row}
use Rattle.tableau_words.specs.Layout.{row_width}
use Rattle.tableau_words.proofs.Rewritten.{by_column}
use Rattle.corner_words.specs.Reads.{OwnLimits}
use Rattle.corner_runs.specs.Answers.{HoldsCorner, HoldsSearch, SomeSearch, StartEndedAt, SearchFrom, SearchAnswer}
use Rattle.corner_runs.specs.declared.search.OutOfWidthAt.{OutOfWidthAt}
use Rattle.corner_runs.specs.declared.search.Searched.{Searched}
use Rattle.first_tableau.specs.First.{HoldsFirst}
use Rattle.map_steps.specs.Steps.{SameBasis, SearchTo}
use Rattle.map_steps.specs.declared.reply.Reached.{Reached}
use Rattle.working_tableau.specs.Starts.{SomeArtificial, KeptSearch, SearchUnless, unbounded, corner, StartConcluded, StartConclusion, FirstCorner, found, no_best, wide}

-- Within the plant's limits, the columns are the plant's own.
module _ (p : Meaning) (β : ℕ → ℕ) (D : ℤ) (U : ℕ → ℕ → ℤ) where
  own : (j : ℕ) → j < limits p → all_columns p j ≡ column p j
  own j l = extended_true (limits p) _ (column p) j l

  own_entry : (r j : ℕ) → j < limits p → entry p (all_columns p) U r j ≡ entry p (column p) U r j
  own_entry r j l = ap (λ f. dot (commands p) f (U r)) (own j l)

  own_slack : (k j : ℕ) → j < limits p → slack_rate p (all_columns p) β D U k j ≡ slack_rate p (column p) β D U k j
  own_slack k j l = ap (λ f. D *ℤ rate p k j -ℤ dot (commands p) f (law p β U k)) (own j l)

  own_basis_row : (r i : ℕ) → i < row_width (shape_of p) → basis_row p (all_columns p) β D U r i ≡ basis_row p (column p) β D U r i
  own_basis_row r i h = by_column _ (commands p) i
      (λ z. rw (eq-eqb i 0 z) refl)
      (λ n k. rw (ne_eqb i 0 n, le-leb i (commands p) k) refl)
      (λ n k. rw (ne_eqb i 0 n, lt-leb i (commands p) k) (own_entry r (i - (1 + commands p)) (omega arith)))

  own_reading_row : (k i : ℕ) → i < row_width (shape_of p) → reading_row p (all_columns p) β D U k i ≡ reading_row p (column p) β D U k i
  own_reading_row k i h = by_column _ (commands p) i
      (λ z. rw (eq-eqb i 0 z) refl)
      (λ n q. rw (ne_eqb i 0 n, le-leb i (commands p) q) refl)
      (λ n q. rw (ne_eqb i 0 n, lt-leb i (commands p) q) (own_slack k (i - (1 + commands p)) (omega arith)))

  own_held : (ws : List ℤ) → Held p (all_columns p) β D U ws → Held p (column p) β D U ws
  own_held ws H = record {
    long = H.long;
    denominator = H.denominator;
    limits = H.limits;
    basis_rows = λ r i l h. H.basis_rows r i l h ∙ own_basis_row r i h;
    reading_rows = λ k i l h. H.reading_rows k i l h ∙ own_reading_row k i h;
  }

  own_width : TableauInWidth p (limits p) (all_columns p) β D U → TableauInWidth p (limits p) (column p) β D U
  own_width W = record {
    denominator = W.denominator;
    row_gains = W.row_gains;
    rows = W.rows;
    entries = λ r j l h. subst InWidth (own_entry r j h) (W.entries r j l h);
    law_gains = W.law_gains;
    laws = W.laws;
    slack_rates = λ k j l h. subst InWidth (own_slack k j h) (W.slack_rates k j l h);
  }

-- A corner of the search whose rows all belong to limits of the plant is a corner of the plant, in the same words.
module _ (p : Meaning) (Y : SearchCorner p) (ws : List ℤ) (H : HoldsSearch p Y ws) where
  limits_known : OwnLimits (shape_of p) ws → (r : ℕ) → r < commands p → Y.β r < limits p
  limits_known own r l = let h : pos (Y.β r) <ℤ pos (limits p) = subst (λ z. z <ℤ pos (limits p)) (H.held.limits r l) (own r l) in omega (arith, ints)

  pub own_corner : OwnLimits (shape_of p) ws → (X : CornerOf p) × SameBasis p X Y × HoldsCorner p X ws
  own_corner own = by (true_limits p Y (limits_known own))
    where
      by : (C : CornerOf p) × (C.β ≡ Y.β) × (C.D ≡ Y.D) × (C.U ≡ Y.U) → (X : CornerOf p) × SameBasis p X Y × HoldsCorner p X ws
      by (C, eβ, eD, eU) =
          let Q = λ (β : ℕ → ℕ) (D : ℤ) (U : ℕ → ℕ → ℤ). Held p (column p) β D U ws × TableauInWidth p (limits p) (column p) β D U in
          let q : Q Y.β Y.D Y.U = (own_held p Y.β Y.D Y.U ws H.held, own_width p Y.β Y.D Y.U H.in_width) in
          let h : Q C.β C.D C.U = subst (λ β. Q β C.D C.U) (sym eβ) (subst (λ D. Q Y.β D C.U) (sym eD) (subst (λ U. Q Y.β Y.D U) (sym eU) q)) in
          (C, (λ r l. ap (λ β. β r) eβ), record { held = h.0; in_width = h.1 })

  pub some_artificial_left : SomeArtificial (shape_of p) ws → (r : ℕ) × (r < commands p) × (limits p ≤ Y.β r)
  some_artificial_left (r, l, h) = let k : pos (limits p) ≤ℤ pos (Y.β r) = subst (λ z. pos (limits p) ≤ℤ z) (H.held.limits r l) h in (r, l, omega (arith, ints))

module _ (c : Shape) (p : Meaning) (s : c ≡ shape_of p) (ws : List ℤ) where
  -- The first corner of the search, for what the search asks.
  pub first_kept : HoldsFirst p ws → SomeSearch c ws
  first_kept F = record { p = p; X = F.corner; shape = s; holds = record { held = F.held; in_width = F.in_width } }

  module _ (F : HoldsFirst p ws) (after : List ℤ) (r : Searched) (A : SearchAnswer c ws after r) where
    searched : SearchFrom p F.corner after r
    searched = A p F.corner s (record { held = F.held; in_width = F.in_width })

    kept : (Y : SearchCorner p) (e : Result Unit OutOfWidthAt) → StartEndedAt p Y after e → KeptSearch c after e
    kept Y (Ok u) E = record { p = p; X = Y; shape = s; holds = E.1 }
    kept Y (Err j) E = rw s E.least.known

    pub search_kept : KeptSearch c after r.end
    search_kept = kept searched.at r.end searched.ended

    there : (Y : SearchCorner p) (e : Result Unit OutOfWidthAt) → StartEndedAt p Y after e → SearchUnless p Y after e
    there Y (Ok u) E = E.1
    there Y (Err j) E = tt

    -- The search, its end and what was told, together.
    module _ (tray tray' : List ℤ) where
      told : (x : Result Reached Refusal) (Y : SearchCorner p) → SearchTo p r.exchanges Y → (e : Result Unit OutOfWidthAt) → StartEndedAt p Y after e → StartConcluded p Y after tray tray' r.exchanges x e → FirstCorner p after tray tray' x
      told x Y run (Ok u) E (unbounded left laid) = no_best r.exchanges Y run E.0 left laid
      told x Y run (Ok u) E (corner {a} X same holds mask made untouched) = found Y X (subst (λ k. SearchTo p k Y) (sym made) run) E.0 same holds mask untouched
      told x Y run (Err j) E (is, untouched) = subst (FirstCorner p after tray tray') (sym is) (wide r.exchanges j.0 Y run E refl untouched)

      pub first_told : (x : Result Reached Refusal) → StartConclusion c after tray tray' r x → FirstCorner p after tray tray' x
      first_told x C = told x searched.at (record { first = F.corner; artificial = F.artificial; run = searched.run }) r.end searched.ended (C p searched.at s (there searched.at r.end searched.ended))
