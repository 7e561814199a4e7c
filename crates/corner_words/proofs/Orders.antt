-- A corner's tableau is one but for the order of its rows, so that its width does not depend on that order.
use Rattle.std.proofs.Common.{◌≡◌, ℕ, ◌<◌, ℤ, ◌-ℤ◌, ◌*ℤ◌, sym, ap, ◌∙◌, subst}
use lib.IntN.{*ℤ_comm}
use Rattle.exact.specs.Bounds.{InWidth}
use Rattle.exact.specs.Vectors.{dot, entries}
use Rattle.exact.proofs.Ring.{cancel}
use Rattle.exact.proofs.Sums.{dot_cong}
use Rattle.plant.specs.Meaning.{Meaning}
use Rattle.tableau.specs.Basis.{Among}
use Rattle.tableau.specs.Plants.{commands, rate}
use Rattle.tableau.specs.Tableau.{law, slack_rate}
use Rattle.tableau.proofs.Lowest.{among_back, lowest_d, lowest_u}
use Rattle.tableau.proofs.Unique.{same_point}
use Rattle.corner_words.specs.Corners.{CornerIn, InWidthAt}

module _ (p : Meaning) (n : ℕ) (a : ℕ → ℕ → ℤ) (X Y : CornerIn p n a) (same : Among (commands p) X.β Y.β) where
  abbrev m : ℕ
  m = commands p

  same_denominator : X.D ≡ Y.D
  same_denominator = lowest_d m a X.β X.D X.U X.inverse Y.β Y.D Y.U Y.inverse same X.lowest Y.lowest

  -- The row of Y has the numbers of a row of X.
  same_row : (s : ℕ) → s < m → (r : ℕ) × (r < m) × ((c : ℕ) → c < m → X.U r c ≡ Y.U s c)
  same_row s l =
      let (r, k, e) = among_back m a X.β X.D X.U X.inverse Y.β Y.D Y.U Y.inverse same s l in
      (r, k, λ c h. sym (lowest_u m a X.β X.D X.U X.inverse Y.β Y.D Y.U Y.inverse same X.lowest Y.lowest r s k l (sym e) c h))

  same_law : (k c : ℕ) → c < m → law p X.β X.U k c ≡ law p Y.β Y.U k c
  same_law k c h =
      let x = law p X.β X.U k c in
      let y = law p Y.β Y.U k c in
      let e : X.D *ℤ y ≡ Y.D *ℤ x = same_point m a X.β X.D X.U X.inverse Y.β Y.D Y.U Y.inverse same (rate p k) c h in
      cancel x y X.D X.inverse.dpos (*ℤ_comm x X.D ∙ ap (λ z. z *ℤ x) same_denominator ∙ sym e ∙ *ℤ_comm X.D y)

  pub same_slack : (k j : ℕ) → slack_rate p a X.β X.D X.U k j ≡ slack_rate p a Y.β Y.D Y.U k j
  same_slack k j = ap (λ z. z *ℤ rate p k j -ℤ dot m (a j) (law p X.β X.U k)) same_denominator
      ∙ ap (λ z. Y.D *ℤ rate p k j -ℤ z) (dot_cong m (a j) (law p X.β X.U k) (law p Y.β Y.U k) (same_law k))

  pub in_width_same : InWidthAt p n a X → InWidthAt p n a Y
  in_width_same W = record {
    denominator = subst InWidth same_denominator W.denominator;
    row_gains = λ s l. let (r, k, e) = same_row s l in subst InWidth (dot_cong m (entries p.gains) (X.U r) (Y.U s) e) (W.row_gains r k);
    rows = λ s c l h. let (r, k, e) = same_row s l in subst InWidth (e c h) (W.rows r c k h);
    entries = λ s j l h. let (r, k, e) = same_row s l in subst InWidth (dot_cong m (a j) (X.U r) (Y.U s) e) (W.entries r j k h);
    law_gains = λ k l. subst InWidth (dot_cong m (entries p.gains) (law p X.β X.U k) (law p Y.β Y.U k) (same_law k)) (W.law_gains k l);
    laws = λ k c l h. subst InWidth (same_law k c h) (W.laws k c l h);
    slack_rates = λ k j l h. subst InWidth (same_slack k j) (W.slack_rates k j l h);
  }
