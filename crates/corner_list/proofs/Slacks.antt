-- Regions from slacks, one limit after another.
use Rattle.std.proofs.Common.{◌≡◌, ℕ, ◌+◌, ◌<◌, List, take, ℤ, pos, ◌≤ℤ◌, ◌<ℤ◌, subst, arith, below_more}
use Rattle.std.proofs.lemmas.Int.{ints}
use Rattle.plant.specs.Commands.{column}
use Rattle.plant.specs.Meaning.{Meaning, shape_of}
use Rattle.tableau.specs.Plants.{CornerOf}
use Rattle.tableau.specs.Readings.{slack_at}
use Rattle.words.specs.declared.counts.Shape.{Shape}
use Rattle.tableau_words.specs.Layout.{size}
use Rattle.tableau_words.specs.Slacks.{SlackAnswer}
use Rattle.corner_runs.specs.Answers.{HoldsCorner}
use Rattle.corner_list.specs.Records.{tableau_in}
use Rattle.corner_list.specs.Regions.{OutOfRegion}
use Rattle.corner_list.specs.declared.corner.Corner.{Corner}

module _ (c : Shape) (θ : List ℤ) (r : Corner) where
  -- At any corner that the record holds the first k limits have no negative slack.
  abbrev pub ClearTo : ℕ → Type 0
  ClearTo k = (j : ℕ) → j < k → (p : Meaning) (X : CornerOf p) → c ≡ shape_of p → HoldsCorner p X (tableau_in c r) → pos 0 ≤ℤ slack_at p X θ j

  -- The slack z of limit j, from the first n words.
  module _ (n j : ℕ) (z : ℤ) (e : n ≡ size c) (S : SlackAnswer c θ j (take n r.words) z) where
    is_slack : (p : Meaning) (X : CornerOf p) → c ≡ shape_of p → HoldsCorner p X (tableau_in c r) → z ≡ slack_at p X θ j
    is_slack p X s H = subst (λ k. SlackAnswer c θ j (take k r.words) z) e S p (column p) X.β X.D X.U s H.held

    pub negative_out : j < c.limits → z <ℤ pos 0 → OutOfRegion c θ r
    negative_out l below p X s H R =
        let at = R j (subst (λ (q : Shape). j < q.limits) s l) in
        omega (arith, ints, is_slack p X s H)

    pub clear_more : pos 0 ≤ℤ z → ClearTo j → ClearTo (j + 1)
    clear_more above C = below_more _ _ C (λ p X s H. subst (λ x. pos 0 ≤ℤ x) (is_slack p X s H) above)
