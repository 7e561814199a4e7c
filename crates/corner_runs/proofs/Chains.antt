-- The run of a solve is a run of the plant, and so it is short.
use Rattle.std.proofs.Common.{◌≡◌, ℕ, suc, ◌+◌, ◌<◌, List, [], ◌∷◌, ◌++◌, length, ℤ, sym, ap, ◌∙◌, subst, arith, length-append}
use Rattle.plant.specs.Meaning.{Meaning}
use Rattle.tableau.specs.Chain.{done, more}
use Rattle.tableau.specs.Choose.{choose}
use Rattle.tableau.specs.Plants.{commands, limits, CornerOf, SearchCorner}
use Rattle.tableau.specs.Runs.{Step, Run}
use Rattle.tableau.specs.Search.{SearchStep, SearchRun}
use Rattle.tableau.proofs.Chain.{chain_map}
use Rattle.tableau.proofs.Searches.{search_short}
use Rattle.tableau.proofs.Solves.{short_run}
use Rattle.corner_runs.specs.SolveRuns.{SolveStep, SolveRun, stands, goes}
use Rattle.corner_runs.specs.StartRuns.{StartStep, StartRun}
use Rattle.corner_runs.specs.declared.exchanges.Exchange.{Exchange}

pub one_longer : (es : List Exchange) (e : Exchange) → length (es ++ e ∷ []) ≡ suc (length es)
one_longer es e = length-append es (e ∷ []) ∙ omega arith

module _ (p : Meaning) (θ : List ℤ) where
  plain_step : (X Y : CornerOf p) (e : Exchange) → SolveStep p θ X Y e → Step p θ X Y
  plain_step X Y e s = record { enters = s.enters; row = s.row; known = s.least.known; willing = s.least.willing; leaves = s.leaves; across = s.across }

  pub plain_run : (X : CornerOf p) {es : List Exchange} {Y : CornerOf p} → SolveRun p θ X es Y → Run p θ X (length es) Y
  plain_run X stands = done
  plain_run X (goes {es} {fs} {Y} {Z} e r s q) = subst (λ k. Run p θ X k Z) (sym (ap length q ∙ one_longer es e)) (more (plain_run X r) (plain_step Y Z e s))

  pub run_short : (X : CornerOf p) {es : List Exchange} {Y : CornerOf p} → SolveRun p θ X es Y → length es < choose (limits p) (commands p)
  run_short X {es} {Y} r = short_run p θ X Y (length es) (plain_run X r)

module _ (p : Meaning) where
  plain_search : (X Y : SearchCorner p) → StartStep p X Y → SearchStep p X Y
  plain_search X Y s = record { enters = s.enters; row = s.row; true_limit = s.least.known; stops = s.least.stops; leaves = s.leaves; across = s.across }

  pub search_run : (X Y : SearchCorner p) (k : ℕ) → StartRun p X k Y → SearchRun p X k Y
  search_run X Y k r = chain_map _ _ plain_search r

  pub start_short : (X Y : SearchCorner p) (k : ℕ) → StartRun p X k Y → k < choose (limits p + commands p) (commands p)
  start_short X Y k r = search_short p X Y k (search_run X Y k r)
