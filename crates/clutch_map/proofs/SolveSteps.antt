-- From what a solve on the working tableau came to, to the step of the call.
use Rattle.std.proofs.Common.{◌≡◌, ℕ, List, ℤ, Result, sym, subst, ap₂}
use Rattle.words.specs.declared.refusal.Refusal.{Refusal}
use Rattle.tableau.specs.Masks.{mask_of}
use Rattle.tableau.specs.Plants.{CornerOf}
use Rattle.corner_runs.specs.declared.exchanges.Exchange.{Exchange}
use Rattle.map_steps.specs.States.{Standing, View}
use Rattle.map_steps.specs.Steps.{Step, Solve, to_solve, Ready, mask_at, solved, solve_wide, solve_none}
use Rattle.map_steps.specs.declared.reply.Reached.{Reached}
use Rattle.working_tableau.specs.Solves.{Outcome, settled, wide, none}

-- The view with another tray and another trail, of the same room.
abbrev pub with_both : View → List ℤ → List Exchange → ℕ → View
with_both v tray trail n = record { state = v.state; tray = tray; trail = trail; trail_room = n }

module _ (v : View) (θ : List ℤ) (s : Standing) (X : CornerOf s.meaning) (ready : Ready v θ s) (mask : mask_of s.meaning X ≡ mask_at v 0) (tray : List ℤ) (trail : List Exchange) where
  step : (x : Result Reached Refusal) → Outcome s.meaning θ X v.tray tray v.trail_room trail x → Step v (with_both v tray trail v.trail_room) (Solve θ) (to_solve x)
  step x (settled es Y xs run end m made commands noted lays) = solved s es Y xs ready (record { first = X; listed = mask; run = run }) end m made commands (ap₂ (λ t u. with_both v t u v.trail_room) lays noted)
  step x (wide es j Y run beyond place noted same) = solve_wide s es j Y ready (record { first = X; listed = mask; run = run }) beyond place (ap₂ (λ t u. with_both v t u v.trail_room) same noted)
  step x (none es j Y xs run without weights place noted lays) = solve_none s es j Y xs ready (record { first = X; listed = mask; run = run }) without weights place (ap₂ (λ t u. with_both v t u v.trail_room) lays noted)

  -- The trail was emptied between, and has the room that it had.
  pub solve_step : (x : Result Reached Refusal) (n k : ℕ) → n ≡ v.trail_room → k ≡ v.trail_room → Outcome s.meaning θ X v.tray tray n trail x → Step v (with_both v tray trail k) (Solve θ) (to_solve x)
  solve_step x n k e q O = subst (λ k. Step v (with_both v tray trail k) (Solve θ) (to_solve x)) (sym q) (step x (subst (λ n. Outcome s.meaning θ X v.tray tray n trail x) e O))
