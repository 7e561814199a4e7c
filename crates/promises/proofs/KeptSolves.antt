-- What a solve answers is right, and it stands nowhere twice.
use Rattle.std.proofs.Common.{◌≡◌, ℕ, ◌<◌, List, [], ◌∷◌, ◌++◌, length, drop, ℤ, pos, ◌<ℤ◌, Some, Ok, Err, ap, ◌∙◌, arith}
use Rattle.exact.proofs.Ring.{lin}
use Rattle.plant.specs.Commands.{HasNoCommand}
use Rattle.plant.specs.Meaning.{Meaning}
use Rattle.tableau.specs.Plants.{CornerOf}
use Rattle.tableau.specs.Points.{negative, tied}
use Rattle.tableau.specs.Readings.{slack_at, command_at, Region, WillingAt}
use Rattle.tableau.specs.Runs.{HasSameLimits, HasNoRow}
use Rattle.tableau.proofs.Corners.{region_best, lowest_best, blocked_no_command}
use Rattle.tableau.proofs.Solves.{unwilling_region, no_twice}
use Rattle.words.specs.declared.refusal.Refusal.TheVariants.{Width}
use Rattle.corner_runs.specs.SolveRuns.{SolveRun, WithoutRow}
use Rattle.corner_runs.specs.declared.exchanges.Exchange.{Exchange}
use Rattle.corner_runs.proofs.Chains.{plain_run}
use Rattle.trays.specs.Trays.{tray_size}
use Rattle.map_steps.specs.States.{Standing, View}
use Rattle.map_steps.specs.Steps.{Solve, Step, Commands, laid, FinishedMap, solve_not_begun, solve_reading, solve_short, solve_wide, solve_none, solved}
use Rattle.map_steps.specs.declared.reply.Reached.{Reached}
use Rattle.map_steps.specs.declared.reply.Done.TheVariants as done
use Rattle.map_steps.specs.Replies.{Reply}
use Rattle.promises.specs.Promises.{BestOnTray, SolveStopped, not_begun, reading, short, width, SaysNone, none}
use Rattle.promises.proofs.Soundness.{Sound}
use Rattle.promises.proofs.SoundSteps.{in_force}
use Rattle.promises.proofs.FinishedMaps.{within_width}

-- The command of a corner whose region holds the reading, laid on a tray.
pub best_laid : (p : Meaning) (θ : List ℤ) (X : CornerOf p) (xs before after : List ℤ) → Region p X θ → Commands p X θ xs → after ≡ laid xs before → BestOnTray p θ after
best_laid p θ X xs before after region (c, lowest, e) q = record { command = c; rest = drop tray_size before; laid = q ∙ ap (λ ys. ys ++ drop tray_size before) e; best = lowest_best p θ X c region lowest }

pub solved_best : (v w : View) (θ : List ℤ) (a : Reached) → Step v w (Solve θ) (Ok (done.Solve a)) → (s : Standing) × (v.state.force ≡ Some s) × BestOnTray s.meaning θ w.tray
solved_best v w θ a (solved s es Y xs ready run settled m n commands e) =
    (s, ready.force, best_laid s.meaning θ Y xs v.tray w.tray (unwilling_region s.meaning θ Y settled) commands (ap (λ (u : View). u.tray) e))

-- A willing limit that finds no row to leave has negative slack.
no_row_negative : (p : Meaning) (θ : List ℤ) (X : CornerOf p) (j : ℕ) → WillingAt p X θ j → HasNoRow p X j → slack_at p X θ j <ℤ pos 0
no_row_negative p θ X j (negative z) no_row = z
no_row_negative p θ X j (tied z q l b t s) no_row = absurd (omega (arith, lin, no_row q l))

without_row_no_command : (p : Meaning) (θ : List ℤ) (X : CornerOf p) (j : ℕ) → WithoutRow p θ X j → HasNoCommand p θ
without_row_no_command p θ X j w = blocked_no_command p θ X j w.least.known (no_row_negative p θ X j w.least.willing w.no_row) w.no_row

pub no_command_right : (v w : View) (θ : List ℤ) (s : Standing) (r : Reply) → v.state.force ≡ Some s → SaysNone r → Step v w (Solve θ) r → HasNoCommand s.meaning θ
no_command_right v w θ s r f (none place) (solve_none t es j Y xs ready run without weights q e) =
    in_force (λ p. HasNoCommand p θ) t s ready.force f (without_row_no_command t.meaning θ Y j without)

pub no_command_told : (v w : View) (θ : List ℤ) (s : Standing) (r : Reply) → Step v w (Solve θ) r → v.state.force ≡ Some s → ¬ SolveStopped r → HasNoCommand s.meaning θ → SaysNone r
no_command_told v w θ s r (solve_not_begun n e) f stop no_one = absurd (stop not_begun)
no_command_told v w θ s r (solve_reading {place = place} t g h e) f stop no_one = absurd (stop (reading place))
no_command_told v w θ s r (solve_short t g h i e) f stop no_one = absurd (stop (short tray_size))
no_command_told v w θ s r (solve_wide {place = place} t es j Y a b d q e) f stop no_one = absurd (stop (width place))
no_command_told v w θ s r (solve_none {place = place} t es j Y xs a b d g q e) f stop no_one = none place
no_command_told v w θ s r (solved t es Y xs ready run settled m n commands e) f stop no_one =
    absurd (in_force (λ p. HasNoCommand p θ) s t f ready.force no_one (command_at t.meaning Y θ) (region_best t.meaning θ Y (unwilling_region t.meaning θ Y settled)).keeps)

pub never_twice : (p : Meaning) (θ : List ℤ) (Y Z : CornerOf p) (fs : List Exchange) → SolveRun p θ Y fs Z → 0 < length fs → ¬ HasSameLimits p Y Z
never_twice p θ Y Z [] run some = absurd (omega arith)
never_twice p θ Y Z (e ∷ fs) run some = no_twice p θ Y Z (length fs) (plain_run p θ Y run)

pub finished_in_width : (v w : View) (θ : List ℤ) (s : Standing) → Sound v.state → v.state.force ≡ Some s → FinishedMap v s.meaning → (place : ℕ) → ¬ Step v w (Solve θ) (Err (Width place))
finished_in_width v w θ s S f all place (solve_wide t es j Y ready run beyond q e) =
    within_width t.meaning v.state.masks v.state.pairs (S t ready.force) (in_force (FinishedMap v) s t f ready.force all) θ run.first Y es j run.listed run.run beyond
