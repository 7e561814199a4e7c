-- An answer is right, and a finished map gives one exactly when some command keeps every limit.
use Rattle.std.proofs.Common.{◌≡◌, List, length, ℤ, Some, Ok, ap, arith}
use Rattle.tableau.specs.Readings.{command_at}
use Rattle.tableau.proofs.Corners.{region_best}
use Rattle.trays.specs.Trays.{tray_size}
use Rattle.map_steps.specs.States.{Standing, View}
use Rattle.map_steps.specs.Steps.{Answer, Step, FinishedMap, NoneBefore, answer_not_begun, answer_reading, answer_short, answer_none, answer_not_yet, answered}
use Rattle.map_steps.specs.declared.reply.Answered.{Answered}
use Rattle.map_steps.specs.declared.reply.Done.TheVariants as done
use Rattle.map_steps.specs.Replies.{Reply}
use Rattle.promises.specs.Promises.{BestOnTray, SomeCommand, AnswerStopped, reading, short, IsAnswer, answer}
use Rattle.promises.proofs.Soundness.{Sound}
use Rattle.promises.proofs.SoundSteps.{in_force}
use Rattle.promises.proofs.FinishedMaps.{some_region}
use Rattle.promises.proofs.KeptSolves.{best_laid}

pub answered_best : (v w : View) (θ : List ℤ) (a : Answered) → Step v w (Answer θ) (Ok (done.Answer a)) → (s : Standing) × (v.state.force ≡ Some s) × BestOnTray s.meaning θ w.tray
answered_best v w θ a (answered s X xs ready l m n region first commands e) =
    (s, ready.force, best_laid s.meaning θ X xs v.tray w.tray region commands (ap (λ (u : View). u.tray) e))

module _ (v w : View) (θ : List ℤ) (s : Standing) (f : v.state.force ≡ Some s) where
  pub finished_answers : (r : Reply) → Sound v.state → Step v w (Answer θ) r → FinishedMap v s.meaning → ¬ AnswerStopped r → SomeCommand s.meaning θ → IsAnswer r
  finished_answers r S (answer_not_begun n e) all stop some = absurd (omega (arith, n, (S s f).some))
  finished_answers r S (answer_reading {place = place} t g h e) all stop some = absurd (stop (reading place))
  finished_answers r S (answer_short t g h i e) all stop some = absurd (stop (short tray_size))
  finished_answers r S (answer_none t ready g none e) all stop (c, keeps) =
      let (k, l, (X, m, region)) = some_region s.meaning v.state.masks v.state.pairs (S s f) all θ c keeps in
      absurd (in_force (λ p. NoneBefore v p θ (length v.state.masks)) t s ready.force f none k l X m region)
  finished_answers r S (answer_not_yet t ready g none e) all stop some = absurd (g (in_force (FinishedMap v) s t f ready.force all))
  finished_answers r S (answered {a = a} t X xs ready l m n region first commands e) all stop some = answer a

  pub finished_right : (r : Reply) → IsAnswer r → Step v w (Answer θ) r → SomeCommand s.meaning θ
  finished_right r (answer a) (answered t X xs ready l m n region first commands e) =
      in_force (λ p. SomeCommand p θ) t s ready.force f (command_at t.meaning X θ, (region_best t.meaning θ X region).keeps)
