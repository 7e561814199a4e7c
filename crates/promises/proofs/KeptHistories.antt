-- Every promise is kept at every call, by induction over the history.
use Rattle.std.proofs.Common.{◌≡◌, List, sym, subst}
use Rattle.std.proofs.lemmas.List.Elements.{All-nil, All-push}
use Rattle.map_steps.specs.States.{State}
use Rattle.map_steps.specs.Steps.{Call, Step}
use Rattle.map_steps.specs.Replies.{Reply}
use Rattle.promises.specs.Promises.{Moment, Kept, AllKept}
use Rattle.promises.specs.Histories.{History, opens, goes, EveryPromiseIsKept}
use Rattle.promises.proofs.Soundness.{Sound}
use Rattle.promises.proofs.SoundSteps.{opened_sound, sound_step}
use Rattle.promises.proofs.KeptStarts.{no_best_right, no_best_told}
use Rattle.promises.proofs.KeptSolves.{solved_best, no_command_right, no_command_told, never_twice, finished_in_width}
use Rattle.promises.proofs.KeptAnswers.{answered_best, finished_answers, finished_right}

module _ (m : Moment) (S : Sound m.before.state) (step : Step m.before m.after m.call m.reply) where
  -- The step, with its call told, and with its reply told too.
  called : {c : Call} → m.call ≡ c → Step m.before m.after c m.reply
  called e = subst (λ c. Step m.before m.after c m.reply) e step

  replied : {c : Call} {r : Reply} → m.call ≡ c → m.reply ≡ r → Step m.before m.after c r
  replied {c} e q = subst (λ r. Step m.before m.after c r) q (called e)

  kept : Kept m
  kept = record {
    solved_best = λ θ a e q. solved_best m.before m.after θ a (replied e q);
    answered_best = λ θ a e q. answered_best m.before m.after θ a (replied e q);
    no_best_right = λ k p e q. no_best_right m.before m.after k p (replied e q);
    no_best_told = λ k p e. no_best_told m.before m.after k p m.reply (called e);
    no_command_right = λ θ s e f none. no_command_right m.before m.after θ s m.reply f none (called e);
    no_command_told = λ θ s e f. no_command_told m.before m.after θ s m.reply (called e) f;
    never_twice = λ θ s e f X Y Z es fs first run. never_twice s.meaning θ Y Z fs;
    finished_in_width = λ θ s e f all place q. finished_in_width m.before m.after θ s S f all place (replied e q);
    finished_answers = λ θ s e f all. finished_answers m.before m.after θ s f m.reply S (called e) all;
    finished_right = λ θ s e f all is. finished_right m.before m.after θ s f m.reply is (called e);
  }

-- A history leaves the map sound, with every promise kept.
sound_and_kept : {x y : State} {ms : List Moment} → Sound x → History x ms y → Sound y × AllKept ms
sound_and_kept S opens = (S, All-nil Kept)
sound_and_kept S (goes {ms} {ns} {y} m past e step q) =
    let (now, all) = sound_and_kept S past in
    let before : Sound m.before.state = subst Sound (sym e) now in
    (sound_step m.before m.after m.call m.reply before step, subst AllKept (sym q) (All-push Kept ms m all (kept m before step)))

pub every_promise : EveryPromiseIsKept
every_promise room ms y h = (sound_and_kept (opened_sound room) h).1
