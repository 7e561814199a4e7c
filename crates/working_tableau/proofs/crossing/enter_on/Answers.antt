use Rattle.std.proofs.Common.{◌≡◌, ◌-◌, length, take, drop, Ok, Err, sym, ap, ◌∙◌, subst}
use lib.Seq.{length_front}
use Rattle.std.proofs.lemmas.List.{take_at}
use Rattle.tableau_words.specs.Layout.{size}
use Rattle.corner_words.specs.Enters.{EnterAnswer}
use Rattle.corner_words.specs.declared.enter.NotEntered.TheVariants.{NoRow, OutOfWidth}
use Rattle.corner_words.proofs.Holdings.{holding_long}
use Rattle.corner_runs.specs.Answers.{SomeCorner}
use Rattle.working_tableau.proofs.Corners.{corner_holding, used_words}
use Rattle.working_tableau.proofs.Crossings.{never_without_row, gone_across, crossed_out}
use Rattle.working_tableau.proofs.crossing.enter_on.Goals as goal

pub enter-requires-clause-holding : goal.enter-requires-clause-holding
enter-requires-clause-holding c =
    let s = c.args.counts.shape in
    let n = c.tableau_size-size.result in
    let used = used_words s c.args.words.now n c.tableau_size-size.ensures.value in
    corner_holding s (take (n - 0) c.args.words.now) (subst (SomeCorner s) (sym used) c.requires.corner)

pub unreachable-requires : goal.unreachable-requires
unreachable-requires c =
    let s = c.args.counts.shape in
    let ws = c.args.words.now in
    let j = c.args.limit in
    let after = c.enter.new.words in
    let used = used_words s ws c.tableau_size-size.result c.tableau_size-size.ensures.value in
    never_without_row s j (take (size s) ws) after c.requires.corner c.requires.row (subst (λ before. EnterAnswer s j before after (Err NoRow)) used (rw c.in-Err-NoRow.field-0-is at c.in-Err-NoRow.ensures))

pub returns-in-Ok : goal.returns-in-Ok
returns-in-Ok c =
    let s = c.args.counts.shape in
    let ws = c.args.words.now in
    let j = c.args.limit in
    let n = c.tableau_size-size.result in
    let l = c.in-Ok._left in
    let after = c.enter.new.words in
    let used = used_words s ws n c.tableau_size-size.ensures.value in
    let long : length after ≡ size s = c.enter.auto.words ∙ ap length used ∙ holding_long s (take (size s) ws) (corner_holding s (take (size s) ws) c.requires.corner) in
    gone_across s j (take (size s) ws) after l (subst (λ before. EnterAnswer s j before after (Ok l)) used c.in-Ok.ensures) _ (length_front ws after (n - 0) c.enter.auto.words ∙ c.told-words) (take_at after (drop (n - 0) ws) (size s) long)

pub returns-in-Err-OutOfWidth : goal.returns-in-Err-OutOfWidth
returns-in-Err-OutOfWidth c =
    let s = c.args.counts.shape in
    let ws = c.args.words.now in
    let j = c.args.limit in
    let after = c.enter.new.words in
    let used = used_words s ws c.tableau_size-size.result c.tableau_size-size.ensures.value in
    crossed_out s j (take (size s) ws) after _ (subst (λ before. EnterAnswer s j before after (Err OutOfWidth)) used (rw c.in-Err-OutOfWidth.field-0-is at c.in-Err-OutOfWidth.ensures))
