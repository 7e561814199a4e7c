use Rattle.std.proofs.Common.{◌≡◌, ◌+◌, ◌≤◌, length, take, Some, count_by, sym, ap, ◌∙◌, subst, arith, length-take}
use Rattle.std.proofs.lemmas.Option.{slice_get-get_or}
use Rattle.std.proofs.lemmas.List.Sums.{count_by-le-length, count_by_more_yes, count_by_more_no}
use Rattle.std.proofs.lemmas.Result.{err_from_is_err_and}
use Rattle.script.specs.Growths.{lists, examines, refused, mapped}
use Rattle.script.proofs.Growing.{one_more, stops, at_end, none_at_end, no_refusal, AllBefore}
use Rattle.script.proofs.growth.growth.Goals as goal
use Rattle.script.proofs.growth.growth.Goals.{then-listed, else-listed}

pub returns-in_err-reply : goal.returns-in_err-reply
returns-in_err-reply c =
    let r = err_from_is_err_and c.from_residual.result c.from_residual.ensures.1 in
    let rs = c.args.replies.now in
    let k = c.loop-pairs.pairs in
    let was = c.in_err-reply.was in
    rw (r.1, r.2) (refused k (stops rs k _ c.loop-pairs-test.true c.loop-pairs.invariant.examined (ap examines was)) (slice_get-get_or rs k _ c.loop-pairs-test.true ∙ ap Some was))

pub returns-then-not-examined : goal.returns-then-not-examined
returns-then-not-examined c =
    let rs = c.args.replies.now in
    let k = c.loop-pairs.pairs in
    mapped
    (stops rs k _ c.loop-pairs-test.true c.loop-pairs.invariant.examined (sym c.if-not-examined.ensures))
    (no_refusal rs k _ c.loop-pairs-test.true _ c.in_ok-reply.was)
    c.loop-pairs.invariant.counted

pub overflow_add-corners : goal.overflow_add-corners
overflow_add-corners c =
    let rs = c.args.replies.now in
    let few : count_by lists (take c.loop-pairs.pairs rs) ≤ length (take c.loop-pairs.pairs rs) = count_by-le-length lists (take c.loop-pairs.pairs rs) in
    omega (arith, c.loop-pairs.invariant.counted, length-take c.loop-pairs.pairs rs)

pub loop-pairs-preserved : goal.loop-pairs-preserved
loop-pairs-preserved c =
    let rs = c.args.replies.now in
    let k = c.loop-pairs.pairs in
    let inside = c.loop-pairs-test.true in
    record {
      examined = one_more rs k _ inside c.loop-pairs.invariant.examined (sym c.if-not-examined.ensures);
      counted = elim c.if-listed.branch [
        | then-listed w ↦ (let e = count_by_more_yes lists rs k _ inside (sym c.listed.ensures ∙ w.if-listed.true) in omega (arith, w.corners-is, c.loop-pairs.invariant.counted, e))
        | else-listed w ↦ (let e = count_by_more_no lists rs k _ inside (sym c.listed.ensures ∙ w.if-listed.false) in omega (arith, w.corners-is, c.loop-pairs.invariant.counted, e))
      ];
    }

pub returns : goal.returns
returns c =
    let rs = c.args.replies.now in
    let all : c.loop-pairs.pairs ≡ length rs = omega arith in
    mapped (at_end rs (subst (AllBefore rs) all c.loop-pairs.invariant.examined)) (none_at_end rs) (subst (λ n. c.loop-pairs.corners ≡ 1 + count_by lists (take n rs)) all c.loop-pairs.invariant.counted)
