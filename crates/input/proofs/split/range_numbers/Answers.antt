use Rattle.std.proofs.Common.{◌≡◌, ◌+◌, ◌<◌, ◌≤◌, length, refl, ap, ◌∙◌, arith, length-append, length-drop}
use Rattle.std.proofs.lemmas.Grind.{common_steps}
use Rattle.std.proofs.lemmas.List.{get_or_append_left}
use Rattle.std.proofs.lemmas.Result.{err_from_is_err_and}
use Rattle.std.specs.List.{slice_index}
use Rattle.words.specs.Words.{kind_bits}
use Rattle.words.specs.declared.refusal.Refusal.TheVariants.{Short}
use Rattle.input.specs.Split.{missing, other_kind}
use Rattle.input.proofs.split.range_numbers.Goals as goal

pub returns-in_err-word : goal.returns-in_err-word
returns-in_err-word c =
    let r = err_from_is_err_and c.from_residual.result c.from_residual.ensures.1 in
    let out : length c.args.words.now ≤ c.args.from + c.loop-i.i = grind (arith, common_steps) in
    let few : c.loop-i.i < c.args.count = omega (arith, c.loop-i.auto.number-items, c.loop-i.invariant.many) in
    let e : c.in_err-word.field-0.0 ≡ Short (c.args.from + c.loop-i.i) = grind (arith, common_steps) in
    rw (r.1, r.2, e) (missing c.loop-i.i few refl (omega (arith, out, c.loop-i.invariant.within)) c.loop-i.invariant.words)

pub returns-then-kind_number : goal.returns-then-kind_number
returns-then-kind_number c =
    let few : c.loop-i.i < c.args.count = omega (arith, c.loop-i.auto.number-items, c.loop-i.invariant.many) in
    let word : c.in_ok-word.field-0.now ≡ slice_index c.args.words.now (c.args.from + c.loop-i.i) = grind (arith, common_steps) in
    other_kind c.loop-i.i few refl (grind (arith, common_steps)) (λ k. c.if-kind_number.true (c.kind_number.ensures ∙ ap kind_bits word ∙ k)) c.loop-i.invariant.words

pub returns : goal.returns
returns c =
    let all : c.loop-i.i ≡ c.args.count = omega (arith, c.loop-i.auto.number-items, c.loop-i.invariant.many) in (
      λ i h. c.loop-i.invariant.words i (omega arith),
      λ i h. get_or_append_left c.loop-i.number-items _ _ i (omega (arith, c.loop-i.invariant.many)) ∙ c.loop-i.invariant.numbers i (omega arith),
      simp (length-append, length-drop) (omega (arith, c.loop-i.invariant.many)),
    )
