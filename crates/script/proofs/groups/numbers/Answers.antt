use Rattle.std.proofs.Common.{rules, ◌≡◌, ◌+◌, ◌-◌, length, map, take, drop, pos, ap, ◌∙◌, arith, length-take, length-drop}
use Rattle.std.proofs.lemmas.List.{get_or-take, get_or-drop, get_or-map, length-map}
use Rattle.std.proofs.lemmas.Iterator.{YieldsList-from_map, YieldsList-from_slice}
use Rattle.std.proofs.lemmas.Iterator.Adapters.{items_from_extend}
use Rattle.words.specs.Words.{payload}
use Rattle.script.proofs.groups.numbers.Goals as goal

pub returns : goal.returns
returns c =
    let from = c.args.from in
    let ws = c.args.words.now in
    let n = from + c.args.count - from in
    let front = take n (drop from ws) in
    let all = items_from_extend c.extend.result c.extend.ensures.ran (YieldsList-from_map _ payload (YieldsList-from_slice front (search rules)) (search rules) (λ x r q k. search rules)) in
    let made : c.extend.new.self.items ≡ map payload front = search rules in
    let long : length front ≡ c.args.count = simp (length-take, length-drop) (omega (arith, c.requires)) in
    rw made (
      simp length-map long,
      λ i h. get_or-map payload front i 0 (pos 0) (omega (arith, long, h)) ∙ ap payload (get_or-take n (drop from ws) i 0 (omega (arith, h)) ∙ get_or-drop from ws i 0),
    )
