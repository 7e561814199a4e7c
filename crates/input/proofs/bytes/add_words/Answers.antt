use Rattle.std.proofs.Common.{rules, ◌≡◌, ◌-◌, ◌++◌, map, take, w32, sym, subst, ap, ◌∙◌, arith}
use Rattle.std.proofs.lemmas.Iterator.{YieldsList-from_map, YieldsList-from_slice}
use Rattle.std.proofs.lemmas.Iterator.Adapters.{items_from_extend}
use Rattle.std.proofs.lemmas.Result.{on_ok_weaker}
use Rattle.std.specs.Int.{from_le_bytes}
use Rattle.input.specs.Bytes.{WordsOf}
use Rattle.input.proofs.Chunks.{words_of_chunks}
use Rattle.input.proofs.bytes.add_words.Goals as goal

pub returns : goal.returns
returns c =
    let bs = c.args.bytes.now in
    let chunks = take (c.min.result - 0) c.as_chunks.result.0.now in
    let all = items_from_extend c.extend.result c.extend.ensures.ran (YieldsList-from_map _ (from_le_bytes w32) (YieldsList-from_slice chunks (search rules)) (search rules) (λ x r q k. search rules)) in
    let words = words_of_chunks bs (c.min.result - 0) c.as_chunks.result.0.now c.as_chunks.ensures.front (omega (arith, c.min.ensures, c.as_chunks.ensures.front_len)) in
    on_ok_weaker c.extend.result (λ h none. subst (WordsOf bs) (sym (h.0 ∙ ap (λ l. l ++ map (from_le_bytes w32) chunks) none)) words) all
