use Rattle.std.proofs.Common.{◌≡◌, ◌∙◌, length, take, vec_len, subst, rules, arith, length-take, take_all}
use Rattle.std.proofs.lemmas.List.{take-append-le}
use Rattle.input.specs.Bytes.{WordsOf}
use Rattle.input.proofs.Chunks.{words_of_source}
use Rattle.input.proofs.bytes.read_words.Goals as goal

pub returns : goal.returns
returns g c =
    let len = vec_len c.in_ok-bytes.bytes in
    let bytes = c.fill.new.bytes in
    let filled = c.in_ok-filled.filled in
    let room : length bytes ≡ 65536 = search rules in
    let long : len ≡ length bytes = search rules in
    let same : c.deref.result.now ≡ bytes = c.deref.ensures.value ∙ take-append-le len bytes _ (omega arith) ∙ take_all len bytes (omega arith) in
    let made : WordsOf (take filled c.deref.result.now) c.add_words.new.words.items = search rules in
    words_of_source _ _ (take filled bytes) _ c.in_ok-filled.ensures.read (λ short. c.in_ok-filled.ensures.end (omega (arith, length-take filled bytes))) (subst (λ l. WordsOf (take filled l) c.add_words.new.words.items) same made)
