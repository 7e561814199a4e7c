use Rattle.std.proofs.Common.{◌≡◌, ◌+◌, length, sym, refl, ap, ◌∙◌, arith}
use Rattle.words.specs.Steps.{span, done, Stands}
use Rattle.words.proofs.Ends.{not_done, laid_out, follows_close, longer}
use Rattle.words.proofs.reader.Reader.next.Goals as goal

pub returns-in-Done : goal.returns-in-Done
returns-in-Done c =
    let r = c.args.self.now in
    let all : r.at ≡ length r.words.now = r.whole (ap done c.in-Done.is) in
    record { words = refl; handed = (laid_out r.stands c.in-Done.is all, all, refl) }

pub returns : goal.returns
returns c =
    let r = c.args.self.now in
    let ws = r.words.now in
    let at : r.at + c.span.result ≡ r.at + span r.state = ap (λ n. r.at + n) c.span.ensures in
    let S : Stands ws (r.at + c.span.result) c.in_ok-state.state = rw at c.in_ok-state.ensures in
    record { words = refl; handed = (follows_close S c.in-Done-state.is c.if-at-self.true, refl) }

pub part-part-requires : goal.part-part-requires
part-part-requires c = record { more = not_done c.args.self.now.state c.in_default.not-Done; long = c.in_ok-state.ensures.within }

pub returns-2 : goal.returns-2
returns-2 c =
    let r = c.args.self.now in
    let ws = r.words.now in
    let at : r.at + c.span.result ≡ r.at + span r.state = ap (λ n. r.at + n) c.span.ensures in
    let more = longer r.stands (not_done r.state c.in_default.not-Done) in
    record {
      words = refl;
      handed = (
        c.part-part.ensures.part,
        ap (λ n. r.at + n) (c.span.ensures ∙ sym c.part-part.ensures.span),
        omega (arith, more, at),
        rw at c.in_ok-state.ensures.right,
      );
    }
