use Rattle.std.proofs.Common.{refl, ap, ◌∙◌}
use Rattle.words.specs.Steps.{span}
use Rattle.words.proofs.Ends.{limit_part, close_part, cut, cut_length}
use Rattle.words.proofs.reader.Reader.part.Goals as goal

pub returns-in-Coefficient : goal.returns-in-Coefficient
returns-in-Coefficient c =
    let r = c.args.self.now in
    let here = limit_part r.stands c.in-Coefficient.is in
    record {
      part = (refl, cut r.words.now r.at c.span.result _ (c.span.ensures ∙ here.0), here.1);
      span = cut_length r.words.now r.at c.span.result (span r.state) c.span.ensures c.requires.long;
    }

pub returns-in-Close : goal.returns-in-Close
returns-in-Close c =
    let r = c.args.self.now in
    record {
      part = (close_part r.stands c.in-Close.is, refl, cut r.words.now r.at c.span.result 1 (c.span.ensures ∙ ap span c.in-Close.is));
      span = cut_length r.words.now r.at c.span.result (span r.state) c.span.ensures c.requires.long;
    }
