use Rattle.std.proofs.Common.{◌≡◌, ◌+◌, Some, None, sym, ap, ◌∙◌, subst, arith, w32, SFits, rules}
use Rattle.words.specs.Layout.{limit_place}
use Rattle.plant.specs.Tables.{at_place, Found}
use Rattle.plant.specs.TableLaws.{table_found, table_absent}
use Rattle.plant.specs.Written.{number_at}
use Rattle.plant.proofs.Questions.{of_limit, of_none, handed_out}
use Rattle.plant.proofs.written_plant.WrittenPlant.slope.Goals as goal

pub returns-in_err-limit : goal.returns-in_err-limit
returns-in_err-limit c =
    let limit : Found c.args.self.now.counts.shape.limits c.args.j None = subst (λ s. Found s.limits c.args.j None) c.shape-shape.ensures c.in_err-limit.ensures in
    c.from_residual.ensures ∙ sym (of_none _ _ c.args.j (λ l. at_place l.slopes c.args.k) limit)

pub returns-in_err-reading : goal.returns-in_err-reading
returns-in_err-reading c =
    let j = c.in_ok-limit.limit in
    let limit : Found c.args.self.now.counts.shape.limits c.args.j (Some j) = subst (λ s. Found s.limits c.args.j (Some j)) c.shape-shape.ensures c.in_ok-limit.ensures in
    let found : Found c.args.self.now.counts.shape.readings c.args.k None = subst (λ s. Found s.readings c.args.k None) c.shape-shape.ensures c.in_err-reading.ensures in
    c.from_residual-in_err-reading.ensures ∙ sym (of_limit _ _ c.args.j (λ l. at_place l.slopes c.args.k) j limit ∙ table_absent _ _ c.args.k found)

pub returns : goal.returns
returns c =
    let j = c.in_ok-limit.limit in
    let k = c.in_ok-reading.reading in
    let w = c.args.self.now in
    let limit : Found w.counts.shape.limits c.args.j (Some j) = subst (λ s. Found s.limits c.args.j (Some j)) c.shape-shape.ensures c.in_ok-limit.ensures in
    let found : Found w.counts.shape.readings c.args.k (Some k) = subst (λ s. Found s.readings c.args.k (Some k)) c.shape-shape.ensures c.in_ok-reading.ensures in
    let fits : SFits w32 c.cell.result = search rules in
    let base = limit_place w.counts.shape j in
    let same = ap (λ s. number_at w.words.now (base + (s.commands + 1 + k))) c.shape-shape.ensures in
    let place : base + (w.counts.shape.commands + 1 + k) ≡ base + (w.counts.shape.commands + 1) + k = omega arith in
    handed_out c.cell.result _ _ fits (c.cell.ensures ∙ same ∙ ap (number_at w.words.now) place) (of_limit _ _ c.args.j (λ l. at_place l.slopes c.args.k) j limit ∙ table_found _ _ c.args.k k found)
