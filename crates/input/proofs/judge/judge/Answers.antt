use Rattle.std.proofs.Common.{take, ap, ◌∙◌}
use Rattle.std.proofs.lemmas.Result.{err_from_is_err_and}
use Rattle.plant.specs.Meaning.{shape_of}
use Rattle.plant.specs.Described.{Describes}
use Rattle.plant.specs.Ranged.{ranged_by}
use Rattle.plant.specs.Written.{said}
use Rattle.input.specs.Judged.{no_plant, plant, no_range, ranged}
use Rattle.input.proofs.Parts.{refused_part, is_plant}
use Rattle.input.proofs.judge.judge.Goals as goal
use Rattle.input.proofs.judge.judge.Goals.{After-new-plant, at-returns-then-not-range_follows, at-returns-in_err-table, at-returns}

-- The plant that was loaded is the one that the words describe.
loaded : (c : After-new-plant) → Describes (take c.plant_end-end.result c.args.words.now) (said c.new-plant.result.words.now c.new-plant.result.counts.shape)
loaded c = is_plant c.args.words.now c.new-plant.result.words.now c.plant_end-end.result c.in_ok-counts.counts.shape c.new-plant.result.counts.shape c.new-plant.ensures.words (ap (λ k. k.shape) c.new-plant.ensures.counts) c.in_ok-counts.ensures

pub returns-in_err-counts : goal.returns-in_err-counts
returns-in_err-counts c =
    let r = err_from_is_err_and c.from_residual.result c.from_residual.ensures.1 in
    let n = c.plant_end-end.result in
    rw (r.1, r.2) (n, c.plant_end-end.ensures.ends, no_plant (refused_part c.args.words.now n _ c.in_err-counts.ensures.0))

pub returns-then-not-range_follows : goal.returns-then-not-range_follows
returns-then-not-range_follows c =
    let D = loaded (at-returns-then-not-range_follows c).After-new-plant in
    (c.plant_end-end.result, c.plant_end-end.ensures.ends, plant _ D (no_range c.if-not-range_follows.ensures (c.shape.ensures ∙ c.counts.ensures)))

pub returns-in_err-table : goal.returns-in_err-table
returns-in_err-table c =
    let r = err_from_is_err_and c.from_residual-in_err-table.result c.from_residual-in_err-table.ensures.1 in
    let D = loaded (at-returns-in_err-table c).After-new-plant in
    rw (r.1, r.2) (c.plant_end-end.result, c.plant_end-end.ensures.ends, plant _ D (c.in_err-table.ensures.verdict c.if-not-range_follows.ensures))

pub returns : goal.returns
returns c =
    let D = loaded (at-returns c).After-new-plant in
    let T = c.in_ok-table.ensures.verdict c.if-not-range_follows.ensures in
    let same = c.shape-2.ensures
    ∙ c.counts-2.ensures
    ∙ ap (λ t. shape_of (ranged_by t (said c.new.result.below.words.now c.new.result.below.counts.shape))) c.new.ensures.table
    ∙ ap (λ b. shape_of (ranged_by c.in_ok-table.table (said b.words.now b.counts.shape))) c.new.ensures.below
    ∙ ap shape_of T.4 in
    (c.plant_end-end.result, c.plant_end-end.ensures.ends, plant _ D (ranged T.0 T.1 T.2 T.3 same))
