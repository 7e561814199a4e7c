use Rattle.std.proofs.Common.{◌≡◌, ◌+◌, ◌-◌, ◌*◌, length, sym, arith}
use Rattle.std.proofs.lemmas.Result.{MatchResult-from_err}
use Rattle.rows.proofs.Grid.{row_in, part_length, in_width_part, passed, done, refused}
use Rattle.rows.proofs.scale.Scale.rewrite_rows.Goals as goal

pub loop-r-preserved-then-r-pivot_row : goal.loop-r-preserved-then-r-pivot_row
loop-r-preserved-then-r-pivot_row c = passed _ _ _ _ _ _ _ _ _ c.requires.sizes.1 c.loop-r.invariant c.if-r-pivot_row.true

pub overflow_mul-start : goal.overflow_mul-start
overflow_mul-start c = omega (arith, row_in c.loop-r.r (length c.args.pivot.now) c.args.count c.loop-r-test.true)

pub overflow_add-start : goal.overflow_add-start
overflow_add-start c = omega (arith, row_in c.loop-r.r (length c.args.pivot.now) c.args.count c.loop-r-test.true)

pub offset_bounds-words-start : goal.offset_bounds-words-start
offset_bounds-words-start c = omega (arith, row_in c.loop-r.r (length c.args.pivot.now) c.args.count c.loop-r-test.true)

pub slice_bounds-rewrite_row-end : goal.slice_bounds-rewrite_row-end
slice_bounds-rewrite_row-end c = omega (arith, row_in c.loop-r.r (length c.args.pivot.now) c.args.count c.loop-r-test.true)

pub rewrite_row-requires : goal.rewrite_row-requires
rewrite_row-requires c =
    let w = length c.args.pivot.now in
    let i = row_in c.loop-r.r w c.args.count c.loop-r-test.true in
    let l = part_length c.loop-r.r w c.loop-r.words (omega arith) in
    record {
      sizes = (sym l, omega arith);
      widths = (in_width_part c.loop-r.r w c.loop-r.words c.loop-r.invariant.widths, c.requires.widths.1);
    }

pub returns-in_err-rewrite_row : goal.returns-in_err-rewrite_row
returns-in_err-rewrite_row c =
    let w = length c.args.pivot.now in
    let i = row_in c.loop-r.r w c.args.count c.loop-r-test.true in
    let o = refused _ _ _ _ w _ _ c.loop-r.words c.loop-r.r c.requires.sizes.1 c.loop-r.invariant c.args.count c.if-r-pivot_row.false c.loop-r-test.true (omega arith) c.in_err-rewrite_row.ensures in
    MatchResult-from_err c.from_residual.result _ _ c.from_residual.ensures.0 (λ y. o)

pub loop-r-preserved : goal.loop-r-preserved
loop-r-preserved c =
    let w = length c.args.pivot.now in
    let i = row_in c.loop-r.r w c.args.count c.loop-r-test.true in
    let e : c.loop-r.r * w + w - c.loop-r.r * w ≡ w = omega arith in
    let l = part_length c.loop-r.r w c.loop-r.words (omega arith) in
    rw e (done _ _ _ _ w _ _ c.loop-r.words c.loop-r.r c.requires.sizes.1 c.loop-r.invariant c.rewrite_row.new.row c.if-r-pivot_row.false (omega arith) (omega (arith, c.rewrite_row.auto.row)) c.in_ok-rewrite_row.ensures)
