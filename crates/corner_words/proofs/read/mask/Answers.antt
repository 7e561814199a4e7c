use Rattle.std.proofs.Common.{◌≡◌, nat_abs, ap, ◌+◌, ◌*◌, ◌%◌, ◌^◌, ◌<◌, sym, arith}
use Rattle.std.proofs.lemmas.Nat.{one_shl, pow_below}
use Rattle.tableau.specs.Masks.{holds}
use Rattle.tableau.proofs.Masks.{mask_below}
use Rattle.words.specs.Bounds.{most_limits}
use Rattle.words.specs.declared.counts.Shape.{Shape}
use Rattle.corner_words.proofs.Masks.{limit_in, mask_to, mask_none, limit_below, next_bit, mask_answered}
use Rattle.corner_words.proofs.read.mask.Goals as goal

row_in : (c : goal.After-row_limit) → c.loop-row.row < c.args.tableau.counts.shape.commands
row_in c = let n = ap (λ (s : Shape). s.commands) c.shape-row-end.ensures in omega arith

limit_of : (c : goal.After-row_limit) → c.row_limit.result ≡ limit_in c.args.tableau.words.now c.loop-row.row
limit_of c = sym (ap nat_abs c.row_limit.ensures)

-- The limit that was read is one of the plant's, and its bit makes the mask of one row more.
low : (c : goal.After-row_limit) → c.row_limit.result < most_limits
low c =
    let s = c.args.tableau.counts.shape in
    let ws = c.args.tableau.words.now in
    let h = c.requires.holding in
    let row = c.loop-row.row in
    omega (arith, limit_of c, limit_below s ws h c.requires.own row (row_in c), c.args.tableau.counts.fit.3)

next : (c : goal.After-row_limit) → c.loop-row.bits + (1 * 2 ^ c.row_limit.result) % 2 ^ 32 ≡ mask_to c.args.tableau.counts.shape c.args.tableau.words.now (c.loop-row.row + 1)
next c =
    let s = c.args.tableau.counts.shape in
    let ws = c.args.tableau.words.now in
    let h = c.requires.holding in
    let row = c.loop-row.row in
    let e = limit_of c in
    rw (one_shl c.row_limit.result 32 (omega (arith, low c)), c.loop-row.invariant, e) (sym (next_bit s ws h c.requires.own row (row_in c)))

pub loop-row-init : goal.loop-row-init
loop-row-init c = mask_none c.args.tableau.counts.shape.limits (limit_in c.args.tableau.words.now)

pub overflow_add-bits : goal.overflow_add-bits
overflow_add-bits c =
    let n = c.args.tableau.counts.shape.limits in
    omega (arith, next c, mask_below n (holds (c.loop-row.row + 1) (limit_in c.args.tableau.words.now)), pow_below n 32 (omega (arith, c.args.tableau.counts.fit.3)))

pub loop-row-preserved : goal.loop-row-preserved
loop-row-preserved c = next c

pub returns : goal.returns
returns c =
    let n = ap (λ (s : Shape). s.commands) c.shape-row-end.ensures in
    let all : c.loop-row.row ≡ c.args.tableau.counts.shape.commands = omega arith in
    rw (c.loop-row.invariant, all) (mask_answered c.args.tableau.counts.shape c.args.tableau.words.now)
