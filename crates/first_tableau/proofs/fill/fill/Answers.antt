use Rattle.std.proofs.Common.{◌≡◌, ◌+◌, ◌-◌, ◌≤◌, length, set, take, drop, pos, sym, ap, ◌∙◌, arith, length-set}
use Rattle.std.proofs.lemmas.List.Edits.{length-between}
use Rattle.tableau_words.specs.Layout.{size}
use Rattle.plant_table.specs.Tabled.{meaning_of}
use Rattle.plant_table.proofs.Lookups.{table_bounded}
use Rattle.first_tableau.proofs.FirstWords.{begun_words, begun_long, limits_written, finished}
use Rattle.first_tableau.proofs.fill.fill.Goals as goal

pub returns : goal.returns
returns c =
    let p = meaning_of c.args.table.now in
    let s = c.shape-shape.result in
    let same = c.shape-shape.ensures.counts in
    let old = c.args.words.now in
    let ls = c.fill_limits.new.limits in
    let whole : 1 + s.commands - 1 ≡ s.commands = omega arith in
    let all : length old ≡ size s = c.requires ∙ ap size (sym same) in
    let inside : 1 + s.commands ≤ length old = omega arith in
    let cut : length (take (1 + s.commands - 1) (drop 1 (set old 0 (pos 1)))) ≡ s.commands = omega (arith, length-set old 0 (pos 1), length-between (set old 0 (pos 1)) 1 (1 + s.commands) (omega (arith, length-set old 0 (pos 1)))) in
    let long : length ls ≡ s.commands = c.fill_limits.auto.limits ∙ cut in
    let ws = begun_words s.limits s.commands (1 + s.commands - 1) old ls whole inside long in
    let kept : length ws ≡ length old = begun_long s.limits s.commands (1 + s.commands - 1) old ls whole inside long in
    let begun = limits_written s.limits s.commands (1 + s.commands - 1) old ls whole inside long (λ r l. c.fill_limits.ensures r (omega (arith, cut))) in
    finished p (table_bounded c.args.table.now) s same ws c.fill_rows.new.rows (kept ∙ c.requires) c.fill_rows.auto.rows begun c.fill_rows.ensures
