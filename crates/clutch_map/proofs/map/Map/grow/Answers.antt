use Rattle.std.proofs.Common.{◌≡◌, take, Some, sym, refl, ap, ◌∙◌, subst, arith, eqb-true, leb-true, length, ◌*◌}
use Rattle.bounded_list.specs.Contents.{contents, room}
use Rattle.plant_table.specs.Tabled.{meaning_of}
use Rattle.words.specs.Layout.{InBounds}
use Rattle.words.specs.declared.counts.Shape.{Shape}
use Rattle.tableau_words.specs.Layout.{size}
use Rattle.corner_words.proofs.Holdings.{holding_long, holding_widths}
use Rattle.corner_runs.specs.Answers.{SomeCorner}
use Rattle.corner_list.specs.declared.corner.Corner.{Corner}
use Rattle.corner_list.specs.Records.{AllRecords}
use Rattle.corner_list.proofs.Listing.{all_records_push}
use Rattle.map_steps.specs.Pairs.{pairs_each}
use Rattle.map_steps.specs.States.{State}
use Rattle.map_steps.specs.Steps.{grow_not_begun, grow_finished, grow_no_row}
use Rattle.working_tableau.proofs.Corners.{corner_holding}
use Rattle.working_tableau.proofs.Crossings.{left_known}
use Rattle.working_tableau.proofs.MasksAcross.{mask_short, left_bit}
use Rattle.clutch_map.specs.Views.{masks_of, state, seen}
use Rattle.clutch_map.proofs.Seen.{masks_long, listed, unlisted, some_force, has_room, pair_left}
use Rattle.clutch_map.proofs.DuePairs.{DueIn, limit_there, due_in, due_holds, due_corner, due_known}
use Rattle.clutch_map.proofs.GrowSteps.{Crossing, crossing_of, new_record, known_step, full_step, wide_step, grown_step, some_has, none_has, first_kept, grown_state}
use Rattle.clutch_map.proofs.map.Map.grow.Goals as goal
use Rattle.clutch_map.proofs.map.Map.grow.Goals.{After-counts-counts, After-unwrap-limit, After-mask_across-mask}

pub returns-then-is_empty : goal.returns-then-is_empty
returns-then-is_empty c = λ tray es most.
    let self = c.args.self.now in
    grow_not_begun (masks_long (contents self.corners) ∙ unlisted self c.is_empty.result c.is_empty.ensures c.if-is_empty.true) refl

pub returns-then-is_finished : goal.returns-then-is_finished
returns-then-is_finished c = λ tray es most.
    let self = c.args.self.now in
    let cs = contents self.corners in
    let p = meaning_of self.table in
    grow_finished _ (some_force cs self.kind p (listed self c.is_empty.result c.is_empty.ensures c.if-is_empty.false)) (rw (masks_long cs) (leb-true (length cs * pairs_each p) self.pairs (sym c.is_finished.ensures ∙ c.if-is_finished.true))) refl

-- The plant in force is that of the table.
force : (c : After-counts-counts) → (state c.args.self.now).force ≡ Some (record { kind = c.args.self.now.kind; meaning = meaning_of c.args.self.now.table })
force c =
    let self = c.args.self.now in
    some_force (contents self.corners) self.kind (meaning_of self.table) (listed self c.is_empty.result c.is_empty.ensures c.if-is_empty.false)

pub unwrap-limit-requires : goal.unwrap-limit-requires
unwrap-limit-requires c =
    let self = c.args.self.now in
    limit_there (meaning_of self.table) (contents self.corners) self.pairs (pair_left self c.is_finished.result c.is_finished.ensures c.if-is_finished.false) c.pairs_each-each.result c.pairs_each-each.ensures.number self.records c.unwrap-corner.result
    (rw c.unwrap-corner.ensures at c.get.ensures).1 c.shape.result.limits (ap (λ (s : Shape). s.limits) (c.shape.ensures ∙ c.counts-counts.ensures)) c.outside.result c.outside.ensures

-- The pair that is due.
due_pair : (c : After-unwrap-limit) → DueIn (meaning_of c.args.self.now.table) (contents c.args.self.now.corners) c.args.self.now.pairs c.unwrap-corner.result c.unwrap-limit.result
due_pair c =
    let self = c.args.self.now in
    due_in (meaning_of self.table) (contents self.corners) self.pairs (pair_left self c.is_finished.result c.is_finished.ensures c.if-is_finished.false) c.pairs_each-each.result c.pairs_each-each.ensures.number self.records c.unwrap-corner.result
    (rw c.unwrap-corner.ensures at c.get.ensures).1 c.shape.result.limits (ap (λ (s : Shape). s.limits) (c.shape.ensures ∙ c.counts-counts.ensures)) c.unwrap-limit.result (rw c.unwrap-limit.ensures at c.outside.ensures)

-- The words of its record hold its corner.
found : (c : After-unwrap-limit) → SomeCorner c.counts-counts.result.shape (take (size c.counts-counts.result.shape) c.unwrap-corner.result.words)
found c =
    let self = c.args.self.now in
    due_corner (meaning_of self.table) (contents self.corners) self.pairs c.unwrap-corner.result c.unwrap-limit.result (due_pair c) c.counts-counts.result.shape c.counts-counts.ensures

pub invariant_of-left_by : goal.invariant_of-left_by
invariant_of-left_by c =
    let s = c.counts-counts.result.shape in
    let ws = take (size s) c.unwrap-corner.result.words in
    let h = corner_holding s ws (found (goal.at.invariant_of-left_by c).After-unwrap-limit) in
    let bounds : InBounds s = c.counts-counts.result.fit in
    record { long = rw c.tableau_size.ensures.value (holding_long s ws h); wide = rw c.tableau_size.ensures.value (holding_widths s ws h bounds) }

pub left_by-requires-clause-corner : goal.left_by-requires-clause-corner
left_by-requires-clause-corner c = rw c.tableau_size.ensures.value (found (goal.at.left_by-requires-clause-corner c).After-unwrap-limit)

pub returns-in_default : goal.returns-in_default
returns-in_default c = λ tray es most.
    let self = c.args.self.now in
    let p = meaning_of self.table in
    let s = c.counts-counts.result.shape in
    let j = c.unwrap-limit.result in
    let d = due_pair (goal.at.returns-in_default c).After-unwrap-limit in
    let none = rw c.tableau_size.ensures.value at c.in_default.ensures in
    grow_no_row (record { kind = self.kind; meaning = p }) _ j d.X (force (goal.at.returns-in_default c).After-counts-counts) d.due (none p d.X c.counts-counts.ensures (due_holds p (contents self.corners) self.pairs c.unwrap-corner.result j d s c.counts-counts.ensures)) refl

pub mask_across-mask-requires : goal.mask_across-mask-requires
mask_across-mask-requires c =
    let self = c.args.self.now in
    let p = meaning_of self.table in
    let cs = contents self.corners in
    let s = c.counts-counts.result.shape in
    let counts = c.counts-counts.ensures in
    let bounds : InBounds s = c.counts-counts.result.fit in
    let r = c.unwrap-corner.result in
    let j = c.unwrap-limit.result in
    let l = c.in-Some.left in
    let d = due_pair (goal.at.mask_across-mask-requires c).After-unwrap-limit in
    let L = rw c.tableau_size.ensures.value at c.in-Some.ensures in
    let known = due_known p cs self.pairs r j d s counts in
    let left = left_known s j (take (size s) r.words) l L (found (goal.at.mask_across-mask-requires c).After-unwrap-limit) in
    record {
      places = (omega arith, omega arith);
      bits = (mask_short p d.X r.mask d.mask (subst InBounds counts bounds), left_bit p d.X r.mask d.mask j l (L p d.X counts (due_holds p cs self.pairs r j d s counts)));
    }

-- What lies across the pair.
crossing : (c : After-mask_across-mask) → Crossing (meaning_of c.args.self.now.table) (masks_of (contents c.args.self.now.corners)) c.args.self.now.pairs c.unwrap-limit.result c.mask_across-mask.result (take (size c.counts-counts.result.shape) c.unwrap-corner.result.words)
crossing c =
    let self = c.args.self.now in
    let p = meaning_of self.table in
    let cs = contents self.corners in
    let r = c.unwrap-corner.result in
    let counts = c.counts-counts.ensures in
    let d = due_in p cs self.pairs (pair_left self c.is_finished.result c.is_finished.ensures c.if-is_finished.false) c.pairs_each-each.result c.pairs_each-each.ensures.number self.records r
    (rw c.unwrap-corner.ensures at c.get.ensures).1 c.shape.result.limits (ap (λ (s : Shape). s.limits) (c.shape.ensures ∙ counts)) c.unwrap-limit.result (rw c.unwrap-limit.ensures at c.outside.ensures) in
    crossing_of p cs self.pairs r c.unwrap-limit.result d c.counts-counts.result.shape counts c.in-Some.left (rw c.tableau_size.ensures.value at c.in-Some.ensures) c.mask_across-mask.result c.mask_across-mask.ensures

pub returns-then-lists : goal.returns-then-lists
returns-then-lists c = λ tray es most.
    let self = c.args.self.now in
    let v = seen self tray es most in
    let m = c.mask_across-mask.result in
    known_step v _ (record { kind = self.kind; meaning = meaning_of self.table }) (force (goal.at.returns-then-lists c).After-counts-counts) c.unwrap-limit.result m _
    (crossing (goal.at.returns-then-lists c).After-mask_across-mask)
    (some_has v (contents self.corners) refl m (rw c.as_slice.ensures at c.if-lists.ensures)) refl

pub returns-then-is_full : goal.returns-then-is_full
returns-then-is_full c = λ tray es most.
    let self = c.args.self.now in
    let cs = contents self.corners in
    let v = seen self tray es most in
    let m = c.mask_across-mask.result in
    full_step v _ (record { kind = self.kind; meaning = meaning_of self.table }) (force (goal.at.returns-then-is_full c).After-counts-counts) c.unwrap-limit.result m _
    (crossing (goal.at.returns-then-is_full c).After-mask_across-mask)
    (none_has v cs refl m (rw c.as_slice.ensures at c.if-lists.ensures))
    (masks_long cs ∙ eqb-true (length cs) (room self.corners) (sym c.is_full.ensures ∙ c.if-is_full.true)) refl

pub cross-requires-clause-corner : goal.cross-requires-clause-corner
cross-requires-clause-corner c = found (goal.at.cross-requires-clause-corner c).After-unwrap-limit

pub returns-in_default-cross : goal.returns-in_default-cross
returns-in_default-cross c = λ tray es most.
    let self = c.args.self.now in
    let cs = contents self.corners in
    let v = seen self tray es most in
    let m = c.mask_across-mask.result in
    wide_step v _ (record { kind = self.kind; meaning = meaning_of self.table }) (force (goal.at.returns-in_default-cross c).After-counts-counts) c.unwrap-limit.result m _
    (crossing (goal.at.returns-in_default-cross c).After-mask_across-mask)
    (none_has v cs refl m (rw c.as_slice.ensures at c.if-lists.ensures))
    (rw (masks_long cs) (has_room self c.is_full.result c.is_full.ensures c.if-is_full.false))
    c.counts-counts.result.shape c.counts-counts.ensures c.in_default-cross.field-0 c.in_default-cross.ensures.answer refl

pub invariant_of-self-2 : goal.invariant_of-self-2
invariant_of-self-2 c =
    let self = c.args.self.now in
    let p = meaning_of self.table in
    let cs = contents self.corners in
    let r : Corner = record { mask = c.mask_across-mask.result; words = c.in-Ok.words } in
    let new = new_record p _ _ c.unwrap-limit.result c.mask_across-mask.result _
    (crossing (goal.at.invariant_of-self-2 c).After-mask_across-mask)
    c.counts-counts.result.shape c.counts-counts.ensures c.in-Ok.words c.in-Ok.ensures.answer in
    let pushed = (rw c.unwrap.ensures at c.push.ensures.cases).1 in
    record {
      few = rw c.push.ensures.room self.few;
      records = subst (AllRecords p) (sym pushed) (all_records_push p cs r self.records new);
      first = first_kept cs (contents c.push.new.self) r (listed self c.is_empty.result c.is_empty.ensures c.if-is_empty.false) pushed self.words c.cross.new.words c.cross.ensures.same self.first;
    }

pub returns : goal.returns
returns c = λ tray es most.
    let self = c.args.self.now in
    let p = meaning_of self.table in
    let cs = contents self.corners in
    let v = seen self tray es most in
    let m = c.mask_across-mask.result in
    let r : Corner = record { mask = m; words = c.in-Ok.words } in
    let pushed = (rw c.unwrap.ensures at c.push.ensures.cases).1 in
    let after = grown_state cs (contents c.push.new.self) r (listed self c.is_empty.result c.is_empty.ensures c.if-is_empty.false) pushed v self.kind (room self.corners) self.pairs p refl (room c.push.new.self) c.push.ensures.room in
    grown_step v _ (record { kind = self.kind; meaning = p }) (force (goal.at.returns c).After-counts-counts) c.unwrap-limit.result m _
    (crossing (goal.at.returns c).After-mask_across-mask)
    (none_has v cs refl m (rw c.as_slice.ensures at c.if-lists.ensures))
    (rw (masks_long cs) (has_room self c.is_full.result c.is_full.ensures c.if-is_full.false))
    c.counts-counts.result.shape c.counts-counts.ensures c.in-Ok.words c.in-Ok.ensures.answer
    (ap (λ (s : State). record { state = s; tray = tray; trail = es; trail_room = most }) after)
