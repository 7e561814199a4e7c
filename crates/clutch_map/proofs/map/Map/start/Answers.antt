use Rattle.std.proofs.Common.{[], length, Option, sym, refl, ap, ◌∙◌, subst, eqb-true}
use borrow.Author.Tests.{eqb-false}
use Rattle.bounded_list.specs.Contents.{contents, room}
use Rattle.map_steps.specs.States.{Standing, State}
use Rattle.map_steps.specs.Steps.{start_begun, start_short, start_full}
use Rattle.std.proofs.lemmas.Result.{err_from_is_err_and}
use Rattle.plant_table.specs.Tabled.{meaning_of}
use Rattle.corner_list.specs.Records.{AllRecords}
use Rattle.corner_list.specs.declared.corner.Corner.{Corner}
use Rattle.corner_list.proofs.Listing.{all_records_none, all_records_push, record_of}
use Rattle.clutch_map.specs.Listed.{AtFirst}
use Rattle.clutch_map.specs.Views.{seen, masks_of}
use Rattle.clutch_map.proofs.Seen.{masks_long, listed, unlisted, startable}
use Rattle.clutch_map.proofs.StartSteps.{refused_step, started_step, found_corner, no_force, only, begun_state}
use Rattle.clutch_map.proofs.map.Map.start.Goals as goal

pub returns-then-not-is_empty : goal.returns-then-not-is_empty
returns-then-not-is_empty g c = λ es most. let self = c.args.self.now in start_begun (rw (masks_long (contents self.corners)) (listed self c.is_empty.result c.is_empty.ensures c.if-not-is_empty.true)) refl

pub returns-then-tray-lt-TRAY : goal.returns-then-tray-lt-TRAY
returns-then-tray-lt-TRAY g c = λ es most. let self = c.args.self.now in start_short (masks_long (contents self.corners) ∙ unlisted self c.is_empty.result c.is_empty.ensures c.if-not-is_empty.false) c.if-tray-lt-TRAY.true refl

pub returns-then-is_full : goal.returns-then-is_full
returns-then-is_full g c = λ es most.
    let self = c.args.self.now in
    let none = unlisted self c.is_empty.result c.is_empty.ensures c.if-not-is_empty.false in
    start_full (masks_long (contents self.corners) ∙ none) c.if-tray-lt-TRAY.false (sym (eqb-true (length (contents self.corners)) (room self.corners) (sym c.is_full.ensures ∙ c.if-is_full.true)) ∙ none) refl

pub returns-in_err-started : goal.returns-in_err-started
returns-in_err-started g c = λ es most.
    let self = c.args.self.now in
    let cs = contents self.corners in
    let none = unlisted self c.is_empty.result c.is_empty.ensures c.if-not-is_empty.false in
    let full = eqb-false (length cs) (room self.corners) (sym c.is_full.ensures ∙ c.if-is_full.false) in
    let ready = startable (seen self c.args.tray.now es most) (masks_long cs ∙ none) c.if-tray-lt-TRAY.false (λ z. full (none ∙ sym z)) in
    let e = err_from_is_err_and c.from_residual.result c.from_residual.ensures.1 in
    let p = meaning_of c.of-self.result in
    rw (e.1, e.2)
    (refused_step (seen self c.args.tray.now es most) _ g.P.Plant.kind p _ c.of-self.ensures _ c.find_first.new.tray c.in_err-started.field-0.0 ready c.in_err-started.ensures.corner
    (ap (λ (f : Option Standing). record { state = record { force = f; masks = masks_of cs; pairs = self.pairs; room = room self.corners }; tray = c.find_first.new.tray; trail = es; trail_room = most }) (no_force cs c.kind_number-self.result self.kind p (meaning_of self.table) none)))

pub invariant_of-self-2 : goal.invariant_of-self-2
invariant_of-self-2 g c =
    let self = c.args.self.now in
    let p = meaning_of c.of-self.result in
    let none = unlisted self c.is_empty.result c.is_empty.ensures c.if-not-is_empty.false in
    let r : Corner = record { mask = c.in_ok-started.started.mask; words = c.find_first.new.words } in
    let e = only (contents self.corners) (contents c.push.new.self) r none (rw c.unwrap.ensures at c.push.ensures.cases).1 in
    let (X, holds, mask) = found_corner p _ _ _ _ c.in_ok-started.ensures.corner in
    record {
      few = rw c.push.ensures.room self.few;
      records = subst (AllRecords p) (sym e) (all_records_push p [] r (all_records_none p) (record_of p r X c.in_ok-started.ensures.long holds mask));
      first = subst (λ cs. AtFirst cs c.find_first.new.words) (sym e) (λ h. refl);
    }

pub returns : goal.returns
returns g c = λ es most.
    let self = c.args.self.now in
    let cs = contents self.corners in
    let v = seen self c.args.tray.now es most in
    let p = meaning_of c.of-self.result in
    let none = unlisted self c.is_empty.result c.is_empty.ensures c.if-not-is_empty.false in
    let full = eqb-false (length cs) (room self.corners) (sym c.is_full.ensures ∙ c.if-is_full.false) in
    let ready = startable v (masks_long cs ∙ none) c.if-tray-lt-TRAY.false (λ z. full (none ∙ sym z)) in
    let r : Corner = record { mask = c.in_ok-started.started.mask; words = c.find_first.new.words } in
    let e = only cs (contents c.push.new.self) r none (rw c.unwrap.ensures at c.push.ensures.cases).1 in
    started_step v _ g.P.Plant.kind p _ c.of-self.ensures _ c.find_first.new.tray c.in_ok-started.started ready c.in_ok-started.ensures.corner
    (ap (λ (s : State). record { state = s; tray = c.find_first.new.tray; trail = es; trail_room = most }) (begun_state v (contents c.push.new.self) r c.kind_number-self.result g.P.Plant.kind (room c.push.new.self) p p e c.kind_number-self.ensures refl c.push.ensures.room))
