use Rattle.std.proofs.Common.{◌≡◌, [], length, refl, inl, inr, arith}
use Rattle.std.proofs.lemmas.List.{set-get_or}
use Rattle.std.proofs.lemmas.Option.{slice_get_read}
use Rattle.clutch_map.specs.Views.{seen}
use Rattle.life.proofs.Living.{lives_first, lives_on, rest_on, lived, same_room}
use Rattle.life.proofs.live.live.Goals as goal

pub loop-k-init : goal.loop-k-init
loop-k-init g c = record { life = lives_first _ _ _ _; few = omega arith; rest = refl }

pub returns-in_default : goal.returns-in_default
returns-in_default g c =
    let i = c.loop-k.invariant in
    let h = c.in_default.ensures.lookup in
    rw set-get_or (lived (g.S.Shelf.plants c.args.shelf.now) c.args.orders.now (length c.args.records.now) c.args.tray.now (length c.args.trail.now) c.args.log.now c.loop-k.log c.loop-k.k c.open-map.result (seen c.loop-k.map c.loop-k.tray [] (length c.args.trail.now)) c.open-map.ensures i.life i.rest (inl (omega (arith, i.few, h.3))))

pub returns-then-not-makes_sense : goal.returns-then-not-makes_sense
returns-then-not-makes_sense g c =
    let i = c.loop-k.invariant in
    let h = c.in-Some.ensures.lookup in
    rw set-get_or (lived (g.S.Shelf.plants c.args.shelf.now) c.args.orders.now (length c.args.records.now) c.args.tray.now (length c.args.trail.now) c.args.log.now c.loop-k.log c.loop-k.k c.open-map.result (seen c.loop-k.map c.loop-k.tray [] (length c.args.trail.now)) c.open-map.ensures i.life i.rest (inr (inr (c.in-Some.order.now, slice_get_read c.args.orders.now _ c.loop-k.k c.in-Some.order.now refl h.3.0 h.1, c.if-not-makes_sense.ensures))))

pub loop-k-preserved : goal.loop-k-preserved
loop-k-preserved g c = let h = c.in-Some.ensures.lookup in record {
  life = lives_on (g.S.Shelf.plants c.args.shelf.now) c.args.orders.now _ _ _ c.loop-k.k c.loop-k.log c.in-Some.order.now c.carry_out-reply.result _ c.loop-k.invariant.life (slice_get_read c.args.orders.now _ c.loop-k.k c.in-Some.order.now refl h.3.0 h.1) (same_room (g.S.Shelf.plants c.args.shelf.now) _ _ _ _ c.in-Some.order.now c.carry_out-reply.result _ _ c.loop-k.auto.trail c.carry_out-reply.ensures) (record { reply = refl; tray = c.shown.ensures }) (omega (arith, c.loop-k-test.true));
  few = omega (arith, h.3.0);
  rest = rest_on c.loop-k.log c.args.log.now c.loop-k.k _ c.loop-k.invariant.rest;
}

pub returns : goal.returns
returns g c =
    let i = c.loop-k.invariant in
    let over : c.loop-k.k ≡ length c.loop-k.log = omega (arith, c.loop-k-test.false, c.loop-k.auto.k-end) in
    rw (← over) (lived (g.S.Shelf.plants c.args.shelf.now) c.args.orders.now (length c.args.records.now) c.args.tray.now (length c.args.trail.now) c.args.log.now c.loop-k.log c.loop-k.k c.open-map.result (seen c.loop-k.map c.loop-k.tray [] (length c.args.trail.now)) c.open-map.ensures i.life i.rest (inr (inl (omega (arith, c.loop-k.auto.log)))))
