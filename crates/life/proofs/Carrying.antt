-- From the step of a call to an order that was carried out.
use Rattle.std.proofs.Common.{◌≡◌, ℕ, zero, suc, ◌<◌, min, Bool, true, false, ltb, List, [], ◌∷◌, ◌++◌, length, take, drop, ℤ, Some, sym, refl, ap, ◌∙◌, subst, arith, length-take, ltb-false, ltb-true}
use Rattle.std.specs.List.{slice_get}
use Rattle.std.proofs.lemmas.Option.{slice_get_past}
use Rattle.std.proofs.lemmas.List.{take_all, drop_all, append-nil}
use Rattle.corner_runs.specs.declared.exchanges.Exchange.{Exchange}
use Rattle.map_steps.specs.States.{Standing, State, View}
use Rattle.map_steps.specs.Steps.{Call, Step}
use Rattle.map_steps.specs.Replies.{Reply}
use Rattle.life.specs.Lives.{StandsFor, MakesSense, NoPlant, absent, SenseAnswer, tray_lent, trail_lent, lent, Carried}
use Rattle.life.specs.declared.order.Order.{Order}
use Rattle.life.specs.declared.order.Order.TheVariants.{Start}

-- What a call sees of v, as the code lends it: the first n numbers of the tray, and a trail.
abbrev pub lending : View → ℕ → List Exchange → ℕ → View
lending v n es most = record { state = v.state; tray = take n v.tray; trail = es; trail_room = most }

pub carried : (plants : List Standing) (v after : View) (o o' : Order) (c : Call) (r r' : Reply) (n : ℕ) (es : List Exchange) (most : ℕ) → o' ≡ o → StandsFor plants o c → n ≡ tray_lent o v → es ≡ [] → most ≡ trail_lent o v → r ≡ r'
    → Step (lending v n es most) after c r → Carried plants v (record { state = after.state; tray = after.tray ++ drop n v.tray; trail = []; trail_room = v.trail_room }) o' r'
carried plants v after o o' c r r' n es most is stands e ee em told s = subst (λ (o : Order). Carried plants v (record { state = after.state; tray = after.tray ++ drop n v.tray; trail = []; trail_room = v.trail_room }) o r') (sym is) (record {
  call = c;
  stands = stands;
  after = after;
  step = subst (Step (lent o v) after c) told (subst (λ (x : View). Step x after c r) same s);
  back = ap (λ k. record { state = after.state; tray = after.tray ++ drop k v.tray; trail = []; trail_room = v.trail_room }) e;
})
  where
    same : lending v n es most ≡ lent o v
    same = rw (e, ee, em) refl

-- A call that is lent the whole tray and leaves it.
pub untouched : (tray : List ℤ) → tray ++ drop (length tray) tray ≡ tray
untouched tray = ap (λ xs. tray ++ xs) (drop_all (length tray) tray (omega arith)) ∙ append-nil tray

-- A grow is lent no tray, and leaves it.
pub carried_whole : (plants : List Standing) (v : View) (state : State) (o o' : Order) (c : Call) (r r' : Reply) → o' ≡ o → StandsFor plants o c → tray_lent o v ≡ length v.tray → [] ≡ v.trail → trail_lent o v ≡ v.trail_room → r ≡ r'
    → Step v (record { state = state; tray = v.tray; trail = v.trail; trail_room = v.trail_room }) c r → Carried plants v (record { state = state; tray = v.tray; trail = v.trail; trail_room = v.trail_room }) o' r'
carried_whole plants v state o o' c r r' is stands whole none room told s = subst (λ (o : Order). Carried plants v (record { state = state; tray = v.tray; trail = v.trail; trail_room = v.trail_room }) o r') (sym is) (record {
  call = c;
  stands = stands;
  after = record { state = state; tray = v.tray; trail = v.trail; trail_room = v.trail_room };
  step = subst (Step (lent o v) (record { state = state; tray = v.tray; trail = v.trail; trail_room = v.trail_room }) c) told (subst (λ (x : View). Step x (record { state = state; tray = v.tray; trail = v.trail; trail_room = v.trail_room }) c r) (sym same) s);
  back = rw (whole, untouched v.tray, none) refl;
})
  where
    same : lent o v ≡ v
    same = rw (whole, take_all (length v.tray) v.tray (omega arith), none, room) refl

-- The plant that an order names.
pub named : (plants : List Standing) (i : ℕ) → i < length plants → (s : Standing) × (slice_get plants i ≡ Some s)
named [] i h = absurd (omega arith)
named (s ∷ ss) zero h = (s, refl)
named (s ∷ ss) (suc i) h = named ss i (omega arith)

-- The records that a solve is lent for its trail.
pub trail_part : (trail : List Exchange) (n l : ℕ) → n ≡ min l (length trail) → length (take n trail) ≡ min l (length trail)
trail_part trail n l e = length-take n trail ∙ omega arith

-- Whether an order names a plant.
pub sense : (plants : List Standing) (i t : ℕ) (b : Bool) → b ≡ ltb i (length plants) → (o : Order) → o ≡ Start i t → SenseAnswer plants o b
sense plants i t true e o is = subst (λ (o : Order). MakesSense plants o) (sym is) (ltb-true i (length plants) (sym e))
sense plants i t false e o is = subst (λ (o : Order). NoPlant plants o) (sym is) (absent (slice_get_past plants i (ltb-false i (length plants) (sym e))))
