-- Lives of a map: any list of orders, carried out one after another from its opening on.
use Rattle.std.specs.Prelude.{◌≡◌, ℕ, ◌<◌, min, Bool, true, false, ◌⊎◌, List, [], ◌∷◌, ◌++◌, length, take, drop, ℤ, Some, None}
use Rattle.exact.specs.Vectors.{entries}
use Rattle.std.specs.List.{slice_get}
use Rattle.trays.specs.Trays.{tray_size}
use Rattle.map_steps.specs.States.{Standing, View}
use Rattle.map_steps.specs.Steps.{Call, Step}
use Rattle.map_steps.specs.Steps as call
use Rattle.map_steps.specs.Replies.{Reply}
use Rattle.promises.specs.Promises.{Moment, AllKept}
use Rattle.promises.specs.Histories.{opened}
use Rattle.clutch_map.specs.Listed.{most_records}
use Rattle.life.specs.declared.entry.Entry.{Entry}
use Rattle.life.specs.declared.order.Order.{Order}
use Rattle.life.specs.declared.order.Order.TheVariants.{Start, Solve, Grow, Answer}

-- The call that an order stands for, over the plants of a shelf.
pub data StandsFor (plants : List Standing) : Order → Call → Type 0 where
  starts : {i t : ℕ} (s : Standing) → slice_get plants i ≡ Some s → StandsFor plants (Start i t) (call.Start s.kind s.meaning)
  solves : {θ : _} {t l : ℕ} → StandsFor plants (Solve θ t l) (call.Solve θ.now)
  grows : StandsFor plants Grow call.Grow
  answers : {θ : _} {t : ℕ} → StandsFor plants (Answer θ t) (call.Answer θ.now)

-- An order that names a plant of the shelf, or needs none.
abbrev pub MakesSense : List Standing → Order → Type 0
MakesSense plants (Start i t) = i < length plants
MakesSense plants (Solve θ t l) = Unit {0}
MakesSense plants Grow = Unit {0}
MakesSense plants (Answer θ t) = Unit {0}

-- An order that names no plant of the shelf.
pub data NoPlant (plants : List Standing) : Order → Type 0 where
  absent : {i t : ℕ} → slice_get plants i ≡ None → NoPlant plants (Start i t)

-- Which of the two an order is.
abbrev pub SenseAnswer : List Standing → Order → Bool → Type 0
SenseAnswer plants o true = MakesSense plants o
SenseAnswer plants o false = NoPlant plants o

-- How much of the tray an order lends.
abbrev pub tray_lent : Order → View → ℕ
tray_lent (Start i t) v = min t (length v.tray)
tray_lent (Solve θ t l) v = min t (length v.tray)
tray_lent Grow v = length v.tray
tray_lent (Answer θ t) v = min t (length v.tray)

-- And of the trail; calls other than a solve do not see it.
abbrev pub trail_lent : Order → View → ℕ
trail_lent (Start i t) v = v.trail_room
trail_lent (Solve θ t l) v = min l v.trail_room
trail_lent Grow v = v.trail_room
trail_lent (Answer θ t) v = v.trail_room

-- What the call sees: the map, its part of the tray, and an empty trail over its part of the trail's records.
abbrev pub lent : Order → View → View
lent o v = record { state = v.state; tray = take (tray_lent o v) v.tray; trail = []; trail_room = trail_lent o v }

-- What the life has after the call left `after`: the rest of the tray is as it was.
abbrev pub given_back : Order → View → View → View
given_back o v after = record { state = after.state; tray = after.tray ++ drop (tray_lent o v) v.tray; trail = []; trail_room = v.trail_room }

-- One order is carried out from v to w, with this reply: it stands for a call, which sees what it is lent.
pub record Carried (plants : List Standing) (v w : View) (o : Order) (r : Reply) : Type 0 where
  pub call : Call
  pub stands : StandsFor plants o call
  pub after : View
  pub step : Step (lent o v) after call r
  pub back : w ≡ given_back o v after

-- What is logged of a call that left w: the reply, and the first numbers of the whole tray.
pub record Told (w : View) (r : Reply) (e : Entry) : Type 0 where
  pub reply : e.reply ≡ r
  pub tray : (i : ℕ) → i < tray_size → i < length w.tray → entries e.tray i ≡ entries w.tray i

-- These orders are carried out from v to the last view; these are the calls, and this is the log.
pub data Life (plants : List Standing) (v : View) : List Order → List Moment → List Entry → View → Type 0 where
  begins : Life plants v [] [] [] v
  goes : {os os' : List Order} {ms ms' : List Moment} {es es' : List Entry} {u w : View} (o : Order) (r : Reply) (e : Entry) → Life plants v os ms es u → (c : Carried plants u w o r) → Told w r e
      → os' ≡ os ++ o ∷ [] → ms' ≡ ms ++ record { before = lent o u; call = c.call; reply = r; after = c.after } ∷ [] → es' ≡ es ++ e ∷ [] → Life plants v os' ms' es' w

-- A map that is opened over so many records, with a tray and so many records for the trail.
abbrev pub at_first : ℕ → List ℤ → ℕ → View
at_first records tray trail = record { state = opened (min most_records records); tray = tray; trail = []; trail_room = trail }

-- Everything that holds of a life. k orders were carried out:
pub record Lived (plants : List Standing) (orders : List Order) (records : ℕ) (tray tray' : List ℤ) (trail : ℕ) (log log' : List Entry) (k : ℕ) : Type 0 where
  -- each call is answered or refused, and leaves list, tray and trail, exactly as it is defined to;
  pub moments : List Moment
  pub last : View
  -- the log has each reply with the tray, and the rest of it is as it was;
  pub life : Life plants (at_first records tray trail) (take k orders) moments (take k log') last
  pub left : tray' ≡ last.tray
  pub rest : drop k log' ≡ drop k log
  -- every promise is kept at every call;
  pub kept : AllKept moments
  -- and the life ends only with its orders, with the log, or at an order that names no plant.
  pub ended : (k ≡ length orders) ⊎ ((k ≡ length log) ⊎ ((o : Order) × (slice_get orders k ≡ Some o) × NoPlant plants o))
