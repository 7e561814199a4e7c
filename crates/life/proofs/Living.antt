-- Lives, one order after another.
use Rattle.std.proofs.Common.{◌≡◌, ℕ, suc, ◌+◌, ◌<◌, min, ◌⊎◌, List, [], ◌∷◌, ◌++◌, length, take, drop, set, ℤ, Some, sym, refl, ap, ◌∙◌, subst, add-one, arith}
use Rattle.std.proofs.lemmas.Option.{slice_get_within, get_or_from_slice_get}
use Rattle.std.proofs.lemmas.List.{take_more, take_more_set, drop-set-lt, drop-drop}
use Rattle.clutch_map.specs.Listed.{most_records}
use Rattle.clutch_map.specs.Views.{state, seen}
use Rattle.clutch_map.specs.declared.map.Map.{Map}
use Rattle.std.specs.List.{slice_get}
use Rattle.map_steps.specs.States.{Standing, State, View}
use Rattle.map_steps.specs.Replies.{Reply}
use Rattle.promises.specs.Histories.{History, opens, opened}
use Rattle.promises.specs.Histories as history
use Rattle.promises.specs.Promises.{Moment}
use Rattle.promises.proofs.KeptHistories.{every_promise}
use Rattle.life.specs.Lives.{lent, Carried, Told, Life, begins, goes, NoPlant, at_first, Lived}
use Rattle.life.specs.declared.entry.Entry.{Entry}
use Rattle.life.specs.declared.order.Order.{Order}

-- The calls of a life are a history of its map.
pub life_history : (plants : List Standing) (v : View) {os : List Order} {ms : List Moment} {es : List Entry} {w : View} → Life plants v os ms es w → History v.state ms w.state
life_history plants v begins = opens
life_history plants v (goes {w = w} o r e l c t eo em ee) = subst (History v.state _) (sym (ap (λ (x : View). x.state) c.back)) (history.goes _ (life_history plants v l) refl c.step em)

-- The first k orders are carried out, and the first k places of the log tell of them.
pub record Living (plants : List Standing) (orders : List Order) (v : View) (k : ℕ) (log : List Entry) (w : View) : Type 0 where
  pub moments : List Moment
  pub life : Life plants v (take k orders) moments (take k log) w

pub lives_first : (plants : List Standing) (orders : List Order) (v : View) (log : List Entry) → Living plants orders v 0 log v
lives_first plants orders v log = record { moments = []; life = begins }

take_more_get : (orders : List Order) (k : ℕ) (o : Order) → slice_get orders k ≡ Some o → take (k + 1) orders ≡ take k orders ++ o ∷ []
take_more_get orders k o there = take_more orders k o (slice_get_within orders k o there) ∙ ap (λ o. take k orders ++ o ∷ []) (get_or_from_slice_get orders k o o there)

-- One order more.
pub lives_on : (plants : List Standing) (orders : List Order) (v u w : View) (k : ℕ) (log : List Entry) (o : Order) (r : Reply) (e : Entry) → Living plants orders v k log u → slice_get orders k ≡ Some o → Carried plants u w o r → Told w r e → k < length log → Living plants orders v (k + 1) (set log k e) w
lives_on plants orders v u w k log o r e l there c t room = record {
  moments = l.moments ++ record { before = lent o u; call = c.call; reply = r; after = c.after } ∷ [];
  life = goes o r e l.life c t (take_more_get orders k o there) refl (take_more_set log k e room);
}

-- The rest of the log.
pub rest_on : (log log₀ : List Entry) (k : ℕ) (e : Entry) → drop k log ≡ drop k log₀ → drop (k + 1) (set log k e) ≡ drop (k + 1) log₀
rest_on log log₀ k e h = rw add-one (drop-set-lt (suc k) log k e (omega arith) ∙ sym (drop_drop_one k log) ∙ ap (drop 1) h ∙ drop_drop_one k log₀)
  where
    drop_drop_one : (k : ℕ) (xs : List Entry) → drop 1 (drop k xs) ≡ drop (suc k) xs
    drop_drop_one k xs = drop-drop 1 k xs ∙ ap (λ n. drop n xs) (add-one k)

-- Everything that holds of the life, from an opened map.
pub lived : (plants : List Standing) (orders : List Order) (records : ℕ) (tray : List ℤ) (trail : ℕ) (log log' : List Entry) (k : ℕ) (m : Map) (w : View) → state m ≡ opened (min most_records records) → Living plants orders (seen m tray [] trail) k log' w → drop k log' ≡ drop k log
    → (k ≡ length orders) ⊎ ((k ≡ length log) ⊎ ((o : Order) × (slice_get orders k ≡ Some o) × NoPlant plants o)) → Lived plants orders records tray w.tray trail log log' k
lived plants orders records tray trail log log' k m w first l rest ended =
    let life = subst (λ x. Life plants (record { state = x; tray = tray; trail = []; trail_room = trail }) (take k orders) l.moments (take k log') w) first l.life in
    record { moments = l.moments; last = w; life = life; left = refl; rest = rest; kept = every_promise (min most_records records) l.moments w.state (life_history plants (at_first records tray trail) life); ended = ended }

-- A trail keeps its room.
pub same_room : (plants : List Standing) (x y : State) (tray tray' : List ℤ) (o : Order) (r : Reply) (n n' : ℕ) → n ≡ n' → Carried plants (record { state = x; tray = tray; trail = []; trail_room = n }) (record { state = y; tray = tray'; trail = []; trail_room = n }) o r
    → Carried plants (record { state = x; tray = tray; trail = []; trail_room = n' }) (record { state = y; tray = tray'; trail = []; trail_room = n' }) o r
same_room plants x y tray tray' o r n n' e c = subst (λ n. Carried plants (record { state = x; tray = tray; trail = []; trail_room = n }) (record { state = y; tray = tray'; trail = []; trail_room = n }) o r) e c
