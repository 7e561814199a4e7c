-- Histories: any calls on one map, one after another, from its opening on.
use Rattle.std.specs.Prelude.{◌≡◌, ℕ, List, [], ◌∷◌, ◌++◌, None}
use Rattle.map_steps.specs.States.{State}
use Rattle.map_steps.specs.Steps.{Step}
use Rattle.promises.specs.Promises.{Moment, AllKept}

-- A map as it is opened over so many records.
abbrev pub opened : ℕ → State
opened room = record { force = None; masks = []; pairs = 0; room = room }

-- These calls lead a map from the state x to the last one. Tray and trail are the caller's, and may be others at each call.
pub data History (x : State) : List Moment → State → Type 0 where
  opens : History x [] x
  goes : {ms ns : List Moment} {y : State} (m : Moment) → History x ms y → m.before.state ≡ y → Step m.before m.after m.call m.reply → ns ≡ ms ++ m ∷ [] → History x ns m.after.state

-- Whatever is called, every promise is kept at every call.
abbrev pub EveryPromiseIsKept : Type 0
EveryPromiseIsKept = (room : ℕ) (ms : List Moment) (y : State) → History (opened room) ms y → AllKept ms
