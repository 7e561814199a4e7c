-- The state of a map, and all that a call is lent beside it.
use Rattle.std.specs.Prelude.{ℕ, List, ℤ, Option}
use Rattle.plant.specs.Meaning.{Meaning}
use Rattle.corner_runs.specs.declared.exchanges.Exchange.{Exchange}

-- A plant that was given to a start: the number of its sort, and what it means.
pub record Standing : Type 0 where
  pub kind : ℕ
  pub meaning : Meaning

-- The plant in force once a corner is listed, the masks of the listed corners, the number of pairs examined, and the records lent.
pub record State : Type 0 where
  pub force : Option Standing
  pub masks : List ℕ
  pub pairs : ℕ
  pub room : ℕ

-- A map, the tray, what the trail holds, and how much it can hold.
pub record View : Type 0 where
  pub state : State
  pub tray : List ℤ
  pub trail : List Exchange
  pub trail_room : ℕ
