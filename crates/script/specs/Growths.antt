-- How far a map has grown, by the replies to its grows.
use Rattle.std.specs.Prelude.{◌≡◌, ℕ, ◌+◌, ◌<◌, ◌≤◌, Bool, true, false, List, length, take, Some, Ok, Err, count_by, Result, ◌≢◌}
use Rattle.std.specs.List.{slice_get}
use Rattle.words.specs.declared.refusal.Refusal.{Refusal}
use Rattle.map_steps.specs.declared.reply.Grown.TheVariants.{Nothing, Listed, Finished}
use Rattle.map_steps.specs.Replies.{Reply}
use Rattle.map_steps.specs.declared.reply.Done.TheVariants.{Start, Solve, Grow, Answer}
use Rattle.script.specs.declared.growth.Mapped.{Mapped}

-- The records that the program lends its map.
abbrev pub records : ℕ
records = 128

-- The grow examined a pair.
abbrev pub examines : Reply → Bool
examines (Ok (Start a)) = false
examines (Ok (Solve a)) = false
examines (Ok (Grow Nothing)) = true
examines (Ok (Grow Listed)) = true
examines (Ok (Grow Finished)) = false
examines (Ok (Answer a)) = false
examines (Err e) = false

-- And listed a new corner.
abbrev pub lists : Reply → Bool
lists (Ok (Start a)) = false
lists (Ok (Solve a)) = false
lists (Ok (Grow Nothing)) = false
lists (Ok (Grow Listed)) = true
lists (Ok (Grow Finished)) = false
lists (Ok (Answer a)) = false
lists (Err e) = false

module _ (rs : List Reply) where
  -- The first so many replies, and no more, are those of grows that examined a pair.
  pub record Examined (pairs : ℕ) : Type 0 where
    pub within : pairs ≤ length rs
    pub all : (i : ℕ) (r : Reply) → i < pairs → slice_get rs i ≡ Some r → examines r ≡ true
    pub stopped : (r : Reply) → slice_get rs pairs ≡ Some r → examines r ≡ false

  -- The refusal that stopped the growth, else the pairs examined and the corners listed, the first one included.
  pub data Growth : Result Mapped Refusal → Type 0 where
    refused : {e : Refusal} (pairs : ℕ) → Examined pairs → slice_get rs pairs ≡ Some (Err e) → Growth (Err e)
    mapped : {g : Mapped} → Examined g.pairs → ((e : Refusal) → slice_get rs g.pairs ≢ Some (Err e)) → g.corners ≡ 1 + count_by lists (take g.pairs rs) → Growth (Ok g)
