-- What a list holds and how much it can hold, whatever its fields are.
use Rattle.std.specs.Prelude.{ℕ, List, length, take}
use Rattle.bounded_list.specs.declared.list.List.{List as Bounded}

module _ {T : Type 0} where
  -- All records that were lent, those past the list's end among them.
  abbrev pub records : Bounded T → List T
  records l = l.items.now

  -- The first `len` records are the list.
  abbrev pub contents : Bounded T → List T
  contents l = take l.len (records l)

  -- How many records were lent.
  abbrev pub room : Bounded T → ℕ
  room l = length (records l)
