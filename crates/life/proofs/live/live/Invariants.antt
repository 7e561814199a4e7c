use Rattle.std.proofs.Common.{◌≡◌, ◌≤◌, [], length, drop}
use Rattle.clutch_map.specs.Views.{seen}
use Rattle.life.proofs.Living.{Living}
use Rattle.life.proofs.live.live.Given as goal

-- The life so far; the rest of the log is as it was.
abbrev pub invariant-loop-k : goal.invariant-loop-k
invariant-loop-k g l = record {
  life : Living (g.S.Shelf.plants l.shelf) l.orders (seen l.initial.map l.initial.tray [] (length l.initial.trail)) l.k l.log (seen l.map l.tray [] (length l.initial.trail));
  few : l.k ≤ length l.orders;
  rest : drop l.k l.log ≡ drop l.k l.initial.log;
}
