use Rattle.std.proofs.Common.{◌≡◌, ◌+◌, ◌≤◌, length}
use Rattle.input.specs.Split.{RangeWords, Payloads}
use Rattle.input.proofs.split.range_numbers.Given as goal

abbrev pub invariant-loop-i : goal.invariant-loop-i
invariant-loop-i l = record { words : RangeWords l.words l.from l.i; numbers : Payloads l.words l.from l.i l.number-items; within : l.from + l.i ≤ length l.words; many : length l.number-items ≡ l.count }
