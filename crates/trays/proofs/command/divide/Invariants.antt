use Rattle.std.proofs.Common.{◌≡◌, ◌++◌, map, take, drop}
use lib.Signed.{quot_z}
use Rattle.trays.proofs.command.divide.Given as goal

-- The numbers so far are divided.
abbrev pub invariant-loop-number : goal.invariant-loop-number
invariant-loop-number l = l.numbers ≡ map (λ z. quot_z z l.by) (take l.number-index l.initial.numbers) ++ drop l.number-index l.initial.numbers
