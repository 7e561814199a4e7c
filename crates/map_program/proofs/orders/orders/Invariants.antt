use Rattle.std.proofs.Common.{◌≡◌, ◌+◌, vec_len}
use Rattle.map_program.proofs.orders.orders.Given as goal

abbrev pub invariant-loop : goal.invariant-loop
invariant-loop l = vec_len l.orders ≡ 1 + l.counter

abbrev pub invariant-loop-g : goal.invariant-loop-g
invariant-loop-g l = vec_len l.orders ≡ 1 + l.grows + l.g
