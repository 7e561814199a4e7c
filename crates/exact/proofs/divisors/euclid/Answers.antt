use Rattle.std.proofs.Common.{◌≡◌, pos, arith}
use Rattle.exact.proofs.Gcd.{gcd_mod, gcd_zero}
use Rattle.exact.proofs.divisors.euclid.Goals as goal

pub loop-y-preserved : goal.loop-y-preserved
loop-y-preserved c g h = c.loop-y.invariant g (gcd_mod c.loop-y.x c.loop-y.y g h)

pub returns : goal.returns
returns c =
    let e : c.loop-y.y ≡ 0 = omega arith in
    c.loop-y.invariant (pos c.loop-y.x) (rw e (gcd_zero c.loop-y.x))
