-- How many ways to choose there are at the most.
use Rattle.std.proofs.Common.{◌≡◌, ℕ, zero, suc, ◌+◌, ◌*◌, ◌^◌, ◌≤◌, pow-suc, arith, pow_pos, pow_mono}
use Rattle.tableau.specs.Choose.{choose}
use Rattle.words.specs.Bounds.{most_limits, most_commands}

pub choose_pow : (n k : ℕ) → choose n k ≤ 2 ^ n
unfolding choose
choose_pow zero zero = omega arith
choose_pow zero (suc k) = omega arith
choose_pow (suc n) zero = let h : 2 ^ suc n ≡ 2 ^ n * 2 = pow-suc 2 n in omega (arith, pow_pos n)
choose_pow (suc n) (suc k) = let h : 2 ^ suc n ≡ 2 ^ n * 2 = pow-suc 2 n in omega (arith, choose_pow n k, choose_pow n (suc k))

-- At the greatest counts, those of the artificial limits too.
pub choose_few : (n k : ℕ) → n ≤ most_limits + most_commands → choose n k ≤ 2 ^ (most_limits + most_commands)
choose_few n k h = omega (arith, choose_pow n k, pow_mono h)
