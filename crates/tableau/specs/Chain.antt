-- Runs: so many steps, one after another.
use Rattle.std.specs.Prelude.{ℕ, zero, suc}

-- k steps of S lead from x to the last one.
pub data Chain {A : Type 0} (S : A → A → Type 0) (x : A) : ℕ → A → Type 0 where
  done : Chain S x zero x
  more : {k : ℕ} {y z : A} → Chain S x k y → S y z → Chain S x (suc k) z
