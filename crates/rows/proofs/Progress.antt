-- A loop that writes a row place by place.
use Rattle.std.proofs.Common.{◌≡◌, ℕ, ◌+◌, ◌<◌, ◌≤◌, ◌≢◌, List, length, set, ℤ, arith, below_more}
use Rattle.std.proofs.lemmas.List.{get_or-set_same, get_or-set_other}
use Rattle.exact.specs.Vectors.{entries}
use Rattle.exact.specs.Bounds.{InWidth, AllInWidth}
use Rattle.exact.proofs.Sizes.{in_width_set}

-- The numbers at the first j places are those that F gives.
abbrev pub Written : (ℕ → ℤ) → List ℤ → ℕ → Type 0
Written F xs j = (k : ℕ) → k < j → entries xs k ≡ F k

-- One number more is written.
pub write : (F : ℕ → ℤ) (xs : List ℤ) (j : ℕ) (v : ℤ) → j < length xs → Written F xs j → v ≡ F j → Written F (set xs j v) (j + 1)
write F xs j v inside P e = below_more _ _ (λ k l. let ne : k ≢ j = omega arith in rw get_or-set_other (P k l)) (rw get_or-set_same e)

-- And the other numbers of the row `before` are as they were.
abbrev pub Progress : (ℕ → ℤ) → List ℤ → List ℤ → ℕ → Type 0
Progress F before xs j = Written F xs j × ((k : ℕ) → j ≤ k → entries xs k ≡ entries before k) × AllInWidth xs

pub step : (F : ℕ → ℤ) (before xs : List ℤ) (j : ℕ) (v : ℤ) → j < length xs → Progress F before xs j → v ≡ F j → InWidth v → Progress F before (set xs j v) (j + 1)
step F before xs j v inside P e h = (
  write F xs j v inside P.0 e,
  (λ k l. let ne : k ≢ j = omega arith in rw get_or-set_other (P.1 k (omega arith))),
  in_width_set xs j v P.2 h,
)
