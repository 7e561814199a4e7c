-- The limits that are not in a mask. Limits count from 0.
use Rattle.std.specs.Prelude.{◌≡◌, ℕ, zero, suc, ◌/◌, ◌%◌, ◌^◌, ◌<◌, ◌≤◌, cond, Some, None, Option, ◌==◌}

-- The bit of limit j in a mask: 1 for a limit that is in it, else 0.
abbrev pub bit : ℕ → ℕ → ℕ
bit b j = b / 2 ^ j % 2

-- How many limits below j are not in the mask.
unfoldable pub clear_bits : ℕ → ℕ → ℕ
clear_bits b zero = 0
clear_bits b (suc j) = cond (bit b j == 0) (suc (clear_bits b j)) (clear_bits b j)

-- Limit j, below n, is not in the mask, and so many below it are not in it.
abbrev pub Outside : ℕ → ℕ → ℕ → ℕ → Type 0
Outside b n number j = (j < n) × (bit b j ≡ 0) × (clear_bits b j ≡ number)

-- That limit, or that there are no more than `number` limits outside the mask.
abbrev pub OutsideAnswer : ℕ → ℕ → ℕ → Option ℕ → Type 0
OutsideAnswer b n number (Some j) = Outside b n number j
OutsideAnswer b n number None = clear_bits b n ≤ number
