-- A word has 32 bits: its kind in the top four, and a signed number, its payload, in the 28 below.
use Rattle.std.specs.Prelude.{◌≡◌, ℕ, ◌/◌, ◌%◌, ◌^◌, cond, ℤ, pos, ◌-ℤ◌, neg_ℤ, ◌≤ℤ◌, ◌<ℤ◌, nat_lt}

abbrev pub kind_bits : ℕ → ℕ
kind_bits w = w / 2 ^ 28

abbrev pub bits_of_payload : ℕ → ℕ
bits_of_payload w = w % 2 ^ 28

-- The signed number that 28 bits stand for, in two's complement.
abbrev pub signed : ℕ → ℤ
signed b = cond (nat_lt b (2 ^ 27)) (pos b) (pos b -ℤ pos (2 ^ 28))

abbrev pub payload : ℕ → ℤ
payload w = signed (bits_of_payload w)

-- The numbers that 28 bits hold.
abbrev pub HeldInPayload : ℤ → Type 0
HeldInPayload z = (neg_ℤ (pos (2 ^ 27)) ≤ℤ z) × (z <ℤ pos (2 ^ 27))

-- The word of a kind with a number for its payload.
abbrev pub IsWord : ℕ → ℤ → ℕ → Type 0
IsWord kind z w = (kind_bits w ≡ kind) × (payload w ≡ z)
