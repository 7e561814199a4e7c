-- The first places of a list.
use Rattle.std.proofs.Common.{◌≡◌, ℕ, zero, suc, List, [], ◌∷◌, length, take, refl, ap}

-- As many places as a front has are that front.
pub take_length_take : {X : Type 0} (n : ℕ) (xs : List X) → take (length (take n xs)) xs ≡ take n xs
take_length_take zero xs = refl
take_length_take (suc n) [] = refl
take_length_take (suc n) (x ∷ xs) = ap (λ l. x ∷ l) (take_length_take n xs)
