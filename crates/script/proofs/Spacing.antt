-- One number more.
use Rattle.std.proofs.Common.{◌≡◌, ℕ, ◌+◌, ◌-◌, ◌<◌, min, List, [], ◌∷◌, ◌++◌, length, get_or, take, ℤ, pos, codes, sym, refl, ap, ◌∙◌, inl, inr, append_assoc, append-nil, arith}
use Rattle.std.proofs.lemmas.List.{take_more, take_all}
use Rattle.std.proofs.lemmas.Bool.{cases_lt}
use Rattle.std.specs.Fmt.{signed_decimal}
use Rattle.script.specs.Lines.{spaced}

spaced_append : (xs ys : List ℤ) → spaced (xs ++ ys) ≡ spaced xs ++ spaced ys
spaced_append [] ys = refl
spaced_append (x ∷ xs) ys = ap (λ l. (codes " " ++ signed_decimal x) ++ l) (spaced_append xs ys) ∙ sym (append_assoc (codes " " ++ signed_decimal x) (spaced xs) (spaced ys))

pub spaced_more : (zs : List ℤ) (k : ℕ) → k < length zs → spaced (take k zs) ++ (codes " " ++ signed_decimal (get_or zs k (pos 0))) ≡ spaced (take (k + 1) zs)
spaced_more zs k h = sym (ap spaced (take_more zs k (pos 0) h)
    ∙ spaced_append (take k zs) (get_or zs k (pos 0) ∷ [])
    ∙ ap (λ l. spaced (take k zs) ++ l) (append-nil (codes " " ++ signed_decimal (get_or zs k (pos 0)))))

-- A front that is cut at the end of the list.
pub front : (xs : List ℤ) (n k : ℕ) → k ≡ min n (length xs) → take (k - 0) xs ≡ take n xs
front xs n k e = elim (cases_lt n (length xs)) [
  | inl h ↦ ap (λ i. take i xs) (omega arith)
  | inr h ↦ (take_all (k - 0) xs (omega arith) ∙ sym (take_all n xs (omega arith)))
]
