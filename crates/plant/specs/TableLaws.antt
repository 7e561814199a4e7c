-- What stands at each place of a table and of two lists end to end. (Here and not among the proofs, since a plant's own bounds rest on it.)
use Rattle.std.specs.Prelude.{◌≡◌, ℕ, zero, suc, ◌-◌, ◌<◌, ◌≤◌, Bool, true, false, cond, List, [], ◌∷◌, ◌++◌, length, Some, None, refl}
use Rattle.std.proofs.Common.{sym, ap, subst, ◌∙◌, ⊎_elim, arith}
use Rattle.std.specs.List.{slice_get}
use Rattle.std.proofs.lemmas.List.FromFn.{get_or-map-range_with_len, length-map-range_with_len}
use Rattle.std.proofs.lemmas.Option.{slice_get-get_or, slice_get_past}
use Rattle.std.proofs.lemmas.Bool.{cases_lt, eq-eqb, ne_eqb}
use Rattle.plant.specs.Tables.{at_place, table, Found}

pub length_table : {X : Type 0} (n : ℕ) (f : ℕ → X) → length (table n f) ≡ n
length_table n f = length-map-range_with_len f 0 n

pub nth_table : {X : Type 0} (n : ℕ) (f : ℕ → X) (i : ℕ) → i < n → slice_get (table n f) i ≡ Some (f i)
nth_table n f i h = slice_get-get_or (table n f) i (f i) (rw (length_table n f) h) ∙ ap Some (get_or-map-range_with_len f 0 n i i (f i) h (omega arith))

pub past_table : {X : Type 0} (n : ℕ) (f : ℕ → X) (i : ℕ) → n ≤ i → slice_get (table n f) i ≡ None
past_table n f i h = slice_get_past (table n f) i (rw (length_table n f) h)

-- What holds of f at each place holds of everything in the table.
pub each_of_table : {X : Type 0} (P : X → Type 0) (n : ℕ) (f : ℕ → X) → ((i : ℕ) → i < n → P (f i)) → (i : ℕ) (x : X) → slice_get (table n f) i ≡ Some x → P x
each_of_table P n f h i x e = ⊎_elim
    (λ k. let r = nth_table n f i k in let same : f i ≡ x = cc in subst P same (h i k))
    (λ k. let r = past_table n f i k in absurd (let bad : ◌≡◌ {A = ℕ} 0 1 = cc in omega arith))
    (cases_lt i n)

pub nth_front : {X : Type 0} (xs ys : List X) (j : ℕ) → j < length xs → slice_get (xs ++ ys) j ≡ slice_get xs j
nth_front [] ys j h = absurd (omega arith)
nth_front (x ∷ xs) ys zero h = refl
nth_front (x ∷ xs) ys (suc j) h = nth_front xs ys j (omega arith)

pub nth_back : {X : Type 0} (xs ys : List X) (j : ℕ) → length xs ≤ j → slice_get (xs ++ ys) j ≡ slice_get ys (j - length xs)
nth_back [] ys j h = let e : j - 0 ≡ j = omega arith in rw e
nth_back (x ∷ xs) ys zero h = absurd (omega arith)
nth_back (x ∷ xs) ys (suc j) h = let e : suc j - suc (length xs) ≡ j - length xs = omega arith in rw e (nth_back xs ys j (omega arith))

-- Places that count from 1.
pub at_found : {X : Type 0} (xs : List X) (n i k : ℕ) → Found n i (Some k) → at_place xs i ≡ slice_get xs k
at_found xs n i k f =
    let e : i - 1 ≡ k = omega (arith, f.0) in
    rw (ne_eqb i 0 (λ z. omega (arith, f.0)), e)

pub at_absent : {X : Type 0} (xs : List X) (n i : ℕ) → n ≡ length xs → Found n i None → at_place xs i ≡ None
at_absent xs n i e f = ⊎_elim
    (λ z. rw (eq-eqb i 0 z))
    (λ h. rw (ne_eqb i 0 (λ z. omega arith)) (slice_get_past xs (i - 1) (omega arith)))
    f

pub table_found : {X : Type 0} (n : ℕ) (f : ℕ → X) (i k : ℕ) → Found n i (Some k) → at_place (table n f) i ≡ Some (f k)
table_found n f i k h = at_found (table n f) n i k h ∙ nth_table n f k h.1

pub table_absent : {X : Type 0} (n : ℕ) (f : ℕ → X) (i : ℕ) → Found n i None → at_place (table n f) i ≡ None
table_absent n f i h = at_absent (table n f) n i (sym (length_table n f)) h

-- What both answers of a test have, its answer has.
pub by_test : {X : Type 0} (P : X → Type 0) (b : Bool) (x y : X) → P x → P y → P (cond b x y)
by_test P true x y p q = p
by_test P false x y p q = q
