-- The limits outside a mask, counted one after another, and those outside the mask of a corner.
use Rattle.std.proofs.Common.{◌≡◌, ℕ, zero, suc, ◌+◌, ◌-◌, ◌*◌, ◌/◌, ◌%◌, ◌^◌, ◌<◌, ◌≤◌, Bool, true, false, cond, eqb, List, ◌∷◌, Some, None, Option, sym, refl, ap, ◌∙◌, ⊎_elim, arith, pow_pos, pow-add}
use native.Mathlib.Decide.{ℕ_discrete}
use native.Mathlib.Nat.{pow-succ', add-div_left, mul-add-div, mul-add-mod_self_left, div-eq_of_lt}
use Rattle.std.specs.List.{range_with_len, filter, slice_get}
use Rattle.std.proofs.lemmas.Bool.{eq-eqb, ne_eqb, cases_lt}
use Rattle.plant.specs.Commands.{column}
use Rattle.plant.specs.Meaning.{Meaning}
use Rattle.tableau.specs.Masks.{holds, mask, mask_of}
use Rattle.tableau.specs.Plants.{commands, limits, CornerOf}
use Rattle.tableau.specs.Runs.{InBasis}
use Rattle.tableau.proofs.Count.{count, holds_in, holds_out, count_holds}
use Rattle.tableau.proofs.Masks.{mask_below}
use Rattle.tableau.proofs.Willing.{injective}
use Rattle.corner_list.specs.Outside.{bit, clear_bits, Outside, OutsideAnswer}

pub clear_none : (b : ℕ) → 0 ≡ clear_bits b 0
unfolding clear_bits
clear_none b = refl

-- One limit more, which is outside the mask or in it.
pub clear_more : (b j : ℕ) → bit b j ≡ 0 → clear_bits b (j + 1) ≡ clear_bits b j + 1
unfolding clear_bits
clear_more b j e =
    let next : j + 1 ≡ suc j = omega arith in
    rw (next, eq-eqb (bit b j) 0 e) (omega arith)

pub clear_same : (b j : ℕ) → ¬ (bit b j ≡ 0) → clear_bits b (j + 1) ≡ clear_bits b j
unfolding clear_bits
clear_same b j d =
    let next : j + 1 ≡ suc j = omega arith in
    rw (next, ne_eqb (bit b j) 0 d)

module _ (b : ℕ) where
  -- Of the m limits from limit a, those that are not in the mask.
  abbrev pub clear_from : ℕ → ℕ → List ℕ
  clear_from a m = filter (λ j. eqb (bit b j) 0) (range_with_len a m)

  -- The one at a place among them.
  abbrev pub From : ℕ → ℕ → ℕ → Option ℕ → Type 0
  From a m number (Some j) = (j < a + m) × (bit b j ≡ 0) × (clear_bits b j ≡ clear_bits b a + number)
  From a m number None = clear_bits b (a + m) ≤ clear_bits b a + number

  before : (a m k number : ℕ) → clear_bits b (a + 1) + k ≡ clear_bits b a + number → (r : Option ℕ) → From (a + 1) m k r → From a (suc m) number r
  before a m k number e (Some j) (inside, out, count) = (omega arith, out, omega arith)
  before a m k number e None most = let next : a + 1 + m ≡ a + suc m = omega arith in omega (arith, rw next at most)

  first : (a m : ℕ) → bit b a ≡ 0 → ((number : ℕ) → From (a + 1) m number (slice_get (clear_from (a + 1) m) number)) → (number : ℕ) → From a (suc m) number (slice_get (a ∷ clear_from (a + 1) m) number)
  first a m e rest zero = (omega arith, e, omega arith)
  first a m e rest (suc k) = before a m k (suc k) (omega (arith, clear_more b a e)) _ (rest k)

  from : (a m number : ℕ) → From a m number (slice_get (clear_from a m) number)
  from a zero number = let same : a + 0 ≡ a = omega arith in rw same (omega arith)
  from a (suc m) number = elim (ℕ_discrete (bit b a) 0) [
    | yes e ↦ rw (eq-eqb (bit b a) 0 e) (first a m e (from (a + 1) m) number)
    | no d ↦ rw (ne_eqb (bit b a) 0 d) (before a m number number (ap (λ x. x + number) (clear_same b a d)) _ (from (a + 1) m number))
  ]

  pub outside_answered : (n number : ℕ) → OutsideAnswer b n number (slice_get (clear_from 0 n) number)
  outside_answered n number = by _ (from 0 n number)
    where
      by : (r : Option ℕ) → From 0 n number r → OutsideAnswer b n number r
      by (Some j) (inside, out, count) = (omega arith, out, omega (arith, clear_none b))
      by None most = let start : 0 + n ≡ n = omega arith in omega (arith, clear_none b, rw start at most)

clear_rises : (b i j : ℕ) → i ≤ j → clear_bits b i ≤ clear_bits b j
unfolding clear_bits
clear_rises b i zero l =
    let e : i ≡ 0 = omega arith in
    rw e (omega arith)
clear_rises b i (suc j) l = elim (ℕ_discrete i (suc j)) [ yes e ↦ rw e (omega arith) | no d ↦ by (eqb (bit b j) 0) (clear_rises b i j (omega arith)) ]
  where
    by : (t : Bool) → clear_bits b i ≤ clear_bits b j → clear_bits b i ≤ cond t (suc (clear_bits b j)) (clear_bits b j)
    by true h = omega arith
    by false h = h

-- Every limit outside the mask has a place among them, and a place belongs to one limit.
pub outside_place : (b n j : ℕ) → j < n → bit b j ≡ 0 → clear_bits b j < clear_bits b n
outside_place b n j l e = omega (arith, clear_more b j e, clear_rises b (j + 1) n (omega arith))

pub outside_one : (b n number i j : ℕ) → Outside b n number i → Outside b n number j → i ≡ j
outside_one b n number i j (li, ei, ci) (lj, ej, cj) = ⊎_elim
    (λ l. absurd (omega (arith, outside_place b j i l ei)))
    (λ l. ⊎_elim (λ k. absurd (omega (arith, outside_place b i j k ej))) (λ k. omega arith) (cases_lt j i))
    (cases_lt i j)

-- Bit j is that of the number without a multiple of 2 ^ (j + 1).
low_bit : (j q x : ℕ) → bit (2 ^ j * (2 * q) + x) j ≡ bit x j
low_bit j q x = ap (λ y. y % 2) (mul-add-div (pow_pos j) (2 * q) x) ∙ mul-add-mod_self_left 2 q (x / 2 ^ j)

two_more : (j n : ℕ) → j < n → 2 ^ n ≡ 2 ^ j * (2 * 2 ^ (n - suc j))
two_more j n l =
    let e : n ≡ j + suc (n - suc j) = omega arith in
    ap (λ k. 2 ^ k) e ∙ pow-add 2 j (suc (n - suc j)) ∙ ap (λ x. 2 ^ j * x) (pow-succ' 2 (n - suc j))

-- Bit j of a mask says whether the set has j.
pub mask_bit : (n : ℕ) (S : ℕ → Bool) (j : ℕ) → j < n → bit (mask n S) j ≡ cond (S j) 1 0
unfolding mask
mask_bit zero S j l = absurd (omega arith)
mask_bit (suc n) S j l = elim (ℕ_discrete j n) [ yes e ↦ rw e (last (S n)) | no d ↦ lower (omega arith) (S n) (mask_bit n S j (omega arith)) ]
  where
    none : mask n S / 2 ^ n ≡ 0
    none = div-eq_of_lt (mask_below n S)

    last : (t : Bool) → bit (cond t (2 ^ n + mask n S) (mask n S)) n ≡ cond t 1 0
    last true = ap (λ x. x % 2) (add-div_left (mask n S) (pow_pos n) ∙ ap (λ x. x + 1) none)
    last false = ap (λ x. x % 2) none

    lower : j < n → (t : Bool) → bit (mask n S) j ≡ cond (S j) 1 0 → bit (cond t (2 ^ n + mask n S) (mask n S)) j ≡ cond (S j) 1 0
    lower h true e = ap (λ x. bit (x + mask n S) j) (two_more j n h) ∙ low_bit j (2 ^ (n - suc j)) (mask n S) ∙ e
    lower h false e = e

-- The limits outside a set and those in it are all.
clear_count : (b n j : ℕ) (S : ℕ → Bool) → j ≤ n → ((i : ℕ) → i < n → bit b i ≡ cond (S i) 1 0) → clear_bits b j + count j S ≡ j
unfolding clear_bits count
clear_count b n zero S l e = refl
clear_count b n (suc j) S l e = rw (e j l) (by (S j) (clear_count b n j S (omega arith) e))
  where
    by : (t : Bool) → clear_bits b j + count j S ≡ j → cond (eqb (cond t 1 0) 0) (suc (clear_bits b j)) (clear_bits b j) + cond t (suc (count j S)) (count j S) ≡ suc j
    by true h = omega arith
    by false h = omega arith

-- The mask of a corner: the bit of a limit is 1 exactly when the limit is in the basis.
module _ (p : Meaning) (X : CornerOf p) (j : ℕ) (l : j < limits p) where
  basis_bit : bit (mask_of p X) j ≡ cond (holds (commands p) X.β j) 1 0
  basis_bit = mask_bit (limits p) (holds (commands p) X.β) j l

  pub in_basis_bit : InBasis p X j → bit (mask_of p X) j ≡ 1
  in_basis_bit (r, k, e) = basis_bit ∙ ap (λ t. cond t 1 0) (ap (holds (commands p) X.β) (sym e) ∙ holds_in (commands p) X.β r k)

  pub bit_in_basis : bit (mask_of p X) j ≡ 1 → InBasis p X j
  bit_in_basis e = by (holds (commands p) X.β j) refl (sym basis_bit ∙ e)
    where
      by : (t : Bool) → holds (commands p) X.β j ≡ t → ◌≡◌ {A = ℕ} (cond t 1 0) 1 → InBasis p X j
      by true h d = holds_out (commands p) X.β j h
      by false h d = absurd (omega arith)

  -- and 0 exactly when it is not.
  pub clear_bit : bit (mask_of p X) j ≡ 0 → ¬ InBasis p X j
  clear_bit e h = omega (arith, in_basis_bit h)

  pub bit_clear : ¬ InBasis p X j → bit (mask_of p X) j ≡ 0
  bit_clear n = by (holds (commands p) X.β j) refl
    where
      by : (t : Bool) → holds (commands p) X.β j ≡ t → bit (mask_of p X) j ≡ 0
      by true h = absurd (n (holds_out (commands p) X.β j h))
      by false h = basis_bit ∙ ap (λ t. cond t 1 0) h

-- As many limits are outside the basis as there are more limits than commands.
pub clear_mask : (p : Meaning) (X : CornerOf p) → clear_bits (mask_of p X) (limits p) ≡ limits p - commands p
clear_mask p X =
    let S = holds (commands p) X.β in
    let all = clear_count (mask_of p X) (limits p) (limits p) S (omega arith) (mask_bit (limits p) S) in
    let m = count_holds (limits p) (commands p) X.β X.known (injective (commands p) (column p) X.β X.D X.U X.inverse) in
    omega arith
