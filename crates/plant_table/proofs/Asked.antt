-- What stands in an array that a closure made, place by place.
use Rattle.std.proofs.Common.{◌≡◌, ℕ, zero, suc, ◌+◌, ◌<◌, ◌≤◌, List, [], length, ℤ, pos, None, Option, sym, ap, ◌∙◌, subst, ⊎_elim, arith, get_or}
use Rattle.std.proofs.lemmas.Bool.{cases_eq, cases_lt}
use Rattle.std.proofs.lemmas.List.{get_or_past}
use Rattle.exact.specs.Vectors.{entries}
use Rattle.words.specs.Bounds.{Value}
use Rattle.plant.specs.Ranged.{or_zero}
use Rattle.plant.specs.WrittenBounds.{zero_is_value}
use Rattle.plant_table.specs.Places.{AllValues, AllRowsValues, row}
use Rattle.std.specs.Array.{IsFromFnResultFrom, IsFromFnResult}
use Rattle.std.specs.Fn.{Called}
use denote.Param.Members.{Mut}

module _ {F B : Type 0} (g : Mut F (ℕ × Unit {0}) B) (f : F) (P : ℕ → B → Type 0) (m : ℕ) (d : B) (ys : List B)
    (gives : (i : ℕ) (y : B) (q : F) → i < m → Called g f (i, tt) y q → (q ≡ f) × P i y) where
  each_from : (i n : ℕ) → i + n ≡ m → IsFromFnResultFrom g f ys i n → (k : ℕ) → i ≤ k → k < m → P k (get_or ys k d)
  each_from i zero e t k a b = absurd (omega arith)
  each_from i (suc n) e (q, y, at, called, rest) k a b =
      let G = gives i y q (omega arith) called in
      ⊎_elim
      (λ same. subst (λ x. P x (get_or ys x d)) same (subst (P i) (sym (at.1 d)) G.1))
      (λ ne. each_from (i + 1) n (omega arith) (subst (λ q. IsFromFnResultFrom g q ys (i + 1) n) G.0 rest) k (omega arith) b)
      (cases_eq i k)

  pub each : IsFromFnResult g f ys m → (k : ℕ) → k < m → P k (get_or ys k d)
  each R k h = each_from 0 m (omega arith) R.each k (omega arith) h

-- Numbers asked for within a count, and 0 past it, where there is no answer.
pub all_same : (m n : ℕ) (o : ℕ → Option ℤ) (ys : List ℤ) → ((i : ℕ) → i < m → i < n → entries ys i ≡ or_zero (o i)) → ((i : ℕ) → i < m → n ≤ i → entries ys i ≡ pos 0) → ((i : ℕ) → n ≤ i → o i ≡ None) → (i : ℕ) → i < m → entries ys i ≡ or_zero (o i)
all_same m n o ys answers zeros none i h = ⊎_elim
    (λ l. answers i h l)
    (λ l. zeros i h l ∙ sym (ap or_zero (none i l)))
    (cases_lt i n)

-- Where each number asked for is one of a plant, so are those of the array.
pub all_values : (m : ℕ) (h : ℕ → ℤ) (ys : List ℤ) → length ys ≡ m → ((i : ℕ) → i < m → entries ys i ≡ h i) → ((i : ℕ) → Value (h i)) → AllValues ys
all_values m h ys long same v i = ⊎_elim
    (λ l. subst Value (sym (same i l)) (v i))
    (λ l. subst Value (sym (get_or_past ys i (pos 0) (omega arith))) zero_is_value)
    (cases_lt i m)

pub all_rows : (m : ℕ) (yss : List (List ℤ)) → length yss ≡ m → ((j : ℕ) → j < m → AllValues (row yss j)) → AllRowsValues yss
all_rows m yss long v j = ⊎_elim
    (λ l. v j l)
    (λ l. subst AllValues (sym (get_or_past yss j [] (omega arith))) (λ i. zero_is_value))
    (cases_lt j m)
