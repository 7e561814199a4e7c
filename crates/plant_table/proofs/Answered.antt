-- What a plant in bounds answers at places inside its counts.
use Rattle.std.proofs.Common.{◌≡◌, ℕ, suc, ◌+◌, ◌-◌, ◌<◌, List, length, get_or, ℤ, pos, Some, None, Option, sym, refl, ap, ◌∙◌, subst, arith, w32, SFits, to_z, of_z}
use Rattle.std.proofs.lemmas.Option.{slice_get-get_or}
use Rattle.std.proofs.lemmas.Int.{to_z-of_z}
use Rattle.std.proofs.lemmas.Bool.{ne_eqb}
use Rattle.exact.specs.Vectors.{entries}
use Rattle.words.specs.Bounds.{Value}
use Rattle.plant.specs.Meaning.{Limit, Meaning, Fits, Values, Bounded, no_limit, shape_of, gain_of, coefficient_of, constant_of, slope_of}
use Rattle.plant.specs.Commands.{limit_at, column}
use Rattle.plant.specs.Tables.{at_place, within}
use Rattle.tableau.specs.Plants.{commands, limits, rate}

-- A question with an answer is not answered by none, and its answer is the number.
pub record Answered (o : Option ℤ) (z : ℤ) : Type 0 where
  pub there : o ≡ Some z
  pub value : Value z

module _ (o : Option ℤ) (z : ℤ) (a : Answered o z) where
  pub never_none : None ≡ o → ⊥
  never_none e = let t = a.there in let bad : ◌≡◌ {A = ℕ} 0 1 = cc in omega arith

  module _ (x : ℤ) (e : Some x ≡ o) (fits : SFits w32 x) where
    pub number : to_z w32 (of_z w32 x) ≡ z
    number = let t = a.there in let same : x ≡ z = cc in to_z-of_z w32 x fits ∙ same

    pub value_of : Value (to_z w32 (of_z w32 x))
    value_of = subst Value (sym number) a.value

at_next : {X : Type 0} (xs : List X) (i : ℕ) (d : X) → i < length xs → at_place xs (i + 1) ≡ Some (get_or xs i d)
at_next xs i d h =
    let back : i + 1 - 1 ≡ i = omega arith in
    rw (ne_eqb (i + 1) 0 (λ e. omega arith), back) (slice_get-get_or xs i d h)

in_list : (zs : List ℤ) (i : ℕ) → Values zs → i < length zs → Answered (at_place zs (i + 1)) (entries zs i)
in_list zs i v h = record { there = at_next zs i (pos 0) h; value = v.each i (entries zs i) (slice_get-get_or zs i (pos 0) h) }

module _ (p : Meaning) (B : Bounded p) where
  pub gain_answered : (i : ℕ) → i < commands p → Answered (gain_of p (i + 1)) (entries p.gains i)
  gain_answered i h = in_list p.gains i B.gains h

  module _ (j : ℕ) (h : j < limits p) where
    pub fits : Fits (shape_of p) (limit_at p j)
    fits = B.limits j (limit_at p j) (slice_get-get_or p.limits j no_limit h)

    asked : (g : Limit → Option ℤ) (z : ℤ) → Answered (g (limit_at p j)) z → Answered (within (at_place p.limits (j + 1)) g) z
    asked g z a = record { there = ap (λ o. within o g) (at_next p.limits j no_limit h) ∙ a.there; value = a.value }

    pub coefficient_answered : (i : ℕ) → i < commands p → Answered (coefficient_of p (j + 1) (i + 1)) (column p j i)
    coefficient_answered i l = asked (λ x. at_place x.coefficients (i + 1)) (column p j i) (in_list (limit_at p j).coefficients i fits.coefficients (omega (arith, fits.wide)))

    pub constant_answered : Answered (constant_of p (j + 1)) (rate p 0 j)
    constant_answered = asked (λ x. Some x.constant) (rate p 0 j) (record { there = refl; value = fits.constant })

    pub slope_answered : (k : ℕ) → k < p.readings → Answered (slope_of p (j + 1) (k + 1)) (rate p (suc k) j)
    slope_answered k l = asked (λ x. at_place x.slopes (k + 1)) (rate p (suc k) j) (in_list (limit_at p j).slopes k fits.slopes (omega (arith, fits.deep)))
