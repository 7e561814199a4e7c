-- A ranged plant is in bounds over every plant below, by its own table.
use Rattle.std.specs.Prelude.{◌≡◌, ℕ, ◌+◌, ◌-◌, ◌*◌, ◌≤◌, List, ◌++◌, length, ℤ, pos, negsuc, neg_ℤ, Some, None, Option, ◌==◌, refl}
use Rattle.std.proofs.Common.{sym, ◌∙◌, ⊎_elim, arith, length-append}
use Rattle.std.specs.List.{slice_get}
use Rattle.std.proofs.lemmas.Int.{ints}
use Rattle.std.proofs.lemmas.Bool.{cases_lt, cases_eq, eq-eqb, ne_eqb}
use Rattle.words.specs.Bounds.{Value}
use Rattle.words.specs.declared.counts.Shape.{Shape}
use Rattle.plant.specs.Tables.{at_place, within, table}
use Rattle.plant.specs.TableLaws.{length_table, each_of_table, nth_front, nth_back, by_test}
use Rattle.plant.specs.Meaning.{Limit, Meaning, Values, Fits, Bounded, shape_of, gain_of, coefficient_of, constant_of, slope_of}
use Rattle.plant.specs.WrittenBounds.{zero_is_value}
use Rattle.plant.specs.Ranges.{alone, range_limits}
use Rattle.plant.specs.Ranged.{or_zero, kept_limit, ranged, ranged_by}
use Rattle.plant.specs.declared.range_table.RangeTable.{RangeTable}

pub ranged_kind : (1 ≤ 7) × (7 ≤ 32767)
ranged_kind = (omega arith, omega arith)

value_or_zero : (o : Option ℤ) → ((z : ℤ) → o ≡ Some z → Value z) → Value (or_zero o)
value_or_zero None v = zero_is_value
value_or_zero (Some z) v = v z refl

value_within : {X : Type 0} (o : Option X) (g : X → Option ℤ) → ((x : X) → o ≡ Some x → Value (or_zero (g x))) → Value (or_zero (within o g))
value_within None g v = zero_is_value
value_within (Some x) g v = v x refl

-- Something at a place from 1 stands at the place before it from 0.
pub at_some : {X : Type 0} (xs : List X) (i : ℕ) (x : X) → at_place xs i ≡ Some x → slice_get xs (i - 1) ≡ Some x
at_some xs i x e = ⊎_elim
    (λ z. let t = eq-eqb i 0 z in absurd (let bad : ◌≡◌ {A = ℕ} 0 1 = let n : at_place xs i ≡ None = rw t in cc in omega arith))
    (λ n. let t : at_place xs i ≡ slice_get xs (i - 1) = rw (ne_eqb i 0 n) in sym t ∙ e)
    (cases_eq i 0)

value_at : (zs : List ℤ) → Values zs → (i : ℕ) → Value (or_zero (at_place zs i))
value_at zs v i = value_or_zero (at_place zs i) (λ z e. v.each (i - 1) z (at_some zs i z e))

negated : (z : ℤ) → Value z → Value (neg_ℤ z)
negated z v = let lo = v.0 in let hi = v.1 in (omega (arith, ints), omega (arith, ints))

one_is_value : Value (pos 1)
one_is_value = (record { le = tt }, record { le = tt })

minus_one_is_value : Value (negsuc 0)
minus_one_is_value = (record { le = tt }, record { le = tt })

-- A number of a plant, or 0 where it is absent.
module _ (p : Meaning) (B : Bounded p) where
  number_below : (j : ℕ) (g : Limit → Option ℤ) → ((l : Limit) → Fits (shape_of p) l → Value (or_zero (g l))) → Value (or_zero (within (at_place p.limits j) g))
  number_below j g v = value_within (at_place p.limits j) g (λ l e. v l (B.limits (j - 1) l (at_some p.limits j l e)))

  pub gain_value : (i : ℕ) → Value (or_zero (gain_of p i))
  gain_value i = value_at p.gains B.gains i

  pub coefficient_value : (j i : ℕ) → Value (or_zero (coefficient_of p j i))
  coefficient_value j i = number_below j (λ l. at_place l.coefficients i) (λ l F. value_at l.coefficients F.coefficients i)

  pub constant_value : (j : ℕ) → Value (or_zero (constant_of p j))
  constant_value j = number_below j (λ l. Some l.constant) (λ l F. F.constant)

  pub slope_value : (j k : ℕ) → Value (or_zero (slope_of p j k))
  slope_value j k = number_below j (λ l. at_place l.slopes k) (λ l F. value_at l.slopes F.slopes k)

module _ (p : Meaning) (B : Bounded p) (c : Shape) where
  kept_fits : (j : ℕ) → Fits c (kept_limit p c j)
  kept_fits j = record {
    wide = length_table c.commands _;
    deep = length_table c.readings _;
    coefficients = record { each = each_of_table Value c.commands _ (λ i h. coefficient_value p B (j + 1) (i + 1)) };
    constant = constant_value p B (j + 1);
    slopes = record { each = each_of_table Value c.readings _ (λ k h. slope_value p B (j + 1) (k + 1)) };
  }

  alone_fits : (i : ℕ) (z : ℤ) → Value z → (constant : ℤ) → Value constant → Fits c (record { coefficients = table c.commands (alone i z); constant = constant; slopes = table c.readings (λ _. pos 0) })
  alone_fits i z v b w = record {
    wide = length_table c.commands _;
    deep = length_table c.readings _;
    coefficients = record { each = each_of_table Value c.commands _ (λ k h. by_test Value (k == i) z (pos 0) v zero_is_value) };
    constant = w;
    slopes = record { each = each_of_table Value c.readings _ (λ k h. zero_is_value) };
  }

-- What holds of everything in two lists holds of everything in the two end to end.
each_of_both : {X : Type 0} (P : X → Type 0) (xs ys : List X) → ((j : ℕ) (x : X) → slice_get xs j ≡ Some x → P x) → ((j : ℕ) (x : X) → slice_get ys j ≡ Some x → P x) → (j : ℕ) (x : X) → slice_get (xs ++ ys) j ≡ Some x → P x
each_of_both P xs ys p q j x e = ⊎_elim
    (λ h. p j x (sym (nth_front xs ys j h) ∙ e))
    (λ h. q (j - length xs) x (sym (nth_back xs ys j h) ∙ e))
    (cases_lt j (length xs))

pub length_ranged : (p : Meaning) (c : Shape) (lows highs : List ℤ) → length (ranged p c lows highs).limits ≡ c.limits + 2 * c.commands
length_ranged p c lows highs = simp (length-append, length_table) (omega arith)

pub ranged_bounded : (p : Meaning) → Bounded p → (t : RangeTable) → Bounded (ranged_by t p)
ranged_bounded p B t =
    let c = t.counts.shape in
    let f = t.counts.fit in
    let few = length_ranged p c t.lows t.highs in
    let wide = length_table c.commands (λ i. or_zero (gain_of p (i + 1))) in
    let fits : (j : ℕ) (l : Limit) → slice_get (ranged_by t p).limits j ≡ Some l → Fits c l = each_of_both (Fits c) (table c.limits (kept_limit p c)) (range_limits c t.lows t.highs)
    (each_of_table (Fits c) c.limits _ (λ j h. kept_fits p B c j))
    (each_of_both (Fits c) _ _
    (each_of_table (Fits c) c.commands _ (λ i h. alone_fits p B c i (pos 1) one_is_value _ (t.high_values i (omega (arith, f.1)))))
    (each_of_table (Fits c) c.commands _ (λ i h. alone_fits p B c i (negsuc 0) minus_one_is_value _ (negated _ (t.low_values i (omega (arith, f.1))))))) in
    record {
      counted = rw wide (f.0, f.1, omega (arith, few, f.2), omega (arith, few, t.room), f.4);
      gains = record { each = each_of_table Value c.commands _ (λ i h. gain_value p B (i + 1)) };
      limits = λ j l e. let F = fits j l e in record { wide = F.wide ∙ sym wide; deep = F.deep; coefficients = F.coefficients; constant = F.constant; slopes = F.slopes };
    }
