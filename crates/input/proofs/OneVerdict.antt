-- Every input gets one verdict.
use Rattle.std.proofs.Common.{◌≡◌, ℕ, ◌+◌, List, length, take, ℤ, pos, Ok, Err, Result, sym, ap, ◌∙◌, subst, ⊎_elim, arith}
use Rattle.std.proofs.lemmas.List.{ext_get_or}
use Rattle.std.proofs.lemmas.Bool.{cases_order}
use Rattle.words.specs.declared.counts.Shape.{Shape}
use Rattle.words.specs.declared.refusal.Refusal.{Refusal}
use Rattle.words.specs.declared.refusal.Refusal.TheVariants.{Short, WrongKind}
use Rattle.words.proofs.Verdicts.{one_refusal, not_laid_out}
use Rattle.plant.specs.Meaning.{Meaning, shape_of}
use Rattle.plant.specs.Ranges.{with_ranges, RangeFaulty}
use Rattle.plant.proofs.Describing.{one_plant, described_is_laid_out}
use Rattle.plant.proofs.RangeVerdicts.{one_range_refusal, no_refusal_where_fitting}
use Rattle.input.specs.Split.{PlantEnds, IsRange, RangeWords, RangeWordsFaulty, missing, other_kind, Payloads}
use Rattle.input.specs.Judged.{RangesAre, RangeVerdict, no_range, wrong_words, wrong_range, ranged, PlantVerdict, no_plant, plant, HasOneVerdict}

module _ (ws : List ℕ) where
  ends_once : (n k : ℕ) → PlantEnds ws n → PlantEnds ws k → n ≡ k
  ends_once n k a b = ⊎_elim
      (λ x. ⊎_elim
      (λ y. ⊎_elim
      (λ e. omega (arith, x.1, y.1))
      (⊎_elim (λ h. absurd (y.4 x.0 h x.3)) (λ h. absurd (x.4 y.0 h y.3)))
      (cases_order x.0 y.0))
      (λ y. absurd (y.1 x.0 x.2 x.3))
      b)
      (λ x. ⊎_elim (λ y. absurd (x.1 y.0 y.2 y.3)) (λ y. x.0 ∙ sym y.0) b)
      a

  module _ (n count : ℕ) where
    not_all : {e : Refusal} → RangeWordsFaulty ws n count e → RangeWords ws n count → ⊥
    not_all (missing i h a b w) all = omega (arith, (all i h).0)
    not_all (other_kind i h a b o w) all = o (subst (IsRange ws) a (all i h).1)

    one_word_refusal : {e f : Refusal} → RangeWordsFaulty ws n count e → RangeWordsFaulty ws n count f → e ≡ f
    one_word_refusal (missing i h a b w) (missing j g c d v) = ap Short (b ∙ sym d)
    one_word_refusal (missing i h a b w) (other_kind j g c d o v) = absurd (o (subst (IsRange ws) c (w j (omega arith)).1))
    one_word_refusal (other_kind i h a b o w) (missing j g c d v) = absurd (o (subst (IsRange ws) a (v i (omega arith)).1))
    one_word_refusal (other_kind i h a b o w) (other_kind j g c d q v) = ⊎_elim
        (λ e. ap WrongKind (omega arith))
        (⊎_elim (λ l. absurd (o (subst (IsRange ws) a (v i l).1))) (λ l. absurd (q (subst (IsRange ws) c (w j l).1))))
        (cases_order i j)

  payloads_once : (n m : ℕ) (xs ys : List ℤ) → length xs ≡ m → length ys ≡ m → Payloads ws n m xs → Payloads ws n m ys → xs ≡ ys
  payloads_once n m xs ys a b p q = ext_get_or (pos 0) xs ys (a ∙ sym b) (λ i h. p i (omega arith) ∙ sym (q i (omega arith)))

  module _ (n : ℕ) (p : Meaning) where
    lows_once : (lows highs ups downs : List ℤ) → RangesAre ws n p lows highs → RangesAre ws n p ups downs → (lows ≡ ups) × (highs ≡ downs)
    lows_once lows highs ups downs R S = (
      payloads_once n (length p.gains) lows ups R.as_many_lows S.as_many_lows R.low_payloads S.low_payloads,
      payloads_once (n + length p.gains) (length p.gains) highs downs R.as_many_highs S.as_many_highs R.high_payloads S.high_payloads,
    )

    carried : {e : Refusal} (lows highs ups downs : List ℤ) → (lows ≡ ups) × (highs ≡ downs) → RangeFaulty lows highs (shape_of p) e → RangeFaulty ups downs (shape_of p) e
    carried {e} lows highs ups downs same F = subst (λ x. RangeFaulty x downs (shape_of p) e) same.0 (subst (λ x. RangeFaulty lows x (shape_of p) e) same.1 F)

    range_once : {r s : Result Shape Refusal} → RangeVerdict ws n p r → RangeVerdict ws n p s → r ≡ s
    range_once (no_range a c) (no_range b d) = ap Ok (c ∙ sym d)
    range_once (no_range a c) (wrong_words b d) = absurd (a b)
    range_once (no_range a c) (wrong_range l h R F) = absurd (a R.follows)
    range_once (no_range a c) (ranged l h R F d) = absurd (a R.follows)
    range_once (wrong_words a c) (no_range b d) = absurd (b a)
    range_once (wrong_words a c) (wrong_words b d) = ap Err (one_word_refusal n _ c d)
    range_once (wrong_words a c) (wrong_range l h R F) = absurd (not_all n _ c R.range_words)
    range_once (wrong_words a c) (ranged l h R F d) = absurd (not_all n _ c R.range_words)
    range_once (wrong_range l h R F) (no_range b d) = absurd (b R.follows)
    range_once (wrong_range l h R F) (wrong_words b d) = absurd (not_all n _ d R.range_words)
    range_once (wrong_range l h R F) (wrong_range u v S G) =
        ap Err (one_range_refusal u v (shape_of p) _ _ (carried l h u v (lows_once l h u v R S) F) G)
    range_once (wrong_range l h R F) (ranged u v S G d) =
        absurd (no_refusal_where_fitting u v (shape_of p) _ (carried l h u v (lows_once l h u v R S) F) G)
    range_once (ranged l h R F c) (no_range b d) = absurd (b R.follows)
    range_once (ranged l h R F c) (wrong_words b d) = absurd (not_all n _ d R.range_words)
    range_once (ranged l h R F c) (wrong_range u v S G) =
        absurd (no_refusal_where_fitting l h (shape_of p) _ (carried u v l h (lows_once u v l h S R) G) F)
    range_once (ranged l h R F c) (ranged u v S G d) =
        let same = lows_once l h u v R S in
        ap Ok (c ∙ ap (λ x. shape_of (with_ranges p x h)) same.0 ∙ ap (λ x. shape_of (with_ranges p u x)) same.1 ∙ sym d)

  of_plant : (n : ℕ) {r : Result Shape Refusal} (p q : Meaning) → p ≡ q → RangeVerdict ws n p r → RangeVerdict ws n q r
  of_plant n {r} p q e v = subst (λ x. RangeVerdict ws n x r) e v

  plant_once : (n : ℕ) {r s : Result Shape Refusal} → PlantVerdict ws n r → PlantVerdict ws n s → r ≡ s
  plant_once n (no_plant a) (no_plant b) = ap Err (one_refusal (take n ws) _ _ a b)
  plant_once n (no_plant a) (plant p D v) = absurd (not_laid_out (take n ws) _ a (described_is_laid_out (take n ws) p D))
  plant_once n (plant p D v) (no_plant b) = absurd (not_laid_out (take n ws) _ b (described_is_laid_out (take n ws) p D))
  plant_once n (plant p D v) (plant q E w) = range_once n q (of_plant n p q (one_plant (take n ws) p q D E) v) w

pub one_verdict : HasOneVerdict
one_verdict ws r s (n, a, v) (k, b, w) = plant_once ws k (subst (λ x. PlantVerdict ws x r) (ends_once ws n k a b) v) w
