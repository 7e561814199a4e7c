-- The mask of the corner across a pair, from the mask of the corner.
use Rattle.std.proofs.Common.{◌≡◌, ℕ, ◌+◌, ◌^◌, ◌<◌, ◌≤◌, Bool, true, false, cond, eqb, Some, refl, ap, ◌∙◌, arith, pow_mono}
use Rattle.std.proofs.lemmas.Bool.{eq-eqb, ne_eqb}
use Rattle.plant.specs.Meaning.{Meaning, shape_of}
use Rattle.tableau.specs.Masks.{holds, mask, mask_of}
use Rattle.tableau.specs.Plants.{commands, limits, CornerOf}
use Rattle.tableau.specs.Runs.{InBasis, Leaves, Across}
use Rattle.tableau.proofs.Count.{holds_in}
use Rattle.tableau.proofs.Exchanges.{one_leaves}
use Rattle.tableau.proofs.Masks.{mask_more, short_mask, across_mask}
use Rattle.words.specs.Bounds.{most_limits}
use Rattle.words.specs.Layout.{InBounds}
use Rattle.working_tableau.specs.Crossings.{LeftAt}

-- The mask of a set has the bit of each of its members.
member_bit : (n k : ℕ) (S : ℕ → Bool) → k < n → S k ≡ true → 2 ^ k ≤ mask n S
member_bit n k S l t = omega (arith, mask_more n k (λ i. cond (eqb i k) false (S i)) S l (rw (eq-eqb k k refl)) t (λ i h d. rw (ne_eqb i k d)))

pub limit_bit : (p : Meaning) (X : CornerOf p) (q : ℕ) → q < commands p → 2 ^ X.β q ≤ mask_of p X
limit_bit p X q l = member_bit (limits p) (X.β q) (holds (commands p) X.β) (X.known q l) (holds_in (commands p) X.β q l)

module _ (p : Meaning) (X : CornerOf p) (m : ℕ) (is : m ≡ mask_of p X) where
  pub mask_short : InBounds (shape_of p) → m < 2 ^ most_limits
  mask_short counts = omega (arith, is, short_mask p X, pow_mono counts.3)

  -- Limit l leaves when limit j enters at X.
  module _ (j l : ℕ) (L : LeftAt p X j (Some l)) where
    pub left_bit : 2 ^ l ≤ m
    left_bit = let (q, leaves, e) = L in rw (e, is) (limit_bit p X q leaves.inside)

    -- The mask with the bit of j in place of that of l is that of the corner across.
    pub mask_there : j < limits p → ¬ InBasis p X j → (m' : ℕ) → m' + 2 ^ l ≡ m + 2 ^ j → (q : ℕ) (Y : CornerOf p) → Leaves p X j q → Across p X q j Y → m' ≡ mask_of p Y
    mask_there known out m' e q Y leaves across =
        let (r, least, left) = L in
        let bit : 2 ^ l ≡ 2 ^ X.β q = ap (λ k. 2 ^ k) (left ∙ ap X.β (one_leaves p X j r q least leaves)) in
        omega (arith, is, across_mask p X Y q j known out leaves across)
