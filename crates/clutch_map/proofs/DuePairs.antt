-- The pair that is due: the record and the limit outside its mask that the number of examined pairs tells.
use Rattle.std.proofs.Common.{◌≡◌, ℕ, zero, suc, ◌+◌, ◌*◌, ◌/◌, ◌%◌, ◌^◌, ◌<◌, ◌≤◌, Bool, true, false, cond, eqb, List, length, Option, Some, None, get_or, take, sym, refl, ap, ◌∙◌, subst, mod-lt, div-lt_iff_lt-mul, mul-le-mul, mul-zero, div-add-mod', arith, rules}
use Rattle.std.specs.Option.{IsSome}
use native.Mathlib.Decide.{ℕ_discrete}
use Rattle.plant.specs.Meaning.{Meaning, shape_of}
use Rattle.tableau.specs.Masks.{holds, mask_of}
use Rattle.tableau.specs.Plants.{commands, limits, CornerOf}
use Rattle.words.specs.Bounds.{most_limits}
use Rattle.words.specs.declared.counts.Shape.{Shape}
use Rattle.tableau_words.specs.Layout.{size}
use Rattle.corner_runs.specs.Answers.{HoldsCorner, SomeCorner}
use Rattle.corner_list.specs.Outside.{clear_bits, Outside, OutsideAnswer}
use Rattle.corner_list.specs.Records.{tableau_in, corner, AllRecords}
use Rattle.corner_list.specs.declared.corner.Corner.{Corner}
use Rattle.corner_list.proofs.ClearBits.{mask_bit, clear_bit, clear_mask}
use Rattle.corner_list.proofs.Listing.{record_corner, record_at}
use Rattle.map_steps.specs.Pairs.{outside_below, pairs_each, Due}
use Rattle.clutch_map.specs.Listed.{most_records}
use Rattle.clutch_map.specs.Views.{masks_of}
use Rattle.clutch_map.proofs.Seen.{masks_long, mask_of_record}

-- The limits outside a basis are those that are not in its mask.
outside_clear : (p : Meaning) (X : CornerOf p) (j : ℕ) → j ≤ limits p → outside_below p X j ≡ clear_bits (mask_of p X) j
unfolding outside_below clear_bits
outside_clear p X zero l = refl
outside_clear p X (suc j) l = rw (mask_bit (limits p) (holds (commands p) X.β) j l, outside_clear p X j (omega arith)) (by (holds (commands p) X.β j) (clear_bits (mask_of p X) j))
  where
    by : (t : Bool) (n : ℕ) → cond t n (suc n) ≡ cond (eqb (cond t 1 0) 0) (suc n) n
    by true n = refl
    by false n = refl

-- The record r holds the corner X of the pair that is due, and j is its limit.
pub record DueIn (p : Meaning) (cs : List Corner) (pairs : ℕ) (r : Corner) (j : ℕ) : Type 0 where
  pub X : CornerOf p
  pub holds : HoldsCorner p X (tableau_in (shape_of p) r)
  pub mask : r.mask ≡ mask_of p X
  pub due : Due p (masks_of cs) pairs (pairs / pairs_each p) X j

-- Some pair is left.
module _ (p : Meaning) (cs : List Corner) (pairs : ℕ) (left : pairs < length cs * pairs_each p) where
  some_each : 0 < pairs_each p
  some_each = elim (ℕ_discrete (pairs_each p) 0) [ yes z ↦ absurd (omega (arith, ap (λ n. length cs * n) z, mul-zero (length cs))) | no d ↦ omega arith ]

  place_listed : pairs / pairs_each p < length cs
  place_listed = (div-lt_iff_lt-mul some_each).1 left

  pub few_pairs : length cs ≤ most_records → limits p ≤ most_limits → pairs + 1 < 2 ^ 32
  few_pairs few n = omega (arith, mul-le-mul {n₁ = length cs} {m₁ = pairs_each p} {n₂ = most_records} {m₂ = most_limits} few (omega arith))

  -- The pairs of each corner, as the code has them.
  module _ (each : ℕ) (pairs_of : each ≡ pairs_each p) where
    pub record_there : ¬ (length cs ≤ pairs / each)
    record_there l = omega (arith, place_listed, rw pairs_of at l)

    module _ (records : AllRecords p cs) (r : Corner) (is_at : r ≡ get_or cs (pairs / each) r) where
      is : r ≡ corner cs (pairs / pairs_each p)
      is = record_at cs (pairs / pairs_each p) r (place_listed, rw pairs_of at is_at)

      held : (X : CornerOf p) × HoldsCorner p X (tableau_in (shape_of p) r) × (r.mask ≡ mask_of p X)
      held = subst (λ r. (X : CornerOf p) × HoldsCorner p X (tableau_in (shape_of p) r) × (r.mask ≡ mask_of p X)) (sym is) (record_corner p (corner cs (pairs / pairs_each p)) (records (pairs / pairs_each p) place_listed))

      pub limit_there : (n : ℕ) → n ≡ limits p → (o : Option ℕ) → OutsideAnswer r.mask n (pairs % each) o → IsSome o
      limit_there n same (Some j) outside = search rules
      limit_there n same None l =
          let (X, holds, mask) = held in
          absurd (omega (arith, ap (λ b. clear_bits b (limits p)) mask, clear_mask p X, mod-lt pairs some_each, rw (same, pairs_of) at l))

      -- The pair with the limit at its place is due.
      pub due_in : (n : ℕ) → n ≡ limits p → (j : ℕ) → Outside r.mask n (pairs % each) j → DueIn p cs pairs r j
      due_in n same j outside =
          let (X, holds, mask) = held in
          let (known, bit, number) = rw (same, pairs_of) at outside in
          let k = pairs / pairs_each p in
          record {
            X = X;
            holds = holds;
            mask = mask;
            due = record {
              listed = rw (masks_long cs) place_listed;
              corner = sym mask ∙ ap (λ r. r.mask) is ∙ sym (mask_of_record cs k place_listed);
              known = known;
              outside = clear_bit p X j known (rw mask at bit);
              place = omega (arith, div-add-mod' pairs (pairs_each p), outside_clear p X j (omega arith), ap (λ b. clear_bits b j) mask);
            };
          }

-- What the calls on the words of the record ask.
module _ (p : Meaning) (cs : List Corner) (pairs : ℕ) (r : Corner) (j : ℕ) (d : DueIn p cs pairs r j) (s : Shape) (counts : s ≡ shape_of p) where
  pub due_holds : HoldsCorner p d.X (take (size s) r.words)
  due_holds = subst (λ (s : Shape). HoldsCorner p d.X (take (size s) r.words)) (sym counts) d.holds

  pub due_corner : SomeCorner s (take (size s) r.words)
  due_corner = record { p = p; X = d.X; shape = counts; holds = due_holds }

  pub due_known : j < s.limits
  due_known = rw counts d.due.known
