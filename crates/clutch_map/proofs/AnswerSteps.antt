-- From a look through the records to the step of an answer.
use Rattle.std.proofs.Common.{◌≡◌, ℕ, suc, ◌*◌, ◌<◌, ◌≤◌, Bool, true, false, leb, List, length, get_or, ℤ, pos, ◌*ℤ◌, ◌≤ℤ◌, Some, Ok, Err, None, sym, refl, ap, ◌∙◌, subst, arith, leb-false, leb-true}
use Rattle.bounded_list.specs.Contents.{contents}
use Rattle.plant_table.specs.Tabled.{meaning_of}
use Rattle.trays.specs.Commands.{CommandAnswer}
use Rattle.exact.proofs.Sums.{sum_cong}
use Rattle.plant.specs.Commands.{column}
use Rattle.plant.specs.Meaning.{Meaning, shape_of}
use Rattle.tableau.specs.Masks.{mask_of}
use Rattle.tableau.specs.Plants.{limits, with_one, CornerOf}
use Rattle.tableau.specs.Readings.{Region}
use Rattle.tableau.specs.Runs.{HasSameLimits}
use Rattle.tableau.proofs.Masks.{mask_basis}
use Rattle.words.specs.declared.counts.Shape.{Shape}
use Rattle.corner_words.proofs.Orders.{same_slack}
use Rattle.corner_runs.specs.Answers.{HoldsCorner, SomeCorner}
use Rattle.corner_runs.specs.declared.exchanges.Exchange.{Exchange}
use Rattle.corner_list.specs.Records.{corner, tableau_in, AllRecords}
use Rattle.corner_list.specs.Regions.{OutOfRegion, RegionAnswer}
use Rattle.corner_list.specs.declared.corner.Corner.{Corner}
use Rattle.corner_list.proofs.Listing.{record_corner}
use Rattle.words.specs.declared.refusal.Refusal.TheVariants.{NoCommand, NotYet}
use Rattle.words.specs.declared.refusal.Shown.TheVariants.{ByMap}
use Rattle.map_steps.specs.States.{Standing, View}
use Rattle.map_steps.specs.Pairs.{pairs_each}
use Rattle.map_steps.specs.Steps.{Step, Answer, Ready, NoneBefore, laid, answer_none, answer_not_yet, answered}
use Rattle.map_steps.specs.declared.reply.Done.TheVariants as done
use Rattle.clutch_map.specs.Views.{masks_of, seen}
use Rattle.clutch_map.specs.declared.map.Map.{Map}
use Rattle.clutch_map.proofs.Seen.{masks_long, mask_of_record}

-- Corners of the same limits have one region.
region_same : (p : Meaning) (θ : List ℤ) (X Y : CornerOf p) → HasSameLimits p X Y → Region p X θ → Region p Y θ
region_same p θ X Y same region j l = subst (λ z. pos 0 ≤ℤ z) (sum_cong (suc p.readings) _ _ (λ k h. ap (λ z. with_one θ k *ℤ z) (same_slack p (limits p) (column p) X Y same k j))) (region j l)

-- Records whose regions do not hold the reading are corners whose regions do not.
pub none_before : (p : Meaning) (c : Shape) (θ : List ℤ) (cs : List Corner) (k : ℕ) → c ≡ shape_of p → AllRecords p cs → k ≤ length cs → ((i : ℕ) → i < k → OutOfRegion c θ (corner cs i)) → (i : ℕ) → i < k → (X : CornerOf p) → mask_of p X ≡ get_or (masks_of cs) i 0 → ¬ Region p X θ
none_before p c θ cs k s records few out i l X mask region =
    let inside : i < length cs = omega arith in
    let (Y, holds, m) = record_corner p (corner cs i) (records i inside) in
    let same : HasSameLimits p X Y = mask_basis p X Y (mask ∙ mask_of_record cs i inside ∙ m) in
    out i l p Y s (subst (λ (c : Shape). HoldsCorner p Y (tableau_in c (corner cs i))) (sym s) holds) (region_same p θ X Y same region)

-- The corner of a record, in the words that a function of these counts reads.
pub record_held : (p : Meaning) (c : Shape) (cs : List Corner) (k : ℕ) → c ≡ shape_of p → AllRecords p cs → k < length cs → (X : CornerOf p) × HoldsCorner p X (tableau_in c (corner cs k)) × ((corner cs k).mask ≡ mask_of p X)
record_held p c cs k s records inside =
    let (X, holds, mask) = record_corner p (corner cs k) (records k inside) in
    (X, subst (λ (c : Shape). HoldsCorner p X (tableau_in c (corner cs k))) (sym s) holds, mask)

-- The steps, once the readings fit and the tray is long enough; xs are the records as the look has them.
module _ (m : Map) (θ tray : List ℤ) (es : List Exchange) (most : ℕ) (c : Shape) (s : c ≡ shape_of (meaning_of m.table)) (ready : Ready (seen m tray es most) θ (record { kind = m.kind; meaning = meaning_of m.table }))
    (xs : List Corner) (e : xs ≡ contents m.corners) where
  abbrev p : Meaning
  p = meaning_of m.table

  abbrev cs : List Corner
  cs = contents m.corners

  abbrev v : View
  v = seen m tray es most

  abbrev standing : Standing
  standing = record { kind = m.kind; meaning = p }

  none : (k : ℕ) → k ≤ length cs → ((i : ℕ) → i < k → OutOfRegion c θ (corner xs i)) → NoneBefore v p θ k
  none k few out = none_before p c θ cs k s m.records few (λ i l. subst (λ xs. OutOfRegion c θ (corner xs i)) e (out i l))

  no_region : RegionAnswer c θ xs None → NoneBefore v p θ (length (masks_of cs))
  no_region out = none (length (masks_of cs)) (omega (arith, masks_long cs)) (λ i l. out i (omega (arith, masks_long cs, ap length e)))

  pub none_step : RegionAnswer c θ xs None → (b : Bool) → b ≡ leb (length cs * pairs_each p) m.pairs → b ≡ true → Step v v (Answer θ) (Err (NoCommand ByMap))
  none_step out b is taken = answer_none standing ready (rw (masks_long cs) (leb-true (length cs * pairs_each p) m.pairs (sym is ∙ taken))) (no_region out) refl

  pub not_yet_step : RegionAnswer c θ xs None → (b : Bool) → b ≡ leb (length cs * pairs_each p) m.pairs → b ≡ false → Step v v (Answer θ) (Err NotYet)
  not_yet_step out b is left =
      let open_pairs : m.pairs < length cs * pairs_each p = leb-false (length cs * pairs_each p) m.pairs (sym is ∙ left) in
      answer_not_yet standing ready (λ f. let g : (length cs * pairs_each p) ≤ m.pairs = subst (λ n. (n * pairs_each p) ≤ m.pairs) (masks_long cs) f in omega arith) (no_region out) refl

  -- The corner whose region holds the reading, as the code reads it.
  module _ (k : ℕ) (R : RegionAnswer c θ xs (Some k)) where
    inside : k < length cs
    inside = subst (λ xs. k < length xs) e R.0

    pub region_corner : (X : CornerOf p) × HoldsCorner p X (tableau_in c (corner xs k)) × ((corner xs k).mask ≡ mask_of p X)
    region_corner = subst (λ xs. (X : CornerOf p) × HoldsCorner p X (tableau_in c (corner xs k)) × ((corner xs k).mask ≡ mask_of p X)) (sym e) (record_held p c cs k s m.records inside)

    pub region_some : SomeCorner c (tableau_in c (corner xs k))
    region_some = let (X, holds, mask) = region_corner in record { p = p; X = X; shape = s; holds = holds }

    pub answered_step : (ys tray' : List ℤ) → CommandAnswer c θ (tableau_in c (corner xs k)) ys → tray' ≡ laid ys tray → Step v (seen m tray' es most) (Answer θ) (Ok (done.Answer (record { mask = (corner xs k).mask; place = k })))
    answered_step ys tray' C lays =
        let (X, holds, mask) = region_corner in
        answered standing X ys ready (omega (arith, inside, masks_long cs)) (ap (λ xs. (corner xs k).mask) e ∙ sym (mask_of_record cs k inside)) (sym mask) (R.1 p X s holds) (none k (omega (arith, inside)) R.2) (C p X s holds.held) (ap (λ t. seen m t es most) lays)
