-- What the records of a map say of its state.
use Rattle.std.proofs.Common.{◌≡◌, ℕ, zero, suc, ◌*◌, ◌<◌, ◌≤◌, Bool, true, false, eqb, leb, List, [], ◌∷◌, length, get_or, take, ℤ, Some, sym, refl, ap, ◌∙◌, subst, inl, inr, arith, length-take, eqb-true, leb-false}
use borrow.Author.Tests.{eqb-false}
use Rattle.std.proofs.lemmas.Bool.{cases_eq}
use Rattle.bounded_list.specs.Contents.{records, contents, room}
use Rattle.clutch_map.specs.declared.map.Map.{Map}
use Rattle.trays.specs.Trays.{tray_size}
use Rattle.map_steps.specs.Pairs.{pairs_each}
use Rattle.map_steps.specs.States.{Standing, View}
use Rattle.map_steps.specs.Steps.{IsNotBegun, Startable}
use Rattle.plant.specs.Meaning.{Meaning, shape_of}
use Rattle.plant_table.specs.Tabled.{meaning_of}
use Rattle.tableau.specs.Masks.{mask_of}
use Rattle.tableau.specs.Plants.{CornerOf}
use Rattle.words.specs.declared.counts.Shape.{Shape}
use Rattle.tableau_words.specs.Layout.{size}
use Rattle.corner_runs.specs.Answers.{HoldsCorner, SomeCorner}
use Rattle.corner_list.specs.Records.{corner, AllRecords}
use Rattle.corner_list.specs.declared.corner.Corner.{Corner}
use Rattle.corner_list.proofs.Listing.{record_corner}
use Rattle.clutch_map.specs.Listed.{most_records, AtFirst}
use Rattle.clutch_map.specs.Views.{in_force, masks_of}

pub masks_long : (cs : List Corner) → length (masks_of cs) ≡ length cs
masks_long [] = refl
masks_long (c ∷ cs) = ap suc (masks_long cs)

pub mask_of_record : (cs : List Corner) (k : ℕ) → k < length cs → get_or (masks_of cs) k 0 ≡ (corner cs k).mask
mask_of_record [] k h = absurd (omega arith)
mask_of_record (c ∷ cs) zero h = refl
mask_of_record (c ∷ cs) (suc k) h = mask_of_record cs k (omega arith)

pub some_force : (cs : List Corner) (k : ℕ) (p : Meaning) → 0 < length cs → in_force cs k p ≡ Some (record { kind = k; meaning = p })
some_force [] k p h = absurd (omega arith)
some_force (c ∷ cs) k p h = refl

-- A plant in force has a corner.
pub some_listed : (cs : List Corner) (k : ℕ) (p : Meaning) (s : Standing) → in_force cs k p ≡ Some s → 0 < length cs
some_listed [] k p s e = let z : ◌≡◌ {A = ℕ} 0 1 = cc in absurd (omega arith)
some_listed (c ∷ cs) k p s e = omega arith

-- The first corner, in its record and in the working tableau.
module _ (p : Meaning) (cs : List Corner) (ws : List ℤ) (records : AllRecords p cs) (first : AtFirst cs ws) (some : 0 < length cs) where
  pub first_corner : (X : CornerOf p) × HoldsCorner p X (take (size (shape_of p)) ws) × (mask_of p X ≡ get_or (masks_of cs) 0 0)
  first_corner =
      let (X, holds, mask) = record_corner p (corner cs 0) (records 0 some) in
      (X, subst (λ words. HoldsCorner p X (take (size (shape_of p)) words)) (sym (first some)) holds, sym mask ∙ sym (mask_of_record cs 0 some))

  pub first_some : (c : Shape) → c ≡ shape_of p → SomeCorner c (take (size c) ws)
  first_some c e = let (X, holds, mask) = first_corner in record { p = p; X = X; shape = e; holds = subst (λ (c : Shape). HoldsCorner p X (take (size c) ws)) (sym e) holds }

-- A list that was found not to be empty has a record.
pub listed : (m : Map) (b : Bool) → b ≡ eqb (length (contents m.corners)) 0 → b ≡ false → 0 < length (contents m.corners)
listed m b e f = elim (cases_eq (length (contents m.corners)) 0) [ inl z ↦ absurd (eqb-false (length (contents m.corners)) 0 (sym e ∙ f) z) | inr n ↦ omega arith ]

-- One that was found to be empty has none, and no plant is in force.
pub unlisted : (m : Map) (b : Bool) → b ≡ eqb (length (contents m.corners)) 0 → b ≡ true → length (contents m.corners) ≡ 0
unlisted m b e f = eqb-true (length (contents m.corners)) 0 (sym e ∙ f)

pub none_listed : (cs : List Corner) → length cs ≡ 0 → cs ≡ []
none_listed [] h = refl
none_listed (c ∷ cs) h = absurd (omega arith)

pub startable : (v : View) → IsNotBegun v → tray_size ≤ length v.tray → ¬ (v.state.room ≡ 0) → Startable v
startable v none tray room = record { not_begun = none; tray = tray; room = omega arith }

-- A map has few records, and lists no more than it has room for.
pub few_listed : (m : Map) → length (contents m.corners) ≤ most_records
few_listed m = omega (arith, m.few, length-take m.corners.len (records m.corners))

pub has_room : (m : Map) (b : Bool) → b ≡ eqb (length (contents m.corners)) (room m.corners) → b ≡ false → length (contents m.corners) < room m.corners
has_room m b e f =
    let other = eqb-false (length (contents m.corners)) (room m.corners) (sym e ∙ f) in
    omega (arith, length-take m.corners.len (records m.corners))

-- Unless the map was found to be finished, a pair is left to examine.
pub pair_left : (m : Map) (b : Bool) → b ≡ leb (length (contents m.corners) * pairs_each (meaning_of m.table)) m.pairs → b ≡ false → m.pairs < length (contents m.corners) * pairs_each (meaning_of m.table)
pair_left m b e f = leb-false (length (contents m.corners) * pairs_each (meaning_of m.table)) m.pairs (sym e ∙ f)
