-- What is known of the records of listed corners.
use Rattle.std.proofs.Common.{◌≡◌, ℕ, ◌<◌, List, [], ◌∷◌, ◌++◌, length, get_or, ℤ, sym, refl, ◌∙◌, subst, ⊎_elim, arith}
use std.Logic.{∥∥₁_elim, ∥∥₁_map}
use denote.Struct.Props.{props}
use Rattle.std.proofs.lemmas.Bool.{cases_lt}
use Rattle.std.proofs.lemmas.List.{get_or_append_left, get_or_push, get_or_read, length_push}
use Rattle.exact.specs.Bounds.{AllInWidth}
use Rattle.plant.specs.Commands.{column}
use Rattle.plant.specs.Meaning.{Meaning, shape_of}
use Rattle.tableau.specs.Masks.{mask_of}
use Rattle.tableau.specs.Plants.{limits, CornerOf}
use Rattle.words.specs.Layout.{InBounds}
use Rattle.tableau_words.specs.Layout.{most_size}
use Rattle.corner_words.proofs.Masks.{mask_answered}
use Rattle.corner_words.proofs.Numbers.{holds_widths}
use Rattle.corner_runs.specs.Answers.{HoldsCorner}
use Rattle.corner_list.specs.Records.{CornerWords, tableau_in, Record, corner, AllRecords}
use Rattle.corner_list.specs.Regions.{AllReadable}
use Rattle.corner_list.specs.declared.corner.Corner.{Corner}
use Rattle.corner_list.proofs.FromWords.{corner_in, corner_in_holds}

-- Words that hold some corner hold the corner of their numbers.
pub corner_from : (p : Meaning) (ws : List ℤ) → CornerWords p ws → (X : CornerOf p) × HoldsCorner p X ws
corner_from p ws t = (corner_in p ws t, corner_in_holds p ws t)

pub words_of_corner : (p : Meaning) (X : CornerOf p) (ws : List ℤ) → HoldsCorner p X ws → CornerWords p ws
words_of_corner p X ws H = ∣ (X, H) ∣₁

pub corner_words_in_width : (p : Meaning) (ws : List ℤ) → InBounds (shape_of p) → CornerWords p ws → AllInWidth ws
corner_words_in_width p ws counts t = holds_widths p (limits p) (column p) (corner_in p ws t) ws counts (omega arith) (corner_in_holds p ws t)

-- The words of a record hold a corner, and its mask is that of any corner that they hold.
module _ (p : Meaning) (r : Corner) where
  pub record_words : Record p r → CornerWords p (tableau_in (shape_of p) r)
  record_words R = ∥∥₁_map R.1 (λ h. (h.0, h.1))

  pub record_mask : Record p r → (X : CornerOf p) → HoldsCorner p X (tableau_in (shape_of p) r) → r.mask ≡ mask_of p X
  record_mask R X H =
      let ws = tableau_in (shape_of p) r in
      ∥∥₁_elim R.1 (hlevel props) (λ h. h.2 ∙ sym (mask_answered (shape_of p) ws p h.0 refl h.1) ∙ mask_answered (shape_of p) ws p X refl H)

  pub record_corner : Record p r → (X : CornerOf p) × HoldsCorner p X (tableau_in (shape_of p) r) × (r.mask ≡ mask_of p X)
  record_corner R =
      let (X, H) = corner_from p (tableau_in (shape_of p) r) (record_words R) in
      (X, H, record_mask R X H)

  pub record_of : (X : CornerOf p) → length r.words ≡ most_size → HoldsCorner p X (tableau_in (shape_of p) r) → r.mask ≡ mask_of p X → Record p r
  record_of X long H e = (long, ∣ (X, H, e) ∣₁)

-- Lists of records.
pub all_records_none : (p : Meaning) → AllRecords p []
all_records_none p k l = absurd (omega arith)

pub all_records_push : (p : Meaning) (rs : List Corner) (r : Corner) → AllRecords p rs → Record p r → AllRecords p (rs ++ r ∷ [])
all_records_push p rs r all R k l = ⊎_elim
    (λ h. subst (Record p) (sym (get_or_append_left rs (r ∷ []) _ k h)) (all k h))
    (λ n. subst (Record p) (sym (get_or_push rs r _ k (omega (arith, length_push rs r)))) R)
    (cases_lt k (length rs))

-- What a search for a region asks of the records.
pub all_records_readable : (p : Meaning) (rs : List Corner) → InBounds (shape_of p) → AllRecords p rs → AllReadable (shape_of p) rs
all_records_readable p rs counts all k l = ((all k l).0, corner_words_in_width p (tableau_in (shape_of p) (corner rs k)) counts (record_words p (corner rs k) (all k l)))

-- A record as `List::get` answers it.
pub record_at : (rs : List Corner) (k : ℕ) (r : Corner) → (k < length rs) × (r ≡ get_or rs k r) → r ≡ corner rs k
record_at rs k r h = get_or_read rs k r h.0 h.1 _
