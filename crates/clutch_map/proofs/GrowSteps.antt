-- From the pair that is due and what lies across it, to the step of a grow.
use Rattle.std.proofs.Common.{◌≡◌, ℕ, ◌+◌, ◌/◌, ◌^◌, ◌<◌, true, false, List, [], ◌∷◌, ◌++◌, length, get_or, take, ℤ, Some, Ok, Err, sym, refl, ap, ◌∙◌, subst, arith, length-append}
use mathlib.Core.List.{map-append}
use Rattle.plant.specs.Meaning.{Meaning, shape_of}
use Rattle.tableau.specs.Masks.{mask_of}
use Rattle.tableau.specs.Plants.{CornerOf}
use Rattle.tableau.specs.Runs.{Leaves, Across}
use Rattle.tableau.proofs.Exchanges.{leads}
use Rattle.words.specs.declared.counts.Shape.{Shape}
use Rattle.words.specs.declared.refusal.Refusal.TheVariants.{Full, Width}
use Rattle.tableau_words.specs.Layout.{size}
use Rattle.corner_runs.specs.Answers.{HoldsCorner}
use Rattle.corner_list.specs.Lists.{ListsAnswer}
use Rattle.corner_list.specs.Records.{Record, corner}
use Rattle.corner_list.specs.declared.corner.Corner.{Corner}
use Rattle.corner_list.proofs.Listing.{record_of}
use Rattle.map_steps.specs.Pairs.{pairs_each, Due}
use Rattle.map_steps.specs.States.{Standing, View}
use Rattle.map_steps.specs.Steps.{Step, Grow, IsListed, PairAcross, with_state, examined, grow_known, grow_full, grow_wide, grown}
use Rattle.map_steps.specs.declared.reply.Grown.TheVariants.{Nothing, Listed}
use Rattle.map_steps.specs.declared.reply.Done.TheVariants as done
use Rattle.rows.specs.declared.OutOfWidth.{OutOfWidth}
use Rattle.working_tableau.specs.Crossings.{LeftAt, LeftAnswer, CrossAnswer}
use Rattle.working_tableau.proofs.MasksAcross.{mask_there}
use Rattle.clutch_map.specs.Listed.{AtFirst}
use Rattle.clutch_map.specs.Views.{in_force, masks_of}
use Rattle.clutch_map.proofs.Seen.{masks_long, mask_of_record, some_force}
use Rattle.clutch_map.proofs.DuePairs.{DueIn, due_holds}

-- The words hold the corner X of the pair that is due, a limit leaves when its limit j enters, and m is the mask with j in place of that limit.
pub record Crossing (p : Meaning) (masks : List ℕ) (pairs j m : ℕ) (ws : List ℤ) : Type 0 where
  pub place : ℕ
  pub X : CornerOf p
  pub due : Due p masks pairs place X j
  pub holds : HoldsCorner p X ws
  pub left : ℕ
  pub leaves : LeftAt p X j (Some left)
  pub mask : m + 2 ^ left ≡ mask_of p X + 2 ^ j

pub crossing_of : (p : Meaning) (cs : List Corner) (pairs : ℕ) (r : Corner) (j : ℕ) → DueIn p cs pairs r j → (s : Shape) → s ≡ shape_of p → (l : ℕ) → LeftAnswer s j (take (size s) r.words) (Some l) → (m : ℕ) → m + 2 ^ l ≡ r.mask + 2 ^ j
    → Crossing p (masks_of cs) pairs j m (take (size s) r.words)
crossing_of p cs pairs r j d s counts l L m e =
    let holds = due_holds p cs pairs r j d s counts in
    record { place = pairs / pairs_each p; X = d.X; due = d.due; holds = holds; left = l; leaves = L p d.X counts holds; mask = e ∙ ap (λ b. b + 2 ^ j) d.mask }

module _ (p : Meaning) (masks : List ℕ) (pairs j m : ℕ) (ws : List ℤ) (C : Crossing p masks pairs j m ws) where
  -- It is the mask of the corner across, whichever row is told to leave.
  same_mask : (q : ℕ) (Y : CornerOf p) → Leaves p C.X j q → Across p C.X q j Y → m ≡ mask_of p Y
  same_mask = mask_there p C.X (mask_of p C.X) refl j C.left C.leaves C.due.known C.due.outside m C.mask

  -- The record of the corner across.
  pub new_record : (s : Shape) → s ≡ shape_of p → (after : List ℤ) → CrossAnswer s j ws (Ok after) → Record p (record { mask = m; words = after })
  new_record s counts after crossed =
      let (long, (left, gone)) = crossed p C.X counts C.holds in
      record_of p (record { mask = m; words = after }) gone.to long gone.holds (same_mask gone.row gone.to gone.leaves gone.across)

module _ (v w : View) (s : Standing) (force : v.state.force ≡ Some s) (j m : ℕ) (ws : List ℤ) (C : Crossing s.meaning v.state.masks v.state.pairs j m ws) where
  module _ (q : ℕ) (Y : CornerOf s.meaning) (leaves : Leaves s.meaning C.X j q) (across : Across s.meaning C.X q j Y) where
    pair_across : PairAcross v s j Y
    pair_across = record { force = force; place = C.place; corner = C.X; due = C.due; row = q; leaves = leaves; across = across }

    mask_of_across : m ≡ mask_of s.meaning Y
    mask_of_across = same_mask s.meaning v.state.masks v.state.pairs j m ws C q Y leaves across

    not_listed : ¬ IsListed v m → ¬ IsListed v (mask_of s.meaning Y)
    not_listed n = subst (λ m. ¬ IsListed v m) mask_of_across n

  pub known_step : IsListed v m → w ≡ with_state v (examined v v.state.masks) → Step v w Grow (Ok (done.Grow Nothing))
  known_step listed is =
      let (q, leaves, e) = C.leaves in
      let (Y, across) = leads s.meaning C.X j q C.due.known leaves in
      grow_known s j Y (pair_across q Y leaves across) (subst (IsListed v) (mask_of_across q Y leaves across) listed) is

  module _ (new : ¬ IsListed v m) where
    pub full_step : length v.state.masks ≡ v.state.room → w ≡ v → Step v w Grow (Err (Full (j + 1)))
    full_step full is =
        let (q, leaves, e) = C.leaves in
        let (Y, across) = leads s.meaning C.X j q C.due.known leaves in
        grow_full s j Y (pair_across q Y leaves across) (not_listed q Y leaves across new) full refl is

    module _ (room : length v.state.masks < v.state.room) (c : Shape) (counts : c ≡ shape_of s.meaning) where
      pub wide_step : (e : OutOfWidth) → CrossAnswer c j ws (Err e) → w ≡ v → Step v w Grow (Err (Width (j + 1)))
      wide_step e crossed is =
          let wide = crossed s.meaning C.X counts C.holds in
          let (Y, across) = leads s.meaning C.X j wide.row C.due.known wide.leaves in
          grow_wide s j Y (pair_across wide.row Y wide.leaves across) (not_listed wide.row Y wide.leaves across new) room (wide.out Y across) refl is

      pub grown_step : (after : List ℤ) → CrossAnswer c j ws (Ok after) → w ≡ with_state v (examined v (v.state.masks ++ m ∷ [])) → Step v w Grow (Ok (done.Grow Listed))
      grown_step after crossed is =
          let (long, (left, gone)) = crossed s.meaning C.X counts C.holds in
          let mask = mask_of_across gone.row gone.to gone.leaves gone.across in
          grown s j gone.to (pair_across gone.row gone.to gone.leaves gone.across) (not_listed gone.row gone.to gone.leaves gone.across new) room gone.holds.in_width
          (is ∙ ap (λ m. with_state v (examined v (v.state.masks ++ m ∷ []))) mask)

-- Whether the mask is listed, by the records.
module _ (v : View) (cs : List Corner) (masks : v.state.masks ≡ masks_of cs) (m : ℕ) where
  pub some_has : ListsAnswer cs m true → IsListed v m
  some_has (k, l, is) = rw masks (k, rw (masks_long cs) l, mask_of_record cs k l ∙ is)

  pub none_has : ListsAnswer cs m false → ¬ IsListed v m
  none_has none (k, l, is) =
      let h : k < length cs = omega (arith, masks_long cs, ap length masks) in
      none k h (sym (mask_of_record cs k h) ∙ sym (ap (λ ms. get_or ms k 0) masks) ∙ is)

-- The list after one record more.
module _ (cs after : List Corner) (r : Corner) (some : 0 < length cs) (pushed : after ≡ cs ++ r ∷ []) where
  more_masks : masks_of after ≡ masks_of cs ++ r.mask ∷ []
  more_masks = ap masks_of pushed ∙ map-append (λ c. c.mask) cs (r ∷ [])

  same_first : corner after 0 ≡ corner cs 0
  same_first = rw pushed (by cs some)
    where
      by : (cs : List Corner) → 0 < length cs → corner (cs ++ r ∷ []) 0 ≡ corner cs 0
      by [] l = absurd (omega arith)
      by (c ∷ cs) l = refl

  same_force : (k : ℕ) (p : Meaning) → in_force after k p ≡ in_force cs k p
  same_force k p = some_force after k p (rw (pushed, length-append) (omega arith)) ∙ sym (some_force cs k p some)

  pub first_kept : (ws ws' : List ℤ) → ws' ≡ ws → AtFirst cs ws → AtFirst after ws'
  first_kept ws ws' e first = λ h. e ∙ first some ∙ sym (ap (λ r. r.words) same_first)

  pub grown_state : (v : View) (k n pairs : ℕ) (p : Meaning) → v.state ≡ record { force = in_force cs k p; masks = masks_of cs; pairs = pairs; room = n } → (n' : ℕ) → n' ≡ n
      → record { force = in_force after k p; masks = masks_of after; pairs = pairs + 1; room = n' } ≡ examined v (v.state.masks ++ r.mask ∷ [])
  grown_state v k n pairs p e n' room = rw (e, same_force k p, more_masks, room)
