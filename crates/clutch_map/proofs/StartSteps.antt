-- From what a search on the working tableau came to, to the step of a start.
use Rattle.std.proofs.Common.{◌≡◌, ℕ, List, [], ◌∷◌, ◌++◌, length, ℤ, Ok, Err, refl, ap, ◌∙◌, subst, arith}
use Rattle.tableau.specs.Masks.{mask_of}
use Rattle.tableau.specs.Plants.{CornerOf}
use Rattle.corner_runs.specs.Answers.{HoldsCorner}
use Rattle.corner_list.specs.declared.corner.Corner.{Corner}
use Rattle.clutch_map.specs.Views.{in_force, masks_of}
use Rattle.plant.specs.Meaning.{Meaning}
use Rattle.words.specs.declared.refusal.Refusal.{Refusal}
use Rattle.map_steps.specs.States.{View}
use Rattle.map_steps.specs.Steps.{Step, Start, to_start, Startable, with_tray, begun, started, start_wide, start_no_best}
use Rattle.map_steps.specs.declared.reply.Reached.{Reached}
use Rattle.working_tableau.specs.Starts.{FirstCorner, found, no_best, wide}

-- A refused start leaves all but the tray.
refused_at : (v w : View) (k : ℕ) (p : Meaning) (ws tray : List ℤ) (e : Refusal) → Startable v → FirstCorner p ws v.tray tray (Err e) → w ≡ with_tray v tray → Step v w (Start k p) (to_start (Err e))
refused_at v w k p ws tray e ready (no_best made Y run ended left lays) q = start_no_best made Y ready run ended left (q ∙ ap (with_tray v) lays)
refused_at v w k p ws tray e ready (wide made j Y run beyond place same) q = start_wide made j Y ready run beyond place (q ∙ ap (with_tray v) same)

started_at : (v w : View) (k : ℕ) (p : Meaning) (ws tray : List ℤ) (a : Reached) → Startable v → FirstCorner p ws v.tray tray (Ok a) → w ≡ record { state = begun v (record { kind = k; meaning = p }) a.mask; tray = tray; trail = v.trail; trail_room = v.trail_room } → Step v w (Start k p) (to_start (Ok a))
started_at v w k p ws tray a ready (found Y X run ended same holds mask untouched) q =
    started Y X ready run ended same holds.in_width mask (q ∙ ap (λ t. record { state = begun v (record { kind = k; meaning = p }) a.mask; tray = t; trail = v.trail; trail_room = v.trail_room }) untouched)

-- The same for the plant that the table was taken from.
pub refused_step : (v w : View) (k : ℕ) (p q : Meaning) → p ≡ q → (ws tray : List ℤ) (e : Refusal) → Startable v → FirstCorner p ws v.tray tray (Err e) → w ≡ with_tray v tray → Step v w (Start k q) (to_start (Err e))
refused_step v w k p q same ws tray e ready F is = subst (λ q. Step v w (Start k q) (to_start (Err e))) same (refused_at v w k p ws tray e ready F is)

pub started_step : (v w : View) (k : ℕ) (p q : Meaning) → p ≡ q → (ws tray : List ℤ) (a : Reached) → Startable v → FirstCorner p ws v.tray tray (Ok a) → w ≡ record { state = begun v (record { kind = k; meaning = p }) a.mask; tray = tray; trail = v.trail; trail_room = v.trail_room } → Step v w (Start k q) (to_start (Ok a))
started_step v w k p q same ws tray a ready F is = subst (λ q. Step v w (Start k q) (to_start (Ok a))) same (started_at v w k p ws tray a ready F is)

-- The corner that was found.
pub found_corner : (p : Meaning) (ws tray tray' : List ℤ) (a : Reached) → FirstCorner p ws tray tray' (Ok a) → (X : CornerOf p) × HoldsCorner p X ws × (a.mask ≡ mask_of p X)
found_corner p ws tray tray' a (found Y X run ended same holds mask untouched) = (X, holds, mask)

-- Without a corner no plant is in force, whatever the table holds.
pub no_force : (cs : List Corner) (k k' : ℕ) (p p' : Meaning) → length cs ≡ 0 → in_force cs k p ≡ in_force cs k' p'
no_force [] k k' p p' h = refl
no_force (c ∷ cs) k k' p p' h = absurd (omega arith)

-- The list after its first record.
pub only : (cs after : List Corner) (r : Corner) → length cs ≡ 0 → after ≡ cs ++ r ∷ [] → after ≡ r ∷ []
only [] after r h e = e
only (c ∷ cs) after r h e = absurd (omega arith)

pub begun_state : (v : View) (cs : List Corner) (r : Corner) (k k' n : ℕ) (p p' : Meaning) → cs ≡ r ∷ [] → k ≡ k' → p ≡ p' → n ≡ v.state.room → record { force = in_force cs k p; masks = masks_of cs; pairs = 0; room = n } ≡ begun v (record { kind = k'; meaning = p' }) r.mask
begun_state v cs r k k' n p p' e ek ep en = rw (e, ek, ep, en) refl
