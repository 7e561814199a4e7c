-- Every call leaves a map sound.
use Rattle.std.proofs.Common.{◌≡◌, ℕ, List, [], ◌∷◌, ◌++◌, length, Some, Option, sym, refl, subst, inl, inr, arith}
use Rattle.std.proofs.lemmas.List.{length_push, get_or_push, get_or_append_left}
use Rattle.std.proofs.lemmas.List.Elements.{All-push}
use Rattle.plant.specs.Meaning.{Meaning}
use Rattle.tableau.specs.Closed.{LeadsTo}
use Rattle.tableau.specs.Masks.{mask_of}
use Rattle.tableau.specs.Plants.{CornerOf}
use Rattle.corner_runs.specs.SolveRuns.{InWidthOf}
use Rattle.map_steps.specs.Pairs.{Due}
use Rattle.map_steps.specs.States.{Standing, State, View}
use Rattle.map_steps.specs.Steps.{Call, Step, PairAcross, begun, examined, start_begun, start_short, start_full, start_wide, start_no_best, started, solve_not_begun, solve_reading, solve_short, solve_wide, solve_none, solved, grow_not_begun, grow_finished, grow_no_row, grow_known, grow_full, grow_wide, grown, answer_not_begun, answer_reading, answer_short, answer_none, answer_not_yet, answered}
use Rattle.map_steps.specs.Replies.{Reply}
use Rattle.promises.specs.Histories.{opened}
use Rattle.promises.proofs.Soundness.{WithinList, CornerInWidth, SoundList, Sound, first_sound, more_sound}

-- Only one plant is in force.
pub one_standing : (s t : Standing) → ◌≡◌ {A = Option Standing} (Some s) (Some t) → s ≡ t
one_standing s t e = cc

-- What holds of it holds of it under every name.
pub in_force : (P : Meaning → Type 0) {force : Option Standing} (s t : Standing) → force ≡ Some s → force ≡ Some t → P s.meaning → P t.meaning
in_force P s t f g p = let e : s ≡ t = cc in subst (λ (s : Standing). P s.meaning) e p

pub opened_sound : (room : ℕ) → Sound (opened room)
opened_sound room s e = absurd (cc)

-- A sound list for the plant in force is a sound state.
sound_in_force : (x : State) (s : Standing) → x.force ≡ Some s → SoundList s.meaning x.masks x.pairs → Sound x
sound_in_force x s f S t g = in_force (λ p. SoundList p x.masks x.pairs) s t f g S

module _ (v : View) (S : Sound v.state) (s : Standing) (force : v.state.force ≡ Some s) where
  abbrev masks : List ℕ
  masks = v.state.masks

  -- The pair that is due was examined, and no corner was added.
  pair_examined : (k : ℕ) (X : CornerOf s.meaning) (j : ℕ) → Due s.meaning masks v.state.pairs k X j → WithinList s.meaning masks X j → Sound (examined v masks)
  pair_examined k X j due here = sound_in_force (examined v masks) s force (more_sound s.meaning masks masks v.state.pairs (S s force) (omega arith) (λ k l. refl) k X j due here (S s force).corners)

  -- It was examined, and the corner across was added.
  corner_added : (k : ℕ) (X : CornerOf s.meaning) (j : ℕ) → Due s.meaning masks v.state.pairs k X j → (Y : CornerOf s.meaning) → LeadsTo s.meaning X j Y → InWidthOf s.meaning Y → Sound (examined v (masks ++ mask_of s.meaning Y ∷ []))
  corner_added k X j due Y leads in_width =
      let m = mask_of s.meaning Y in
      let long = length_push masks m in
      sound_in_force (examined v (masks ++ m ∷ [])) s force
      (more_sound s.meaning masks (masks ++ m ∷ []) v.state.pairs (S s force) (omega arith) (λ k l. get_or_append_left masks (m ∷ []) 0 k l) k X j due
      (inr (Y, leads, (length masks, omega arith, get_or_push masks m 0 (length masks) refl))) (All-push (CornerInWidth s.meaning) masks m (S s force).corners (Y, refl, in_width)))

leads_across : (v : View) (s : Standing) (j : ℕ) (Y : CornerOf s.meaning) (a : PairAcross v s j Y) → LeadsTo s.meaning a.corner j Y
leads_across v s j Y a = record { row = a.row; leaves = a.leaves; across = a.across }

-- A call that leaves a view with a sound state leaves the map sound.
left : {w u : View} → w ≡ u → Sound u.state → Sound w.state
left e S = subst (λ (x : View). Sound x.state) (sym e) S

pub sound_step : (v w : View) (c : Call) (r : Reply) → Sound v.state → Step v w c r → Sound w.state
sound_step v w c r S (start_begun b e) = left e S
sound_step v w c r S (start_short n t e) = left e S
sound_step v w c r S (start_full n t f e) = left e S
sound_step v w c r S (start_wide made j Y a b d q e) = left e S
sound_step v w c r S (start_no_best made Y a b d f e) = left e S
sound_step v w c r S (started {k} {p} {a} Y X b d f g in_width m e) = let s : Standing = record { kind = k; meaning = p } in left e (sound_in_force (begun v s a.mask) s refl (first_sound p X a.mask m in_width))
sound_step v w c r S (solve_not_begun n e) = left e S
sound_step v w c r S (solve_reading s f g e) = left e S
sound_step v w c r S (solve_short s f g t e) = left e S
sound_step v w c r S (solve_wide s es j Y a b d q e) = left e S
sound_step v w c r S (solve_none s es j Y xs a b d f q e) = left e S
sound_step v w c r S (solved s es Y xs a b d f g h e) = left e S
sound_step v w c r S (grow_not_begun n e) = left e S
sound_step v w c r S (grow_finished s f d e) = left e S
sound_step v w c r S (grow_no_row s k j X f due none e) = left e (pair_examined v S s f k X j due (inl none))
sound_step v w c r S (grow_known s j Y a listed e) = left e (pair_examined v S s a.force a.place a.corner j a.due (inr (Y, leads_across v s j Y a, listed)))
sound_step v w c r S (grow_full s j Y a n f q e) = left e S
sound_step v w c r S (grow_wide s j Y a n f g q e) = left e S
sound_step v w c r S (grown s j Y a n f in_width e) = left e (corner_added v S s a.force a.place a.corner j a.due Y (leads_across v s j Y a) in_width)
sound_step v w c r S (answer_not_begun n e) = left e S
sound_step v w c r S (answer_reading s f g e) = left e S
sound_step v w c r S (answer_short s f g t e) = left e S
sound_step v w c r S (answer_none s a f g e) = left e S
sound_step v w c r S (answer_not_yet s a f g e) = left e S
sound_step v w c r S (answered s X xs a b d f g h i e) = left e S
