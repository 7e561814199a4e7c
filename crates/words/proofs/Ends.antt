-- What a reader knows where a part begins and where the words end.
use Rattle.std.proofs.Common.{◌≡◌, ℕ, ◌+◌, ◌-◌, ◌<◌, ◌≤◌, false, List, length, take, drop, refl, ap, ◌∙◌, subst, arith, length-drop, length-take}
use Rattle.std.proofs.lemmas.Bool.{eqb-true}
use Rattle.words.specs.Layout.{width, limit_place, close_place}
use Rattle.words.specs.Faults.{shape_of, LaidOut, Faulty, too_long}
use Rattle.words.specs.Steps.{done, span, Stands}
use Rattle.words.specs.Parts.{part_of}
use Rattle.words.proofs.Places.{same_shape, limits_left, before_close}
use Rattle.words.specs.declared.counts.Counts.{Counts}
use Rattle.words.specs.declared.refusal.Refusal.TheVariants.{Close as CloseRefused}
use Rattle.words.specs.declared.state.State.{State}
use Rattle.words.specs.declared.state.State.TheVariants.{Head, Gain, Coefficient, Constant, Slope, Close, Done}

pub not_done : (s : State) → ((c : Counts) → s ≡ Done c → ⊥) → done s ≡ false
not_done Head h = refl
not_done (Gain c left) h = refl
not_done (Coefficient c left limits) h = refl
not_done (Constant c limits) h = refl
not_done (Slope c left limits) h = refl
not_done (Close c) h = refl
not_done (Done c) h = absurd (h c refl)

some_words : (ws : List ℕ) (k : ℕ) (s : State) → Stands ws k s → done s ≡ false → 0 < span s
some_words ws k Head S n = omega arith
some_words ws k (Gain c left) S n = let f = c.fit in grind (arith, eqb-true left c.shape.commands S.opened)
some_words ws k (Coefficient c left limits) S n = omega arith
some_words ws k (Constant c limits) S n = absurd (let z : ◌≡◌ {A = ℕ} 0 1 = let o = S.opened in cc in omega arith)
some_words ws k (Slope c left limits) S n = absurd (let z : ◌≡◌ {A = ℕ} 0 1 = let o = S.opened in cc in omega arith)
some_words ws k (Close c) S n = omega arith
some_words ws k (Done c) S n = absurd (let z : ◌≡◌ {A = ℕ} 0 1 = cc in omega arith)

module _ {ws : List ℕ} {k : ℕ} {s : State} (S : Stands ws k s) where
  -- Before the close is read, words are missing if they are to be a plant's.
  pub unread : done s ≡ false → LaidOut ws → k < length ws
  unread n l = omega (arith, before_close S 0 (some_words ws k s S n), l.long)

  pub longer : done s ≡ false → k < k + span s
  longer n = omega (arith, some_words ws k s S n)

  module _ {c : Counts} (e : s ≡ Done c) where
    pub done_shape : c.shape ≡ shape_of ws
    done_shape = let T : Stands ws k (Done c) = subst (Stands ws k) e S in same_shape c.shape (shape_of ws) T.told

    at_end : k ≡ close_place (shape_of ws) + 1
    at_end = let T : Stands ws k (Done c) = subst (Stands ws k) e S in T.placed ∙ ap (λ x. close_place x + 1) done_shape

    -- Once the close is read and no word follows, the words are laid out as a plant's.
    pub laid_out : k ≡ length ws → LaidOut ws
    laid_out l = record { long = omega (arith, at_end); right = rw (← l) S.right }

    pub follows_close : k < length ws → Faulty ws (CloseRefused k)
    follows_close l = too_long at_end l S.right

  pub limit_part : {c : Counts} {left limits : ℕ} → s ≡ Coefficient c left limits
      → (span s ≡ width (shape_of ws)) × ((j : ℕ) × (j < (shape_of ws).limits) × (k ≡ limit_place (shape_of ws) j))
  limit_part {c} {left} {limits} e =
      let T : Stands ws k (Coefficient c left limits) = subst (Stands ws k) e S in
      let q = limits_left c left limits T.opened in
      let same = same_shape c.shape (shape_of ws) T.told in
      (ap span e ∙ ap width same, (c.shape.limits - limits, omega (arith, q.0, q.1, T.told.1), T.placed ∙ ap (λ x. limit_place x (c.shape.limits - limits)) same))

  pub close_part : {c : Counts} → s ≡ Close c → k ≡ close_place (shape_of ws)
  close_part {c} e = let T : Stands ws k (Close c) = subst (Stands ws k) e S in T.placed ∙ ap close_place (same_shape c.shape (shape_of ws) T.told)

module _ (ws : List ℕ) (k : ℕ) where
  pub cut : (a n : ℕ) → a ≡ n → take (k + a - k) (drop k ws) ≡ part_of ws k n
  cut a n e = ap (λ i. take i (drop k ws)) (omega arith)

  pub cut_length : (a n : ℕ) → a ≡ n → k + n ≤ length ws → length (take (k + a - k) (drop k ws)) ≡ n
  cut_length a n e h = simp (length-take, length-drop) (omega arith)
