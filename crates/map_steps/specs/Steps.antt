-- What each call on a map answers, when it refuses, and what it leaves.
use Rattle.std.specs.Prelude.{◌≡◌, ℕ, ◌+◌, ◌<◌, ◌≤◌, List, [], ◌∷◌, ◌++◌, length, take, drop, ℤ, Some, Ok, Err, Result, slice_index}
use Rattle.plant.specs.Commands.{Command}
use Rattle.plant.specs.Meaning.{Meaning}
use Rattle.tableau.specs.Masks.{mask_of}
use Rattle.tableau.specs.Plants.{commands, limits, CornerOf, SearchCorner}
use Rattle.tableau.specs.Readings.{Region, command_at, IsInLowestTerms}
use Rattle.tableau.specs.Runs.{Leaves, HasNoRow, Across}
use Rattle.tableau.specs.Search.{AllArtificial, SearchEnded}
use Rattle.words.specs.declared.refusal.Refusal.{Refusal}
use Rattle.words.specs.declared.refusal.Refusal.TheVariants.{Begun, NotBegun, Reading, PlaceShort, Full, Width, NoBest, NoCommand, NotYet}
use Rattle.words.specs.declared.refusal.Shown.TheVariants.{ByLimit, ByMap}
use Rattle.corner_runs.specs.SolveRuns.{InWidthOf, SolveRun, Settled, WithoutRow, BeyondWidth}
use Rattle.corner_runs.specs.StartRuns.{StartRun, StartBeyondWidth}
use Rattle.corner_runs.specs.declared.exchanges.Exchange.{Exchange}
use Rattle.trays.specs.Trays.{tray_size}
use Rattle.trays.specs.Commands.{command_list}
use Rattle.trays.specs.Directions.{direction_list}
use Rattle.trays.specs.Weights.{WeightsList}
use Rattle.map_steps.specs.Pairs.{AllExamined, Due}
use Rattle.map_steps.specs.ReadingFaults.{ReadingsFit, ReadingsFaulty}
use Rattle.map_steps.specs.States.{Standing, State, View}
use Rattle.map_steps.specs.declared.reply.Reached.{Reached}
use Rattle.map_steps.specs.declared.reply.Grown.{Grown}
use Rattle.map_steps.specs.declared.reply.Grown.TheVariants.{Nothing, Listed, Finished}
use Rattle.map_steps.specs.declared.reply.Answered.{Answered}
use Rattle.map_steps.specs.declared.reply.Done.{Done}
use Rattle.map_steps.specs.declared.reply.Done.TheVariants as done
use Rattle.map_steps.specs.Replies.{Reply}

-- A call: a start is handed a plant, by the number of its sort and its meaning; a solve and an answer a reading.
pub data Call : Type 0 where
  Start : ℕ → Meaning → Call
  Solve : List ℤ → Call
  Grow : Call
  Answer : List ℤ → Call

-- The result of a call as a reply.
abbrev pub to_reply : {A : Type 0} → (A → Done) → Result A Refusal → Reply
to_reply f (Ok a) = Ok (f a)
to_reply f (Err e) = Err e

abbrev pub to_start : Result Reached Refusal → Reply
to_start r = to_reply done.Start r

abbrev pub to_solve : Result Reached Refusal → Reply
to_solve r = to_reply done.Solve r

abbrev pub to_grow : Result Grown Refusal → Reply
to_grow r = to_reply done.Grow r

abbrev pub to_answer : Result Answered Refusal → Reply
to_answer r = to_reply done.Answer r

-- A tray with its first numbers laid anew; those beyond stay.
abbrev pub laid : List ℤ → List ℤ → List ℤ
laid xs tray = xs ++ drop tray_size tray

-- The numbers of the command of the corner X at a reading, in lowest terms.
abbrev pub Commands : (p : Meaning) → CornerOf p → List ℤ → List ℤ → Type 0
Commands p X θ xs = (c : Command) × IsInLowestTerms p (command_at p X θ) c × (xs ≡ command_list p c)

-- The search of a start, from the basis of all artificial limits to Y in so many exchanges.
pub record SearchTo (p : Meaning) (made : ℕ) (Y : SearchCorner p) : Type 0 where
  pub first : SearchCorner p
  pub artificial : AllArtificial p first
  pub run : StartRun p first made Y

-- An artificial limit is in the basis of Y.
abbrev pub ArtificialLeft : (p : Meaning) → SearchCorner p → Type 0
ArtificialLeft p Y = (r : ℕ) × (r < commands p) × (limits p ≤ Y.β r)

-- The corner of the plant has the basis of Y.
abbrev pub SameBasis : (p : Meaning) → CornerOf p → SearchCorner p → Type 0
SameBasis p X Y = (r : ℕ) → r < commands p → X.β r ≡ Y.β r

module _ (v : View) where
  abbrev pub IsNotBegun : Type 0
  IsNotBegun = length v.state.masks ≡ 0

  abbrev pub mask_at : ℕ → ℕ
  mask_at k = slice_index v.state.masks k

  -- A corner with this mask is listed.
  abbrev pub IsListed : ℕ → Type 0
  IsListed m = (k : ℕ) × (k < length v.state.masks) × (mask_at k ≡ m)

  -- All that a start asks before its search.
  pub record Startable : Type 0 where
    pub not_begun : IsNotBegun
    pub tray : tray_size ≤ length v.tray
    pub room : 0 < v.state.room

  -- All that a solve or an answer asks before it looks.
  pub record Ready (θ : List ℤ) (s : Standing) : Type 0 where
    pub force : v.state.force ≡ Some s
    pub readings : ReadingsFit s.meaning θ
    pub tray : tray_size ≤ length v.tray

  -- The run of a solve, from the first corner to Y by these exchanges.
  pub record RunTo (p : Meaning) (θ : List ℤ) (es : List Exchange) (Y : CornerOf p) : Type 0 where
    pub first : CornerOf p
    pub listed : mask_of p first ≡ mask_at 0
    pub run : SolveRun p θ first es Y

  abbrev pub FinishedMap : Meaning → Type 0
  FinishedMap p = AllExamined p v.state.masks v.state.pairs

  -- The corner Y, across from the corner X of the pair that is due; and whether it is listed already.
  pub record PairAcross (s : Standing) (j : ℕ) (Y : CornerOf s.meaning) : Type 0 where
    pub force : v.state.force ≡ Some s
    pub place : ℕ
    pub corner : CornerOf s.meaning
    pub due : Due s.meaning v.state.masks v.state.pairs place corner j
    pub row : ℕ
    pub leaves : Leaves s.meaning corner j row
    pub across : Across s.meaning corner row j Y

  -- No region of the listed corners before place k holds the reading.
  abbrev pub NoneBefore : (p : Meaning) → List ℤ → ℕ → Type 0
  NoneBefore p θ k = (i : ℕ) → i < k → (X : CornerOf p) → mask_of p X ≡ mask_at i → ¬ Region p X θ

  -- What is left: all as it was but for the tray; but for the tray and the trail, which holds the first exchanges; but for the state.
  abbrev pub with_tray : List ℤ → View
  with_tray tray = record { state = v.state; tray = tray; trail = v.trail; trail_room = v.trail_room }

  abbrev pub with_trail : List Exchange → List ℤ → View
  with_trail es tray = record { state = v.state; tray = tray; trail = take v.trail_room es; trail_room = v.trail_room }

  abbrev pub with_state : State → View
  with_state s = record { state = s; tray = v.tray; trail = v.trail; trail_room = v.trail_room }

  -- A map begun with this plant and this corner.
  abbrev pub begun : Standing → ℕ → State
  begun s mask = record { force = Some s; masks = mask ∷ []; pairs = 0; room = v.state.room }

  -- One pair more is examined, and these corners are listed.
  abbrev pub examined : List ℕ → State
  examined masks = record { force = v.state.force; masks = masks; pairs = v.state.pairs + 1; room = v.state.room }

-- The call on the map in the view v gets this reply and leaves the view w.
pub data Step (v w : View) : Call → Reply → Type 0 where
  start_begun : {k : ℕ} {p : Meaning} → 0 < length v.state.masks → w ≡ v → Step v w (Start k p) (Err Begun)
  start_short : {k : ℕ} {p : Meaning} → IsNotBegun v → length v.tray < tray_size → w ≡ v → Step v w (Start k p) (Err (PlaceShort tray_size))
  start_full : {k : ℕ} {p : Meaning} → IsNotBegun v → tray_size ≤ length v.tray → v.state.room ≡ 0 → w ≡ v → Step v w (Start k p) (Err (Full 0))
  start_wide : {k place : ℕ} {p : Meaning} (made j : ℕ) (Y : SearchCorner p) → Startable v → SearchTo p made Y → StartBeyondWidth p Y j → place ≡ j + 1 → w ≡ v → Step v w (Start k p) (Err (Width place))
  start_no_best : {k : ℕ} {p : Meaning} (made : ℕ) (Y : SearchCorner p) → Startable v → SearchTo p made Y → SearchEnded p Y → ArtificialLeft p Y → w ≡ with_tray v (laid (direction_list p Y) v.tray) → Step v w (Start k p) (Err NoBest)
  started : {k : ℕ} {p : Meaning} {a : Reached} (Y : SearchCorner p) (X : CornerOf p) → Startable v → SearchTo p a.exchanges Y → SearchEnded p Y → SameBasis p X Y → InWidthOf p X → a.mask ≡ mask_of p X
      → w ≡ with_state v (begun v (record { kind = k; meaning = p }) a.mask) → Step v w (Start k p) (Ok (done.Start a))
  solve_not_begun : {θ : List ℤ} → IsNotBegun v → w ≡ v → Step v w (Solve θ) (Err NotBegun)
  solve_reading : {θ : List ℤ} {place : ℕ} (s : Standing) → v.state.force ≡ Some s → ReadingsFaulty s.meaning θ place → w ≡ v → Step v w (Solve θ) (Err (Reading place))
  solve_short : {θ : List ℤ} (s : Standing) → v.state.force ≡ Some s → ReadingsFit s.meaning θ → length v.tray < tray_size → w ≡ v → Step v w (Solve θ) (Err (PlaceShort tray_size))
  solve_wide : {θ : List ℤ} {place : ℕ} (s : Standing) (es : List Exchange) (j : ℕ) (Y : CornerOf s.meaning) → Ready v θ s → RunTo v s.meaning θ es Y → BeyondWidth s.meaning θ Y j → place ≡ j + 1 → w ≡ with_trail v es v.tray → Step v w (Solve θ) (Err (Width place))
  solve_none : {θ : List ℤ} {place : ℕ} (s : Standing) (es : List Exchange) (j : ℕ) (Y : CornerOf s.meaning) (xs : List ℤ) → Ready v θ s → RunTo v s.meaning θ es Y → WithoutRow s.meaning θ Y j → WeightsList s.meaning Y j xs → place ≡ j + 1
      → w ≡ with_trail v es (laid xs v.tray) → Step v w (Solve θ) (Err (NoCommand (ByLimit place)))
  solved : {θ : List ℤ} {a : Reached} (s : Standing) (es : List Exchange) (Y : CornerOf s.meaning) (xs : List ℤ) → Ready v θ s → RunTo v s.meaning θ es Y → Settled s.meaning θ Y → a.mask ≡ mask_of s.meaning Y → a.exchanges ≡ length es → Commands s.meaning Y θ xs
      → w ≡ with_trail v es (laid xs v.tray) → Step v w (Solve θ) (Ok (done.Solve a))
  grow_not_begun : IsNotBegun v → w ≡ v → Step v w Grow (Err NotBegun)
  grow_finished : (s : Standing) → v.state.force ≡ Some s → FinishedMap v s.meaning → w ≡ v → Step v w Grow (Ok (done.Grow Finished))
  grow_no_row : (s : Standing) (k j : ℕ) (X : CornerOf s.meaning) → v.state.force ≡ Some s → Due s.meaning v.state.masks v.state.pairs k X j → HasNoRow s.meaning X j → w ≡ with_state v (examined v v.state.masks) → Step v w Grow (Ok (done.Grow Nothing))
  grow_known : (s : Standing) (j : ℕ) (Y : CornerOf s.meaning) → PairAcross v s j Y → IsListed v (mask_of s.meaning Y) → w ≡ with_state v (examined v v.state.masks) → Step v w Grow (Ok (done.Grow Nothing))
  grow_full : {place : ℕ} (s : Standing) (j : ℕ) (Y : CornerOf s.meaning) → PairAcross v s j Y → ¬ IsListed v (mask_of s.meaning Y) → length v.state.masks ≡ v.state.room → place ≡ j + 1 → w ≡ v → Step v w Grow (Err (Full place))
  grow_wide : {place : ℕ} (s : Standing) (j : ℕ) (Y : CornerOf s.meaning) → PairAcross v s j Y → ¬ IsListed v (mask_of s.meaning Y) → length v.state.masks < v.state.room → ¬ InWidthOf s.meaning Y → place ≡ j + 1 → w ≡ v → Step v w Grow (Err (Width place))
  grown : (s : Standing) (j : ℕ) (Y : CornerOf s.meaning) → PairAcross v s j Y → ¬ IsListed v (mask_of s.meaning Y) → length v.state.masks < v.state.room → InWidthOf s.meaning Y
      → w ≡ with_state v (examined v (v.state.masks ++ mask_of s.meaning Y ∷ [])) → Step v w Grow (Ok (done.Grow Listed))
  answer_not_begun : {θ : List ℤ} → IsNotBegun v → w ≡ v → Step v w (Answer θ) (Err NotBegun)
  answer_reading : {θ : List ℤ} {place : ℕ} (s : Standing) → v.state.force ≡ Some s → ReadingsFaulty s.meaning θ place → w ≡ v → Step v w (Answer θ) (Err (Reading place))
  answer_short : {θ : List ℤ} (s : Standing) → v.state.force ≡ Some s → ReadingsFit s.meaning θ → length v.tray < tray_size → w ≡ v → Step v w (Answer θ) (Err (PlaceShort tray_size))
  answer_none : {θ : List ℤ} (s : Standing) → Ready v θ s → FinishedMap v s.meaning → NoneBefore v s.meaning θ (length v.state.masks) → w ≡ v → Step v w (Answer θ) (Err (NoCommand ByMap))
  answer_not_yet : {θ : List ℤ} (s : Standing) → Ready v θ s → ¬ FinishedMap v s.meaning → NoneBefore v s.meaning θ (length v.state.masks) → w ≡ v → Step v w (Answer θ) (Err NotYet)
  answered : {θ : List ℤ} {a : Answered} (s : Standing) (X : CornerOf s.meaning) (xs : List ℤ) → Ready v θ s → a.place < length v.state.masks → a.mask ≡ mask_at v a.place → mask_of s.meaning X ≡ a.mask → Region s.meaning X θ → NoneBefore v s.meaning θ a.place → Commands s.meaning X θ xs
      → w ≡ with_tray v (laid xs v.tray) → Step v w (Answer θ) (Ok (done.Answer a))
