-- What is promised of every call in a life.
use Rattle.std.specs.Prelude.{◌≡◌, ℕ, ◌<◌, List, ◌++◌, length, ℤ, Some, Ok, Err}
use Rattle.std.specs.List.{All}
use Rattle.plant.specs.Commands.{Command, KeepsAll, Best, HasNoCommand, Free, BetterThanStill}
use Rattle.plant.specs.Meaning.{Meaning}
use Rattle.tableau.specs.Masks.{mask_of}
use Rattle.tableau.specs.Plants.{CornerOf}
use Rattle.tableau.specs.Runs.{HasSameLimits}
use Rattle.words.specs.declared.refusal.Refusal.TheVariants.{Begun, NotBegun, Reading, PlaceShort, Full, Width, NoBest, NoCommand}
use Rattle.words.specs.declared.refusal.Shown.TheVariants.{ByLimit}
use Rattle.corner_runs.specs.SolveRuns.{SolveRun}
use Rattle.corner_runs.specs.declared.exchanges.Exchange.{Exchange}
use Rattle.trays.specs.Commands.{command_list}
use Rattle.map_steps.specs.States.{Standing, View}
use Rattle.map_steps.specs.Steps.{Call, Start, Solve, Answer, mask_at, FinishedMap}
use Rattle.map_steps.specs.declared.reply.Reached.{Reached}
use Rattle.map_steps.specs.declared.reply.Answered.{Answered}
use Rattle.map_steps.specs.declared.reply.Done.TheVariants as done
use Rattle.map_steps.specs.Replies.{Reply}

-- A call of a life: the map with tray and trail before it, the reply, and the map with tray and trail after it.
pub record Moment : Type 0 where
  pub before : View
  pub call : Call
  pub reply : Reply
  pub after : View

-- The tray begins with a command that keeps every limit of the plant at the reading, and is better than every other that does, fractions too.
pub record BestOnTray (p : Meaning) (θ tray : List ℤ) : Type 0 where
  pub command : Command
  pub rest : List ℤ
  pub laid : tray ≡ command_list p command ++ rest
  pub best : Best p θ command

-- Some free direction is better than standing still.
abbrev pub BetterDirection : Meaning → Type 0
BetterDirection p = (y : ℕ → ℤ) × Free p y × BetterThanStill p y

-- Some command keeps every limit at the reading.
abbrev pub SomeCommand : Meaning → List ℤ → Type 0
SomeCommand p θ = (c : Command) × KeepsAll p θ c

-- The refusals that stop a start before it knows: begun, tray short, full, width.
pub data StartStopped : Reply → Type 0 where
  begun : StartStopped (Err Begun)
  short : (need : ℕ) → StartStopped (Err (PlaceShort need))
  full : (place : ℕ) → StartStopped (Err (Full place))
  width : (place : ℕ) → StartStopped (Err (Width place))

-- Those that stop a solve: not begun, reading, tray short, width.
pub data SolveStopped : Reply → Type 0 where
  not_begun : SolveStopped (Err NotBegun)
  reading : (place : ℕ) → SolveStopped (Err (Reading place))
  short : (need : ℕ) → SolveStopped (Err (PlaceShort need))
  width : (place : ℕ) → SolveStopped (Err (Width place))

-- Those that stop an answer on a begun map: reading, tray short.
pub data AnswerStopped : Reply → Type 0 where
  reading : (place : ℕ) → AnswerStopped (Err (Reading place))
  short : (need : ℕ) → AnswerStopped (Err (PlaceShort need))

-- The reply is a command's.
pub data IsAnswer : Reply → Type 0 where
  answer : (a : Answered) → IsAnswer (Ok (done.Answer a))

-- The reply is that a limit shows that there is no command.
pub data SaysNone : Reply → Type 0 where
  none : (place : ℕ) → SaysNone (Err (NoCommand (ByLimit place)))

-- The plant in force before the call.
abbrev pub InForce : Moment → Standing → Type 0
InForce m s = m.before.state.force ≡ Some s

-- The promises of one call.
pub record Kept (m : Moment) : Type 0 where
  -- Every command from a solve or an answer is the best.
  pub solved_best : (θ : List ℤ) (a : Reached) → m.call ≡ Solve θ → m.reply ≡ Ok (done.Solve a) → (s : Standing) × InForce m s × BestOnTray s.meaning θ m.after.tray
  pub answered_best : (θ : List ℤ) (a : Answered) → m.call ≡ Answer θ → m.reply ≡ Ok (done.Answer a) → (s : Standing) × InForce m s × BestOnTray s.meaning θ m.after.tray
  -- A start that nothing else stops says that there is no best exactly when a free direction is better than standing still.
  pub no_best_right : (k : ℕ) (p : Meaning) → m.call ≡ Start k p → m.reply ≡ Err NoBest → BetterDirection p
  pub no_best_told : (k : ℕ) (p : Meaning) → m.call ≡ Start k p → ¬ StartStopped m.reply → BetterDirection p → m.reply ≡ Err NoBest
  -- A solve that nothing else stops says that there is no command exactly when no command keeps every limit.
  pub no_command_right : (θ : List ℤ) (s : Standing) → m.call ≡ Solve θ → InForce m s → SaysNone m.reply → HasNoCommand s.meaning θ
  pub no_command_told : (θ : List ℤ) (s : Standing) → m.call ≡ Solve θ → InForce m s → ¬ SolveStopped m.reply → HasNoCommand s.meaning θ → SaysNone m.reply
  -- No solve, refused or not, stands at one corner twice: of two corners of its run, one behind the other, the bases differ.
  pub never_twice : (θ : List ℤ) (s : Standing) → m.call ≡ Solve θ → InForce m s → (X Y Z : CornerOf s.meaning) (es fs : List Exchange) → mask_of s.meaning X ≡ mask_at m.before 0 → SolveRun s.meaning θ X es Y → SolveRun s.meaning θ Y fs Z → 0 < length fs → ¬ HasSameLimits s.meaning Y Z
  -- On a finished map no solve is refused for width.
  pub finished_in_width : (θ : List ℤ) (s : Standing) → m.call ≡ Solve θ → InForce m s → FinishedMap m.before s.meaning → (place : ℕ) → ¬ (m.reply ≡ Err (Width place))
  -- And an answer that is not refused for its reading or its tray gives a command exactly when one keeps every limit.
  pub finished_answers : (θ : List ℤ) (s : Standing) → m.call ≡ Answer θ → InForce m s → FinishedMap m.before s.meaning → ¬ AnswerStopped m.reply → SomeCommand s.meaning θ → IsAnswer m.reply
  pub finished_right : (θ : List ℤ) (s : Standing) → m.call ≡ Answer θ → InForce m s → FinishedMap m.before s.meaning → IsAnswer m.reply → SomeCommand s.meaning θ

-- All promises, of all calls.
abbrev pub AllKept : List Moment → Type 0
AllKept ms = All Kept ms
