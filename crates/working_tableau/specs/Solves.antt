-- What a solve comes to, from the corner that the words hold.
use Rattle.std.specs.Prelude.{◌≡◌, ℕ, ◌+◌, ◌<◌, List, length, take, ℤ, Ok, Err, Result}
use Rattle.plant.specs.Meaning.{Meaning, shape_of}
use Rattle.tableau.specs.Masks.{mask_of}
use Rattle.tableau.specs.Plants.{CornerOf}
use Rattle.words.specs.declared.counts.Shape.{Shape}
use Rattle.words.specs.declared.refusal.Refusal.{Refusal}
use Rattle.words.specs.declared.refusal.Refusal.TheVariants.{Width, NoCommand}
use Rattle.words.specs.declared.refusal.Shown.TheVariants.{ByLimit}
use Rattle.corner_runs.specs.Answers.{HoldsCorner, SomeCorner}
use Rattle.corner_runs.specs.declared.run.Unsettled.{Unsettled}
use Rattle.corner_runs.specs.declared.run.Unsettled.TheVariants.{NoRow, OutOfWidth}
use Rattle.corner_runs.specs.declared.run.Ran.{Ran}
use Rattle.tableau.specs.Runs.{InBasis}
use Rattle.corner_runs.specs.SolveRuns.{SolveRun, Settled, WithoutRow, BeyondWidth}
use Rattle.corner_runs.specs.declared.exchanges.Exchange.{Exchange}
use Rattle.trays.specs.Weights.{WeightsList}
use Rattle.map_steps.specs.Steps.{Commands, laid}
use Rattle.map_steps.specs.declared.reply.Reached.{Reached}

-- Unless the run ended out of width, the words hold a corner; the limit is one of the plant's.
abbrev pub KeptCorner : Shape → List ℤ → Result Unit Unsettled → Type 0
KeptCorner c ws (Ok e) = SomeCorner c ws
KeptCorner c ws (Err (NoRow j)) = SomeCorner c ws × (j < c.limits)
KeptCorner c ws (Err (OutOfWidth j)) = j < c.limits

-- Unless the run ended out of width, the words hold the corner Y.
abbrev pub HoldsUnless : (p : Meaning) → CornerOf p → List ℤ → Result Unit Unsettled → Type 0
HoldsUnless p Y ws (Ok e) = HoldsCorner p Y ws
HoldsUnless p Y ws (Err (NoRow j)) = HoldsCorner p Y ws
HoldsUnless p Y ws (Err (OutOfWidth j)) = Unit {0}

-- What the end of a run at the corner Y is told as, and what is laid on the tray.
abbrev pub Concluded : (p : Meaning) → List ℤ → CornerOf p → List ℤ → List ℤ → ℕ → Result Reached Refusal → Result Unit Unsettled → Type 0
Concluded p θ Y tray tray' made x (Ok e) = (a : Reached) × (x ≡ Ok a) × (a.mask ≡ mask_of p Y) × (a.exchanges ≡ made) × ((xs : List ℤ) × Commands p Y θ xs × (tray' ≡ laid xs tray))
Concluded p θ Y tray tray' made x (Err (NoRow j)) = (x ≡ Err (NoCommand (ByLimit (j + 1)))) × (¬ InBasis p Y j → (xs : List ℤ) × WeightsList p Y j xs × (tray' ≡ laid xs tray))
Concluded p θ Y tray tray' made x (Err (OutOfWidth j)) = (x ≡ Err (Width (j + 1))) × (tray' ≡ tray)

abbrev pub Conclusion : Shape → List ℤ → List ℤ → List ℤ → List ℤ → Ran → Result Reached Refusal → Type 0
Conclusion c θ ws tray tray' r x = (p : Meaning) (Y : CornerOf p) → c ≡ shape_of p → HoldsUnless p Y ws r.end → Concluded p θ Y tray tray' r.exchanges x r.end

-- The run from X to Y ends with a command, out of width, or with no command; tray and trail after it.
pub data Outcome (p : Meaning) (θ : List ℤ) (X : CornerOf p) (tray tray' : List ℤ) (room : ℕ) (trail : List Exchange) : Result Reached Refusal → Type 0 where
  settled : {a : Reached} (es : List Exchange) (Y : CornerOf p) (xs : List ℤ) → SolveRun p θ X es Y → Settled p θ Y → a.mask ≡ mask_of p Y → a.exchanges ≡ length es → Commands p Y θ xs → trail ≡ take room es → tray' ≡ laid xs tray → Outcome p θ X tray tray' room trail (Ok a)
  wide : {place : ℕ} (es : List Exchange) (j : ℕ) (Y : CornerOf p) → SolveRun p θ X es Y → BeyondWidth p θ Y j → place ≡ j + 1 → trail ≡ take room es → tray' ≡ tray → Outcome p θ X tray tray' room trail (Err (Width place))
  none : {place : ℕ} (es : List Exchange) (j : ℕ) (Y : CornerOf p) (xs : List ℤ) → SolveRun p θ X es Y → WithoutRow p θ Y j → WeightsList p Y j xs → place ≡ j + 1 → trail ≡ take room es → tray' ≡ laid xs tray → Outcome p θ X tray tray' room trail (Err (NoCommand (ByLimit place)))

-- It is so for any corner that the words hold.
abbrev pub SolveAnswer : Shape → List ℤ → List ℤ → List ℤ → List ℤ → ℕ → List Exchange → Result Reached Refusal → Type 0
SolveAnswer c θ ws tray tray' room trail r = (p : Meaning) (X : CornerOf p) → c ≡ shape_of p → HoldsCorner p X ws → Outcome p θ X tray tray' room trail r
