-- A sound list all of whose pairs were examined is finished, so that no run leaves it and it answers wherever a command exists.
use Rattle.std.proofs.Common.{◌≡◌, ℕ, suc, ◌<◌, ◌⊎◌, List, length, get_or, ℤ, sym, ◌∙◌, inl, inr, arith}
use native.Mathlib.Decide.{dec_le}
use Rattle.std.proofs.lemmas.Nat.{row_fits}
use Rattle.plant.specs.Commands.{Command, KeepsAll, column}
use Rattle.plant.specs.Meaning.{Meaning}
use Rattle.tableau.specs.Chain.{more}
use Rattle.tableau.specs.Closed.{Finished, LeadsTo}
use Rattle.tableau.specs.Masks.{mask_of}
use Rattle.tableau.specs.Plants.{limits, CornerOf}
use Rattle.tableau.specs.Readings.{Region}
use Rattle.tableau.specs.Runs.{HasNoRow, Run}
use Rattle.tableau.proofs.Exchanges.{leads}
use Rattle.tableau.proofs.Masks.{mask_basis}
use Rattle.tableau.proofs.Solves as solves
use Rattle.corner_words.proofs.Orders.{in_width_same}
use Rattle.corner_runs.specs.SolveRuns.{InWidthOf, SolveRun, BeyondWidth}
use Rattle.corner_runs.specs.declared.exchanges.Exchange.{Exchange}
use Rattle.corner_runs.proofs.Chains.{plain_run}
use Rattle.map_steps.specs.Pairs.{AllExamined, pairs_each}
use Rattle.promises.proofs.SameLimits.{same_back, leads_to_same}
use Rattle.promises.proofs.PairNumbers.{outside_few}
use Rattle.promises.proofs.Soundness.{WithinList, SoundList}

module _ (p : Meaning) (masks : List ℕ) (pairs : ℕ) (S : SoundList p masks pairs) (all : AllExamined p masks pairs) where
  -- The listed corner at a place; behind the list the first.
  listed_or_first : (k : ℕ) → (X : CornerOf p) × (k < length masks → mask_of p X ≡ get_or masks k 0) × InWidthOf p X
  listed_or_first k = elim (dec_le (suc k) (length masks)) [
    | yes l ↦ let (X, e, in_width) = S.corners k 0 l in (X, (λ h. e), in_width)
    | no d ↦ let (X, e, in_width) = S.corners 0 0 S.some in (X, (λ h. absurd (d h)), in_width)
  ]

  abbrev listed : ℕ → CornerOf p
  listed k = (listed_or_first k).0

  finished : Finished p (length masks) listed
  finished k l j lj out = by (S.examined k l (listed k) ((listed_or_first k).1 l) j lj out (omega (arith, outside_few p (listed k) j lj out, row_fits k (pairs_each p) (length masks) (pairs_each p) l (omega arith))))
    where
      by : WithinList p masks (listed k) j → HasNoRow p (listed k) j ⊎ ((i : ℕ) × (i < length masks) × LeadsTo p (listed k) j (listed i))
      by (inl none) = inl none
      by (inr (Y, t, (i, h, e))) = inr (i, h, leads_to_same p Y (listed i) (mask_basis p Y (listed i) (sym e ∙ sym ((listed_or_first i).1 h))) (listed k) j t)

  -- A run from the first corner comes to no corner out of width.
  pub within_width : (θ : List ℤ) (X Y : CornerOf p) (es : List Exchange) (j : ℕ) → mask_of p X ≡ get_or masks 0 0 → SolveRun p θ X es Y → ¬ BeyondWidth p θ Y j
  within_width θ X Y es j first run beyond =
      let (Z, across) = leads p Y j beyond.row beyond.least.known beyond.leaves in
      let longer : Run p θ X (suc (length es)) Z = more (plain_run p θ X run) (record { enters = j; row = beyond.row; known = beyond.least.known; willing = beyond.least.willing; leaves = beyond.leaves; across = across }) in
      let (i, l, same) = solves.stay_listed p θ (length masks) listed finished X Z (suc (length es)) longer (0, S.some, mask_basis p X (listed 0) (first ∙ sym ((listed_or_first 0).1 S.some))) in
      beyond.out Z across (in_width_same p (limits p) (column p) (listed i) Z (same_back p Z (listed i) same) (listed_or_first i).2)

  -- Where a command keeps every limit, the region of a listed corner holds the reading.
  pub some_region : (θ : List ℤ) (c : Command) → KeepsAll p θ c → (k : ℕ) × (k < length masks) × ((X : CornerOf p) × (mask_of p X ≡ get_or masks k 0) × Region p X θ)
  some_region θ c keeps = let (k, l, region) = solves.finished_answers p θ (length masks) listed S.some finished c keeps in (k, l, (listed k, (listed_or_first k).1 l, region))
