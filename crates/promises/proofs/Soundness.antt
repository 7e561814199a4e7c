-- What every past leaves: each listed corner is in width, and each examined pair leads to no corner outside the list.
use Rattle.std.proofs.Common.{◌≡◌, ℕ, ◌+◌, ◌*◌, ◌<◌, ◌≤◌, ◌⊎◌, List, [], ◌∷◌, length, get_or, Some, sym, ap, ◌∙◌, subst, inl, inr, arith}
use native.Mathlib.Decide.{dec_le}
use Rattle.std.specs.List.{All}
use Rattle.std.proofs.lemmas.Bool.{cases_lt}
use Rattle.std.proofs.lemmas.List.Elements.{All-nil, All-cons}
use Rattle.std.proofs.lemmas.Nat.{row_fits, same_from_place}
use Rattle.plant.specs.Meaning.{Meaning}
use Rattle.tableau.specs.Closed.{LeadsTo}
use Rattle.tableau.specs.Masks.{mask_of}
use Rattle.tableau.specs.Plants.{limits, CornerOf}
use Rattle.tableau.specs.Runs.{HasSameLimits, InBasis, HasNoRow}
use Rattle.tableau.proofs.Masks.{mask_basis}
use Rattle.corner_runs.specs.SolveRuns.{InWidthOf}
use Rattle.map_steps.specs.Pairs.{outside_below, pairs_each, Due}
use Rattle.map_steps.specs.States.{Standing, State}
use Rattle.promises.proofs.SameLimits.{same_back, in_basis_same, no_row_same, leads_same}
use Rattle.promises.proofs.PairNumbers.{outside_few, outside_one, outside_same}

abbrev pub InList : List ℕ → ℕ → Type 0
InList masks m = (k : ℕ) × (k < length masks) × (get_or masks k 0 ≡ m)

-- Limit j finds no row to leave at X, or leads to a listed corner.
abbrev pub WithinList : (p : Meaning) → List ℕ → CornerOf p → ℕ → Type 0
WithinList p masks X j = HasNoRow p X j ⊎ ((Y : CornerOf p) × LeadsTo p X j Y × InList masks (mask_of p Y))

-- A corner in width with this mask.
abbrev pub CornerInWidth : Meaning → ℕ → Type 0
CornerInWidth p m = (X : CornerOf p) × (mask_of p X ≡ m) × InWidthOf p X

pub record SoundList (p : Meaning) (masks : List ℕ) (pairs : ℕ) : Type 0 where
  pub some : 0 < length masks
  pub corners : All (CornerInWidth p) masks
  pub examined : (k : ℕ) → k < length masks → (X : CornerOf p) → mask_of p X ≡ get_or masks k 0 → (j : ℕ) → j < limits p → ¬ InBasis p X j
      → k * pairs_each p + outside_below p X j < pairs → WithinList p masks X j

abbrev pub Sound : State → Type 0
Sound x = (s : Standing) → x.force ≡ Some s → SoundList s.meaning x.masks x.pairs

module _ (p : Meaning) where
  within_same : (masks : List ℕ) (X Y : CornerOf p) → HasSameLimits p X Y → (j : ℕ) → WithinList p masks X j → WithinList p masks Y j
  within_same masks X Y same j (inl none) = inl (no_row_same p X Y same j none)
  within_same masks X Y same j (inr (Z, t, i)) = inr (Z, leads_same p X Y same j Z t, i)

  -- The first corner, with no pair examined.
  pub first_sound : (X : CornerOf p) (m : ℕ) → m ≡ mask_of p X → InWidthOf p X → SoundList p (m ∷ []) 0
  first_sound X m e in_width = record {
    some = omega arith;
    corners = All-cons (CornerInWidth p) m [] (X, sym e, in_width) (All-nil (CornerInWidth p));
    examined = λ k l Y f j h out below. absurd (omega arith);
  }

  -- One pair more, with a list that begins with the old one.
  module _ (masks more : List ℕ) (pairs : ℕ) (S : SoundList p masks pairs) (longer : length masks ≤ length more) (begins : (k : ℕ) → k < length masks → get_or more k 0 ≡ get_or masks k 0)
      (k₀ : ℕ) (X₀ : CornerOf p) (j₀ : ℕ) (due : Due p masks pairs k₀ X₀ j₀) (here : WithinList p more X₀ j₀) where
    still_within : (X : CornerOf p) (j : ℕ) → WithinList p masks X j → WithinList p more X j
    still_within X j (inl none) = inl none
    still_within X j (inr (Y, t, (k, l, e))) = inr (Y, t, (k, omega arith, begins k l ∙ e))

    examined_more : (k : ℕ) → k < length more → (X : CornerOf p) → mask_of p X ≡ get_or more k 0 → (j : ℕ) → j < limits p → ¬ InBasis p X j
        → k * pairs_each p + outside_below p X j < pairs + 1 → WithinList p more X j
    examined_more k l X e j lj out below = elim (dec_le pairs (k * pairs_each p + outside_below p X j)) [
      | no d ↦ still_within X j (S.examined k old X mask j lj out (omega arith))
      | yes d ↦ at_due (same_from_place k (outside_below p X j) k₀ (outside_below p X₀ j₀) (pairs_each p) (outside_few p X j lj out) few₀ (omega (arith, due.place)))
    ]
      where
        few₀ : outside_below p X₀ j₀ < pairs_each p
        few₀ = outside_few p X₀ j₀ due.known due.outside

        old : k < length masks
        old = elim (cases_lt k (length masks)) [
          | inl h ↦ h
          | inr far ↦ absurd (omega (arith, few₀, due.place, row_fits k₀ (pairs_each p) k (pairs_each p) (omega (arith, due.listed)) (omega arith)))
        ]

        mask : mask_of p X ≡ get_or masks k 0
        mask = e ∙ begins k old

        at_due : (k ≡ k₀) × (outside_below p X j ≡ outside_below p X₀ j₀) → WithinList p more X j
        at_due (ek, ej) =
            let same : HasSameLimits p X₀ X = mask_basis p X₀ X (due.corner ∙ ap (λ k. get_or masks k 0) (sym ek) ∙ sym mask) in
            let ej₀ : j₀ ≡ j = outside_one p X j₀ j (λ b. due.outside (in_basis_same p X X₀ (same_back p X₀ X same) j₀ b)) out (sym (outside_same p X₀ X same j₀) ∙ sym ej) in
            subst (WithinList p more X) ej₀ (within_same more X₀ X same j₀ here)

    pub more_sound : All (CornerInWidth p) more → SoundList p more (pairs + 1)
    more_sound corners = record { some = omega (arith, S.some); corners = corners; examined = examined_more }
