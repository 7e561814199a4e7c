-- Corners of the same limits: an exchange does at the one what it does at the other.
use Rattle.std.proofs.Common.{◌≡◌, ℕ, suc, true, false, pos, ◌≤ℤ◌, sym, ap, ◌∙◌, subst, inl, inr}
use Rattle.std.proofs.lemmas.Bool.{both_ways, cases_Bool, false_from_ne_true}
use Rattle.exact.proofs.Sums.{dot_cong}
use Rattle.plant.specs.Meaning.{Meaning}
use Rattle.plant.specs.Commands.{column, value}
use Rattle.tableau.specs.Closed.{LeadsTo}
use Rattle.tableau.specs.Masks.{holds}
use Rattle.tableau.specs.Plants.{commands, CornerOf}
use Rattle.tableau.specs.Runs.{HasSameLimits, InBasis, HasNoRow}
use Rattle.tableau.proofs.Closed.{leaves_same}
use Rattle.tableau.proofs.Count.{holds_in, holds_out}
use Rattle.tableau.proofs.Lowest.{among_back, lowest_u}
use Rattle.tableau.proofs.Readings.{plant_value}
use Rattle.tableau.proofs.Willing.{injective}

module _ (p : Meaning) (X Y : CornerOf p) (same : HasSameLimits p X Y) where
  pub same_back : HasSameLimits p Y X
  same_back = among_back (commands p) (column p) X.β X.D X.U X.inverse Y.β Y.D Y.U Y.inverse same

  pub in_basis_same : (j : ℕ) → InBasis p X j → InBasis p Y j
  in_basis_same j (r, l, e) = let (s, k, f) = same r l in (s, k, f ∙ e)

  pub no_row_same : (j : ℕ) → HasNoRow p X j → HasNoRow p Y j
  no_row_same j none s l =
      let (r, k, e) = same_back s l in
      subst (λ z. z ≤ℤ pos 0) (dot_cong (commands p) (column p j) (X.U r) (Y.U s) (λ c h. sym (lowest_u (commands p) (column p) X.β X.D X.U X.inverse Y.β Y.D Y.U Y.inverse same X.lowest Y.lowest r s k l (sym e) c h))) (none r k)

  -- The same limit leaves, for the same corner across.
  pub leads_same : (j : ℕ) (Z : CornerOf p) → LeadsTo p X j Z → LeadsTo p Y j Z
  leads_same j Z t =
      let (s, k, e) = same t.row t.leaves.inside in
      record {
        row = s;
        leaves = leaves_same (commands p) (column p) X.β X.D X.U X.inverse Y.β Y.D Y.U Y.inverse same (suc (commands p)) (value p) (plant_value p) j t.row s t.leaves.inside k e t.leaves;
        across = record {
          comes = t.across.comes;
          stay = λ i l d.
              let (r, lr, f) = same_back i l in
              let (q, lq, g) = t.across.stay r lr (λ n. d (injective (commands p) (column p) Y.β Y.D Y.U Y.inverse i s l k (sym f ∙ ap X.β n ∙ sym e))) in
              (q, lq, g ∙ f);
        };
      }

  -- What leads to the one leads to the other.
  pub leads_to_same : (Z : CornerOf p) (j : ℕ) → LeadsTo p Z j X → LeadsTo p Z j Y
  leads_to_same Z j t = record {
    row = t.row;
    leaves = t.leaves;
    across = record {
      comes = let (s, l, e) = t.across.comes in let (q, k, f) = same s l in (q, k, f ∙ e);
      stay = λ i l d. let (s, ls, e) = t.across.stay i l d in let (q, k, f) = same s ls in (q, k, f ∙ e);
    };
  }

pub held : (p : Meaning) (X : CornerOf p) (j : ℕ) → InBasis p X j → holds (commands p) X.β j ≡ true
held p X j (r, l, e) = ap (holds (commands p) X.β) (sym e) ∙ holds_in (commands p) X.β r l

pub not_held : (p : Meaning) (X : CornerOf p) (j : ℕ) → ¬ InBasis p X j → holds (commands p) X.β j ≡ false
not_held p X j out = false_from_ne_true (holds (commands p) X.β j) (λ e. out (holds_out (commands p) X.β j e))

pub holds_same : (p : Meaning) (X Y : CornerOf p) → HasSameLimits p X Y → (j : ℕ) → holds (commands p) X.β j ≡ holds (commands p) Y.β j
holds_same p X Y same j = elim (cases_Bool (holds (commands p) X.β j)) [
  | inl e ↦ e ∙ sym (held p Y j (in_basis_same p X Y same j (holds_out (commands p) X.β j e)))
  | inr e ↦ e ∙ sym (not_held p Y j (λ b. both_ways (holds (commands p) X.β j) e (held p X j (in_basis_same p Y X (same_back p X Y same) j b))))
]
