-- From the end of a run to what a solve comes to.
use Rattle.std.proofs.Common.{◌≡◌, ℕ, ◌-◌, List, take, ℤ, Ok, Err, Result, sym, refl, ◌∙◌, subst}
use Rattle.plant.specs.Meaning.{Meaning, shape_of}
use Rattle.tableau.specs.Plants.{CornerOf}
use Rattle.tableau.proofs.Exchanges.{willing_outside}
use Rattle.words.specs.declared.counts.Shape.{Shape}
use Rattle.tableau_words.specs.Layout.{size}
use Rattle.words.specs.declared.refusal.Refusal.{Refusal}
use Rattle.corner_runs.specs.Answers.{SomeCorner, EndedAt, RunFrom, RunAnswer}
use Rattle.corner_runs.specs.declared.exchanges.Exchange.{Exchange}
use Rattle.corner_runs.specs.declared.run.Unsettled.{Unsettled}
use Rattle.corner_runs.specs.declared.run.Unsettled.TheVariants.{NoRow, OutOfWidth}
use Rattle.corner_runs.specs.declared.run.Ran.{Ran}
use Rattle.map_steps.specs.declared.reply.Reached.{Reached}
use Rattle.working_tableau.proofs.Corners.{used_words}
use Rattle.working_tableau.specs.Solves.{KeptCorner, HoldsUnless, Concluded, Conclusion, Outcome, settled, wide, none, SolveAnswer}

module _ (c : Shape) (p : Meaning) (s : c ≡ shape_of p) (θ : List ℤ) (Y : CornerOf p) (ws : List ℤ) where
  -- The corner at the end of the run, for what the conclusion asks.
  pub ended_kept : (e : Result Unit Unsettled) → EndedAt p θ Y ws e → KeptCorner c ws e
  ended_kept (Ok u) E = record { p = p; X = Y; shape = s; holds = E.1 }
  ended_kept (Err (NoRow j)) E = (record { p = p; X = Y; shape = s; holds = E.1 }, rw s E.0.least.known)
  ended_kept (Err (OutOfWidth j)) E = rw s E.least.known

  pub ended_holds : (e : Result Unit Unsettled) → EndedAt p θ Y ws e → HoldsUnless p Y ws e
  ended_holds (Ok u) E = E.1
  ended_holds (Err (NoRow j)) E = E.1
  ended_holds (Err (OutOfWidth j)) E = tt

-- The run, its end and what was laid, together.
module _ (p : Meaning) (θ : List ℤ) (X : CornerOf p) (ws tray tray' : List ℤ) (room : ℕ) (trail : List Exchange) where
  pub outcome : (r : Ran) (x : Result Reached Refusal) (F : RunFrom p θ X ws room trail r) (e : Result Unit Unsettled) → EndedAt p θ F.at ws e → Concluded p θ F.at tray tray' r.exchanges x e → Outcome p θ X tray tray' room trail x
  outcome r x F (Ok u) E (a, is, mask, made, (xs, commands, lays)) = subst (Outcome p θ X tray tray' room trail) (sym is) (settled F.exchanges F.at xs F.run E.0 mask (made ∙ F.counted) commands F.noted lays)
  outcome r x F (Err (NoRow j)) E (is, lays) =
      let (xs, weights, put) = lays (willing_outside p θ F.at j E.0.least.willing) in
      subst (Outcome p θ X tray tray' room trail) (sym is) (none F.exchanges j F.at xs F.run E.0 weights refl F.noted put)
  outcome r x F (Err (OutOfWidth j)) E (is, same) = subst (Outcome p θ X tray tray' room trail) (sym is) (wide F.exchanges j F.at F.run E refl F.noted same)

pub solve_answered : (c : Shape) (θ before after tray tray' : List ℤ) (room : ℕ) (trail : List Exchange) (r : Ran) (x : Result Reached Refusal) → RunAnswer c θ before after room trail r → Conclusion c θ after tray tray' r x → SolveAnswer c θ before tray tray' room trail x
solve_answered c θ before after tray tray' room trail r x R C = λ p X s H.
    let F = R p X s H in
    outcome p θ X after tray tray' room trail r x F r.end F.ended (C p F.at s (ended_holds c p s θ F.at after r.end F.ended))

pub run_kept : (c : Shape) (θ before after : List ℤ) (room : ℕ) (trail : List Exchange) (r : Ran) → SomeCorner c before → RunAnswer c θ before after room trail r → KeptCorner c after r.end
run_kept c θ before after room trail r S R = let F = R S.p S.X S.shape S.holds in ended_kept c S.p S.shape θ F.at after r.end F.ended

-- The run on the first words of an array.
pub used_run : (c : Shape) (θ ws after : List ℤ) (room : ℕ) (trail : List Exchange) (r : Ran) (n : ℕ) → n ≡ size c → RunAnswer c θ (take (n - 0) ws) after room trail r → RunAnswer c θ (take (size c) ws) after room trail r
used_run c θ ws after room trail r n e R = subst (λ before. RunAnswer c θ before after room trail r) (used_words c ws n e) R
