-- Readings that were looked through.
use Rattle.std.proofs.Common.{◌≡◌, ℕ, ◌+◌, ◌<◌, List, length, ℤ, pos, Ok, Err, sym, refl, ◌∙◌, subst, ⊎_elim, arith}
use Rattle.std.proofs.lemmas.List.{get_or_past}
use Rattle.std.proofs.lemmas.Bool.{cases_lt}
use Rattle.exact.specs.Bounds.{AllInWidth, InWidth}
use Rattle.exact.specs.Vectors.{entries}
use Rattle.plant.specs.Meaning.{Meaning}
use Rattle.words.specs.declared.refusal.Refusal.TheVariants.{Reading}
use Rattle.map_steps.specs.ReadingFaults.{InRange, ReadingsFit, number, range}
use Rattle.clutch_map.specs.Faults.{FaultAnswer}

pub other_number : (A : Type 0) (d : ℕ) (θ : List ℤ) → ¬ (length θ ≡ d) → FaultAnswer {A = A} d θ (Err (Reading 0))
other_number A d θ n = (0, refl, λ p e. number (λ q. n (q ∙ sym e)))

pub out_of_range : (A : Type 0) (d : ℕ) (θ : List ℤ) (k : ℕ) → length θ ≡ d → k < length θ → ¬ InRange (entries θ k) → ((i : ℕ) → i < k → InRange (entries θ i)) → FaultAnswer {A = A} d θ (Err (Reading (k + 1)))
out_of_range A d θ k e l n before = (k + 1, refl, λ p q. range k (e ∙ q) l n before refl)

pub no_fault : {A : Type 0} (r : A) (d : ℕ) (θ : List ℤ) → length θ ≡ d → ((i : ℕ) → i < length θ → InRange (entries θ i)) → FaultAnswer d θ (Ok r)
no_fault r d θ e each = λ p q. record { many = e ∙ q; each = each }

-- Readings that fit are in width.
pub fit_in_width : (p : Meaning) (θ : List ℤ) → ReadingsFit p θ → AllInWidth θ
fit_in_width p θ F i = ⊎_elim (λ l. omega (arith, F.each i l)) (λ l. subst InWidth (sym (get_or_past θ i (pos 0) (omega arith))) (omega arith)) (cases_lt i (length θ))
