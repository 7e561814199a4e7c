use Rattle.std.proofs.Common.{◌≡◌, ℕ, List, Some, sym, ap, ◌∙◌, subst}
use Rattle.std.proofs.lemmas.Result.{err_from_is_err_and}
use Rattle.words.specs.Faults.{Faulty, LaidOut, shape_of}
use Rattle.words.specs.Parts.{ReadWhole}
use Rattle.words.specs.declared.counts.Shape.{Shape}
use Rattle.words.specs.declared.refusal.Refusal.{Refusal}
use Rattle.words.proofs.Verdicts.{not_laid_out}
use Rattle.plant.specs.Meaning.{Meaning}
use Rattle.plant.specs.Described.{Describes}
use Rattle.plant.specs.Written.{said}
use Rattle.plant.proofs.Saying.{describes}
use Rattle.plant.proofs.Describing.{described_is_laid_out}
use Rattle.plant.proofs.load.load.Goals as goal

-- The reader's words are the caller's.
refused : (ws vs : List ℕ) (e : Refusal) → vs ≡ ws → Faulty vs e → Faulty ws e × ((p : Meaning) → Describes ws p → ⊥)
refused ws vs e s f =
    let g = subst (λ x. Faulty x e) s f in
    (g, λ p D. not_laid_out ws e g (described_is_laid_out ws p D))

accepted : (ws vs : List ℕ) (c : Shape) → vs ≡ ws → LaidOut vs → c ≡ shape_of vs → Describes ws (said ws c)
accepted ws vs c s l e = subst (λ x. Describes ws (said ws x)) (sym (e ∙ ap shape_of s)) (describes ws (subst LaidOut s l))

pub returns-in_err-next : goal.returns-in_err-next
returns-in_err-next c =
    let p = err_from_is_err_and c.from_residual.result c.from_residual.ensures.1 in
    rw (p.1, p.2) (refused c.args.words.now c.loop.reader.words.now c.in_err-next.field-0.0 c.loop.invariant c.in_err-next.ensures.handed.0)

pub returns : goal.returns
returns c =
    let ws = c.next.new.self.words.now in
    let whole : ReadWhole ws c.next.new.self.at (Some c.unwrap.result) = subst (ReadWhole ws c.next.new.self.at) c.unwrap.ensures c.counts.ensures in
    accepted c.args.words.now ws c.unwrap.result.shape (c.next.ensures.words ∙ c.loop.invariant) whole.0 whole.2
