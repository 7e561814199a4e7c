-- Words earn one refusal, or none and then they are laid out as a plant's.
use Rattle.std.proofs.Common.{◌≡◌, ℕ, false, List, is_some, Some, Option, sym, ap, ◌∙◌, ⊎_elim, arith}
use Rattle.std.proofs.lemmas.Bool.{cases_order}
use Rattle.words.specs.Faults.{fault, RightBefore, LaidOut, Faulty, wrong_word, too_short, too_long}
use Rattle.words.specs.declared.refusal.Refusal.{Refusal}
use Rattle.words.specs.declared.refusal.Refusal.TheVariants.{Short, Close}

-- A word with a fault is not among those that are right.
faulty_here : {X : Type 0} (o : Option X) (e : X) → o ≡ Some e → is_some o ≡ false → ⊥
faulty_here o e p q = let z : ◌≡◌ {A = ℕ} 0 1 = cc in omega arith

module _ (ws : List ℕ) where
  first_wrong : (k l : ℕ) (e f : Refusal) → RightBefore ws k → fault ws k ≡ Some e → RightBefore ws l → fault ws l ≡ Some f → e ≡ f
  first_wrong k l e f r p s q = ⊎_elim
      (λ same. let here : fault ws k ≡ Some f = rw same q in cc)
      (⊎_elim (λ h. absurd (faulty_here (fault ws k) e p (s k h))) (λ h. absurd (faulty_here (fault ws l) f q (r l h))))
      (cases_order k l)

  pub one_refusal : (e f : Refusal) → Faulty ws e → Faulty ws f → e ≡ f
  one_refusal e f (wrong_word k a b r p) (wrong_word l c d s q) = first_wrong k l e f r p s q
  one_refusal e (Short l) (wrong_word k a b r p) (too_short c d s) = absurd (faulty_here (fault ws k) e p (s k a))
  one_refusal e (Close l) (wrong_word k a b r p) (too_long c d s) = absurd (faulty_here (fault ws k) e p (s k (omega arith)))
  one_refusal (Short k) f (too_short a b r) (wrong_word l c d s q) = absurd (faulty_here (fault ws l) f q (r l c))
  one_refusal (Short k) (Short l) (too_short a b r) (too_short c d s) = ap Short (a ∙ sym c)
  one_refusal (Short k) (Close l) (too_short a b r) (too_long c d s) = absurd (omega arith)
  one_refusal (Close k) f (too_long a b r) (wrong_word l c d s q) = absurd (faulty_here (fault ws l) f q (r l (omega arith)))
  one_refusal (Close k) (Short l) (too_long a b r) (too_short c d s) = absurd (omega arith)
  one_refusal (Close k) (Close l) (too_long a b r) (too_long c d s) = ap Close (a ∙ sym c)

  pub not_laid_out : (e : Refusal) → Faulty ws e → LaidOut ws → ⊥
  not_laid_out e (wrong_word k a b r p) l = faulty_here (fault ws k) e p (l.right k a)
  not_laid_out (Short k) (too_short a b r) l = omega (arith, l.long)
  not_laid_out (Close k) (too_long a b r) l = omega (arith, l.long)
