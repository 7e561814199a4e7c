-- Whether a limit is willing, from its slack and the first limit below it.
use Rattle.std.proofs.Common.{◌≡◌, ℕ, ◌<◌, Bool, true, false, List, ℤ, pos, ◌<ℤ◌, Some, None, Option, sym, refl, ◌∙◌, subst, ⊎_elim, arith}
use lib.Signed.{lt_z}
use Rattle.std.proofs.lemmas.Int.{ints}
use Rattle.std.proofs.lemmas.Bool.{cases_eq, cases_lt}
use Rattle.exact.specs.Vectors.{dot}
use Rattle.tableau.specs.Basis.{Inverse}
use Rattle.tableau.specs.Plants.{commands}
use Rattle.tableau.specs.Points.{Willing, negative, tied}
use Rattle.words.specs.declared.counts.Shape.{Shape}
use Rattle.tableau_words.specs.Entering.{BelowAnswer, WillingAnswer}
use Rattle.tableau_words.specs.Slacks.{slack_of, SlackAnswer}

module _ (m : ℕ) (a : ℕ → ℕ → ℤ) (β : ℕ → ℕ) (D : ℤ) (U : ℕ → ℕ → ℤ) (B : Inverse m a β D U) (z : ℤ) (j : ℕ) where
  -- A positive slack.
  pub positive_unwilling : pos 0 <ℤ z → ¬ Willing m a β U z j
  positive_unwilling h (negative n) = omega (arith, ints)
  positive_unwilling h (tied e q l b t f) = omega (arith, ints)

  -- Each limit of a basis has one row.
  one_row : (q s : ℕ) → q < m → s < m → β q ≡ β s → q ≡ s
  one_row q s l k e = ⊎_elim (λ x. x) (λ n.
      let same : dot m (a (β s)) (U q) ≡ D = subst (λ i. dot m (a i) (U q) ≡ D) e (B.left_same q l) in
      let zero : dot m (a (β s)) (U q) ≡ pos 0 = B.left_other q s l k n in
      let d = B.dpos in
      absurd (omega (arith, ints))) (cases_eq q s)

  -- A slack of 0, and the first limit below j whose number is not 0.
  module _ (e : z ≡ pos 0) (q : ℕ) (l : q < m) (b : β q < j) (n : ¬ (dot m (a j) (U q) ≡ pos 0)) (f : (s : ℕ) → s < m → β s < β q → dot m (a j) (U s) ≡ pos 0) where
    pub first_unwilling : ¬ (pos 0 <ℤ dot m (a j) (U q)) → ¬ Willing m a β U z j
    first_unwilling h (negative x) = omega (arith, ints)
    first_unwilling h (tied x s k c t g) = ⊎_elim
        (λ y. n (g q l y))
        (λ y. ⊎_elim
        (λ w. let v = f s k w in omega (arith, ints))
        (λ w. let u : q ≡ s = one_row q s l k (omega arith) in h (subst (λ i. pos 0 <ℤ dot m (a j) (U i)) (sym u) t))
        (cases_lt (β s) (β q)))
        (cases_lt (β q) (β s))

  -- A slack of 0, and no limit below j with another number.
  pub none_unwilling : z ≡ pos 0 → ((s : ℕ) → s < m → β s < j → dot m (a j) (U s) ≡ pos 0) → ¬ Willing m a β U z j
  none_unwilling e f (negative x) = omega (arith, ints)
  none_unwilling e f (tied x s k c t g) = let v = f s k c in omega (arith, ints)

-- The answers, for words of a shape.
module _ (c : Shape) (θ : List ℤ) (j : ℕ) (ws : List ℤ) (z : ℤ) (S : SlackAnswer c θ j ws z) where
  pub negative_answered : z <ℤ pos 0 → WillingAnswer c θ j ws true
  negative_answered h = λ p a β D U e T H. negative (subst (λ x. x <ℤ pos 0) (S p a β D U e H) h)

  pub positive_answered : pos 0 <ℤ z → WillingAnswer c θ j ws false
  positive_answered h = λ p a β D U e T H. positive_unwilling (commands p) a β D U T.inverse (slack_of p a β D U θ j) j (subst (λ x. pos 0 <ℤ x) (S p a β D U e H) h)

  pub none_below_answered : z ≡ pos 0 → BelowAnswer c j ws None → WillingAnswer c θ j ws false
  none_below_answered h N = λ p a β D U e T H. none_unwilling (commands p) a β D U T.inverse (slack_of p a β D U θ j) j (sym (S p a β D U e H) ∙ h) (N p a β D U e H)

  module _ (h : z ≡ pos 0) (t : ℤ) (F : BelowAnswer c j ws (Some t)) where
    by_sign : (b : Bool) → lt_z (pos 0) t ≡ b → WillingAnswer c θ j ws b
    by_sign true q = λ p a β D U e T H.
        let f = F p a β D U e H in
        let up : pos 0 <ℤ t = omega (arith, ints) in
        tied (sym (S p a β D U e H) ∙ h) f.0 f.1.inside f.1.below (subst (λ x. pos 0 <ℤ x) f.2 up) f.1.first
    by_sign false q = λ p a β D U e T H.
        let f = F p a β D U e H in
        first_unwilling (commands p) a β D U T.inverse (slack_of p a β D U θ j) j (sym (S p a β D U e H) ∙ h) f.0 f.1.inside f.1.below f.1.nonzero f.1.first
        (λ x. let up : pos 0 <ℤ t = subst (λ x. pos 0 <ℤ x) (sym f.2) x in absurd (omega (arith, ints)))

    pub first_below_answered : WillingAnswer c θ j ws (lt_z (pos 0) t)
    first_below_answered = by_sign (lt_z (pos 0) t) refl

  -- A slack of 0: the sign of the first number decides.
  pub tied_answered : z ≡ pos 0 → (o : Option ℤ) (b : Bool) → BelowAnswer c j ws o → (o ≡ None → b ≡ false) → ((t : ℤ) → o ≡ Some t → b ≡ lt_z (pos 0) t) → WillingAnswer c θ j ws b
  tied_answered h (Some t) b F n s = rw (s t refl) (first_below_answered h t F)
  tied_answered h None b F n s = rw (n refl) (none_below_answered h F)
