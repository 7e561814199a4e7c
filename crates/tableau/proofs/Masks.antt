-- Masks tell sets of limits apart.
use Prim.Native.Nat.{ℕ, zero, suc, ◌+◌, ◌^◌, ◌<◌}
use mathlib.Core.Path.{◌≡◌, refl, sym, ap, ◌∙◌}
use mathlib.Core.Bool.{Bool, true, false, cond}
use native.Mathlib.Omega.{arith}
use native.Mathlib.Nat as NatL
use native.Mathlib.Decide.{ℕ_discrete}
use lib.Dec.{eqb}
use borrow.Author.Tests.{eqb-false, eq-eqb, ne_eqb, both_ways}
use Rattle.plant.specs.Commands.{column, value}
use Rattle.tableau.specs.Basis.{Among}
use Rattle.tableau.specs.Masks.{holds, mask, mask_of}
use Rattle.tableau.specs.Plants.{commands, limits, CornerOf}
use Rattle.tableau.specs.TheoremsMask.{MasksAreShort, OneMaskOneBasis, OneBasisOneMask, MaskAcross}
use Rattle.tableau.proofs.Willing.{injective}
use Rattle.tableau.proofs.Lowest.{among_back}
use Rattle.tableau.proofs.Pivots.{Reached, exchange_there}
use Rattle.tableau.proofs.Runs.{after, among_replaced}
use Rattle.tableau.proofs.Readings.{plant_value}
use Rattle.tableau.proofs.Count.{holds_in, holds_out}

pub mask_below : (n : ℕ) (S : ℕ → Bool) → mask n S < 2 ^ n
unfolding mask
mask_below zero S = omega arith
mask_below (suc n) S = by (S n) (mask_below n S)
  where
    by : (t : Bool) → mask n S < 2 ^ n → cond t (2 ^ n + mask n S) (mask n S) < 2 ^ suc n
    by true h = omega (arith, NatL.two-pow-succ n)
    by false h = omega (arith, NatL.two-pow-succ n)

mask_same : (n : ℕ) (S S' : ℕ → Bool) → mask n S ≡ mask n S' → (i : ℕ) → i < n → S i ≡ S' i
unfolding mask
mask_same zero S S' e i l = absurd (omega arith)
mask_same (suc n) S S' e i l = by (S n) (S' n) refl refl e (mask_same n S S')
  where
    next : S n ≡ S' n → (i < n → S i ≡ S' i) → S i ≡ S' i
    next e f = elim (ℕ_discrete i n) [ yes d ↦ rw d e | no d ↦ f (omega arith) ]

    by : (t t' : Bool) → S n ≡ t → S' n ≡ t' → cond t (2 ^ n + mask n S) (mask n S) ≡ cond t' (2 ^ n + mask n S') (mask n S')
        → (mask n S ≡ mask n S' → (i : ℕ) → i < n → S i ≡ S' i) → S i ≡ S' i
    by true true e e' c ih = next (e ∙ sym e') (ih (omega arith) i)
    by false false e e' c ih = next (e ∙ sym e') (ih c i)
    by true false e e' c ih = absurd (omega (arith, mask_below n S'))
    by false true e e' c ih = absurd (omega (arith, mask_below n S))

pub mask_cong : (n : ℕ) (S S' : ℕ → Bool) → ((i : ℕ) → i < n → S i ≡ S' i) → mask n S ≡ mask n S'
unfolding mask
mask_cong zero S S' e = refl
mask_cong (suc n) S S' e = rw (e n (omega arith), mask_cong n S S' (λ i l. e i (omega arith)))

-- One member more.
pub mask_more : (n k : ℕ) (S S' : ℕ → Bool) → k < n → S k ≡ false → S' k ≡ true → ((i : ℕ) → i < n → ¬ (i ≡ k) → S' i ≡ S i) → mask n S' ≡ 2 ^ k + mask n S
unfolding mask
mask_more zero k S S' l f t e = absurd (omega arith)
mask_more (suc n) k S S' l f t e = elim (ℕ_discrete n k) [
  | yes d ↦ rw (d, f, t) (ap (λ z. 2 ^ k + z) (mask_cong k S' S (λ i q. e i (omega arith) (omega arith))))
  | no d ↦ rw (e n (omega arith) d, mask_more n k S S' (omega arith) f t (λ i q. e i (omega arith))) (by (S n))
]
  where
    by : (t : Bool) → cond t (2 ^ n + (2 ^ k + mask n S)) (2 ^ k + mask n S) ≡ 2 ^ k + cond t (2 ^ n + mask n S) (mask n S)
    by true = omega arith
    by false = refl

both_true : (t u : Bool) → (t ≡ true → u ≡ true) → (u ≡ true → t ≡ true) → t ≡ u
both_true true u f g = sym (f refl)
both_true false true f g = g refl
both_true false false f g = refl

-- Bases of one mask have the same limits.
pub mask_among : (m n : ℕ) (β β' : ℕ → ℕ) → ((r : ℕ) → r < m → β r < n) → mask n (holds m β) ≡ mask n (holds m β') → (r : ℕ) → r < m → (s : ℕ) × (s < m) × (β' s ≡ β r)
mask_among m n β β' known e r l = holds_out m β' (β r) (sym (mask_same n (holds m β) (holds m β') e (β r) (known r l)) ∙ holds_in m β r l)

-- The mask across an exchange: j in place of β r.
pub mask_exchange : (m n : ℕ) (β β' : ℕ → ℕ) (r j : ℕ) → r < m → ((s : ℕ) → s < m → β s < n) → j < n → ((s : ℕ) → s < m → ¬ (β s ≡ j)) → ((s q : ℕ) → s < m → q < m → β s ≡ β q → s ≡ q)
    → β' r ≡ j → ((i : ℕ) → i < m → ¬ (i ≡ r) → β' i ≡ β i) → mask n (holds m β') + 2 ^ β r ≡ mask n (holds m β) + 2 ^ j
mask_exchange m n β β' r j l known lj out inj comes stays = omega (arith, mask_more n (β r) S (holds m β) (known r l) gone (holds_in m β r l) rest, mask_more n j S (holds m β') lj new (ap (holds m β') (sym comes) ∙ holds_in m β' r l) rest')
  where
    S : ℕ → Bool
    S i = cond (eqb i (β r)) false (holds m β i)

    gone : S (β r) ≡ false
    gone = rw (eq-eqb (β r) (β r) refl)

    rest : (i : ℕ) → i < n → ¬ (i ≡ β r) → holds m β i ≡ S i
    rest i k d = rw (ne_eqb i (β r) d)

    not_held : (t : Bool) → holds m β j ≡ t → holds m β j ≡ false
    not_held false e = e
    not_held true e = let (s, k, f) = holds_out m β j e in absurd (out s k f)

    new : S j ≡ false
    new = rw (ne_eqb j (β r) (λ e. out r l (sym e))) (not_held (holds m β j) refl)

    split : (i : ℕ) → S i ≡ true → (¬ (i ≡ β r)) × (holds m β i ≡ true)
    split i = by (eqb i (β r)) refl
      where
        by : (t : Bool) → eqb i (β r) ≡ t → cond t false (holds m β i) ≡ true → (¬ (i ≡ β r)) × (holds m β i ≡ true)
        by true e f = absurd (both_ways false refl f)
        by false e f = (eqb-false i (β r) e, f)

    rest' : (i : ℕ) → i < n → ¬ (i ≡ j) → holds m β' i ≡ S i
    rest' i k d = both_true (holds m β' i) (S i)
        (λ e. let (s, ls, f) = holds_out m β' i e in
        let ne : ¬ (s ≡ r) = λ g. d (sym f ∙ ap β' g ∙ comes) in
        let old : β s ≡ i = sym (stays s ls ne) ∙ f in
        rw (ne_eqb i (β r) (λ g. ne (inj s r ls l (old ∙ g)))) (ap (holds m β) (sym old) ∙ holds_in m β s ls))
        (λ e. let (ne, h) = split i e in let (s, ls, f) = holds_out m β i h in
        ap (holds m β') (sym f ∙ sym (stays s ls (λ g. ne (sym f ∙ ap β g)))) ∙ holds_in m β' s ls)

pub short_mask : MasksAreShort
short_mask p X = mask_below (limits p) (holds (commands p) X.β)

pub mask_basis : OneMaskOneBasis
mask_basis p X Y e = mask_among (commands p) (limits p) X.β Y.β X.known e

pub basis_mask : OneBasisOneMask
basis_mask p X Y same = mask_cong (limits p) _ _ (λ i l. both_true _ _ (λ e. carry X.β Y.β same i e) (λ e. carry Y.β X.β (among_back (commands p) (column p) X.β X.D X.U X.inverse Y.β Y.D Y.U Y.inverse same) i e))
  where
    carry : (β β' : ℕ → ℕ) → Among (commands p) β β' → (i : ℕ) → holds (commands p) β i ≡ true → holds (commands p) β' i ≡ true
    carry β β' among i e = let (r, l, f) = holds_out (commands p) β i e in let (s, k, g) = among r l in ap (holds (commands p) β') (sym f ∙ sym g) ∙ holds_in (commands p) β' s k

pub across_mask : MaskAcross
across_mask p X Y r j known out leaves across = by (exchange_there (commands p) (column p) X.β X.D X.U X.inverse r j leaves.inside leaves.above)
  where
    by : Reached (commands p) (column p) X.β X.D X.U r j → mask_of p Y + 2 ^ X.β r ≡ mask_of p X + 2 ^ j
    by e =
        let Z : CornerOf p = after (commands p) (limits p) (column p) (suc (commands p)) (value p) (plant_value p) X r j e.g e.β' e.D' e.U' known leaves e.exchanged e.lowest in
        let same : mask_of p Z ≡ mask_of p Y = basis_mask p Z Y (among_replaced (commands p) (column p) X.β X.D X.U r j e.g e.β' e.D' e.U' Y.β e.exchanged across) in
        ap (λ (k : ℕ). k + 2 ^ X.β r) (sym same)
        ∙ mask_exchange (commands p) (limits p) X.β e.β' r j leaves.inside X.known known (λ s l f. out (s, l, f)) (injective (commands p) (column p) X.β X.D X.U X.inverse) e.exchanged.comes e.exchanged.stays
