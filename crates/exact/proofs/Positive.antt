-- The laws of positive lists and of the lexicographic order.
use Rattle.std.proofs.Common.{◌≡◌, ℕ, zero, suc, ◌<◌, ◌⊎◌, ℤ, pos, ◌+ℤ◌, ◌*ℤ◌, neg_ℤ, ◌≤ℤ◌, ◌<ℤ◌, sym, ◌∙◌, inl, inr, arith}
use native.Mathlib.Decide.{ℕ_discrete, dec_lt}
use lib.IntN.{zero-*ℤ, *ℤ-zero}
use Rattle.exact.specs.Vectors.{sum}
use Rattle.exact.specs.Lists.{Positive, Before}
use Rattle.exact.proofs.Ring.{lin, expand, mul_pos, below, same, above, order, pos_of_mul, zero_of_mul}
use Rattle.exact.proofs.Sums.{sum_zero}

pub pos_cong : (w : ℕ) (f g : ℕ → ℤ) → ((i : ℕ) → i < w → f i ≡ g i) → Positive w f → Positive w g
pos_cong w f g e p = record { place = p.place; inside = p.inside; zeros = λ i l. sym (e i (omega arith)) ∙ p.zeros i l; lead = rw (e p.place p.inside) at p.lead }

-- The three ways in which two places can stand.
data Cmp (a b : ℕ) : Type 0 where
  lt : a < b → Cmp a b
  eq : a ≡ b → Cmp a b
  gt : b < a → Cmp a b

cmp : (a b : ℕ) → Cmp a b
cmp a b = elim (ℕ_discrete a b) [ yes e ↦ eq e | no d ↦ elim (dec_lt a b) [ yes l ↦ lt l | no g ↦ gt (omega arith) ] ]

-- A list and its negative are not both positive.
pub pos_not_neg : (w : ℕ) (f : ℕ → ℤ) → Positive w f → Positive w (λ i. neg_ℤ (f i)) → ⊥
pos_not_neg w f p q = elim (cmp p.place q.place) [
  | lt l ↦ omega (arith, lin, q.zeros p.place l, p.lead)
  | eq e ↦ let h : pos 0 <ℤ neg_ℤ (f p.place) = rw e q.lead in omega (arith, lin, p.lead)
  | gt l ↦ omega (arith, lin, p.zeros q.place l, q.lead)
]

pub pos_not_zero : (w : ℕ) (f : ℕ → ℤ) → Positive w f → ((i : ℕ) → i < w → f i ≡ pos 0) → ⊥
pos_not_zero w f p z = omega (arith, lin, p.lead, z p.place p.inside)

pub pos-+ : (w : ℕ) (f g : ℕ → ℤ) → Positive w f → Positive w g → Positive w (λ i. f i +ℤ g i)
pos-+ w f g p q = elim (cmp p.place q.place) [
  | lt l ↦ record { place = p.place; inside = p.inside; zeros = λ i k. omega (arith, lin, p.zeros i k, q.zeros i (omega arith)); lead = omega (arith, lin, p.lead, q.zeros p.place l) }
  | eq e ↦ record { place = p.place; inside = p.inside; zeros = λ i k. omega (arith, lin, p.zeros i k, q.zeros i (omega arith)); lead = let h : pos 0 <ℤ g p.place = rw e q.lead in omega (arith, lin, p.lead) }
  | gt l ↦ record { place = q.place; inside = q.inside; zeros = λ i k. omega (arith, lin, q.zeros i k, p.zeros i (omega arith)); lead = omega (arith, lin, q.lead, p.zeros q.place l) }
]

pub pos_scale : (w : ℕ) (k : ℤ) (f : ℕ → ℤ) → pos 0 <ℤ k → Positive w f → Positive w (λ i. k *ℤ f i)
pos_scale w k f h p = record { place = p.place; inside = p.inside; zeros = λ i l. rw (p.zeros i l) (*ℤ-zero k); lead = mul_pos k (f p.place) h p.lead }

pub pos_unscale : (w : ℕ) (k : ℤ) (f : ℕ → ℤ) → pos 0 <ℤ k → Positive w (λ i. k *ℤ f i) → Positive w f
pos_unscale w k f h p = record { place = p.place; inside = p.inside; zeros = λ i l. zero_of_mul (f i) k h (p.zeros i l); lead = pos_of_mul (f p.place) k h p.lead }

-- A list is positive, all zeros, or its negative is positive.
pub data Sign (w : ℕ) (f : ℕ → ℤ) : Type 0 where
  plus : Positive w f → Sign w f
  nil : ((i : ℕ) → i < w → f i ≡ pos 0) → Sign w f
  minus : Positive w (λ i. neg_ℤ (f i)) → Sign w f

pub wider : (w : ℕ) (f : ℕ → ℤ) → Positive w f → Positive (suc w) f
wider w f p = record { place = p.place; inside = omega arith; zeros = p.zeros; lead = p.lead }

pub sign : (w : ℕ) (f : ℕ → ℤ) → Sign w f
sign zero f = nil (λ i l. absurd (omega arith))
sign (suc w) f = elim (sign w f) [
  | plus p ↦ plus (wider w f p)
  | minus p ↦ minus (wider w (λ i. neg_ℤ (f i)) p)
  | nil z ↦ elim (order (f w) (pos 0)) [
    | below l ↦ minus (record { place = w; inside = omega arith; zeros = λ i l. omega (arith, lin, z i l); lead = omega (arith, lin) })
    | same e ↦ nil (λ i l. elim (ℕ_discrete i w) [ yes d ↦ rw d e | no d ↦ z i (omega arith) ])
    | above g ↦ plus (record { place = w; inside = omega arith; zeros = z; lead = g })
  ]
]

pub before_trans : (w : ℕ) (f g h : ℕ → ℤ) (s t u : ℤ) → pos 0 <ℤ s → pos 0 <ℤ t → pos 0 <ℤ u → Before w f s g t → Before w g t h u → Before w f s h u
before_trans w f g h s t u ps pt pu p q =
    pos_unscale w t _ pt (pos_cong w _ _ (λ i l. simp expand (omega (arith, lin))) (pos-+ w _ _ (pos_scale w u _ pu p) (pos_scale w s _ ps q)))

-- A combination of positive lists with no negative factor: all factors are 0, or it is positive.
pub pos_comb : (w n : ℕ) (k : ℕ → ℤ) (U : ℕ → ℕ → ℤ) → ((r : ℕ) → r < n → pos 0 ≤ℤ k r) → ((r : ℕ) → r < n → Positive w (U r))
    → ((r : ℕ) → r < n → k r ≡ pos 0) ⊎ Positive w (λ c. sum n (λ r. k r *ℤ U r c))
unfolding sum
pos_comb w zero k U h p = inl (λ r l. absurd (omega arith))
pos_comb w (suc n) k U h p = elim (pos_comb w n k U (λ r l. h r (omega arith)) (λ r l. p r (omega arith))) [
  | inl z ↦ elim (order (pos 0) (k n)) [
    | below g ↦ inr (pos_cong w _ _ (λ c l. omega (arith, lin, sum_zero n (λ r. k r *ℤ U r c) (λ r l. rw (z r l) (zero-*ℤ (U r c))))) (pos_scale w (k n) (U n) g (p n (omega arith))))
    | same e ↦ inl (λ r l. elim (ℕ_discrete r n) [ yes d ↦ rw d (sym e) | no d ↦ z r (omega arith) ])
    | above g ↦ absurd (omega (arith, lin, h n (omega arith)))
  ]
  | inr q ↦ elim (order (pos 0) (k n)) [
    | below g ↦ inr (pos-+ w _ _ q (pos_scale w (k n) (U n) g (p n (omega arith))))
    | same e ↦ inr (pos_cong w _ _ (λ c l. let d : k n *ℤ U n c ≡ pos 0 = rw (← e) (zero-*ℤ (U n c)) in omega (arith, lin)) q)
    | above g ↦ absurd (omega (arith, lin, h n (omega arith)))
  ]
]

-- What does not come before a list does not come before a lesser one: the step of a search for the least.
pub smaller : (w : ℕ) (f g h : ℕ → ℤ) (s t u : ℤ) → pos 0 <ℤ s → pos 0 <ℤ t → pos 0 <ℤ u → (Before w f s g t → ⊥) → Before w h u g t → Before w f s h u → ⊥
smaller w f g h s t u ps pt pu n p q = n (before_trans w f h g s u t ps pu pt q p)

-- Whether a list is positive can be decided.
pub decide : (w : ℕ) (f : ℕ → ℤ) → Dec (Positive w f)
decide w f = elim (sign w f) [ plus p ↦ yes p | nil z ↦ no (λ p. pos_not_zero w f p z) | minus p ↦ no (λ q. pos_not_neg w f q p) ]
