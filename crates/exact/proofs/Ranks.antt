-- The answers to a comparison: how a loop finds one, and that each is the only one.
use Rattle.std.proofs.Common.{◌≡◌, ℕ, ◌<◌, ℤ, ◌-ℤ◌, ◌*ℤ◌, ◌<ℤ◌, refl, arith}
use Rattle.std.specs.declared.cmp.Ordering.{Ordering}
use Rattle.std.specs.declared.cmp.Ordering.TheVariants.{Less, Equal, Greater}
use Rattle.std.specs.Ordering.{MatchOrdering}
use Rattle.exact.specs.Ranks.{HasSign, Compared}
use Rattle.exact.proofs.Ring.{lin}
use Rattle.exact.proofs.Positive.{pos_cong, pos_not_neg, pos_not_zero}

-- Two lists that differ first at place i compare as their numbers there do.
pub first_apart : (w i : ℕ) (f : ℕ → ℤ) (s : ℤ) (g : ℕ → ℤ) (t : ℤ) (r : Ordering) → i < w → ((k : ℕ) → k < i → t *ℤ f k ≡ s *ℤ g k) → MatchOrdering r ((t *ℤ f i) <ℤ (s *ℤ g i)) (t *ℤ f i ≡ s *ℤ g i) ((s *ℤ g i) <ℤ (t *ℤ f i)) → (r ≡ Equal → ⊥) → Compared w f s g t r
first_apart w i f s g t Less l z h n = record { place = i; inside = l; zeros = λ k q. omega (arith, lin, z k q); lead = omega (arith, lin) }
first_apart w i f s g t Equal l z h n = absurd (n refl)
first_apart w i f s g t Greater l z h n = record { place = i; inside = l; zeros = λ k q. omega (arith, lin, z k q); lead = omega (arith, lin) }

-- A list has one sign.
pub one_sign : (w : ℕ) (f : ℕ → ℤ) (r q : Ordering) → HasSign w f r → HasSign w f q → r ≡ q
one_sign w f Greater Greater h k = refl
one_sign w f Greater Equal h k = absurd (pos_not_zero w f h k)
one_sign w f Greater Less h k = absurd (pos_not_neg w f h k)
one_sign w f Equal Greater h k = absurd (pos_not_zero w f k h)
one_sign w f Equal Equal h k = refl
one_sign w f Equal Less h k = absurd (pos_not_zero w _ k (λ i l. omega (arith, lin, h i l)))
one_sign w f Less Greater h k = absurd (pos_not_neg w f k h)
one_sign w f Less Equal h k = absurd (pos_not_zero w _ h (λ i l. omega (arith, lin, k i l)))
one_sign w f Less Less h k = refl

-- The comparison of two lists is the sign of their difference, multiplied out.
abbrev sign_of : Ordering → Ordering
sign_of Less = Greater
sign_of Equal = Equal
sign_of Greater = Less

difference_sign : (w : ℕ) (f : ℕ → ℤ) (s : ℤ) (g : ℕ → ℤ) (t : ℤ) (r : Ordering) → Compared w f s g t r → HasSign w (λ i. s *ℤ g i -ℤ t *ℤ f i) (sign_of r)
difference_sign w f s g t Less h = h
difference_sign w f s g t Equal h = λ i l. omega (arith, lin, h i l)
difference_sign w f s g t Greater h = pos_cong w _ _ (λ i l. omega (arith, lin)) h

rank_of : (r q : Ordering) → sign_of r ≡ sign_of q → r ≡ q
rank_of Less Less e = refl
rank_of Less Equal e = cc
rank_of Less Greater e = cc
rank_of Equal Less e = cc
rank_of Equal Equal e = refl
rank_of Equal Greater e = cc
rank_of Greater Less e = cc
rank_of Greater Equal e = cc
rank_of Greater Greater e = refl

-- Two lists compare in one way.
pub one_rank : (w : ℕ) (f : ℕ → ℤ) (s : ℤ) (g : ℕ → ℤ) (t : ℤ) (r q : Ordering) → Compared w f s g t r → Compared w f s g t q → r ≡ q
one_rank w f s g t r q h k = rank_of r q (one_sign w _ (sign_of r) (sign_of q) (difference_sign w f s g t r h) (difference_sign w f s g t q k))
