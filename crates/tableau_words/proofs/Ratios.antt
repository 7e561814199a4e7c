-- Lists compared over their divisors.
use Rattle.std.proofs.Common.{◌≡◌, ℕ, ◌<◌, ℤ, ◌*ℤ◌, MatchBool, is_lt, sym, ap, ◌∙◌, arith}
use Rattle.std.specs.declared.cmp.Ordering.{Ordering}
use Rattle.std.specs.declared.cmp.Ordering.TheVariants.{Less, Equal, Greater}
use Rattle.exact.specs.Lists.{Before}
use Rattle.exact.specs.Ranks.{Compared}
use Rattle.exact.proofs.Positive.{pos_cong, pos_not_neg, pos_not_zero}
use Rattle.exact.proofs.Ring.{lin}

-- Lists with the same numbers compare alike.
pub compared_cong : (n : ℕ) (f f' g g' : ℕ → ℤ) (s t : ℤ) (r : Ordering) → ((i : ℕ) → i < n → f i ≡ f' i) → ((i : ℕ) → i < n → g i ≡ g' i) → Compared n f s g t r → Compared n f' s g' t r
compared_cong n f f' g g' s t Less e d h = pos_cong n _ _ (λ i l. rw (e i l, d i l)) h
compared_cong n f f' g g' s t Equal e d h = λ i l. ap (λ z. t *ℤ z) (sym (e i l)) ∙ h i l ∙ ap (λ z. s *ℤ z) (d i l)
compared_cong n f f' g g' s t Greater e d h = pos_cong n _ _ (λ i l. rw (e i l, d i l)) h

-- Whether the one comes before the other.
pub decided : (n : ℕ) (f g : ℕ → ℤ) (s t : ℤ) (r : Ordering) → Compared n f s g t r → MatchBool (is_lt r) (Before n f s g t) (¬ Before n f s g t)
decided n f g s t Less h = h
decided n f g s t Equal h = λ b. pos_not_zero n _ b (λ i l. omega (arith, lin, h i l))
decided n f g s t Greater h = λ b. pos_not_neg n _ b (pos_cong n _ _ (λ i l. omega (arith, lin)) h)
