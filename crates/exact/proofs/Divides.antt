-- The laws of divisors.
use Rattle.std.proofs.Common.{ℕ, zero, suc, ◌<◌, ℤ, pos, ◌+ℤ◌, ◌*ℤ◌, neg_ℤ, ◌≤ℤ◌, ◌<ℤ◌, sym, ap, ◌∙◌, ap₂, arith}
use lib.IntN.{zero-*ℤ, *ℤ-zero, *ℤ_comm}
use Rattle.exact.specs.Vectors.{sum, dot}
use Rattle.exact.specs.Divisors.{Divides}
use Rattle.exact.proofs.Ring.{lin, expand, one-*, *-assoc, neg-*ˡ, +-*ˡ, mul_mono, below, same, above, order, pos_of_mul}

pub div_self : (d : ℤ) → Divides d d
div_self d = (pos 1, sym (*ℤ_comm d (pos 1) ∙ one-* d))

pub div_trans : (d e x : ℤ) → Divides d e → Divides e x → Divides d x
div_trans d e x (q, f) (p, g) = (q *ℤ p, g ∙ ap (λ z. z *ℤ p) f ∙ *-assoc d q p)

pub div_mul : (d k x : ℤ) → Divides d x → Divides d (k *ℤ x)
div_mul d k x (q, e) = (k *ℤ q, ap (λ z. k *ℤ z) e ∙ simp expand)

pub div_mulʳ : (d k x : ℤ) → Divides d x → Divides d (x *ℤ k)
div_mulʳ d k x (q, e) = (q *ℤ k, ap (λ z. z *ℤ k) e ∙ *-assoc d q k)

pub div-+ : (d x y : ℤ) → Divides d x → Divides d y → Divides d (x +ℤ y)
div-+ d x y (p, e) (q, f) = (p +ℤ q, ap₂ ◌+ℤ◌ e f ∙ sym (+-*ˡ d p q))

pub div_neg : (d x : ℤ) → Divides d x → Divides d (neg_ℤ x)
div_neg d x (q, e) = (neg_ℤ q, ap neg_ℤ e ∙ sym (neg-*ˡ d q))

pub div_sum : (n : ℕ) (d : ℤ) (f : ℕ → ℤ) → ((i : ℕ) → i < n → Divides d (f i)) → Divides d (sum n f)
unfolding sum
div_sum zero d f h = (pos 0, sym (*ℤ-zero d))
div_sum (suc n) d f h = div-+ d (sum n f) (f n) (div_sum n d f (λ i l. h i (omega arith))) (h n (omega arith))

pub div_pos : (d x : ℤ) → pos 0 ≤ℤ d → pos 0 <ℤ x → Divides d x → pos 0 <ℤ d
div_pos d x n p (q, e) = elim (order (pos 0) d) [
  | below l ↦ l
  | same z ↦ absurd (omega (arith, lin, e, ap (λ k. k *ℤ q) z, zero-*ℤ q))
  | above l ↦ absurd (omega (arith, lin))
]

pub div_le : (d x : ℤ) → pos 0 <ℤ d → pos 0 <ℤ x → Divides d x → d ≤ℤ x
div_le d x pd px (q, e) = let l : pos 0 <ℤ q = pos_of_mul q d pd (rw (← e) px) in omega (arith, lin, e, *ℤ_comm d q, mul_mono (pos 1) q d (omega (arith, lin)) (omega (arith, lin)), one-* d)

-- What divides each entry of a vector divides its dot products.
pub div_dot : (m : ℕ) (d : ℤ) (x y : ℕ → ℤ) → ((c : ℕ) → c < m → Divides d (y c)) → Divides d (dot m x y)
unfolding dot
div_dot m d x y h = div_sum m d (λ c. x c *ℤ y c) (λ c l. div_mul d (x c) (y c) (h c l))
