-- The laws of products of whole numbers that the library lacks, and of their order.
use Rattle.std.proofs.Common.{◌≡◌, ℕ, zero, suc, ◌*◌, ◌<◌, Bool, true, false, ◌⊎◌, ℤ, pos, negsuc, ◌+ℤ◌, ◌-ℤ◌, ◌*ℤ◌, neg_ℤ, ◌≤ℤ◌, ◌<ℤ◌, sym, refl, ap, ◌∙◌, inl, inr, arith}
use lib.IntN.{*ℤ_comm, suc_ℤ-*ℤ, zero-*ℤ, neg_ℤ-+ℤ, neg_ℤ-neg_ℤ}
use lib.Signed.{le_z}
use native.Mathlib.Nat as NatL
use borrow.Author.Differences.{ints, up, down, sum_is_lem, same_in, le-true, le-false, neg_is, same_out, Apart-out, lt_out, le_out, below_in, at_most_in}

-- Rules for omega in which a product of two unknowns is an unknown of its own.
pub ruleset lin = (same_out, Apart-out, lt_out, le_out, same_in, below_in, at_most_in, sum_is_lem, neg_is)

pub +-*ʳ : (a b c : ℤ) → (a +ℤ b) *ℤ c ≡ a *ℤ c +ℤ b *ℤ c
+-*ʳ a b c = omega (arith, ints, ap (λ (n : ℕ). n * up c) (sum_is_lem a b), ap (λ (n : ℕ). n * down c) (sum_is_lem a b))

pub neg-*ʳ : (a c : ℤ) → neg_ℤ a *ℤ c ≡ neg_ℤ (a *ℤ c)
neg-*ʳ a c = omega (arith, ints, ap (λ (n : ℕ). n * up c) (neg_is a).0, ap (λ (n : ℕ). n * down c) (neg_is a).0, ap (λ (n : ℕ). n * up c) (neg_is a).1, ap (λ (n : ℕ). n * down c) (neg_is a).1)

pub +-*ˡ : (a b c : ℤ) → a *ℤ (b +ℤ c) ≡ a *ℤ b +ℤ a *ℤ c
+-*ˡ a b c = omega (arith, lin, *ℤ_comm a (b +ℤ c), *ℤ_comm a b, *ℤ_comm a c, +-*ʳ b c a)

pub neg-*ˡ : (a c : ℤ) → a *ℤ neg_ℤ c ≡ neg_ℤ (a *ℤ c)
neg-*ˡ a c = *ℤ_comm a (neg_ℤ c) ∙ neg-*ʳ c a ∙ ap neg_ℤ (*ℤ_comm c a)

*-assoc-pos : (n : ℕ) (b c : ℤ) → (pos n *ℤ b) *ℤ c ≡ pos n *ℤ (b *ℤ c)
*-assoc-pos zero b c = simp zero-*ℤ
*-assoc-pos (suc n) b c = simp (suc_ℤ-*ℤ (pos n), +-*ʳ, *-assoc-pos n b c)

pub *-assoc : (a b c : ℤ) → (a *ℤ b) *ℤ c ≡ a *ℤ (b *ℤ c)
*-assoc (pos n) b c = *-assoc-pos n b c
*-assoc (negsuc n) b c = simp (neg-*ʳ (pos (suc n)), neg-*ʳ, *-assoc-pos (suc n) b c)

pub *-left-comm : (a b c : ℤ) → a *ℤ (b *ℤ c) ≡ b *ℤ (a *ℤ c)
*-left-comm a b c = sym (*-assoc a b c) ∙ ap (λ x. x *ℤ c) (*ℤ_comm a b) ∙ *-assoc b a c

-- Multiplies out and sorts the factors of each product.
pub ruleset expand = (+-*ʳ, +-*ˡ, neg-*ʳ, neg-*ˡ, neg_ℤ-+ℤ, neg_ℤ-neg_ℤ, *-assoc, *ℤ_comm, *-left-comm)

pub mul_pos : (a b : ℤ) → pos 0 <ℤ a → pos 0 <ℤ b → pos 0 <ℤ (a *ℤ b)
mul_pos (pos m) (pos n) h k = let p : 0 < m = omega (arith, lin) in let q : 0 < n = omega (arith, lin) in omega (arith, lin, NatL.mul-pos p q)
mul_pos (pos m) (negsuc n) h k = absurd (omega (arith, lin))
mul_pos (negsuc m) b h k = absurd (omega (arith, lin))

pub mul_nonneg : (a b : ℤ) → pos 0 ≤ℤ a → pos 0 ≤ℤ b → pos 0 ≤ℤ (a *ℤ b)
mul_nonneg (pos m) (pos n) h k = omega (arith, lin)
mul_nonneg (pos m) (negsuc n) h k = absurd (omega (arith, lin))
mul_nonneg (negsuc m) b h k = absurd (omega (arith, lin))

pub mul_mono : (a b c : ℤ) → a ≤ℤ b → pos 0 ≤ℤ c → (a *ℤ c) ≤ℤ (b *ℤ c)
mul_mono a b c h k = omega (arith, lin, simp expand at (mul_nonneg (b -ℤ a) c (omega (arith, lin)) k))

pub mul_mono< : (a b c : ℤ) → a <ℤ b → pos 0 <ℤ c → (a *ℤ c) <ℤ (b *ℤ c)
mul_mono< a b c h k = omega (arith, lin, simp expand at (mul_pos (b -ℤ a) c (omega (arith, lin)) k))

-- The three ways in which two numbers can stand.
pub data Order (a b : ℤ) : Type 0 where
  below : a <ℤ b → Order a b
  same : a ≡ b → Order a b
  above : b <ℤ a → Order a b

pub le_or_lt : (a b : ℤ) → (a ≤ℤ b) ⊎ (b <ℤ a)
le_or_lt a b = by (le_z a b) refl
  where
    by : (t : Bool) → le_z a b ≡ t → (a ≤ℤ b) ⊎ (b <ℤ a)
    by true e = inl (omega (arith, lin, le-true a b e))
    by false e = inr (omega (arith, lin, le-false a b e))

pub order : (a b : ℤ) → Order a b
order a b = elim (le_or_lt a b) [ inl h ↦ elim (le_or_lt b a) [ inl k ↦ same (omega (arith, lin)) | inr k ↦ below k ] | inr h ↦ above h ]

pub cancel≤ : (a b c : ℤ) → pos 0 <ℤ c → (a *ℤ c) ≤ℤ (b *ℤ c) → a ≤ℤ b
cancel≤ a b c k h = elim (le_or_lt a b) [ inl g ↦ g | inr g ↦ absurd (omega (arith, lin, mul_mono< b a c g k)) ]

pub cancel< : (a b c : ℤ) → pos 0 <ℤ c → (a *ℤ c) <ℤ (b *ℤ c) → a <ℤ b
cancel< a b c k h = elim (le_or_lt b a) [ inr g ↦ g | inl g ↦ absurd (omega (arith, lin, mul_mono b a c g (omega (arith, lin)))) ]

pub cancel : (a b c : ℤ) → pos 0 <ℤ c → a *ℤ c ≡ b *ℤ c → a ≡ b
cancel a b c k h = let p : a ≤ℤ b = cancel≤ a b c k (omega (arith, lin)) in let q : b ≤ℤ a = cancel≤ b a c k (omega (arith, lin)) in omega (arith, lin)

-- The sign of a factor from the sign of a product.
pub pos_of_mul : (a c : ℤ) → pos 0 <ℤ c → pos 0 <ℤ (c *ℤ a) → pos 0 <ℤ a
pos_of_mul a c k h = cancel< (pos 0) a c k (omega (arith, lin, zero-*ℤ c, *ℤ_comm c a))

pub zero_of_mul : (a c : ℤ) → pos 0 <ℤ c → c *ℤ a ≡ pos 0 → a ≡ pos 0
zero_of_mul a c k h = cancel a (pos 0) c k (omega (arith, lin, zero-*ℤ c, *ℤ_comm c a))

pub neg_pos : (a b : ℤ) → a <ℤ pos 0 → pos 0 <ℤ b → (a *ℤ b) <ℤ pos 0
neg_pos a b h k = omega (arith, lin, mul_mono< a (pos 0) b h k, zero-*ℤ b)

pub one-* : (x : ℤ) → pos 1 *ℤ x ≡ x
one-* x = omega (arith, ints)
