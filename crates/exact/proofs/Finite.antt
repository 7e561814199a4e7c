-- Searches among finitely many numbers.
use Rattle.std.proofs.Common.{ℕ, zero, suc, ◌<◌, ◌⊎◌, inl, inr, arith}
use native.Mathlib.Decide.{ℕ_discrete}

-- Of the numbers below k with P, none, or one that no other is under; R i j says that j is under i.
pub data LowestOf (k : ℕ) (P : ℕ → Type 0) (R : ℕ → ℕ → Type 0) : Type 0 where
  none : ((i : ℕ) → i < k → P i → ⊥) → LowestOf k P R
  one : (i : ℕ) → i < k → P i → ((j : ℕ) → j < k → P j → R i j → ⊥) → LowestOf k P R

module _ (P : ℕ → Type 0) (R : ℕ → ℕ → Type 0) (has : (i : ℕ) → Dec (P i)) (under : (i j : ℕ) → Dec (R i j)) (not_self : (i : ℕ) → P i → R i i → ⊥)
    (trans : (i j l : ℕ) → P i → P j → P l → R i j → R j l → R i l) where
  pub lowest_of : (k : ℕ) → LowestOf k P R
  lowest_of zero = none (λ i l. absurd (omega arith))
  lowest_of (suc k) = elim (has k) [
    | no d ↦ elim (lowest_of k) [
      | none f ↦ none (λ i l p. elim (ℕ_discrete i k) [ yes e ↦ d (rw e at p) | no n ↦ f i (omega arith) p ])
      | one i l p f ↦ one i (omega arith) p (λ j q pj u. elim (ℕ_discrete j k) [ yes e ↦ d (rw e at pj) | no n ↦ f j (omega arith) pj u ])
    ]
    | yes h ↦ elim (lowest_of k) [
      | none f ↦ one k (omega arith) h (λ j q pj u. elim (ℕ_discrete j k) [ yes e ↦ not_self k h (rw e at u) | no n ↦ f j (omega arith) pj ])
      | one i l p f ↦ elim (under i k) [
        | yes y ↦ one k (omega arith) h (λ j q pj u. elim (ℕ_discrete j k) [ yes e ↦ not_self k h (rw e at u) | no n ↦ f j (omega arith) pj (trans i k j p h pj y u) ])
        | no x ↦ one i (omega arith) p (λ j q pj u. elim (ℕ_discrete j k) [ yes e ↦ x (rw e at u) | no n ↦ f j (omega arith) pj u ])
      ]
    ]
  ]

-- One of the numbers below n has P, or none has.
pub any_below : (n : ℕ) (P : ℕ → Type 0) → ((j : ℕ) → j < n → Dec (P j)) → ((j : ℕ) × (j < n) × P j) ⊎ ((j : ℕ) → j < n → ¬ P j)
any_below zero P d = inr (λ j l. absurd (omega arith))
any_below (suc n) P d = elim (d n (omega arith)) [
  | yes p ↦ inl (n, omega arith, p)
  | no q ↦ elim (any_below n P (λ j l. d j (omega arith))) [
    | inl (j, l, p) ↦ inl (j, omega arith, p)
    | inr r ↦ inr (λ j l p. elim (ℕ_discrete j n) [ yes e ↦ q (rw e at p) | no m ↦ r j (omega arith) p ])
  ]
]
