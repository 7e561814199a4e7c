-- The laws of sums and dot products.
use Rattle.std.proofs.Common.{◌≡◌, ℕ, zero, suc, ◌+◌, ◌<◌, ℤ, pos, ◌+ℤ◌, ◌-ℤ◌, ◌*ℤ◌, ◌≤ℤ◌, sym, refl, ap, ◌∙◌, ap₂, add-one, arith}
use native.Mathlib.Decide.{ℕ_discrete}
use lib.IntN.{*ℤ-zero, *ℤ_comm}
use Rattle.exact.specs.Vectors.{sum, dot}
use Rattle.exact.proofs.Ring.{lin, expand, +-*ˡ, *-left-comm}

pub sum_cong : (n : ℕ) (f g : ℕ → ℤ) → ((i : ℕ) → i < n → f i ≡ g i) → sum n f ≡ sum n g
unfolding sum
sum_cong zero f g h = refl
sum_cong (suc n) f g h = ap₂ ◌+ℤ◌ (sum_cong n f g (λ i l. h i (omega arith))) (h n (omega arith))

pub sum-+ : (n : ℕ) (f g : ℕ → ℤ) → sum n (λ i. f i +ℤ g i) ≡ sum n f +ℤ sum n g
unfolding sum
sum-+ zero f g = refl
sum-+ (suc n) f g = rw (sum-+ n f g) (omega (arith, lin))

pub sum-*ˡ : (n : ℕ) (k : ℤ) (f : ℕ → ℤ) → sum n (λ i. k *ℤ f i) ≡ k *ℤ sum n f
unfolding sum
sum-*ˡ zero k f = sym (*ℤ-zero k)
sum-*ˡ (suc n) k f = rw (sum-*ˡ n k f) (sym (+-*ˡ k (sum n f) (f n)))

pub sum-*ʳ : (n : ℕ) (k : ℤ) (f : ℕ → ℤ) → sum n (λ i. f i *ℤ k) ≡ sum n f *ℤ k
sum-*ʳ n k f = sum_cong n _ _ (λ i l. *ℤ_comm (f i) k) ∙ sum-*ˡ n k f ∙ *ℤ_comm k (sum n f)

pub sum_zero : (n : ℕ) (f : ℕ → ℤ) → ((i : ℕ) → i < n → f i ≡ pos 0) → sum n f ≡ pos 0
unfolding sum
sum_zero zero f h = refl
sum_zero (suc n) f h = rw (sum_zero n f (λ i l. h i (omega arith)), h n (omega arith))

pub sum_swap : (m n : ℕ) (f : ℕ → ℕ → ℤ) → sum m (λ i. sum n (λ j. f i j)) ≡ sum n (λ j. sum m (λ i. f i j))
unfolding sum
sum_swap zero n f = sym (sum_zero n (λ j. pos 0) (λ i l. refl))
sum_swap (suc m) n f = rw (sum_swap m n f) (sym (sum-+ n (λ j. sum m (λ i. f i j)) (λ j. f m j)))

-- f and g differ at r alone.
pub sum_but : (n r : ℕ) (f g : ℕ → ℤ) → r < n → ((i : ℕ) → i < n → ¬ (i ≡ r) → f i ≡ g i) → sum n f +ℤ g r ≡ sum n g +ℤ f r
unfolding sum
sum_but zero r f g l h = absurd (omega arith)
sum_but (suc n) r f g l h = elim (ℕ_discrete n r) [
  | yes e ↦ rw (e, sum_cong r f g (λ i k. h i (omega arith) (omega arith))) (omega (arith, lin))
  | no d ↦ omega (arith, lin, sum_but n r f g (omega arith) (λ i k. h i (omega arith)), h n (omega arith) d)
]

-- f is zero but at r.
pub sum_at : (n r : ℕ) (f : ℕ → ℤ) → r < n → ((i : ℕ) → i < n → ¬ (i ≡ r) → f i ≡ pos 0) → sum n f ≡ f r
sum_at n r f l h = omega (arith, lin, sum_but n r f (λ i. pos 0) l h, sum_zero n (λ i. pos 0) (λ i k. refl))

pub sum-≤ : (n : ℕ) (f g : ℕ → ℤ) → ((i : ℕ) → i < n → f i ≤ℤ g i) → sum n f ≤ℤ sum n g
unfolding sum
sum-≤ zero f g h = omega (arith, lin)
sum-≤ (suc n) f g h = omega (arith, lin, sum-≤ n f g (λ i l. h i (omega arith)), h n (omega arith))

-- The dot product with a linear combination is the combination of the dot products.
pub dot_comb : (m n : ℕ) (y : ℕ → ℤ) (k : ℕ → ℤ) (U : ℕ → ℕ → ℤ) → dot m y (λ c. sum n (λ r. k r *ℤ U r c)) ≡ sum n (λ r. k r *ℤ dot m y (U r))
unfolding dot
dot_comb m n y k U =
    sum_cong m _ _ (λ c l. sym (sum-*ˡ n (y c) (λ r. k r *ℤ U r c)))
    ∙ sum_swap m n (λ c r. y c *ℤ (k r *ℤ U r c))
    ∙ sum_cong n _ _ (λ r l. sum_cong m _ _ (λ c l. *-left-comm (y c) (k r) (U r c)) ∙ sum-*ˡ m (k r) (λ c. y c *ℤ U r c))

pub dot_comm : (m : ℕ) (x y : ℕ → ℤ) → dot m x y ≡ dot m y x
unfolding dot
dot_comm m x y = sum_cong m _ _ (λ c l. *ℤ_comm (x c) (y c))

pub dot_cong : (m : ℕ) (x y z : ℕ → ℤ) → ((c : ℕ) → c < m → y c ≡ z c) → dot m x y ≡ dot m x z
unfolding dot
dot_cong m x y z h = sum_cong m _ _ (λ c l. ap (λ k. x c *ℤ k) (h c l))

pub dot_scale : (m : ℕ) (k : ℤ) (x y : ℕ → ℤ) → dot m x (λ c. k *ℤ y c) ≡ k *ℤ dot m x y
unfolding dot
dot_scale m k x y = sum_cong m _ _ (λ c l. *-left-comm (x c) k (y c)) ∙ sum-*ˡ m k (λ c. x c *ℤ y c)

pub sum_mix : (n : ℕ) (s : ℤ) (f g x : ℕ → ℤ) → sum n (λ r. (s *ℤ f r -ℤ g r) *ℤ x r) ≡ s *ℤ sum n (λ r. f r *ℤ x r) -ℤ sum n (λ r. g r *ℤ x r)
unfolding sum
sum_mix zero s f g x = rw (*ℤ-zero s)
sum_mix (suc n) s f g x = rw (sum_mix n s f g x) (simp expand (omega (arith, lin)))

pub dot-+ : (m : ℕ) (y u v : ℕ → ℤ) → dot m y (λ c. u c +ℤ v c) ≡ dot m y u +ℤ dot m y v
unfolding dot
dot-+ m y u v = sum_cong m _ _ (λ c l. +-*ˡ (y c) (u c) (v c)) ∙ sum-+ m (λ c. y c *ℤ u c) (λ c. y c *ℤ v c)

pub dot_linear : (m : ℕ) (b : ℕ → ℤ) (s t : ℤ) (x y : ℕ → ℤ) → dot m b (λ c. s *ℤ x c +ℤ t *ℤ y c) ≡ s *ℤ dot m b x +ℤ t *ℤ dot m b y
dot_linear m b s t x y = dot-+ m b (λ c. s *ℤ x c) (λ c. t *ℤ y c) ∙ ap₂ ◌+ℤ◌ (dot_scale m s b x) (dot_scale m t b y)

-- One number more, as a loop counts.
pub sum_more : (n : ℕ) (f : ℕ → ℤ) → sum (n + 1) f ≡ sum n f +ℤ f n
unfolding sum
sum_more n f = rw add-one

pub dot_more : (n : ℕ) (x y : ℕ → ℤ) → dot (n + 1) x y ≡ dot n x y +ℤ x n *ℤ y n
unfolding dot
dot_more n x y = sum_more n (λ i. x i *ℤ y i)

pub dot_none : (x y : ℕ → ℤ) → pos 0 ≡ dot 0 x y
unfolding dot sum
dot_none x y = refl
