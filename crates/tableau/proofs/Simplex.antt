-- What the inverse of a basis says of commands and directions.
use Prim.Native.Nat.{ℕ, zero, suc, ◌<◌}
use mathlib.Core.Path.{◌≡◌, refl, sym, ap, ◌∙◌}
use mathlib.Core.Logic.{◌⊎◌, inl, inr}
use native.Mathlib.Omega.{arith}
use lib.IntN.{ℤ, pos, ◌-ℤ◌, ◌*ℤ◌, neg_ℤ, zero-*ℤ, *ℤ-zero, *ℤ_comm}
use lib.Signed.{◌<ℤ◌, ◌≤ℤ◌}
use Rattle.exact.specs.Vectors.{sum, dot}
use Rattle.exact.specs.Value.{Value, full}
use Rattle.exact.specs.Lists.{Positive, Before}
use Rattle.exact.proofs.Ring.{lin, expand, *-assoc, mul_nonneg, mul_mono, mul_mono<}
use Rattle.exact.proofs.Sums.{sum_cong, sum_zero, sum-*ˡ, sum-*ʳ, sum_swap, sum_at, sum-≤, sum_mix, dot_comb}
use Rattle.exact.proofs.Values.{full_value, value_scale, value_comb}
use Rattle.exact.proofs.Positive.{pos_cong, pos_not_neg, pos_scale, pos_comb}
use Rattle.tableau.specs.Basis.{Inverse}
use Rattle.tableau.specs.Points.{point}

weigh : (s h q t : ℤ) → q ≤ℤ (s *ℤ h) → t ≤ℤ pos 0 → (s *ℤ (h *ℤ t)) ≤ℤ (q *ℤ t)
weigh s h q t k n = omega (arith, lin, simp expand at (mul_nonneg (s *ℤ h -ℤ q) (neg_ℤ t) (omega (arith, lin)) (omega (arith, lin))))

turn : (D h s : ℤ) → D *ℤ h *ℤ s ≡ s *ℤ h *ℤ D
turn D h s = simp expand

null : (x y : ℤ) → neg_ℤ x ≡ pos 0 → x *ℤ y ≡ pos 0
null x y e = let z : x ≡ pos 0 = omega (arith, lin) in rw z (zero-*ℤ y)

pub sum_neg : (n : ℕ) (f g : ℕ → ℤ) → sum n (λ r. neg_ℤ (f r) *ℤ g r) ≡ neg_ℤ (sum n (λ r. f r *ℤ g r))
unfolding sum
sum_neg zero f g = refl
sum_neg (suc n) f g = rw (sum_neg n f g) (simp expand (omega (arith, lin)))

module _ (m : ℕ) (a : ℕ → ℕ → ℤ) (β : ℕ → ℕ) (D : ℤ) (U : ℕ → ℕ → ℤ) (B : Inverse m a β D U) where
  -- D x = Σ_r (a_r · x) U_r.
  pub spread : (x : ℕ → ℤ) (c : ℕ) → c < m → D *ℤ x c ≡ sum m (λ r. dot m (a (β r)) x *ℤ U r c)
  unfolding dot
  spread x c l =
      sym (sum_cong m _ _ (λ r k. sym (sum-*ʳ m (U r c) (λ i. a (β r) i *ℤ x i)))
      ∙ sum_swap m m (λ r i. a (β r) i *ℤ x i *ℤ U r c)
      ∙ sum_cong m _ _ (λ i k. sum_cong m _ _ (λ r q. simp expand (omega (arith, lin))) ∙ sum-*ˡ m (x i) (λ r. U r c *ℤ a (β r) i))
      ∙ sum_at m c (λ i. x i *ℤ sum m (λ r. U r c *ℤ a (β r) i)) l (λ i k d. rw (B.right_other c i l k d) (*ℤ-zero (x i)))
      ∙ rw (B.right_same c l) (*ℤ_comm (x c) D))

  -- D y = Σ_r (y · U_r) a_r.
  pub dual_spread : (y : ℕ → ℤ) (k : ℕ) → k < m → D *ℤ y k ≡ sum m (λ r. dot m y (U r) *ℤ a (β r) k)
  unfolding dot
  dual_spread y k l =
      sym (sum_cong m _ _ (λ r q. sym (sum-*ʳ m (a (β r) k) (λ c. y c *ℤ U r c)))
      ∙ sum_swap m m (λ r c. y c *ℤ U r c *ℤ a (β r) k)
      ∙ sum_cong m _ _ (λ c q. sum_cong m _ _ (λ r z. *-assoc (y c) (U r c) (a (β r) k)) ∙ sum-*ˡ m (y c) (λ r. U r c *ℤ a (β r) k))
      ∙ sum_at m k (λ c. y c *ℤ sum m (λ r. U r c *ℤ a (β r) k)) l (λ c q d. rw (B.right_other c k q l (λ e. d (sym e))) (*ℤ-zero (y c)))
      ∙ rw (B.right_same k l) (*ℤ_comm (y k) D))

  pub value_spread : (w : ℕ) (V : (ℕ → ℤ) → ℕ → ℤ) → Value m w V → (x : ℕ → ℤ) (i : ℕ) → i < w → D *ℤ V x i ≡ sum m (λ r. dot m (a (β r)) x *ℤ V (U r) i)
  value_spread w V L x i l = sym (value_scale m w V L D x i l) ∙ L.cong _ _ (λ c k. spread x c k) i l ∙ value_comb m w V L m (λ r. dot m (a (β r)) x) U i l

  pub dot_spread : (y x : ℕ → ℤ) → D *ℤ dot m y x ≡ sum m (λ r. dot m (a (β r)) x *ℤ dot m y (U r))
  dot_spread y x = value_spread (suc m) (full m y) (full_value m y) x 0 (omega arith)

  pub dot_point : (y h : ℕ → ℤ) → dot m y (point m β U h) ≡ sum m (λ r. h (β r) *ℤ dot m y (U r))
  dot_point y h = dot_comb m m y (λ r. h (β r)) U

  -- A limit with negative slack and T_rj ≤ 0 in every row: no command keeps it and the limits of the basis.
  pub no_command : (h : ℕ → ℤ) (j : ℕ) → (D *ℤ h j) <ℤ dot m (a j) (point m β U h) → ((r : ℕ) → r < m → dot m (a j) (U r) ≤ℤ pos 0)
      → (p : ℕ → ℤ) (s : ℤ) → pos 0 <ℤ s → ((r : ℕ) → r < m → dot m (a (β r)) p ≤ℤ (s *ℤ h (β r))) → dot m (a j) p ≤ℤ (s *ℤ h j) → ⊥
  no_command h j negative none p s ps keeps keep =
      let e₁ : D *ℤ dot m (a j) p ≡ sum m (λ r. dot m (a (β r)) p *ℤ dot m (a j) (U r)) = dot_spread (a j) p in
      let e₂ : dot m (a j) (point m β U h) ≡ sum m (λ r. h (β r) *ℤ dot m (a j) (U r)) = dot_point (a j) h in
      let e₃ : sum m (λ r. s *ℤ (h (β r) *ℤ dot m (a j) (U r))) ≡ s *ℤ sum m (λ r. h (β r) *ℤ dot m (a j) (U r)) = sum-*ˡ m s (λ r. h (β r) *ℤ dot m (a j) (U r)) in
      let e₄ : sum m (λ r. s *ℤ (h (β r) *ℤ dot m (a j) (U r))) ≤ℤ sum m (λ r. dot m (a (β r)) p *ℤ dot m (a j) (U r))
      = sum-≤ m _ _ (λ r l. weigh s (h (β r)) (dot m (a (β r)) p) (dot m (a j) (U r)) (keeps r l) (none r l)) in
      omega (
        arith,
        lin,
        ap (λ k. s *ℤ k) e₂,
        mul_mono< (D *ℤ h j) (dot m (a j) (point m β U h)) s negative ps,
        mul_mono (dot m (a j) p) (s *ℤ h j) D keep (omega (arith, lin, B.dpos)),
        turn D (h j) s,
        *ℤ_comm s (dot m (a j) (point m β U h)),
        *ℤ_comm D (dot m (a j) p),
      )

  module _ (w : ℕ) (V : (ℕ → ℤ) → ℕ → ℤ) (L : Value m w V) where
    -- A command p / s that keeps the limits of a corner is P / D, or comes before it.
    pub best : (h : ℕ → ℤ) → ((r : ℕ) → r < m → Positive w (V (U r)))
        → (p : ℕ → ℤ) (s : ℤ) → ((r : ℕ) → r < m → dot m (a (β r)) p ≤ℤ (s *ℤ h (β r)))
        → ((c : ℕ) → c < m → D *ℤ p c ≡ s *ℤ point m β U h c) ⊎ Before w (V p) s (V (point m β U h)) D
    best h pr p s keeps = elim (pos_comb w m (λ r. s *ℤ h (β r) -ℤ dot m (a (β r)) p) (λ r. V (U r)) (λ r l. omega (arith, lin, keeps r l)) pr) [
      | inl z ↦ inl (λ c l. omega (arith, lin, spread p c l, sum_mix m s (λ r. h (β r)) (λ r. dot m (a (β r)) p) (λ r. U r c), sum_zero m (λ r. (s *ℤ h (β r) -ℤ dot m (a (β r)) p) *ℤ U r c) (λ r k. rw (z r k) (zero-*ℤ (U r c)))))
      | inr q ↦ inr (pos_cong w _ _ (λ i l. omega (arith, lin, value_spread w V L p i l, ap (λ k. s *ℤ k) (value_comb m w V L m (λ r. h (β r)) U i l), sum_mix m s (λ r. h (β r)) (λ r. dot m (a (β r)) p) (λ r. V (U r) i))) q)
    ]

    -- Where the rows are positive, no free direction is better than standing still.
    no_free' : ((r : ℕ) → r < m → Positive w (V (U r)))
        → (y : ℕ → ℤ) → ((r : ℕ) → r < m → dot m (a (β r)) y ≤ℤ pos 0) → Positive w (λ i. D *ℤ V y i) → ⊥
    no_free' pr y free q = elim (pos_comb w m (λ r. neg_ℤ (dot m (a (β r)) y)) (λ r. V (U r)) (λ r l. omega (arith, lin, free r l)) pr) [
      | inl z ↦ omega (arith, lin, q.lead, value_spread w V L y q.place q.inside, sum_zero m (λ r. dot m (a (β r)) y *ℤ V (U r) q.place) (λ r l. null (dot m (a (β r)) y) (V (U r) q.place) (z r l)))
      | inr k ↦ pos_not_neg w _ q (pos_cong w _ _ (λ i l. sum_neg m (λ r. dot m (a (β r)) y) (λ r. V (U r) i) ∙ ap neg_ℤ (sym (value_spread w V L y i l))) k)
    ]

    pub no_free : ((r : ℕ) → r < m → Positive w (V (U r)))
        → (y : ℕ → ℤ) → ((r : ℕ) → r < m → dot m (a (β r)) y ≤ℤ pos 0) → Positive w (V y) → ⊥
    no_free pr y free py = no_free' pr y free (pos_scale w D (V y) B.dpos py)
