-- An exchange leads to the inverse of the new basis, keeps corners, and moves every solution by one formula.
use Prim.Native.Nat.{ℕ, zero, suc, ◌<◌}
use mathlib.Core.Path.{◌≡◌, sym, ap, ◌∙◌}
use native.Mathlib.Omega.{arith}
use native.Mathlib.Decide.{ℕ_discrete}
use lib.IntN.{ℤ, pos, ◌+ℤ◌, ◌-ℤ◌, ◌*ℤ◌, neg_ℤ, zero-*ℤ, *ℤ-zero, *ℤ_comm}
use lib.Signed.{◌<ℤ◌}
use Rattle.exact.specs.Vectors.{sum, dot}
use Rattle.exact.specs.Lists.{Positive}
use Rattle.exact.specs.EndToEnd.{PositiveEndToEnd}
use Rattle.exact.specs.Value.{Value, full}
use Rattle.exact.proofs.Ring.{lin, expand, *-assoc, *-left-comm, mul_pos, below, same, above, order, pos_of_mul, zero_of_mul, cancel, neg-*ʳ}
use Rattle.exact.proofs.Sums.{sum_cong, sum_zero, sum-*ˡ, sum_but, dot_cong}
use Rattle.exact.proofs.Positive.{pos_cong, pos-+, pos_scale, pos_unscale, plus, nil, minus, sign}
use Rattle.exact.proofs.EndToEnd.{outer_neg, end_to_end_map}
use Rattle.exact.proofs.Values.{full_value, value_scale, value_lin}
use Rattle.tableau.specs.Basis.{Inverse}
use Rattle.tableau.specs.Points.{point}
use Rattle.tableau.specs.Exchange.{Exchanged, Least}
use Rattle.tableau.proofs.Simplex.{dual_spread, dot_point}

pub sum_lin : (n : ℕ) (t k : ℤ) (f g : ℕ → ℤ) → sum n (λ i. t *ℤ f i -ℤ k *ℤ g i) ≡ t *ℤ sum n f -ℤ k *ℤ sum n g
unfolding sum
sum_lin zero t k f g = rw (*ℤ-zero t, *ℤ-zero k)
sum_lin (suc n) t k f g = rw (sum_lin n t k f g) (simp expand (omega (arith, lin)))

pub dot_lin : (m : ℕ) (y : ℕ → ℤ) (t k : ℤ) (u v : ℕ → ℤ) → dot m y (λ c. t *ℤ u c -ℤ k *ℤ v c) ≡ t *ℤ dot m y u -ℤ k *ℤ dot m y v
unfolding dot
dot_lin m y t k u v = sum_cong m _ _ (λ c l. by (y c) (u c) (v c)) ∙ sum_lin m t k (λ c. y c *ℤ u c) (λ c. y c *ℤ v c)
  where
    by : (y u v : ℤ) → y *ℤ (t *ℤ u -ℤ k *ℤ v) ≡ t *ℤ (y *ℤ u) -ℤ k *ℤ (y *ℤ v)
    by y u v = simp expand (omega (arith, lin))

by₁ : (g t w x y u v : ℤ) → g *ℤ x ≡ t *ℤ u -ℤ v *ℤ w → g *ℤ (x *ℤ y) ≡ t *ℤ (u *ℤ y) -ℤ w *ℤ (v *ℤ y)
by₁ g t w x y u v e = sym (*-assoc g x y) ∙ ap (λ z. z *ℤ y) e ∙ simp expand

by₂ : (t u y : ℤ) → t *ℤ (u *ℤ y) -ℤ u *ℤ (t *ℤ y) ≡ pos 0
by₂ t u y = omega (arith, lin, *-left-comm t u y)

by₃ : (g D x y u : ℤ) → g *ℤ x ≡ D *ℤ u → g *ℤ (x *ℤ y) ≡ u *ℤ (D *ℤ y)
by₃ g D x y u e = sym (*-assoc g x y) ∙ ap (λ z. z *ℤ y) e ∙ simp expand

by₄ : (g D D' t s o n w : ℤ) → g *ℤ D' ≡ D *ℤ t → g *ℤ n ≡ t *ℤ o +ℤ s *ℤ w → g *ℤ (D' *ℤ o -ℤ D *ℤ n) ≡ D *ℤ neg_ℤ (s *ℤ w)
by₄ g D D' t s o n w d e = simp expand (omega (arith, lin, simp expand at (ap (λ z. z *ℤ o) d), simp expand at (ap (λ z. D *ℤ z) e)))

by₅ : (g t w x y u v : ℤ) → g *ℤ x ≡ t *ℤ u -ℤ v *ℤ w → g *ℤ (y *ℤ x) ≡ t *ℤ (y *ℤ u) -ℤ w *ℤ (y *ℤ v)
by₅ g t w x y u v e = *-left-comm g y x ∙ ap (λ z. y *ℤ z) e ∙ simp expand

by₆ : (t u y : ℤ) → t *ℤ (y *ℤ u) -ℤ u *ℤ (y *ℤ t) ≡ pos 0
by₆ t u y = simp expand (omega (arith, lin))

by₇ : (g D x y u : ℤ) → g *ℤ x ≡ D *ℤ u → g *ℤ (y *ℤ x) ≡ D *ℤ y *ℤ u
by₇ g D x y u e = *-left-comm g y x ∙ ap (λ z. y *ℤ z) e ∙ simp expand

by₈ : (u d p f q : ℤ) → f ≡ q -ℤ u *ℤ p +ℤ d *ℤ u → f ≡ q +ℤ (d -ℤ p) *ℤ u
by₈ u d p f q e = simp expand (omega (arith, lin, simp expand at e))

by₉ : (g D D' t h p p' z : ℤ) → g *ℤ D' ≡ D *ℤ t → g *ℤ p' ≡ t *ℤ p +ℤ z → g *ℤ (D' *ℤ h -ℤ p') ≡ t *ℤ (D *ℤ h -ℤ p) -ℤ z
by₉ g D D' t h p p' z d e = simp expand (omega (arith, lin, simp expand at (ap (λ k. h *ℤ k) d), e))

pub dot_zero : (m : ℕ) (x : ℕ → ℤ) → dot m x (λ c. pos 0) ≡ pos 0
unfolding dot
dot_zero m x = sum_zero m _ (λ c l. *ℤ-zero (x c))

module _ (m : ℕ) (a : ℕ → ℕ → ℤ) (β : ℕ → ℕ) (D : ℤ) (U : ℕ → ℕ → ℤ) (r j : ℕ) (g : ℤ) (β' : ℕ → ℕ) (D' : ℤ) (U' : ℕ → ℕ → ℤ)
    (B : Inverse m a β D U) (X : Exchanged m a β D U r j g β' D' U') where
  abbrev t : ℤ
  t = dot m (a j) (U r)

  pub value_pivot : (w : ℕ) (V : (ℕ → ℤ) → ℕ → ℤ) → Value m w V → (i : ℕ) → i < w → g *ℤ V (U' r) i ≡ D *ℤ V (U r) i
  value_pivot w V L i l = sym (value_scale m w V L g (U' r) i l) ∙ L.cong _ _ X.pivot_row i l ∙ value_scale m w V L D (U r) i l

  pub value_other : (w : ℕ) (V : (ℕ → ℤ) → ℕ → ℤ) → Value m w V → (s : ℕ) → s < m → ¬ (s ≡ r) → (i : ℕ) → i < w → g *ℤ V (U' s) i ≡ t *ℤ V (U s) i -ℤ dot m (a j) (U s) *ℤ V (U r) i
  value_other w V L s k d i l = sym (value_scale m w V L g (U' s) i l) ∙ L.cong _ _ (X.other_row s k d) i l ∙ value_lin m w V L t (dot m (a j) (U s)) (U s) (U r) i l

  pub dot_pivot : (y : ℕ → ℤ) → g *ℤ dot m y (U' r) ≡ D *ℤ dot m y (U r)
  dot_pivot y = value_pivot (suc m) (full m y) (full_value m y) 0 (omega arith)

  pub dot_other : (y : ℕ → ℤ) (s : ℕ) → s < m → ¬ (s ≡ r) → g *ℤ dot m y (U' s) ≡ t *ℤ dot m y (U s) -ℤ dot m (a j) (U s) *ℤ dot m y (U r)
  dot_other y s k d = value_other (suc m) (full m y) (full_value m y) s k d 0 (omega arith)

  cancel_g : (x y : ℤ) → g *ℤ x ≡ g *ℤ y → x ≡ y
  cancel_g x y e = cancel x y g X.gpos (*ℤ_comm x g ∙ e ∙ *ℤ_comm g y)

  cancel_0 : (x : ℤ) → g *ℤ x ≡ pos 0 → x ≡ pos 0
  cancel_0 x e = zero_of_mul x g X.gpos e

  new_dpos : pos 0 <ℤ D'
  new_dpos = pos_of_mul D' g X.gpos (rw X.denominator (mul_pos D t B.dpos X.tpos))

  new_left_same : (s : ℕ) → s < m → dot m (a (β' s)) (U' s) ≡ D'
  new_left_same s k = elim (ℕ_discrete s r) [
    | yes e ↦ cancel_g _ _ (rw (e, X.comes, X.denominator) (dot_pivot (a j)))
    | no d ↦ cancel_g _ _ (rw (X.stays s k d, X.denominator) (dot_other (a (β s)) s k d ∙ rw (B.left_same s k, B.left_other r s X.inside k (λ e. d (sym e))) (omega (arith, lin, *ℤ_comm t D, *ℤ-zero (dot m (a j) (U s))))))
  ]

  new_left_other : (s q : ℕ) → s < m → q < m → ¬ (s ≡ q) → dot m (a (β' q)) (U' s) ≡ pos 0
  new_left_other s q ls lq n = elim (ℕ_discrete q r) [
    | yes e ↦ cancel_0 _ (rw (e, X.comes) (dot_other (a j) s ls (λ d. n (d ∙ sym e)) ∙ omega (arith, lin, *ℤ_comm t (dot m (a j) (U s)))))
    | no d ↦ elim (ℕ_discrete s r) [
      | yes e ↦ cancel_0 _ (rw (X.stays q lq d, e) (dot_pivot (a (β q)) ∙ rw (B.left_other r q X.inside lq (λ f. d (sym f))) (*ℤ-zero D)))
      | no f ↦ cancel_0 _ (rw (X.stays q lq d) (dot_other (a (β q)) s ls f ∙ rw (B.left_other r q X.inside lq (λ f. d (sym f)), B.left_other s q ls lq n, *ℤ-zero t, *ℤ-zero (dot m (a j) (U s)))))
    ]
  ]

  right_step : (c k : ℕ) → c < m → k < m → g *ℤ sum m (λ i. U' i c *ℤ a (β' i) k) ≡ t *ℤ sum m (λ i. U i c *ℤ a (β i) k)
  right_step c k lc lk =
      let F : ℕ → ℤ = λ i. g *ℤ (U' i c *ℤ a (β' i) k) in
      let G : ℕ → ℤ = λ i. t *ℤ (U i c *ℤ a (β i) k) -ℤ U r c *ℤ (dot m (a j) (U i) *ℤ a (β i) k) in
      let e₁ : sum m F +ℤ G r ≡ sum m G +ℤ F r = sum_but m r F G X.inside (λ i l d. rw (X.stays i l d) (by₁ g t (U r c) (U' i c) (a (β i) k) (U i c) (dot m (a j) (U i)) (X.other_row i l d c lc))) in
      let e₂ : G r ≡ pos 0 = by₂ t (U r c) (a (β r) k) in
      let e₃ : F r ≡ U r c *ℤ (D *ℤ a j k) = rw X.comes (by₃ g D (U' r c) (a j k) (U r c) (X.pivot_row c lc)) in
      let e₄ : sum m G ≡ t *ℤ sum m (λ i. U i c *ℤ a (β i) k) -ℤ U r c *ℤ sum m (λ i. dot m (a j) (U i) *ℤ a (β i) k) = sum_lin m t (U r c) (λ i. U i c *ℤ a (β i) k) (λ i. dot m (a j) (U i) *ℤ a (β i) k) in
      let e₅ : U r c *ℤ (D *ℤ a j k) ≡ U r c *ℤ sum m (λ i. dot m (a j) (U i) *ℤ a (β i) k) = ap (λ z. U r c *ℤ z) (dual_spread m a β D U B (a j) k lk) in
      sym (sum-*ˡ m g (λ i. U' i c *ℤ a (β' i) k)) ∙ omega (arith, lin, e₁, e₂, e₃, e₄, e₅)

  new_right_same : (c : ℕ) → c < m → sum m (λ i. U' i c *ℤ a (β' i) c) ≡ D'
  new_right_same c l = cancel_g _ _ (rw X.denominator (right_step c c l l ∙ rw (B.right_same c l) (*ℤ_comm t D)))

  new_right_other : (c k : ℕ) → c < m → k < m → ¬ (k ≡ c) → sum m (λ i. U' i c *ℤ a (β' i) k) ≡ pos 0
  new_right_other c k lc lk d = cancel_0 _ (right_step c k lc lk ∙ rw (B.right_other c k lc lk d) (*ℤ-zero t))

  -- The new matrix is the inverse for the new limits.
  pub exchange : Inverse m a β' D' U'
  exchange = record { dpos = new_dpos; left_same = new_left_same; left_other = new_left_other; right_same = new_right_same; right_other = new_right_other }

  -- Rows with the same ratio are one row.
  apart : (s : ℕ) → s < m → ¬ (s ≡ r) → ((c : ℕ) → c < m → t *ℤ U s c -ℤ dot m (a j) (U s) *ℤ U r c ≡ pos 0) → ⊥
  apart s l d z =
      let e : dot m (a (β s)) (λ c. t *ℤ U s c -ℤ dot m (a j) (U s) *ℤ U r c) ≡ pos 0 = dot_cong m (a (β s)) _ (λ c. pos 0) z ∙ dot_zero m (a (β s)) in
      omega (arith, lin, e, dot_lin m (a (β s)) t (dot m (a j) (U s)) (U s) (U r), ap (λ z. t *ℤ z) (B.left_same s l), ap (λ z. dot m (a j) (U s) *ℤ z) (B.left_other r s X.inside l (λ f. d (sym f))), *ℤ-zero (dot m (a j) (U s)), mul_pos t D X.tpos B.dpos)

  module _ (w : ℕ) (V : (ℕ → ℤ) → ℕ → ℤ) (L : Value m w V) (rows : (s : ℕ) → s < m → Positive w (V (U s)))
      (least : Least m a w V U r j) where
    other_positive : (s : ℕ) → s < m → ¬ (s ≡ r) → Positive w (λ i. t *ℤ V (U s) i -ℤ dot m (a j) (U s) *ℤ V (U r) i)
    other_positive s l d = elim (order (dot m (a j) (U s)) (pos 0)) [
      | below n ↦ pos_cong w _ _ (λ i k. omega (arith, lin, neg-*ʳ (dot m (a j) (U s)) (V (U r) i))) (pos-+ w _ _ (pos_scale w t _ X.tpos (rows s l)) (pos_scale w (neg_ℤ (dot m (a j) (U s))) _ (omega (arith, lin)) (rows r X.inside)))
      | same e ↦ pos_cong w _ _ (λ i k. let z : dot m (a j) (U s) *ℤ V (U r) i ≡ pos 0 = rw e (zero-*ℤ (V (U r) i)) in omega (arith, lin)) (pos_scale w t _ X.tpos (rows s l))
      | above p ↦ elim (sign w (λ i. t *ℤ V (U s) i -ℤ dot m (a j) (U s) *ℤ V (U r) i)) [
        | plus q ↦ q
        | nil z ↦ absurd (apart s l d (L.faithful (λ c. t *ℤ U s c -ℤ dot m (a j) (U s) *ℤ U r c) (λ i k. value_lin m w V L t (dot m (a j) (U s)) (U s) (U r) i k ∙ z i k)))
        | minus q ↦ absurd (least s l d p (pos_cong w _ _ (λ i k. omega (arith, lin)) q))
      ]
    ]

    pub still_positive : (s : ℕ) → s < m → Positive w (V (U' s))
    still_positive s l = pos_unscale w g _ X.gpos (elim (ℕ_discrete s r) [
      | yes e ↦ rw e (pos_cong w _ _ (λ i k. sym (value_pivot w V L i k)) (pos_scale w D _ B.dpos (rows r X.inside)))
      | no d ↦ pos_cong w _ _ (λ i k. sym (value_other w V L s l d i k)) (other_positive s l d)
    ])

  -- How the solution for any right sides h moves.
  pub moves : (h : ℕ → ℤ) (c : ℕ) → c < m → g *ℤ point m β' U' h c ≡ t *ℤ point m β U h c +ℤ (D *ℤ h j -ℤ dot m (a j) (point m β U h)) *ℤ U r c
  moves h c lc =
      let F : ℕ → ℤ = λ i. g *ℤ (h (β' i) *ℤ U' i c) in
      let G : ℕ → ℤ = λ i. t *ℤ (h (β i) *ℤ U i c) -ℤ U r c *ℤ (h (β i) *ℤ dot m (a j) (U i)) in
      let e₁ : sum m F +ℤ G r ≡ sum m G +ℤ F r = sum_but m r F G X.inside (λ i l d. rw (X.stays i l d) (by₅ g t (U r c) (U' i c) (h (β i)) (U i c) (dot m (a j) (U i)) (X.other_row i l d c lc))) in
      let e₂ : G r ≡ pos 0 = by₆ t (U r c) (h (β r)) in
      let e₃ : F r ≡ D *ℤ h j *ℤ U r c = rw X.comes (by₇ g D (U' r c) (h j) (U r c) (X.pivot_row c lc)) in
      let e₄ : sum m G ≡ t *ℤ sum m (λ i. h (β i) *ℤ U i c) -ℤ U r c *ℤ sum m (λ i. h (β i) *ℤ dot m (a j) (U i)) = sum_lin m t (U r c) (λ i. h (β i) *ℤ U i c) (λ i. h (β i) *ℤ dot m (a j) (U i)) in
      let e₅ : U r c *ℤ dot m (a j) (point m β U h) ≡ U r c *ℤ sum m (λ i. h (β i) *ℤ dot m (a j) (U i)) = ap (λ z. U r c *ℤ z) (dot_point m a β D U B (a j) h) in
      sym (sum-*ˡ m g (λ i. h (β' i) *ℤ U' i c)) ∙ by₈ (U r c) (D *ℤ h j) (dot m (a j) (point m β U h)) _ _ (omega (arith, lin, e₁, e₂, e₃, e₄, e₅))

  pub value_moves : (w : ℕ) (V : (ℕ → ℤ) → ℕ → ℤ) → Value m w V → (h : ℕ → ℤ) (i : ℕ) → i < w → g *ℤ V (point m β' U' h) i ≡ t *ℤ V (point m β U h) i +ℤ (D *ℤ h j -ℤ dot m (a j) (point m β U h)) *ℤ V (U r) i
  value_moves w V L h i l = sym (value_scale m w V L g (point m β' U' h) i l) ∙ L.cong _ _ (moves h) i l ∙ L.linear t (D *ℤ h j -ℤ dot m (a j) (point m β U h)) (point m β U h) (U r) i l

  -- And the slack of any limit i.
  pub slack_moves : (h : ℕ → ℤ) (i : ℕ) → g *ℤ (D' *ℤ h i -ℤ dot m (a i) (point m β' U' h))
      ≡ t *ℤ (D *ℤ h i -ℤ dot m (a i) (point m β U h)) -ℤ (D *ℤ h j -ℤ dot m (a j) (point m β U h)) *ℤ dot m (a i) (U r)
  slack_moves h i = by₉ g D D' t (h i) (dot m (a i) (point m β U h)) (dot m (a i) (point m β' U' h)) _ X.denominator (value_moves (suc m) (full m (a i)) (full_value m (a i)) h 0 (omega arith))

  -- For any list of right sides H, the standing falls if the first nonzero slack of j is negative.
  pub progress : (w : ℕ) (V : (ℕ → ℤ) → ℕ → ℤ) → Value m w V → (n : ℕ) (H : ℕ → ℕ → ℤ) → Positive w (V (U r))
      → Positive n (λ l. neg_ℤ (D *ℤ H l j -ℤ dot m (a j) (point m β U (H l))))
      → PositiveEndToEnd n w (λ l i. D' *ℤ V (point m β U (H l)) i -ℤ D *ℤ V (point m β' U' (H l)) i)
  progress w V L n H row q = end_to_end_map n w g D _ _ X.gpos B.dpos
      (λ l i k. by₄ g D D' t (D *ℤ H l j -ℤ dot m (a j) (point m β U (H l))) (V (point m β U (H l)) i) (V (point m β' U' (H l)) i) (V (U r) i) X.denominator (value_moves w V L (H l) i k))
      (outer_neg n w (λ l. D *ℤ H l j -ℤ dot m (a j) (point m β U (H l))) (V (U r)) q row)
