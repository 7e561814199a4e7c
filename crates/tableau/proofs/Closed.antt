-- A closed list of corners answers every reading at which a command exists, and no run leaves it.
use Prim.Native.Nat.{ℕ, suc, ◌*◌, ◌<◌}
use mathlib.Core.Path.{◌≡◌, refl, sym, ap, ap₂, ◌∙◌, subst}
use mathlib.Core.Logic.{◌⊎◌, inl, inr}
use native.Mathlib.Omega.{arith}
use native.Mathlib.Decide.{ℕ_discrete}
use lib.IntN.{ℤ, pos, ◌-ℤ◌, ◌*ℤ◌, neg_ℤ}
use lib.Signed.{◌<ℤ◌, ◌≤ℤ◌}
use Rattle.exact.specs.Vectors.{dot}
use Rattle.exact.specs.Value.{Value, full}
use Rattle.exact.proofs.Ring.{lin, expand, le_or_lt, mul_pos, pos_of_mul}
use Rattle.exact.proofs.Positive.{pos_cong, pos_scale, pos_unscale, decide}
use Rattle.exact.proofs.Values.{full_value, value_scale}
use Rattle.exact.proofs.Finite.{none, one, lowest_of}
use Rattle.tableau.specs.Basis.{Inverse, Among}
use Rattle.tableau.specs.Points.{point, slack, sides, Willing, negative}
use Rattle.tableau.specs.Exchange.{Exchanged, Leaves}
use Rattle.tableau.specs.Corner.{Corner, Falls}
use Rattle.tableau.specs.Chain.{Chain, done, more}
use Rattle.tableau.proofs.Simplex.{no_command}
use Rattle.tableau.proofs.Willing.{begins, injective}
use Rattle.tableau.proofs.Unique.{meets, tableau_unique}
use Rattle.tableau.proofs.Lowest.{among_back}
use Rattle.tableau.proofs.Pivots.{leaving_one}
use Rattle.tableau.proofs.Runs.{Neighbour, Move, move_falls, falls_trans, same_stands}

module _ (m n : ℕ) (a : ℕ → ℕ → ℤ) (w : ℕ) (V : (ℕ → ℤ) → ℕ → ℤ) (L : Value m w V) where
  -- Of the first k corners of C, each limit outside one of them finds no row to leave, or leads to one of them.
  abbrev pub Closed : ℕ → (ℕ → Corner m n a w V) → Type 0
  Closed k C = (i : ℕ) → i < k → (j : ℕ) → j < n → ((r : ℕ) → r < m → ¬ ((C i).β r ≡ j))
      → ((r : ℕ) → r < m → dot m (a j) ((C i).U r) ≤ℤ pos 0) ⊎ ((i' : ℕ) × (i' < k) × Neighbour m n a w V L (C i) j (C i'))

  -- X has the limits of one of them.
  abbrev pub AmongThem : ℕ → (ℕ → Corner m n a w V) → Corner m n a w V → Type 0
  AmongThem k C X = (i : ℕ) × (i < k) × Among m X.β (C i).β

  -- An exchange by a willing limit leads to a lower standing.
  willing_falls : (h : ℕ → ℤ) (j : ℕ) → j < n → (X Y : Corner m n a w V) → Willing m a X.β X.U (slack m a X.β X.D X.U h j) j → Neighbour m n a w V L X j Y → Falls m n a w V (suc n) (sides h) X Y
  willing_falls h j l X Y v c = move_falls m n a w V L (suc n) (sides h) X Y (record { j = j; enters = l; willing = begins m a X.β X.D X.U X.inverse h n j l v; to = c })

  -- Where a command keeps all the limits, so does the solution of a listed corner.
  pub finished : (k : ℕ) (C : ℕ → Corner m n a w V) → 0 < k → Closed k C → (h p : ℕ → ℤ) (s : ℤ) → pos 0 <ℤ s → ((j : ℕ) → j < n → dot m (a j) p ≤ℤ (s *ℤ h j))
      → (i : ℕ) × (i < k) × ((j : ℕ) → j < n → dot m (a j) (point m (C i).β (C i).U h) ≤ℤ ((C i).D *ℤ h j))
  finished k C some closed h p s ps keeps = elim (lowest_of (λ i. Unit {0}) (λ i j. Falls m n a w V (suc n) (sides h) (C i) (C j)) (λ i. yes tt) (λ i j. decide (suc n * w) _)
      (λ i t u. same_stands m n a w V L (suc n) (sides h) (C i) (C i) (λ r l. (r, l, refl)) u) (λ i j l t u v. falls_trans m n a w V L (suc n) (sides h) (C i) (C j) (C l)) k) [
        | none f ↦ absurd (f 0 some tt)
        | one i l t f ↦ (i, l, kept i l (λ i' l'. f i' l' tt))
      ]
    where
      out : (i j : ℕ) → ((C i).D *ℤ h j) <ℤ dot m (a j) (point m (C i).β (C i).U h) → (r : ℕ) → r < m → ¬ ((C i).β r ≡ j)
      out i j q r l e = omega (arith, lin, q, subst (λ j. dot m (a j) (point m (C i).β (C i).U h) ≡ (C i).D *ℤ h j) e (meets m a (C i).β (C i).D (C i).U (C i).inverse h r l))

      kept : (i : ℕ) → i < k → ((i' : ℕ) → i' < k → Falls m n a w V (suc n) (sides h) (C i) (C i') → ⊥) → (j : ℕ) → j < n → dot m (a j) (point m (C i).β (C i).U h) ≤ℤ ((C i).D *ℤ h j)
      kept i l f j lj = elim (le_or_lt (dot m (a j) (point m (C i).β (C i).U h)) ((C i).D *ℤ h j)) [
        | inl q ↦ q
        | inr q ↦ absurd (elim (closed i l j lj (out i j q)) [
          | inl no_row ↦ no_command m a (C i).β (C i).D (C i).U (C i).inverse h j q no_row p s ps (λ r lr. keeps ((C i).β r) ((C i).known r lr)) (keeps j lj)
          | inr (i', l', c) ↦ f i' l' (willing_falls h j lj (C i) (C i') (negative (omega (arith, lin))) c)
        ])
      ]

by_both : (d e x y z u x' y' z' u' : ℤ) → d *ℤ x ≡ e *ℤ x' → d *ℤ y ≡ e *ℤ y' → d *ℤ z ≡ e *ℤ z' → d *ℤ u ≡ e *ℤ u' → (d *ℤ d) *ℤ (x *ℤ y -ℤ z *ℤ u) ≡ (e *ℤ e) *ℤ (x' *ℤ y' -ℤ z' *ℤ u')
by_both d e x y z u x' y' z' u' ex ey ez eu = regroup d x y z u ∙ ap₂ ◌-ℤ◌ (ap₂ ◌*ℤ◌ ex ey) (ap₂ ◌*ℤ◌ ez eu) ∙ sym (regroup e x' y' z' u')
  where
    regroup : (d x y z u : ℤ) → (d *ℤ d) *ℤ (x *ℤ y -ℤ z *ℤ u) ≡ (d *ℤ x) *ℤ (d *ℤ y) -ℤ (d *ℤ z) *ℤ (d *ℤ u)
    regroup d x y z u = simp expand (omega (arith, lin))

-- Two inverses of the same limits.
module _ (m : ℕ) (a : ℕ → ℕ → ℤ) (β : ℕ → ℕ) (D : ℤ) (U : ℕ → ℕ → ℤ) (B : Inverse m a β D U) (β₂ : ℕ → ℕ) (D₂ : ℤ) (U₂ : ℕ → ℕ → ℤ) (B₂ : Inverse m a β₂ D₂ U₂) (among : Among m β β₂) where
  pub value_same : (w : ℕ) (V : (ℕ → ℤ) → ℕ → ℤ) (L : Value m w V) (r s : ℕ) → r < m → s < m → β₂ s ≡ β r → (i : ℕ) → i < w → D *ℤ V (U₂ s) i ≡ D₂ *ℤ V (U r) i
  value_same w V L r s lr ls e i l = sym (value_scale m w V L D (U₂ s) i l) ∙ L.cong _ _ (tableau_unique m a β D U B β₂ D₂ U₂ B₂ among r s lr ls e) i l ∙ value_scale m w V L D₂ (U r) i l

  pub dot_same : (y : ℕ → ℤ) (r s : ℕ) → r < m → s < m → β₂ s ≡ β r → D *ℤ dot m y (U₂ s) ≡ D₂ *ℤ dot m y (U r)
  dot_same y r s lr ls e = value_same (suc m) (full m y) (full_value m y) r s lr ls e 0 (omega arith)

  positive_same : (j r s : ℕ) → r < m → s < m → β₂ s ≡ β r → pos 0 <ℤ dot m (a j) (U r) → pos 0 <ℤ dot m (a j) (U₂ s)
  positive_same j r s lr ls e p = pos_of_mul (dot m (a j) (U₂ s)) D B.dpos (rw (dot_same (a j) r s lr ls e) (mul_pos D₂ (dot m (a j) (U r)) B₂.dpos p))

  positive_back : (j r s : ℕ) → r < m → s < m → β₂ s ≡ β r → pos 0 <ℤ dot m (a j) (U₂ s) → pos 0 <ℤ dot m (a j) (U r)
  positive_back j r s lr ls e p = pos_of_mul (dot m (a j) (U r)) D₂ B₂.dpos (rw (← (dot_same (a j) r s lr ls e)) (mul_pos D (dot m (a j) (U₂ s)) B.dpos p))

  -- The same limit leaves.
  pub leaves_same : (w : ℕ) (V : (ℕ → ℤ) → ℕ → ℤ) (L : Value m w V) (j r s : ℕ) → r < m → s < m → β₂ s ≡ β r → Leaves m a w V U j r → Leaves m a w V U₂ j s
  leaves_same w V L j r s lr ls e f = record {
    inside = ls;
    above = positive_same j r s lr ls e f.above;
    least = λ s' ls' d p u.
        let (q, lq, k) = among_back m a β D U B β₂ D₂ U₂ B₂ among s' ls' in
        f.least q lq (λ n. d (injective m a β₂ D₂ U₂ B₂ s' s ls' ls (sym k ∙ ap β n ∙ sym e))) (positive_back j q s' lq ls' (sym k) p)
        (pos_unscale w (D₂ *ℤ D₂) _ (mul_pos D₂ D₂ B₂.dpos B₂.dpos)
        (pos_cong w _ _ (λ i l. by_both D D₂ (dot m (a j) (U₂ s')) (V (U₂ s) i) (dot m (a j) (U₂ s)) (V (U₂ s') i) (dot m (a j) (U q)) (V (U r) i) (dot m (a j) (U r)) (V (U q) i)
        (dot_same (a j) q s' lq ls' (sym k)) (value_same w V L r s lr ls e i l) (dot_same (a j) r s lr ls e) (value_same w V L q s' lq ls' (sym k) i l))
        (pos_scale w (D *ℤ D) _ (mul_pos D D B.dpos B.dpos) u)));
  }

  -- An exchange leads to the same limits.
  pub same_exchange : (w : ℕ) (V : (ℕ → ℤ) → ℕ → ℤ) (L : Value m w V) (j r : ℕ) (g : ℤ) (β' : ℕ → ℕ) (D' : ℤ) (U' : ℕ → ℕ → ℤ) (s : ℕ) (g₂ : ℤ) (β₂' : ℕ → ℕ) (D₂' : ℤ) (U₂' : ℕ → ℕ → ℤ)
      → Leaves m a w V U j r → Exchanged m a β D U r j g β' D' U' → Leaves m a w V U₂ j s → Exchanged m a β₂ D₂ U₂ s j g₂ β₂' D₂' U₂' → Among m β' β₂'
  same_exchange w V L j r g β' D' U' s g₂ β₂' D₂' U₂' f X f₂ Y =
      let (s₀, l₀, e₀) = among r X.inside in
      go s₀ e₀ (leaving_one m a β₂ D₂ U₂ B₂ w V L j s₀ s (leaves_same w V L j r s₀ X.inside l₀ e₀ f) f₂)
    where
      go : (s₀ : ℕ) → β₂ s₀ ≡ β r → s₀ ≡ s → Among m β' β₂'
      go s₀ e₀ k i l = elim (ℕ_discrete i r) [
        | yes d ↦ (s, Y.inside, Y.comes ∙ sym X.comes ∙ ap β' (sym d))
        | no d ↦ let (q, lq, e) = among i l in
            (q, lq, Y.stays q lq (λ n. d (injective m a β D U B i r l X.inside (sym e ∙ ap β₂ (n ∙ sym k) ∙ e₀))) ∙ e ∙ sym (X.stays i l d))
      ]

module _ (m n : ℕ) (a : ℕ → ℕ → ℤ) (w : ℕ) (V : (ℕ → ℤ) → ℕ → ℤ) (L : Value m w V) (k : ℕ) (C : ℕ → Corner m n a w V) (closed : Closed m n a w V L k C) where
  -- No run leaves a closed list.
  pub move_listed : (K : ℕ) (H : ℕ → ℕ → ℤ) (X Y : Corner m n a w V) → Move m n a w V L K H X Y → AmongThem m n a w V L k C X → AmongThem m n a w V L k C Y
  move_listed K H X Y v (i, l, s) = elim (closed i l v.j v.enters outside) [
    | inl blocked ↦
        let (q, lq, e) = s z.r z.exchanged.inside in
        absurd (omega (arith, lin, blocked q lq, positive_same m a X.β X.D X.U X.inverse (C i).β (C i).D (C i).U (C i).inverse s v.j z.r q z.exchanged.inside lq e z.exchanged.tpos))
    | inr (i', l', c) ↦ (
      i',
      l',
      λ r lr.
          let (t, lt, d) = among_back m a z.Z.β z.Z.D z.Z.U z.Z.inverse Y.β Y.D Y.U Y.inverse z.same r lr in
          let (q, lq, e) = same_exchange m a X.β X.D X.U X.inverse (C i).β (C i).D (C i).U (C i).inverse s w V L v.j z.r z.g z.Z.β z.Z.D z.Z.U c.r c.g c.Z.β c.Z.D c.Z.U z.leaves z.exchanged c.leaves c.exchanged t lt in
          let (p, lp, f) = c.same q lq in
          (p, lp, f ∙ e ∙ d),
    )
  ]
    where
      z : Neighbour m n a w V L X v.j Y
      z = v.to

      not_in : (q : ℕ) → q < m → (place : ℕ) → pos 0 <ℤ neg_ℤ (X.D *ℤ H place v.j -ℤ dot m (a v.j) (point m X.β X.U (H place))) → ¬ (X.β q ≡ v.j)
      not_in q lq z p e = omega (arith, lin, subst (λ j. dot m (a j) (point m X.β X.U (H z)) ≡ X.D *ℤ H z j) e (meets m a X.β X.D X.U X.inverse (H z) q lq))

      outside : (r : ℕ) → r < m → ¬ ((C i).β r ≡ v.j)
      outside r lr e = let (q, lq, f) = among_back m a X.β X.D X.U X.inverse (C i).β (C i).D (C i).U (C i).inverse s r lr in not_in q lq v.willing.place v.willing.lead (f ∙ e)

  pub run_listed : (K : ℕ) (H : ℕ → ℕ → ℤ) {X Y : Corner m n a w V} {t : ℕ} → Chain (Move m n a w V L K H) X t Y → AmongThem m n a w V L k C X → AmongThem m n a w V L k C Y
  run_listed K H done s = s
  run_listed K H (more {y = y} {z = z} c v) s = move_listed K H y z v (run_listed K H c s)
