-- A run whose steps all fall under a transitive order never comes twice to one place, and so is short.
use Prim.Native.Nat.{ℕ, zero, suc, ◌<◌, ◌≤◌}
use mathlib.Core.Path.{◌≡◌, refl, sym, ◌∙◌}
use mathlib.Core.Logic.{◌⊎◌, inl, inr}
use native.Mathlib.Omega.{arith}
use native.Mathlib.Decide.{ℕ_discrete}
use Rattle.tableau.specs.Chain.{Chain, done, more}

-- u where A holds, else v.
pick : {A : Type 0} → Dec A → ℕ → ℕ → ℕ
pick (yes e) u v = u
pick (no d) u v = v

pick_is : {A : Type 0} (d : Dec A) (u v : ℕ) → (A × (pick d u v ≡ u)) ⊎ ((¬ A) × (pick d u v ≡ v))
unfolding pick
pick_is (yes e) u v = inl (e, refl)
pick_is (no d) u v = inr (d, refl)

-- Of k different numbers below N, k is at most N.
pigeon : (k N : ℕ) (f : ℕ → ℕ) → ((i : ℕ) → i < k → f i < N) → ((i j : ℕ) → i < k → j < k → f i ≡ f j → i ≡ j) → k ≤ N
pigeon zero N f small one = omega arith
pigeon (suc k) zero f small one = absurd (omega (arith, small 0 (omega arith)))
pigeon (suc k) (suc N) f small one = let l : k ≤ N = pigeon k N g smaller apart in omega arith
  where
    g : ℕ → ℕ
    g i = pick (ℕ_discrete (f i) N) (f k) (f i)

    g_is : (i : ℕ) → ((f i ≡ N) × (g i ≡ f k)) ⊎ ((¬ (f i ≡ N)) × (g i ≡ f i))
    g_is i = pick_is (ℕ_discrete (f i) N) (f k) (f i)

    last : (i : ℕ) → i < k → ¬ (f i ≡ f k)
    last i l e = omega (arith, one i k (omega arith) (omega arith) e)

    smaller : (i : ℕ) → i < k → g i < N
    smaller i l = elim (g_is i) [
      | inl (e, q) ↦ let d : ¬ (f i ≡ f k) = last i l in omega (arith, small k (omega arith))
      | inr (d, q) ↦ omega (arith, small i (omega arith))
    ]

    apart : (i j : ℕ) → i < k → j < k → g i ≡ g j → i ≡ j
    apart i j li lj e = elim (g_is i) [
      | inl (u, p) ↦ elim (g_is j) [
        | inl (v, q) ↦ one i j (omega arith) (omega arith) (omega arith)
        | inr (v, q) ↦ absurd (last j lj (omega arith))
      ]
      | inr (u, p) ↦ elim (g_is j) [
        | inl (v, q) ↦ absurd (last i li (omega arith))
        | inr (v, q) ↦ one i j (omega arith) (omega arith) (omega arith)
      ]
    ]

module _ {A : Type 0} (S R : A → A → Type 0) (code : A → ℕ) (falls : (x y : A) → S x y → R x y) (trans : (x y z : A) → R x y → R y z → R x z)
    (apart : (x y : A) → R x y → ¬ (code x ≡ code y)) where
  -- Each later one is below each earlier one.
  pub descends : {x y z : A} {k : ℕ} → Chain S x k y → R y z → R x z
  descends done h = h
  descends {z = z} (more {y = u} {z = v} c s) h = descends c (trans u v z (falls u v s) h)

  visit : {x y : A} {k : ℕ} → Chain S x k y → ℕ → ℕ
  visit {x} done i = code x
  visit (more {k = k} {z = z} c s) i = pick (ℕ_discrete i (suc k)) (code z) (visit c i)

  past : {x y : A} {k : ℕ} (c : Chain S x k y) (z : A) → R y z → (i : ℕ) → i ≤ k → ¬ (visit c i ≡ code z)
  unfolding visit
  past {x} done z h i l f = apart x z h f
  past (more {k = k} {y = u} {z = v} c s) z h i l f = elim (pick_is (ℕ_discrete i (suc k)) (code v) (visit c i)) [
    | inl (e, q) ↦ apart v z h (sym q ∙ f)
    | inr (d, q) ↦ past c z (trans u v z (falls u v s) h) i (omega arith) (sym q ∙ f)
  ]

  one : {x y : A} {k : ℕ} (c : Chain S x k y) (i j : ℕ) → i ≤ k → j ≤ k → visit c i ≡ visit c j → i ≡ j
  unfolding visit
  one done i j li lj e = omega arith
  one (more {k = k} {y = u} {z = v} c s) i j li lj e = elim (pick_is (ℕ_discrete i (suc k)) (code v) (visit c i)) [
    | inl (p, q) ↦ elim (pick_is (ℕ_discrete j (suc k)) (code v) (visit c j)) [
      | inl (p', q') ↦ omega arith
      | inr (p', q') ↦ absurd (past c v (falls u v s) j (omega arith) (sym q' ∙ sym e ∙ q))
    ]
    | inr (p, q) ↦ elim (pick_is (ℕ_discrete j (suc k)) (code v) (visit c j)) [
      | inl (p', q') ↦ absurd (past c v (falls u v s) i (omega arith) (sym q ∙ e ∙ q'))
      | inr (p', q') ↦ one c i j (omega arith) (omega arith) (sym q ∙ e ∙ q')
    ]
  ]

  seen : {x y : A} {k : ℕ} (N : ℕ) → ((z : A) → code z < N) → (c : Chain S x k y) (i : ℕ) → visit c i < N
  unfolding visit
  seen {x} N small done i = small x
  seen N small (more {k = k} {z = z} c s) i = elim (pick_is (ℕ_discrete i (suc k)) (code z) (visit c i)) [ inl (e, q) ↦ omega (arith, small z) | inr (d, q) ↦ omega (arith, seen N small c i) ]

  -- There are fewer steps than codes.
  pub bounded : {x y : A} {k : ℕ} (N : ℕ) → ((z : A) → code z < N) → Chain S x k y → k < N
  bounded {k = k} N small c = pigeon (suc k) N (visit c) (λ i l. seen N small c i) (λ i j li lj e. one c i j (omega arith) (omega arith) e)

-- Steps of S are steps of S'.
pub chain_map : {A : Type 0} (S S' : A → A → Type 0) → ((x y : A) → S x y → S' x y) → {x y : A} {k : ℕ} → Chain S x k y → Chain S' x k y
chain_map S S' f done = done
chain_map S S' f (more {y = y} {z = z} c s) = more (chain_map S S' f c) (f y z s)
