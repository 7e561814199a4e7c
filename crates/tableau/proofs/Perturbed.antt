-- Lexicographic order is order for every small enough perturbation.
use Prim.Native.Nat.{ℕ, zero, suc, ◌+◌, ◌-◌, ◌^◌, ◌<◌}
use mathlib.Core.Path.{◌≡◌, refl, sym, ap, ap₂, ◌∙◌}
use mathlib.Core.List.{List}
use native.Mathlib.Omega.{arith}
use native.Mathlib.Nat as NatL
use native.Mathlib.Decide.{ℕ_discrete}
use lib.IntN.{ℤ, pos, negsuc, ◌+ℤ◌, ◌*ℤ◌, neg_ℤ, nat_abs, zero-*ℤ, *ℤ-zero, *ℤ_comm}
use lib.Signed.{◌<ℤ◌}
use Rattle.exact.specs.Vectors.{sum, dot, entries}
use Rattle.exact.specs.Lists.{Positive}
use Rattle.exact.proofs.Ring.{lin, expand, one-*, *-left-comm, mul_mono}
use Rattle.exact.proofs.Sums.{sum_cong, sum_zero, sum_at, sum-+, sum-*ˡ}
use Rattle.exact.proofs.Positive.{plus, nil, minus, sign}
use Rattle.plant.specs.Meaning.{Meaning}
use Rattle.plant.specs.Commands.{column, side, value}
use Rattle.tableau.specs.Points.{slack, unit, sides}
use Rattle.tableau.specs.Plants.{commands, limits, CornerOf}
use Rattle.tableau.specs.Readings.{WillingAt}
use Rattle.tableau.specs.Perturbed.{ForLarge, expansion, perturbed_gains, perturbed_sides}
use Rattle.tableau.specs.TheoremsPerturbed.{PositiveListsArePositiveNumbers, CornersArePositiveForPerturbedGains, PositiveForPerturbedGainsAreCorners, WillingLimitsAreNegativeForPerturbedSides}
use Rattle.tableau.proofs.Simplex.{sum_neg}
use Rattle.tableau.proofs.Points.{sum_first, slack_comb}
use Rattle.tableau.proofs.Willing.{unit_same, unit_other, begins}
use Rattle.tableau.proofs.ReducedCosts.{willing_back}
use Rattle.tableau.proofs.Solves.{willing_side, side_willing}

power : (N w i : ℕ) → i < w → pos (N ^ (suc w - suc i)) ≡ pos N *ℤ pos (N ^ (w - suc i))
power N w i l = let e : suc w - suc i ≡ suc (w - suc i) = omega arith in rw e (ap pos (NatL.pow-succ' N (w - suc i)))

-- One number more, as in the scheme of Horner.
expansion_more : (w : ℕ) (u : ℕ → ℤ) (N : ℕ) → expansion (suc w) u N ≡ pos N *ℤ expansion w u N +ℤ u w
unfolding sum
expansion_more w u N = ap₂ ◌+ℤ◌ (sum_cong w _ _ (λ i l. ap (λ z. u i *ℤ z) (power N w i l) ∙ *-left-comm (u i) (pos N) (pos (N ^ (w - suc i)))) ∙ sum-*ˡ w (pos N) (λ i. u i *ℤ pos (N ^ (w - suc i)))) last
  where
    last : u w *ℤ pos (N ^ (suc w - suc w)) ≡ u w
    last = let e : suc w - suc w ≡ 0 = omega arith in rw (e, NatL.pow-zero N) (*ℤ_comm (u w) (pos 1) ∙ one-* (u w))

above_size : (z : ℤ) (N : ℕ) → nat_abs z < N → pos 0 <ℤ (pos N +ℤ z)
above_size (pos n) N l = omega (arith, lin)
above_size (negsuc n) N l = omega (arith, lin)

grows : (N : ℕ) (x z : ℤ) → nat_abs z < N → pos 0 <ℤ x → pos 0 <ℤ (pos N *ℤ x +ℤ z)
grows N x z l g = omega (arith, lin, above_size z N l, mul_mono (pos 1) x (pos N) (omega (arith, lin)) (omega (arith, lin)), one-* (pos N), *ℤ_comm (pos N) x)

large : (w : ℕ) (u : ℕ → ℤ) → Positive w u → ForLarge (λ N. pos 0 <ℤ expansion w u N)
large zero u p = absurd (omega (arith, p.inside))
large (suc w) u p = elim (ℕ_discrete p.place w) [
  | yes e ↦ (0, λ N l. rw (expansion_more w u N, sum_zero w (λ i. u i *ℤ pos (N ^ (w - suc i))) (λ i k. rw (p.zeros i (omega arith)) (zero-*ℤ (pos (N ^ (w - suc i)))))) (omega (arith, lin, *ℤ-zero (pos N), rw e at p.lead)))
  | no d ↦
      let (N₀, f) = large w u (record { place = p.place; inside = omega (arith, p.inside); zeros = p.zeros; lead = p.lead }) in
      (N₀ + suc (nat_abs (u w)), λ N l. rw (expansion_more w u N) (grows N (expansion w u N) (u w) (omega arith) (f N (omega arith))))
]

expansion_neg : (w : ℕ) (u : ℕ → ℤ) (N : ℕ) → expansion w (λ i. neg_ℤ (u i)) N ≡ neg_ℤ (expansion w u N)
expansion_neg w u N = sum_neg w u (λ i. pos (N ^ (w - suc i)))

back : (w : ℕ) (u : ℕ → ℤ) → ForLarge (λ N. pos 0 <ℤ expansion w u N) → Positive w u
back w u (N₀, f) = elim (sign w u) [
  | plus p ↦ p
  | nil z ↦ absurd (omega (arith, lin, f N₀ (omega arith), sum_zero w (λ i. u i *ℤ pos (N₀ ^ (w - suc i))) (λ i k. rw (z i k) (zero-*ℤ (pos (N₀ ^ (w - suc i)))))))
  | minus p ↦ let (N₁, g) = large w (λ i. neg_ℤ (u i)) p in absurd (omega (arith, lin, f (N₀ + N₁) (omega arith), g (N₀ + N₁) (omega arith), expansion_neg w u (N₀ + N₁)))
]

pub positive_numbers : PositiveListsArePositiveNumbers
positive_numbers w u = (large w u, back w u)

all_large : (m : ℕ) (P : ℕ → ℕ → Type 0) → ((r : ℕ) → r < m → ForLarge (P r)) → ForLarge (λ N. (r : ℕ) → r < m → P r N)
all_large zero P h = (0, λ N l r k. absurd (omega arith))
all_large (suc m) P h =
    let (N₁, f) = all_large m P (λ r l. h r (omega arith)) in
    let (N₂, g) = h m (omega arith) in
    (N₁ + N₂, λ N l r k. elim (ℕ_discrete r m) [ yes e ↦ rw e (g N (omega arith)) | no d ↦ f N (omega arith) r (omega arith) ])

-- The value list of x stands for the gain of x under the perturbed gains.
gain_expansion : (p : Meaning) (x : ℕ → ℤ) (N : ℕ) → expansion (suc (commands p)) (value p x) N ≡ dot (commands p) (perturbed_gains p N) x
unfolding dot
gain_expansion p x N =
    sum_first (commands p) (λ i. value p x i *ℤ pos (N ^ (suc (commands p) - suc i)))
    ∙ omega (
      arith,
      lin,
      head,
      tail,
      sym (sum_cong (commands p) _ _ (λ c l. by (entries p.gains c) (pos (N ^ commands p)) (pos (N ^ (commands p - suc c))) (x c))),
      sum-+ (commands p) (λ c. pos (N ^ commands p) *ℤ (entries p.gains c *ℤ x c)) (λ c. x c *ℤ pos (N ^ (commands p - suc c))),
      sum-*ˡ (commands p) (pos (N ^ commands p)) (λ c. entries p.gains c *ℤ x c),
    )
  where
    head : value p x 0 *ℤ pos (N ^ (suc (commands p) - 1)) ≡ pos (N ^ commands p) *ℤ dot (commands p) (entries p.gains) x
    head = let e : suc (commands p) - 1 ≡ commands p = omega arith in rw e (*ℤ_comm (value p x 0) (pos (N ^ commands p)))

    tail : sum (commands p) (λ i. value p x (suc i) *ℤ pos (N ^ (suc (commands p) - suc (suc i)))) ≡ sum (commands p) (λ i. x i *ℤ pos (N ^ (commands p - suc i)))
    tail = sum_cong (commands p) _ _ (λ i l. let e : suc (commands p) - suc (suc i) ≡ commands p - suc i = omega arith in rw e)

    by : (b n k x : ℤ) → (b *ℤ n +ℤ k) *ℤ x ≡ n *ℤ (b *ℤ x) +ℤ x *ℤ k
    by b n k x = simp expand

pub corner_large : CornersArePositiveForPerturbedGains
corner_large p X = all_large (commands p) (λ r N. pos 0 <ℤ dot (commands p) (perturbed_gains p N) (X.U r))
    (λ r l. let (N₀, f) = large (suc (commands p)) (value p (X.U r)) (X.rows r l) in (N₀, λ N k. rw (← (gain_expansion p (X.U r) N)) (f N k)))

pub large_corner : PositiveForPerturbedGainsAreCorners
large_corner p β D U known t (N₀, f) = (
  record {
    β = β;
    D = D;
    U = U;
    known = known;
    inverse = t.inverse;
    lowest = t.lowest;
    rows = λ r l. back (suc (commands p)) (value p (U r)) (N₀, λ N k. rw (gain_expansion p (U r) N) (f N k r l));
  },
  refl,
  refl,
  refl,
)

module _ (p : Meaning) (θ : List ℤ) (X : CornerOf p) (j : ℕ) (known : j < limits p) where
  -- The perturbed sides are a combination of the sides and the unit right sides.
  sides_expansion : (N i : ℕ) → i < limits p → perturbed_sides p θ N i ≡ sum (suc (limits p)) (λ l. pos (N ^ (suc (limits p) - suc l)) *ℤ sides (side p θ) l i)
  sides_expansion N i l = sym (sum_first (limits p) (λ l. pos (N ^ (suc (limits p) - suc l)) *ℤ sides (side p θ) l i) ∙ ap₂ ◌+ℤ◌ head tail)
    where
      head : pos (N ^ (suc (limits p) - 1)) *ℤ side p θ i ≡ side p θ i *ℤ pos (N ^ limits p)
      head = let e : suc (limits p) - 1 ≡ limits p = omega arith in rw e (*ℤ_comm (pos (N ^ limits p)) (side p θ i))

      tail : sum (limits p) (λ l. pos (N ^ (suc (limits p) - suc (suc l))) *ℤ unit l i) ≡ pos (N ^ (limits p - suc i))
      tail = sum_at (limits p) i _ l (λ c k d. rw (unit_other c i d) (*ℤ-zero (pos (N ^ (suc (limits p) - suc (suc c))))))
          ∙ (let e : suc (limits p) - suc (suc i) ≡ limits p - suc i = omega arith in rw (e, unit_same i) (*ℤ_comm (pos (N ^ (limits p - suc i))) (pos 1) ∙ one-* (pos (N ^ (limits p - suc i)))))

  abbrev slacks : ℕ → ℤ
  slacks l = slack (commands p) (column p) X.β X.D X.U (sides (side p θ) l) j

  -- The slacks for them stand for the slack for the perturbed sides.
  slack_expansion : (N : ℕ) → expansion (suc (limits p)) slacks N ≡ slack (commands p) (column p) X.β X.D X.U (perturbed_sides p θ N) j
  slack_expansion N =
      sum_cong (suc (limits p)) _ _ (λ l k. *ℤ_comm (slacks l) (pos (N ^ (suc (limits p) - suc l))))
      ∙ slack_comb (commands p) (column p) X.β X.D X.U (suc (limits p)) (λ l. pos (N ^ (suc (limits p) - suc l))) (sides (side p θ)) (perturbed_sides p θ N) (λ r l. sides_expansion N (X.β r) (X.known r l)) j (sides_expansion N j known)

  negative_expansion : (N : ℕ) → expansion (suc (limits p)) (λ l. neg_ℤ (slacks l)) N ≡ neg_ℤ (slack (commands p) (column p) X.β X.D X.U (perturbed_sides p θ N) j)
  negative_expansion N = expansion_neg (suc (limits p)) slacks N ∙ ap neg_ℤ (slack_expansion N)

pub willing_large : WillingLimitsAreNegativeForPerturbedSides
willing_large p θ X j known = (there, here)
  where
    there : WillingAt p X θ j → ForLarge (λ N. slack (commands p) (column p) X.β X.D X.U (perturbed_sides p θ N) j <ℤ pos 0)
    there w =
        let (N₀, f) = large (suc (limits p)) (λ l. neg_ℤ (slacks p θ X j known l)) (begins (commands p) (column p) X.β X.D X.U X.inverse (side p θ) (limits p) j known (willing_side p θ X j w)) in
        (N₀, λ N l. omega (arith, lin, f N l, negative_expansion p θ X j known N))

    here : ForLarge (λ N. slack (commands p) (column p) X.β X.D X.U (perturbed_sides p θ N) j <ℤ pos 0) → WillingAt p X θ j
    here (N₀, f) = side_willing p θ X j (willing_back (commands p) (column p) X.β X.D X.U X.inverse (side p θ) (limits p) j
        (back (suc (limits p)) (λ l. neg_ℤ (slacks p θ X j known l)) (N₀, λ N l. omega (arith, lin, f N l, negative_expansion p θ X j known N))))
