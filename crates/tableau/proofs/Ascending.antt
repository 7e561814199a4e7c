-- The limits of a basis have one ascending order.
use Prim.Native.Nat.{ℕ, zero, suc, ◌<◌, ◌≤◌}
use mathlib.Core.Path.{◌≡◌, refl, sym, ap, ◌∙◌}
use native.Mathlib.Omega.{arith}
use native.Mathlib.Decide.{ℕ_discrete, dec_le, dec_lt}
use lib.IntN.{ℤ}
use Rattle.exact.proofs.Finite.{LowestOf, none, one, lowest_of}
use Rattle.plant.specs.Commands.{column}
use Rattle.tableau.specs.Basis.{Among, Ascending}
use Rattle.tableau.specs.Tableau.{Tableau}
use Rattle.tableau.specs.Plants.{commands, CornerOf}
use Rattle.tableau.specs.Runs.{HasSameLimits}
use Rattle.tableau.specs.TheoremsBasis.{TableausHaveAnAscendingOrder, CornersHaveAnAscendingOrder, OneAscendingOrder}
use Rattle.tableau.proofs.Willing.{injective}
use Rattle.tableau.proofs.Permuted.{Permutes, permuted, lowest_permuted, swap, first, second, other, swap_is, swap_permutes}

-- The limits of β in an order in which the first s places hold the least, ascending.
record Sorted (m : ℕ) (β : ℕ → ℕ) (s : ℕ) : Type 0 where
  π : ℕ → ℕ
  π⁻ : ℕ → ℕ
  permutes : Permutes m π π⁻
  least : (i j : ℕ) → i < s → i < j → j < m → β (π i) < β (π j)

module _ (m : ℕ) (β : ℕ → ℕ) (different : (r s : ℕ) → r < m → s < m → β r ≡ β s → r ≡ s) where
  next : (s : ℕ) → s < m → Sorted m β s → Sorted m β (suc s)
  next s ls S = by (lowest_of (λ i. s ≤ i) (λ i j. γ j < γ i) (λ i. dec_le s i) (λ i j. dec_lt (γ j) (γ i)) (λ i l u. omega arith) (λ i j k li lj lk u v. omega arith) m)
    where
      γ : ℕ → ℕ
      γ i = β (S.π i)

      by : LowestOf m (λ i. s ≤ i) (λ i j. γ j < γ i) → Sorted m β (suc s)
      by (none f) = absurd (f s ls (omega arith))
      by (one q lq k f) = record { π = λ i. S.π (swap s q i); π⁻ = λ i. swap s q (S.π⁻ i); permutes = both; least = least }
        where
          τ : Permutes m (swap s q) (swap s q)
          τ = swap_permutes m s q ls lq

          both : Permutes m (λ i. S.π (swap s q i)) (λ i. swap s q (S.π⁻ i))
          both = record {
            there = λ i l. S.permutes.there (swap s q i) (τ.there i l);
            back = λ i l. τ.back (S.π⁻ i) (S.permutes.back i l);
            right = λ i l. ap S.π (τ.right (S.π⁻ i) (S.permutes.back i l)) ∙ S.permutes.right i l;
            left = λ i l. ap (swap s q) (S.permutes.left (swap s q i) (τ.there i l)) ∙ τ.left i l;
          }

          -- Places from s on stay among themselves, and those before stay.
          late : (j : ℕ) → s ≤ j → s ≤ swap s q j
          late j l = elim (swap_is s q j) [ first e u ↦ omega arith | second d e u ↦ omega arith | other d e u ↦ omega arith ]

          early : (i : ℕ) → i < s → swap s q i ≡ i
          early i l = elim (swap_is s q i) [ first e u ↦ absurd (omega arith) | second d e u ↦ absurd (omega arith) | other d e u ↦ u ]

          at_s : swap s q s ≡ q
          at_s = elim (swap_is s q s) [ first e u ↦ u | second d e u ↦ absurd (d refl) | other d e u ↦ absurd (d refl) ]

          apart : (j : ℕ) → s < j → j < m → ¬ (swap s q j ≡ q)
          apart j l lj e = let back : swap s q (swap s q j) ≡ j = τ.left j lj in elim (swap_is s q q) [
            | first d u ↦ omega (arith, back, ap (swap s q) e)
            | second d d' u ↦ omega (arith, back, ap (swap s q) e)
            | other d d' u ↦ d' refl
          ]

          above : (j : ℕ) → s ≤ j → j < m → ¬ (j ≡ q) → γ q < γ j
          above j l lj d =
              let not_below : ¬ (γ j < γ q) = f j lj l in
              let not_same : ¬ (γ j ≡ γ q) = λ e. d (sym (S.permutes.left j lj) ∙ ap S.π⁻ (different (S.π j) (S.π q) (S.permutes.there j lj) (S.permutes.there q lq) e) ∙ S.permutes.left q lq) in
              omega arith

          least : (i j : ℕ) → i < suc s → i < j → j < m → γ (swap s q i) < γ (swap s q j)
          least i j li l lj = elim (ℕ_discrete i s) [
            | yes e ↦ rw (e, at_s) (above (swap s q j) (late j (omega arith)) (τ.there j lj) (apart j (omega arith) lj))
            | no d ↦ rw (early i (omega arith)) (elim (dec_lt j s) [
              | yes y ↦ rw (early j y) (S.least i j (omega arith) l lj)
              | no n ↦ S.least i (swap s q j) (omega arith) (omega (arith, late j (omega arith))) (τ.there j lj)
            ])
          ]

  sort : (s : ℕ) → s ≤ m → Sorted m β s
  sort zero l = record { π = λ i. i; π⁻ = λ i. i; permutes = record { there = λ i l. l; back = λ i l. l; right = λ i l. refl; left = λ i l. refl }; least = λ i j l. absurd (omega arith) }
  sort (suc s) l = next s (omega arith) (sort s (omega arith))

  sorted_among : (S : Sorted m β m) → Among m β (λ r. β (S.π r))
  sorted_among S r l = (S.π⁻ r, S.permutes.back r l, ap β (S.permutes.right r l))

pub tableau_ascending : TableausHaveAnAscendingOrder
tableau_ascending m a β D U t = by (sort m β different m (omega arith))
  where
    different : (r s : ℕ) → r < m → s < m → β r ≡ β s → r ≡ s
    different = injective m a β D U t.inverse

    by : Sorted m β m → (β' : ℕ → ℕ) × (U' : ℕ → ℕ → ℤ) × Tableau m a β' D U' × Among m β β' × Ascending m β'
    by S = ((λ r. β (S.π r)), (λ r. U (S.π r)), record { inverse = permuted m a β D U S.π S.π⁻ S.permutes t.inverse; lowest = lowest_permuted m D U S.π S.π⁻ S.permutes t.lowest }, sorted_among m β different S, λ r s l k. S.least r s (omega arith) l k)

pub corner_ascending : CornersHaveAnAscendingOrder
corner_ascending p X = by (sort (commands p) X.β different (commands p) (omega arith))
  where
    different : (r s : ℕ) → r < commands p → s < commands p → X.β r ≡ X.β s → r ≡ s
    different = injective (commands p) (column p) X.β X.D X.U X.inverse

    by : Sorted (commands p) X.β (commands p) → (Y : CornerOf p) × HasSameLimits p X Y × Ascending (commands p) Y.β
    by S = (
      record {
        β = λ r. X.β (S.π r);
        D = X.D;
        U = λ r. X.U (S.π r);
        known = λ r l. X.known (S.π r) (S.permutes.there r l);
        inverse = permuted (commands p) (column p) X.β X.D X.U S.π S.π⁻ S.permutes X.inverse;
        lowest = lowest_permuted (commands p) X.D X.U S.π S.π⁻ S.permutes X.lowest;
        rows = λ r l. X.rows (S.π r) (S.permutes.there r l);
      },
      sorted_among (commands p) X.β different S,
      λ r s l k. S.least r s (omega arith) l k,
    )

-- Among the limits of β, the r-th of β' is no less than the r-th of β.
no_less : (m : ℕ) (β β' : ℕ → ℕ) → Ascending m β → Ascending m β' → Among m β' β → (r : ℕ) → r < m → (s : ℕ) × (s < m) × (r ≤ s) × (β s ≡ β' r)
no_less m β β' up up' among zero l = let (s, ls, e) = among 0 l in (s, ls, omega arith, e)
no_less m β β' up up' among (suc r) l =
    let (s, ls, k, e) = no_less m β β' up up' among r (omega arith) in
    let (t, lt, f) = among (suc r) l in (
      t,
      lt,
      elim (dec_lt s t) [
        | yes y ↦ omega arith
        | no n ↦ elim (ℕ_discrete s t) [ yes d ↦ absurd (omega (arith, up' r (suc r) (omega arith) l, ap β d)) | no d ↦ absurd (omega (arith, up' r (suc r) (omega arith) l, up t s (omega arith) ls)) ]
      ],
      f,
    )

at_least : (m : ℕ) (β β' : ℕ → ℕ) → Ascending m β → Ascending m β' → Among m β' β → (r : ℕ) → r < m → β r ≤ β' r
at_least m β β' up up' among r l = let (s, ls, k, e) = no_less m β β' up up' among r l in elim (ℕ_discrete r s) [ yes d ↦ omega (arith, ap β d) | no d ↦ omega (arith, up r s (omega arith) ls) ]

pub one_ascending : OneAscendingOrder
one_ascending m β β' up up' among back r l = omega (arith, at_least m β β' up up' back r l, at_least m β' β up' up among r l)
