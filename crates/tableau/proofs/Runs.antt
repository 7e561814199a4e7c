-- The standing falls along a run, so no basis comes twice.
use Prim.Native.Nat.{ℕ, suc, ◌*◌, ◌/◌, ◌%◌, ◌<◌}
use mathlib.Core.Path.{◌≡◌, sym, ap, ◌∙◌, subst}
use native.Mathlib.Omega.{arith}
use native.Mathlib.Nat as NatL
use native.Mathlib.Decide.{ℕ_discrete}
use lib.IntN.{ℤ, ◌-ℤ◌, ◌*ℤ◌, neg_ℤ}
use Rattle.exact.specs.Vectors.{dot}
use Rattle.exact.specs.Lists.{Positive}
use Rattle.exact.specs.Value.{Value}
use Rattle.exact.proofs.Ring.{lin, expand}
use Rattle.exact.proofs.Positive.{pos_cong, pos_scale, pos_unscale, before_trans}
use Rattle.exact.proofs.EndToEnd.{flat}
use Rattle.tableau.specs.Basis.{Among}
use Rattle.tableau.specs.Points.{point, standing}
use Rattle.tableau.specs.Exchange.{Exchanged, Leaves, Replaced}
use Rattle.exact.specs.LowestTerms.{Lowest}
use Rattle.tableau.specs.Corner.{Corner, Falls}
use Rattle.tableau.specs.Chain.{Chain, more}
use Rattle.tableau.specs.Choose.{choose}
use Rattle.tableau.specs.Masks.{holds}
use Rattle.tableau.proofs.Exchange.{exchange, still_positive, progress}
use Rattle.tableau.proofs.Willing.{injective}
use Rattle.tableau.proofs.Unique.{same_value}
use Rattle.tableau.proofs.Chain.{descends, bounded}
use Rattle.tableau.proofs.Pivots.{Reached, exchange_there}
use Rattle.tableau.proofs.Count.{count, rank, rank_below, rank_same, holds_in, holds_out, count_holds}

by_same : (d e f x y z : ℤ) → f *ℤ y ≡ d *ℤ z → d *ℤ (f *ℤ x -ℤ e *ℤ z) ≡ f *ℤ (d *ℤ x -ℤ e *ℤ y)
by_same d e f x y z h = simp expand (omega (arith, lin, simp expand at (ap (λ w. e *ℤ w) h)))

-- The numbers after an exchange belong to the limits across.
pub replaced : (m : ℕ) (a : ℕ → ℕ → ℤ) (β : ℕ → ℕ) (D : ℤ) (U : ℕ → ℕ → ℤ) (r j : ℕ) (g : ℤ) (β' : ℕ → ℕ) (D' : ℤ) (U' : ℕ → ℕ → ℤ) → Exchanged m a β D U r j g β' D' U' → Replaced m β r j β'
replaced m a β D U r j g β' D' U' X = record { comes = (r, X.inside, X.comes); stay = λ i l d. (i, l, X.stays i l d) }

-- Limits across are those of the numbers after the exchange.
pub among_replaced : (m : ℕ) (a : ℕ → ℕ → ℤ) (β : ℕ → ℕ) (D : ℤ) (U : ℕ → ℕ → ℤ) (r j : ℕ) (g : ℤ) (β' : ℕ → ℕ) (D' : ℤ) (U' : ℕ → ℕ → ℤ) (β'' : ℕ → ℕ) → Exchanged m a β D U r j g β' D' U' → Replaced m β r j β'' → Among m β' β''
among_replaced m a β D U r j g β' D' U' β'' X R s l = elim (ℕ_discrete s r) [
  | yes d ↦ let (q, k, f) = R.comes in (q, k, f ∙ sym X.comes ∙ ap β' (sym d))
  | no d ↦ let (q, k, f) = R.stay s l d in (q, k, f ∙ sym (X.stays s l d))
]

module _ (m n : ℕ) (a : ℕ → ℕ → ℤ) (w : ℕ) (V : (ℕ → ℤ) → ℕ → ℤ) (L : Value m w V) where
  -- The exchange by which limit j enters at X leads to Z, which has the limits of Y.
  pub record Neighbour (X : Corner m n a w V) (j : ℕ) (Y : Corner m n a w V) : Type 0 where
    pub r : ℕ
    pub g : ℤ
    pub Z : Corner m n a w V
    pub leaves : Leaves m a w V X.U j r
    pub exchanged : Exchanged m a X.β X.D X.U r j g Z.β Z.D Z.U
    pub same : Among m Z.β Y.β

  -- An exchange after which the standing falls.
  pub record Move (K : ℕ) (H : ℕ → ℕ → ℤ) (X Y : Corner m n a w V) : Type 0 where
    pub j : ℕ
    pub enters : j < n
    pub willing : Positive K (λ l. neg_ℤ (X.D *ℤ H l j -ℤ dot m (a j) (point m X.β X.U (H l))))
    pub to : Neighbour X j Y

  -- The number of the set of limits among the sets of m of n limits.
  number : Corner m n a w V → ℕ
  number X = rank n (holds m X.β)

  size : (X : Corner m n a w V) → count n (holds m X.β) ≡ m
  size X = count_holds n m X.β X.known (injective m a X.β X.D X.U X.inverse)

  number_below : (X : Corner m n a w V) → number X < choose n m
  unfolding number
  number_below X = subst (λ k. rank n (holds m X.β) < choose n k) (size X) (rank_below n (holds m X.β))

  number_same : (X Y : Corner m n a w V) → number X ≡ number Y → Among m X.β Y.β
  unfolding number
  number_same X Y e r l = holds_out m Y.β (X.β r) (sym (rank_same n (holds m X.β) (holds m Y.β) (size X ∙ sym (size Y)) e (X.β r) (X.known r l)) ∙ holds_in m X.β r l)

  module _ (K : ℕ) (H : ℕ → ℕ → ℤ) where
    -- Where it falls to Z, it falls to each corner with the limits of Z.
    falls_to : (X Z Y : Corner m n a w V) → Among m Z.β Y.β → Falls m n a w V K H X Z → Falls m n a w V K H X Y
    falls_to X Z Y s p = pos_unscale (K * w) Z.D _ Z.inverse.dpos
        (pos_cong (K * w) _ _ (λ k l. sym (by_same Z.D X.D Y.D (standing m w V X.β X.U H k) (standing m w V Z.β Z.U H k) (standing m w V Y.β Y.U H k)
        (sym (same_value m a Z.β Z.D Z.U Z.inverse Y.β Y.D Y.U Y.inverse s w V L (H (k / w)) (k % w) (NatL.mod-lt k {m = w} L.wide)))))
        (pos_scale (K * w) Y.D _ Y.inverse.dpos p))

    pub move_falls : (X Y : Corner m n a w V) → Move K H X Y → Falls m n a w V K H X Y
    move_falls X Y v =
        let c = v.to in
        let Z = c.Z in
        falls_to X Z Y c.same (flat K w _ (progress m a X.β X.D X.U c.r v.j c.g Z.β Z.D Z.U X.inverse c.exchanged w V L K H (X.rows c.r c.exchanged.inside) v.willing))

    pub falls_trans : (X Y Z : Corner m n a w V) → Falls m n a w V K H X Y → Falls m n a w V K H Y Z → Falls m n a w V K H X Z
    falls_trans X Y Z p q = before_trans (K * w) (standing m w V Z.β Z.U H) (standing m w V Y.β Y.U H) (standing m w V X.β X.U H) Z.D Y.D X.D Z.inverse.dpos Y.inverse.dpos X.inverse.dpos q p

    pub same_stands : (X Y : Corner m n a w V) → Among m X.β Y.β → Falls m n a w V K H X Y → ⊥
    same_stands X Y s p = omega (arith, lin, p.lead, same_value m a X.β X.D X.U X.inverse Y.β Y.D Y.U Y.inverse s w V L (H (p.place / w)) (p.place % w) (NatL.mod-lt p.place {m = w} L.wide))

    apart : (X Y : Corner m n a w V) → Falls m n a w V K H X Y → ¬ (number X ≡ number Y)
    apart X Y p e = same_stands X Y (number_same X Y e) p

    -- No basis comes twice in a run, and there are fewer exchanges than sets of m of n limits.
    pub no_return : {X Y : Corner m n a w V} {k : ℕ} → Chain (Move K H) X (suc k) Y → Among m X.β Y.β → ⊥
    no_return {X} {Y} (more {y = Z} c v) s = same_stands X Y s (descends (Move K H) (Falls m n a w V K H) number move_falls falls_trans apart {z = Y} c (move_falls Z Y v))

    pub run_bound : {X Y : Corner m n a w V} {k : ℕ} → Chain (Move K H) X k Y → k < choose n m
    run_bound c = bounded (Move K H) (Falls m n a w V K H) number move_falls falls_trans apart (choose n m) number_below c

  -- The corner after an exchange.
  abbrev pub after : (X : Corner m n a w V) (r j : ℕ) (g : ℤ) (β' : ℕ → ℕ) (D' : ℤ) (U' : ℕ → ℕ → ℤ) → j < n → Leaves m a w V X.U j r → Exchanged m a X.β X.D X.U r j g β' D' U' → Lowest m D' U' → Corner m n a w V
  after X r j g β' D' U' l leaves e low = record {
    β = β';
    D = D';
    U = U';
    known = λ s k. elim (ℕ_discrete s r) [ yes d ↦ rw (d, e.comes) l | no d ↦ rw (e.stays s k d) (X.known s k) ];
    lowest = low;
    inverse = exchange m a X.β X.D X.U r j g β' D' U' X.inverse e;
    rows = still_positive m a X.β X.D X.U r j g β' D' U' X.inverse e w V L X.rows leaves.least;
  }

  -- A corner with the limits across is a neighbour.
  pub neighbour : (X Y : Corner m n a w V) (r j : ℕ) → j < n → Leaves m a w V X.U j r → Replaced m X.β r j Y.β → Neighbour X j Y
  neighbour X Y r j known leaves R = by (exchange_there m a X.β X.D X.U X.inverse r j leaves.inside leaves.above)
    where
      by : Reached m a X.β X.D X.U r j → Neighbour X j Y
      by e = record {
        r = r;
        g = e.g;
        Z = after X r j e.g e.β' e.D' e.U' known leaves e.exchanged e.lowest;
        leaves = leaves;
        exchanged = e.exchanged;
        same = among_replaced m a X.β X.D X.U r j e.g e.β' e.D' e.U' Y.β e.exchanged R;
      }
