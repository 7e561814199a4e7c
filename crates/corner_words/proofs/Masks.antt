-- The limits in the words, and their mask.
use Rattle.std.proofs.Common.{◌≡◌, ℕ, zero, suc, ◌+◌, ◌^◌, ◌<◌, Bool, true, false, List, ℤ, nat_abs, sym, refl, ap, ◌∙◌, subst, arith}
use Rattle.std.proofs.lemmas.Int.{ints}
use Rattle.std.proofs.lemmas.Bool.{ne_eqb}
use Rattle.exact.specs.Vectors.{entries}
use Rattle.tableau.specs.Masks.{holds, mask}
use Rattle.tableau.specs.Plants.{commands, limits}
use Rattle.tableau.proofs.Count.{holds_in, holds_out}
use Rattle.tableau.proofs.Masks.{mask_cong, mask_more}
use Rattle.tableau.proofs.Willing.{injective}
use Rattle.words.specs.declared.counts.Shape.{Shape}
use Rattle.corner_words.specs.Corners.{Holding}
use Rattle.corner_words.specs.Reads.{OwnLimits, MaskAnswer}
use Rattle.corner_words.proofs.Holdings.{LimitAnswer}

-- The limit of row r in the words.
abbrev pub limit_in : List ℤ → ℕ → ℕ
limit_in ws r = nat_abs (entries ws (1 + r))

-- The mask of the limits of the first k rows.
abbrev pub mask_to : Shape → List ℤ → ℕ → ℕ
mask_to c ws k = mask c.limits (holds k (limit_in ws))

pub mask_none : (n : ℕ) (β : ℕ → ℕ) → 0 ≡ mask n (holds 0 β)
unfolding mask holds
mask_none zero β = refl
mask_none (suc n) β = mask_none n β

holds_cong : (m : ℕ) (β β' : ℕ → ℕ) → ((r : ℕ) → r < m → β r ≡ β' r) → (i : ℕ) → holds m β i ≡ holds m β' i
unfolding holds
holds_cong zero β β' e i = refl
holds_cong (suc m) β β' e i = rw (e m (omega arith), holds_cong m β β' (λ r l. e r (omega arith)) i)

-- One row more, whose limit is none of the others.
mask_next : (n m k : ℕ) (β : ℕ → ℕ) → k < m → β k < n → ((r s : ℕ) → r < m → s < m → β r ≡ β s → r ≡ s) → mask n (holds (k + 1) β) ≡ mask n (holds k β) + 2 ^ β k
unfolding holds
mask_next n m k β l below one =
    let next : k + 1 ≡ suc k = omega arith in
    let more : mask n (holds (suc k) β) ≡ 2 ^ β k + mask n (holds k β) = mask_more n (β k) (holds k β) (holds (suc k) β) below (new (holds k β (β k)) refl) (holds_in (suc k) β k (omega arith)) (λ i h d. rw (ne_eqb (β k) i (λ e. d (sym e)))) in
    rw next (omega arith)
  where
    new : (t : Bool) → holds k β (β k) ≡ t → holds k β (β k) ≡ false
    new false e = e
    new true e = let (r, h, f) = holds_out k β (β k) e in absurd (omega (arith, one r k (omega arith) l f))

module _ (c : Shape) (ws : List ℤ) (H : Holding c ws) where
  inside : (r : ℕ) → r < c.commands → r < commands H.p
  inside r l = subst (λ (q : Shape). r < q.commands) H.shape l

  limit_is : (r : ℕ) → r < c.commands → limit_in ws r ≡ H.X.β r
  limit_is r l = ap nat_abs (H.holds.held.limits r (inside r l))

  -- The limit that was read.
  pub limit_read : (r l : ℕ) → r < c.commands → LimitAnswer c r ws l → l ≡ limit_in ws r
  limit_read r l h L = L H.p H.n H.a H.X H.shape H.holds ∙ sym (limit_is r h)

  pub limit_below : OwnLimits c ws → (r : ℕ) → r < c.commands → limit_in ws r < c.limits
  limit_below O r l = omega (arith, ints, O r l, H.holds.held.limits r (inside r l))

  pub next_bit : OwnLimits c ws → (r : ℕ) → r < c.commands → mask_to c ws (r + 1) ≡ mask_to c ws r + 2 ^ limit_in ws r
  next_bit O r l = mask_next c.limits c.commands r (limit_in ws) l (limit_below O r l) (λ s q ls lq e.
      injective (commands H.p) H.a H.X.β H.X.D H.X.U H.X.inverse s q (inside s ls) (inside q lq) (sym (limit_is s ls) ∙ e ∙ limit_is q lq))

-- All rows make the mask of the corner.
pub mask_answered : (c : Shape) (ws : List ℤ) → MaskAnswer c ws (mask_to c ws c.commands)
mask_answered c ws p X s H = rw s (mask_cong (limits p) _ _ (λ i l. holds_cong (commands p) (limit_in ws) X.β (λ r k. ap nat_abs (H.held.limits r k)) i))
