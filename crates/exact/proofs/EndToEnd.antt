-- The laws of lists that are positive when laid end to end.
use Rattle.std.proofs.Common.{◌≡◌, ℕ, ◌+◌, ◌*◌, ◌/◌, ◌%◌, ◌<◌, ℤ, pos, ◌*ℤ◌, neg_ℤ, ◌<ℤ◌, sym, ap, ◌∙◌, arith}
use native.Mathlib.Nat as NatL
use native.Mathlib.Decide.{dec_lt}
use lib.Arith.{digits_lt, digits_div, digits_mod}
use lib.IntN.{zero-*ℤ, *ℤ-zero}
use Rattle.exact.specs.Lists.{Positive}
use Rattle.exact.specs.EndToEnd.{PositiveEndToEnd}
use Rattle.exact.proofs.Ring.{lin, zero_of_mul, neg-*ʳ}
use Rattle.exact.proofs.Positive.{pos_cong, pos_scale, pos_unscale}

-- The product law: for ρ negative and u positive, the lists ρ l u, laid end to end, are negative.
pub outer_neg : (n w : ℕ) (ρ u : ℕ → ℤ) → Positive n (λ l. neg_ℤ (ρ l)) → Positive w u → PositiveEndToEnd n w (λ l c. neg_ℤ (ρ l *ℤ u c))
outer_neg n w ρ u p q = record {
  row = p.place;
  among = p.inside;
  blank = λ i l c k. let z : ρ i ≡ pos 0 = omega (arith, lin, p.zeros i l) in rw (z, zero-*ℤ (u c));
  first = pos_cong w _ _ (λ c l. neg-*ʳ (ρ p.place) (u c)) (pos_scale w (neg_ℤ (ρ p.place)) u p.lead q);
}

-- g F = d G, for g and d above 0: what holds of G holds of F.
pub end_to_end_map : (n w : ℕ) (g d : ℤ) (F G : ℕ → ℕ → ℤ) → pos 0 <ℤ g → pos 0 <ℤ d → ((l i : ℕ) → i < w → g *ℤ F l i ≡ d *ℤ G l i) → PositiveEndToEnd n w G → PositiveEndToEnd n w F
end_to_end_map n w g d F G pg pd e p = record {
  row = p.row;
  among = p.among;
  blank = λ l k c q. zero_of_mul (F l c) g pg (e l c q ∙ rw (p.blank l k c q) (*ℤ-zero d));
  first = pos_unscale w g _ pg (pos_cong w _ _ (λ c q. sym (e p.row c q)) (pos_scale w d _ pd p.first));
}

-- Where the place k of the one list lies.
data Where (w r q k : ℕ) : Type 0 where
  before : k / w < r → k % w < w → Where w r q k
  inrow : k / w ≡ r → k % w < q → Where w r q k

where_is : (w r q k : ℕ) → q < w → k < r * w + q → Where w r q k
where_is w r q k lq l = elim (dec_lt (k / w) r) [
  | yes y ↦ before y (omega arith)
  | no n ↦ elim (dec_lt r (k / w)) [
    | yes y ↦ absurd (omega (arith, NatL.mul-le-mul_left w y))
    | no m ↦ let e : k / w ≡ r = omega arith in inrow e (omega (arith, ap (λ (x : ℕ). w * x) e))
  ]
]

-- As one list of n * w numbers.
pub flat : (n w : ℕ) (F : ℕ → ℕ → ℤ) → PositiveEndToEnd n w F → Positive (n * w) (λ k. F (k / w) (k % w))
flat n w F p =
    let r = p.row in
    let q = p.first.place in
    let lq : q < w = p.first.inside in
    let ed : (r * w + q) / w ≡ r = digits_div r lq in
    let em : (r * w + q) % w ≡ q = digits_mod r lq in
    record {
      place = r * w + q;
      inside = digits_lt p.among lq;
      zeros = λ k l. elim (where_is w r q k lq l) [ before y m ↦ p.blank (k / w) y (k % w) m | inrow e m ↦ rw e (p.first.zeros (k % w) m) ];
      lead = rw (ed, em) p.first.lead;
    }
