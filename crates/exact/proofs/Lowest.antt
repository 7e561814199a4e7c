-- Lowest terms exist.
use Rattle.std.proofs.Common.{◌≡◌, ℕ, zero, suc, ◌+◌, ◌*◌, ◌/◌, ◌%◌, ◌<◌, ℤ, pos, ◌*ℤ◌, ◌≤ℤ◌, ◌<ℤ◌, sym, ap, ◌∙◌, subst, ap₂, arith}
use native.Mathlib.Nat as NatL
use lib.Arith.{digits_lt, digits_div, digits_mod}
use lib.IntN.{*ℤ_comm}
use lib.Signed.{quot_z}
use Rattle.exact.specs.Divisors.{Divides, Gcd}
use Rattle.exact.specs.LowestTerms.{every, Lowest}
use Rattle.exact.proofs.Ring.{lin, one-*, *-assoc, cancel}
use Rattle.exact.proofs.Exact.{exact_back}
use Rattle.exact.proofs.Divides.{div_pos, div_le}
use Rattle.exact.proofs.Gcd.{Bezout, bezout}

-- What holds of D and of the entries of U holds of all of them in a row, and the other way round.
pub every_all : (P : ℤ → Type 0) (m : ℕ) (D : ℤ) (U : ℕ → ℕ → ℤ) → P D → ((r c : ℕ) → r < m → c < m → P (U r c)) → (i : ℕ) → i < suc (m * m) → P (every m D U i)
every_all P m D U p q zero l = p
every_all P zero D U p q (suc k) l = absurd (omega arith)
every_all P (suc m) D U p q (suc k) l = q (k / suc m) (k % suc m) ((NatL.div-lt_iff_lt-mul {k = suc m} {x = k} {y = suc m} (omega arith)).1 (omega arith)) (NatL.mod-lt k {m = suc m} (omega arith))

pub every_entry : (P : ℤ → Type 0) (m : ℕ) (D : ℤ) (U : ℕ → ℕ → ℤ) → ((i : ℕ) → i < suc (m * m) → P (every m D U i)) → (r c : ℕ) → r < m → c < m → P (U r c)
every_entry P m D U h r c lr lc = subst P (ap₂ U (digits_div r lc) (digits_mod r lc)) (h (suc (r * m + c)) (omega (arith, digits_lt lr lc)))

-- Where g d divides g, d is 1.
pub only_one : (g d q : ℤ) → pos 0 <ℤ g → pos 0 <ℤ d → g ≡ (g *ℤ d) *ℤ q → d ≡ pos 1
only_one g d q pg pd e =
    let f : d *ℤ q ≡ pos 1 = cancel (d *ℤ q) (pos 1) g pg (*ℤ_comm (d *ℤ q) g ∙ sym (*-assoc g d q) ∙ sym e ∙ sym (one-* g)) in
    let l : d ≤ℤ pos 1 = div_le d (pos 1) pd (omega (arith, lin)) (q, sym f) in
    omega (arith, lin)

pub div_times : (g d x y : ℤ) → g *ℤ x ≡ y → Divides d x → Divides (g *ℤ d) y
div_times g d x y e (q, f) = (q, sym e ∙ ap (λ z. g *ℤ z) f ∙ sym (*-assoc g d q))

-- Divided by their greatest common divisor, a denominator and a matrix are in lowest terms.
pub over_gcd : (m : ℕ) (N : ℤ) (M : ℕ → ℕ → ℤ) (g D : ℤ) (U : ℕ → ℕ → ℤ) → pos 0 <ℤ N → Gcd (suc (m * m)) (every m N M) g
    → g *ℤ D ≡ N → ((r c : ℕ) → r < m → c < m → g *ℤ U r c ≡ M r c) → Lowest m D U
over_gcd m N M g D U pn h eD eU d pd dD dU =
    let (q, e) = h.greatest (g *ℤ d) (every_all (Divides (g *ℤ d)) m N M (div_times g d D N eD dD) (λ r c lr lc. div_times g d (U r c) (M r c) (eU r c lr lc) (dU r c lr lc))) in
    only_one g d q (div_pos g N h.nonneg pn (D, sym eD)) pd e

-- Lowest terms of the matrix M over the denominator N.
pub record Terms (m : ℕ) (N : ℤ) (M : ℕ → ℕ → ℤ) : Type 0 where
  pub g : ℤ
  pub D : ℤ
  pub U : ℕ → ℕ → ℤ
  pub gpos : pos 0 <ℤ g
  pub over : g *ℤ D ≡ N
  pub rows : (r c : ℕ) → r < m → c < m → g *ℤ U r c ≡ M r c
  pub lowest : Lowest m D U

pub terms : (m : ℕ) (N : ℤ) (M : ℕ → ℕ → ℤ) → pos 0 <ℤ N → Terms m N M
terms m N M pn = by (bezout (suc (m * m)) (every m N M))
  where
    by : Bezout (suc (m * m)) (every m N M) → Terms m N M
    by e =
        let pg : pos 0 <ℤ e.g = div_pos e.g N e.is_gcd.nonneg pn (e.is_gcd.divides 0 (omega arith)) in
        let eD : e.g *ℤ quot_z N e.g ≡ N = exact_back e.g N pg (e.is_gcd.divides 0 (omega arith)) in
        let eU : (r c : ℕ) → r < m → c < m → e.g *ℤ quot_z (M r c) e.g ≡ M r c = λ r c lr lc. exact_back e.g (M r c) pg (every_entry (Divides e.g) m N M e.is_gcd.divides r c lr lc) in
        record { g = e.g; D = quot_z N e.g; U = λ r c. quot_z (M r c) e.g; gpos = pg; over = eD; rows = eU; lowest = over_gcd m N M e.g (quot_z N e.g) (λ r c. quot_z (M r c) e.g) pn e.is_gcd eD eU }
