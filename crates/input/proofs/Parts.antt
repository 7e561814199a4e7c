-- The parts that the program cuts from its words are those that the definitions name.
use Rattle.std.proofs.Common.{Ok, Err, OnOk, Result, ◌≡◌, ℕ, ◌+◌, ◌-◌, ◌*◌, ◌≤◌, List, length, get_or, take, drop, ℤ, pos, sym, ap, ◌∙◌, subst, arith, length-drop, length-take}
use Rattle.std.proofs.lemmas.List.{get_or-take, get_or-drop}
use Rattle.words.specs.Bounds.{most_commands}
use Rattle.words.specs.Faults.{Faulty}
use Rattle.words.specs.Words.{payload}
use Rattle.words.specs.declared.counts.Shape.{Shape}
use Rattle.words.specs.declared.refusal.Refusal.{Refusal}
use Rattle.plant.specs.Meaning.{Meaning, Bounded}
use Rattle.plant.specs.Described.{Describes}
use Rattle.plant.specs.Written.{said}
use Rattle.input.specs.Split.{most_range_words, RangeFollows, RangeWords, Payloads}
use Rattle.plant.specs.Ranged.{RangeAnswer}
use Rattle.plant.specs.declared.range_table.RangeTable.{RangeTable}
use Rattle.input.specs.Judged.{RangesAre, TableVerdict, wrong_range}

whole : (ws : List ℕ) (n : ℕ) → take (n - 0) ws ≡ take n ws
whole ws n = ap (λ k. take k ws) (omega arith)

pub refused_part : (ws : List ℕ) (n : ℕ) (e : Refusal) → Faulty (take (n - 0) ws) e → Faulty (take n ws) e
refused_part ws n e f = subst (λ vs. Faulty vs e) (whole ws n) f

-- The plant made of the words that were judged, with the counts that were answered.
pub is_plant : (ws us : List ℕ) (n : ℕ) (c e : Shape) → us ≡ take (n - 0) ws → e ≡ c → Describes (take (n - 0) ws) (said (take (n - 0) ws) c) → Describes (take n ws) (said us e)
is_plant ws us n c e same counts D =
    subst (λ vs. Describes vs (said us e)) (whole ws n) (subst (λ p. Describes (take (n - 0) ws) p) (ap (said (take (n - 0) ws)) (sym counts) ∙ ap (λ vs. said vs e) (sym same)) D)

-- The lows and the highs among the numbers of the range words.
module _ (ws : List ℕ) (n m : ℕ) (zs : List ℤ) (long : length zs ≡ most_range_words) (few : m ≤ most_commands) (all : Payloads ws n (2 * m) zs) where
  pub lows_long : length (take (m - 0) zs) ≡ m
  lows_long = simp length-take (omega arith)

  pub highs_long : length (take (2 * m - m) (drop m zs)) ≡ m
  highs_long = simp (length-take, length-drop) (omega arith)

  pub low_numbers : Payloads ws n m (take (m - 0) zs)
  low_numbers i h = get_or-take (m - 0) zs i (pos 0) (omega arith) ∙ all i (omega arith)

  pub high_numbers : Payloads ws (n + m) m (take (2 * m - m) (drop m zs))
  high_numbers i h =
      let place : n + (m + i) ≡ n + m + i = omega arith in
      get_or-take (2 * m - m) (drop m zs) i (pos 0) (omega arith) ∙ get_or-drop m zs i (pos 0) ∙ all (m + i) (omega arith) ∙ ap (λ k. payload (get_or ws k 0)) place

-- All of it, for the plant that was loaded.
pub ranges_are : (ws : List ℕ) (n m : ℕ) (p : Meaning) (zs : List ℤ) → Bounded p → RangeFollows ws n → m ≡ length p.gains → RangeWords ws n (2 * m) → Payloads ws n (2 * m) zs → length zs ≡ most_range_words
    → RangesAre ws n p (take (m - 0) zs) (take (2 * m - m) (drop m zs))
ranges_are ws n m p zs B F e R N L =
    let few : m ≤ most_commands = omega (arith, B.counted.1) in
    record {
      follows = F;
      range_words = subst (λ k. RangeWords ws n (2 * k)) e R;
      as_many_lows = lows_long ws n m zs L few N ∙ e;
      as_many_highs = highs_long ws n m zs L few N ∙ e;
      low_payloads = subst (λ k. Payloads ws n k (take (m - 0) zs)) e (low_numbers ws n m zs L few N);
      high_payloads = subst (λ k. Payloads ws (n + k) k (take (2 * m - m) (drop m zs))) e (high_numbers ws n m zs L few N);
    }

-- What range answers of them.
pub table_told : (ws : List ℕ) (n : ℕ) (p : Meaning) (lows highs : List ℤ) → RangesAre ws n p lows highs → (r : Result RangeTable Refusal) → RangeAnswer p lows highs r → TableVerdict ws n p r
table_told ws n p lows highs R (Ok t) a = (lows, highs, R, a.0, a.1)
table_told ws n p lows highs R (Err e) a = wrong_range lows highs R a

-- Words are there for all of them.
pub ranges_within : (ws : List ℕ) (n : ℕ) (p : Meaning) → Bounded p → RangeWords ws n (2 * length p.gains) → n + 2 * length p.gains ≤ length ws
ranges_within ws n p B R =
    let m = length p.gains in
    let last = R (2 * m - 1) (omega (arith, B.counted.0)) in
    omega (arith, last.0, B.counted.0)

pub on_ok : {A E : Type 0} {P : Type 0} (r : Result A E) → P → OnOk r P
on_ok (Ok a) h = h
on_ok (Err e) h = tt
