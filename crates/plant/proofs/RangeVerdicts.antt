-- Lows and highs earn one refusal, or none and then they fit.
use Rattle.std.proofs.Common.{◌≡◌, ℕ, ◌<◌, List, ℤ, refl, ap, ⊎_elim, arith}
use Rattle.std.proofs.lemmas.Bool.{cases_order}
use Rattle.words.specs.declared.counts.Shape.{Shape}
use Rattle.words.specs.declared.refusal.Refusal.{Refusal}
use Rattle.words.specs.declared.refusal.Refusal.TheVariants.{Value as ValueRefused, Range}
use Rattle.plant.specs.Ranges.{RangesFit, RangeFaulty, low_not_value, high_not_value, counts_wrong, crossed}

-- Of two places of which each is the first where P fails, neither comes first.
first_is_one : (P : ℕ → Type 0) (k l : ℕ) → (P k → ⊥) → ((i : ℕ) → i < k → P i) → (P l → ⊥) → ((i : ℕ) → i < l → P i) → k ≡ l
first_is_one P k l a b c d = ⊎_elim (λ e. e) (⊎_elim (λ h. absurd (a (d k h))) (λ h. absurd (c (b l h)))) (cases_order k l)

module _ (lows highs : List ℤ) (c : Shape) where
  same : {e f : Refusal} → RangeFaulty lows highs c e → RangeFaulty lows highs c f → e ≡ f
  same (low_not_value k a x) (low_not_value l b y) =
      let here = first_is_one _ k l x.1 x.2 y.1 y.2 in ap ValueRefused (omega arith)
  same (low_not_value k a x) (high_not_value l b v y) = absurd (x.1 (v k x.0))
  same (low_not_value k a x) (counts_wrong v n) = absurd (x.1 (v.0 k x.0))
  same (low_not_value k a x) (crossed l b v r h o p) = absurd (x.1 (v.0 k x.0))
  same (high_not_value k a v x) (low_not_value l b y) = absurd (y.1 (v l y.0))
  same (high_not_value k a v x) (high_not_value l b u y) =
      let here = first_is_one _ k l x.1 x.2 y.1 y.2 in ap ValueRefused (omega arith)
  same (high_not_value k a v x) (counts_wrong u n) = absurd (x.1 (u.1 k x.0))
  same (high_not_value k a v x) (crossed l b u r h o p) = absurd (x.1 (u.1 k x.0))
  same (counts_wrong v n) (low_not_value l b y) = absurd (y.1 (v.0 l y.0))
  same (counts_wrong v n) (high_not_value l b u y) = absurd (y.1 (v.1 l y.0))
  same (counts_wrong v n) (counts_wrong u o) = refl
  same (counts_wrong v n) (crossed l b u r h o p) = absurd (n r)
  same (crossed k a v r h o p) (low_not_value l b y) = absurd (y.1 (v.0 l y.0))
  same (crossed k a v r h o p) (high_not_value l b u y) = absurd (y.1 (v.1 l y.0))
  same (crossed k a v r h o p) (counts_wrong u n) = absurd (n r)
  same (crossed k a v r h o p) (crossed l b u s g q t) =
      let here = first_is_one _ k l o p q t in ap Range (omega arith)

  pub one_range_refusal : (e f : Refusal) → RangeFaulty lows highs c e → RangeFaulty lows highs c f → e ≡ f
  one_range_refusal e f = same

  apart : {e : Refusal} → RangeFaulty lows highs c e → RangesFit lows highs c → ⊥
  apart (low_not_value k a x) F = x.1 (F.values.0 k x.0)
  apart (high_not_value k a v x) F = x.1 (F.values.1 k x.0)
  apart (counts_wrong v n) F = n F.counts
  apart (crossed k a v r h o p) F = o (F.order k h)

  pub no_refusal_where_fitting : (e : Refusal) → RangeFaulty lows highs c e → RangesFit lows highs c → ⊥
  no_refusal_where_fitting e = apart
