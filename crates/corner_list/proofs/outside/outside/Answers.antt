use Rattle.std.proofs.Common.{◌≡◌, ℕ, ◌/◌, ◌%◌, ◌^◌, eqb, Some, None, Option, sym, refl, ◌∙◌, subst, arith, rules, tests}
use lib.Bits.{bit_and}
use Rattle.std.specs.Option.{option_map}
use Rattle.std.proofs.lemmas.Iterator.{YieldsList-from_range}
use Rattle.std.proofs.lemmas.Iterator.Consumers.{nth_from_yields_List, YieldsList-from_filter}
use Rattle.std.proofs.lemmas.Nat.{and_mask}
use Rattle.corner_list.specs.Outside.{OutsideAnswer}
use Rattle.corner_list.proofs.ClearBits.{outside_answered}
use Rattle.corner_list.proofs.outside.outside.Goals as goal

same : (r : Option ℕ) → option_map (λ (x : ℕ). x) r ≡ r
same (Some x) = refl
same None = refl

low : (x : ℕ) → bit_and x 1 ≡ x % 2
low x = and_mask x 1

pub returns : goal.returns
returns c =
    let n = c.args.limits in
    let b = c.args.mask in
    let found = nth_from_yields_List c.nth.result c.nth.new.self c.args.number c.nth.ensures.ran (YieldsList-from_filter _ (λ j. eqb (bit_and (b / 2 ^ j) 1) 0) (YieldsList-from_range 0 n n c.filter.ensures.source (omega arith)) c.filter.ensures.closure (λ x r q k. search (rules, tests))) in
    subst (OutsideAnswer b n c.args.number) (sym (simp low at found) ∙ same c.nth.result) (outside_answered b n c.args.number)
