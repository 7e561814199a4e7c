-- The readings behind a plant are the first words of the rest.
use Rattle.std.proofs.Common.{◌≡◌, ℕ, ◌+◌, ◌-◌, ◌<◌, ◌≤◌, List, length, get_or, drop, ap, sym, ◌∙◌, subst, arith, length-drop}
use Rattle.std.proofs.lemmas.List.{get_or-drop}
use Rattle.words.specs.Words.{kind_bits}
use Rattle.script.specs.Groups.{LeadingReadings, ReadingsEnd, IsReading}

pub ends_after : (ws : List ℕ) (each from n : ℕ) → 0 < each → from ≤ length ws → LeadingReadings (drop from ws) n → ReadingsEnd ws each from (from + n)
ends_after ws each from n some inside L =
    let here : (i : ℕ) → kind_bits (get_or (drop from ws) i 0) ≡ kind_bits (get_or ws (from + i) 0) = λ i. ap kind_bits (get_or-drop from ws i 0) in
    let long = length-drop from ws in
    record {
      after = omega arith;
      within = omega (arith, L.within, long);
      taken = λ k h l.
          let e : from + (k - from) ≡ k = omega arith in
          (some, subst (IsReading ws) e (sym (here (k - from)) ∙ L.readings (k - from) (omega arith)));
      stopped = λ h t. L.stopped (omega (arith, long)) (here n ∙ t.1);
    }
