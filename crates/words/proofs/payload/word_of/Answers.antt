use Rattle.std.proofs.Common.{◌≡◌, ◌+◌, ◌*◌, ◌/◌, ◌%◌, ap, ◌∙◌, arith, w32}
use lib.Bits.{bit_or}
use Rattle.std.proofs.lemmas.Int.{to_z-of_z}
use Rattle.std.proofs.lemmas.Nat.{or_shifted}
use Rattle.words.specs.Words.{signed}
use Rattle.words.proofs.payload.word_of.Goals as goal

-- The kind and the bits lie in places of their own, so the word is their sum.
pub returns : goal.returns
returns c =
    let k = c.args.kind in
    let b = c.in_ok-bits.bits in
    let e = c.in_ok-bits.ensures in
    let whole : bit_or (k * 268435456) b ≡ k * 268435456 + b = or_shifted k 28 b e.0 in
    let inside : (k * 268435456) % 4294967296 ≡ k * 268435456 = omega arith in
    let low : (k * 268435456 + b) % 268435456 ≡ b = omega (arith, e.0) in
    let top : (k * 268435456 + b) / 268435456 ≡ k = omega (arith, e.0) in
    simp (inside, whole) (top, ap signed low ∙ (e.1 ∙ to_z-of_z w32 c.args.number c.ranges.number))
