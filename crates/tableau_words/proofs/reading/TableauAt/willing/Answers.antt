use Rattle.std.proofs.Common.{◌≡◌, ℤ, pos, Some, sym, ◌∙◌, w64, SFits, to_z, of_z, rules}
use Rattle.std.specs.Ordering.{int_cmp}
use Rattle.std.specs.declared.cmp.Ordering.TheVariants.{Equal}
use lib.Signed.{lt_z}
use Rattle.std.proofs.lemmas.Int.{to_z-of_z}
use Rattle.std.proofs.lemmas.Map.Lookups.{exact_signed}
use Rattle.tableau_words.proofs.Willingness.{tied_answered}
use Rattle.tableau_words.proofs.reading.TableauAt.willing.Goals as goal

pub returns-in-Equal : goal.returns-in-Equal
returns-in-Equal c =
    let at = c.args.self.now in
    let z = c.slack.result in
    let fits : SFits w64 z = search rules in
    let same = to_z-of_z w64 z fits in
    let f : (x : ℤ) → c.first_below.result ≡ Some x → c.is_some_and.result ≡ lt_z (pos 0) x = λ x e. let h = rw e at c.is_some_and.ensures in search rules in
    let e : Equal ≡ int_cmp (to_z w64 (of_z w64 z)) (pos 0) = c.in-Equal.ensures in
    let zero : z ≡ pos 0 = sym same ∙ exact_signed _ _ (sym e) in
    tied_answered at.reading.counts.shape at.reading.numbers.now c.args.limit at.words.now z c.slack.ensures zero c.first_below.result c.is_some_and.result (rw (c.tableau.ensures.counts, c.tableau.ensures.words) at c.first_below.ensures) (λ e. rw e at c.is_some_and.ensures) f
