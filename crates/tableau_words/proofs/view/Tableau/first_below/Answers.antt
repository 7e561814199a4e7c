use Rattle.std.proofs.Common.{◌≡◌, ◌+◌, ◌<◌, get_or, drop, pos, Some, sym, ap, ◌∙◌, subst, arith, w64, SFits, to_z, of_z, rules}
use Rattle.std.proofs.lemmas.Int.{ints, to_z-of_z}
use Rattle.tableau_words.specs.Entering.{BelowAnswer}
use Rattle.tableau_words.specs.Layout.{row_width, limit_column, first_row, number_at}
use Rattle.tableau_words.proofs.FirstBelow.{passed, opened, taken, kept, some_answered}
use Rattle.tableau_words.proofs.view.Tableau.first_below.Goals as goal
use Rattle.tableau_words.proofs.view.Tableau.first_below.Goals.{then-below-limit+then-number-ne0+in-Some, then-below-limit+then-number-ne0+in_default-2, then-below-limit+then-number-ne0+in_default, else-below-limit, else-below-limit-via-then-below-limit+else-number-ne0, else-below-limit-via-else-below-limit}

pub loop-row-preserved : goal.loop-row-preserved
loop-row-preserved c =
    let s = c.args.self.now.counts.shape in
    let ws = c.args.self.now.words.now in
    let w = row_width s in
    let j = c.args.limit in
    let i = 1 + c.shape-commands.result.commands + j in
    let xs = drop (first_row s) ws in
    let row = c.loop-row.row in
    let few : j < 16 = omega (arith, c.requires, c.args.self.now.counts.fit.3) in
    let fits : SFits w64 (get_or ws (1 + row) (pos 0)) = search rules in
    let same = to_z-of_z w64 (get_or ws (1 + row) (pos 0)) fits in
    elim c.if-below-limit.branch [
      | then-below-limit+then-number-ne0+in-Some v ↦
          let fits_q : SFits w64 (get_or ws (1 + v.in-Some.least) (pos 0)) = search rules in
          let least = to_z-of_z w64 (get_or ws (1 + v.in-Some.least) (pos 0)) fits_q in
          rw v.first-is (kept w i j ws xs row v.in-Some.least (rw v.in-Some.is at c.loop-row.invariant) (omega (arith, ints, same, least, v.if-self-least.true)))
      | then-below-limit+then-number-ne0+in_default-2 v ↦
          let fits_q : SFits w64 (get_or ws (1 + v.in-Some.least) (pos 0)) = search rules in
          let least = to_z-of_z w64 (get_or ws (1 + v.in-Some.least) (pos 0)) fits_q in
          rw v.first-is (taken w i j ws xs row v.in-Some.least (omega (arith, ints, same, v.if-below-limit.true)) (λ e. v.if-number-ne0.true (ap (of_z w64) (v.number.ensures.value ∙ e))) (rw v.in-Some.is at c.loop-row.invariant) (omega (arith, ints, same, least, v.if-self-least.false)))
      | then-below-limit+then-number-ne0+in_default v ↦
          rw v.first-is (opened w i j ws xs row (omega (arith, ints, same, v.if-below-limit.true)) (λ e. v.if-number-ne0.true (ap (of_z w64) (v.number.ensures.value ∙ e))) (rw v.in_default.is at c.loop-row.invariant))
      | else-below-limit v ↦ rw v.first-is (elim v.else-below-limit.branch [
        | else-below-limit-via-then-below-limit+else-number-ne0 u ↦
            let fits_n : SFits w64 u.number.result = search rules in
            passed w i j ws xs row c.loop-row.first (λ h. sym u.number.ensures.value ∙ sym (to_z-of_z w64 u.number.result fits_n) ∙ ap (to_z w64) u.if-number-ne0.false) c.loop-row.invariant
        | else-below-limit-via-else-below-limit u ↦
            passed w i j ws xs row c.loop-row.first (λ h. absurd (omega (arith, ints, same, u.if-below-limit.false))) c.loop-row.invariant
      ])
    ]

pub returns : goal.returns
returns c =
    let s = c.args.self.now.counts.shape in
    let ws = c.args.self.now.words.now in
    let q = c.in_ok-first.field-0 in
    let e : c.loop-row.row ≡ c.shape-commands.result.commands = omega arith in
    let fits : SFits w64 c.number-2.result = search rules in
    let same : number_at s ws q (limit_column s c.args.limit) ≡ to_z w64 (of_z w64 c.number-2.result) = sym (rw c.shape-commands.ensures at c.number-2.ensures.value) ∙ sym (to_z-of_z w64 _ fits) in
    subst (λ t. BelowAnswer s c.args.limit ws (Some t)) same (some_answered s c.args.limit ws q c.requires (rw (c.in_ok-first.was, e, c.shape-commands.ensures) at c.loop-row.invariant))
