use Rattle.std.proofs.Common.{sym, refl, ap, ◌∙◌, subst}
use Rattle.plant.specs.Meaning.{shape_of}
use Rattle.words.specs.declared.counts.Shape.{Shape}
use Rattle.corner_words.specs.Reads.{OwnLimits}
use Rattle.map_steps.specs.Steps.{laid}
use Rattle.corner_words.proofs.Holdings.{holding_long, holding_widths}
use Rattle.corner_runs.proofs.Directions.{searching}
use Rattle.working_tableau.specs.Starts.{SomeArtificial, KeptSearch, SearchUnless, StartConcluded, unbounded, corner}
use Rattle.working_tableau.proofs.FirstCorners.{own_corner, some_artificial_left}
use Rattle.working_tableau.proofs.starting.conclude_start.Goals as goal

pub invariant_of-tableau : goal.invariant_of-tableau
invariant_of-tableau c =
    let s = c.args.counts.shape in
    let ws = c.args.words.now in
    let h = searching s ws (subst (KeptSearch s ws) c.in-Ok.is c.requires.corner) in
    record { long = holding_long s ws h; wide = holding_widths s ws h c.args.counts.fit }

pub mask-requires-clause-holding : goal.mask-requires-clause-holding
mask-requires-clause-holding c =
    let s = c.args.counts.shape in
    let ws = c.args.words.now in
    searching s ws (subst (KeptSearch s ws) c.in-Ok.is c.requires.corner)

pub returns-then-artificial_left : goal.returns-then-artificial_left
returns-then-artificial_left c = λ p Y e H.
    let ws = c.args.words.now in
    let holds = subst (SearchUnless p Y ws) c.in-Ok.is H in
    let some : SomeArtificial (shape_of p) ws = subst (λ (c : Shape). SomeArtificial c ws) e c.if-artificial_left.ensures in
    subst (StartConcluded p Y ws c.args.tray.now c.lay.new.tray c.args.searched.exchanges _) (sym c.in-Ok.is)
    (unbounded (some_artificial_left p Y ws holds some) (c.lay.ensures ∙ ap (λ xs. laid xs c.args.tray.now) (c.direction.ensures p Y e holds.held)))

pub returns-else-artificial_left : goal.returns-else-artificial_left
returns-else-artificial_left c = λ p Y e H.
    let ws = c.args.words.now in
    let holds = subst (SearchUnless p Y ws) c.in-Ok.is H in
    let own : OwnLimits (shape_of p) ws = subst (λ (c : Shape). OwnLimits c ws) e c.if-artificial_left.ensures in
    let (X, same, held) = own_corner p Y ws holds own in
    subst (StartConcluded p Y ws c.args.tray.now c.args.tray.now c.args.searched.exchanges _) (sym c.in-Ok.is)
    (corner X same held (c.mask.ensures p X e held) refl refl)
