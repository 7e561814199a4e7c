use Rattle.std.proofs.Common.{◌≡◌, ℕ, ◌<◌, length, pos, ◌*ℤ◌, ◌∙◌, below_more, w64, SFits, rules, sym}
use Rattle.std.specs.Ordering.{int_cmp}
use Rattle.std.specs.declared.cmp.Ordering.TheVariants.{Equal}
use Rattle.std.proofs.lemmas.Cmp.{int_ranked}
use Rattle.std.proofs.lemmas.Int.{to_z-of_z}
use Rattle.std.proofs.lemmas.List.{length_push}
use Rattle.std.proofs.lemmas.Slice.Zip.{zip_turn}
use Rattle.exact.specs.Vectors.{entries}
use Rattle.exact.proofs.Ranks.{first_apart}
use Rattle.exact.proofs.order.compare.Goals.{After-compare_fractions}
use Rattle.exact.proofs.order.compare.Goals as goal

-- The pair at hand stands at the place that is counted so far, and how its numbers compare is known.
turn : (c : After-compare_fractions) → (length c.loop-x.yielded < length c.args.xs.now) × (c.compare_fractions.result ≡ int_cmp (c.args.t *ℤ entries c.args.xs.now (length c.loop-x.yielded)) (c.args.s *ℤ entries c.args.ys.now (length c.loop-x.yielded)))
turn c =
    let hs = c.ranges.s in let ht = c.ranges.t in
    let hf : SFits w64 c.in-Some.x.now = search rules in
    let hg : SFits w64 c.in-Some.y.now = search rules in
    let t = zip_turn c.args.xs.now c.args.ys.now c.loop-x.yielded c.into_iter-x-iterator.result c.loop-x.x-iterator c.next.new.self c.next.result (search rules) (search rules) c.loop-x.yielded_by (c.in-Some.x, c.in-Some.y) c.in-Some.is c.next.ensures.steps in
    let e : c.compare_fractions.result ≡ int_cmp (c.args.t *ℤ c.in-Some.x.now) (c.args.s *ℤ c.in-Some.y.now) = simp to_z-of_z at c.compare_fractions.ensures in
    (t.0, rw (← t.2 (pos 0), ← t.3 (pos 0)) e)

pub loop-x-preserved : goal.loop-x-preserved
loop-x-preserved c =
    let s = c.args.s in let t = c.args.t in let f = entries c.args.xs.now in let g = entries c.args.ys.now in let n = length c.loop-x.yielded in
    let hs = c.ranges.s in let ht = c.ranges.t in
    let e = turn (goal.at-loop-x-preserved c).After-compare_fractions in
    let z : (k : ℕ) → k < n → t *ℤ f k ≡ s *ℤ g k = simp to_z-of_z at c.loop-x.invariant in
    simp (to_z-of_z, length_push) (below_more _ _ z (int_ranked (t *ℤ f n) (s *ℤ g n) Equal (sym c.in-Equal.is ∙ e.1)))

pub returns-in_default : goal.returns-in_default
returns-in_default c =
    let s = c.args.s in let t = c.args.t in let f = entries c.args.xs.now in let g = entries c.args.ys.now in
    let hs = c.ranges.s in let ht = c.ranges.t in
    let e = turn (goal.at.returns-in_default c).After-compare_fractions in
    let z : (k : ℕ) → k < length c.loop-x.yielded → t *ℤ f k ≡ s *ℤ g k = simp to_z-of_z at c.loop-x.invariant in
    first_apart (length c.args.xs.now) (length c.loop-x.yielded) f s g t c.compare_fractions.result e.0 z (int_ranked _ _ _ e.1) c.in_default.not-Equal
