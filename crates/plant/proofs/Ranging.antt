-- With a table that range answered, a ranged plant is the plant below with the ranges.
use Rattle.std.proofs.Common.{◌≡◌, ℕ, ◌+◌, ◌-◌, ◌<◌, List, ◌++◌, length, get_or, ℤ, pos, Some, Ok, Err, Result, sym, refl, ap, ◌∙◌, subst, arith, MatchResult}
use Rattle.std.proofs.lemmas.List.FromFn.{fill_by_all, get_or-map-range_with_len}
use Rattle.std.proofs.lemmas.Option.{slice_get-get_or}
use Rattle.std.proofs.lemmas.Bool.{ne_eqb}
use Rattle.words.specs.declared.counts.Shape.{Shape}
use Rattle.words.specs.declared.refusal.Refusal.{Refusal}
use Rattle.plant.specs.Tables.{at_place, within, table}
use Rattle.plant.specs.TableLaws.{length_table}
use Rattle.plant.specs.Meaning.{Meaning, Bounded, no_limit, shape_of}
use Rattle.plant.specs.Ranges.{at_most, at_least, range_limits, with_ranges, RangeFaulty}
use Rattle.plant.specs.Ranged.{or_zero, kept_limit, ranged, ranged_by, Tabled, RangeAnswer}
use Rattle.plant.specs.declared.range_table.RangeTable.{RangeTable}
use Rattle.plant.proofs.Describing.{same_limit, same_meaning}

at_next : {X : Type 0} (xs : List X) (i : ℕ) (d : X) → i < length xs → at_place xs (i + 1) ≡ Some (get_or xs i d)
at_next xs i d h =
    let back : i + 1 - 1 ≡ i = omega arith in
    rw (ne_eqb (i + 1) 0 (λ e. omega arith), back) (slice_get-get_or xs i d h)

-- The numbers of a list, asked one by one.
asked : (n : ℕ) (zs : List ℤ) → length zs ≡ n → zs ≡ table n (λ i. or_zero (at_place zs (i + 1)))
asked n zs e = fill_by_all (λ i. or_zero (at_place zs (i + 1))) zs n (pos 0) e (λ i h. ap or_zero (sym (at_next zs i (pos 0) (omega arith))))

-- Two functions that agree below n make one table.
same_table : {X : Type 0} (n : ℕ) (f g : ℕ → X) → ((i : ℕ) → i < n → f i ≡ g i) → table n f ≡ table n g
same_table n f g e = fill_by_all g (table n f) n (f 0) (length_table n f) (λ i h. get_or-map-range_with_len f 0 n i i (f 0) h (omega arith) ∙ e i h)

module _ (p : Meaning) (B : Bounded p) where
  kept : (j : ℕ) → j < length p.limits → get_or p.limits j no_limit ≡ kept_limit p (shape_of p) j
  kept j h =
      let l = get_or p.limits j no_limit in
      let there : at_place p.limits (j + 1) ≡ Some l = at_next p.limits j no_limit h in
      let F = B.limits j l (slice_get-get_or p.limits j no_limit h) in
      same_limit l (kept_limit p (shape_of p) j)
      (subst (λ o. l.coefficients ≡ table (length p.gains) (λ i. or_zero (within o (λ x. at_place x.coefficients (i + 1))))) (sym there) (asked (length p.gains) l.coefficients F.wide))
      (subst (λ o. l.constant ≡ or_zero (within o (λ x. Some x.constant))) (sym there) refl)
      (subst (λ o. l.slopes ≡ table p.readings (λ k. or_zero (within o (λ x. at_place x.slopes (k + 1))))) (sym there) (asked p.readings l.slopes F.deep))

  tabled : (lows highs : List ℤ) (t : RangeTable) → Tabled (shape_of p) lows highs t → ranged_by t p ≡ with_ranges p lows highs
  tabled lows highs t T =
      let c = shape_of p in
      let front : p.limits ≡ table c.limits (kept_limit p c) = fill_by_all (kept_limit p c) p.limits c.limits no_limit refl kept in
      let ups : table c.commands (λ i. at_most c i (get_or t.highs i (pos 0))) ≡ table c.commands (λ i. at_most c i (get_or highs i (pos 0))) = same_table c.commands _ _ (λ i h. ap (at_most c i) (T.same_highs i h)) in
      let downs : table c.commands (λ i. at_least c i (get_or t.lows i (pos 0))) ≡ table c.commands (λ i. at_least c i (get_or lows i (pos 0))) = same_table c.commands _ _ (λ i h. ap (at_least c i) (T.same_lows i h)) in
      ap (λ s. ranged p s t.lows t.highs) T.shape
      ∙ same_meaning (ranged p c t.lows t.highs) (with_ranges p lows highs)
      (sym (asked c.commands p.gains refl))
      refl
      (ap (λ xs. xs ++ range_limits c t.lows t.highs) (sym front) ∙ ap (λ ys. p.limits ++ ys) (ap (λ xs. xs ++ table c.commands (λ i. at_least c i (get_or t.lows i (pos 0)))) ups ∙ ap (λ ys. table c.commands (λ i. at_most c i (get_or highs i (pos 0))) ++ ys) downs))

  pub range_answers : (c : Shape) (lows highs : List ℤ) (r : Result RangeTable Refusal) → c ≡ shape_of p → MatchResult r (Tabled c lows highs) (RangeFaulty lows highs c) → RangeAnswer p lows highs r
  range_answers c lows highs (Ok t) e T = let U = subst (λ s. Tabled s lows highs t) e T in (U.fits, tabled lows highs t U)
  range_answers c lows highs (Err f) e F = subst (λ s. RangeFaulty lows highs s f) e F
