-- The numbers that the rows hold after an exchange are the tableau of the basis across.
use Rattle.std.proofs.Common.{◌≡◌, ℕ, suc, ◌+◌, ◌-◌, ◌*◌, ◌<◌, ◌≤◌, cond, eqb, List, length, drop, ℤ, pos, ◌-ℤ◌, ◌*ℤ◌, neg_ℤ, ◌<ℤ◌, sym, refl, ap, ◌∙◌, subst, ⊎_elim, arith}
use lib.IntN.{*ℤ_comm}
use lib.Signed.{quot_z}
use Rattle.std.proofs.lemmas.Bool.{eq-eqb, ne_eqb, le-leb, lt-leb, cases_eq, cases_lt}
use Rattle.exact.specs.Bounds.{InWidth, AllInWidth}
use Rattle.exact.specs.Divisors.{Divides, Gcd}
use Rattle.exact.specs.LowestTerms.{every, Lowest}
use Rattle.exact.specs.Vectors.{entries}
use Rattle.exact.proofs.Exact.{exact, exact_back}
use Rattle.exact.proofs.Lowest.{every_all, every_entry}
use Rattle.exact.proofs.Ring.{cancel}
use Rattle.exact.proofs.Sizes.{abs_neg}
use Rattle.plant.specs.Meaning.{Meaning, shape_of}
use Rattle.rows.specs.Cells.{cell}
use Rattle.rows.specs.Pivots.{numerator_of, PivotDivisor, ExchangeOut, leaving, other, Pivoted, PivotOut}
use Rattle.rows.specs.Rewrites.{rewritten, scaled}
use Rattle.tableau.specs.Basis.{Inverse, Among}
use Rattle.tableau.specs.Exchange.{Exchanged}
use Rattle.tableau.specs.Plants.{commands, limits}
use Rattle.tableau.specs.Tableau.{Tableau, TableauInWidth, entry, law, law_gain, slack_rate}
use Rattle.tableau.proofs.Exchange.{exchange}
use Rattle.tableau.proofs.Lowest.{exchanged_lowest, lowest_d}
use Rattle.tableau_words.specs.Layout.{row_width, limit_column, row_count, first_row, number_at}
use Rattle.tableau_words.specs.Held.{basis_row, reading_row, Held}
use Rattle.tableau_words.specs.Exchanges.{HoldsAcross, OutOfWidthAcross}
use Rattle.tableau_words.proofs.Rewritten.{by_column, pivot_row, other_row, readings_row}

-- The numbers of a held row, by their columns.
module _ (p : Meaning) (a : ℕ → ℕ → ℤ) (β : ℕ → ℕ) (D : ℤ) (U : ℕ → ℕ → ℤ) where
  pub in_command : (r i : ℕ) → i < commands p → basis_row p a β D U r (1 + i) ≡ U r i
  in_command r i h =
      let back : 1 + i - 1 ≡ i = omega arith in
      rw (ne_eqb (1 + i) 0 (λ e. omega arith), le-leb (1 + i) (commands p) (omega arith), back)

  pub in_limit : (r j : ℕ) → basis_row p a β D U r (limit_column (shape_of p) j) ≡ entry p a U r j
  in_limit r j =
      let back : 1 + commands p + j - (1 + commands p) ≡ j = omega arith in
      rw (ne_eqb (1 + commands p + j) 0 (λ e. omega arith), lt-leb (1 + commands p + j) (commands p) (omega arith), back)

  pub in_reading_limit : (k j : ℕ) → reading_row p a β D U k (limit_column (shape_of p) j) ≡ slack_rate p a β D U k j
  in_reading_limit k j =
      let back : 1 + commands p + j - (1 + commands p) ≡ j = omega arith in
      rw (ne_eqb (1 + commands p + j) 0 (λ e. omega arith), lt-leb (1 + commands p + j) (commands p) (omega arith), back)

  pub in_law : (k i : ℕ) → i < commands p → reading_row p a β D U k (1 + i) ≡ neg_ℤ (law p β U k i)
  in_law k i h =
      let back : 1 + i - 1 ≡ i = omega arith in
      rw (ne_eqb (1 + i) 0 (λ e. omega arith), le-leb (1 + i) (commands p) (omega arith), back)

  -- Every number of a row of a tableau in width is in width.
  module _ (W : TableauInWidth p (limits p) a β D U) where
    pub row_in_width : (s i : ℕ) → s < commands p → i < row_width (shape_of p) → InWidth (basis_row p a β D U s i)
    row_in_width s i l h = by_column _ (commands p) i
        (λ z. rw (eq-eqb i 0 z) (W.row_gains s l))
        (λ n k. rw (ne_eqb i 0 n, le-leb i (commands p) k) (W.rows s (i - 1) l (omega arith)))
        (λ n k. rw (ne_eqb i 0 n, lt-leb i (commands p) k) (W.entries s (i - (1 + commands p)) l (omega arith)))

    pub reading_in_width : (k i : ℕ) → k ≤ p.readings → i < row_width (shape_of p) → InWidth (reading_row p a β D U k i)
    reading_in_width k i l h = by_column _ (commands p) i
        (λ z. rw (eq-eqb i 0 z) (let x = W.law_gains k l in omega (arith, abs_neg (law_gain p β U k))))
        (λ n q. rw (ne_eqb i 0 n, le-leb i (commands p) q) (let x = W.laws k (i - 1) l (omega arith) in omega (arith, abs_neg (law p β U k (i - 1)))))
        (λ n q. rw (ne_eqb i 0 n, lt-leb i (commands p) q) (W.slack_rates k (i - (1 + commands p)) l (omega arith)))

  -- Words whose rows are in width hold a tableau in width.
  module _ (ws : List ℤ) (H : Held p a β D U ws) (small : AllInWidth (drop (first_row (shape_of p)) ws)) where
    number_small : (s i : ℕ) (z : ℤ) → number_at (shape_of p) ws s i ≡ z → InWidth z
    number_small s i z e = subst InWidth e (small (s * row_width (shape_of p) + i))

    law_small : (k i : ℕ) (z : ℤ) → number_at (shape_of p) ws (commands p + k) i ≡ neg_ℤ z → InWidth z
    law_small k i z e = let h : InWidth (neg_ℤ z) = number_small (commands p + k) i (neg_ℤ z) e in omega (arith, abs_neg z)

    pub held_in_width : InWidth D → TableauInWidth p (limits p) a β D U
    held_in_width d = record {
      denominator = d;
      row_gains = λ s l. number_small s 0 _ (H.basis_rows s 0 l (omega arith));
      rows = λ s i l k. number_small s (1 + i) _ (H.basis_rows s (1 + i) l (omega arith) ∙ in_command s i k);
      entries = λ s j l k. number_small s (limit_column (shape_of p) j) _ (H.basis_rows s (limit_column (shape_of p) j) l (omega arith) ∙ in_limit s j);
      law_gains = λ k l. law_small k 0 (law_gain p β U k) (H.reading_rows k 0 l (omega arith));
      laws = λ k i l h. law_small k (1 + i) (law p β U k i) (H.reading_rows k (1 + i) l (omega arith) ∙ in_law k i h);
      slack_rates = λ k j l h. number_small (commands p + k) (limit_column (shape_of p) j) _ (H.reading_rows k (limit_column (shape_of p) j) l (omega arith) ∙ in_reading_limit k j);
    }

-- The exchange of a held tableau at row r, where limit j enters.
module _ (p : Meaning) (a : ℕ → ℕ → ℤ) (β : ℕ → ℕ) (D : ℤ) (U : ℕ → ℕ → ℤ) (T : Tableau (commands p) a β D U) (before : List ℤ) (H : Held p a β D U before)
    (r j : ℕ) (rm : r < commands p) (jn : j < limits p) (tpos : pos 0 <ℤ entry p a U r j) where
  abbrev m : ℕ
  m = commands p

  abbrev w : ℕ
  w = row_width (shape_of p)

  abbrev col : ℕ
  col = limit_column (shape_of p) j

  abbrev xs : List ℤ
  xs = drop (first_row (shape_of p)) before

  -- The new numbers before the division.
  abbrev numerator : ℕ → ℕ → ℤ
  numerator s c = cond (eqb s r) (D *ℤ U r c) (entry p a U r j *ℤ U s c -ℤ entry p a U s j *ℤ U r c)

  cell_command : (s c : ℕ) → s < m → c < m → cell w xs s (1 + c) ≡ U s c
  cell_command s c l k = H.basis_rows s (1 + c) l (omega arith) ∙ in_command p a β D U s c k

  cell_limit : (s : ℕ) → s < m → cell w xs s col ≡ entry p a U s j
  cell_limit s l = H.basis_rows s col l (omega arith) ∙ in_limit p a β D U s j

  same_numerator : (s c : ℕ) → s < m → c < m → numerator_of D w r col xs s (1 + c) ≡ numerator s c
  unfolding numerator_of
  same_numerator s c l k = rw (cell_command r c rm k, cell_command s c l k, cell_limit r rm, cell_limit s l)

  -- With the divisor of the numerators, the quotients are the inverse across.
  module _ (g : ℤ) (G : PivotDivisor D w m 1 r col xs g) where
    abbrev U' : ℕ → ℕ → ℤ
    U' s c = quot_z (numerator s c) g

    abbrev D' : ℤ
    D' = quot_z (D *ℤ entry p a U r j) g

    abbrev β' : ℕ → ℕ
    β' s = cond (eqb s r) j (β s)

    whole_divisor : Gcd (suc (m * m)) (every m (D *ℤ cell w xs r col) (λ s c. numerator_of D w r col xs s (1 + c))) g
    whole_divisor = G.greatest

    divides_numerator : (s c : ℕ) → s < m → c < m → Divides g (numerator s c)
    divides_numerator s c l k = subst (Divides g) (same_numerator s c l k) (every_entry (Divides g) m (D *ℤ cell w xs r col) (λ s c. numerator_of D w r col xs s (1 + c)) whole_divisor.divides s c l k)

    divides_denominator : Divides g (D *ℤ entry p a U r j)
    divides_denominator = subst (λ z. Divides g (D *ℤ z)) (cell_limit r rm) (whole_divisor.divides 0 (omega arith))

    whole : (s c : ℕ) → s < m → c < m → g *ℤ U' s c ≡ numerator s c
    whole s c l k = exact_back g (numerator s c) G.positive (divides_numerator s c l k)

    pub exchanged : Exchanged m a β D U r j g β' D' U'
    exchanged = record {
      inside = rm;
      gpos = G.positive;
      tpos = tpos;
      comes = rw (eq-eqb r r refl);
      stays = λ i l n. rw (ne_eqb i r n);
      denominator = exact_back g (D *ℤ entry p a U r j) G.positive divides_denominator;
      pivot_row = λ c k. whole r c rm k ∙ rw (eq-eqb r r refl);
      other_row = λ i l n c k. whole i c l k ∙ rw (ne_eqb i r n);
    }

    greatest : (d : ℤ) → Divides d (D *ℤ entry p a U r j) → ((c : ℕ) → c < m → Divides d (D *ℤ U r c))
        → ((i : ℕ) → i < m → ¬ (i ≡ r) → (c : ℕ) → c < m → Divides d (entry p a U r j *ℤ U i c -ℤ entry p a U i j *ℤ U r c)) → Divides d g
    greatest d a₀ a₁ a₂ = whole_divisor.greatest d (every_all (Divides d) m (D *ℤ cell w xs r col) (λ s c. numerator_of D w r col xs s (1 + c))
        (subst (λ z. Divides d (D *ℤ z)) (sym (cell_limit r rm)) a₀)
        (λ s c l k. subst (Divides d) (sym (same_numerator s c l k)) (⊎_elim
        (λ e. let z : numerator s c ≡ D *ℤ U r c = rw (eq-eqb s r e) in subst (Divides d) (sym z) (a₁ c k))
        (λ n. let z : numerator s c ≡ entry p a U r j *ℤ U s c -ℤ entry p a U s j *ℤ U r c = rw (ne_eqb s r n) in subst (Divides d) (sym z) (a₂ s l n c k))
        (cases_eq s r))))

    pub lowest : Lowest m D' U'
    lowest = exchanged_lowest m a β D U r j g β' D' U' exchanged greatest

    pub tableau_across : Tableau m a β' D' U'
    tableau_across = record { inverse = exchange m a β D U r j g β' D' U' T.inverse exchanged; lowest = lowest }

    -- The quotients that the rows hold are the numbers of the tableau across.
    pub pivot_quotient : (i : ℕ) → i < w → scaled D g (cell w xs r i) ≡ basis_row p a β' D' U' r i
    unfolding scaled
    pivot_quotient i h = ap (λ z. quot_z (D *ℤ z) g) (H.basis_rows r i rm h) ∙ ap (λ z. quot_z z g) (sym (pivot_row p a β D U r j g β' D' U' T.inverse exchanged i)) ∙ exact g (basis_row p a β' D' U' r i) G.positive

    pub other_quotient : (s i : ℕ) → s < m → ¬ (s ≡ r) → i < w → rewritten (cell w xs r col) g (cell w xs s col) (cell w xs s i) (cell w xs r i) ≡ basis_row p a β' D' U' s i
    unfolding rewritten
    other_quotient s i l n h =
        rw (cell_limit r rm, cell_limit s l, H.basis_rows s i l h, H.basis_rows r i rm h)
        (ap (λ z. quot_z z g) (sym (other_row p a β D U r j g β' D' U' T.inverse exchanged s i l n)) ∙ exact g (basis_row p a β' D' U' s i) G.positive)

    pub reading_quotient : (k i : ℕ) → k ≤ p.readings → i < w → rewritten (cell w xs r col) g (cell w xs (m + k) col) (cell w xs (m + k) i) (cell w xs r i) ≡ reading_row p a β' D' U' k i
    unfolding rewritten
    reading_quotient k i l h =
        rw (cell_limit r rm, H.reading_rows k col l (omega arith) ∙ in_reading_limit p a β D U k j, H.reading_rows k i l h, H.basis_rows r i rm h)
        (ap (λ z. quot_z z g) (sym (readings_row p a β D U r j g β' D' U' T.inverse exchanged k i)) ∙ exact g (reading_row p a β' D' U' k i) G.positive)

  -- The words after an exchange hold the tableau across, in width.
  module _ (after ys : List ℤ) (d : ℤ) (P : Pivoted D w m (row_count (shape_of p)) 1 r col xs ys d) (matrix : drop (first_row (shape_of p)) after ≡ ys) (kept : length after ≡ length before)
      (first : entries after 0 ≡ d) (named : (s : ℕ) → s < m → entries after (1 + s) ≡ cond (eqb s r) (pos j) (entries before (1 + s))) where
    abbrev g : ℤ
    g = P.divisor

    abbrev G : PivotDivisor D w m 1 r col xs g
    G = P.is_divisor

    cell_after : (s i : ℕ) → cell w (drop (first_row (shape_of p)) after) s i ≡ cell w ys s i
    cell_after s i = ap (λ zs. cell w zs s i) matrix

    basis_after : (s i : ℕ) → s < m → i < w → cell w ys s i ≡ basis_row p a (β' g G) (D' g G) (U' g G) s i
    basis_after s i l h = ⊎_elim
        (λ e. subst (λ x. cell w ys x i ≡ basis_row p a (β' g G) (D' g G) (U' g G) x i) (sym e) (P.rows.leaving i h ∙ pivot_quotient g G i h))
        (λ n. P.rows.others s i (omega arith) n h ∙ other_quotient g G s i l n h)
        (cases_eq s r)

    reading_after : (k i : ℕ) → k ≤ p.readings → i < w → cell w ys (m + k) i ≡ reading_row p a (β' g G) (D' g G) (U' g G) k i
    reading_after k i l h = P.rows.others (m + k) i (omega arith) (λ e. omega arith) h ∙ reading_quotient g G k i l h

    new_denominator : d ≡ D' g G
    unfolding scaled
    new_denominator = P.denominator ∙ ap (λ z. quot_z (D *ℤ z) g) (cell_limit r rm)

    held_after : Held p a (β' g G) (D' g G) (U' g G) after
    held_after = record {
      long = kept ∙ H.long;
      denominator = first ∙ new_denominator;
      limits = λ s l. named s l ∙ ⊎_elim
          (λ e. let z : cond (eqb s r) (pos j) (entries before (1 + s)) ≡ pos (β' g G s) = rw (eq-eqb s r e) in z)
          (λ n. let z : cond (eqb s r) (pos j) (entries before (1 + s)) ≡ pos (β' g G s) = rw (ne_eqb s r n) (H.limits s l) in z)
          (cases_eq s r);
      basis_rows = λ s i l h. cell_after s i ∙ basis_after s i l h;
      reading_rows = λ k i l h. cell_after (m + k) i ∙ reading_after k i l h;
    }

    pub holds_across : HoldsAcross p a β D U r j after
    holds_across = record {
      divisor = g;
      β' = β' g G;
      D' = D' g G;
      U' = U' g G;
      exchanged = exchanged g G;
      tableau = tableau_across g G;
      in_width = held_in_width p a (β' g G) (D' g G) (U' g G) after held_after (subst AllInWidth (sym matrix) P.rows.widths) (subst InWidth new_denominator P.denominator_width);
      held = held_after;
    }

  -- Where a quotient is out of width, so is the tableau across, which is one.
  module _ (Q : PivotOut D w m (row_count (shape_of p)) 1 r col xs) (g₂ : ℤ) (β₂ : ℕ → ℕ) (D₂ : ℤ) (U₂ : ℕ → ℕ → ℤ)
      (X : Exchanged m a β D U r j g₂ β₂ D₂ U₂) (L : Lowest m D₂ U₂) (W : TableauInWidth p (limits p) a β₂ D₂ U₂) where
    abbrev q : ℤ
    q = Q.divisor

    abbrev E : PivotDivisor D w m 1 r col xs q
    E = Q.is_divisor

    inverse₂ : Inverse m a β₂ D₂ U₂
    inverse₂ = exchange m a β D U r j g₂ β₂ D₂ U₂ T.inverse X

    same_limits : Among m (β' q E) β₂
    same_limits s l = (
      s,
      l,
      ⊎_elim
          (λ e. let z : β' q E s ≡ j = rw (eq-eqb s r e) in ap β₂ e ∙ X.comes ∙ sym z)
          (λ n. let z : β' q E s ≡ β s = rw (ne_eqb s r n) in X.stays s l n ∙ sym z)
          (cases_eq s r),
    )

    same_d : D' q E ≡ D₂
    same_d = lowest_d m a (β' q E) (D' q E) (U' q E) (tableau_across q E).inverse β₂ D₂ U₂ inverse₂ same_limits (lowest q E) L

    same_divisor : g₂ ≡ q
    same_divisor = cancel g₂ q D₂ inverse₂.dpos (X.denominator ∙ sym (exchanged q E).denominator ∙ ap (λ z. q *ℤ z) same_d)

    same_number : (x y : ℤ) → g₂ *ℤ x ≡ q *ℤ y → x ≡ y
    same_number x y e = cancel x y q E.positive (*ℤ_comm x q ∙ ap (λ z. z *ℤ x) (sym same_divisor) ∙ e ∙ *ℤ_comm q y)

    pivot_same : (i : ℕ) → basis_row p a β₂ D₂ U₂ r i ≡ basis_row p a (β' q E) (D' q E) (U' q E) r i
    pivot_same i = same_number _ _ (pivot_row p a β D U r j g₂ β₂ D₂ U₂ T.inverse X i ∙ sym (pivot_row p a β D U r j q (β' q E) (D' q E) (U' q E) T.inverse (exchanged q E) i))

    other_same : (s i : ℕ) → s < m → ¬ (s ≡ r) → basis_row p a β₂ D₂ U₂ s i ≡ basis_row p a (β' q E) (D' q E) (U' q E) s i
    other_same s i l n = same_number _ _ (other_row p a β D U r j g₂ β₂ D₂ U₂ T.inverse X s i l n ∙ sym (other_row p a β D U r j q (β' q E) (D' q E) (U' q E) T.inverse (exchanged q E) s i l n))

    reading_same : (k i : ℕ) → reading_row p a β₂ D₂ U₂ k i ≡ reading_row p a (β' q E) (D' q E) (U' q E) k i
    reading_same k i = same_number _ _ (readings_row p a β D U r j g₂ β₂ D₂ U₂ T.inverse X k i ∙ sym (readings_row p a β D U r j q (β' q E) (D' q E) (U' q E) T.inverse (exchanged q E) k i))

    out : ExchangeOut D q col r w (row_count (shape_of p)) xs → ⊥
    out (leaving i h o) = o (subst InWidth (pivot_same i ∙ sym (pivot_quotient q E i h)) (row_in_width p a β₂ D₂ U₂ W r i rm h))
    out (other s i l n h o) = ⊎_elim
        (λ k. o (subst InWidth (other_same s i k n ∙ sym (other_quotient q E s i k n h)) (row_in_width p a β₂ D₂ U₂ W s i k h)))
        (λ k.
        let at : m + (s - m) ≡ s = omega arith in
        let few : s - m ≤ p.readings = omega arith in
        o (subst InWidth (reading_same (s - m) i ∙ sym (subst (λ x. rewritten (cell w xs r col) q (cell w xs x col) (cell w xs x i) (cell w xs r i) ≡ reading_row p a (β' q E) (D' q E) (U' q E) (s - m) i) at (reading_quotient q E (s - m) i few h))) (reading_in_width p a β₂ D₂ U₂ W (s - m) i few h)))
        (cases_lt s m)

  pub out_across : PivotOut D w m (row_count (shape_of p)) 1 r col xs → OutOfWidthAcross p a β D U r j
  out_across Q g₂ β₂ D₂ U₂ X L W = out Q g₂ β₂ D₂ U₂ X L W Q.out
