-- Every plant in bounds has words that describe it.
use Rattle.std.proofs.Common.{◌≡◌, ℕ, suc, ◌+◌, ◌-◌, ◌*◌, ◌/◌, ◌%◌, ◌^◌, ◌<◌, ◌≤◌, cond, eqb, ltb, leb, List, [], length, get_or, ℤ, pos, negsuc, ◌-ℤ◌, nat_abs, Some, sym, refl, ap, ◌∙◌, subst, ⊎_elim, suc-mul, arith}
use Rattle.std.specs.List.{slice_get}
use Rattle.std.proofs.lemmas.List.FromFn.{get_or-map-range_with_len}
use Rattle.std.proofs.lemmas.List.{get_or_past}
use Rattle.std.proofs.lemmas.Option.{slice_get-get_or, slice_get_past}
use Rattle.std.proofs.lemmas.Int.{ints}
use Rattle.std.proofs.lemmas.Bool.{lt-ltb, le-ltb, le-leb, lt-leb, eq-eqb, ne_eqb, cases_lt}
use Rattle.std.proofs.lemmas.Nat.{div-mul-add, mod-mul-add, mul-le}
use Rattle.words.specs.Bounds.{Value}
use Rattle.words.specs.Words.{IsWord}
use Rattle.words.specs.Kinds.{code}
use Rattle.words.specs.Layout.{width, limit_place, close_place}
use Rattle.words.specs.declared.counts.Shape.{Shape}
use Rattle.words.specs.declared.kind.Kind.{Kind}
use Rattle.words.specs.declared.kind.Kind.TheVariants.{Head, Gain, Coefficient, Constant, Slope, Close}
use Rattle.plant.specs.Tables.{table}
use Rattle.plant.specs.TableLaws.{length_table, by_test}
use Rattle.plant.specs.Meaning.{Limit, no_limit, Meaning, Values, Bounded, shape_of}
use Rattle.plant.specs.Described.{StandsAt, LimitStands, Describes, EveryPlant, head_number}
use Rattle.plant.specs.WrittenBounds.{zero_is_value}
use Rattle.plant.proofs.Saying.{close_small}
use Rattle.plant.proofs.Describing.{value_size}

-- Something at a place of a list stands inside it, and is what stands there at any default.
inside_list : {X : Type 0} (xs : List X) (i : ℕ) (x : X) → slice_get xs i ≡ Some x → i < length xs
inside_list xs i x e = ⊎_elim (λ h. h) (λ h. let r = slice_get_past xs i h in absurd (let bad : ◌≡◌ {A = ℕ} 0 1 = cc in omega arith)) (cases_lt i (length xs))

found_at : {X : Type 0} (xs : List X) (i : ℕ) (x d : X) → slice_get xs i ≡ Some x → get_or xs i d ≡ x
found_at xs i x d e = let r = slice_get-get_or xs i d (inside_list xs i x e) in cc

no_values : Values []
no_values = record { each = λ i z e. absurd (let bad : ◌≡◌ {A = ℕ} 0 1 = cc in omega arith) }

-- The 28 bits of a number, and the word of a kind with that number.
bits : ℤ → ℕ
bits (pos n) = n
bits (negsuc n) = 2 ^ 28 - suc n

word : ℕ → ℤ → ℕ
word kind z = kind * 2 ^ 28 + bits z

below_zero : (b n : ℕ) → b + suc n ≡ 2 ^ 28 → pos b -ℤ pos (2 ^ 28) ≡ negsuc n
below_zero b n e = grind (arith, ints)

is_word : (kind : ℕ) (z : ℤ) → nat_abs z < 2 ^ 27 → IsWord kind z (word kind z)
unfolding word bits
is_word kind (pos n) h =
    let low : (kind * 2 ^ 28 + n) % 2 ^ 28 ≡ n = omega arith in
    (omega arith, rw (low, lt-ltb n (2 ^ 27) h))
is_word kind (negsuc n) h =
    let low : (kind * 2 ^ 28 + (2 ^ 28 - suc n)) % 2 ^ 28 ≡ 2 ^ 28 - suc n = omega arith in
    (omega arith, rw (low, le-ltb (2 ^ 28 - suc n) (2 ^ 27) (omega arith)) (below_zero (2 ^ 28 - suc n) n (omega arith)))

word_small : (kind : ℕ) (z : ℤ) → kind < 16 → nat_abs z < 2 ^ 27 → word kind z < 2 ^ 32
unfolding word bits
word_small kind (pos n) k h = omega arith
word_small kind (negsuc n) k h = omega arith

small : (z : ℤ) → Value z → nat_abs z < 2 ^ 27
small z v = omega (arith, value_size z v)

-- Past a list stands 0, which is a value too.
value_at : (zs : List ℤ) → Values zs → (i : ℕ) → Value (get_or zs i (pos 0))
value_at zs v i = ⊎_elim
    (λ h. v.each i _ (slice_get-get_or zs i (pos 0) h))
    (λ h. rw (get_or_past zs i (pos 0) h) zero_is_value)
    (cases_lt i (length zs))

module _ (p : Meaning) (B : Bounded p) where
  abbrev c : Shape
  c = shape_of p

  -- The word in a column of a limit, and the word at a place.
  abbrev limit_word : Limit → ℕ → ℕ
  limit_word l i = cond (ltb i c.commands) (word 3 (get_or l.coefficients i (pos 0))) (cond (eqb i c.commands) (word 4 l.constant) (word 5 (get_or l.slopes (i - (c.commands + 1)) (pos 0))))

  abbrev word_at : ℕ → ℕ
  word_at k = cond (eqb k 0) (word 1 (pos (head_number c))) (cond (leb k c.commands) (word 2 (get_or p.gains (k - 1) (pos 0)))
      (cond (ltb k (close_place c)) (limit_word (get_or p.limits ((k - (1 + c.commands)) / width c) no_limit) ((k - (1 + c.commands)) % width c)) (word 6 (pos (close_place c)))))

  abbrev words_of : List ℕ
  words_of = table (close_place c + 1) word_at

  at : (k : ℕ) → k ≤ close_place c → get_or words_of k 0 ≡ word_at k
  at k h = get_or-map-range_with_len word_at 0 (close_place c + 1) k k 0 (omega arith) (omega arith)

  stands : (kind : Kind) (k : ℕ) (z : ℤ) → k ≤ close_place c → nat_abs z < 2 ^ 27 → word_at k ≡ word (code kind) z → StandsAt words_of k kind z
  stands kind k z h s e = subst (IsWord (code kind) z) (sym (at k h ∙ e)) (is_word (code kind) z s)

  head_size : head_number c < 2 ^ 27
  head_size = omega (arith, B.counted.1, B.counted.3, B.counted.4)

  close_size : close_place c < 2 ^ 27
  close_size = close_small c B.counted

  gain_word : (i : ℕ) → i < c.commands → word_at (1 + i) ≡ word 2 (get_or p.gains i (pos 0))
  gain_word i h =
      let back : 1 + i - 1 ≡ i = omega arith in
      rw (ne_eqb (1 + i) 0 (λ e. omega arith), le-leb (1 + i) c.commands (omega arith), back)

  limit_inside : (j : ℕ) → j < c.limits → limit_place c j + width c ≤ close_place c
  limit_inside j h = omega (arith, mul-le (suc j) (width c) c.limits (width c) h (omega arith), suc-mul j (width c))

  limit_word_at : (j i : ℕ) → j < c.limits → i < width c → word_at (limit_place c j + i) ≡ limit_word (get_or p.limits j no_limit) i
  limit_word_at j i h k =
      let o : limit_place c j + i - (1 + c.commands) ≡ j * width c + i = omega arith in
      let row : (limit_place c j + i - (1 + c.commands)) / width c ≡ j = ap (λ x. x / width c) o ∙ div-mul-add j (width c) i k in
      let column : (limit_place c j + i - (1 + c.commands)) % width c ≡ i = ap (λ x. x % width c) o ∙ mod-mul-add j (width c) i k in
      rw (ne_eqb (limit_place c j + i) 0 (λ e. omega arith), lt-leb (limit_place c j + i) c.commands (omega arith), lt-ltb (limit_place c j + i) (close_place c) (omega (arith, limit_inside j h)), row, column)

  close_word : word_at (close_place c) ≡ word 6 (pos (close_place c))
  close_word = rw (ne_eqb (close_place c) 0 (λ e. omega arith), lt-leb (close_place c) c.commands (omega arith), le-ltb (close_place c) (close_place c) (omega arith))

  limit_stands : (j : ℕ) (l : Limit) → slice_get p.limits j ≡ Some l → LimitStands words_of (limit_place c j) l
  limit_stands j l e =
      let h : j < c.limits = inside_list p.limits j l e in
      let F = B.limits j l e in
      let same : get_or p.limits j no_limit ≡ l = found_at p.limits j l no_limit e in
      let k = limit_place c j in
      let here : (i : ℕ) → i < width c → word_at (k + i) ≡ limit_word l i = λ i q. limit_word_at j i h q ∙ ap (λ x. limit_word x i) same in
      record {
        coefficients = λ i z t.
            let q : i < c.commands = rw (← F.wide) (inside_list l.coefficients i z t) in
            let w : limit_word l i ≡ word 3 z = rw (lt-ltb i c.commands q) (ap (word 3) (found_at l.coefficients i z (pos 0) t)) in
            stands Coefficient (k + i) z (omega (arith, limit_inside j h)) (small z (F.coefficients.each i z t)) (here i (omega arith) ∙ w);
        constant =
            let w : limit_word l c.commands ≡ word 4 l.constant = rw (le-ltb c.commands c.commands (omega arith), eq-eqb c.commands c.commands refl) in
            subst (λ m. StandsAt words_of (k + m) Constant l.constant) (sym F.wide)
            (stands Constant (k + c.commands) l.constant (omega (arith, limit_inside j h)) (small l.constant F.constant) (here c.commands (omega arith) ∙ w));
        slopes = λ i z t.
            let q : i < c.readings = rw (← F.deep) (inside_list l.slopes i z t) in
            let o = c.commands + 1 + i in
            let back : c.commands + 1 + i - (c.commands + 1) ≡ i = omega arith in
            let w : limit_word l o ≡ word 5 z = rw (le-ltb o c.commands (omega arith), ne_eqb o c.commands (λ x. omega arith), back) (ap (word 5) (found_at l.slopes i z (pos 0) t)) in
            let there : k + (length l.coefficients + 1) + i ≡ k + o = omega (arith, F.wide) in
            subst (λ x. StandsAt words_of x Slope z) (sym there)
            (stands Slope (k + o) z (omega (arith, limit_inside j h)) (small z (F.slopes.each i z t)) (here o (omega arith) ∙ w));
      }

  limits_fit : (i : ℕ) → Values (get_or p.limits i no_limit).coefficients × Value (get_or p.limits i no_limit).constant × Values (get_or p.limits i no_limit).slopes
  limits_fit i = ⊎_elim
      (λ h. let F = B.limits i _ (slice_get-get_or p.limits i no_limit h) in (F.coefficients, F.constant, F.slopes))
      (λ h. rw (get_or_past p.limits i no_limit h) (no_values, zero_is_value, no_values))
      (cases_lt i (length p.limits))

  -- Every word has 32 bits.
  word_at_small : (k : ℕ) → word_at k < 2 ^ 32
  word_at_small k =
      let l = (k - (1 + c.commands)) / width c in
      let F = limits_fit l in
      let P : ℕ → Type 0 = λ w. w < 2 ^ 32 in
      by_test P (eqb k 0) _ _ (word_small 1 _ (omega arith) head_size)
      (by_test P (leb k c.commands) _ _ (word_small 2 _ (omega arith) (small _ (value_at p.gains B.gains (k - 1))))
      (by_test P (ltb k (close_place c)) _ _
      (by_test P (ltb ((k - (1 + c.commands)) % width c) c.commands) _ _ (word_small 3 _ (omega arith) (small _ (value_at _ F.0 _)))
      (by_test P (eqb ((k - (1 + c.commands)) % width c) c.commands) _ _ (word_small 4 _ (omega arith) (small _ F.1)) (word_small 5 _ (omega arith) (small _ (value_at _ F.2 _)))))
      (word_small 6 _ (omega arith) close_size)))

  encoded : Describes words_of p
  encoded = record {
    bounded = B;
    long = length_table (close_place c + 1) word_at;
    head = stands Head 0 (pos (head_number c)) (omega arith) head_size refl;
    gains = λ i z e.
        let h : i < c.commands = inside_list p.gains i z e in
        stands Gain (1 + i) z (omega arith) (small z (B.gains.each i z e)) (gain_word i h ∙ ap (word 2) (found_at p.gains i z (pos 0) e));
    limits = limit_stands;
    close = stands Close (close_place c) (pos (close_place c)) (omega arith) close_size close_word;
  }

pub every_plant : EveryPlant
every_plant p B = (words_of p B, encoded p B, λ k h. let e = length_table (close_place (shape_of p) + 1) (word_at p B) in rw (at p B k (omega arith)) (word_at_small p B k))
