-- Words that describe a plant are laid out as a plant's, and say that plant.
use Rattle.std.proofs.Common.{◌≡◌, ℕ, ◌+◌, ◌-◌, ◌*◌, ◌/◌, ◌%◌, ◌^◌, ◌<◌, ◌≤◌, Bool, true, false, cond, eqb, List, length, get_or, ℤ, pos, nat_abs, is_some, Some, sym, refl, ap, ◌∙◌, subst, ⊎_elim, arith}
use Rattle.std.specs.List.{slice_get}
use Rattle.std.proofs.lemmas.List.FromFn.{fill_by_all}
use Rattle.std.proofs.lemmas.Option.{slice_get-get_or}
use Rattle.std.proofs.lemmas.Int.{ints}
use Rattle.std.proofs.lemmas.Bool.{eq-eqb, le-leb, cases_lt, cases_eq}
use Rattle.std.proofs.lemmas.Bool.Decides.{nat_tests}
use Rattle.std.proofs.lemmas.Nat.{div_below, mod_below, div-add-mod'}
use Rattle.words.specs.Bounds.{Value, largest_value, most_commands, most_limits, most_readings}
use Rattle.words.specs.Words.{kind_bits, bits_of_payload, payload}
use Rattle.words.specs.Kinds.{code}
use Rattle.words.specs.Layout.{shape_in, spare_in, width, limit_place, close_place, due}
use Rattle.words.specs.Faults.{head_fits, value_fits, payload_fault, word_fault, unless, fault, LaidOut}
use Rattle.words.specs.Faults as faults
use Rattle.words.proofs.Places.{same_shape, due_gain, due_limit, due_close}
use Rattle.words.specs.declared.counts.Shape.{Shape}
use Rattle.words.specs.declared.kind.Kind.{Kind}
use Rattle.words.specs.declared.kind.Kind.TheVariants.{Gain, Coefficient, Constant, Slope, Close}
use Rattle.words.specs.declared.refusal.Refusal.{Refusal}
use Rattle.words.specs.declared.refusal.Refusal.TheVariants.{Value as ValueRefused, WrongKind, Close as CloseRefused, Counts}
use Rattle.plant.specs.Tables.{table}
use Rattle.plant.specs.Meaning.{Limit, no_limit, Meaning, Values, shape_of}
use Rattle.plant.specs.Described.{StandsAt, AllStand, Describes, OnePlant, head_number}
use Rattle.plant.specs.Written.{in_bounds_or_zero, number_at, said_limit, said}
use Rattle.plant.proofs.Saying.{close_small}

-- A number of a plant has a small size.
pub value_size : (z : ℤ) → Value z → nat_abs z ≤ largest_value
value_size z v = let lo = v.0 in let hi = v.1 in omega (arith, ints)

pub value_kept : (z : ℤ) → Value z → in_bounds_or_zero z ≡ z
value_kept z v = rw (le-leb (nat_abs z) largest_value (value_size z v))

-- Bits that stand for a number from 0 up are that number.
bits_of : (w n : ℕ) → n < 2 ^ 27 → payload w ≡ pos n → bits_of_payload w ≡ n
bits_of w n h e = grind (arith, ints, nat_tests)

no_fault : (a b : Bool) (e f : Refusal) → a ≡ true → b ≡ true → is_some (cond a (unless b e) (Some f)) ≡ false
no_fault a b e f p q = rw (p, q)

limit_of : List ℤ → ℤ → List ℤ → Limit
limit_of cs z es = record { coefficients = cs; constant = z; slopes = es }

pub same_limit : (l k : Limit) → l.coefficients ≡ k.coefficients → l.constant ≡ k.constant → l.slopes ≡ k.slopes → l ≡ k
unfolding limit_of
same_limit l k a b e =
    let all : limit_of l.coefficients l.constant l.slopes ≡ limit_of k.coefficients k.constant k.slopes = rw (a, b, e) in all

meaning_of : List ℤ → ℕ → List Limit → Meaning
meaning_of bs d ls = record { gains = bs; readings = d; limits = ls }

pub same_meaning : (p q : Meaning) → p.gains ≡ q.gains → p.readings ≡ q.readings → p.limits ≡ q.limits → p ≡ q
unfolding meaning_of
same_meaning p q a b e =
    let all : meaning_of p.gains p.readings p.limits ≡ meaning_of q.gains q.readings q.limits = rw (a, b, e) in all

module _ (ws : List ℕ) (p : Meaning) (D : Describes ws p) where
  abbrev c : Shape
  c = shape_of p

  head_said : bits_of_payload (get_or ws 0 0) ≡ head_number c
  head_said = let b = D.bounded.counted in bits_of (get_or ws 0 0) (head_number c) (omega (arith, b.1, b.3, b.4)) D.head.1

  pub same_counts : faults.shape_of ws ≡ c
  same_counts =
      let b = D.bounded.counted in
      let w : bits_of_payload (get_or ws 0 0) ≡ head_number c = head_said in
      same_shape (faults.shape_of ws) c (omega (arith, b.1, b.3, b.4), omega (arith, b.1, b.3, b.4), omega (arith, b.1, b.3, b.4))

  -- A word that holds a number of the plant is right where its kind is due.
  number_right : (kind : Kind) (k : ℕ) (z : ℤ) → payload_fault kind (get_or ws k 0) k ≡ unless (value_fits (get_or ws k 0)) (ValueRefused k) → Value z → StandsAt ws k kind z → due c k ≡ kind → is_some (word_fault (due c k) (get_or ws k 0) k) ≡ false
  number_right kind k z f v s e =
      let fits : value_fits (get_or ws k 0) ≡ true = rw s.1 (le-leb (nat_abs z) largest_value (value_size z v)) in
      let here : is_some (cond (eqb (kind_bits (get_or ws k 0)) (code kind)) (unless (value_fits (get_or ws k 0)) (ValueRefused k)) (Some (WrongKind k))) ≡ false =
      no_fault (eqb (kind_bits (get_or ws k 0)) (code kind)) (value_fits (get_or ws k 0)) (ValueRefused k) (WrongKind k) (eq-eqb _ _ s.0) fits in
      subst (λ q. is_some (word_fault q (get_or ws k 0) k) ≡ false) (sym e)
      (subst (λ o. is_some (cond (eqb (kind_bits (get_or ws k 0)) (code kind)) o (Some (WrongKind k))) ≡ false) (sym f) here)

  Right : ℕ → Type 0
  Right k = is_some (word_fault (due c k) (get_or ws k 0) k) ≡ false

  head_right : Right 0
  unfolding Right
  head_right =
      let w = get_or ws 0 0 in
      let b = D.bounded.counted in
      let said : bits_of_payload w ≡ head_number c = head_said in
      let fits : head_fits w ≡ true = rw (
        le-leb 1 (shape_in w).commands (omega (arith, said, b.0, b.1, b.3, b.4)),
        le-leb (shape_in w).commands most_commands (omega (arith, said, b.1, b.3, b.4)),
        le-leb 1 (shape_in w).limits (omega (arith, said, b.1, b.2, b.3, b.4)),
        le-leb (shape_in w).limits most_limits (omega (arith, said, b.1, b.3, b.4)),
        le-leb (shape_in w).readings most_readings (omega (arith, said, b.1, b.3, b.4)),
        eq-eqb (spare_in w) 0 (omega (arith, said, b.1, b.3, b.4)),
      ) in
      no_fault (eqb (kind_bits w) 1) (head_fits w) Counts (WrongKind 0) (eq-eqb _ _ D.head.0) fits

  gain_right : (i : ℕ) → i < c.commands → Right (1 + i)
  unfolding Right
  gain_right i h =
      let e = slice_get-get_or p.gains i (pos 0) h in
      number_right Gain (1 + i) (get_or p.gains i (pos 0)) refl (D.bounded.gains.each i _ e) (D.gains i _ e) (due_gain c i h)

  limit_right : (j i : ℕ) → j < c.limits → i < width c → Right (limit_place c j + i)
  unfolding Right
  limit_right j i h k =
      let l = get_or p.limits j no_limit in
      let e = slice_get-get_or p.limits j no_limit h in
      let S = D.limits j l e in
      let F = D.bounded.limits j l e in
      let there = due_limit c j i h k in
      ⊎_elim
      (λ a.
      let n = slice_get-get_or l.coefficients i (pos 0) (rw F.wide a) in
      number_right Coefficient (limit_place c j + i) _ refl (F.coefficients.each i _ n) (S.coefficients i _ n) (there ∙ grind (arith, nat_tests)))
      (λ b. ⊎_elim
      (λ s.
      let at : limit_place c j + length l.coefficients ≡ limit_place c j + i = omega (arith, F.wide) in
      number_right Constant (limit_place c j + i) l.constant refl F.constant (subst (λ x. StandsAt ws x Constant l.constant) at S.constant) (there ∙ grind (arith, nat_tests)))
      (λ n.
      let o = i - (c.commands + 1) in
      let inside : o < length l.slopes = omega (arith, F.deep) in
      let t = slice_get-get_or l.slopes o (pos 0) inside in
      let at : limit_place c j + (length l.coefficients + 1) + o ≡ limit_place c j + i = omega (arith, F.wide) in
      number_right Slope (limit_place c j + i) _ refl (F.slopes.each o _ t) (subst (λ x. StandsAt ws x Slope (get_or l.slopes o (pos 0))) at (S.slopes o _ t)) (there ∙ grind (arith, nat_tests)))
      (cases_eq i c.commands))
      (cases_lt i c.commands)

  close_right : Right (close_place c)
  unfolding Right
  close_right =
      let k = close_place c in
      let w = get_or ws k 0 in
      let bits : bits_of_payload w ≡ k = bits_of w k (close_small c D.bounded.counted) D.close.1 in
      let here : is_some (word_fault Close w k) ≡ false = no_fault (eqb (kind_bits w) 6) (eqb (bits_of_payload w) k) (CloseRefused k) (WrongKind k) (eq-eqb _ _ D.close.0) (eq-eqb _ _ bits) in
      subst (λ q. is_some (word_fault q w k) ≡ false) (sym (due_close c)) here

  -- Every place up to the close is the head's, a gain's, one in a limit, or the close's.
  right_at : (k : ℕ) → k < length ws → Right k
  right_at k h = ⊎_elim
      (λ z. subst Right (sym z) head_right)
      (λ n. ⊎_elim
      (λ g. let at : 1 + (k - 1) ≡ k = omega arith in subst Right at (gain_right (k - 1) (omega arith)))
      (λ g. ⊎_elim
      (λ l.
      let o = k - (1 + c.commands) in
      let far : o < c.limits * width c = omega arith in
      let some : 0 < width c = omega arith in
      let at : limit_place c (o / width c) + o % width c ≡ k = omega (arith, div-add-mod' o (width c)) in
      subst Right at (limit_right (o / width c) (o % width c) (div_below o (width c) c.limits some far) (mod_below o (width c) some)))
      (λ l. let at : close_place c ≡ k = omega (arith, D.long) in subst Right at close_right)
      (cases_lt k (close_place c)))
      (cases_lt k (1 + c.commands)))
      (cases_eq k 0)

  pub described_is_laid_out : LaidOut ws
  unfolding Right
  described_is_laid_out = record {
    long = D.long ∙ ap (λ x. close_place x + 1) (sym same_counts);
    right = λ k h. subst (λ x. is_some (word_fault (due x k) (get_or ws k 0) k) ≡ false) (sym same_counts) (right_at k h);
  }

  -- A number that stands at a place is the number said there.
  said_number : (kind : Kind) (k : ℕ) (z : ℤ) → Value z → StandsAt ws k kind z → z ≡ number_at ws k
  said_number kind k z v s = sym (ap in_bounds_or_zero s.1 ∙ value_kept z v)

  all_said : (kind : Kind) (k n : ℕ) (zs : List ℤ) → length zs ≡ n → Values zs → AllStand ws k kind zs → zs ≡ table n (λ i. number_at ws (k + i))
  all_said kind k n zs e v s = fill_by_all (λ i. number_at ws (k + i)) zs n (pos 0) e
      (λ i h. let t = slice_get-get_or zs i (pos 0) (omega arith) in said_number kind (k + i) _ (v.each i _ t) (s i _ t))

  limit_said : (j : ℕ) (l : Limit) → slice_get p.limits j ≡ Some l → l ≡ said_limit ws c (limit_place c j)
  limit_said j l e =
      let S = D.limits j l e in
      let F = D.bounded.limits j l e in
      let k = limit_place c j in
      same_limit l (said_limit ws c k)
      (all_said Coefficient k c.commands l.coefficients F.wide F.coefficients S.coefficients)
      (said_number Constant (k + length l.coefficients) l.constant F.constant S.constant ∙ ap (λ m. number_at ws (k + m)) F.wide)
      (all_said Slope (k + (c.commands + 1)) c.readings l.slopes F.deep F.slopes (subst (λ m. AllStand ws (k + (m + 1)) Slope l.slopes) F.wide S.slopes))

  pub described_is_said : p ≡ said ws c
  described_is_said = same_meaning p (said ws c)
      (all_said Gain 1 c.commands p.gains refl D.bounded.gains D.gains)
      refl
      (fill_by_all (λ j. said_limit ws c (limit_place c j)) p.limits c.limits no_limit refl
      (λ j h. limit_said j (get_or p.limits j no_limit) (slice_get-get_or p.limits j no_limit h)))

-- No list of words describes two plants.
pub one_plant : OnePlant
one_plant ws p q D E =
    let a = described_is_said ws p D in
    let b = described_is_said ws q E in
    let same : shape_of p ≡ shape_of q = sym (same_counts ws p D) ∙ same_counts ws q E in
    a ∙ ap (said ws) same ∙ sym b
