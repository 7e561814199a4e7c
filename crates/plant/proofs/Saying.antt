-- Words that are laid out as a plant's describe the plant that they say.
use Rattle.std.proofs.Common.{◌≡◌, ℕ, suc, ◌+◌, ◌^◌, ◌<◌, false, cond, eqb, List, length, get_or, pos, is_some, Some, sym, refl, ap, ◌∙◌, subst, ⊎_elim, suc-mul, arith}
use Rattle.std.specs.List.{slice_get}
use Rattle.std.proofs.lemmas.Bool.{eqb-true, lt-ltb, le-ltb, eq-eqb, ne_eqb, cases_lt}
use Rattle.std.proofs.lemmas.Nat.{mul-le, mod-pow-add}
use Rattle.words.specs.Words.{kind_bits, bits_of_payload, payload}
use Rattle.words.specs.Kinds.{code}
use Rattle.words.specs.Layout.{shape_in, spare_in, InBounds, width, limit_place, close_place, column_kind, due}
use Rattle.words.specs.Faults.{value_fits, payload_fault, word_fault, unless, fault, LaidOut}
use Rattle.words.specs.Faults as faults
use Rattle.words.proofs.Places.{passed, due_gain, due_limit, due_close, head_right}
use Rattle.words.specs.declared.counts.Shape.{Shape}
use Rattle.words.specs.declared.kind.Kind.{Kind}
use Rattle.words.specs.declared.kind.Kind.TheVariants.{Head, Gain, Coefficient, Constant, Slope, Close}
use Rattle.words.specs.declared.refusal.Refusal.TheVariants.{Value as ValueRefused, WrongKind, Close as CloseRefused, Counts}
use Rattle.plant.specs.Tables.{table}
use Rattle.plant.specs.TableLaws.{length_table, nth_table, past_table}
use Rattle.plant.specs.Meaning.{shape_of}
use Rattle.plant.specs.Described.{StandsAt, LimitStands, Describes, head_number}
use Rattle.plant.specs.Written.{number_at, said_limit, said}
use Rattle.plant.specs.WrittenBounds.{said_bounded}

pub said_shape : (ws : List ℕ) (c : Shape) → shape_of (said ws c) ≡ c
said_shape ws c = rw (length_table c.commands (λ i. number_at ws (1 + i)), length_table c.limits (λ j. said_limit ws c (limit_place c j)))

-- Something at a place of a table is what the function says there.
pub in_table : {X : Type 0} (n : ℕ) (f : ℕ → X) (i : ℕ) (x : X) → slice_get (table n f) i ≡ Some x → (i < n) × (f i ≡ x)
in_table n f i x e = ⊎_elim
    (λ h. let r = nth_table n f i h in (h, cc))
    (λ h. let r = past_table n f i h in absurd (let bad : ◌≡◌ {A = ℕ} 0 1 = cc in omega arith))
    (cases_lt i n)

-- A small bit pattern stands for itself.
pub small_payload : (w : ℕ) → bits_of_payload w < 2 ^ 27 → payload w ≡ pos (bits_of_payload w)
small_payload w h = rw (lt-ltb (bits_of_payload w) (2 ^ 27) h)

-- A plant has few words.
pub close_small : (c : Shape) → InBounds c → close_place c < 2 ^ 27
close_small c b = omega (arith, mul-le c.limits (width c) 16 8 b.3 (omega (arith, b.1, b.4)), b.1)

-- Without spare bits the payload of a head is the number of its counts.
pub head_bits : (w : ℕ) → spare_in w ≡ 0 → bits_of_payload w ≡ head_number (shape_in w)
head_bits w e = omega (arith, mod-pow-add w 4 24, mod-pow-add w 8 16, mod-pow-add w 8 8)

module _ (ws : List ℕ) (L : LaidOut ws) where
  abbrev c : Shape
  c = faults.shape_of ws

  right_as : (kind : Kind) (k : ℕ) → k < length ws → due c k ≡ kind → is_some (word_fault kind (get_or ws k 0) k) ≡ false
  right_as kind k h e = subst (λ q. is_some (word_fault q (get_or ws k 0) k) ≡ false) e (L.right k h)

  -- A word that may hold any number of a plant holds the one that is said there.
  number_stands : (kind : Kind) (k : ℕ) → payload_fault kind (get_or ws k 0) k ≡ unless (value_fits (get_or ws k 0)) (ValueRefused k) → k < length ws → due c k ≡ kind → StandsAt ws k kind (number_at ws k)
  number_stands kind k f h e =
      let p = passed (eqb (kind_bits (get_or ws k 0)) (code kind)) (value_fits (get_or ws k 0)) (ValueRefused k) (WrongKind k)
      (subst (λ o. is_some (cond (eqb (kind_bits (get_or ws k 0)) (code kind)) o (Some (WrongKind k))) ≡ false) f (right_as kind k h e)) in
      (eqb-true _ _ p.0, rw p.1)

  bounds : InBounds c
  bounds = (head_right ws (length ws) (omega (arith, L.long)) L.right).0

  limit_within : (j : ℕ) → j < c.limits → limit_place c j + width c < length ws
  limit_within j h =
      let last = mul-le (suc j) (width c) c.limits (width c) h (omega arith) in
      omega (arith, L.long, last, suc-mul j (width c))

  -- A word in a column of a limit.
  column_stands : (kind : Kind) (j i : ℕ) → j < c.limits → i < width c → column_kind c i ≡ kind
      → payload_fault kind (get_or ws (limit_place c j + i) 0) (limit_place c j + i) ≡ unless (value_fits (get_or ws (limit_place c j + i) 0)) (ValueRefused (limit_place c j + i))
      → StandsAt ws (limit_place c j + i) kind (number_at ws (limit_place c j + i))
  column_stands kind j i h k e f = number_stands kind (limit_place c j + i) f (omega (arith, limit_within j h)) (due_limit c j i h k ∙ e)

  limit_stands : (j : ℕ) → j < c.limits → LimitStands ws (limit_place c j) (said_limit ws c (limit_place c j))
  limit_stands j h = record {
    coefficients = λ i z e.
        let t = in_table c.commands (λ i. number_at ws (limit_place c j + i)) i z e in
        let k : column_kind c i ≡ Coefficient = rw (lt-ltb i c.commands t.0) in
        subst (StandsAt ws (limit_place c j + i) Coefficient) t.1 (column_stands Coefficient j i h (omega (arith, t.0)) k refl);
    constant =
        let k : column_kind c c.commands ≡ Constant = rw (le-ltb c.commands c.commands (omega arith), eq-eqb c.commands c.commands refl) in
        rw (length_table c.commands (λ i. number_at ws (limit_place c j + i))) (column_stands Constant j c.commands h (omega arith) k refl);
    slopes = λ i z e.
        let t = in_table c.readings (λ i. number_at ws (limit_place c j + (c.commands + 1) + i)) i z e in
        let at : limit_place c j + (c.commands + 1) + i ≡ limit_place c j + (c.commands + 1 + i) = omega arith in
        let k : column_kind c (c.commands + 1 + i) ≡ Slope = rw (le-ltb (c.commands + 1 + i) c.commands (omega arith), ne_eqb (c.commands + 1 + i) c.commands (λ x. omega arith)) in
        rw (length_table c.commands (λ i. number_at ws (limit_place c j + i)))
        (subst (StandsAt ws (limit_place c j + (c.commands + 1) + i) Slope) t.1
        (subst (λ x. StandsAt ws x Slope (number_at ws x)) (sym at) (column_stands Slope j (c.commands + 1 + i) h (omega (arith, t.0)) k refl)));
  }

  head_stands : StandsAt ws 0 Head (pos (head_number c))
  head_stands =
      let fits = head_right ws (length ws) (omega (arith, L.long)) L.right in
      let p = passed (eqb (kind_bits (get_or ws 0 0)) 1) (faults.head_fits (get_or ws 0 0)) Counts (WrongKind 0) (right_as Head 0 (omega (arith, L.long)) refl) in
      let bits : bits_of_payload (get_or ws 0 0) ≡ head_number c = head_bits (get_or ws 0 0) fits.1 in
      (eqb-true (kind_bits (get_or ws 0 0)) 1 p.0, small_payload (get_or ws 0 0) (omega (arith, bits, fits.0.1, fits.0.3, fits.0.4)) ∙ ap pos bits)

  close_stands : StandsAt ws (close_place c) Close (pos (close_place c))
  close_stands =
      let k = close_place c in
      let p = passed (eqb (kind_bits (get_or ws k 0)) 6) (eqb (bits_of_payload (get_or ws k 0)) k) (CloseRefused k) (WrongKind k) (right_as Close k (omega (arith, L.long)) (due_close c)) in
      let bits : bits_of_payload (get_or ws k 0) ≡ k = eqb-true (bits_of_payload (get_or ws k 0)) k p.1 in
      (eqb-true (kind_bits (get_or ws k 0)) 6 p.0, small_payload (get_or ws k 0) (omega (arith, bits, close_small c bounds)) ∙ ap pos bits)

  pub describes : Describes ws (said ws c)
  describes =
      let same = said_shape ws c in
      record {
        bounded = said_bounded ws c bounds;
        long = L.long ∙ ap (λ x. close_place x + 1) (sym same);
        head = subst (λ x. StandsAt ws 0 Head (pos (head_number x))) (sym same) head_stands;
        gains = λ i z e.
            let t = in_table c.commands (λ i. number_at ws (1 + i)) i z e in
            subst (StandsAt ws (1 + i) Gain) t.1 (number_stands Gain (1 + i) refl (omega (arith, L.long, t.0)) (due_gain c i t.0));
        limits = λ j l e.
            let t = in_table c.limits (λ j. said_limit ws c (limit_place c j)) j l e in
            subst (λ x. LimitStands ws (limit_place x j) l) (sym same) (subst (LimitStands ws (limit_place c j)) t.1 (limit_stands j t.0));
        close = subst (λ x. StandsAt ws (close_place x) Close (pos (close_place x))) (sym same) close_stands;
      }
