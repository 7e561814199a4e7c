-- The state in the middle of a part, and the kind that is due there.
use Rattle.std.proofs.Common.{◌≡◌, ℕ, suc, ◌+◌, ◌-◌, ◌*◌, ◌%◌, ◌<◌, ◌≤◌, Bool, true, false, cond, eqb, ltb, List, length, get_or, is_some, Some, None, Option, sym, refl, ap, ◌∙◌, subst, ⊎_elim, suc-mul, zero-mul, arith, below_more}
use Rattle.std.proofs.lemmas.Nat.{mod-mul-add, mul-le}
use Rattle.std.proofs.lemmas.Bool.{lt-ltb, le-ltb, le-leb, lt-leb, eq-eqb, ne_eqb, eqb-true, and_parts, cases_lt}
use Rattle.std.proofs.lemmas.Bool.Decides.{nat_tests}
use Rattle.words.specs.Layout.{shape_in, HeadFits, width, limit_place, close_place, column_kind, due}
use Rattle.words.specs.Faults.{head_fits, fault, due_fault, shape_of, RightBefore, Faulty, wrong_word, too_short}
use Rattle.words.specs.declared.refusal.Refusal.{Refusal}
use Rattle.words.specs.declared.refusal.Refusal.TheVariants.{Short}
use Rattle.words.specs.Steps.{expects, after_limit, moved, Moved, Opened, opens, begins, span, shape_told, SameShape, Stands}
use Rattle.words.specs.declared.counts.Counts.{Counts}
use Rattle.words.specs.declared.counts.Shape.{Shape}
use Rattle.words.specs.declared.kind.Kind.TheVariants.{Gain as GainKind, Close as CloseKind}
use Rattle.words.specs.declared.state.State.{State}
use Rattle.words.specs.declared.state.State.TheVariants.{Head, Gain, Coefficient, Constant, Slope, Close, Done}

pub no_fault : {X : Type 0} (o : Option X) → is_some o ≡ false → o ≡ None
no_fault None e = refl
no_fault (Some x) e = let z : ◌≡◌ {A = ℕ} 0 1 = cc in absurd (omega arith)

made : (m n d : ℕ) → Shape
made m n d = record { commands = m; limits = n; readings = d }

pub same_shape : (c e : Shape) → SameShape c e → c ≡ e
unfolding made
same_shape c e s =
    let all : made c.commands c.limits c.readings ≡ made e.commands e.limits e.readings = rw (s.0, s.1, s.2) in
    all

-- The kind due in the gains, in a limit and at the close.
module _ (c : Shape) where
  pub due_gain : (i : ℕ) → i < c.commands → due c (1 + i) ≡ GainKind
  due_gain i h = rw (ne_eqb (1 + i) 0 (λ e. omega arith), le-leb (1 + i) c.commands (omega arith))

  limit_before : (j : ℕ) → j < c.limits → limit_place c j + width c ≤ close_place c
  limit_before j h = omega (arith, mul-le (suc j) (width c) c.limits (width c) h (omega arith), suc-mul j (width c))

  pub due_limit : (j i : ℕ) → j < c.limits → i < width c → due c (limit_place c j + i) ≡ column_kind c i
  due_limit j i h k =
      let at : limit_place c j + i - (1 + c.commands) ≡ j * width c + i = omega arith in
      let column : (limit_place c j + i - (1 + c.commands)) % width c ≡ i = ap (λ x. x % width c) at ∙ mod-mul-add j (width c) i k in
      rw (ne_eqb (limit_place c j + i) 0 (λ e. omega arith), lt-leb (limit_place c j + i) c.commands (omega arith), lt-ltb (limit_place c j + i) (close_place c) (omega (arith, limit_before j h)), column)

  pub due_close : due c (close_place c) ≡ CloseKind
  due_close = rw (ne_eqb (close_place c) 0 (λ e. omega arith), lt-leb (close_place c) c.commands (omega arith), le-ltb (close_place c) (close_place c) (omega arith))

-- The state in the middle of a part of a plant with these counts.
module _ (c : Counts) where
  -- The state after i gains, and after i words of the first of so many limits.
  abbrev pub in_gains : ℕ → State
  in_gains i = cond (ltb i c.shape.commands) (Gain c (c.shape.commands - i)) (Coefficient c c.shape.commands c.shape.limits)

  abbrev pub in_limit : ℕ → ℕ → State
  in_limit limits i = cond (ltb i c.shape.commands) (Coefficient c (c.shape.commands - i) limits)
      (cond (eqb i c.shape.commands) (Constant c limits) (cond (ltb i (width c.shape)) (Slope c (width c.shape - i) limits) (after_limit c limits)))

  gains_move : (i : ℕ) → i < c.shape.commands → moved (in_gains i) ≡ in_gains (i + 1)
  gains_move i h = rw (lt-ltb i c.shape.commands h) (grind (arith, nat_tests))

  limit_moves : (limits i : ℕ) → i < width c.shape → moved (in_limit limits i) ≡ in_limit limits (i + 1)
  limit_moves limits i h = grind (arith, nat_tests)

  limit_over : (limits : ℕ) → in_limit limits (width c.shape) ≡ after_limit c limits
  limit_over limits = rw (le-ltb (width c.shape) c.shape.commands (omega arith), ne_eqb (width c.shape) c.shape.commands (λ e. omega arith), le-ltb (width c.shape) (width c.shape) (omega arith))

-- The state t after i words of the part that begins with a state, in words with the head w.
abbrev pub PartState : ℕ → State → ℕ → State → Type 0
PartState w Head i t = (i ≡ 0 → t ≡ Head) × (0 < i → Opened (shape_in w) t)
PartState w (Gain c left) i t = t ≡ in_gains c i
PartState w (Coefficient c left limits) i t = t ≡ in_limit c limits i
PartState w (Constant c limits) i t = t ≡ Constant c limits
PartState w (Slope c left limits) i t = t ≡ Slope c left limits
PartState w (Close c) i t = t ≡ cond (eqb i 0) (Close c) (Done c)
PartState w (Done c) i t = t ≡ Done c

-- Before any word of the part.
pub at_first : (w : ℕ) (s : State) → opens s ≡ true → PartState w s 0 s
at_first w Head o = (λ e. refl, λ h. absurd (omega arith))
at_first w (Gain c left) o = let f = c.fit in let e : left ≡ c.shape.commands = eqb-true left c.shape.commands o in grind (arith, nat_tests)
at_first w (Coefficient c left limits) o = let f = c.fit in let e : left ≡ c.shape.commands = eqb-true left c.shape.commands (and_parts (eqb left c.shape.commands) _ o).0 in grind (arith, nat_tests)
at_first w (Constant c limits) o = refl
at_first w (Slope c left limits) o = refl
at_first w (Close c) o = refl
at_first w (Done c) o = refl

-- A state that waits for another kind than the head's moves on in one way.
abbrev at_head : State → Bool
at_head Head = true
at_head (Gain c left) = false
at_head (Coefficient c left limits) = false
at_head (Constant c limits) = false
at_head (Slope c left limits) = false
at_head (Close c) = false
at_head (Done c) = false

past_head : (w : ℕ) (s t : State) → at_head s ≡ false → Moved w s t → t ≡ moved s
past_head w Head t n m = let z : ◌≡◌ {A = ℕ} 0 1 = cc in absurd (omega arith)
past_head w (Gain c left) t n m = m
past_head w (Coefficient c left limits) t n m = m
past_head w (Constant c limits) t n m = m
past_head w (Slope c left limits) t n m = m
past_head w (Close c) t n m = m
past_head w (Done c) t n m = m

-- One word more.
pub moves : (w v : ℕ) (s t u : State) (i : ℕ) → opens s ≡ true → i < span s → (begins s ≡ 0 → v ≡ w) → PartState w s i t → Moved v t u → PartState w s (i + 1) u
moves w v Head t u i o h z p m =
    let e : i ≡ 0 = omega arith in
    (λ q. absurd (omega arith), λ q. subst (λ x. Opened (shape_in x) u) (z refl) (subst (λ x. Moved v x u) (p.0 e) m))
moves w v (Gain c left) t u i o h z p m =
    let e : left ≡ c.shape.commands = eqb-true left c.shape.commands o in
    let n : at_head (in_gains c i) ≡ false = grind (arith, nat_tests) in
    past_head v t u (ap at_head p ∙ n) m ∙ ap moved p ∙ gains_move c i (omega arith)
moves w v (Coefficient c left limits) t u i o h z p m =
    let n : at_head (in_limit c limits i) ≡ false = grind (arith, nat_tests) in
    past_head v t u (ap at_head p ∙ n) m ∙ ap moved p ∙ limit_moves c limits i h
moves w v (Constant c limits) t u i o h z p m = absurd (omega arith)
moves w v (Slope c left limits) t u i o h z p m = absurd (omega arith)
moves w v (Close c) t u i o h z p m =
    let e : i ≡ 0 = omega arith in
    let q : t ≡ Close c = p ∙ ap (λ x. cond (eqb x 0) (Close c) (Done c)) e in
    rw e (past_head v t u (ap at_head q) m ∙ ap moved q)
moves w v (Done c) t u i o h z p m = absurd (omega arith)

pub limits_left : (c : Counts) (left limits : ℕ) → opens (Coefficient c left limits) ≡ true → (1 ≤ limits) × (limits ≤ c.shape.limits)
limits_left c left limits o = grind (arith, nat_tests)

-- The kind due there.
pub expected : (w : ℕ) (s t : State) (i : ℕ) (c : Shape) → shape_told c s ≡ c → opens s ≡ true → i < span s → PartState w s i t → expects t ≡ Some (due c (begins s + i))
expected w Head t i c q o h p = let e : i ≡ 0 = omega arith in rw e (ap expects (p.0 e))
expected w (Gain a left) t i c q o h p =
    let e : left ≡ a.shape.commands = eqb-true left a.shape.commands o in
    let here : expects (in_gains a i) ≡ Some GainKind = grind (arith, nat_tests) in
    ap expects p ∙ here ∙ ap Some (sym (due_gain a.shape i (omega arith)) ∙ ap (λ x. due x (1 + i)) q)
expected w (Coefficient a left limits) t i c q o h p =
    let l = limits_left a left limits o in
    let here : expects (in_limit a limits i) ≡ Some (column_kind a.shape i) = grind (arith, nat_tests) in
    ap expects p ∙ here ∙ ap Some (sym (due_limit a.shape (a.shape.limits - limits) i (omega (arith, l.0, l.1)) h) ∙ ap (λ x. due x (limit_place a.shape (a.shape.limits - limits) + i)) q)
expected w (Constant a limits) t i c q o h p = absurd (omega arith)
expected w (Slope a left limits) t i c q o h p = absurd (omega arith)
expected w (Close a) t i c q o h p =
    let e : i ≡ 0 = omega arith in
    let here : t ≡ Close a = p ∙ ap (λ x. cond (eqb x 0) (Close a) (Done a)) e in
    let at : close_place a.shape + 0 ≡ close_place a.shape = omega arith in
    ap expects here ∙ rw e (ap Some (sym (ap (λ k. due c k) at ∙ ap (λ x. due x (close_place a.shape)) (sym q) ∙ due_close a.shape)))
expected w (Done a) t i c q o h p = absurd (omega arith)

-- No part reaches past the close.
pub inside : (s : State) (i : ℕ) (c : Shape) → shape_told c s ≡ c → opens s ≡ true → i < span s → begins s + i ≤ close_place c
inside Head i c t o h = omega arith
inside (Gain a left) i c t o h = let q : left ≡ a.shape.commands = eqb-true left a.shape.commands o in rw (← t) (omega arith)
inside (Coefficient a left limits) i c t o h =
    let q = limits_left a left limits o in
    rw (← t) (omega (arith, limit_before a.shape (a.shape.limits - limits) (omega (arith, q.0, q.1))))
inside (Constant a limits) i c t o h = absurd (omega arith)
inside (Slope a left limits) i c t o h = absurd (omega arith)
inside (Close a) i c t o h = rw (← t) (omega arith)
inside (Done a) i c t o h = absurd (omega arith)

first_word : (s : State) (i : ℕ) → i < span s → begins s ≡ 0 → i ≡ 0
first_word Head i h z = omega arith
first_word (Gain c left) i h z = absurd (omega arith)
first_word (Coefficient c left limits) i h z = absurd (omega arith)
first_word (Constant c limits) i h z = absurd (omega arith)
first_word (Slope c left limits) i h z = absurd (omega arith)
first_word (Close c) i h z = absurd (omega arith)
first_word (Done c) i h z = absurd (omega arith)

-- A word without a fault passed both its tests.
pub passed : {X : Type 0} (a b : Bool) (e f : X) → is_some (cond a (cond b None (Some e)) (Some f)) ≡ false → (a ≡ true) × (b ≡ true)
passed true true e f h = (refl, refl)
passed true false e f h = let z : ◌≡◌ {A = ℕ} 0 1 = cc in absurd (omega arith)
passed false b e f h = let z : ◌≡◌ {A = ℕ} 0 1 = cc in absurd (omega arith)

pub head_bounds : (w : ℕ) → head_fits w ≡ true → HeadFits w
head_bounds w h = grind (arith, nat_tests)

pub head_right : (ws : List ℕ) (k : ℕ) → 0 < k → RightBefore ws k → HeadFits (get_or ws 0 0)
head_right ws k h r = head_bounds (get_or ws 0 0) (passed _ _ _ _ (r 0 h)).1

limit_opens : (c : Counts) (limits : ℕ) → 1 ≤ limits → limits ≤ c.shape.limits → opens (Coefficient c c.shape.commands limits) ≡ true
limit_opens c limits h k = rw (eq-eqb c.shape.commands c.shape.commands refl, le-leb 1 limits h, le-leb limits c.shape.limits k)

-- After the last word of a part the next one begins.
module _ (ws : List ℕ) (k : ℕ) where
  head_ends : (t : State) → Opened (shape_of ws) t → k ≡ 0 → RightBefore ws (k + 1) → k + 1 ≤ length ws → Stands ws (k + 1) t
  head_ends Head o p r l = absurd o
  head_ends (Gain c left) o p r l = record {
    within = l;
    right = r;
    opened = eq-eqb left c.shape.commands (o.1 ∙ ap (λ (x : Shape). x.commands) (sym o.0));
    placed = omega arith;
    told = (ap (λ (x : Shape). x.commands) o.0, ap (λ (x : Shape). x.limits) o.0, ap (λ (x : Shape). x.readings) o.0);
  }
  head_ends (Coefficient c left limits) o p r l = absurd o
  head_ends (Constant c limits) o p r l = absurd o
  head_ends (Slope c left limits) o p r l = absurd o
  head_ends (Close c) o p r l = absurd o
  head_ends (Done c) o p r l = absurd o

  pub ends : (s t : State) → Stands ws k s → RightBefore ws (k + span s) → k + span s ≤ length ws → PartState (get_or ws 0 0) s (span s) t → Stands ws (k + span s) t
  ends Head t S r l p = head_ends t (p.1 (omega arith)) S.placed r l
  ends (Gain c left) t S r l p =
      let q : left ≡ c.shape.commands = eqb-true left c.shape.commands S.opened in
      let e : in_gains c left ≡ Coefficient c c.shape.commands c.shape.limits = rw (le-ltb left c.shape.commands (omega arith)) in
      rw (p ∙ e) (record {
        within = l;
        right = r;
        opened = limit_opens c c.shape.limits c.fit.2 (omega arith);
        placed = let z : c.shape.limits - c.shape.limits ≡ 0 = omega arith in rw z (omega (arith, S.placed, zero-mul (width c.shape)));
        told = S.told;
      })
  ends (Coefficient c left limits) t S r l p =
      let q = limits_left c left limits S.opened in
      let more : 1 < limits → Stands ws (k + width c.shape) (after_limit c limits) = λ h. rw (lt-ltb 1 limits h) (record {
        within = l;
        right = r;
        opened = limit_opens c (limits - 1) (omega arith) (omega (arith, q.1));
        placed = let z : c.shape.limits - (limits - 1) ≡ suc (c.shape.limits - limits) = omega (arith, q.1) in rw z (omega (arith, S.placed, suc-mul (c.shape.limits - limits) (width c.shape)));
        told = S.told;
      }) in
      let last : limits ≤ 1 → Stands ws (k + width c.shape) (after_limit c limits) = λ h. rw (le-ltb 1 limits h) (record {
        within = l;
        right = r;
        opened = refl;
        placed = let z : c.shape.limits ≡ suc (c.shape.limits - limits) = omega (arith, q.0, q.1) in omega (arith, S.placed, suc-mul (c.shape.limits - limits) (width c.shape), ap (λ x. x * width c.shape) z);
        told = S.told;
      }) in
      rw (p ∙ limit_over c limits) (⊎_elim more last (cases_lt 1 limits))
  ends (Constant c limits) t S r l p = let z : ◌≡◌ {A = ℕ} 0 1 = let o = S.opened in cc in absurd (omega arith)
  ends (Slope c left limits) t S r l p = let z : ◌≡◌ {A = ℕ} 0 1 = let o = S.opened in cc in absurd (omega arith)
  ends (Close c) t S r l p = rw p (record { within = l; right = r; opened = refl; placed = ap (λ i. i + 1) S.placed; told = S.told })
  ends (Done c) t S r l p = let z : k + 0 ≡ k = omega arith in rw (p, z) S

-- A reader that began a part at place k, in the state s, has come to place at, and is in the state t.
pub record Reached (ws : List ℕ) (k : ℕ) (s : State) (at : ℕ) (t : State) : Type 0 where
  pub from : k ≤ at
  pub within : at ≤ length ws
  pub right : RightBefore ws at
  pub state : PartState (get_or ws 0 0) s (at - k) t

module _ {ws : List ℕ} {k : ℕ} {s : State} (S : Stands ws k s) where
  pub begun : Reached ws k s k s
  begun =
      let none : 0 ≡ k - k = omega arith in
      record { from = omega arith; within = S.within; right = S.right; state = subst (λ i. PartState (get_or ws 0 0) s i s) none (at_first _ s S.opened) }

  told : shape_told (shape_of ws) s ≡ shape_of ws
  told = same_shape _ _ S.told

  -- The word i of the part stands at or before the close.
  pub before_close : (i : ℕ) → i < span s → k + i ≤ close_place (shape_of ws)
  before_close i h = rw S.placed (inside s i (shape_of ws) told S.opened h)

  module _ {at : ℕ} {t : State} (R : Reached ws k s at t) where
    -- The whole part is read.
    pub ended : at ≡ k + span s → Stands ws (k + span s) t
    ended e =
        let all : at - k ≡ span s = omega arith in
        ends ws k s t S (rw (← e) R.right) (omega (arith, R.within)) (rw all at R.state)

    -- A word of the part is still to come.
    module _ (h : at < k + span s) where
      place : k + (at - k) ≡ at
      place = omega (arith, R.from)

      inner : at - k < span s
      inner = omega (arith, R.from)

      not_past : at ≤ close_place (shape_of ws)
      not_past = omega (arith, place, before_close (at - k) inner)

      pub due_here : due_fault (expects t) (get_or ws at 0) at ≡ fault ws at
      due_here =
          let here : begins s + (at - k) ≡ at = omega (arith, place, S.placed) in
          ap (λ x. due_fault x (get_or ws at 0) at) (expected (get_or ws 0 0) s t (at - k) (shape_of ws) told S.opened inner R.state ∙ ap (λ a. Some (due (shape_of ws) a)) here)

      pub refused_here : {e : Refusal} → at < length ws → due_fault (expects t) (get_or ws at 0) at ≡ Some e → Faulty ws e
      refused_here l w = wrong_word at l not_past R.right (sym due_here ∙ w)

      pub short_here : length ws ≤ at → Faulty ws (Short at)
      short_here l =
          let e : at ≡ length ws = omega (arith, R.within) in
          too_short e (omega (arith, not_past)) (rw (← e) R.right)

      pub goes_on : (u : State) → at < length ws → due_fault (expects t) (get_or ws at 0) at ≡ None → Moved (get_or ws at 0) t u → Reached ws k s (at + 1) u
      goes_on u l w m =
          let more : at - k + 1 ≡ at + 1 - k = omega (arith, R.from) in
          let zero : begins s ≡ 0 → at ≡ 0 = λ z. omega (arith, place, S.placed, first_word s (at - k) inner z) in
          record {
            from = omega (arith, R.from);
            within = omega (arith, l);
            right = below_more _ at R.right (ap is_some (sym due_here ∙ w));
            state = subst (λ i. PartState (get_or ws 0 0) s i u) more (moves (get_or ws 0 0) (get_or ws at 0) s t u (at - k) S.opened inner (λ z. ap (λ a. get_or ws a 0) (zero z)) R.state m);
          }
