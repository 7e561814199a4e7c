-- The run of a solve, as far as it has come.
use Rattle.std.proofs.Common.{◌≡◌, ℕ, ◌+◌, ◌<◌, min, List, [], ◌∷◌, ◌++◌, length, take, set, ℤ, Some, None, Ok, Err, Result, sym, refl, ap, ◌∙◌, subst, arith, length-take, MatchResult}
use Rattle.bounded_list.specs.Contents.{contents, records, room as room_of}
use Rattle.bounded_list.specs.declared.list.List.{List as Bounded}
use lib.Seq.{take-append-le}
use Rattle.std.proofs.lemmas.List.{take_all}
use Rattle.plant.specs.Commands.{column}
use Rattle.plant.specs.Meaning.{Meaning, shape_of}
use Rattle.tableau.specs.Choose.{choose}
use Rattle.tableau.specs.Plants.{commands, limits, CornerOf}
use Rattle.words.specs.declared.counts.Shape.{Shape}
use Rattle.tableau_words.specs.Entering.{EnteringAnswer}
use Rattle.corner_words.specs.Corners.{Holding}
use Rattle.corner_words.specs.Enters.{EnteredAt, EnterAnswer}
use Rattle.corner_words.specs.declared.enter.NotEntered.{NotEntered}
use Rattle.corner_words.specs.declared.enter.NotEntered.TheVariants.{NoRow, OutOfWidth}
use Rattle.corner_words.proofs.Entering.{tableau_of}
use Rattle.corner_runs.specs.Answers.{HoldsCorner, SomeCorner, RunFrom}
use Rattle.corner_runs.specs.SolveRuns.{LeastWilling, SolveRun, stands, goes}
use Rattle.corner_runs.specs.declared.exchanges.Exchange.{Exchange}
use Rattle.corner_runs.specs.declared.run.Unsettled.TheVariants as Unsettled
use Rattle.corner_runs.proofs.Chains.{run_short, one_longer}

-- The exchanges made, how many the count says, which the trail holds, and the corner that the words now hold.
pub record Walking (p : Meaning) (θ : List ℤ) (X : CornerOf p) (made room : ℕ) (trail : List Exchange) (ws : List ℤ) : Type 0 where
  pub exchanges : List Exchange
  pub at : CornerOf p
  pub run : SolveRun p θ X exchanges at
  pub counted : made ≡ length exchanges
  pub noted : trail ≡ take room exchanges
  pub holds : HoldsCorner p at ws

-- It is so for any corner that the words held at first.
pub record Walks (c : Shape) (θ before : List ℤ) (made room : ℕ) (trail : List Exchange) (ws : List ℤ) : Type 0 where
  pub from : (p : Meaning) (X : CornerOf p) → c ≡ shape_of p → HoldsCorner p X before → Walking p θ X made room trail ws

-- A trail that notes an exchange, unless it is full.
abbrev pub Noted : ℕ → List Exchange → Exchange → List Exchange → Result Unit Exchange → Type 0
Noted room trail e trail' (Ok x) = (length trail < room) × (trail' ≡ trail ++ e ∷ [])
Noted room trail e trail' (Err y) = (length trail ≡ room) × (trail' ≡ trail)

noted_more : (room : ℕ) (es trail trail' : List Exchange) (e : Exchange) (r : Result Unit Exchange) → trail ≡ take room es → Noted room trail e trail' r → trail' ≡ take room (es ++ e ∷ [])
noted_more room es trail trail' e (Ok x) n (fits, put) =
    let l : length trail ≡ min room (length es) = ap length n ∙ length-take room es in
    let all : trail ≡ es = n ∙ take_all room es (omega arith) in
    put ∙ ap (λ (t : List Exchange). t ++ e ∷ []) all ∙ sym (take_all room (es ++ e ∷ []) (omega (arith, one_longer es e)))
noted_more room es trail trail' e (Err y) n (full, kept) =
    let l : length trail ≡ min room (length es) = ap length n ∙ length-take room es in
    kept ∙ n ∙ sym (take-append-le room es (e ∷ []) (omega arith))

-- What a push says.
pub noted : (before after : Bounded Exchange) (e : Exchange) (n : ℕ) → room_of before ≡ n → (r : Result Unit Exchange)
    → MatchResult r (λ _. (length (contents before) < room_of before) × (contents after ≡ contents before ++ e ∷ []) × (records after ≡ set (records before) (length (contents before)) e)) (λ y. (y ≡ e) × (length (contents before) ≡ room_of before) × (contents after ≡ contents before) × (records after ≡ records before))
    → Noted n (contents before) e (contents after) r
noted before after e n s (Ok x) h = (rw (← s) h.0, h.1)
noted before after e n s (Err y) h = (h.1 ∙ s, h.2)

-- Before the first exchange.
pub at_first : (c : Shape) (θ ws : List ℤ) (room : ℕ) (trail : List Exchange) → trail ≡ [] → Walks c θ ws 0 room trail ws
at_first c θ ws room trail e = record { from = λ p X s H. record { exchanges = []; at = X; run = stands; counted = refl; noted = e ∙ sym (take_all room [] (omega arith)); holds = H } }

module _ {c : Shape} {θ before ws : List ℤ} {made room : ℕ} {trail : List Exchange} (W : Walks c θ before made room trail ws) where
  -- The corner that the words hold, for what the next functions ask.
  pub holding : SomeCorner c before → Holding c ws
  holding S = let w = W.from S.p S.X S.shape S.holds in record { p = S.p; n = limits S.p; a = column S.p; X = w.at; shape = S.shape; all = omega arith; few = omega arith; holds = w.holds }

  pub made_short : SomeCorner c before → made < choose c.limits c.commands
  made_short S =
      let w = W.from S.p S.X S.shape S.holds in
      let short : made < choose (limits S.p) (commands S.p) = rw w.counted (run_short S.p θ S.X w.run) in
      rw S.shape short

  -- The limit that left is one of the plant's.
  pub left_known : SomeCorner c before → (j : ℕ) (ws' : List ℤ) (l : ℕ) → EnterAnswer c j ws ws' (Ok l) → l < c.limits
  left_known S j ws' l A =
      let w = W.from S.p S.X S.shape S.holds in
      let g = A S.p (limits S.p) (column S.p) w.at S.shape (omega arith) (omega arith) w.holds in
      rw (S.shape, g.left) (w.at.known g.row g.leaves.inside)

  module _ (p : Meaning) (X : CornerOf p) (s : c ≡ shape_of p) (H : HoldsCorner p X before) where
    abbrev w : Walking p θ X made room trail ws
    w = W.from p X s H

    -- The least willing limit at the corner that the words hold.
    least : (j : ℕ) → EnteringAnswer c θ ws (Some j) → LeastWilling p θ w.at j
    least j E = record {
      known = subst (λ (q : Shape). j < q.limits) s E.0;
      willing = E.1 p (column p) w.at.β w.at.D w.at.U s (tableau_of p (limits p) (column p) w.at) w.holds.held;
      least = λ i l. E.2 i l p (column p) w.at.β w.at.D w.at.U s (tableau_of p (limits p) (column p) w.at) w.holds.held;
    }

    pub settled : EnteringAnswer c θ ws None → RunFrom p θ X ws room trail (record { end = Ok tt; exchanges = made })
    settled E = record {
      exchanges = w.exchanges;
      at = w.at;
      run = w.run;
      counted = w.counted;
      noted = w.noted;
      ended = (λ j l. E j (rw s l) p (column p) w.at.β w.at.D w.at.U s (tableau_of p (limits p) (column p) w.at) w.holds.held, w.holds);
    }

    module _ (j : ℕ) (E : EnteringAnswer c θ ws (Some j)) (ws' : List ℤ) where
      enters : (e : Result ℕ NotEntered) → EnterAnswer c j ws ws' e → EnteredAt p (limits p) (column p) w.at j ws ws' e
      enters e A = A p (limits p) (column p) w.at s (omega arith) (omega arith) w.holds

      pub without_row : EnterAnswer c j ws ws' (Err NoRow) → RunFrom p θ X ws' room trail (record { end = Err (Unsettled.NoRow j); exchanges = made })
      without_row A =
          let (none, same) = enters (Err NoRow) A in
          record {
            exchanges = w.exchanges;
            at = w.at;
            run = w.run;
            counted = w.counted;
            noted = w.noted;
            ended = (record { least = least j E; no_row = none }, subst (HoldsCorner p w.at) (sym same) w.holds);
          }

      pub beyond_width : EnterAnswer c j ws ws' (Err OutOfWidth) → RunFrom p θ X ws' room trail (record { end = Err (Unsettled.OutOfWidth j); exchanges = made })
      beyond_width A =
          let o = enters (Err OutOfWidth) A in
          record {
            exchanges = w.exchanges;
            at = w.at;
            run = w.run;
            counted = w.counted;
            noted = w.noted;
            ended = record { least = least j E; row = o.row; leaves = o.leaves; out = o.out };
          }

      -- One exchange more, and the trail notes it while it has room.
      pub gone_on : (l : ℕ) → EnterAnswer c j ws ws' (Ok l) → (e : Exchange) → e.entering ≡ j + 1 → e.leaving ≡ l + 1 → (trail' : List Exchange) (q : Result Unit Exchange) → Noted room trail e trail' q → Walking p θ X (made + 1) room trail' ws'
      gone_on l A e i o trail' q N =
          let g = enters (Ok l) A in
          record {
            exchanges = w.exchanges ++ e ∷ [];
            at = g.to;
            run = goes e w.run (record { enters = j; row = g.row; least = least j E; leaves = g.leaves; across = g.across; in_width = g.holds.in_width; limit_in = i; limit_out = o ∙ ap (λ k. k + 1) g.left }) refl;
            counted = let c = w.counted in omega (arith, one_longer w.exchanges e);
            noted = noted_more room w.exchanges trail trail' e q w.noted N;
            holds = g.holds;
          }

  pub goes_on : (j : ℕ) → EnteringAnswer c θ ws (Some j) → (ws' : List ℤ) (l : ℕ) → EnterAnswer c j ws ws' (Ok l) → (trail' : List Exchange) (q : Result Unit Exchange) → Noted room trail (record { entering = j + 1; leaving = l + 1 }) trail' q
      → Walks c θ before (made + 1) room trail' ws'
  goes_on j E ws' l A trail' q N = record { from = λ p X s H. gone_on p X s H j E ws' l A (record { entering = j + 1; leaving = l + 1 }) refl refl trail' q N }
