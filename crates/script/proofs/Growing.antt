-- One reply more.
use Rattle.std.proofs.Common.{Ok, Err, ◌≢◌, ◌≡◌, ℕ, ◌+◌, ◌<◌, true, false, List, length, get_or, Some, sym, ap, ◌∙◌, subst, ⊎_elim, arith}
use Rattle.std.specs.List.{slice_get}
use Rattle.std.proofs.lemmas.Option.{slice_get-get_or, slice_get_past}
use Rattle.std.proofs.lemmas.Bool.{cases_order}
use Rattle.words.specs.declared.refusal.Refusal.{Refusal}
use Rattle.map_steps.specs.Replies.{Reply}
use Rattle.map_steps.specs.declared.reply.Done.{Done}
use Rattle.script.specs.Growths.{examines, Examined}

abbrev refused_or_not : Reply → ℕ
refused_or_not (Ok a) = 0
refused_or_not (Err e) = 1

module _ (rs : List Reply) where
  abbrev pub AllBefore : ℕ → Type 0
  AllBefore k = (i : ℕ) (r : Reply) → i < k → slice_get rs i ≡ Some r → examines r ≡ true

  module _ (k : ℕ) (d : Reply) (inside : k < length rs) where
    pub here : (r : Reply) → slice_get rs k ≡ Some r → get_or rs k d ≡ r
    here r e = let h = slice_get-get_or rs k d inside in cc

    pub one_more : AllBefore k → examines (get_or rs k d) ≡ true → AllBefore (k + 1)
    one_more old new i r h e = ⊎_elim
        (λ same. subst (λ x. examines x ≡ true) (here r (subst (λ j. slice_get rs j ≡ Some r) same e)) new)
        (⊎_elim (λ l. old i r l e) (λ g. absurd (omega arith)))
        (cases_order i k)

    pub stops : AllBefore k → examines (get_or rs k d) ≡ false → Examined rs k
    stops old new = record {
      within = omega arith;
      all = old;
      stopped = λ r e. subst (λ x. examines x ≡ false) (here r e) new;
    }

  -- A call that was done was not refused.
  pub no_refusal : (k : ℕ) (d : Reply) (inside : k < length rs) (a : Done) → get_or rs k d ≡ Ok a → (e : Refusal) → slice_get rs k ≢ Some (Err e)
  no_refusal k d inside a is e p = let h = here k d inside (Err e) p in let z : ◌≡◌ {A = ℕ} 0 1 = ap refused_or_not (sym is ∙ h) in absurd (omega arith)

  -- All replies were looked at.
  pub at_end : AllBefore (length rs) → Examined rs (length rs)
  at_end old = record {
    within = omega arith;
    all = old;
    stopped = λ r e. let h = slice_get_past rs (length rs) (omega arith) in let z : ◌≡◌ {A = ℕ} 0 1 = cc in absurd (omega arith);
  }

  pub none_at_end : (e : Refusal) → slice_get rs (length rs) ≡ Some (Err e) → ⊥
  none_at_end e p = let h = slice_get_past rs (length rs) (omega arith) in let z : ◌≡◌ {A = ℕ} 0 1 = cc in omega arith
