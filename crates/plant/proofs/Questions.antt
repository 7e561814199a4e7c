-- What a question about a table of limits answers.
use Rattle.std.proofs.Common.{◌≡◌, ℕ, ℤ, Some, None, Option, sym, ap, ◌∙◌, w32, SFits, to_z, of_z}
use Rattle.std.proofs.lemmas.Int.{to_z-of_z}
use Rattle.plant.specs.Tables.{at_place, table, within, Found}
use Rattle.plant.specs.TableLaws.{table_found, table_absent}
use Rattle.plant.specs.Meaning.{Limit}

module _ (n : ℕ) (f : ℕ → Limit) (j : ℕ) (g : Limit → Option ℤ) where
  pub of_limit : (l : ℕ) → Found n j (Some l) → within (at_place (table n f) j) g ≡ g (f l)
  of_limit l h = rw (table_found n f j l h)

  pub of_none : Found n j None → within (at_place (table n f) j) g ≡ None
  of_none h = rw (table_absent n f j h)

-- A number that the code hands out is the one that was found.
pub handed_out : (z x : ℤ) (o : Option ℤ) → SFits w32 z → z ≡ x → o ≡ Some x → Some (to_z w32 (of_z w32 z)) ≡ o
handed_out z x o f e s = ap Some (to_z-of_z w32 z f ∙ e) ∙ sym s
