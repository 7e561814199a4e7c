-- A number of the table as the code hands it out.
use Rattle.std.proofs.Common.{◌≡◌, ℤ, sym, ◌∙◌, subst, arith, w32, w64, to_z, of_z}
use Rattle.std.proofs.lemmas.Int.{ints}
use Rattle.words.specs.Bounds.{Value}

-- A number of a plant is as it was after it is passed on.
pub passed : (z : ℤ) → Value z → to_z w32 (of_z w32 z) ≡ z
passed z v = let lo = v.0 in let hi = v.1 in omega (arith, ints)

-- And where a question hands it out.
module _ (z r : ℤ) (v : Value z) (e : r ≡ to_z w32 (of_z w32 z)) where
  same : to_z w64 (of_z w64 r) ≡ z
  same = let lo = v.0 in let hi = v.1 in omega (arith, ints)

  pub widened : (x : ℤ) → x ≡ z → to_z w64 (of_z w64 r) ≡ x
  widened x f = same ∙ sym f

  pub widened_value : Value (to_z w64 (of_z w64 r))
  widened_value = subst Value (sym same) v
