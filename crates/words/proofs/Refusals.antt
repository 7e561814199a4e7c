-- A refusal can be had back from its number, its layer and its place.
use Rattle.std.proofs.Common.{◌≡◌, ℕ, cond, eqb, refl}
use Rattle.words.specs.Refusals.{number_of, layer_of, level, place_of, ToldApart}
use Rattle.words.specs.declared.refusal.Shown.TheVariants.{ByLimit, ByMap}
use Rattle.words.specs.declared.refusal.Refusal.{Refusal}
use Rattle.words.specs.declared.refusal.Refusal.TheVariants.{Short, WrongKind, Counts, Value, Close, Range, Begun, NotBegun, Reading, PlaceShort, Full, Width, NoBest, NoCommand, NotYet}

abbrev back : ℕ → ℕ → ℕ → Refusal
back n l k =
    cond (eqb n 1) (Short k) (cond (eqb n 2) (WrongKind k) (cond (eqb n 3) Counts (cond (eqb n 4) (Value k) (cond (eqb n 5) (Close k)
    (cond (eqb n 6) (Range k) (cond (eqb n 7) Begun (cond (eqb n 8) NotBegun (cond (eqb n 9) (Reading k) (cond (eqb n 10) (PlaceShort k)
    (cond (eqb n 11) (Full k) (cond (eqb n 12) (Width k) (cond (eqb n 13) NoBest (cond (eqb n 14) (NoCommand (cond (eqb l 3) (ByLimit k) ByMap)) NotYet)))))))))))))

same_back : (e : Refusal) → back (number_of e) (level (layer_of e)) (place_of e) ≡ e
same_back (Short k) = refl
same_back (WrongKind k) = refl
same_back Counts = refl
same_back (Value k) = refl
same_back (Close k) = refl
same_back (Range i) = refl
same_back Begun = refl
same_back NotBegun = refl
same_back (Reading k) = refl
same_back (PlaceShort need) = refl
same_back (Full j) = refl
same_back (Width j) = refl
same_back NoBest = refl
same_back (NoCommand (ByLimit j)) = refl
same_back (NoCommand ByMap) = refl
same_back NotYet = refl

pub told_apart : ToldApart
told_apart e f n l k =
    let a = same_back e in
    let b = same_back f in
    cc
