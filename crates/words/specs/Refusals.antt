-- The number, the layer and the place of each refusal, and its text.
use Rattle.std.specs.Prelude.{◌≡◌, ℕ, List, ◌++◌, codes, decimal}
use Rattle.words.specs.declared.refusal.Layer.{Layer}
use Rattle.words.specs.declared.refusal.Layer.TheVariants.{Words, Plant, Tableau, Map}
use Rattle.words.specs.declared.refusal.Shown.{Shown}
use Rattle.words.specs.declared.refusal.Shown.TheVariants.{ByLimit, ByMap}
use Rattle.words.specs.declared.refusal.Refusal.{Refusal}
use Rattle.words.specs.declared.refusal.Refusal.TheVariants.{Short, WrongKind, Counts, Value, Close, Range, Begun, NotBegun, Reading, PlaceShort, Full, Width, NoBest, NoCommand, NotYet}

abbrev pub number_of : Refusal → ℕ
number_of (Short k) = 1
number_of (WrongKind k) = 2
number_of Counts = 3
number_of (Value k) = 4
number_of (Close k) = 5
number_of (Range i) = 6
number_of Begun = 7
number_of NotBegun = 8
number_of (Reading k) = 9
number_of (PlaceShort need) = 10
number_of (Full j) = 11
number_of (Width j) = 12
number_of NoBest = 13
number_of (NoCommand by) = 14
number_of NotYet = 15

-- Solve finds that there is no command at a limit, in the tableau; answer finds it in the map.
abbrev pub layer_shown : Shown → Layer
layer_shown (ByLimit j) = Tableau
layer_shown ByMap = Map

abbrev pub layer_of : Refusal → Layer
layer_of (Short k) = Words
layer_of (WrongKind k) = Words
layer_of Counts = Words
layer_of (Value k) = Words
layer_of (Close k) = Words
layer_of (Range i) = Plant
layer_of Begun = Map
layer_of NotBegun = Map
layer_of (Reading k) = Map
layer_of (PlaceShort need) = Map
layer_of (Full j) = Map
layer_of (Width j) = Tableau
layer_of NoBest = Tableau
layer_of (NoCommand by) = layer_shown by
layer_of NotYet = Map

-- The number of a layer, from the lowest up.
abbrev pub level : Layer → ℕ
level Words = 1
level Plant = 2
level Tableau = 3
level Map = 4

abbrev pub place_shown : Shown → ℕ
place_shown (ByLimit j) = j
place_shown ByMap = 0

-- A word's place counts from 0; limits, commands, readings and range positions count from 1; 0 is no place in particular.
abbrev pub place_of : Refusal → ℕ
place_of (Short k) = k
place_of (WrongKind k) = k
place_of Counts = 0
place_of (Value k) = k
place_of (Close k) = k
place_of (Range i) = i
place_of Begun = 0
place_of NotBegun = 0
place_of (Reading k) = k
place_of (PlaceShort need) = need
place_of (Full j) = j
place_of (Width j) = j
place_of NoBest = 0
place_of (NoCommand by) = place_shown by
place_of NotYet = 0

-- Number, layer and place tell every two refusals apart.
abbrev pub ToldApart : Type 0
ToldApart = (e f : Refusal) → number_of e ≡ number_of f → level (layer_of e) ≡ level (layer_of f) → place_of e ≡ place_of f → e ≡ f

-- Three numbers, with blanks between them.
abbrev pub three : ℕ → ℕ → ℕ → List ℕ
three a b c = decimal a ++ (codes " " ++ (decimal b ++ (codes " " ++ decimal c)))

abbrev pub refusal_text : Refusal → List ℕ
refusal_text e = three (number_of e) (level (layer_of e)) (place_of e)
