-- The line that the program prints.
use Rattle.std.specs.Prelude.{ℕ, List, ◌++◌, Ok, Err, codes, Result}
use Rattle.words.specs.Refusals.{three, refusal_text}
use Rattle.words.specs.declared.counts.Shape.{Shape}
use Rattle.words.specs.declared.refusal.Refusal.{Refusal}

-- The counts of what was accepted, or number, layer and place of the refusal.
abbrev pub line_of : Result Shape Refusal → List ℕ
line_of (Ok s) = codes "plant " ++ three s.commands s.limits s.readings
line_of (Err e) = codes "none " ++ refusal_text e
