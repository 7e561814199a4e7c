-- The lines that the program prints.
use Rattle.std.specs.Prelude.{◌≡◌, ℕ, List, [], ◌∷◌, ◌++◌, ℤ, Ok, Err, Some, None, codes, decimal, Option}
use Rattle.std.specs.Fmt.{signed_decimal}
use Rattle.map_steps.specs.Replies.{Reply}
use Rattle.map_steps.specs.declared.reply.Done.TheVariants as done
use Rattle.words.specs.Refusals.{refusal_text}
use Rattle.script.specs.declared.line.Found.{Found}
use Rattle.script.specs.declared.line.Line.{Line}
use Rattle.script.specs.declared.line.Line.TheVariants.{First, Map, Best, Refused}

-- Numbers, with a blank before each.
abbrev pub spaced : List ℤ → List ℕ
spaced [] = []
spaced (z ∷ zs) = (codes " " ++ signed_decimal z) ++ spaced zs

-- Two numbers, with a blank between them.
abbrev pub two : ℕ → ℕ → List ℕ
two a b = decimal a ++ (codes " " ++ decimal b)

-- A word and what the line tells: mask and exchanges; corners and pairs; the command, and mask and exchanges; a refusal.
abbrev pub text_of : Line → List ℕ
text_of (First a) = codes "first " ++ two a.mask a.exchanges
text_of (Map g) = codes "map " ++ two g.corners g.pairs
text_of (Best b) = codes "best" ++ (spaced b.command.now ++ (codes " " ++ two b.at.mask b.at.exchanges))
text_of (Refused e) = codes "none " ++ refusal_text e

-- The line of the reply to a start or a solve, with the numbers of a command: at line_of_tray, the first so many of the tray. Replies to other calls have none.
abbrev pub ToldBy : Reply → List ℤ → Option Line → Type 0
ToldBy (Ok (done.Start a)) command line = line ≡ Some (First a)
ToldBy (Ok (done.Solve a)) command line = (b : Found) × (line ≡ Some (Best b)) × (b.command.now ≡ command) × (b.at ≡ a)
ToldBy (Ok (done.Grow g)) command line = line ≡ None
ToldBy (Ok (done.Answer a)) command line = line ≡ None
ToldBy (Err e) command line = line ≡ Some (Refused e)
