-- The parts of a plant's words: head, gains, each limit and close.
use Rattle.std.specs.Prelude.{◌≡◌, ℕ, ◌+◌, ◌<◌, List, length, take, drop, Some, None, Ok, Err, Option, Result}
use Rattle.words.specs.Layout.{width, limit_place, close_place}
use Rattle.words.specs.Faults.{shape_of, RightBefore, LaidOut, Faulty}
use Rattle.words.specs.declared.refusal.Refusal.{Refusal}
use Rattle.words.specs.declared.counts.Counts.{Counts}
use Rattle.words.specs.declared.part.Part.{Part}
use Rattle.words.specs.declared.part.Part.TheVariants.{Head, Gains, Limit, Close}

-- So many words from a place on.
abbrev pub part_of : List ℕ → ℕ → ℕ → List ℕ
part_of ws k n = take n (drop k ws)

-- The part that the layout has at place k.
abbrev pub PartAt : List ℕ → ℕ → Part → Type 0
PartAt ws k (Head s p) = (k ≡ 0) × (p ≡ k) × (s.now ≡ part_of ws k 1)
PartAt ws k (Gains s p) = (k ≡ 1) × (p ≡ k) × (s.now ≡ part_of ws k (shape_of ws).commands)
PartAt ws k (Limit s p) = (p ≡ k) × (s.now ≡ part_of ws k (width (shape_of ws))) × ((j : ℕ) × (j < (shape_of ws).limits) × (k ≡ limit_place (shape_of ws) j))
PartAt ws k (Close s p) = (k ≡ close_place (shape_of ws)) × (p ≡ k) × (s.now ≡ part_of ws k 1)

-- How many words a part has.
abbrev pub words_in : Part → ℕ
words_in (Head s p) = length s.now
words_in (Gains s p) = length s.now
words_in (Limit s p) = length s.now
words_in (Close s p) = length s.now

-- What a reader at place k hands out, and where it then stands: the part that the layout has there, of words that are right;
-- nothing once the whole is read; or the refusal that the words earn, and then it stays.
abbrev pub Handed : List ℕ → ℕ → ℕ → Result (Option Part) Refusal → Type 0
Handed ws k l (Ok (Some part)) = PartAt ws k part × (l ≡ k + words_in part) × (k < l) × RightBefore ws l
Handed ws k l (Ok None) = LaidOut ws × (k ≡ length ws) × (l ≡ k)
Handed ws k l (Err e) = Faulty ws e × (l ≡ k)

-- What a reader at place k knows of the whole: the counts, once it has read all the words and they are laid out as a plant's.
abbrev pub ReadWhole : List ℕ → ℕ → Option Counts → Type 0
ReadWhole ws k (Some c) = LaidOut ws × (k ≡ length ws) × (c.shape ≡ shape_of ws)
ReadWhole ws k None = LaidOut ws → k < length ws
