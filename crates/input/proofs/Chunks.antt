-- The words of the input are its chunks of four bytes.
use Rattle.std.proofs.Common.{◌≡◌, Some, None, Option, IfSome, subst, sym, ⊎_elim, ℕ, zero, suc, ◌+◌, ◌*◌, ◌/◌, ◌<◌, ◌≤◌, List, [], ◌++◌, length, get_or, take, drop, min, map, ap, ◌∙◌, refl, arith, length-append, length-take, w32}
use Rattle.std.proofs.KnownBytes.{Consumes-whole}
use Rattle.std.proofs.lemmas.Bool.{cases_lt}
use Rattle.std.proofs.lemmas.List.{get_or-take, get_or-drop, get_or-map, get_or_append_left, length-map}
use Rattle.std.specs.Int.{from_le_bytes}
use Rattle.std.specs.Io.KnownBytes.{Consumes, IsAtEnd}
use Rattle.std.specs.Simd.{first_chunks}
use Rattle.input.specs.Bytes.{most_words, word_at, WordsOf}

-- Byte j of chunk i.
chunk_byte : (n k : ℕ) (xs : List ℕ) (i j : ℕ) → i < k → j < n → get_or (get_or (first_chunks n k xs) i []) j 0 ≡ get_or xs (n * i + j) 0
chunk_byte n zero xs i j h l = absurd (omega (arith, h))
chunk_byte n (suc k) xs zero j h l = let e : j ≡ n * 0 + j = omega arith in get_or-take n xs j 0 l ∙ ap (λ x. get_or xs x 0) e
chunk_byte n (suc k) xs (suc i) j h l =
    let e : n + (n * i + j) ≡ n * suc i + j = grind arith in
    chunk_byte n k (drop n xs) i j (omega (arith, h)) l ∙ get_or-drop n xs (n * i + j) 0 ∙ ap (λ x. get_or xs x 0) e

many_chunks : (n k : ℕ) (xs : List ℕ) → length (first_chunks n k xs) ≡ k
many_chunks n zero xs = refl
many_chunks n (suc k) xs = ap suc (many_chunks n k (drop n xs))

word_of_bytes : (ys bs : List ℕ) (k : ℕ) → get_or ys 0 0 ≡ get_or bs (4 * k + 0) 0 → get_or ys 1 0 ≡ get_or bs (4 * k + 1) 0 → get_or ys 2 0 ≡ get_or bs (4 * k + 2) 0 → get_or ys 3 0 ≡ get_or bs (4 * k + 3) 0 → from_le_bytes w32 ys ≡ word_at bs k
word_of_bytes ys bs k a b c d =
    let e : 4 * k + 0 ≡ 4 * k = omega arith in
    rw (a ∙ ap (λ i. get_or bs i 0) e, b, c, d) refl

-- The words are those chunks, lowest byte first.
pub words_of_chunks : (bs : List ℕ) (n : ℕ) (chunks : List (List ℕ)) → chunks ≡ first_chunks 4 (length bs / 4) bs → n ≡ min (length bs / 4) most_words → WordsOf bs (map (from_le_bytes w32) (take n chunks))
words_of_chunks bs n chunks e m =
    let long : length (take n chunks) ≡ n = simp length-take (omega (arith, m, many_chunks 4 (length bs / 4) bs, ap length e)) in
    let byte : (k j : ℕ) → k < n → j < 4 → get_or (get_or (take n chunks) k []) j 0 ≡ get_or bs (4 * k + j) 0 = λ k j h l.
    ap (λ x. get_or x j 0) (get_or-take n chunks k [] h) ∙ ap (λ x. get_or (get_or x k []) j 0) e ∙ chunk_byte 4 (length bs / 4) bs k j (omega (arith, m, h)) l in
    record {
      many = simp length-map (long ∙ m);
      each = λ k h.
          let inside : k < n = omega (arith, long, h, length-map (take n chunks) (from_le_bytes w32)) in
          get_or-map (from_le_bytes w32) (take n chunks) k [] 0 (omega (arith, long, inside))
          ∙ word_of_bytes (get_or (take n chunks) k []) bs k (byte k 0 inside (omega arith)) (byte k 1 inside (omega arith)) (byte k 2 inside (omega arith)) (byte k 3 inside (omega arith));
    }

-- What comes after the bytes that are looked at adds no words.
words_of_front : (bs rest ws : List ℕ) → 65536 ≤ length bs → WordsOf bs ws → WordsOf (bs ++ rest) ws
words_of_front bs rest ws full W =
    let many : length ws ≡ min (length (bs ++ rest) / 4) most_words = omega (arith, W.many, length-append bs rest) in
    let byte : (i : ℕ) → i < 65536 → get_or (bs ++ rest) i 0 ≡ get_or bs i 0 = λ i h. get_or_append_left bs rest 0 i (omega arith) in
    record {
      many = many;
      each = λ k h.
          let inside : k < most_words = omega (arith, many, h) in
          W.each k h ∙ rw (byte (4 * k) (omega arith), byte (4 * k + 1) (omega arith), byte (4 * k + 2) (omega arith), byte (4 * k + 3) (omega arith)) refl;
    }

-- The words of what was read are those of all that the source gives, where that is known: the source is at its end, or all that is looked at was read.
pub words_of_source : (given left : Option (List ℕ)) (bs ws : List ℕ) → Consumes given left bs → (length bs < 65536 → IsAtEnd left) → WordsOf bs ws → IfSome given (λ xs. WordsOf xs ws)
words_of_source None left bs ws read end W = tt
words_of_source (Some xs) None bs ws read end W = absurd read
words_of_source (Some xs) (Some rest) bs ws read end W = ⊎_elim
    (λ short. Consumes-whole (Some xs) (Some rest) bs (λ l. WordsOf l ws) read (end short) W)
    (λ full. subst (λ l. WordsOf l ws) (sym read) (words_of_front bs rest ws full W))
    (cases_lt (length bs) 65536)
