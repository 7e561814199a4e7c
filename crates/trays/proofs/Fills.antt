-- Trays that are filled from the front.
use Rattle.std.proofs.Common.{◌≡◌, ℕ, suc, ◌+◌, ◌-◌, ◌<◌, ◌≤◌, List, [], ◌∷◌, ◌++◌, map, length, take, drop, set, replicate, ℤ, pos, sym, refl, ap, ◌∙◌, arith}
use mathlib.Core.List.{map-map}
use Rattle.std.specs.List.{range_with_len}
use Rattle.std.proofs.lemmas.List.FromFn.{length-map-range_with_len, get_or-map-range_with_len, map-range_with_len_more, fill_by_all}
use Rattle.std.proofs.lemmas.List.{append_assoc, length-append, length-map, length_push, map-append, set-append_right, take_at, drop_at, drop-replicate}
use Rattle.exact.specs.Vectors.{entries}
use Rattle.trays.specs.Trays.{tray_size, filled, first, fraction_list}

-- One number more.
pub fill_more : (xs : List ℤ) (z : ℤ) → length xs < tray_size → set (filled xs) (length xs) z ≡ filled (xs ++ z ∷ [])
fill_more xs z h =
    let one : tray_size - length xs ≡ suc (tray_size - length (xs ++ z ∷ [])) = omega (arith, length_push xs z) in
    let here : length xs - length xs ≡ 0 = omega arith in
    set-append_right xs (replicate (tray_size - length xs) (pos 0)) (length xs) (length xs) z refl (omega arith)
    ∙ rw (here, one) (sym (append_assoc xs (z ∷ []) (replicate (tray_size - length (xs ++ z ∷ [])) (pos 0))))

pub first_length : (m : ℕ) (f : ℕ → ℤ) → length (first m f) ≡ m
first_length m f = length-map-range_with_len f 0 m

-- A loop that fills in the numbers of a vector.
pub vector_more : (f : ℕ → ℤ) (i : ℕ) → i < tray_size → set (filled (first i f)) i (f i) ≡ filled (first (i + 1) f)
vector_more f i h =
    let n = first_length i f in
    ap (λ k. set (filled (first i f)) k (f i)) (sym n) ∙ fill_more (first i f) (f i) (omega arith) ∙ ap filled (sym (map-range_with_len_more f 0 i i (omega arith)))

-- A loop that has written the numbers of a vector in front of zeros.
pub vector_filled : (m : ℕ) (f : ℕ → ℤ) (xs : List ℤ) → length xs ≡ m → ((i : ℕ) → i < m → entries xs i ≡ f i) → xs ++ drop m (replicate tray_size (pos 0)) ≡ filled (first m f)
vector_filled m f xs long each =
    ap (λ zs. xs ++ zs) (drop-replicate m tray_size (pos 0))
    ∙ ap (λ n. xs ++ replicate (tray_size - n) (pos 0)) (sym long)
    ∙ ap filled (fill_by_all f xs m (pos 0) long each)

-- Two numbers behind a vector.
pub fraction_filled : (m : ℕ) (f : ℕ → ℤ) (d g : ℤ) → m + 2 ≤ tray_size → set (set (filled (first m f)) m d) (m + 1) g ≡ fraction_list m f d g
fraction_filled m f d g h =
    let n = first_length m f in
    let k : length (first m f ++ d ∷ []) ≡ m + 1 = length_push (first m f) d ∙ ap (λ i. i + 1) n in
    ap (λ xs. set xs (m + 1) g) (ap (λ i. set (filled (first m f)) i d) (sym n) ∙ fill_more (first m f) d (omega arith))
    ∙ ap (λ i. set (filled (first m f ++ d ∷ [])) i g) (sym k) ∙ fill_more (first m f ++ d ∷ []) g (omega arith) ∙ ap filled (append_assoc (first m f) (d ∷ []) (g ∷ []))

-- The vector in front of them.
pub fraction_front : (m : ℕ) (f : ℕ → ℤ) (d g : ℤ) → take m (fraction_list m f d g) ≡ first m f
fraction_front m f d g =
    let behind = replicate (tray_size - length (first m f ++ (d ∷ g ∷ []))) (pos 0) in
    ap (take m) (append_assoc (first m f) (d ∷ g ∷ []) behind) ∙ take_at (first m f) ((d ∷ g ∷ []) ++ behind) m (first_length m f)

pub first_at : (m : ℕ) (f : ℕ → ℤ) (i : ℕ) → i < m → entries (first m f) i ≡ f i
first_at m f i h = get_or-map-range_with_len f 0 m i i (pos 0) h (omega arith)

-- Each of these numbers goes through a function, and the zeros stay.
pub fraction_mapped : (m : ℕ) (f : ℕ → ℤ) (d g : ℤ) (h : ℤ → ℤ) → map h (take (m + 2) (fraction_list m f d g)) ++ drop (m + 2) (fraction_list m f d g) ≡ fraction_list m (λ i. h (f i)) (h d) (h g)
fraction_mapped m f d g h =
    let front = first m f ++ (d ∷ g ∷ []) in
    let front' = first m (λ i. h (f i)) ++ (h d ∷ h g ∷ []) in
    let long : length front ≡ m + 2 = length-append (first m f) (d ∷ g ∷ []) ∙ ap (λ n. n + 2) (first_length m f) in
    let mapped : map h front ≡ front' = map-append h (first m f) (d ∷ g ∷ []) ∙ ap (λ xs. xs ++ (h d ∷ h g ∷ [])) (map-map h f (range_with_len 0 m)) in
    let same : length front ≡ length front' = sym (length-map front h) ∙ ap length mapped in
    let behind = replicate (tray_size - length front) (pos 0) in
    rw (take_at front behind (m + 2) long, drop_at front behind (m + 2) long, mapped, same)
