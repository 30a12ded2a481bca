-- Bytes as words and words as bytes.
use Rattle.std.proofs.Common.{◌≡◌, ℕ, ◌+◌, ◌*◌, ◌^◌, ◌<◌, ◌≤◌, List, [], ◌∷◌, ◌++◌, length, take, drop, get_or, zero, suc, sym, ◌∙◌, ap, refl, inl, inr, arith}
use Rattle.std.specs.Prelude.{replicate}
use Rattle.std.specs.Int.{w64, from_le_bytes, to_le_bytes, sum_through, byte_worth}
use Rattle.std.proofs.lemmas.List.{get_or-take, get_or-drop, drop-drop, take_at, drop_at, length-take, length-take-le, get_or_past, length-drop, length-append, take-append-drop, nil_from_length}
use Rattle.std.proofs.lemmas.List.Concat.{flat_map-append}
use Rattle.std.proofs.lemmas.Bool.{cases_lt}
use Rattle.std.proofs.lemmas.Nat.{le_bytes_8, from_le_bytes-to_le_bytes_8}
use Rattle.ck_probe.specs.Words.{word_of, words_of, bytes_of}

sum_same : (f g : ℕ → ℕ) (k : ℕ) → ((i : ℕ) → i ≤ k → f i ≡ g i) → sum_through f k ≡ sum_through g k
sum_same f g zero h = h zero (omega arith)
sum_same f g (suc k) h =
    let before : sum_through f k ≡ sum_through g k = sum_same f g k (λ i le. h i (omega arith)) in
    ap (λ s. s + f (suc k)) before ∙ ap (λ x. sum_through g k + x) (h (suc k) (omega arith))

-- a word is read from its first eight bytes, where those past the end count as 0
from_le_bytes-same : (xs ys : List ℕ) → ((i : ℕ) → i < 8 → get_or xs i 0 ≡ get_or ys i 0) → from_le_bytes w64 xs ≡ from_le_bytes w64 ys
from_le_bytes-same xs ys h =
    sum_same (λ i. byte_worth i (get_or xs i 0)) (λ i. byte_worth i (get_or ys i 0)) 7
    (λ i le. ap (byte_worth i) (h i (omega arith)))

get_or-zeros : (n i : ℕ) → get_or {A = ℕ} (replicate n 0) i 0 ≡ 0
get_or-zeros zero i = refl
get_or-zeros (suc n) zero = refl
get_or-zeros (suc n) (suc i) = get_or-zeros n i

pub get_or-filled : (xs : List ℕ) (n i : ℕ) → get_or (xs ++ replicate n 0) i 0 ≡ get_or xs i 0
get_or-filled [] n i = get_or-zeros n i
get_or-filled (x ∷ xs) n zero = refl
get_or-filled (x ∷ xs) n (suc i) = get_or-filled xs n i

filled_piece : (xs : List ℕ) (i : ℕ) → i < 8 → get_or (take 8 (xs ++ replicate 8 0)) i 0 ≡ get_or xs i 0
filled_piece xs i lt = get_or-take 8 (xs ++ replicate 8 0) i 0 lt ∙ get_or-filled xs 8 i

pub word_of-same : (xs ys : List ℕ) → ((i : ℕ) → get_or xs i 0 ≡ get_or ys i 0) → word_of xs ≡ word_of ys
unfolding word_of
word_of-same xs ys h =
    from_le_bytes-same (take 8 (xs ++ replicate 8 0)) (take 8 (ys ++ replicate 8 0))
    (λ i lt. filled_piece xs i lt ∙ h i ∙ sym (filled_piece ys i lt))

pub word_of-piece : (xs : List ℕ) → from_le_bytes w64 (take 8 xs) ≡ word_of xs
unfolding word_of
word_of-piece xs =
    from_le_bytes-same (take 8 xs) (take 8 (xs ++ replicate 8 0))
    (λ i lt. get_or-take 8 xs i 0 lt ∙ sym (filled_piece xs i lt))

-- zero bytes at the end change no word
pub words_of-same : (n : ℕ) (xs ys : List ℕ) → ((i : ℕ) → get_or xs i 0 ≡ get_or ys i 0) → words_of n xs ≡ words_of n ys
unfolding words_of
words_of-same zero xs ys h = refl
words_of-same (suc n) xs ys h =
    let rest : words_of n (drop 8 xs) ≡ words_of n (drop 8 ys) =
    words_of-same n (drop 8 xs) (drop 8 ys) (λ i. get_or-drop 8 xs i 0 ∙ h (8 + i) ∙ sym (get_or-drop 8 ys i 0)) in
    ap (λ w. w ∷ words_of n (drop 8 xs)) (word_of-same xs ys h) ∙ ap (λ ws. word_of ys ∷ ws) rest

-- one more word
pub words_of-more : (n : ℕ) (bytes : List ℕ) → words_of (suc n) bytes ≡ words_of n bytes ++ word_of (drop (8 * n) bytes) ∷ []
unfolding words_of
words_of-more zero bytes = refl
words_of-more (suc n) bytes =
    let eight : 8 + 8 * n ≡ 8 * suc n = omega arith in
    ap (λ ws. word_of bytes ∷ ws) (words_of-more n (drop 8 bytes))
    ∙ ap (λ rest. word_of bytes ∷ (words_of n (drop 8 bytes) ++ word_of rest ∷ [])) (drop-drop (8 * n) 8 bytes ∙ ap (λ k. drop k bytes) eight)

pub length-words_of : (n : ℕ) (bytes : List ℕ) → length (words_of n bytes) ≡ n
unfolding words_of
length-words_of zero bytes = refl
length-words_of (suc n) bytes = ap suc (length-words_of n (drop 8 bytes))

pub length-bytes_of : (words : List ℕ) → length (bytes_of words) ≡ 8 * length words
unfolding bytes_of
length-bytes_of [] = refl
length-bytes_of (w ∷ ws) = omega (arith, length-append (to_le_bytes w64 w) (bytes_of ws), length-bytes_of ws)

pub bytes_of-push : (words : List ℕ) (w : ℕ) → bytes_of (words ++ w ∷ []) ≡ bytes_of words ++ to_le_bytes w64 w
unfolding bytes_of
bytes_of-push words w = flat_map-append (to_le_bytes w64) words (w ∷ [])

piece_small : (bytes : List ℕ) → ((i : ℕ) → get_or bytes i 0 < 256) → (i : ℕ) → get_or (take 8 bytes) i 0 < 256
piece_small bytes small i =
    elim (cases_lt i 8) [
      | inl lt ↦ (let e : get_or (take 8 bytes) i 0 ≡ get_or bytes i 0 = get_or-take 8 bytes i 0 lt in omega (arith, small i))
      | inr ge ↦ (let e : get_or (take 8 bytes) i 0 ≡ 0 = get_or_past (take 8 bytes) i 0 (omega (arith, length-take 8 bytes)) in omega arith)
    ]

-- words of bytes give the bytes back
pub bytes_of-words_of : (n : ℕ) (bytes : List ℕ) → length bytes ≡ 8 * n → ((i : ℕ) → get_or bytes i 0 < 256) → bytes_of (words_of n bytes) ≡ bytes
unfolding words_of bytes_of
bytes_of-words_of zero bytes long small = sym (nil_from_length bytes (omega arith))
bytes_of-words_of (suc n) bytes long small =
    let whole : length (take 8 bytes) ≡ 8 = length-take-le 8 bytes (omega arith) in
    let first : to_le_bytes w64 (word_of bytes) ≡ take 8 bytes =
    le_bytes_8 (take 8 bytes) (word_of bytes) whole (piece_small bytes small) (sym (word_of-piece bytes)) in
    let rest : bytes_of (words_of n (drop 8 bytes)) ≡ drop 8 bytes =
    bytes_of-words_of n (drop 8 bytes) (omega (arith, length-drop 8 bytes)) (λ i. let e : get_or (drop 8 bytes) i 0 ≡ get_or bytes (8 + i) 0 = get_or-drop 8 bytes i 0 in omega (arith, small (8 + i))) in
    ap (λ p. p ++ bytes_of (words_of n (drop 8 bytes))) first ∙ ap (λ q. take 8 bytes ++ q) rest ∙ take-append-drop 8 bytes

-- bytes of words give the words back
pub words_of-bytes_of : (words : List ℕ) → ((i : ℕ) → get_or words i 0 < 2 ^ 64) → words_of (length words) (bytes_of words) ≡ words
unfolding words_of bytes_of
words_of-bytes_of [] small = refl
words_of-bytes_of (w ∷ ws) small =
    let piece : take 8 (to_le_bytes w64 w ++ bytes_of ws) ≡ to_le_bytes w64 w = take_at (to_le_bytes w64 w) (bytes_of ws) 8 refl in
    let after : drop 8 (to_le_bytes w64 w ++ bytes_of ws) ≡ bytes_of ws = drop_at (to_le_bytes w64 w) (bytes_of ws) 8 refl in
    let first : word_of (to_le_bytes w64 w ++ bytes_of ws) ≡ w =
    sym (word_of-piece (to_le_bytes w64 w ++ bytes_of ws)) ∙ ap (from_le_bytes w64) piece ∙ from_le_bytes-to_le_bytes_8 w (small 0) in
    let rest : words_of (length ws) (drop 8 (to_le_bytes w64 w ++ bytes_of ws)) ≡ ws =
    ap (words_of (length ws)) after ∙ words_of-bytes_of ws (λ i. small (suc i)) in
    ap (λ x. x ∷ words_of (length ws) (drop 8 (to_le_bytes w64 w ++ bytes_of ws))) first ∙ ap (λ xs. w ∷ xs) rest

digits_fit : (b0 b1 b2 b3 b4 b5 b6 b7 : ℕ) → b0 < 256 → b1 < 256 → b2 < 256 → b3 < 256 → b4 < 256 → b5 < 256 → b6 < 256 → b7 < 256
    → b0 + b1 * 256 ^ 1 + b2 * 256 ^ 2 + b3 * 256 ^ 3 + b4 * 256 ^ 4 + b5 * 256 ^ 5 + b6 * 256 ^ 6 + b7 * 256 ^ 7 < 2 ^ 64
digits_fit b0 b1 b2 b3 b4 b5 b6 b7 l0 l1 l2 l3 l4 l5 l6 l7 = omega arith

-- a word of bytes is below 2 ^ 64
pub word_of-lt : (bytes : List ℕ) → ((i : ℕ) → get_or bytes i 0 < 256) → word_of bytes < 2 ^ 64
unfolding word_of
word_of-lt bytes small =
    let piece : List ℕ = take 8 (bytes ++ replicate 8 0) in
    let low : (i : ℕ) → i < 8 → get_or piece i 0 < 256 =
    λ i lt. (let e : get_or piece i 0 ≡ get_or bytes i 0 = filled_piece bytes i lt in omega (arith, small i)) in
    digits_fit (get_or piece 0 0) (get_or piece 1 0) (get_or piece 2 0) (get_or piece 3 0)
    (get_or piece 4 0) (get_or piece 5 0) (get_or piece 6 0) (get_or piece 7 0)
    (low 0 (omega arith)) (low 1 (omega arith)) (low 2 (omega arith)) (low 3 (omega arith))
    (low 4 (omega arith)) (low 5 (omega arith)) (low 6 (omega arith)) (low 7 (omega arith))
