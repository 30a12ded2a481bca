-- Entries: what packs a name and a value, and what a block unpacks to.
use Rattle.std.proofs.Common.{◌≡◌, ℕ, ◌+◌, ◌-◌, ◌*◌, ◌^◌, ◌<◌, ◌≤◌, List, [], ◌∷◌, ◌++◌, length, take, drop, get_or, zero, suc, sym, ◌∙◌, ap, refl, subst, inl, inr, arith}
use Rattle.std.specs.Prelude.{All, replicate}
use Rattle.std.specs.Char.{IsAsciiGraphic}
use Rattle.std.proofs.Math.Seq.{take-append_seam, drop-append_seam}
use Rattle.std.proofs.lemmas.List.{length-append, length-replicate, length-drop, length-take, take-append-drop, get_or_past, get_or-drop, drop_more}
use Rattle.std.proofs.lemmas.List.Elements.{All-nil, All-cons, All-replicate}
use Rattle.std.proofs.lemmas.Bool.{cases_lt}
use Rattle.ck_probe.specs.Names.{IsName, HoldsName, padded}
use Rattle.ck_probe.specs.Words.{word_of, words_of, bytes_of}
use Rattle.ck_probe.specs.Entries.{entry_of, IsEntry}
use Rattle.ck_probe.proofs.NameBytes.{holds_padded}
use Rattle.ck_probe.proofs.WordBytes.{get_or-filled, words_of-same, words_of-more, length-words_of, length-bytes_of, bytes_of-words_of, words_of-bytes_of, word_of-lt}

-- a name's bytes are bytes
pub IsName-bytes : (name : List ℕ) → IsName name → (i : ℕ) → get_or name i 0 < 256
IsName-bytes name h i =
    elim (cases_lt i (length name)) [
      | inl lt ↦ omega (arith, h.graphic i 0 lt)
      | inr ge ↦ (let e : get_or name i 0 ≡ 0 = get_or_past name i 0 ge in omega arith)
    ]

length-padded : (name : List ℕ) → IsName name → length (padded name) ≡ 48
length-padded name h = omega (arith, length-append name (replicate (48 - length name) 0), length-replicate {A = ℕ} (48 - length name) 0, h.in_limit)

-- zero bytes alone
all_zero : (bytes : List ℕ) → All (λ b. b ≡ 0) bytes → bytes ≡ replicate (length bytes) 0
all_zero [] h = refl
all_zero (b ∷ bs) h =
    ap (λ x. x ∷ bs) (h 0 0 (omega arith)) ∙ ap (λ xs. 0 ∷ xs) (all_zero bs (λ k d lt. h (suc k) d (omega arith)))

-- the six words of a name as `pack` writes them
pub six_words : (bytes : List ℕ) → words_of 6 bytes
    ≡ word_of (drop 0 bytes) ∷ word_of (drop 8 bytes) ∷ word_of (drop 16 bytes) ∷ word_of (drop 24 bytes) ∷ word_of (drop 32 bytes) ∷ word_of (drop 40 bytes) ∷ []
unfolding words_of
six_words bytes =
    let push : List ℕ → ℕ → List ℕ = λ ws n. ws ++ word_of (drop (8 * n) bytes) ∷ [] in
    words_of-more 5 bytes
    ∙ ap (λ ws. push ws 5) (words_of-more 4 bytes)
    ∙ ap (λ ws. push (push ws 4) 5) (words_of-more 3 bytes)
    ∙ ap (λ ws. push (push (push ws 3) 4) 5) (words_of-more 2 bytes)
    ∙ ap (λ ws. push (push (push (push ws 2) 3) 4) 5) (words_of-more 1 bytes)
    ∙ ap (λ ws. push (push (push (push (push ws 1) 2) 3) 4) 5) (words_of-more 0 bytes)

-- the six words of a name are those of its 48 bytes
words_of-padded : (name : List ℕ) → words_of 6 name ≡ words_of 6 (padded name)
words_of-padded name = words_of-same 6 name (padded name) (λ i. sym (get_or-filled name (48 - length name) i))

-- and give the 48 bytes back
pub bytes_of-name : (name : List ℕ) → IsName name → bytes_of (words_of 6 name) ≡ padded name
bytes_of-name name h =
    ap bytes_of (words_of-padded name)
    ∙ bytes_of-words_of 6 (padded name) (length-padded name h)
    (λ i. let e : get_or (padded name) i 0 ≡ get_or name i 0 = get_or-filled name (48 - length name) i in omega (arith, IsName-bytes name h i))

-- 48 bytes that hold a name are its first bytes and then zero
pub holds_name : (bytes : List ℕ) (len : ℕ) → length bytes ≡ 48 → 1 ≤ len → len ≤ 48
    → All IsAsciiGraphic (take len bytes) → All (λ b. b ≡ 0) (drop len bytes) → HoldsName bytes len
holds_name bytes len long low high graphic zeros =
    let len_is : length (take len bytes) ≡ len = omega (arith, length-take len bytes) in
    record {
      name = record { not_empty = omega arith; in_limit = omega arith; graphic = graphic };
      len_is = len_is;
      filled =
          sym (take-append-drop len bytes)
          ∙ ap (λ zs. take len bytes ++ zs) (all_zero (drop len bytes) zeros)
          ∙ ap (λ n. take len bytes ++ replicate n 0) (let e : length (drop len bytes) ≡ 48 - length (take len bytes) = omega (arith, length-drop len bytes) in e);
    }

-- what holds a name has zero bytes after it
pub holds-zeros : (bytes : List ℕ) (len : ℕ) → HoldsName bytes len → All (λ b. b ≡ 0) (drop len bytes)
holds-zeros bytes len h =
    let name : List ℕ = take len bytes in
    let zeros : drop len bytes ≡ replicate (48 - length name) 0 =
    ap (λ n. drop n bytes) (sym h.len_is) ∙ ap (drop (length name)) h.filled ∙ drop-append_seam name (replicate (48 - length name) 0) in
    let P : List ℕ → Type 0 = All (λ b. b ≡ 0) in
    subst P (sym zeros) (All-replicate (λ b. b ≡ 0) (48 - length name) 0 refl)

-- the layout of a block of eight words
pub IsEntry-from_holds : (block : List ℕ) → HoldsName (bytes_of (drop 2 block)) (get_or block 0 0) → IsEntry block
IsEntry-from_holds block h = record {
  not_empty = omega (arith, h.name.not_empty, h.len_is);
  in_limit = omega (arith, h.name.in_limit, h.len_is);
  graphic = h.name.graphic;
  zeros = holds-zeros (bytes_of (drop 2 block)) (get_or block 0 0) h;
}

pub holds-from_IsEntry : (block : List ℕ) → length block ≡ 8 → IsEntry block → HoldsName (bytes_of (drop 2 block)) (get_or block 0 0)
holds-from_IsEntry block eight h =
    holds_name (bytes_of (drop 2 block)) (get_or block 0 0)
    (omega (arith, length-bytes_of (drop 2 block), length-drop 2 block)) h.not_empty h.in_limit h.graphic h.zeros

-- a block that holds a name packs it with its word 1
pub packed_from_holds : (block : List ℕ) → length block ≡ 8 → ((i : ℕ) → get_or block i 0 < 2 ^ 64)
    → HoldsName (bytes_of (drop 2 block)) (get_or block 0 0)
    → block ≡ entry_of (take (get_or block 0 0) (bytes_of (drop 2 block))) (get_or block 1 0)
unfolding entry_of
packed_from_holds block eight small h =
    let words : List ℕ = drop 2 block in
    let name : List ℕ = take (get_or block 0 0) (bytes_of words) in
    let six : length words ≡ 6 = omega (arith, length-drop 2 block) in
    let low : (i : ℕ) → get_or words i 0 < 2 ^ 64 =
    λ i. (let e : get_or words i 0 ≡ get_or block (2 + i) 0 = get_or-drop 2 block i 0 in omega (arith, small (2 + i))) in
    let rest : words ≡ words_of 6 name =
    sym (words_of-bytes_of words low) ∙ ap (λ n. words_of n (bytes_of words)) six ∙ ap (words_of 6) h.filled ∙ sym (words_of-padded name) in
    drop_more block 0 0 (omega arith)
    ∙ ap (λ ws. get_or block 0 0 ∷ ws) (drop_more block 1 0 (omega arith))
    ∙ ap (λ n. n ∷ get_or block 1 0 ∷ words) (sym h.len_is)
    ∙ ap (λ ws. length name ∷ get_or block 1 0 ∷ ws) rest

-- a packed block holds its name, and word 1 is its value
pub holds_from_packed : (block name : List ℕ) (value : ℕ) → IsName name → block ≡ entry_of name value
    → HoldsName (bytes_of (drop 2 block)) (get_or block 0 0) × (take (get_or block 0 0) (bytes_of (drop 2 block)) ≡ name) × (get_or block 1 0 ≡ value)
unfolding entry_of
holds_from_packed block name value h e =
    let P : List ℕ → Type 0 =
    λ b. HoldsName (bytes_of (drop 2 b)) (get_or b 0 0) × (take (get_or b 0 0) (bytes_of (drop 2 b)) ≡ name) × (get_or b 1 0 ≡ value) in
    let bytes : bytes_of (words_of 6 name) ≡ padded name = bytes_of-name name h in
    let own : P (entry_of name value) = (
      holds_padded name (bytes_of (words_of 6 name)) h bytes,
      ap (take (length name)) bytes ∙ take-append_seam name (replicate (48 - length name) 0),
      refl,
    ) in
    subst P (sym e) own

pub length-entry_of : (name : List ℕ) (value : ℕ) → length (entry_of name value) ≡ 8
unfolding entry_of
length-entry_of name value = omega (arith, length-words_of 6 name)

words_of-fit : (n : ℕ) (bytes : List ℕ) → ((i : ℕ) → get_or bytes i 0 < 256) → All (λ word. word < 2 ^ 64) (words_of n bytes)
unfolding words_of
words_of-fit zero bytes small = All-nil (λ word. word < 2 ^ 64)
words_of-fit (suc n) bytes small =
    let rest : (i : ℕ) → get_or (drop 8 bytes) i 0 < 256 =
    λ i. (let e : get_or (drop 8 bytes) i 0 ≡ get_or bytes (8 + i) 0 = get_or-drop 8 bytes i 0 in omega (arith, small (8 + i))) in
    All-cons (λ word. word < 2 ^ 64) (word_of bytes) (words_of n (drop 8 bytes)) (word_of-lt bytes small) (words_of-fit n (drop 8 bytes) rest)

pub entry_of-fits : (name : List ℕ) (value : ℕ) → IsName name → value < 2 ^ 64 → All (λ word. word < 2 ^ 64) (entry_of name value)
unfolding entry_of
entry_of-fits name value h lt =
    let P : ℕ → Type 0 = λ word. word < 2 ^ 64 in
    All-cons P (length name) (value ∷ words_of 6 name) (omega (arith, h.in_limit))
    (All-cons P value (words_of 6 name) lt (words_of-fit 6 name (IsName-bytes name h)))

pub entry_of-IsEntry : (name : List ℕ) (value : ℕ) → IsName name → IsEntry (entry_of name value)
entry_of-IsEntry name value h = IsEntry-from_holds (entry_of name value) (holds_from_packed (entry_of name value) name value h refl).0

pub entry_of-injective : (name other : List ℕ) (value worth : ℕ) → IsName name → IsName other → entry_of name value ≡ entry_of other worth → (name ≡ other) × (value ≡ worth)
entry_of-injective name other value worth h h' e =
    let own : _ = holds_from_packed (entry_of name value) name value h refl in
    let its : _ = holds_from_packed (entry_of name value) other worth h' e in
    (sym own.1 ∙ its.1, sym own.2 ∙ its.2)
