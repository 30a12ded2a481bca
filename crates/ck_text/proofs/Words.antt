-- Words, and lines that are joined of them.
use Rattle.std.proofs.Common.{◌≡◌, ℕ, ◌<◌, Bool, true, ◌&&◌, ltb, List, [], ◌∷◌, length, ap, arith, ◌∙◌}
use Rattle.std.specs.List.{AllByRecursion, join_with_byte}
use Rattle.std.proofs.lemmas.Bool.{ltb-true, and_parts}
use Rattle.std.proofs.lemmas.List.Splits.{join_with_byte-slice_split}
use Rattle.ck_text.specs.Words.{words, IsWord}
use Rattle.ck_text.proofs.Cutting.{Lacks, All-append, parts_first, parts_alone}

no_space : (w : List ℕ) → IsWord w → Lacks 32 w
no_space [] h = tt
no_space (b ∷ w) h = (h.0.0, no_space w h.1)

no_feed : (w : List ℕ) → IsWord w → Lacks 10 w
no_feed [] h = tt
no_feed (b ∷ w) h = (h.0.1, no_feed w h.1)

-- a word of bytes above a space, by a test
abbrev is_word : List ℕ → Bool
is_word [] = true
is_word (b ∷ w) = ltb 32 b && is_word w

pub word_from : (w : List ℕ) → is_word w ≡ true → IsWord w
word_from [] e = tt
word_from (b ∷ w) e =
    let both = and_parts (ltb 32 b) (is_word w) e in
    let above : 32 < b = ltb-true 32 b both.0 in
    ((λ e. omega arith, λ e. omega arith), word_from w both.1)

-- words that are joined are cut again
pub words_joined : (ws : List (List ℕ)) → AllByRecursion IsWord ws → 0 < length ws → words (join_with_byte 32 ws) ≡ ws
words_joined [] h some = absurd (omega arith)
words_joined (w ∷ []) h some = parts_alone 32 w (no_space w h.0)
words_joined (w ∷ v ∷ ws) h some =
    parts_first 32 w (join_with_byte 32 (v ∷ ws)) (no_space w h.0) ∙ ap (λ more. w ∷ more) (words_joined (v ∷ ws) h.1 (omega arith))

-- a line is its words, joined
pub joined_words : (bytes : List ℕ) → join_with_byte 32 (words bytes) ≡ bytes
joined_words bytes = join_with_byte-slice_split 32 bytes

-- words that are joined have no line feed
pub joined_lacks_feed : (ws : List (List ℕ)) → AllByRecursion IsWord ws → Lacks 10 (join_with_byte 32 ws)
joined_lacks_feed [] h = tt
joined_lacks_feed (w ∷ []) h = no_feed w h.0
joined_lacks_feed (w ∷ v ∷ ws) h = All-append _ w (32 ∷ join_with_byte 32 (v ∷ ws)) (no_feed w h.0) ((λ e. omega arith), joined_lacks_feed (v ∷ ws) h.1)
