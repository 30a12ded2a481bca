-- The generated files are in the grammar, and say the lines of which they are made.
use Rattle.std.proofs.Common.{◌≡◌, ℕ, ◌+◌, ◌/◌, ◌%◌, ◌^◌, ◌<◌, ◌≤◌, Bool, true, false, cond, List, [], ◌∷◌, ◌++◌, map, flat_map, length, refl, ap, sym, subst, ◌∙◌, append_assoc, arith, inr, decimal, codes, bit_xor, nat_lt}
use Rattle.std.specs.List.{AllByRecursion, join_with_byte, range_with_len}
use Rattle.std.proofs.lemmas.Nat.{xor_lt}
use Rattle.ck_history.specs.Key.{IsKey}
use Rattle.ck_history.specs.declared.update.Update.{Update}
use Rattle.ck_history.specs.declared.update.Update.TheVariants.{Set, Put, Del}
use Rattle.ck_probe.specs.Mixing.{folded, times, mix_of}
use Rattle.ck_script.specs.declared.line.Numbered.{Numbered}
use Rattle.ck_script.specs.declared.line.UpLine.{UpLine}
use Rattle.ck_script.specs.declared.line.UpLine.TheVariants.{Call}
use Rattle.ck_script.specs.declared.line.AskLine.{AskLine}
use Rattle.ck_script.specs.declared.line.AskLine.TheVariants.{Ask, Wait}
use Rattle.ck_script.specs.Grammar.{Say, FileSays, IsUpdateLine, update_words, IsQueryLine, query_words}
use Rattle.ck_script.specs.Keys.{table_key_one_word}
use Rattle.ck_script.specs.Script.{said_of}
use Rattle.ck_text.specs.Laws.{number_one_word}
use Rattle.ck_text.specs.Lines.{lines}
use Rattle.ck_text.specs.Words.{line, IsWord}
use Rattle.ck_text.proofs.Cutting.{parts_first, lines_more}
use Rattle.ck_text.proofs.Words.{word_from, words_joined, joined_lacks_feed}
use Rattle.ck_gen.specs.Generated.{drawn_key, drawn_kind, drawn_update, generated_updates, generated_keys, lines_of_updates, lines_of_queries, update_line, query_line, update_text, query_text, numbered}

-- numbered lines say what they said without numbers
pub said_numbered : {L : Type 0} (n : ℕ) (whats : List L) → said_of (numbered n whats) ≡ whats
said_numbered n [] = refl
said_numbered n (what ∷ more) = ap (λ ws. what ∷ ws) (said_numbered (n + 1) more)

module _ {L : Type 0} (IsTaken : L → Type 0) (spelling : L → List (List ℕ)) where
  -- a line that can be read back: it is taken, and its spelling is words
  pub record IsLine (what : L) : Type 0 where
    pub taken : IsTaken what
    pub are_words : AllByRecursion IsWord (spelling what)
    pub some : 0 < length (spelling what)

  -- what is printed of it is read, and then the rest
  says_line : (n : ℕ) (what : L) (rest : List ℕ) (said : List (Numbered L)) → IsLine what → Say IsTaken spelling (n + 1) (lines rest) said
      → Say IsTaken spelling n (lines (line (spelling what) ++ rest)) (record { line = n; what = what } ∷ said)
  says_line n what rest said is later =
      let joined = join_with_byte 32 (spelling what) in
      let cut : lines (line (spelling what) ++ rest) ≡ joined ∷ lines rest =
      ap lines (append_assoc joined (10 ∷ []) rest) ∙ lines_more (joined ++ 10 ∷ rest) joined rest (parts_first 10 joined rest (joined_lacks_feed (spelling what) is.are_words)) in
      subst (λ ls. Say IsTaken spelling n ls (record { line = n; what = what } ∷ said)) (sym cut)
      (inr (what, said, refl, record { taken = is.taken; spelt = words_joined (spelling what) is.are_words is.some }, later))

  -- and so of many
  says_lines : {X : Type 0} (line_at : X → L) (n : ℕ) (xs : List X) → AllByRecursion (λ x. IsLine (line_at x)) xs
      → Say IsTaken spelling n (lines (flat_map (λ x. line (spelling (line_at x))) xs)) (numbered n (map line_at xs))
  says_lines line_at n [] all = refl
  says_lines line_at n (x ∷ xs) all = says_line n (line_at x) (flat_map (λ y. line (spelling (line_at y))) xs) (numbered (n + 1) (map line_at xs)) all.0 (says_lines line_at (n + 1) xs all.1)

all_mapped : {X Y : Type 0} (P : Y → Type 0) (f : X → Y) (xs : List X) → ((x : X) → P (f x)) → AllByRecursion P (map f xs)
all_mapped P f [] each = tt
all_mapped P f (x ∷ xs) each = (each x, all_mapped P f xs each)

folded_below : (x : ℕ) → x < 2 ^ 64 → folded x < 2 ^ 64
folded_below x small = xor_lt 64 x (x / 2 ^ 33) small (omega arith)

-- a hash has 64 bits
mix_below : (key salt : ℕ) → mix_of key salt < 2 ^ 64
unfolding mix_of
mix_below key salt = folded_below (times (folded (times (folded (bit_xor key salt)) 0xff51afd7ed558ccd)) 0xc4ceb9fe1a85ec53) (omega arith)

drawn_is_key : (hash : ℕ) → IsKey (drawn_key hash)
drawn_is_key hash = (omega arith, omega arith)

-- an update that is drawn is a line
drawn_is_line : (kind key value : ℕ) → IsKey key → value < 2 ^ 64 → IsLine (IsUpdateLine IsKey) (update_words decimal) (Call (drawn_kind kind key value))
drawn_is_line kind key value is small = go (nat_lt kind 4) (nat_lt kind 6)
  where
    go : (a b : Bool) → IsLine (IsUpdateLine IsKey) (update_words decimal) (Call (cond a (Set key value) (cond b (Put key value) (Del key))))
    go true b = record { taken = (is, small); are_words = (word_from (codes "set") refl, (table_key_one_word key is, (number_one_word value small, tt))); some = omega arith }
    go false true = record { taken = (is, small); are_words = (word_from (codes "put") refl, (table_key_one_word key is, (number_one_word value small, tt))); some = omega arith }
    go false false = record { taken = is; are_words = (word_from (codes "del") refl, (table_key_one_word key is, tt)); some = omega arith }

update_is_line : (key salt : ℕ) → IsLine (IsUpdateLine IsKey) (update_words decimal) (Call (drawn_update (mix_of key salt)))
update_is_line key salt =
    let hash = mix_of key salt in
    let below = mix_below key salt in
    drawn_is_line (hash / 2 ^ 20 % 8) (drawn_key hash) (hash / 2 ^ 32) (drawn_is_key hash) (omega (arith, below))

query_is_line : (key : ℕ) → IsKey key → IsLine (IsQueryLine IsKey) (query_words decimal) (Ask key)
query_is_line key is = record { taken = is; are_words = (word_from (codes "get") refl, (table_key_one_word key is, tt)); some = omega arith }

wait_is_line : (count : ℕ) → count < 2 ^ 64 → IsLine (IsQueryLine IsKey) (query_words decimal) (Wait count)
wait_is_line count small = record { taken = small; are_words = (word_from (codes "wait") refl, (number_one_word count small, tt)); some = omega arith }

-- what a reader finds in the update file
pub update_text_says : (seed lines : ℕ) → FileSays (IsUpdateLine IsKey) (update_words decimal) (update_text seed lines) (numbered 1 (lines_of_updates seed lines))
update_text_says seed lines =
    says_lines (IsUpdateLine IsKey) (update_words decimal) (λ update. Call update) 1 (generated_updates seed lines)
    (all_mapped _ (λ i. drawn_update (mix_of i seed)) (range_with_len 1 lines) (λ i. update_is_line i seed))

-- and in the query file
pub query_text_says : (seed lines : ℕ) → lines ≤ 999999 → FileSays (IsQueryLine IsKey) (query_words decimal) (query_text seed lines) (numbered 1 (lines_of_queries seed lines))
query_text_says seed lines few =
    says_line (IsQueryLine IsKey) (query_words decimal) 1 (Wait lines) (flat_map query_line (generated_keys seed lines)) (numbered 2 (map (λ key. Ask key) (generated_keys seed lines))) (wait_is_line lines (omega arith))
    (says_lines (IsQueryLine IsKey) (query_words decimal) (λ key. Ask key) 2 (generated_keys seed lines)
    (all_mapped _ (λ i. drawn_key (mix_of i (bit_xor seed 1))) (range_with_len 1 lines) (λ i. query_is_line _ (drawn_is_key (mix_of i (bit_xor seed 1))))))
