-- The update file and the query file that a seed generates. The i-th line of each, counted from 1, is drawn from a hash of i.
use Rattle.std.specs.Prelude.{ℕ, ◌+◌, ◌/◌, ◌%◌, ◌^◌, nat_lt, if◌then◌else◌, bit_xor, List, [], ◌∷◌, ◌++◌, map, flat_map, decimal}
use Rattle.std.specs.List.{range_with_len}
use Rattle.ck_history.specs.declared.update.Update.{Update}
use Rattle.ck_history.specs.declared.update.Update.TheVariants.{Set, Put, Del}
use Rattle.ck_probe.specs.Mixing.{mix_of}
use Rattle.ck_script.specs.declared.line.Numbered.{Numbered}
use Rattle.ck_script.specs.declared.line.UpLine.{UpLine}
use Rattle.ck_script.specs.declared.line.UpLine.TheVariants.{Call}
use Rattle.ck_script.specs.declared.line.AskLine.{AskLine}
use Rattle.ck_script.specs.declared.line.AskLine.TheVariants.{Ask, Wait}
use Rattle.ck_script.specs.Grammar.{update_words, query_words}
use Rattle.ck_text.specs.Words.{line}

-- one of the keys 1 to 50,000
abbrev pub drawn_key : ℕ → ℕ
drawn_key hash = 1 + hash % 50000

-- of a number below 8: four in eight updates set, two put, and two delete
abbrev pub drawn_kind : ℕ → ℕ → ℕ → Update ℕ
drawn_kind kind key value = if nat_lt kind 4 then Set key value else (if nat_lt kind 6 then Put key value else Del key)

-- the bits from 20 on choose the kind, and the high 32 bits are the value
abbrev pub drawn_update : ℕ → Update ℕ
drawn_update hash = drawn_kind (hash / 2 ^ 20 % 8) (drawn_key hash) (hash / 2 ^ 32)

-- the numbers of so many lines
abbrev pub line_numbers : ℕ → List ℕ
line_numbers lines = range_with_len 1 lines

abbrev pub generated_updates : ℕ → ℕ → List (Update ℕ)
generated_updates seed lines = map (λ i. drawn_update (mix_of i seed)) (line_numbers lines)

-- the keys of the queries are drawn with another seed
abbrev pub generated_keys : ℕ → ℕ → List ℕ
generated_keys seed lines = map (λ i. drawn_key (mix_of i (bit_xor seed 1))) (line_numbers lines)

abbrev pub update_line : Update ℕ → List ℕ
update_line update = line (update_words decimal (Call update))

abbrev pub query_line : ℕ → List ℕ
query_line key = line (query_words decimal (Ask key))

-- `set KEY VALUE`, `put KEY VALUE` or `del KEY` for each update
abbrev pub update_text : ℕ → ℕ → List ℕ
update_text seed lines = flat_map update_line (generated_updates seed lines)

-- `wait LINES`, so that all updates come before all queries, and `get KEY` for each key
abbrev pub query_text : ℕ → ℕ → List ℕ
query_text seed lines = line (query_words {K = ℕ} decimal (Wait lines)) ++ flat_map query_line (generated_keys seed lines)

-- the lines of the update file and of the query file, as they are read
abbrev pub lines_of_updates : ℕ → ℕ → List (UpLine (Update ℕ))
lines_of_updates seed lines = map (λ update. Call update) (generated_updates seed lines)

abbrev pub lines_of_queries : ℕ → ℕ → List (AskLine ℕ)
lines_of_queries seed lines = Wait lines ∷ map (λ key. Ask key) (generated_keys seed lines)

-- lines with their numbers, from n on
abbrev pub numbered : {L : Type 0} → ℕ → List L → List (Numbered L)
numbered n [] = []
numbered n (what ∷ more) = record { line = n; what = what } ∷ numbered (n + 1) more
