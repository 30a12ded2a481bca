-- What a run of the generated files is summed up as.
use Rattle.std.specs.Prelude.{ℕ, ◌-◌, ◌/◌, ◌%◌, ◌^◌, List, [], ◌∷◌, length, map, Option, Some, None, Bool, true, false, flat_map, codes, decimal}
use Rattle.std.specs.List.{filter}
use Rattle.std.specs.Ordering.{nat_cmp}
use Rattle.ck_history.specs.Map.{after, answer_after, replies}
use Rattle.ck_history.specs.declared.update.Reply.{Reply}
use Rattle.ck_history.specs.declared.update.Reply.TheVariants.{Fresh, Was, Has, Missing}
use Rattle.ck_probe.specs.Mixing.{mix_of, key_code_of}
use Rattle.ck_text.specs.Words.{line}
use Rattle.ck_gen.specs.declared.summary.ReplyKind.{ReplyKind}
use Rattle.ck_gen.specs.declared.summary.ReplyKind.TheVariants as kinds
use Rattle.ck_gen.specs.declared.summary.Summary.{Summary}
use Rattle.ck_gen.specs.Generated.{generated_updates, generated_keys}

-- The reply is of this kind: a pair was added, a value was replaced or taken out, a `put` found its key, or a `del` found none
abbrev pub is_of_kind : ReplyKind → Reply → Bool
is_of_kind kinds.Fresh Fresh = true
is_of_kind kinds.Was (Was v) = true
is_of_kind kinds.Has (Has v) = true
is_of_kind kinds.Missing Missing = true
is_of_kind _ _ = false

abbrev pub is_found : Option ℕ → Bool
is_found (Some v) = true
is_found None = false

-- A hash of the pairs in their order, by which two tables can be told apart. A key below 2 ^ 64 is mixed in as it is
abbrev pub sum_from : ℕ → List (ℕ × ℕ) → ℕ
sum_from sum [] = sum
sum_from sum (p ∷ pairs) = sum_from (mix_of p.1 (key_code_of (p.0 % 2 ^ 64) (p.0 / 2 ^ 64) sum)) pairs

abbrev pub summary_of : List Reply → List (Option ℕ) → List (ℕ × ℕ) → Summary
summary_of rs answers pairs = record {
  lines = length rs;
  fresh = length (filter (is_of_kind kinds.Fresh) rs);
  was = length (filter (is_of_kind kinds.Was) rs);
  has = length (filter (is_of_kind kinds.Has) rs);
  missing = length (filter (is_of_kind kinds.Missing) rs);
  found = length (filter is_found answers);
  absent = length answers - length (filter is_found answers);
  keys = length pairs;
  sum = sum_from 0 pairs;
}

-- Each count behind its name, and `end`
abbrev pub summary_words : Summary → List (List (List ℕ))
summary_words s =
    (codes "made" ∷ decimal s.lines ∷ [])
    ∷ (codes "fresh" ∷ decimal s.fresh ∷ [])
    ∷ (codes "was" ∷ decimal s.was ∷ [])
    ∷ (codes "has" ∷ decimal s.has ∷ [])
    ∷ (codes "missing" ∷ decimal s.missing ∷ [])
    ∷ (codes "found" ∷ decimal s.found ∷ [])
    ∷ (codes "absent" ∷ decimal s.absent ∷ [])
    ∷ (codes "keys" ∷ decimal s.keys ∷ [])
    ∷ (codes "sum" ∷ decimal s.sum ∷ [])
    ∷ (codes "end" ∷ [])
    ∷ []

abbrev pub summary_lines : Summary → List ℕ
summary_lines s = flat_map line (summary_words s)

-- The text of the summary of a seed's run: the replies and the pairs are those of the map of one thread, of at most `most`
-- pairs, and each query is answered by that map after all updates
abbrev pub generated_summary : ℕ → ℕ → ℕ → List ℕ
generated_summary most seed lines =
    let us = generated_updates seed lines in
    summary_lines (summary_of
    (replies nat_cmp most us)
    (map (answer_after nat_cmp most us (length us)) (generated_keys seed lines))
    (after nat_cmp most us (length us)))
