-- Which lines of a run's files ask for what can't come, where each line by itself is in the grammar.
use Rattle.std.specs.Prelude.{ℕ, zero, suc, ◌+◌, nat_lt, Bool, true, false, List, [], ◌∷◌, length, map, find, take, slice_get, Option, None}
use Rattle.std.specs.List.{list_any}
use Rattle.std.specs.Option.{option_map, option_map_or, option_or}
use Rattle.ck_script.specs.declared.line.Numbered.{Numbered}
use Rattle.ck_script.specs.declared.line.UpLine.{UpLine}
use Rattle.ck_script.specs.declared.line.UpLine.TheVariants.{Call, Hold}
use Rattle.ck_script.specs.declared.line.AskLine.{AskLine}
use Rattle.ck_script.specs.declared.line.AskLine.TheVariants.{Ask, Wait}
use Rattle.ck_script.specs.declared.check.RangeFault.{RangeFault}
use Rattle.ck_script.specs.Script.{said_of, updates, queries}

-- query file f, from 1
abbrev pub query_file : {A : Type 0} → ℕ → List (List (AskLine A)) → Option (List (AskLine A))
query_file zero files = None
query_file (suc i) files = slice_get files i

-- a `hold` line names no query file, or one with fewer queries than its count
abbrev pub is_hold_beyond : {C A : Type 0} → List (List (AskLine A)) → UpLine C → Bool
is_hold_beyond files (Call u) = false
is_hold_beyond files (Hold file count) = option_map_or (λ asks. nat_lt (length (queries 0 asks)) count) (query_file file files) true

-- a `wait` line's count is above the number of all updates
abbrev pub is_wait_beyond : {A : Type 0} → ℕ → AskLine A → Bool
is_wait_beyond all (Ask key) = false
is_wait_beyond all (Wait count) = nat_lt all count

-- the first line of file f that passes the test
abbrev pub first_fault : {L : Type 0} → (L → Bool) → ℕ → List (Numbered L) → Option RangeFault
first_fault test f lines = option_map (λ l. record { file = f; line = l.line }) (find (λ l. test l.what) lines)

-- the first `wait` line that is beyond, in the query files, which are numbered from f on
abbrev pub first_wait_beyond : {A : Type 0} → ℕ → ℕ → List (List (Numbered (AskLine A))) → Option RangeFault
first_wait_beyond all f [] = None
first_wait_beyond all f (asks ∷ more) = option_or (first_fault (is_wait_beyond all) f asks) (first_wait_beyond all (f + 1) more)

-- the first line that is beyond: the lines of the update file, which is file 0, and then those of each query file
abbrev pub range_fault : {C A : Type 0} → List (Numbered (UpLine C)) → List (List (Numbered (AskLine A))) → Option RangeFault
range_fault ups asks = option_or (first_fault (is_hold_beyond (map said_of asks)) 0 ups) (first_wait_beyond (length (updates (said_of ups))) 1 asks)

-- the lines of the update file, each with the number of updates before it; m stand before them all
abbrev pub placed : {C : Type 0} → ℕ → List (Numbered (UpLine C)) → List (ℕ × Numbered (UpLine C))
placed m [] = []
placed m (l ∷ more) = (m, l) ∷ placed (m + length (updates (l.what ∷ []))) more

-- one of the first n queries stands after a `wait` line for more than m updates
abbrev pub waits_for_more : {A : Type 0} → ℕ → ℕ → List (AskLine A) → Bool
waits_for_more m n asks = list_any (λ q. nat_lt m q.1) (take n (queries 0 asks))

-- a `hold` line after m updates waits for queries of its file, of which one waits for more updates
abbrev pub is_circle : {C A : Type 0} → List (List (AskLine A)) → ℕ → UpLine C → Bool
is_circle files m (Call u) = false
is_circle files m (Hold file count) = option_map_or (waits_for_more m count) (query_file file files) false

-- the first line that is a circle, in the update file
abbrev pub circle_fault : {C A : Type 0} → List (Numbered (UpLine C)) → List (List (Numbered (AskLine A))) → Option RangeFault
circle_fault ups asks = option_map (λ l. record { file = 0; line = l.1.line }) (find (λ l. is_circle (map said_of asks) l.0 l.1.what) (placed 0 ups))
