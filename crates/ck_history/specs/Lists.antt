-- The lists that one thread would keep, one pending and one committed: their edits, the replies, and the lists after some edits.
use Rattle.std.specs.Prelude.{ℕ, ◌==◌, List, [], ◌∷◌, ◌++◌, length, take, if◌then◌else◌, nat_lt}
use Rattle.std.specs.Option.{option_map_or}
use Rattle.std.specs.List.{position, swap_remove}
use Rattle.ck_history.specs.declared.edit.TheConstants.{MOST_MEMBERS}
use Rattle.ck_history.specs.declared.edit.Edit.{Edit}
use Rattle.ck_history.specs.declared.edit.Edit.TheVariants.{Add, Drop, Commit}
use Rattle.ck_history.specs.declared.edit.EditReply.{EditReply}
use Rattle.ck_history.specs.declared.edit.EditReply.TheVariants.{Added, Full, Dropped, Missing, Committed}

-- Edits are made to the pending list. Readers are given the committed one
pub record ListState : Type 0 where
  pub pending : List ℕ
  pub committed : List ℕ

-- a member goes behind the others, unless there are as many as there may be
abbrev pub add_member : List ℕ → ℕ → List ℕ × EditReply
add_member xs v = if nat_lt (length xs) MOST_MEMBERS then (xs ++ v ∷ [], Added) else (xs, Full)

-- the first member equal to v goes, and the last member takes its place
abbrev pub drop_member : List ℕ → ℕ → List ℕ × EditReply
drop_member xs v = option_map_or (λ at. (swap_remove xs at v, Dropped)) (position (λ x. x == v) xs) (xs, Missing)

-- one edit: the lists after it, and its reply
abbrev pub list_step : ListState → Edit → ListState × EditReply
list_step s (Add v) = (record s { pending = (add_member s.pending v).0 }, (add_member s.pending v).1)
list_step s (Drop v) = (record s { pending = (drop_member s.pending v).0 }, (drop_member s.pending v).1)
list_step s Commit = (record s { committed = s.pending }, Committed)

abbrev pub empty_lists : ListState
empty_lists = record { pending = []; committed = [] }

-- the lists after edits
abbrev pub lists_after_from : ListState → List Edit → ListState
lists_after_from s [] = s
lists_after_from s (e ∷ es) = lists_after_from (list_step s e).0 es

-- the replies of edits, in order
abbrev pub edit_replies_from : ListState → List Edit → List EditReply
edit_replies_from s [] = []
edit_replies_from s (e ∷ es) = (list_step s e).1 ∷ edit_replies_from (list_step s e).0 es

-- the lists after the first p edits, from no member on
abbrev pub lists_after : List Edit → ℕ → ListState
lists_after es p = lists_after_from empty_lists (take p es)

-- what a reader is given after the first p edits
abbrev pub committed_after : List Edit → ℕ → List ℕ
committed_after es p = (lists_after es p).committed

-- the replies of the edits, from no member on
abbrev pub edit_replies : List Edit → List EditReply
edit_replies es = edit_replies_from empty_lists es
