-- An array as a client of a domain: the accounts that its calls make, whatever larger client it stands in.
use Rattle.std.specs.Prelude.{◌≡◌, ℕ, zero, suc, ◌-◌, cond, Bool, true, nat_eq, nat_le, nat_lt, ◌&&◌, List, [], ◌∷◌, length}
use Rattle.ck_run.specs.declared.account.Entry.{Entry}
use Rattle.ck_run.specs.declared.account.Account.{Account}
use Rattle.ck_run.specs.Rule.{unused}
use Rattle.ck_run.specs.Machine.{state_after, Obeys, grow}
use Rattle.ck_words.specs.declared.back.Back.{Back}
use Rattle.ck_history.specs.declared.edit.Edit.{Edit}
use Rattle.ck_history.specs.declared.edit.EditReply.{EditReply}
use Rattle.ck_history.specs.Lists.{ListState, list_step, empty_lists}
use Rattle.ck_epoch.specs.declared.item.Item.{Item}
use Rattle.ck_epoch.specs.State.{Origin, base_of, state_at}
use Rattle.ck_epoch.specs.Client.{Client}
use Rattle.ck_arraylaw.specs.declared.client.ArrayClient.{ArrayClient}
use Rattle.ck_arraylaw.specs.declared.client.TheConstants.{ARENA}
use Rattle.ck_arraylaw.specs.Calls.{committing, opening_of}
use Rattle.ck_arraylaw.specs.Layout.{array_words, first_region, IsFreeRegion}
use Rattle.ck_arraylaw.specs.Array.{CommitStage, between_calls, WriterState, ReaderState, no_read, LocalState, writer, reader, lists_of, region_by, is_array_word, array_next, array_may}

-- each token before its first step. The writer has the number 0
abbrev pub first_writer : WriterState
first_writer = record { log = []; region = first_region; stage = between_calls }

abbrev pub first_reader : ReaderState
first_reader = record { stage = no_read; answers = [] }

abbrev pub array_start : ℕ → LocalState
array_start zero = writer first_writer
array_start (suc r) = reader first_reader

-- where the token stands after these entries
abbrev pub local_after : ℕ → ℕ → ℕ → List Entry → LocalState
local_after floor base n es = state_after (array_next floor base) (array_start n) es

-- the writer's next step begins a commit
abbrev pub BeginsCommit : CommitStage → List ℕ → Type 0
BeginsCommit between_calls opens = opening_of opens ≡ committing
BeginsCommit g opens = ⊥

-- A region that a commit takes is free: it shares no word with the present region, nor with an item of the array that is pending, by the
-- writer's own account
abbrev pub TakesFree : ℕ → Origin ArrayClient → Account → Entry → Type 0
TakesFree base origin a e = (p : WriterState) → local_after (base_of origin) base a.number a.entries ≡ writer p → is_array_word (base_of origin) base e.step ≡ true → BeginsCommit p.stage e.opens
    → IsFreeRegion (base - base_of origin) p.region (region_by base (length (lists_of p).pending) e.step) (state_at origin a.number a.entries).pending

-- edits with the replies that one thread would give them, from these lists on
abbrev pub replied_from : ListState → List Edit → List (Edit × EditReply)
replied_from s [] = []
replied_from s (e ∷ es) = (e, (list_step s e).1) ∷ replied_from (list_step s e).0 es

-- and from no member on
abbrev pub replied : List Edit → List (Edit × EditReply)
replied es = replied_from empty_lists es

-- what a token answered: the writer edits, and a reader lists
abbrev pub logged : LocalState → List Edit
logged (writer p) = p.log
logged (reader y) = []

abbrev pub answers_of : LocalState → List (List ℕ)
answers_of (writer p) = []
answers_of (reader y) = y.answers

-- the arena's regions may be retired
abbrev pub is_region : Item → Bool
is_region i = nat_le ARENA i.at && nat_lt i.at array_words

abbrev pub home_of : Item → Back
home_of i = record { shelf = 0; at = i.at; log = i.log }

-- The client. All its words may be read within a section alone
abbrev pub array : Client ArrayClient
array = record {
  size = λ c. array_words;
  first = λ c at. cond (nat_eq at 0) ARENA 0;
  guarded = λ c at. true;
  follows = λ base origin n es. let floor = base_of origin in Obeys (array_next floor base) (array_may floor base) (array_start n) es × Obeys grow (TakesFree base origin) (unused n) es;
  retires = λ c item. is_region item;
  home = λ c item. home_of item;
  Update = Edit × EditReply;
  log = λ base origin es. replied (logged (local_after (base_of origin) base 0 es));
  answered = λ base origin es. length (answers_of (local_after (base_of origin) base 1 es));
}
