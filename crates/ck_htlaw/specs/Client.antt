-- A table as a client of a domain: the accounts that its calls make, whatever larger client it stands in.
use Rattle.std.specs.Prelude.{◌≡◌, ℕ, zero, suc, ◌+◌, ◌*◌, ◌-◌, ◌==◌, cond, Bool, true, false, nat_eq, nat_le, nat_lt, ◌&&◌, List, [], ◌∷◌, ◌++◌, length, slice_index, Option, Some, None}
use Rattle.ck_run.specs.declared.account.Step.{Step}
use Rattle.ck_run.specs.declared.account.Step.TheVariants.{Load}
use Rattle.ck_run.specs.declared.account.Entry.{Entry}
use Rattle.ck_run.specs.declared.account.Account.{Account}
use Rattle.ck_run.specs.Rule.{unused}
use Rattle.ck_run.specs.Machine.{state_after, Obeys}
use Rattle.ck_words.specs.declared.back.Back.{Back}
use Rattle.ck_history.specs.declared.update.Update.TheVariants.{Tidy}
use Rattle.ck_history.specs.declared.update.Reply.TheVariants.{Tidied}
use Rattle.ck_history.specs.declared.log.LogEntry.{LogEntry}
use Rattle.ck_probe.specs.Mixing.{key_code_of}
use Rattle.ck_slots.specs.Slots.{Order}
use Rattle.ck_htplan.specs.Region.{low_of, high_of, order_of}
use Rattle.ck_epoch.specs.declared.item.Item.{Item}
use Rattle.ck_epoch.specs.State.{Origin, base_of, state_at}
use Rattle.ck_epoch.specs.Client.{Client}
use Rattle.ck_run.specs.Machine.{grow}
use Rattle.ck_htlaw.specs.declared.client.HtClient.{HtClient}
use Rattle.ck_htlaw.specs.Calls.{opening_of, key_of, is_single_load}
use Rattle.ck_htlaw.specs.Stages.{Stage, idle}
use Rattle.ck_htlaw.specs.Look.{LookState, no_look, checking_value, checking_absence}
use Rattle.ck_htlaw.specs.Table.{Layout, WriterState, ReaderState, LocalState, writer, reader, is_table_word, next, May}
use Rattle.ck_htlaw.specs.Actions.{action, answer_to}
use Rattle.ck_htlaw.specs.Layout.{counters_of, arena, table_words, layout, IsFreeRegion}
use Rattle.ck_htlaw.specs.Invariant.{IsTaking}

-- the logarithm of the slots at opening
abbrev pub opening_log : ℕ
opening_log = 3

-- a key's hash
abbrev pub hash_of : HtClient → ℕ → ℕ
hash_of c key = key_code_of (low_of key) (high_of key) c.seed

-- the probe orders, by the logarithm of the slots
abbrev pub orders_of : HtClient → ℕ → Order
orders_of client c = order_of c (hash_of client)

-- where the words of the table lie that begin at `first`
abbrev pub layout_of : ℕ → Origin HtClient → Layout
layout_of first origin = layout (base_of origin) first (counters_of origin.config.client) (orders_of origin.config.client)

-- Each token before its first step. The writer, which has the number 0, knows the words
abbrev pub first_writer : Layout → List ℕ → WriterState
first_writer l words = record { root = slice_index words l.base; stage = idle; words = words; maps = λ p k. 0; linearized = 0; log = 0; bumps = 0 }

abbrev pub first_reader : ReaderState
first_reader = record { root = 0; look_state = no_look; retries = 0 }

abbrev pub start : Layout → List ℕ → ℕ → LocalState
start l words zero = writer (first_writer l words)
start l words (suc r) = reader first_reader

abbrev pub table_next : Layout → LocalState → Entry → LocalState
table_next l = next l (action l) key_of

abbrev pub table_may : Layout → LocalState → Entry → Type 0
table_may l = May l (action l) key_of

-- where the token stands after these entries
abbrev pub local_after : Layout → List ℕ → ℕ → List Entry → LocalState
local_after l words n es = state_after (table_next l) (start l words n) es

-- A region that the writer takes is free: it shares no word with the present region, nor with an item of the table that is pending, by the
-- writer's own account
abbrev pub TakesFree : ℕ → Origin HtClient → Account → Entry → Type 0
TakesFree first origin a e = let l = layout_of first origin in
    (p : WriterState) (root : ℕ) → local_after l origin.words a.number a.entries ≡ writer p → is_table_word l e.step ≡ true → IsTaking (action l p e) p.stage root
    → IsFreeRegion (counters_of origin.config.client) (first - base_of origin) p.root root (state_at origin a.number a.entries).pending

-- What a token answered: the log of the writer's answered updates, and the key and the value or none of each answered look of a reader
pub record Answers : Type 0 where
  pub local : LocalState
  -- what the writer's present call answers
  pub due : LogEntry ℕ
  pub log : List (LogEntry ℕ)
  pub looks : List (ℕ × Option ℕ)

-- the last load of a look that finds the counter as it was
abbrev pub look_ends : LookState → Step → List (ℕ × Option ℕ)
look_ends (checking_value k c x) (Load a n) = cond (c == n) ((k, Some x) ∷ []) []
look_ends (checking_absence k c) (Load a n) = cond (c == n) ((k, None) ∷ []) []
look_ends look_state s = []

-- how many updates the writer has answered
abbrev pub logged : LocalState → ℕ
logged (writer p) = p.log
logged (reader y) = 0

module _ (l : Layout) where
  abbrev pub due_at : WriterState → Stage → Entry → LogEntry ℕ → LogEntry ℕ
  due_at p idle e due = cond (is_table_word l e.step) (answer_to l p (opening_of e.opens)) due
  due_at p g e due = due

  abbrev pub due_next : LocalState → Entry → LogEntry ℕ → LogEntry ℕ
  due_next (writer p) e due = due_at p p.stage e due
  due_next (reader y) e due = due

  abbrev pub looks_next : LocalState → Entry → List (ℕ × Option ℕ)
  looks_next (writer p) e = []
  looks_next (reader y) e = cond (is_table_word l e.step && cond (is_single_load e.opens) false true) (look_ends y.look_state e.step) []

  abbrev pub answers_next : Answers → Entry → Answers
  answers_next a e = let due' = due_next a.local e a.due in let hand' = table_next l a.local e in record {
    local = hand';
    due = due';
    log = a.log ++ cond (nat_lt (logged a.local) (logged hand')) (due' ∷ []) [];
    looks = a.looks ++ looks_next a.local e;
  }

  abbrev pub answers_after : List ℕ → ℕ → List Entry → Answers
  answers_after words n es = state_after answers_next (record { local = start l words n; due = record { update = Tidy; reply = Tidied }; log = []; looks = [] }) es

-- whether a region of the arena may be retired
abbrev pub is_region : HtClient → Item → Bool
is_region c i = nat_le (arena (counters_of c)) i.at && nat_lt i.at (table_words (counters_of c))

abbrev pub home_of : Item → Back
home_of i = record { shelf = 0; at = i.at; log = i.log }

-- The client. All its words may be read within a section alone
abbrev pub table : Client HtClient
table = record {
  size = λ c. table_words (counters_of c);
  first = λ c at. cond (nat_eq at 0) (32 * arena (counters_of c) + opening_log) 0;
  guarded = λ c at. true;
  follows = λ first origin n es. let l = layout_of first origin in Obeys (table_next l) (table_may l) (start l origin.words n) es × Obeys grow (TakesFree first origin) (unused n) es;
  retires = λ c item. is_region c item;
  home = λ c item. home_of item;
  Update = LogEntry ℕ;
  log = λ first origin es. (answers_after (layout_of first origin) origin.words 0 es).log;
  answered = λ first origin es. length (answers_after (layout_of first origin) origin.words 1 es).looks;
}
