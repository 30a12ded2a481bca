-- What the writer is about to do at a step, by the call that it is in and by the plan on the words as its own stores left them; and what it
-- answers.
use Rattle.std.specs.Prelude.{ℕ, ◌+◌, ◌-◌, ◌*◌, ◌^◌, nat_le, nat_lt, cond, ◌==◌, Option, Some, None}
use Rattle.ck_run.specs.declared.account.Entry.{Entry}
use Rattle.ck_run.specs.Range.{word_of}
use Rattle.ck_history.specs.declared.update.Update.TheVariants.{Set, Put, Del, Tidy}
use Rattle.ck_history.specs.declared.update.Reply.{Reply}
use Rattle.ck_history.specs.declared.update.Reply.TheVariants.{Tidied}
use Rattle.ck_history.specs.declared.log.LogEntry.{LogEntry}
use Rattle.ck_slots.specs.Slots.{Order, SlotsView}
use Rattle.ck_slots.specs.Counting.{count as how_many, used, rebuilt_log}
use Rattle.ck_htplan.specs.declared.cases.Plan.{Plan}
use Rattle.ck_htplan.specs.declared.cases.Plan.TheVariants.{Empty, Reuse, Stand, Move}
use Rattle.ck_htlaw.specs.Calls.{Opening, setting, putting, removing, tidying, opening_of}
use Rattle.ck_htlaw.specs.Stages.{Insertion, Target, empty, reuse, move, Stage, idle, copying, after_rebuild}
use Rattle.ck_htlaw.specs.Table.{Layout, view, Action, inserts, stands, deletes, nothing, begins_rebuild, copies, publishes, tidies, no_action, WriterState}
use Rattle.ck_htlaw.specs.Layout.{log_of}
use Rattle.ck_htplan.specs.Planning.{plan_of}
use Rattle.ck_htplan.specs.Deciding as deciding
use Rattle.ck_htplan.specs.Deciding.{next_full}

-- the most pairs of a table
abbrev pub most : ℕ
most = 262144

module _ (l : Layout) (p : WriterState) where
  -- the slots of the present region, as the writer's stores left them
  abbrev pub order_now : Order
  order_now = l.order p.root

  abbrev pub slots_now : SlotsView
  slots_now = view l p.words p.root

  abbrev pub keys_now : ℕ
  keys_now = how_many slots_now.state 1 order_now.slots

  abbrev pub tombstones_now : ℕ
  tombstones_now = how_many slots_now.state 2 order_now.slots

  abbrev pub plan_now : ℕ → Plan
  plan_now key = plan_of order_now slots_now key

  -- the root of a region of 2 ^ c slots that starts at this word
  abbrev pub root_at : ℕ → ℕ → ℕ
  root_at word c = 32 * (word - l.base) + c

  -- an empty slot of the region that is being built is taken where another one stays empty
  abbrev pub with_another : ℕ → SlotsView → Action → Action
  with_another n v a = cond (nat_le (used v.state n + 2) n) a no_action

  -- A fresh key goes into its slot, unless it is an empty one and the map has to be rebuilt first. The region that is taken for that starts
  -- at the word of the step
  abbrev pub goes_in : Target → Insertion → ℕ → Action
  goes_in empty w word = cond (nat_le (4 * (keys_now + tombstones_now + 1)) (3 * order_now.slots)) (inserts empty w) (begins_rebuild (root_at word (rebuilt_log (log_of p.root) keys_now)))
  goes_in c w word = inserts c w

  abbrev pub adds : Target → Insertion → ℕ → Action
  adds c w word = cond (nat_lt keys_now most) (goes_in c w word) nothing

  abbrev pub job : ℕ → ℕ → ℕ → Insertion
  job key value to = record { key = key; number = value; to = to }

  abbrev pub to_set : Plan → ℕ → ℕ → ℕ → Action
  to_set (Empty at) key value word = adds empty (job key value at) word
  to_set (Reuse at) key value word = adds reuse (job key value at) word
  to_set (Stand at) key value word = stands key at value
  to_set (Move to from) key value word = inserts (move from) (job key value to)

  abbrev pub to_put : Plan → ℕ → ℕ → ℕ → Action
  to_put (Empty at) key value word = adds empty (job key value at) word
  to_put (Reuse at) key value word = adds reuse (job key value at) word
  to_put plan key value word = nothing

  abbrev pub to_remove : Plan → ℕ → Action
  to_remove (Stand at) key = deletes key at
  to_remove (Move to from) key = deletes key from
  to_remove plan key = nothing

  abbrev pub to_tidy : ℕ → Action
  to_tidy word = cond (tombstones_now == 0) nothing (begins_rebuild (root_at word (log_of p.root)))

  abbrev pub by_call : Opening → ℕ → Action
  by_call (setting key value) word = to_set (plan_now key) key value word
  by_call (putting key value) word = to_put (plan_now key) key value word
  by_call (removing key) word = to_remove (plan_now key) key
  by_call tidying word = to_tidy word
  by_call c word = no_action

  -- the key of a full slot
  abbrev pub key_at : ℕ → ℕ
  key_at s = slots_now.low s + 2 ^ 64 * slots_now.high s

  -- after the last pair was copied
  abbrev pub when_copied : Opening → Action
  when_copied tidying = tidies
  when_copied c = publishes

  -- The pair of the slot s is copied into the region of this root, at the first empty slot of its key's order
  abbrev pub copies_to : ℕ → ℕ → ℕ → Plan → Action
  copies_to root s key (Empty at) = with_another (l.order root).slots (view l p.words root) (copies s (job key (slots_now.value s) at))
  copies_to root s key plan = no_action

  abbrev pub to_copy : Opening → ℕ → ℕ → Option ℕ → Action
  to_copy c root j (Some s) = copies_to root s (key_at s) (plan_of (l.order root) (view l p.words root) (key_at s))
  to_copy c root j None = cond (nat_le j order_now.slots) (when_copied c) no_action

  abbrev pub by_stage : Stage → Entry → Action
  by_stage idle e = by_call (opening_of e.opens) (word_of e.step)
  by_stage (after_rebuild call) e = by_call (opening_of call) (word_of e.step)
  by_stage (copying call root j idle) e = to_copy (opening_of call) root j (next_full slots_now.state (order_now.slots - j) j)
  by_stage g e = no_action

  -- what a call answers, by its first step: what is decided on its update
  abbrev pub added : Reply
  added = deciding.added most (log_of p.root) order_now slots_now

  abbrev pub set_reply : Plan → Reply
  set_reply = deciding.set_reply most (log_of p.root) order_now slots_now

  abbrev pub put_reply : Plan → Reply
  put_reply = deciding.put_reply most (log_of p.root) order_now slots_now

  abbrev pub remove_reply : Plan → Reply
  remove_reply = deciding.remove_reply most (log_of p.root) order_now slots_now

  abbrev pub answer_to : Opening → LogEntry ℕ
  answer_to (setting key value) = record { update = Set key value; reply = set_reply (plan_now key) }
  answer_to (putting key value) = record { update = Put key value; reply = put_reply (plan_now key) }
  answer_to (removing key) = record { update = Del key; reply = remove_reply (plan_now key) }
  answer_to c = record { update = Tidy; reply = Tidied }

-- what the writer is about to do
abbrev pub action : Layout → WriterState → Entry → Action
action l p e = by_stage l p p.stage e
