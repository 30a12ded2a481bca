-- The law of an array holds.
use Rattle.std.proofs.Common.{◌≡◌, ℕ, suc, ◌<◌, ◌≤◌, Bool, true, false, cond, nat_lt, List, [], ◌∷◌, ◌++◌, length, get_or, append-nil, append_assoc, refl, sym, ap, ◌∙◌, subst, arith}
use Rattle.ck_run.specs.declared.account.Step.{Step}
use Rattle.ck_run.specs.declared.account.Entry.{Entry}
use Rattle.ck_run.specs.Run.{Run, account}
use Rattle.ck_run.specs.Machine.{state_after}
use Rattle.ck_run.proofs.Law.{state-append}
use Rattle.ck_run.proofs.Runs.{account-append}
use Rattle.ck_history.specs.declared.edit.Edit.{Edit}
use Rattle.ck_history.specs.declared.edit.Edit.TheVariants.{Commit}
use Rattle.ck_history.specs.Lists.{empty_lists, lists_after_from}
use Rattle.ck_epoch.specs.declared.item.Item.{Item}
use Rattle.ck_epoch.specs.State.{records_of}
use Rattle.ck_epoch.specs.Epochs.{IsOpen}
use Rattle.ck_epoch.specs.Within.{item_from}
use Rattle.ck_reclaim.specs.Reclaim.{IsApartFromRetired}
use Rattle.ck_arraylaw.specs.Calls.{Opening, adding, dropping, committing, opening_of}
use Rattle.ck_arraylaw.specs.Layout.{IsRegion, HoldsList}
use Rattle.ck_arraylaw.specs.Array.{CommitStage, between_calls, filling, replaced, WriterState, LocalState, writer, reader, edits_at, lists_of, begun, filled, written, released, released_if, is_array_word, is_array_item, after_own, after_other, array_next}
use Rattle.ck_arraylaw.specs.Client.{array_start, logged}
use Rattle.ck_arraylaw.specs.Laws.{GoesOn, same_on}
use Rattle.ck_arraylaw.specs.Regions.{regions, place_in}
use Rattle.ck_arraylaw.specs.Law.{edits_by, region_of, Unpublished, until, local_in, edits_in, log_in, committed_in, region_in, WordsStand, IsReading, Answers, KeepsRegion, ArrayLaw}
use Rattle.ck_arraylaw.proofs.Linked.{writer_with}
use Rattle.ck_arraylaw.proofs.Holding.{floor, base, IsTrue, words, Holds, is_reusable, held, ArrayIn}
use Rattle.ck_arraylaw.proofs.Answering.{begins_at, begun as begun_reading, answers_list, Known, known_until}

-- the edits that have taken place stay, whatever the step
module _ (floor base : ℕ) where
  begun_goes_on : (log : List Edit) (region : Item) (o : Opening) (s : Step) → GoesOn log (edits_by (writer (begun base (writer_with log region between_calls) o s)))
  begun_goes_on log region (adding v) s = (_, refl)
  begun_goes_on log region (dropping v) s = (_, refl)
  begun_goes_on log region committing s = same_on log
  begun_goes_on log region o s = same_on log

  filled_goes_on : (log : List Edit) (region new : Item) (i : ℕ) (b : Bool) → GoesOn log (edits_by (writer (filled base (writer_with log region (filling new i)) new i b)))
  filled_goes_on log region new i true = same_on log
  filled_goes_on log region new i false = (_, refl)

  written_goes_on : (log : List Edit) (region : Item) (opens : List ℕ) (g : CommitStage) (s : Step) → GoesOn (edits_at g log) (edits_by (writer (written base (writer_with log region g) opens g s)))
  written_goes_on log region opens between_calls s = begun_goes_on log region (opening_of opens) s
  written_goes_on log region opens (filling new i) s = filled_goes_on log region new i (nat_lt i (length (lists_of (writer_with log region (filling new i))).pending))
  written_goes_on log region opens (replaced old) s = same_on (log ++ Commit ∷ [])

  released_goes_on : (log : List Edit) (region : Item) (g : CommitStage) → GoesOn (edits_at g log) (edits_by (writer (released (writer_with log region g) g)))
  released_goes_on log region between_calls = same_on log
  released_goes_on log region (filling new i) = same_on log
  released_goes_on log region (replaced old) = same_on (log ++ Commit ∷ [])

  retired_goes_on : (p : WriterState) (b : Bool) → GoesOn (edits_at p.stage p.log) (edits_by (writer (released_if floor base b p)))
  retired_goes_on p true = released_goes_on p.log p.region p.stage
  retired_goes_on p false = same_on (edits_at p.stage p.log)

  edits_go_on : (h : LocalState) (e : Entry) → GoesOn (edits_by h) (edits_by (array_next floor base h e))
  edits_go_on h e = go (is_array_word floor base e.step) h
    where
      go : (b : Bool) (h : LocalState) → GoesOn (edits_by h) (edits_by (cond b (after_own floor base h e) (after_other floor base h e)))
      go true (writer p) = written_goes_on p.log p.region e.opens p.stage e.step
      go true (reader y) = same_on []
      go false (writer p) = retired_goes_on p (is_array_item floor base e.item)
      go false (reader y) = same_on []

  edits_after : (h : LocalState) (es : List Entry) → GoesOn (edits_by h) (edits_by (state_after (array_next floor base) h es))
  edits_after h [] = same_on (edits_by h)
  edits_after h (e ∷ es) = let one = edits_go_on h e in let more = edits_after (array_next floor base h e) es in
      (one.0 ++ more.0, more.1 ∙ (ap (λ (l : List Edit). l ++ more.0) one.1 ∙ append_assoc (edits_by h) one.0 more.0))

-- what has taken place and isn't answered is one edit at most
one_unanswered : (g : CommitStage) (log : List Edit) → (more : List Edit) × (edits_at g log ≡ log ++ more) × (length more ≤ 1)
one_unanswered between_calls log = ([], sym (append-nil log), omega arith)
one_unanswered (filling new i) log = ([], sym (append-nil log), omega arith)
one_unanswered (replaced old) log = (Commit ∷ [], refl, omega arith)

module _ {D : Type 0} (a : ArrayIn D) where
  open a use {host, pieces, origin}

  stands : (past more : Run) → IsTrue a (past ++ more) → WordsStand host origin past
  stands past more t = let h = held a past more t in let ws = words a past in record {
    root = subst (λ (x : LocalState). get_or ws (base a) 0 ≡ (region_of x).at) (sym h.at_writer) h.invariant.root;
    inside = subst (λ (x : LocalState). IsRegion (region_of x)) (sym h.at_writer) h.invariant.inside;
    list = subst (λ (x : LocalState). HoldsList (base a) ws (region_of x) (lists_after_from empty_lists (edits_by x)).committed) (sym h.at_writer) h.invariant.list;
  }

  has_all_but_one : (past more : Run) → IsTrue a (past ++ more) → (es : List Edit) × (edits_in host origin past ≡ log_in host origin past ++ es) × (length es ≤ 1)
  has_all_but_one past more t = let h = held a past more t in
      subst (λ (x : LocalState). (es : List Edit) × (edits_by x ≡ logged x ++ es) × (length es ≤ 1)) (sym h.at_writer) (one_unanswered h.writer_state.stage h.writer_state.log)

  goes_on : (past more : Run) → (es : List Edit) × (edits_in host origin (past ++ more) ≡ edits_in host origin past ++ es)
  goes_on past more = let g = edits_after (floor a) (base a) (local_in host origin past 0) (account 0 more) in
      (g.0, ap (λ (es : List Entry). edits_by (state_after (array_next (floor a) (base a)) (array_start 0) es)) (account-append 0 past more) ∙ (ap edits_by (state-append (array_next (floor a) (base a)) (array_start 0) (account 0 past) (account 0 more)) ∙ g.1))

  -- within an `all`
  module _ (past between rest : Run) (r : ℕ) (e : Entry) (t : IsTrue a (until past r e between ++ rest)) (reading : IsReading host origin past r e between) where
    t_first : IsTrue a (past ++ (suc r, e) ∷ (between ++ rest))
    t_first = subst (IsTrue a) (append_assoc past ((suc r, e) ∷ between) rest) t

    h : Holds a past
    h = held a past ((suc r, e) ∷ (between ++ rest)) t_first

    abbrev p : WriterState
    p = h.writer_state

    known : Known a past p.region (lists_of p).committed (begins_at a past h) (until past r e between) r
    known = known_until a past p.region (lists_of p).committed (begins_at a past h) past r e between rest t reading
        (begun_reading a past r e (between ++ rest) t_first h reading.starts (reading.goes [] between refl))

    keeps_region : KeepsRegion host origin past (until past r e between) (region_in host origin past)
    keeps_region = subst (λ (x : LocalState). KeepsRegion host origin past (until past r e between) (region_of x)) (sym h.at_writer) known.0.kept

  answered : (past between rest : Run) (r : ℕ) (e e' : Entry) (members : List ℕ) → IsTrue a (until past r e between ++ (suc r, e') ∷ rest) → IsReading host origin past r e between → Answers host origin (until past r e between) r e' members → members ≡ committed_in host origin past
  answered past between rest r e e' members t reading answers =
      let k = known past between ((suc r, e') ∷ rest) r e t reading in let hold = h past between ((suc r, e') ∷ rest) r e t reading in
      answers_list a past hold.writer_state.region (lists_of hold.writer_state).committed (begins_at a past hold) (until past r e between) r e' rest t k.0 (reading.goes between [] (sym (append-nil between))) k.1 members answers
      ∙ ap (λ (x : LocalState). (lists_after_from empty_lists (edits_by x)).committed) (sym hold.at_writer)

  reclaimed : (past rest : Run) (e : Entry) (p : WriterState) (region : Item) → IsTrue a (past ++ (0, e) ∷ rest) → local_in host origin past 0 ≡ writer p → is_array_word (floor a) (base a) e.step ≡ true → Unpublished (base a) p e p.stage region → (r o : ℕ) → r < records_of origin → IsOpen past r o
      → IsApartFromRetired (regions host) origin past o (item_from (place_in host origin) region)
  reclaimed past rest e p region t at_p own u r o low section =
      let h = held a past ((0, e) ∷ rest) t in
      let same : p ≡ h.writer_state = let z : writer p ≡ writer h.writer_state = sym at_p ∙ h.at_writer in cc in
      pieces.retired origin past ((0, e) ∷ rest) (item_from (place_in host origin) region) t (is_reusable a past e rest t h own region (subst (λ (q : WriterState). Unpublished (base a) q e q.stage region) same u)) r o low section

  pub array_law : ArrayLaw host origin
  array_law = record {
    stand = λ past rest t. stands past rest t;
    log = λ past rest t. has_all_but_one past rest t;
    grows = λ past more rest t. goes_on past more;
    answers = λ past between rest r e e' members t reading answers. answered past between rest r e e' members t reading answers;
    frozen = λ past between rest r e t reading. keeps_region past between rest r e t reading;
    reclaimed = λ past rest e p region t at_p own u r o low section. reclaimed past rest e p region t at_p own u r o low section;
  }
