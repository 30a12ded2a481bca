-- What a call that may add a key tells, from what its case made. `set` and `put` differ in their update and, by the plan, in its answer and steps.
use Rattle.std.proofs.Common.{◌≡◌, ℕ, ◌+◌, ◌≤◌, ◌⊎◌, List, [], ◌∷◌, ◌++◌, length, sym, ap, ◌∙◌, subst, arith}
use Rattle.std.specs.Ordering.{nat_cmp}
use Rattle.ck_run.specs.declared.account.Entry.{Entry}
use Rattle.ck_run.specs.declared.account.Step.{Step}
use Rattle.ck_run.specs.Tokens.{adding, origin, table as table_of}
use Rattle.ck_history.specs.declared.update.Reply.{Reply}
use Rattle.ck_history.specs.declared.update.Update.{Update}
use Rattle.ck_history.specs.Map.{step}
use Rattle.ck_epoch.specs.State.{Origin, state}
use Rattle.ck_epoch.specs.Ends.{Writer, IsWriting}
use Rattle.ck_epoch.specs.Within.{IsWithin}
use Rattle.ck_htplan.specs.declared.cases.Plan.{Plan}
use Rattle.ck_htlaw.specs.Host.{Host, lies}
use Rattle.ck_htlaw.specs.Calls.{opening_of}
use Rattle.ck_htlaw.specs.Table.{Layout, WriterState}
use Rattle.ck_htlaw.specs.Actions.{most, answer_to, plan_now}
use Rattle.ck_htlaw.specs.Client.{table}
use Rattle.ck_htlaw.specs.Linearized.{map_after}
use Rattle.ck_htlaw.specs.Known.{knows}
use Rattle.ck_htwrite.specs.declared.state.HtState.{HtState}
use Rattle.ck_htwrite.specs.declared.state.Need.{Need}
use Rattle.ck_arena.specs.Arena.{HasNoneFree, unreturned}
use Rattle.ck_htwrite.specs.Arena.{AddsRegion, MayAddRegion}
use Rattle.ck_htwrite.specs.State.{Ready}
use Rattle.ck_htwrite.specs.Updates.{IsDone, IsNeeded, IsRebuildDue, Makes, needed_log}
use Rattle.ck_htwrite.specs.Writes.{WriterIs, counters_in}
use Rattle.ck_htwrite.proofs.Between.{answers, same_writer, done_reply, done_over, done_made, done_calls, done_free, done_items, done_pending, done_root, done_ready}

module _ {D F : Type 0} (h : Host D) (o : Origin D) (key value : ℕ) (w : Writer D F) (s : HtState) where
  -- The call is over with this answer: what it promises then
  pub record IsAnswered (opens : List ℕ) (update : Update ℕ) (Are : WriterState → Plan → List Step → Type 0) (reply : Reply) (w' : Writer D F) (s' : HtState) : Type 0 where
    pub same : w' ≡ record w { token = w'.token; calls = w'.calls; tally = w.tally + 1 }
    pub calls : w'.calls ≤ w.calls + 2
    pub waiting : (w'.waiting ≡ w.waiting) × (w'.room ≡ w.room)
    pub pending : length (state w'.token).pending ≤ length (state w.token).pending + 1
    pub items : MayAddRegion (counters_in h o) (h.place o.config.client) (unreturned (state w.token) w.waiting) (unreturned (state w'.token) w'.waiting)
    pub root : (s'.root ≡ s.root) ⊎ AddsRegion (counters_in h o) (h.place o.config.client) (unreturned (state w.token) w.waiting) (unreturned (state w'.token) w'.waiting)
    pub table_is : table_of w'.token ≡ table_of w.token
    pub reply_is : reply ≡ (step nat_cmp most (map_after (knows h o w.token).log) update).1
    pub log : (knows h o w'.token).log ≡ (knows h o w.token).log ++ record { update = update; reply = reply } ∷ []
    pub steps : (p : WriterState) → WriterIs h o w.token p → (es : List Entry) × Makes (lies h o) p (Are p (plan_now (lies h o) p key)) (plan_now (lies h o) p key) opens key value es × (w'.token ≡ adding w.token es)
    pub free : (p : WriterState) → WriterIs h o w.token p → IsRebuildDue (lies h o) p (plan_now (lies h o) p key) → HasNoneFree s.arena (needed_log (lies h o) p) → ⊥
    pub ready : Ready h o w' s'

  -- It is to be counted yet
  abbrev pub IsSettled : (opens : List ℕ) (update : Update ℕ) (Are : WriterState → Plan → List Step → Type 0) (reply : Reply) (w1 : Writer D F) (s' : HtState) → Type 0
  IsSettled opens update Are reply w1 s' = (w1.calls ≤ w.calls + 1) × (w1.tally ≤ w1.calls) × ((w' : Writer D F) → w' ≡ record w1 { calls = w1.calls + 1; tally = w1.tally + 1 } → IsAnswered opens update Are reply w' s')

  module _ (within : IsWithin table h.client h.place h.part) (same_origin : origin w.token ≡ o) (writing : IsWriting h.client w.token) (rd : Ready h o w s) where
    abbrev l : Layout
    l = lies h o

    abbrev p : WriterState
    p = rd.lists.is_writer

    -- what holds of the writer and its plan holds of every state that the account has
    at_each : (P : WriterState → Plan → Type 0) (plan : Plan) → plan_now l p key ≡ plan → P p plan → (q : WriterState) → WriterIs h o w.token q → P q (plan_now l q key)
    at_each P plan planned x q is = subst (λ (y : WriterState). P y (plan_now l y key)) (same_writer h within o w.token s rd.lists q is) (subst (P p) (sym planned) x)

    -- a rebuild is due and nothing is free
    pub needed : (plan : Plan) → plan_now l p key ≡ plan → (need : Need) → IsNeeded h o p plan s need → (q : WriterState) → WriterIs h o w.token q → IsNeeded h o q (plan_now l q key) s need
    needed plan planned need = at_each (λ q z. IsNeeded h o q z s need) plan planned

    module _ (opens : List ℕ) (update : Update ℕ) (expected : WriterState → Plan → Reply) (Are : WriterState → Plan → List Step → Type 0)
        (answer_is : answer_to l p (opening_of opens) ≡ record { update = update; reply = expected p (plan_now l p key) })
        (plan : Plan) (planned : plan_now l p key ≡ plan) (apart : (ss : List Step) → IsRebuildDue l p plan → Are p plan ss → ⊥)
        (reply : Reply) (w1 : Writer D F) (s' : HtState) (done : IsDone h o p (expected p plan) (Are p plan) plan opens key value w reply w1 s s') where
      reply_then : reply ≡ expected p (plan_now l p key)
      reply_then = done_reply h within o w w1 same_origin writing.first s s' rd (expected p plan) reply (Are p plan) plan opens key value done ∙ ap (expected p) (sym planned)

      made : (es : List Entry) × Makes l p (Are p plan) plan opens key value es × (w1 ≡ record w { token = adding w.token es; calls = w1.calls })
      made = done_made h within o w w1 same_origin writing.first s s' rd (expected p plan) reply (Are p plan) plan opens key value done

      calls_then : (w1.calls ≤ w.calls + 1) × (w1.tally ≤ w1.calls)
      calls_then =
          let more = done_calls h within o w w1 same_origin writing.first s s' rd (expected p plan) reply (Are p plan) plan opens key value done in
          let tallies : w1.tally ≡ w.tally = ap (λ (v : Writer D F). v.tally) made.2 in let few = rd.few in (more.1, omega arith)

      -- and it is counted
      answered : (w' : Writer D F) → w' ≡ record w1 { calls = w1.calls + 1; tally = w1.tally + 1 } → IsAnswered opens update Are reply w' s'
      answered w' counted =
          let more = calls_then.0 in
          let called : w'.calls ≡ w1.calls + 1 = ap (λ (v : Writer D F). v.calls) counted in
          record {
            same = counted ∙ (λ i. record (made.2 i) { token = w1.token; calls = w1.calls + 1; tally = (made.2 i).tally + 1 }) ∙ (λ i. record w { token = (sym counted i).token; calls = (sym counted i).calls; tally = w.tally + 1 });
            calls = omega arith;
            waiting = (ap (λ (v : Writer D F). v.waiting) counted ∙ ap (λ (v : Writer D F). v.waiting) made.2, ap (λ (v : Writer D F). v.room) counted ∙ ap (λ (v : Writer D F). v.room) made.2);
            pending = subst (λ (v : Writer D F). length (state v.token).pending ≤ length (state w.token).pending + 1) (sym counted) (done_pending h within o w w1 same_origin writing.first s s' rd (expected p plan) reply (Are p plan) plan opens key value done);
            items = subst (λ (v : Writer D F). MayAddRegion (counters_in h o) (h.place o.config.client) (unreturned (state w.token) w.waiting) (unreturned (state v.token) v.waiting)) (sym counted) (done_items h within o w w1 same_origin writing.first s s' rd (expected p plan) reply (Are p plan) plan opens key value done);
            root = subst (λ (v : Writer D F). (s'.root ≡ s.root) ⊎ AddsRegion (counters_in h o) (h.place o.config.client) (unreturned (state w.token) w.waiting) (unreturned (state v.token) v.waiting)) (sym counted) (done_root h within o w w1 same_origin writing.first s s' rd (expected p plan) reply (Are p plan) plan opens key value done);
            table_is = ap (λ (v : Writer D F). table_of v.token) counted ∙ ap (λ (v : Writer D F). table_of v.token) made.2;
            reply_is = reply_then ∙ (sym (ap (λ z. z.reply) answer_is) ∙ (sym (answers h within o w.token same_origin writing.part writing.first s rd.lists (opening_of opens)) ∙ ap (λ z. (step nat_cmp most (map_after (knows h o w.token).log) z.update).1) answer_is));
            log = ap (λ (v : Writer D F). (knows h o v.token).log) counted ∙ ((done_over h within o w w1 same_origin writing.first s s' rd (expected p plan) reply (Are p plan) plan opens key value done).at.log
                ∙ ap (λ z. (knows h o w.token).log ++ z ∷ []) (answer_is ∙ ap (λ (x : Reply). record { update = update; reply = x }) (sym reply_then)));
            steps = at_each (λ q z. (es : List Entry) × Makes l q (Are q z) z opens key value es × (w'.token ≡ adding w.token es)) plan planned
                (made.0, made.1, ap (λ (v : Writer D F). v.token) counted ∙ ap (λ (v : Writer D F). v.token) made.2);
            free = at_each (λ q z. IsRebuildDue l q z → HasNoneFree s.arena (needed_log l q) → ⊥) plan planned
                (λ due none. done_free h within o w w1 same_origin writing.first s s' rd (expected p plan) reply (Are p plan) plan opens key value done (λ ss are d. apart ss d are) due none);
            ready = subst (λ (v : Writer D F). Ready h o v s') (sym counted) (done_ready h within o w w1 same_origin writing.first s s' rd (expected p plan) reply (Are p plan) plan opens key value done);
          }

      pub settled : IsSettled opens update Are reply w1 s'
      settled = (calls_then.0, calls_then.1, answered)
