-- Steps elsewhere leave a table's writer and its lists where they stand.
use Rattle.std.proofs.Common.{◌≡◌, ◌≤◌, false, List, [], ◌∷◌, length, refl, sym, ap, ◌∙◌, subst, arith}
use Rattle.ck_run.specs.declared.account.Entry.{Entry}
use Rattle.ck_run.specs.Machine.{state_after}
use Rattle.ck_run.specs.Tokens.{adding, did, number}
use Rattle.ck_run.proofs.Law.{state-append}
use Rattle.ck_words.specs.Buddies.{Arena}
use Rattle.ck_epoch.specs.State.{Origin, state}
use Rattle.ck_epoch.specs.Calls.{SameItemsAndEpoch}
use Rattle.ck_epoch.specs.Ends.{Writer}
use Rattle.ck_htlaw.specs.Client.{Answers, answers_after, answers_next}
use Rattle.ck_htlaw.specs.Host.{Host, lies}
use Rattle.ck_htlaw.specs.Known.{knows}
use Rattle.ck_htlaw.specs.Table.{Layout, WriterState, writer, is_table_word}
use Rattle.ck_htwrite.specs.declared.state.HtState.{HtState}
use Rattle.ck_arena.specs.Arena.{unreturned}
use Rattle.ck_htwrite.specs.Arena.{IsKept}
use Rattle.ck_htwrite.specs.State.{Ready}
use Rattle.ck_htwrite.specs.Writes.{counters_in}
use Rattle.ck_htwrite.proofs.Rebuilding.{with_arena}
use Rattle.ck_ht.proofs.Elsewhere.{AreElsewhere, writer_still}

module _ {D : Type 0} (host : Host D) (o : Origin D) where
  abbrev l : Layout
  l = lies host o

  stays : (a : Answers) (p : WriterState) (es : List Entry) → a.local ≡ writer p → AreElsewhere l es → ((state_after (answers_next l) a es).local ≡ writer p) × ((state_after (answers_next l) a es).log ≡ a.log)
  stays a p [] local off = (local, refl)
  stays a p (e ∷ es) local off =
      let now = writer_still l a p e local off.0 off.1 in
      let h = stays (answers_next l a e) p es now.0 off.2 in
      (h.0, h.1 ∙ now.1)

  -- where the arena may be another one by then
  pub ready_outside : {F : Type 0} (w v : Writer D F) (s : HtState) (a : Arena) (es : List Entry) → Ready host o w s → v.token ≡ adding w.token es → AreElsewhere l es → v.tally ≡ w.tally → w.calls ≤ v.calls
      → IsKept (counters_in host o) (host.place o.config.client) s.root (unreturned (state v.token) v.waiting) a → Ready host o v (record s { arena = a }) × ((knows host o v.token).log ≡ (knows host o w.token).log) × ((knows host o v.token).local ≡ (knows host o w.token).local)
  ready_outside w v s a es r made off tally calls kept =
      let after : knows host o v.token ≡ state_after (answers_next l) (knows host o w.token) es = ap (knows host o) made ∙ state-append (answers_next l) (answers_after l o.words (number w.token) []) (did w.token) es in
      let h = stays (knows host o w.token) r.lists.is_writer es r.lists.is off in
      let log = ap (λ (x : Answers). x.log) after ∙ h.1 in let local = ap (λ (x : Answers). x.local) after ∙ h.0 in (
        record {
          lists = record { is_writer = r.lists.is_writer; is = local; idles = r.lists.idles; reflects = with_arena (counters_in host o) l r.lists.is_writer s (record s { arena = a }) refl r.lists.reflects };
          arena = kept;
          tally = tally ∙ (r.tally ∙ sym (ap length log));
          few = (let f = r.few in omega arith);
        },
        log,
        local ∙ sym r.lists.is,
      )

  -- one step that retires and dispatches nothing
  pub items_beside : {F : Type 0} (w v : Writer D F) (e : Entry) → v ≡ record w { token = adding w.token (e ∷ []) } → SameItemsAndEpoch w.token v.token → unreturned (state w.token) w.waiting ≡ unreturned (state v.token) v.waiting
  items_beside {F} w v e made same i = unreturned (record (state v.token) { pending = sym same.0 i; dispatched = sym same.1 i }) (sym (ap (λ (x : Writer D F). x.waiting) made) i)

  pub ready_beside : {F : Type 0} (w v : Writer D F) (s : HtState) (e : Entry) → Ready host o w s → v ≡ record w { token = adding w.token (e ∷ []) } → is_table_word l e.step ≡ false → e.item ≡ [] → SameItemsAndEpoch w.token v.token
      → Ready host o v s × ((knows host o v.token).log ≡ (knows host o w.token).log) × ((knows host o v.token).local ≡ (knows host o w.token).local)
  ready_beside {F} w v s e r made off none same =
      ready_outside w v s s.arena (e ∷ []) r (ap (λ (x : Writer D F). x.token) made) (off, none, tt) (ap (λ (x : Writer D F). x.tally) made) (let c = ap (λ (x : Writer D F). x.calls) made in omega arith)
      (subst (λ ks. IsKept (counters_in host o) (host.place o.config.client) s.root ks s.arena) (items_beside w v e made same) r.arena)
