-- A step of the writer on the table's words: that the table allows it, and where it leaves the writer.
use Rattle.std.proofs.Common.{◌≡◌, ℕ, suc, nat_lt, ◌+◌, ◌-◌, ◌<◌, ◌≤◌, le_refl, Bool, true, false, cond, inl, List, [], ◌∷◌, ◌++◌, append-nil, sym, ap, ◌∙◌, subst, arith}
use Rattle.std.proofs.lemmas.Bool.Decides.{nat_tests}
use Rattle.ck_run.specs.declared.account.Entry.{Entry}
use Rattle.ck_run.specs.declared.account.Account.{Account}
use Rattle.ck_run.specs.Rule.{unused}
use Rattle.ck_run.specs.Range.{word_of}
use Rattle.ck_run.specs.Machine.{state_after, grow}
use Rattle.ck_run.specs.Tokens.{did, number, origin}
use Rattle.ck_run.proofs.Law.{obeys_append}
use Rattle.ck_run.proofs.Accounts.{account_grown}
use Rattle.ck_run.proofs.Moments.{part_follows}
use Rattle.ck_history.specs.declared.log.LogEntry.{LogEntry}
use Rattle.ck_epoch.specs.State.{Origin, Token, base_of, state_at}
use Rattle.ck_epoch.specs.Client.{program}
use Rattle.ck_epoch.specs.Ends.{IsDomainToken}
use Rattle.ck_epoch.specs.Calls.{MayFollow}
use Rattle.ck_epoch.specs.Within.{IsWithin}
use Rattle.ck_htlaw.specs.Host.{Host, first, inner, lies}
use Rattle.ck_htlaw.specs.Calls.{key_of}
use Rattle.ck_htlaw.specs.Actions.{action}
use Rattle.ck_htlaw.specs.Invariant.{IsTaking}
use Rattle.ck_htlaw.specs.Layout.{IsFreeRegion}
use Rattle.ck_htlaw.specs.Table.{Layout, WriterState, LocalState, writer, is_table_word, after_own, after_other, MayIf}
use Rattle.ck_htlaw.specs.Client.{Answers, logged, due_at, due_next, answers_next, start, table_next, table_may, local_after, TakesFree, table}
use Rattle.ck_htlaw.proofs.Tokens.{local_after_all, is_inside}
use Rattle.ck_htwrite.specs.Writes.{counters_in, MayStep, WriterAt, writer_after}

module _ {D : Type 0} (h : Host D) (o : Origin D) where
  abbrev l : Layout
  l = lies h o

  pub may_step : IsWithin table h.client h.place h.part → (t : Token D) → origin t ≡ o → IsDomainToken h.client t → (e : Entry) → MayStep h o t e → l.base ≤ word_of e.step → word_of e.step < l.base + l.size → MayFollow h.client t e
  may_step within t same run e d low high =
      let p : WriterState = d.0 in let is = d.1 in let due = d.2 in
      let f : h.client.follows (base_of o) o (number t) (did t) = subst (λ (q : Origin D). h.client.follows (base_of q) q (number t) (did t)) same (part_follows (program h.client) (origin t) t.view.own run).3 in
      let g : table.follows (first h o) (inner h o) (number t) (did t) = within.shows (base_of o) o (number t) (did t) f in
      let at : local_after l o.words (number t) (did t) ≡ writer p = sym (local_after_all l _ (did t)) ∙ is in
      let may : table_may l (local_after l o.words (number t) (did t)) e = subst (λ (a : LocalState). MayIf l (action l) key_of (is_table_word l e.step) a e) (sym at)
      (subst (λ (b : Bool). MayIf l (action l) key_of b (writer p) e) (sym (is_inside l e.step low high)) (due.may, due.goes)) in
      let from : h.place o.config.client ≡ first h o - base_of o = omega arith in
      let takes : TakesFree (first h o) (inner h o) (state_after grow (unused (number t)) (did t)) e = subst (λ (a : Account). TakesFree (first h o) (inner h o) a e) (sym (account_grown (unused (number t)) (did t)))
      (λ q root is_q own taking. let z : writer q ≡ writer p = sym is_q ∙ at in let same_state : q ≡ p = cc in
      subst (λ (r : WriterState). IsFreeRegion (counters_in h o) (first h o - base_of o) r.root root (state_at (inner h o) (number t) (did t)).pending) (sym same_state)
      (subst (λ (k : ℕ). IsFreeRegion (counters_in h o) k p.root root (state_at (inner h o) (number t) (did t)).pending) from
      (subst (λ (q : Origin D). IsFreeRegion (counters_in h o) (h.place o.config.client) p.root root (state_at q (number t) (did t)).pending) same
      (due.takes root (subst (λ (r : WriterState). IsTaking (action l r e) r.stage root) same_state taking))))) in
      subst (λ (q : Origin D). h.client.follows (base_of q) q (number t) (did t ++ e ∷ [])) (sym same)
      (within.lifts (base_of o) o (number t) (did t) e (le_refl (base_of o)) f (inl (low, high)) (
        obeys_append (table_next l) (table_may l) (start l o.words (number t)) (did t) (e ∷ []) g.0 (may, tt),
        obeys_append grow (TakesFree (first h o) (inner h o)) (unused (number t)) (did t) (e ∷ []) g.1 (takes, tt),
      ))

module _ (l : Layout) where
  -- the writer after a step
  pub goes : (a : Answers) (p q : WriterState) (d d' : LogEntry ℕ) (log : List (LogEntry ℕ)) (e : Entry) → WriterAt a p d log → is_table_word l e.step ≡ true → writer_after l p e ≡ q → due_at l p p.stage e d ≡ d'
      → WriterAt (answers_next l a e) q d' (log ++ cond (nat_lt p.log q.log) (d' ∷ []) [])
  goes a p q d d' log e at own next due =
      let local : table_next l a.local e ≡ writer q = ap (λ (h : LocalState). table_next l h e) at.local ∙ (ap (λ (b : Bool). cond b (after_own l (action l) key_of (writer p) e) (after_other l (writer p) e)) own ∙ ap writer next) in
      let is_due : due_next l a.local e a.due ≡ d' = (λ i. due_next l (at.local i) e (at.answer i)) ∙ due in
      record {
        local = local;
        answer = is_due;
        log = λ i. at.log i ++ cond (nat_lt (logged (at.local i)) (logged (local i))) (is_due i ∷ []) [];
      }

  pub not_less : (n : ℕ) → nat_lt n n ≡ false
  not_less n = grind (arith, nat_tests)

  pub one_less : (n : ℕ) → nat_lt n (suc n) ≡ true
  one_less n = grind (arith, nat_tests)

  -- the call isn't answered yet
  pub goes_on : (a : Answers) (p q : WriterState) (d d' : LogEntry ℕ) (log : List (LogEntry ℕ)) (e : Entry) → WriterAt a p d log → is_table_word l e.step ≡ true → writer_after l p e ≡ q → due_at l p p.stage e d ≡ d' → q.log ≡ p.log → WriterAt (answers_next l a e) q d' log
  goes_on a p q d d' log e at own next due same =
      subst (λ (x : List (LogEntry ℕ)). WriterAt (answers_next l a e) q d' x) (ap (λ (n : ℕ). log ++ cond (nat_lt p.log n) (d' ∷ []) []) same ∙ (ap (λ (b : Bool). log ++ cond b (d' ∷ []) []) (not_less p.log) ∙ append-nil log)) (goes a p q d d' log e at own next due)

  -- it is
  pub goes_over : (a : Answers) (p q : WriterState) (d d' : LogEntry ℕ) (log : List (LogEntry ℕ)) (e : Entry) → WriterAt a p d log → is_table_word l e.step ≡ true → writer_after l p e ≡ q → due_at l p p.stage e d ≡ d' → q.log ≡ suc p.log → WriterAt (answers_next l a e) q d' (log ++ d' ∷ [])
  goes_over a p q d d' log e at own next due more =
      subst (λ (x : List (LogEntry ℕ)). WriterAt (answers_next l a e) q d' x) (ap (λ (n : ℕ). log ++ cond (nat_lt p.log n) (d' ∷ []) []) more ∙ ap (λ (b : Bool). log ++ cond b (d' ∷ []) []) (one_less p.log)) (goes a p q d d' log e at own next due)
