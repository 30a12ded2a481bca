-- The step by which a replaced region is retired.
use Rattle.std.proofs.Common.{◌≡◌, ℕ, nat_lt, nat_le, ◌+◌, ◌-◌, ◌/◌, ◌%◌, ◌<◌, ◌≤◌, le_refl, Bool, true, false, cond, ◌&&◌, inr, List, [], ◌∷◌, ◌++◌, refl, sym, ap, ◌∙◌, subst, arith}
use Rattle.std.proofs.lemmas.Nat.{pow_pos}
use Rattle.std.proofs.lemmas.Bool.Decides.{nat_tests}
use Rattle.ck_run.specs.declared.account.Step.TheVariants.{Load}
use Rattle.ck_run.specs.declared.account.Entry.{Entry}
use Rattle.ck_run.specs.Run.{handing}
use Rattle.ck_run.specs.Rule.{unused}
use Rattle.ck_run.specs.Machine.{state_after, grow}
use Rattle.ck_run.specs.Tokens.{did, number, origin}
use Rattle.ck_run.proofs.Law.{obeys_append}
use Rattle.ck_run.proofs.Moments.{part_follows}
use Rattle.ck_history.specs.declared.log.LogEntry.{LogEntry}
use Rattle.ck_epoch.specs.State.{Origin, Token, base_of}
use Rattle.ck_epoch.specs.Client.{program}
use Rattle.ck_epoch.specs.Ends.{IsDomainToken}
use Rattle.ck_epoch.specs.Calls.{MayFollow}
use Rattle.ck_epoch.specs.Within.{IsWithin}
use Rattle.ck_htlaw.specs.declared.client.HtClient.{HtClient}
use Rattle.ck_htlaw.specs.Host.{Host, first, inner, lies}
use Rattle.ck_htlaw.specs.Calls.{key_of}
use Rattle.ck_htlaw.specs.Stages.{Stage, retiring, retiring_at_end}
use Rattle.ck_htlaw.specs.Actions.{action}
use Rattle.ck_htlaw.specs.Regions.{IsReplaced}
use Rattle.ck_htlaw.specs.Layout.{arena, table_words, counters_of, at_of, log_of}
use Rattle.ck_htlaw.specs.Known.{IsRoot}
use Rattle.ck_htlaw.specs.Table.{Layout, WriterState, LocalState, writer, is_table_word, is_table_item, after_own, after_other, MayIf, MayOtherIf, MayRetire, released, released_log}
use Rattle.ck_htlaw.specs.Client.{Answers, logged, due_at, due_next, answers_next, start, table_next, table_may, local_after, TakesFree, is_region, table}
use Rattle.ck_htlaw.proofs.Tokens.{local_after_all}
use Rattle.ck_htwrite.specs.Writes.{counters_in, WriterAt, WriterIs}

may_retire : (l : Layout) (g : Stage) (root : ℕ) → IsReplaced g root → MayRetire l g (l.item root)
may_retire l (retiring old call) root e = ap l.item e
may_retire l (retiring_at_end old) root e = ap l.item e
may_retire l g root e = absurd e

due_stays : (l : Layout) (p : WriterState) (g : Stage) (root : ℕ) (e : Entry) (d : LogEntry ℕ) → IsReplaced g root → due_at l p g e d ≡ d
due_stays l p (retiring old call) root e d h = refl
due_stays l p (retiring_at_end old) root e d h = refl
due_stays l p g root e d h = absurd h

not_own : (l : Layout) (n : ℕ) → 0 < l.base → is_table_word l (Load 0 n) ≡ false
not_own l n h = grind (arith, nat_tests)

mine : (l : Layout) (at log : ℕ) → l.base ≤ l.floor + at → l.floor + at < l.base + l.size → is_table_item l (at ∷ log ∷ []) ≡ true
mine l at log low high = grind (arith, nat_tests)

pub is_item : (client : HtClient) (root : ℕ) → IsRoot (counters_of client) root → is_region client (record { at = root / 32; log = log_of root + 2 }) ≡ true
is_item client root ok = let a = ok.piece.low in let b = ok.piece.high in let c = pow_pos (log_of root) in both (arena (counters_of client)) (table_words (counters_of client)) (root / 32) a (omega arith)
  where
    both : (low high n : ℕ) → low ≤ n → n < high → nat_le low n && nat_lt n high ≡ true
    both low high n a b = grind (arith, nat_tests)

module _ {D : Type 0} (h : Host D) (o : Origin D) (root : ℕ) (ok : IsRoot (counters_in h o) root) where
  abbrev l : Layout
  l = lies h o

  abbrev pub retires_by : ℕ → Entry
  retires_by n = handing [] (l.item root) (Load 0 n)

  some_floor : 0 < base_of o
  some_floor = omega arith

  off : (n : ℕ) → is_table_word l (retires_by n).step ≡ false
  off n = not_own l n (let z = some_floor in omega arith)

  is_mine : is_table_item l (l.item root) ≡ true
  is_mine = let a = ok.piece.low in let b = ok.piece.high in let c = pow_pos (log_of root) in
      mine l (first h o - base_of o + at_of root) (log_of root + 2) (omega arith) (omega arith)

  pub may_item : IsWithin table h.client h.place h.part → (t : Token D) → origin t ≡ o → IsDomainToken h.client t → (p : WriterState) → WriterIs h o t p → IsReplaced p.stage root → (n : ℕ) → MayFollow h.client t (retires_by n)
  may_item within t same run p is replaced n =
      let f : h.client.follows (base_of o) o (number t) (did t) = subst (λ (q : Origin D). h.client.follows (base_of q) q (number t) (did t)) same (part_follows (program h.client) (origin t) t.view.own run).3 in
      let g : table.follows (first h o) (inner h o) (number t) (did t) = within.shows (base_of o) o (number t) (did t) f in
      let at : local_after l o.words (number t) (did t) ≡ writer p = sym (local_after_all l _ (did t)) ∙ is in
      let may : table_may l (local_after l o.words (number t) (did t)) (retires_by n) = subst (λ (a : LocalState). MayIf l (action l) key_of (is_table_word l (retires_by n).step) a (retires_by n)) (sym at)
      (subst (λ (b : Bool). MayIf l (action l) key_of b (writer p) (retires_by n)) (sym (off n)) (subst (λ (b : Bool). MayOtherIf l b p.stage (retires_by n)) (sym is_mine) (may_retire l p.stage root replaced, refl))) in
      let takes : TakesFree (first h o) (inner h o) (state_after grow (unused (number t)) (did t)) (retires_by n) = (λ q r is own taking. absurd (let z : true ≡ false = sym own ∙ off n in cc)) in
      let a = ok.piece.low in let b = ok.piece.high in let c = pow_pos (log_of root) in
      subst (λ (q : Origin D). h.client.follows (base_of q) q (number t) (did t ++ retires_by n ∷ [])) (sym same)
      (within.lifts (base_of o) o (number t) (did t) (retires_by n) (le_refl (base_of o)) f (inr (first h o - base_of o + at_of root, log_of root + 2, refl, some_floor, omega arith, omega arith)) (
        obeys_append (table_next l) (table_may l) (start l o.words (number t)) (did t) (retires_by n ∷ []) g.0 (may, tt),
        obeys_append grow (TakesFree (first h o) (inner h o)) (unused (number t)) (did t) (retires_by n ∷ []) g.1 (takes, tt),
      ))

  -- the writer after it
  pub retired_at : (a : Answers) (p : WriterState) (d : LogEntry ℕ) (told : List (LogEntry ℕ)) (n : ℕ) → WriterAt a p d told → IsReplaced p.stage root
      → WriterAt (answers_next l a (retires_by n)) (record p { stage = released p.stage; log = released_log p.stage p.log }) d (told ++ cond (nat_lt p.log (released_log p.stage p.log)) (d ∷ []) [])
  retired_at a p d told n at replaced =
      let q : WriterState = record p { stage = released p.stage; log = released_log p.stage p.log } in
      let local : table_next l a.local (retires_by n) ≡ writer q = ap (λ (x : LocalState). table_next l x (retires_by n)) at.local ∙ (ap (λ (b : Bool). cond b (after_own l (action l) key_of (writer p) (retires_by n)) (after_other l (writer p) (retires_by n))) (off n)
      ∙ ap (λ (b : Bool). writer (record p { stage = cond b (released p.stage) p.stage; log = cond b (released_log p.stage p.log) p.log })) is_mine) in
      let is_due : due_next l a.local (retires_by n) a.due ≡ d = (λ i. due_next l (at.local i) (retires_by n) (at.answer i)) ∙ due_stays l p p.stage root (retires_by n) d replaced in
      record {
        local = local;
        answer = is_due;
        log = λ i. at.log i ++ cond (nat_lt (logged (at.local i)) (logged (local i))) (is_due i ∷ []) [];
      }

  -- the item, as the code names it
  pub item_is : ((h.place o.config.client + root / 32) ∷ (root % 32 + 2) ∷ []) ≡ l.item root
  item_is = ap (λ (k : ℕ). k ∷ (log_of root + 2) ∷ []) (let z : h.place o.config.client + root / 32 ≡ first h o - base_of o + at_of root = omega arith in z)
