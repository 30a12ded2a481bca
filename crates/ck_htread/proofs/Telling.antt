-- What a look's caller may know: that a counter doesn't fall, and that its answers have places.
use Rattle.std.proofs.Common.{◌≡◌, ℕ, zero, suc, ◌+◌, ◌<◌, ◌≤◌, ◌⊎◌, inl, inr, Bool, true, false, cond, ◌&&◌, List, [], ◌∷◌, ◌++◌, append-nil, append_assoc, refl, sym, ap, ◌∙◌, subst, arith}
use Rattle.std.specs.Prelude.{Option, Some, None}
use mathlib.Core.Option.{some}
use lib.ListN.{get_elem?}
use Rattle.atomic_table.proofs.Lists.{at_longer}
use Rattle.ck_run.specs.declared.account.Step.TheVariants.{Load}
use Rattle.ck_run.specs.declared.account.Entry.{Entry}
use Rattle.ck_run.specs.Run.{account, further, words_after}
use Rattle.ck_run.specs.Machine.{state_after}
use Rattle.ck_run.specs.Tokens.{adding, did, number, origin}
use Rattle.ck_run.proofs.Runs.{split}
use Rattle.ck_run.proofs.Law.{state-append}
use Rattle.ck_epoch.specs.State.{Origin, Token}
use Rattle.ck_epoch.specs.Calls.{rec_of}
use Rattle.ck_epoch.specs.Ends.{IsDomainToken}
use Rattle.ck_htlaw.specs.Look.{LookState, checking_value, checking_absence}
use Rattle.ck_htlaw.specs.Table.{Layout, WriterState, ReaderState, LocalState, writer, reader, is_table_word, is_table_item, second, released, released_log}
use Rattle.ck_htlaw.specs.Actions.{action}
use Rattle.ck_htlaw.specs.Client.{Answers, answers_next, answers_after, looks_next, table_next, local_after, first_writer}
use Rattle.ck_htlaw.specs.Host.{Host, lies}
use Rattle.ck_htlaw.specs.Known.{knows}
use Rattle.ck_htlaw.specs.Law.{TableLaw, IsTableRun, local_in}
use Rattle.ck_htread.specs.Scan.{state_after_scan}
use Rattle.ck_htread.specs.Reading.{LookTotals, IsInState}
use Rattle.ck_htread.specs.Answered.{looks_in, HasPlace, PlacesLaw, HasAnswered}
use Rattle.ck_htlaw.proofs.Tokens.{local_after_all, is_inside}

one_of : (b : Bool) (p q : WriterState) → cond b (writer p) (writer q) ≡ writer (cond b p q)
one_of true p q = refl
one_of false p q = refl

-- the writer stays one
stays_writer : (l : Layout) (p : WriterState) (es : List Entry) → (q : WriterState) × (state_after (table_next l) (writer p) es ≡ writer q)
stays_writer l p [] = (p, refl)
stays_writer l p (e ∷ es) =
    let a : WriterState = record (second l e.opens p (action l p e) p.stage) { words = words_after p.words e.step } in
    let b : WriterState = record p { stage = cond (is_table_item l e.item) (released p.stage) p.stage; log = cond (is_table_item l e.item) (released_log p.stage p.log) p.log } in
    let h = stays_writer l (cond (is_table_word l e.step) a b) es in
    (h.0, ap (λ (x : LocalState). state_after (table_next l) x es) (one_of (is_table_word l e.step) a b) ∙ h.1)

-- so a token that is a reader's isn't the writer's
pub reads : (l : Layout) (words : List ℕ) (n : ℕ) (es : List Entry) (y : ReaderState) → local_after l words n es ≡ reader y → (r : ℕ) × (n ≡ suc r)
reads l words zero es y is = absurd (let w = stays_writer l (first_writer l words) es in let z : reader y ≡ writer w.0 = sym is ∙ w.1 in cc)
reads l words (suc r) es y is = (r, refl)

-- answers are only added
pub looks_more : (l : Layout) (a : Answers) (es : List Entry) → (more : List (ℕ × Option ℕ)) × ((state_after (answers_next l) a es).looks ≡ a.looks ++ more)
looks_more l a [] = ([], sym (append-nil a.looks))
looks_more l a (e ∷ es) = let h = looks_more l (answers_next l a e) es in (looks_next l a.local e ++ h.0, h.1 ∙ append_assoc a.looks (looks_next l a.local e) h.0)

module _ {D : Type 0} (host : Host D) (o : Origin D) where
  abbrev l : Layout
  l = lies host o

  -- the number of a token that reads is that of a record
  pub record_of : (t : Token D) (y : ReaderState) → (knows host o t).local ≡ reader y → (r : ℕ) × (number t ≡ suc r)
  record_of t y local = reads l o.words (number t) (did t) y (sym (local_after_all l (answers_after l o.words (number t) []) (did t)) ∙ local)

  -- the last load of a look doesn't find the counter below what the first one found
  pub risen : TableLaw host o → (t u : Token D) (root key c : ℕ) (found : Option ℕ) (totals : LookTotals) (word x : ℕ) → origin t ≡ o → IsDomainToken host.client u → u ≡ adding t (further (Load word x) ∷ [])
      → IsInState host o root (state_after_scan (l.order root) key c found) totals t → l.base ≤ word → word < l.base + l.size → c ≤ x
  risen law t u root key c found totals word x same run made at low high =
      let e : Entry = further (Load word x) in
      let y : ReaderState = record { root = root; look_state = state_after_scan (l.order root) key c found; retries = totals.retries } in
      let n = record_of t y at.local in
      let local_t : local_after l o.words (number t) (did t) ≡ reader y = sym (local_after_all l (answers_after l o.words (number t) []) (did t)) ∙ at.local in
      let v = subst (λ (w : Token D). IsDomainToken host.client w) made run in
      let m = split (number t) v.run (did t) e [] v.mine in
      let is_run : IsTableRun host o (m.past ++ (suc n.0, e) ∷ m.rest) = subst (λ (k : ℕ). IsTableRun host o (m.past ++ (k, e) ∷ m.rest)) n.1 (subst (λ (q : Origin D). IsTableRun host q (m.past ++ (number t, e) ∷ m.rest)) same (subst (IsTableRun host (origin t)) m.parts v.is_run)) in
      let local_r : local_in host o m.past (suc n.0) ≡ reader y = subst (λ (k : ℕ). local_after l o.words k (account k m.past) ≡ reader y) n.1 (ap (local_after l o.words (number t)) m.before ∙ local_t) in
      (law.again m.past m.rest n.0 e y word c x is_run (ap (λ (b : Bool). b && true) (is_inside l e.step low high)) refl local_r (by found refl)).1
    where
      by : (s : Option ℕ) → {h : LookState} → h ≡ state_after_scan (l.order root) key c s → ((k : ℕ) × (z : ℕ) × (h ≡ checking_value k c z)) ⊎ ((k : ℕ) × (h ≡ checking_absence k c))
      by (Some v) is = inl (key, v, is)
      by None is = inr (key, is)

  -- each answer has a place
  pub has_answered : PlacesLaw host o → (t : Token D) (y : ReaderState) → (knows host o t).local ≡ reader y → (i k : ℕ) (x : Option ℕ) → get_elem? (knows host o t).looks i ≡ some (k, x) → HasAnswered host o t i k x
  has_answered law t y local i k x at run more t_run mine =
      let n = record_of t y local in
      let r : ℕ = n.0 in
      let rec : r ≡ rec_of t = (let z = n.1 in omega arith) in
      let m = looks_more l (knows host o t) more in
      let all : (answers_after l o.words (number t) (account (number t) run)).looks ≡ (knows host o t).looks ++ m.0 =
      ap (λ (es : List Entry). (answers_after l o.words (number t) es).looks) mine ∙ (ap (λ (a : Answers). a.looks) (state-append (answers_next l) (answers_after l o.words (number t) []) (did t) more) ∙ m.1) in
      let found : get_elem? (looks_in host o run r) i ≡ some (k, x) = subst (λ (j : ℕ). get_elem? (answers_after l o.words j (account j run)).looks i ≡ some (k, x)) n.1
      (ap (λ (ls : List (ℕ × Option ℕ)). get_elem? ls i) all ∙ at_longer (knows host o t).looks m.0 i (k, x) at) in
      let p = law run r t_run in
      (p.0 i, subst (λ (s : ℕ). HasPlace host o run s i k x (p.0 i)) rec (p.1.are.moments i (k, x) found))
