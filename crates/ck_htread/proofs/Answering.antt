-- Each answered look of an account, by its number, is a look of the run.
use Rattle.std.proofs.Common.{◌≡◌, ◌≢◌, ℕ, suc, ◌⊎◌, ⊎_elim, inl, inr, Bool, true, false, not, cond, ◌==◌, ◌&&◌, List, [], ◌∷◌, ◌++◌, append-nil, refl, sym, ap, ◌∙◌}
use Rattle.std.specs.Prelude.{Option, Some, None}
use Rattle.std.proofs.lemmas.List.{append_cancel_left}
use mathlib.Core.Option.{some}
use lib.ListN.{get_elem?}
use Rattle.ck_run.specs.declared.account.Step.{Step}
use Rattle.ck_run.specs.declared.account.Step.TheVariants.{Load}
use Rattle.ck_run.specs.declared.account.Entry.{Entry}
use Rattle.ck_run.specs.Run.{Run, account}
use Rattle.ck_run.specs.Machine.{state_after}
use Rattle.ck_run.proofs.Runs.{account_here, account_else}
use Rattle.ck_run.proofs.Law.{state-append}
use Rattle.ck_epoch.specs.State.{Origin}
use Rattle.ck_events.specs.Answered.{IsAnsweredCall}
use Rattle.ck_events.proofs.Calls.{AddsAnswer, answered_call}
use Rattle.ck_htlaw.specs.Calls.{key_of, is_single_load}
use Rattle.ck_htlaw.specs.Look.{LookState, no_look, checking_value, checking_absence}
use Rattle.ck_htlaw.specs.Table.{Layout, ReaderState, LocalState, writer, reader, is_table_word, is_section, after_own, after_other, after_look_step}
use Rattle.ck_htlaw.specs.Actions.{action}
use Rattle.ck_htlaw.specs.Client.{Answers, answers_next, answers_after, start, table_next, look_ends, looks_next, first_reader}
use Rattle.ck_htlaw.specs.Host.{Host, lies}
use Rattle.ck_htlaw.specs.Law.{local_in, look_state_of, until}
use Rattle.ck_htlaw.proofs.Reclaim.{is_out}
use Rattle.ck_htlaw.proofs.Tokens.{local_after_all}
use Rattle.ck_htread.specs.Answered.{looks_in, IsOut, IsAnsweredLook}

either : (b : Bool) (y z : ReaderState) → cond b (reader y) (reader z) ≡ reader (cond b y z)
either true y z = refl
either false y z = refl

-- a reader stays one
pub stays_reader : (l : Layout) (y : ReaderState) (es : List Entry) → (z : ReaderState) × (state_after (table_next l) (reader y) es ≡ reader z)
stays_reader l y [] = (y, refl)
stays_reader l y (e ∷ es) =
    let is = either (is_table_word l e.step) (cond (is_single_load e.opens) y (after_look_step l y (key_of e.opens) y.look_state e.step)) (record y { look_state = cond (is_section l e.step) no_look y.look_state }) in
    let h = stays_reader l (cond (is_table_word l e.step) (cond (is_single_load e.opens) y (after_look_step l y (key_of e.opens) y.look_state e.step)) (record y { look_state = cond (is_section l e.step) no_look y.look_state })) es in
    (h.0, ap (λ (x : LocalState). state_after (table_next l) x es) is ∙ h.1)

-- what a step adds to the answers: one, where the look ends by it, or none
ends_or_not : (look_state : LookState) (s : Step) → (look_ends look_state s ≡ []) ⊎ ((k : ℕ) × (x : Option ℕ) × (look_ends look_state s ≡ (k, x) ∷ []) × (look_state ≡ no_look → ⊥))
ends_or_not (checking_value k c x) (Load a n) = by (c == n)
  where
    by : (b : Bool) → (cond {A = List (ℕ × Option ℕ)} b ((k, Some x) ∷ []) [] ≡ []) ⊎ ((j : ℕ) × (y : Option ℕ) × (cond {A = List (ℕ × Option ℕ)} b ((k, Some x) ∷ []) [] ≡ (j, y) ∷ []) × (checking_value k c x ≡ no_look → ⊥))
    by true = inr (k, Some x, refl, λ z. cc)
    by false = inl refl
ends_or_not (checking_absence k c) (Load a n) = by (c == n)
  where
    by : (b : Bool) → (cond {A = List (ℕ × Option ℕ)} b ((k, None) ∷ []) [] ≡ []) ⊎ ((j : ℕ) × (y : Option ℕ) × (cond {A = List (ℕ × Option ℕ)} b ((k, None) ∷ []) [] ≡ (j, y) ∷ []) × (checking_absence k c ≡ no_look → ⊥))
    by true = inr (k, None, refl, λ z. cc)
    by false = inl refl
ends_or_not look_state s = inl refl

-- the same of a token's step
pub answers_or_not : (l : Layout) (h : LocalState) (e : Entry) → (looks_next l h e ≡ []) ⊎ ((k : ℕ) × (x : Option ℕ) × (looks_next l h e ≡ (k, x) ∷ []) × (look_state_of h ≡ no_look → ⊥))
answers_or_not l (writer p) e = inl refl
answers_or_not l (reader y) e = by (is_table_word l e.step && cond (is_single_load e.opens) false true)
  where
    by : (b : Bool) → (cond b (look_ends y.look_state e.step) [] ≡ []) ⊎ ((k : ℕ) × (x : Option ℕ) × (cond b (look_ends y.look_state e.step) [] ≡ (k, x) ∷ []) × (y.look_state ≡ no_look → ⊥))
    by false = inl refl
    by true = ends_or_not y.look_state e.step

-- and then the reader is between two looks
ends_out : (l : Layout) (y : ReaderState) (key : ℕ) (look_state : LookState) (s : Step) (k : ℕ) (x : Option ℕ) → look_ends look_state s ≡ (k, x) ∷ [] → (after_look_step l y key look_state s).look_state ≡ no_look
ends_out l y key (checking_value j c z) (Load a n) k x e = refl
ends_out l y key (checking_absence j c) (Load a n) k x e = refl
ends_out l y key look_state s k x e = absurd cc

pub not_lone : (b : Bool) → cond b false true ≡ not b
not_lone true = refl
not_lone false = refl

module _ {D : Type 0} (host : Host D) (origin : Origin D) (r : ℕ) where
  abbrev l : Layout
  l = lies host origin

  abbrev local : Run → LocalState
  local run = local_in host origin run (suc r)

  abbrev looks : Run → List (ℕ × Option ℕ)
  looks run = looks_in host origin run r

  reader_of : (run : Run) → (y : ReaderState) × (local run ≡ reader y)
  reader_of run = stays_reader l first_reader (account (suc r) run)

  local_else : (past : Run) (n : ℕ) (e : Entry) → n ≢ suc r → local (past ++ (n, e) ∷ []) ≡ local past
  local_else past n e h = ap (λ (es : List Entry). state_after (table_next l) (start l origin.words (suc r)) es) (account_else past n (suc r) e h)

  local_here : (past : Run) (e : Entry) → local (past ++ (suc r, e) ∷ []) ≡ table_next l (local past) e
  local_here past e = ap (λ (es : List Entry). state_after (table_next l) (start l origin.words (suc r)) es) (account_here past (suc r) (suc r) e refl) ∙ state-append (table_next l) (start l origin.words (suc r)) (account (suc r) past) (e ∷ [])

  looks_else : (past : Run) (n : ℕ) (e : Entry) → n ≢ suc r → looks (past ++ (n, e) ∷ []) ≡ looks past
  looks_else past n e h = ap (λ (es : List Entry). (answers_after l origin.words (suc r) es).looks) (account_else past n (suc r) e h)

  looks_here : (past : Run) (e : Entry) → looks (past ++ (suc r, e) ∷ []) ≡ looks past ++ looks_next l (local past) e
  looks_here past e = ap (λ (es : List Entry). (answers_after l origin.words (suc r) es).looks) (account_here past (suc r) (suc r) e refl)
      ∙ (ap (λ (a : Answers). a.looks) (state-append (answers_next l) (answers_after l origin.words (suc r) []) (account (suc r) past) (e ∷ []))
      ∙ ap (λ (h : LocalState). looks past ++ looks_next l h e) (local_after_all l (answers_after l origin.words (suc r) []) (account (suc r) past)))

  -- a step of a look that isn't one load by itself
  abbrev is_look : Entry → Bool
  is_look e = is_table_word l e.step && cond (is_single_load e.opens) false true

  parts : (a b : Bool) → (a && cond b false true) ≡ true → (a ≡ true) × (b ≡ false)
  parts true false e = (refl, refl)
  parts true true e = absurd cc
  parts false b e = absurd cc

  -- what the reader's own step adds
  looks_are : (past : Run) (e : Entry) → looks (past ++ (suc r, e) ∷ []) ≡ looks past ++ cond (is_look e) (look_ends (look_state_of (local past)) e.step) []
  looks_are past e = looks_here past e ∙ (ap (λ (h : LocalState). looks past ++ looks_next l h e) (reader_of past).1 ∙ ap (λ (h : LocalState). looks past ++ cond (is_look e) (look_ends (look_state_of h) e.step) []) (sym (reader_of past).1))

  by_itself : (past : Run) (e : Entry) → AddsAnswer (suc r) (IsOut host origin r) looks past e
  by_itself past e = by (is_look e) refl
    where
      state : LookState
      state = look_state_of (local past)

      none : cond (is_look e) (look_ends state e.step) [] ≡ [] → looks (past ++ (suc r, e) ∷ []) ≡ looks past
      none is = looks_are past e ∙ (ap (λ (ls : List (ℕ × Option ℕ)). looks past ++ ls) is ∙ append-nil (looks past))

      out_now : is_look e ≡ true → (k : ℕ) (x : Option ℕ) → look_ends state e.step ≡ (k, x) ∷ [] → IsOut host origin r (past ++ (suc r, e) ∷ [])
      out_now look k x ends =
          let y = (reader_of past).0 in let p = parts (is_table_word l e.step) (is_single_load e.opens) look in
          let ends_y : look_ends y.look_state e.step ≡ (k, x) ∷ [] = ap (λ (h : LocalState). look_ends (look_state_of h) e.step) (sym (reader_of past).1) ∙ ends in
          ap look_state_of (local_here past e ∙ (ap (λ (h : LocalState). table_next l h e) (reader_of past).1
          ∙ (ap (λ (b : Bool). cond b (after_own l (action l) key_of (reader y) e) (after_other l (reader y) e)) p.0
          ∙ ap (λ (b : Bool). reader (cond b y (after_look_step l y (key_of e.opens) y.look_state e.step))) p.1)))
          ∙ ends_out l y (key_of e.opens) y.look_state e.step k x ends_y

      by : (b : Bool) → is_look e ≡ b → AddsAnswer (suc r) (IsOut host origin r) looks past e
      by false is = inl (none (ap (λ (b : Bool). cond b (look_ends state e.step) []) is))
      by true is = ⊎_elim
          (λ (empty : look_ends state e.step ≡ []). inl (none (ap (λ (b : Bool). cond b (look_ends state e.step) []) is ∙ empty)))
          (λ one. inr ((one.0, one.1), looks_are past e ∙ ap (λ (ls : List (ℕ × Option ℕ)). looks past ++ ls) (ap (λ (b : Bool). cond b (look_ends state e.step) []) is ∙ one.2), out_now is one.0 one.1 one.2, one.3))
          (ends_or_not state e.step)

  -- what the last step of a look adds
  last_adds : (past : Run) (e : Entry) (answer : ℕ × Option ℕ) → looks (past ++ (suc r, e) ∷ []) ≡ looks past ++ answer ∷ [] → (is_look e ≡ true) × (look_ends (look_state_of (local past)) e.step ≡ answer ∷ [])
  last_adds past e answer adds = by (is_look e) refl
    where
      same : cond (is_look e) (look_ends (look_state_of (local past)) e.step) [] ≡ answer ∷ []
      same = append_cancel_left (looks past) (cond (is_look e) (look_ends (look_state_of (local past)) e.step) []) (answer ∷ []) (sym (looks_are past e) ∙ adds)

      by : (b : Bool) → is_look e ≡ b → (is_look e ≡ true) × (look_ends (look_state_of (local past)) e.step ≡ answer ∷ [])
      by true is = (is, sym (ap (λ (b : Bool). cond b (look_ends (look_state_of (local past)) e.step) []) is) ∙ same)
      by false is = absurd (let z : [] ≡ answer ∷ [] = sym (ap (λ (b : Bool). cond b (look_ends (look_state_of (local past)) e.step) []) is) ∙ same in cc)

  -- the answer with the number i
  pub answered_look : (run : Run) (i k : ℕ) (x : Option ℕ) → get_elem? (looks_in host origin run r) i ≡ some (k, x) → IsAnsweredLook host origin run r i k x
  answered_look run i k x at =
      let h : IsAnsweredCall (suc r) (IsOut host origin r) looks run i (k, x) = answered_call (suc r) (IsOut host origin r) looks (λ past. is_out (look_state_of (local past))) refl refl
      (λ past n e other. (λ z. ap look_state_of (local_else past n e other) ∙ z, looks_else past n e other)) by_itself run i (k, x) at in
      let last = last_adds (until h.past r h.first h.between) h.last (k, x) h.ends in
      record {
        call = h;
        look = record { starts = h.starts; goes = h.goes; last = ap (λ (b : Bool). is_table_word l h.last.step && b) (sym (not_lone (is_single_load h.last.opens))) ∙ last.0 };
        answers = last.1;
      }
