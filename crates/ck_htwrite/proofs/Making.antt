-- Several steps of the writer, one after the other.
use Rattle.std.proofs.Common.{◌≡◌, Bool, true, cond, List, [], ◌∷◌, ◌++◌, ap, ◌∙◌}
use Rattle.ck_run.specs.declared.account.Entry.{Entry}
use Rattle.ck_run.specs.Machine.{state_after}
use Rattle.ck_run.specs.Tokens.{adding, did}
use Rattle.ck_run.proofs.Law.{state-append}
use Rattle.ck_run.proofs.Moments.{adding-append}
use Rattle.ck_epoch.specs.State.{Origin, Token, state}
use Rattle.ck_epoch.specs.Ends.{Writer, IsDomainToken}
use Rattle.ck_htlaw.specs.Host.{Host, lies}
use Rattle.ck_htlaw.specs.Calls.{key_of}
use Rattle.ck_htlaw.specs.Actions.{action}
use Rattle.ck_htlaw.specs.Table.{Layout, WriterState, LocalState, writer, is_table_word, after_own, after_other}
use Rattle.ck_htlaw.specs.Client.{Answers, answers_next, table_next}
use Rattle.ck_htlaw.specs.Known.{knows}
use Rattle.ck_htwrite.specs.Writes.{CanMake, MayMake, MayStep, Steps, writer_after}

-- where the writer is after a step on the table's words
pub own_next : (l : Layout) (p : WriterState) (e : Entry) → is_table_word l e.step ≡ true → table_next l (writer p) e ≡ writer (writer_after l p e)
own_next l p e own = ap (λ (b : Bool). cond b (after_own l (action l) key_of (writer p) e) (after_other l (writer p) e)) own

module _ {D : Type 0} (h : Host D) (o : Origin D) where
  abbrev l : Layout
  l = lies h o

  -- the first of steps that may be made, and those that are left then
  pub may_first : (t : Token D) (e : Entry) (es : List Entry) → MayMake h o t (e ∷ es) → MayStep h o t e
  may_first t e es (p, is, (first, more)) = (p, is, record { may = first.may; goes = first.goes; takes = λ root takes. absurd (first.takes_none root takes) })

  -- some of them
  some_of : (p : WriterState) (es fs : List Entry) → CanMake l p (es ++ fs) → CanMake l p es
  some_of p [] fs can = tt
  some_of p (e ∷ es) fs (first, more) = (first, some_of (writer_after l p e) es fs more)

  pub may_some : (t : Token D) (es fs : List Entry) → MayMake h o t (es ++ fs) → MayMake h o t es
  may_some t es fs (p, is, can) = (p, is, some_of p es fs can)

  all_of : (p : WriterState) (a : Answers) (es fs : List Entry) → a.local ≡ writer p → CanMake l p (es ++ fs) → (q : WriterState) × ((state_after (answers_next l) a es).local ≡ writer q) × CanMake l q fs
  all_of p a [] fs is can = (p, is, can)
  all_of p a (e ∷ es) fs is (first, more) = all_of (writer_after l p e) (answers_next l a e) es fs (ap (λ (x : LocalState). table_next l x e) is ∙ own_next l p e first.own) more

  -- what was retired stays as it is
  abbrev pub Items : Token D → Token D → Type 0
  Items t u = ((state u).pending ≡ (state t).pending) × ((state u).dispatched ≡ (state t).dispatched)

  module _ {F : Type 0} where
    pub may_rests : (w w' : Writer D F) (es fs : List Entry) → MayMake h o w.token (es ++ fs) → Steps h o w es w' → MayMake h o w'.token fs
    may_rests w w' es fs (p, is, can) steps = let r = all_of p (knows h o w.token) es fs is can in (r.0, ap (λ (a : Answers). a.local) steps.knows_now ∙ r.1, r.2)

    pub may_rest : (w w' : Writer D F) (e : Entry) (es : List Entry) → MayMake h o w.token (e ∷ es) → Steps h o w (e ∷ []) w' → MayMake h o w'.token es
    may_rest w w' e es (p, is, (first, more)) steps = (
      writer_after l p e,
      ap (λ (a : Answers). a.local) steps.knows_now ∙ (ap (λ (x : LocalState). table_next l x e) is ∙ own_next l p e first.own),
      more,
    )

    -- the writer's end after steps
    pub steps_are : (w w' : Writer D F) (es : List Entry) → w' ≡ record w { token = adding w.token es } → IsDomainToken h.client w'.token → Items w.token w'.token → Steps h o w es w'
    steps_are w w' es made part same = record {
      made = made;
      knows_now = ap (λ (v : Writer D F). knows h o v.token) made ∙ state-append (answers_next l) _ (did w.token) es;
      is_token = part;
      same = same;
    }

    pub steps_is : (w w' : Writer D F) (e e' : Entry) → w' ≡ record w { token = adding w.token (e ∷ []) } → e ≡ e' → IsDomainToken h.client w'.token → Items w.token w'.token → Steps h o w (e' ∷ []) w'
    steps_is w w' e e' made is part same = steps_are w w' (e' ∷ []) (made ∙ ap (λ (x : Entry). record w { token = adding w.token (x ∷ []) }) is) part same

    pub steps_then : (w x y : Writer D F) (es fs : List Entry) → Steps h o w es x → Steps h o x fs y → Steps h o w (es ++ fs) y
    steps_then w x y es fs a b = steps_are w y (es ++ fs)
        (b.made ∙ (ap (λ (v : Writer D F). record v { token = adding v.token fs }) a.made ∙ ap (λ (t : Token D). record w { token = t }) (adding-append w.token es fs))) b.is_token
        (b.same.0 ∙ a.same.0, b.same.1 ∙ a.same.1)
