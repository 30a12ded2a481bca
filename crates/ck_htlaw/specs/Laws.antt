-- A table keeps the laws of a client. These are proofs, and stand here because a ghost member of an `impl` cites only its own crate's specs.
use Rattle.std.proofs.Common.{◌≡◌, ℕ, ◌+◌, ◌<◌, ◌≤◌, ◌⊎◌, Bool, true, false, ◌&&◌, leb, ltb, List, [], ◌∷◌, ◌++◌, length, refl, sym, ap, ◌∙◌, subst, length-append, arith}
use Rattle.std.proofs.lemmas.Bool.Decides.{nat_tests}
use Rattle.ck_run.specs.declared.account.Entry.{Entry}
use Rattle.ck_run.specs.Range.{word_of}
use Rattle.ck_run.specs.Rule.{unused}
use Rattle.ck_run.proofs.Law.{obeys_append, state-append}
use Rattle.ck_epoch.specs.State.{Origin, base_of}
use Rattle.ck_epoch.specs.Client.{IsOthers, Starts, Passes, LogGrows, AnsweredRises}
use Rattle.ck_run.specs.Machine.{grow}
use Rattle.ck_htlaw.specs.declared.client.HtClient.{HtClient}
use Rattle.ck_htlaw.specs.Table.{Layout, LocalState, writer, reader, is_table_word, is_table_item, MayOther, MayOtherIf, MayIf}
use Rattle.ck_htlaw.specs.Calls.{key_of}
use Rattle.ck_htlaw.specs.Actions.{action}
use Rattle.ck_htlaw.specs.Layout.{counters_of, table_words}
use Rattle.ck_htlaw.specs.Client.{layout_of, table_next, table_may, start, local_after, TakesFree, Answers, looks_next, answers_next, answers_after, table}

not_in : (a b c : ℕ) → (c < a) ⊎ (b ≤ c) → leb a c && ltb c b ≡ false
not_in a b c h = grind (arith, nat_tests)

at_least : (m n : ℕ) → m ≤ m + n
at_least m n = omega arith

module _ (first : ℕ) (origin : Origin HtClient) (e : Entry) (others : IsOthers table first origin e) where
  not_own : is_table_word (layout_of first origin) e.step ≡ false
  not_own = not_in first (first + table_words (counters_of origin.config.client)) (word_of e.step) others.0

  not_mine : is_table_item (layout_of first origin) e.item ≡ false
  not_mine = go e.item refl
    where
      go : (item : List ℕ) → e.item ≡ item → is_table_item (layout_of first origin) item ≡ false
      go [] is = refl
      go (at ∷ []) is = refl
      go (at ∷ log ∷ []) is = not_in first (first + table_words (counters_of origin.config.client)) (base_of origin + at) (others.1 at log is)
      go (at ∷ log ∷ x ∷ xs) is = refl

  may_other : (h : LocalState) → MayOther (layout_of first origin) h e
  may_other (writer p) = subst (λ (b : Bool). MayOtherIf (layout_of first origin) b p.stage e) (sym not_mine) tt
  may_other (reader y) = tt

  may : (h : LocalState) → table_may (layout_of first origin) h e
  may h = subst (λ (b : Bool). MayIf (layout_of first origin) (action (layout_of first origin)) key_of b h e) (sym not_own) (may_other h)

pub starts : Starts table
starts first origin linearized n = (tt, tt)

pub passes : Passes table
passes first origin n es e f others = let l = layout_of first origin in (
  obeys_append (table_next l) (table_may l) (start l origin.words n) es (e ∷ []) f.0 (may first origin e others (local_after l origin.words n es), tt),
  obeys_append grow (TakesFree first origin) (unused n) es (e ∷ []) f.1 ((λ p root is own deletes. absurd (let z : true ≡ false = sym own ∙ not_own first origin e others in cc)), tt),
)

module _ (l : Layout) (words : List ℕ) (n : ℕ) (es : List Entry) (e : Entry) where
  abbrev before : Answers
  before = answers_after l words n es

  abbrev first_answers : Answers
  first_answers = answers_after l words n []

  one_more : answers_after l words n (es ++ e ∷ []) ≡ answers_next l before e
  one_more = state-append (answers_next l) first_answers es (e ∷ [])

pub grows : LogGrows table
grows first origin es e = (_, ap (λ (a : Answers). a.log) (one_more (layout_of first origin) origin.words 0 es e))

pub rises : AnsweredRises table
rises first origin es e = let l = layout_of first origin in let a = answers_after l origin.words 1 es in
    let is = ap (λ (b : Answers). length b.looks) (one_more l origin.words 1 es e) in
    let longer = length-append a.looks (looks_next l a.local e) in
    subst (λ (n : ℕ). length a.looks ≤ n) (sym (is ∙ longer)) (at_least (length a.looks) (length (looks_next l a.local e)))
