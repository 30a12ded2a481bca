-- Steps elsewhere leave a table's tokens where they stand.
use Rattle.std.proofs.Common.{◌≡◌, ℕ, ◌+◌, ◌<◌, ◌≤◌, Bool, true, false, cond, nat_lt, ◌&&◌, leb, ltb, List, [], ◌∷◌, ◌++◌, length, append-nil, refl, sym, ap, ◌∙◌, arith}
use Rattle.std.specs.Prelude.{All, Option}
use Rattle.std.proofs.lemmas.Bool.Decides.{nat_tests}
use Rattle.std.proofs.lemmas.List.Elements.{All-head, All-tail}
use Rattle.ck_run.specs.declared.account.Entry.{Entry}
use Rattle.ck_run.specs.Machine.{state_after}
use Rattle.ck_run.specs.Range.{word_of}
use Rattle.ck_run.specs.Tokens.{adding, did, number}
use Rattle.ck_run.proofs.Law.{state-append}
use Rattle.ck_epoch.specs.State.{Origin, base_of}
use Rattle.ck_epoch.specs.Ends.{Pass}
use Rattle.ck_htlaw.specs.Actions.{action}
use Rattle.ck_htlaw.specs.Calls.{is_single_load, key_of}
use Rattle.ck_htlaw.specs.Client.{Answers, table_next, answers_after, answers_next, looks_next, look_ends, logged, due_next}
use Rattle.ck_htlaw.specs.Host.{Host, lies}
use Rattle.ck_htlaw.specs.Known.{knows}
use Rattle.ck_htlaw.specs.Law.{retries_of}
use Rattle.ck_htlaw.specs.Look.{LookState, no_look}
use Rattle.ck_htlaw.specs.Table.{Layout, WriterState, ReaderState, LocalState, writer, reader, is_table_word, is_table_item, is_section, after_own, after_other, released, released_log}
use Rattle.ck_htread.specs.Reading.{IsBetweenLooks, totals_of}

below : (a b c : ℕ) → c < a → leb a c && ltb c b ≡ false
below a b c h = grind (arith, nat_tests)

pub beyond : (a b c : ℕ) → b ≤ c → leb a c && ltb c b ≡ false
beyond a b c h = grind (arith, nat_tests)

pub not_less : (n : ℕ) → nat_lt n n ≡ false
not_less n = grind (arith, nat_tests)

module _ (l : Layout) where
  -- none of these steps is on a word of the table's, and none hands an item over
  abbrev pub AreElsewhere : List Entry → Type 0
  AreElsewhere [] = Unit {0}
  AreElsewhere (e ∷ es) = (is_table_word l e.step ≡ false) × (e.item ≡ []) × AreElsewhere es

  pub outside_still : (y : ReaderState) (e : Entry) → y.look_state ≡ no_look → is_table_word l e.step ≡ false → table_next l (reader y) e ≡ reader y
  outside_still y e is_out off = ap (λ (b : Bool). cond b (after_own l (action l) key_of (reader y) e) (after_other l (reader y) e)) off ∙ by (is_section l e.step)
    where
      by : (b : Bool) → reader (record y { look_state = cond b no_look y.look_state }) ≡ reader y
      by true = ap (λ (s : LookState). reader (record y { look_state = s })) (sym is_out)
      by false = refl

  -- a step elsewhere answers no look
  pub looks_still : (h : LocalState) (e : Entry) → is_table_word l e.step ≡ false → looks_next l h e ≡ []
  looks_still (writer p) e off = refl
  looks_still (reader y) e off = ap (λ (b : Bool). cond (b && cond (is_single_load e.opens) false true) (look_ends y.look_state e.step) []) off

  -- a reader between two looks stays there
  stays : (a : Answers) (y : ReaderState) (es : List Entry) → a.local ≡ reader y → y.look_state ≡ no_look → AreElsewhere es → ((state_after (answers_next l) a es).local ≡ reader y) × ((state_after (answers_next l) a es).looks ≡ a.looks)
  stays a y [] local is_out off = (local, refl)
  stays a y (e ∷ es) local is_out off =
      let h = stays (answers_next l a e) y es (ap (λ (x : LocalState). table_next l x e) local ∙ outside_still y e is_out off.0) is_out off.2 in (
        h.0,
        h.1 ∙ (ap (λ (xs : List (ℕ × Option ℕ)). a.looks ++ xs) (looks_still a.local e off.0) ∙ append-nil a.looks),
      )

  -- and a writer, with its log
  pub writer_still : (a : Answers) (p : WriterState) (e : Entry) → a.local ≡ writer p → is_table_word l e.step ≡ false → e.item ≡ [] → ((answers_next l a e).local ≡ writer p) × ((answers_next l a e).log ≡ a.log)
  writer_still a p e local off none = (still, log_is)
    where
      still : table_next l a.local e ≡ writer p
      still = ap (λ (x : LocalState). table_next l x e) local
          ∙ (ap (λ (b : Bool). cond b (after_own l (action l) key_of (writer p) e) (after_other l (writer p) e)) off
          ∙ ap (λ (item : List ℕ). writer (record p { stage = cond (is_table_item l item) (released p.stage) p.stage; log = cond (is_table_item l item) (released_log p.stage p.log) p.log })) none)

      log_is : (answers_next l a e).log ≡ a.log
      log_is = (λ i. a.log ++ cond (nat_lt (logged (local i)) (logged (still i))) (due_next l a.local e a.due ∷ []) [])
          ∙ (ap (λ (b : Bool). a.log ++ cond b (due_next l a.local e a.due ∷ []) []) (not_less p.log) ∙ append-nil a.log)

module _ {D : Type 0} (host : Host D) (o : Origin D) where
  abbrev l : Layout
  l = lies host o

  -- between two looks a pass stays there, with its answers
  pub ready_still : (p q : Pass D) (es : List Entry) → IsBetweenLooks host o p → q.token ≡ adding p.token es → AreElsewhere l es → q.tally ≡ p.tally → p.calls ≤ q.calls
      → IsBetweenLooks host o q × (totals_of (knows host o q.token) ≡ totals_of (knows host o p.token))
  ready_still p q es r made off tally calls =
      let after : knows host o q.token ≡ state_after (answers_next l) (knows host o p.token) es = ap (knows host o) made ∙ state-append (answers_next l) (answers_after l o.words (number p.token) []) (did p.token) es in
      let h = stays l (knows host o p.token) r.reader_state es r.local r.outside off in
      let looks = ap (λ (a : Answers). a.looks) after ∙ h.1 in (
        record {
          reader_state = r.reader_state;
          local = ap (λ (a : Answers). a.local) after ∙ h.0;
          outside = r.outside;
          tally = tally ∙ (r.tally ∙ sym (ap length looks));
          few = (let f = r.few in omega arith);
        },
        (λ i. record { looks = looks i; retries = (ap retries_of (ap (λ (a : Answers). a.local) after ∙ (h.0 ∙ sym r.local))) i }),
      )

  abbrev pub IsBelow : Entry → Type 0
  IsBelow e = (word_of e.step < base_of o) × (e.item ≡ [])

  -- steps on the words of the epochs
  pub below_all : (es : List Entry) → All IsBelow es → AreElsewhere l es
  below_all [] h = tt
  below_all (e ∷ es) h = let low = All-head IsBelow e es h in (below l.base (l.base + l.size) (word_of e.step) (let m = low.0 in omega arith), low.1, below_all es (All-tail IsBelow e es h))
