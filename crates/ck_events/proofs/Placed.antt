-- The answers among a reader's events are right at their places, which bear out what `reached` told.
use Rattle.std.proofs.Common.{◌≡◌, ℕ, zero, suc, ◌+◌, ◌<◌, ◌≤◌, ◌⊎◌, ⊎_elim, Bool, true, false, cond, nat_le, max, List, [], ◌∷◌, ◌++◌, length, length-append, append-nil, append_assoc, refl, sym, ap, ◌∙◌, subst, arith}
use Rattle.std.specs.Prelude.{Result, Ok, Err, slice_index}
use Rattle.std.proofs.lemmas.Bool.Decides.{nat_tests}
use mathlib.Core.Option.{some}
use lib.ListN.{get_elem?}
use Rattle.atomic_table.proofs.Lists.{at_last, at_longer}
use Rattle.ck_run.specs.declared.account.Step.TheVariants.{Load}
use Rattle.ck_run.specs.declared.account.Entry.{Entry}
use Rattle.ck_run.specs.Run.{Run, Fits, replay, account}
use Rattle.ck_run.specs.Machine.{state_after}
use Rattle.ck_run.proofs.Law.{state-append}
use Rattle.ck_run.proofs.Runs.{split, true_parts}
use Rattle.ck_history.specs.declared.event.ReaderEvent.{ReaderEvent}
use Rattle.ck_history.specs.declared.event.ReaderEvent.TheVariants.{Answered, Reached}
use Rattle.ck_history.specs.Events.{known_by}
use Rattle.ck_history.specs.Places.{ArePlacedAt}
use Rattle.ck_epoch.specs.State.{Origin}
use Rattle.ck_epoch.specs.Client.{Client}
use Rattle.ck_signal.specs.declared.signals.Signals.{Signals}
use Rattle.ck_signal.specs.Told.{TrueSignals, IsRunOf, applied_word_of, log_during}
use Rattle.ck_events.specs.Events.{Structure, reached_result, answer_events, gained, reached_event, reader_event, reader_events}
use Rattle.ck_events.specs.Places.{places_from}
use Rattle.ck_events.proofs.Steps.{gained_is, gained_none, reached_is}

-- whatever `reached` answers, it tells of no more than it loaded
known_below : (wanted found : ℕ) → known_by wanted (reached_result wanted found) ≤ found
known_below wanted found = by (nat_le wanted found) refl
  where
    by : (c : Bool) → nat_le wanted found ≡ c → known_by wanted (reached_result wanted found) ≤ found
    by true test = subst (λ (r : Result (Unit {0}) ℕ). known_by wanted r ≤ found) (sym (ap (λ (c : Bool). cond {A = Result (Unit {0}) ℕ} c (Ok tt) (Err found)) test)) (grind (arith, nat_tests))
    by false test = subst (λ (r : Result (Unit {0}) ℕ). known_by wanted r ≤ found) (sym (ap (λ (c : Bool). cond {A = Result (Unit {0}) ℕ} c (Ok tt) (Err found)) test)) (omega arith)

module _ {C : Type 0} (client : Client C) (o : Origin (Signals C)) {S Q A U R : Type 0} (known : Structure S Q A U R) where
  -- what is known of the token n at this moment of a run
  abbrev pub known_in : Run → ℕ → S
  known_in run n = state_after known.next (known.start n) (account n run)

  -- the answers of the reader r by then
  abbrev pub given_in : Run → ℕ → List (Q × A)
  given_in run r = known.answers (known_in run (suc r))

  -- a step adds no answer, or one, and then it ends a query
  abbrev pub AddsOne : S → Entry → Type 0
  AddsOne s e = (known.answers (known.next s e) ≡ known.answers s) ⊎ ((x : Q × A) × (known.answers (known.next s e) ≡ known.answers s ++ x ∷ []) × (known.is_out s ≡ true → ⊥))

  module _ (told : TrueSignals client) (many : Run → ℕ) (mono : (a b rest : Run) → IsRunOf client o (a ++ (b ++ rest)) → many a ≤ many (a ++ b))
      (has_logged : (past rest : Run) → IsRunOf client o (past ++ rest) → length (log_during client o past) ≤ many past)
      (run : Run) (t : IsRunOf client o run) (r : ℕ) (gives : ℕ → Q → A) (place : ℕ → ℕ) where
    abbrev total : ℕ
    total = length (given_in run r)

    abbrev count : ℕ
    count = many run

    -- the answers from the number i on have places of at least n
    abbrev AreFrom : ℕ → ℕ → Type 0
    AreFrom n i = (j : ℕ) → i ≤ j → j < total → n ≤ place j

    -- what is to be known of the places
    pub record AreRight : Type 0 where
      pub gave : (i : ℕ) (x : Q × A) → get_elem? (given_in run r) i ≡ some x → x.1 ≡ gives (place i) x.0
      pub rise : (i j : ℕ) → i ≤ j → j < total → place i ≤ place j
      pub before : (past rest : Run) (i : ℕ) → run ≡ past ++ rest → i < length (given_in past r) → place i ≤ many past
      pub since : (past rest : Run) (i : ℕ) → run ≡ past ++ rest → known.is_out (known_in past (suc r)) ≡ true → length (given_in past r) ≤ i → i < total → many past ≤ place i

    module _ (h : AreRight) (adds : (done : List Entry) (e : Entry) → AddsOne (state_after known.next (known.start (suc r)) done) e) where
      -- what `reached` loads is at most the number of updates, and the later answers have places of at least that
      loaded : (past rest : Run) (e : Entry) (found : ℕ) → run ≡ past ++ (suc r, e) ∷ rest → e.step ≡ Load (applied_word_of client o) found → known.is_out (known_in past (suc r)) ≡ true
          → (found ≤ count) × AreFrom found (length (given_in past r))
      loaded past rest e found whole step outside =
          let now = subst (IsRunOf client o) whole t in
          let fits : found ≡ slice_index (replay o.words past) (applied_word_of client o) = subst (Fits (replay o.words past)) step (true_parts o.words past ((suc r, e) ∷ rest) now.is_true).1.0 in
          let up = (told.told o past ((suc r, e) ∷ rest) now).updates in
          let all = has_logged past ((suc r, e) ∷ rest) now in
          let later : many past ≤ many run = subst (λ (m : Run). many past ≤ many m) (sym whole) (mono past ((suc r, e) ∷ rest) [] (subst (IsRunOf client o) (whole ∙ ap (λ (m : Run). past ++ m) (sym (append-nil ((suc r, e) ∷ rest)))) t)) in
          (omega arith, λ j from less. let since = h.since past ((suc r, e) ∷ rest) j whole outside from less in omega arith)

      grown : (done es : List Entry) (s : S) → s ≡ state_after known.next (known.start (suc r)) done → (more : List (Q × A)) × (known.answers (state_after known.next s es) ≡ known.answers s ++ more)
      grown done [] s is = ([], sym (append-nil (known.answers s)))
      grown done (d ∷ es) s is =
          let one : AddsOne s d = subst (λ (x : S). AddsOne x d) (sym is) (adds done d) in
          let first : (more : List (Q × A)) × (known.answers (known.next s d) ≡ known.answers s ++ more) = ⊎_elim (λ (same : known.answers (known.next s d) ≡ known.answers s). ([], same ∙ sym (append-nil (known.answers s)))) (λ w. (w.0 ∷ [], w.1)) one in
          let rest = grown (done ++ d ∷ []) es (known.next s d) (ap (λ (x : S). known.next x d) is ∙ sym (state-append known.next (known.start (suc r)) done (d ∷ []))) in
          (first.0 ++ rest.0, rest.1 ∙ (ap (λ (l : List (Q × A)). l ++ rest.0) first.1 ∙ append_assoc (known.answers s) first.0 rest.0))

      -- an entry more of the reader's, after the entries `done`, by which s is known of it
      module _ (rest done : List Entry) (e : Entry) (s : S) (is : s ≡ state_after known.next (known.start (suc r)) done) (whole : account (suc r) run ≡ done ++ e ∷ rest) where
        abbrev after : S
        after = known.next s e

        after_is : after ≡ state_after known.next (known.start (suc r)) (done ++ e ∷ [])
        after_is = ap (λ (x : S). known.next x e) is ∙ sym (state-append known.next (known.start (suc r)) done (e ∷ []))

        whole_next : account (suc r) run ≡ (done ++ e ∷ []) ++ rest
        whole_next = whole ∙ sym (append_assoc done (e ∷ []) rest)

        answers_run : (more : List (Q × A)) × (given_in run r ≡ known.answers after ++ more)
        answers_run = let m = grown (done ++ e ∷ []) rest after after_is in
            (m.0, ap (λ (es : List Entry). known.answers (state_after known.next (known.start (suc r)) es)) whole_next ∙ (ap known.answers (state-append known.next (known.start (suc r)) (done ++ e ∷ []) rest ∙ ap (λ (x : S). state_after known.next x rest) (sym after_is)) ∙ m.1))

        -- what is to be shown of the entries that follow
        abbrev Goes : Type 0
        Goes = (m least : ℕ) → length (known.answers after) + m ≡ total → least ≤ count → AreFrom least (length (known.answers after))
            → ArePlacedAt count gives least (reader_events client o known after rest) (places_from place (length (known.answers after)) m)

        module _ (n least : ℕ) (parts : length (known.answers s) + n ≡ total) (few : least ≤ count) (from : AreFrom least (length (known.answers s))) (goes : Goes) where
          abbrev Placed : List (ReaderEvent Q A) → Type 0
          Placed xs = ArePlacedAt count gives least (xs ++ reader_events client o known after rest) (places_from place (length (known.answers s)) n)

          -- where it answers nothing
          module _ (same : known.answers after ≡ known.answers s) where
            none : gained (known.answers s) (known.answers after) ≡ []
            none = gained_none (known.answers s) (known.answers after) same

            onward : (m : ℕ) → m ≤ count → AreFrom m (length (known.answers s)) → ArePlacedAt count gives m (reader_events client o known after rest) (places_from place (length (known.answers s)) n)
            onward m low above = let long = ap (λ (l : List (Q × A)). length l) same in subst (λ (i : ℕ). ArePlacedAt count gives m (reader_events client o known after rest) (places_from place i n)) long
                (goes n m (omega arith) low (subst (AreFrom m) (sym long) above))

            silent : reached_event client o {Q = Q} {A = A} (known.is_out s) e.opens e.step ≡ [] → Placed (reader_event client o known s e)
            silent quiet = subst Placed (λ i. answer_events (sym none i) ++ sym quiet i) (onward least few from)

            heard : (wanted found : ℕ) → known.is_out s ≡ true → e.step ≡ Load (applied_word_of client o) found → reached_event client o {Q = Q} {A = A} (known.is_out s) e.opens e.step ≡ Reached wanted (reached_result wanted found) ∷ [] → Placed (reader_event client o known s e)
            heard wanted found outside step event =
                let m = split (suc r) run done e rest whole in
                let local : known_in m.past (suc r) ≡ s = ap (λ (es : List Entry). state_after known.next (known.start (suc r)) es) m.before ∙ sym is in
                let l = loaded m.past m.rest e found m.parts step (ap known.is_out local ∙ outside) in
                let told_of = known_below wanted found in
                subst Placed (λ i. answer_events (sym none i) ++ sym event i)
                (onward (max least (known_by wanted (reached_result wanted found))) (let u = l.0 in omega arith)
                (λ j low less. let x = from j low less in let y = l.1 j (let z = ap (λ (x : S). length (known.answers x)) local in omega arith) less in omega arith))

            no_answer : Placed (reader_event client o known s e)
            no_answer = ⊎_elim silent (λ w. heard w.0 w.1 w.2 w.4 w.5) (reached_is client o {Q = Q} {A = A} (known.is_out s) e.opens e.step)

          -- where it answers
          module _ (x : Q × A) (more : known.answers after ≡ known.answers s ++ x ∷ []) (within : known.is_out s ≡ true → ⊥) where
            abbrev i : ℕ
            i = length (known.answers s)

            one : gained (known.answers s) (known.answers after) ≡ x ∷ []
            one = gained_is (known.answers s) (x ∷ []) (known.answers after) more

            quiet : reached_event client o {Q = Q} {A = A} (known.is_out s) e.opens e.step ≡ []
            quiet = ⊎_elim (λ z. z) (λ w. absurd (within w.2)) (reached_is client o {Q = Q} {A = A} (known.is_out s) e.opens e.step)

            one_more : length (known.answers after) ≡ suc i
            one_more = let z = ap (λ (l : List (Q × A)). length l) more ∙ length-append (known.answers s) (x ∷ []) in omega arith

            found : get_elem? (given_in run r) i ≡ some x
            found = ap (λ (ls : List (Q × A)). get_elem? ls i) (answers_run.1 ∙ ap (λ (ls : List (Q × A)). ls ++ answers_run.0) more)
                ∙ at_longer (known.answers s ++ x ∷ []) answers_run.0 i x (at_last (known.answers s) x i refl)

            inside_run : i < total
            inside_run = let z = ap (λ (l : List (Q × A)). length l) answers_run.1 ∙ length-append (known.answers after) answers_run.0 in let u = one_more in omega arith

            upper : place i ≤ count
            upper = h.before run [] i (sym (append-nil run)) inside_run

            by_count : (m : ℕ) → i + m ≡ total → ArePlacedAt count gives least (Answered x.0 x.1 ∷ reader_events client o known after rest) (places_from place i m)
            by_count zero sum = absurd (let z = inside_run in omega arith)
            by_count (suc m) sum = (
              from i (omega arith) inside_run,
              record { within = upper; right = h.gave i x found },
              subst (λ (j : ℕ). ArePlacedAt count gives (place i) (reader_events client o known after rest) (places_from place j m)) one_more
                  (goes m (place i) (let z = one_more in omega arith) upper (λ j low less. h.rise i j (let z = one_more in omega arith) less)),
            )

            an_answer : Placed (reader_event client o known s e)
            an_answer = subst Placed (λ i. answer_events (sym one i) ++ sym quiet i) (by_count n parts)

          placed_next : Placed (reader_event client o known s e)
          placed_next = ⊎_elim no_answer (λ w. an_answer w.0 w.1 w.2) (subst (λ (x : S). AddsOne x e) (sym is) (adds done e))

      -- from the entries `done` on, after which s is known
      placed_from : (rest done : List Entry) (s : S) → s ≡ state_after known.next (known.start (suc r)) done → account (suc r) run ≡ done ++ rest → (n least : ℕ) → length (known.answers s) + n ≡ total → least ≤ count → AreFrom least (length (known.answers s))
          → ArePlacedAt count gives least (reader_events client o known s rest) (places_from place (length (known.answers s)) n)
      placed_from [] done s is whole n least parts few from =
          let all : given_in run r ≡ known.answers s = ap (λ (es : List Entry). known.answers (state_after known.next (known.start (suc r)) es)) (whole ∙ append-nil done) ∙ sym (ap known.answers is) in
          let long = ap (λ (l : List (Q × A)). length l) all in
          let none : 0 ≡ n = omega arith in
          subst (λ (m : ℕ). ArePlacedAt count gives least [] (places_from place (length (known.answers s)) m)) none few
      placed_from (e ∷ rest) done s is whole n least parts few from =
          placed_next rest done e s is whole n least parts few from (placed_from rest (done ++ e ∷ []) (known.next s e) (after_is rest done e s is whole) (whole_next rest done e s is whole))

      -- all events of the reader
      pub placed : known.answers (known.start (suc r)) ≡ [] → ArePlacedAt count gives 0 (reader_events client o known (known.start (suc r)) (account (suc r) run)) (places_from place 0 total)
      placed none =
          let long : length (known.answers (known.start (suc r))) ≡ 0 = ap (λ (l : List (Q × A)). length l) none in
          subst (λ (i : ℕ). ArePlacedAt count gives 0 (reader_events client o known (known.start (suc r)) (account (suc r) run)) (places_from place i total)) long
          (placed_from (account (suc r) run) [] (known.start (suc r)) refl refl total 0 (omega arith) (omega arith) (λ j low less. omega arith))
