-- What `answered` told the writer bounds the places of the readers' first answers from above; and the updates among its events are those of its log.
use Rattle.std.proofs.Common.{◌≡◌, ℕ, zero, suc, ◌+◌, ◌<◌, ◌≤◌, ⊎_elim, true, List, [], ◌∷◌, ◌++◌, length, map, length-append, append-nil, append_assoc, refl, sym, ap, ◌∙◌, subst, arith}
use Rattle.std.specs.Prelude.{Some, slice_get, slice_index}
use Rattle.std.proofs.lemmas.List.{map-append}
use Rattle.ck_run.specs.declared.account.Step.TheVariants.{Load}
use Rattle.ck_run.specs.declared.account.Entry.{Entry}
use Rattle.ck_run.specs.Run.{Run, Fits, replay, account}
use Rattle.ck_run.specs.Machine.{state_after}
use Rattle.ck_run.specs.Tokens.{number, did}
use Rattle.ck_run.proofs.Law.{state-append}
use Rattle.ck_run.proofs.Runs.{split, true_parts}
use Rattle.ck_history.specs.declared.event.WriterEvent.{WriterEvent}
use Rattle.ck_history.specs.declared.event.WriterEvent.TheVariants.{Updated, Told}
use Rattle.ck_history.specs.Events.{updates_in, replies_in}
use Rattle.ck_history.specs.Places.{AreUpTo, AreBoundedFrom}
use Rattle.ck_epoch.specs.State.{Origin, Token}
use Rattle.ck_epoch.specs.Client.{Client}
use Rattle.ck_signal.specs.declared.signals.Signals.{Signals}
use Rattle.ck_signal.specs.Signals.{readers}
use Rattle.ck_signal.specs.Told.{TrueSignals, IsRunOf, answered_word_of, answers_during}
use Rattle.ck_events.specs.Events.{Structure, update_events, gained, answered_event, writer_event, writer_events, events_of_hand}
use Rattle.ck_events.specs.Places.{places_from}
use Rattle.ck_events.proofs.Steps.{gained_is, told_is, knows}
use Rattle.ck_events.proofs.Placed.{known_in, given_in}

plus_none : (a : ℕ) → a ≡ a + 0
plus_none a = omega arith

plus_zero : (a : ℕ) → 0 + a ≡ a
plus_zero a = omega arith

-- the item of a list of places
item_is : (place : ℕ → ℕ) (j n i p : ℕ) → slice_get (places_from place j n) i ≡ Some p → (i < n) × (p ≡ place (j + i))
item_is place j zero i p e = absurd cc
item_is place j (suc n) zero p e = let same : place j ≡ p = cc in (omega arith, sym same ∙ ap place (plus_none j))
item_is place j (suc n) (suc i) p e = let h = item_is place (suc j) n i p e in (let a = h.0 in omega arith, h.1 ∙ ap place (let z : suc j + i ≡ j + suc i = omega arith in z))

module _ {U R : Type 0} where
  updates_append : (xs ys : List (WriterEvent U R)) → updates_in (xs ++ ys) ≡ updates_in xs ++ updates_in ys
  updates_append [] ys = refl
  updates_append (Updated u r ∷ xs) ys = ap (λ (us : List U). u ∷ us) (updates_append xs ys)
  updates_append (Told r k ∷ xs) ys = updates_append xs ys

  replies_append : (xs ys : List (WriterEvent U R)) → replies_in (xs ++ ys) ≡ replies_in xs ++ replies_in ys
  replies_append [] ys = refl
  replies_append (Updated u r ∷ xs) ys = ap (λ (rs : List R). r ∷ rs) (replies_append xs ys)
  replies_append (Told r k ∷ xs) ys = replies_append xs ys

  -- the updates among these events, with their replies
  abbrev pub IsLog : List (WriterEvent U R) → List (U × R) → Type 0
  IsLog events log = (updates_in events ≡ map (λ (x : U × R). x.0) log) × (replies_in events ≡ map (λ (x : U × R). x.1) log)

  of_log : (log : List (U × R)) → IsLog (update_events log) log
  of_log [] = (refl, refl)
  of_log (x ∷ xs) = let h = of_log xs in (ap (λ (us : List U). x.0 ∷ us) h.0, ap (λ (rs : List R). x.1 ∷ rs) h.1)

  -- events of two parts of an account
  both_logs : (xs ys : List (WriterEvent U R)) (log more : List (U × R)) → IsLog xs log → IsLog ys more → IsLog (xs ++ ys) (log ++ more)
  both_logs xs ys log more a b = (
    updates_append xs ys ∙ ((λ i. a.0 i ++ b.0 i) ∙ sym (map-append (λ (x : U × R). x.0) log more)),
    replies_append xs ys ∙ ((λ i. a.1 i ++ b.1 i) ∙ sym (map-append (λ (x : U × R). x.1) log more)),
  )

module _ {C : Type 0} (client : Client C) (o : Origin (Signals C)) {S Q A U R : Type 0} (known : Structure S Q A U R)
    (grows : (s : S) (e : Entry) → (more : List (U × R)) × (known.log (known.next s e) ≡ known.log s ++ more)) where
  -- the updates that a step answers
  one_logged : (s : S) (e : Entry) → gained (known.log s) (known.log (known.next s e)) ≡ (grows s e).0
  one_logged s e = gained_is (known.log s) (grows s e).0 (known.log (known.next s e)) (grows s e).1

  step_log : (s : S) (e : Entry) → IsLog (writer_event client o known s e) ((grows s e).0 ++ [])
  step_log s e = both_logs (update_events (gained (known.log s) (known.log (known.next s e)))) (answered_event client o (known.is_idle s) e.opens e.step) (grows s e).0 []
      (subst (λ (us : List (U × R)). IsLog (update_events us) (grows s e).0) (sym (one_logged s e)) (of_log (grows s e).0))
      (⊎_elim (λ none. (ap updates_in none, ap replies_in none)) (λ w. (ap updates_in w.5, ap replies_in w.5)) (told_is client o {U = U} {R = R} (known.is_idle s) e.opens e.step))

  grown_log : (s : S) (es : List Entry) → (more : List (U × R)) × (known.log (state_after known.next s es) ≡ known.log s ++ more) × IsLog (writer_events client o known s es) more
  grown_log s [] = ([], sym (append-nil (known.log s)), (refl, refl))
  grown_log s (e ∷ es) =
      let h = grown_log (known.next s e) es in let g = grows s e in (
        (g.0 ++ []) ++ h.0,
        h.1 ∙ (ap (λ (l : List (U × R)). l ++ h.0) g.1 ∙ (append_assoc (known.log s) g.0 h.0 ∙ ap (λ (xs : List (U × R)). known.log s ++ (xs ++ h.0)) (sym (append-nil g.0)))),
        both_logs (writer_event client o known s e) (writer_events client o known (known.next s e) es) (g.0 ++ []) h.0 (step_log s e) h.2,
      )

  -- the updates among a writer's events, with their replies, are those of its log
  pub is_log : (w : Token (Signals C)) → known.log (known.start (number w)) ≡ [] → IsLog (events_of_hand client o known w) (known.log (knows client o known w))
  is_log w none =
      let h = grown_log (known.start (number w)) (did w) in
      subst (IsLog (events_of_hand client o known w)) (sym (h.1 ∙ ap (λ (l : List (U × R)). l ++ h.0) none)) h.2

  module _ (told : TrueSignals client) (many : Run → ℕ)
      (few_given : (past : Run) (r : ℕ) → answers_during client o past r ≤ length (given_in client o known past r))
      (settled : (past rest : Run) → IsRunOf client o (past ++ rest) → known.is_idle (known_in client o known past 0) ≡ true → many past ≤ length (known.log (known_in client o known past 0)))
      (run : Run) (t : IsRunOf client o run) (place : ℕ → ℕ → ℕ)
      (before : (r : ℕ) (past rest : Run) (i : ℕ) → run ≡ past ++ rest → i < length (given_in client o known past r) → place r i ≤ many past) where
    abbrev places : ℕ → List ℕ
    places r = places_from (place r) 0 (length (given_in client o known run r))

    -- what `answered` loads are answers that were given by then
    loaded : (past rest : Run) (e : Entry) (r found : ℕ) → run ≡ past ++ (0, e) ∷ rest → e.step ≡ Load (answered_word_of client o r) found → r < readers o → known.is_idle (known_in client o known past 0) ≡ true
        → (m : ℕ) → length (known.log (known_in client o known past 0)) ≤ m → AreUpTo found m (places r)
    loaded past rest e r found whole step is_reader free m most i p low here =
        let now = subst (IsRunOf client o) whole t in
        let fits : found ≡ slice_index (replay o.words past) (answered_word_of client o r) = subst (Fits (replay o.words past)) step (true_parts o.words past ((0, e) ∷ rest) now.is_true).1.0 in
        let up = (told.told o past ((0, e) ∷ rest) now).answers r is_reader in
        let same = few_given past r in
        let all = settled past ((0, e) ∷ rest) now free in
        let item = item_is (place r) 0 (length (given_in client o known run r)) i p here in
        let is : p ≡ place r i = item.1 ∙ ap (place r) (plus_zero i) in
        let bound = before r past ((0, e) ∷ rest) i whole (omega arith) in
        omega arith

    -- an entry more of the writer's, after the entries `done`, by which s is known of it
    module _ (rest done : List Entry) (e : Entry) (s : S) (is : s ≡ state_after known.next (known.start 0) done) (whole : account 0 run ≡ done ++ e ∷ rest) where
      abbrev after : S
      after = known.next s e

      after_is : after ≡ state_after known.next (known.start 0) (done ++ e ∷ [])
      after_is = ap (λ (x : S). known.next x e) is ∙ sym (state-append known.next (known.start 0) done (e ∷ []))

      whole_next : account 0 run ≡ (done ++ e ∷ []) ++ rest
      whole_next = whole ∙ sym (append_assoc done (e ∷ []) rest)

      -- what is to be shown of the entries that follow
      abbrev Goes : Type 0
      Goes = (n : ℕ) → n ≡ length (known.log after) → AreBoundedFrom places n (writer_events client o known after rest)

      module _ (m : ℕ) (long : m ≡ length (known.log s)) (goes : Goes) where
        bound : (n r found : ℕ) → m ≤ n → known.is_idle s ≡ true → r < readers o → e.step ≡ Load (answered_word_of client o r) found → AreUpTo found n (places r)
        bound n r found more free is_reader step =
            let z = split 0 run done e rest whole in
            let local : known_in client o known z.past 0 ≡ s = ap (λ (es : List Entry). state_after known.next (known.start 0) es) z.before ∙ sym is in
            let log = ap (λ (x : S). length (known.log x)) local in
            loaded z.past z.rest e r found z.parts step is_reader (ap known.is_idle local ∙ free) n (omega arith)

        abbrev Tail : List (WriterEvent U R)
        Tail = answered_event client o (known.is_idle s) e.opens e.step ++ writer_events client o known after rest

        -- what this step tells
        with_told : (n : ℕ) → n ≡ length (known.log after) → m ≤ n → AreBoundedFrom places n Tail
        with_told n same more = ⊎_elim
            (λ (none : answered_event client o {U = U} {R = R} (known.is_idle s) e.opens e.step ≡ []). subst (λ (xs : List (WriterEvent U R)). AreBoundedFrom places n (xs ++ writer_events client o known after rest)) (sym none) (goes n same))
            (λ w. subst (λ (xs : List (WriterEvent U R)). AreBoundedFrom places n (xs ++ writer_events client o known after rest)) (sym w.5) (bound n w.0 w.1 more w.2 w.3 w.4, goes n same))
            (told_is client o {U = U} {R = R} (known.is_idle s) e.opens e.step)

        -- updates come before it
        with_updates : (us : List (U × R)) (k : ℕ) → k + length us ≡ length (known.log after) → m ≤ k → AreBoundedFrom places k (update_events us ++ Tail)
        with_updates [] k all more = with_told k (let z = all in omega arith) more
        with_updates (u ∷ us) k all more = with_updates us (k + 1) (omega arith) (omega arith)

        bounded_next : AreBoundedFrom places m (writer_event client o known s e ++ writer_events client o known after rest)
        bounded_next =
            let g = grows s e in
            let more = ap (λ (l : List (U × R)). length l) g.1 ∙ length-append (known.log s) g.0 in
            subst (λ (xs : List (WriterEvent U R)). AreBoundedFrom places m xs) (sym (append_assoc (update_events (gained (known.log s) (known.log after))) (answered_event client o (known.is_idle s) e.opens e.step) (writer_events client o known after rest)))
            (subst (λ (us : List (U × R)). AreBoundedFrom places m (update_events us ++ Tail)) (sym (one_logged s e)) (with_updates g.0 m (omega arith) (omega arith)))

    -- from the entries `done` on, after which s is known
    bounded_from : (rest done : List Entry) (s : S) → s ≡ state_after known.next (known.start 0) done → account 0 run ≡ done ++ rest → (m : ℕ) → m ≡ length (known.log s) → AreBoundedFrom places m (writer_events client o known s rest)
    bounded_from [] done s is whole m long = tt
    bounded_from (e ∷ rest) done s is whole m long =
        bounded_next rest done e s is whole m long (bounded_from rest (done ++ e ∷ []) (known.next s e) (after_is rest done e s is whole) (whole_next rest done e s is whole))

    -- all events of the writer
    pub bounded : known.log (known.start 0) ≡ [] → AreBoundedFrom places 0 (writer_events client o known (known.start 0) (account 0 run))
    bounded none = bounded_from (account 0 run) [] (known.start 0) refl refl 0 (sym (ap (λ (l : List (U × R)). length l) none))
