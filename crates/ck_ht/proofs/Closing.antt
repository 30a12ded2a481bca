-- What is known of a table when it is closed.
use Rattle.std.proofs.Common.{◌≡◌, ℕ, zero, suc, ◌+◌, ◌*◌, ◌≤◌, cond, ltb, get_or, List, [], ◌++◌, length, append-nil, drop, refl, sym, ap, ◌∙◌, subst, arith}
use Rattle.std.specs.Prelude.{All}
use Rattle.std.specs.Ordering.{nat_cmp}
use Rattle.std.proofs.lemmas.List.{get_or-drop}
use Rattle.ck_run.specs.declared.account.Entry.{Entry}
use Rattle.ck_run.specs.Run.{Run, replay, account}
use Rattle.ck_run.specs.Tokens.{origin, number, did}
use Rattle.ck_epoch.specs.State.{Origin, Token, base_of}
use Rattle.ck_epoch.specs.Calls.{rec_of}
use Rattle.ck_epoch.specs.Closing.{IsClosedDomain}
use Rattle.ck_epoch.specs.Ends.{Pass}
use Rattle.ck_signal.specs.declared.signals.Signals.{Signals}
use Rattle.ck_signal.specs.Signals.{signals}
use Rattle.ck_signal.specs.Told.{TrueSignals}
use Rattle.ck_history.specs.declared.log.LogEntry.{LogEntry}
use Rattle.ck_history.specs.Map.{find, answer_after}
use Rattle.ck_history.specs.Places.{AreBoundedFrom}
use Rattle.ck_slots.specs.Slots.{SlotsView}
use Rattle.ck_slots.specs.Standing.{Copies, single, StandFor}
use Rattle.ck_events.specs.Events.{reader_events, writer_events}
use Rattle.ck_events.specs.Places.{places_from}
use Rattle.ck_events.proofs.Placed.{AreRight, placed}
use Rattle.ck_events.proofs.Bounded.{bounded}
use Rattle.ck_htlaw.specs.declared.client.HtClient.{HtClient}
use Rattle.ck_htlaw.specs.Actions.{most}
use Rattle.ck_htlaw.specs.Client.{Answers, table, answers_after, local_after, orders_of, first_reader}
use Rattle.ck_htlaw.specs.Host.{lies}
use Rattle.ck_htlaw.specs.Known.{knows}
use Rattle.ck_htlaw.specs.Law.{TableLaw, WordsStand, IsTableRun, local_in, answers_in, updates_in, linearized, look_state_of, retries_of, copies_by, copies_of}
use Rattle.ck_htlaw.specs.Layout.{layout, counters_of}
use Rattle.ck_htlaw.specs.Linearized.{AreReplies, map_after, updates}
use Rattle.ck_htlaw.specs.Reached.{with_signals}
use Rattle.ck_htlaw.specs.Table.{Layout, WriterState, ReaderState, LocalState, writer, reader, view, column}
use Rattle.ck_htlaw.proofs.Tokens.{local_after_all}
use Rattle.ck_htread.specs.Answered.{looks_in, HavePlaces, PlacesLaw}
use Rattle.ck_htread.proofs.Answering.{stays_reader}
use Rattle.ck_htread.proofs.Placing.{mono}
use Rattle.ck_htread.proofs.Telling.{record_of}
use Rattle.ck_ht.specs.Closed.{TableStandsFor, ArePlacedInLog, IsClosedTable}
use Rattle.ck_ht.specs.Ends.{IsIdle, IsPassReady}
use Rattle.ck_ht.specs.Events.{is_no_look, known, pass_events, hand_events}
use Rattle.ck_ht.specs.Settled.{SettledLaw}
use Rattle.ck_ht.proofs.Counts.{local_is, few_given, log_is_whole, has_logged}
use Rattle.ck_ht.proofs.EventSteps.{no_look_is, log_grows, adds_one, is_log_of}

is_first : (l : Layout) (words : List ℕ) (n : ℕ) (es : List Entry) (p : WriterState) → local_after l words n es ≡ writer p → n ≡ 0
is_first l words zero es p is = refl
is_first l words (suc r) es p is = absurd (let w = stays_reader l first_reader es in let z : writer p ≡ reader w.0 = sym is ∙ w.1 in cc)

-- a writer's token is the first one
pub writer_number : (o : Origin (Signals HtClient)) (t : Token (Signals HtClient)) (p : WriterState) → (knows with_signals o t).local ≡ writer p → number t ≡ 0
writer_number o t p local = let l = lies with_signals o in is_first l o.words (number t) (did t) p (sym (local_after_all l (answers_after l o.words (number t) []) (did t)) ∙ local)

-- the words that are left stand as those of the run did
words_stand : (o : Origin (Signals HtClient)) (run : Run) (words : List ℕ) (log : List (LogEntry ℕ)) → WordsStand with_signals o run → IsIdle (local_in with_signals o run 0)
    → words ≡ drop (base_of o) (replay o.words run) → updates_in with_signals o run ≡ log → TableStandsFor o.config.client.client words (map_after log)
words_stand o run words log h free left is =
    let ws = replay o.words run in
    let l = lies with_signals o in
    let m = layout 0 0 (counters_of o.config.client.client) (orders_of o.config.client.client) in
    let old = get_or ws (base_of o + 0) 0 in
    let new = get_or words 0 0 in
    let word : (i j : ℕ) → j ≡ base_of o + i → get_or ws j 0 ≡ get_or words i 0 = λ i j e. ap (λ (x : ℕ). get_or ws x 0) e ∙ (sym (get_or-drop (base_of o) ws i 0) ∙ ap (λ (xs : List ℕ). get_or xs i 0) (sym left)) in
    let root : old ≡ new = word 0 (base_of o + 0) refl in
    let columns : (j : ℕ) → column l ws old j ≡ column m words new j = λ j. (λ i s. cond (ltb s (l.order old).slots) (word (m.word old s j) (l.word old s j) (omega arith) i) 0) ∙ ap (λ (r : ℕ). column m words r j) root in
    let views : view l ws old ≡ view m words new = (λ i. record { state = columns 0 i; low = columns 1 i; high = columns 2 i; value = columns 3 i }) in
    let copies : copies_by (local_in with_signals o run 0) ≡ single = ap copies_by free.1 ∙ ap copies_of free.2 in
    subst (λ (x : SlotsView). StandFor (m.order new) x single (λ k. find nat_cmp (map_after log) k)) views
    (subst (λ (r : ℕ). StandFor (m.order r) (view l ws old) single (λ k. find nat_cmp (map_after log) k)) root
    (subst (λ (c : Copies). StandFor (l.order old) (view l ws old) c (λ k. find nat_cmp (map_after log) k)) copies
    (subst (λ (us : List (LogEntry ℕ)). StandFor (l.order old) (view l ws old) (copies_by (local_in with_signals o run 0)) (λ k. find nat_cmp (map_after us) k)) is h)))

module _ (told : TrueSignals table) (laws : (o : Origin (Signals HtClient)) → TableLaw with_signals o) (all_places : (o : Origin (Signals HtClient)) → PlacesLaw with_signals o) (all_settled : (o : Origin (Signals HtClient)) → SettledLaw o)
    (w : Token (Signals HtClient)) (ps : List (Pass (Signals HtClient))) (words : List ℕ) (c : IsClosedDomain (signals table) w ps words)
    (free : IsIdle (knows with_signals (origin w) w).local) (ready : All (λ (p : Pass (Signals HtClient)). IsPassReady (origin w) p) ps) where
  abbrev o : Origin (Signals HtClient)
  o = origin w

  abbrev k : Layout
  k = lies with_signals o

  first : number w ≡ 0
  first = writer_number o w free.0 free.1

  mine : account 0 c.run ≡ did w
  mine = ap (λ (n : ℕ). account n c.run) (sym first) ∙ c.writer

  whole : IsTableRun with_signals o (c.run ++ [])
  whole = subst (IsTableRun with_signals o) (sym (append-nil c.run)) c.is_run

  answers : answers_in with_signals o c.run ≡ knows with_signals o w
  answers = λ i. answers_after k o.words (sym first i) (mine i)

  abbrev free_run : IsIdle (local_in with_signals o c.run 0)
  free_run = (free.0, sym (local_after_all k (answers_after k o.words 0 []) (account 0 c.run)) ∙ (ap (λ (a : Answers). a.local) answers ∙ free.1), free.2)

  log : updates_in with_signals o c.run ≡ (knows with_signals o w).log
  log = all_settled o c.run [] whole free_run ∙ ap (λ (a : Answers). a.log) answers

  abbrev place : ℕ → ℕ → ℕ
  place r = (all_places o c.run r c.is_run).0

  all_have : (r : ℕ) → HavePlaces with_signals o c.run r (place r)
  all_have r = (all_places o c.run r c.is_run).1

  abbrev places : ℕ → List ℕ
  places r = places_from (place r) 0 (length (looks_in with_signals o c.run r))

  module _ (p : Token (Signals HtClient)) (p_did : account (number p) c.run ≡ did p) (y : ReaderState) (local : (knows with_signals o p).local ≡ reader y) where
    num : (r : ℕ) × (number p ≡ suc r)
    num = record_of with_signals o p y local

    rec : num.0 ≡ rec_of p
    rec = let z = num.1 in omega arith

    did_p : account (suc num.0) c.run ≡ did p
    did_p = ap (λ (n : ℕ). account n c.run) (sym num.1) ∙ p_did

    -- what is known of the places
    right : AreRight table o (known o) told (linearized with_signals o) (mono with_signals o (laws o)) (has_logged o (laws o)) c.run c.is_run num.0 (answer_after nat_cmp most (updates (updates_in with_signals o c.run))) (place num.0)
    right = let h = all_have num.0 in record {
      gave = λ i x at. sym (h.gave i x.0 x.1 at);
      rise = h.are.rise;
      before = h.are.before;
      since = λ past rest i e is_out. h.are.since past rest i e (no_look_is (look_state_of (local_in with_signals o past (suc num.0))) (ap (λ (x : LocalState). is_no_look (look_state_of x)) (sym (local_is o past (suc num.0))) ∙ is_out));
    }

    placed_p : ArePlacedInLog (knows with_signals o w).log (pass_events o p) (places (rec_of p))
    placed_p = subst (λ (us : List (LogEntry ℕ)). ArePlacedInLog us (pass_events o p) (places (rec_of p))) log
        (subst (λ (r : ℕ). ArePlacedInLog (updates_in with_signals o c.run) (pass_events o p) (places r)) rec
        (subst (λ (n : ℕ). ArePlacedInLog (updates_in with_signals o c.run) (reader_events table o (known o) (answers_after k o.words n []) (did p)) (places num.0)) (sym num.1)
        (subst (λ (es : List Entry). ArePlacedInLog (updates_in with_signals o c.run) (reader_events table o (known o) (answers_after k o.words (suc num.0) []) es) (places num.0)) did_p
        (placed table o (known o) told (linearized with_signals o) (mono with_signals o (laws o)) (has_logged o (laws o)) c.run c.is_run num.0 (answer_after nat_cmp most (updates (updates_in with_signals o c.run))) (place num.0) right
        (λ done e. adds_one o (answers_after k o.words (suc num.0) done) e) refl))))

    few_retries : retries_of (knows with_signals o p).local ≤ 2 * length (knows with_signals o w).log
    few_retries =
        let knows_p : answers_after k o.words (suc num.0) (account (suc num.0) c.run) ≡ knows with_signals o p = (λ i. answers_after k o.words (sym num.1 i) (did_p i)) in
        let local_p : local_in with_signals o c.run (suc num.0) ≡ (knows with_signals o p).local = sym (local_after_all k (answers_after k o.words (suc num.0) []) (account (suc num.0) c.run)) ∙ ap (λ (a : Answers). a.local) knows_p in
        subst (λ (z : LocalState × List (LogEntry ℕ)). retries_of z.0 ≤ 2 * length z.1) (λ i. (local_p i, (answers i).log)) ((laws o).bounded c.run [] num.0 free.0 whole free_run.1 free.2)

  are_bounded : AreBoundedFrom places 0 (hand_events o w)
  are_bounded = subst (λ (n : ℕ). AreBoundedFrom places 0 (writer_events table o (known o) (answers_after k o.words n []) (did w))) (sym first)
      (subst (λ (es : List Entry). AreBoundedFrom places 0 (writer_events table o (known o) (answers_after k o.words 0 []) es)) mine
      (bounded table o (known o) (log_grows o) told (linearized with_signals o) (few_given o) (log_is_whole o (all_settled o)) c.run c.is_run place (λ r. (all_have r).are.before) refl))

  pub is_closed : IsClosedTable w ps words
  is_closed = record {
    run = c.run;
    is_run = c.is_run;
    writer = mine;
    passes = c.passes;
    leaves = c.leaves;
    safe = c.safe;
    epochs = c.epochs;
    log = log;
    stand = words_stand o c.run words (knows with_signals o w).log ((laws o).stand c.run [] whole) free_run c.leaves log;
    replies = subst AreReplies log ((laws o).replies c.run [] whole);
    logged = is_log_of o w;
    place = place;
    have_places = all_have;
    places = places;
    listed = λ r. refl;
    placed = λ i d low. let q = get_or ps i d in let r = ready i d low in placed_p q.token (c.passes i d low).1 r.reader_state r.local;
    bounded = are_bounded;
    retries = λ i d low. let q = get_or ps i d in let r = ready i d low in few_retries q.token (c.passes i d low).1 r.reader_state r.local;
  }
