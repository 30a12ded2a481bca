-- A hash table under the pool.
use Rattle.std.proofs.Common.{◌≡◌, ℕ, List, [], ◌∷◌, ◌++◌, length, map, Option, Some, take, refl, sym, ap, subst, ◌∙◌, arith}
use Rattle.std.specs.Prelude.{All, slice_get}
use Rattle.std.proofs.lemmas.List.{take_all}
use Rattle.std.specs.Ordering.{nat_cmp}
use Rattle.ck_run.specs.Tokens.{table, number}
use Rattle.ck_epoch.specs.State.{Origin, Token}
use Rattle.ck_epoch.specs.Calls.{rec_of}
use Rattle.ck_epoch.specs.Ends.{Pass}
use Rattle.ck_epoch.specs.declared.item.Item.{Item}
use Rattle.ck_words.specs.declared.back.Back.{Back}
use Rattle.ck_signal.specs.declared.signals.Signals.{Signals}
use Rattle.ck_history.specs.declared.log.Look.{Look}
use Rattle.ck_history.specs.declared.log.LogEntry.{LogEntry}
use Rattle.ck_history.specs.Events.{updates_in, replies_in}
use Rattle.ck_history.specs.Map.{Map, step, after, after_from, answer_after, replies}
use Rattle.ck_history.specs.Places.{AreBoundedFrom}
use Rattle.ck_history.specs.declared.update.Update.{Update}
use Rattle.ck_history.specs.declared.update.Reply.{Reply}
use Rattle.ck_htlaw.specs.declared.client.HtClient.{HtClient}
use Rattle.ck_htlaw.specs.Actions.{most}
use Rattle.ck_htlaw.specs.Known.{knows}
use Rattle.ck_htlaw.specs.Linearized.{updates, map_after, AreReplies}
use Rattle.ck_htlaw.specs.Reached.{with_signals}
use Rattle.ck_htread.specs.Reading.{Looks}
use Rattle.ck_ht.specs.Closed.{ArePlacedInLog, IsClosedTable}
use Rattle.ck_ht.specs.Ends.{HtWriter}
use Rattle.ck_ht.specs.Room.{HasRoomFor}
use Rattle.ck_ht.specs.Events.{Writing, pass_events, hand_events}
use Rattle.ck_ht.specs.Getting.{Repeats, Gets}
use Rattle.ck_ht.proofs.EventSteps.{is_log_of}
use Rattle.ck_script.specs.declared.line.Numbered.{Numbered}
use Rattle.ck_script.specs.declared.line.UpLine.{UpLine}
use Rattle.ck_script.specs.declared.line.UpLine.TheVariants.{Call, Hold}
use Rattle.ck_script.specs.declared.line.AskLine.{AskLine}
use Rattle.ck_script.specs.Script.{said_of}
use Rattle.ck_script.specs.Script as script
use Rattle.ck_pool.specs.Runs.{UpdatesRan}
use Rattle.ck_pool.specs.Places.{AreUnused}
use Rattle.ck_pool.specs.Served.{LineFits, WillFit, AreInOrder, AreServed}
use Rattle.ck_pool.proofs.Composing.{calls_ran}
use Rattle.ck_pool.specs.Results.{AreResults, map_of}
use Rattle.ck_jobs.proofs.Placing.{IsPlacedEye, job_results}
use Rattle.ck_jobs.proofs.Bringing.{after_from-snoc}
use Rattle.ck_jobs.proofs.Lines.{updates_up_to}
use Rattle.ck_jobs.specs.Room.{HasRoomThroughout}
use Rattle.ck_jobs.specs.OnHt.{HashTable, HasRoomAfter, writer_hand, pass_eye}

-- no call changes the record of a pass
module _ (o : Origin (Signals HtClient)) (key : ℕ) where
  looks_number : (t u : Token (Signals HtClient)) (r : Look) → Looks with_signals o key t r u → number u ≡ number t
  looks_number t u r h = ap (λ (v : Token (Signals HtClient)). number v) h.steps

  repeats_number : (vs : List (Token (Signals HtClient))) (t u : Token (Signals HtClient)) → Repeats o key t vs u → number u ≡ number t
  repeats_number [] t u h = ap (λ (v : Token (Signals HtClient)). number v) h
  repeats_number (v ∷ vs) t u h = repeats_number vs v u h.1 ∙ looks_number t v _ h.0.2

  pub gets_number : (t u : Token (Signals HtClient)) (r : Look) → Gets o key t r u → number u ≡ number t
  gets_number t u r h = looks_number h.last u r h.looks ∙ repeats_number h.tokens t h.last h.repeats

-- room for an update, by the writer's log
pub room_for : (h : HashTable) (t : Token (Signals HtClient)) (u : Update ℕ) → HasRoomAfter h (hand_events h.origin t) u
    → HasRoomFor h.origin.config.client.client.arena_log (length (step nat_cmp most (map_after (knows with_signals h.origin t).log) u).0)
room_for h t u room =
    let events = hand_events h.origin t in
    let same : after_from nat_cmp most [] (updates_in events ++ u ∷ []) ≡ (step nat_cmp most (map_after (knows with_signals h.origin t).log) u).0 =
    after_from-snoc nat_cmp most [] (updates_in events) u ∙ ap (λ (us : List (Update ℕ)). (step nat_cmp most (after_from nat_cmp most [] us) u).0) (is_log_of h.origin t).0 in
    subst (λ (m : Map ℕ). HasRoomFor h.origin.config.client.client.arena_log (length m)) same room

-- Where there is room throughout the job's updates, there will be for each of them
module _ {F : Type 0} (pre : F → Item → Type 0) (post : F → Item → Back → Type 0) (h : HashTable) (ups : List (Numbered (UpLine (Update ℕ))))
    (room : HasRoomThroughout h.origin.config.client.client.arena_log (script.updates (said_of ups))) where
  line_fits : (w : HtWriter F) (events : Writing) (rs : List Reply) (i : ℕ) (l : Numbered (UpLine (Update ℕ))) → slice_get ups i ≡ Some l → hand_events h.origin w.writer.token ≡ events → UpdatesRan (take i ups) events rs
      → (x : UpLine (Update ℕ)) → l.what ≡ x → LineFits (writer_hand pre post h) w x
  line_fits w events rs i l here done ran (Call c) is =
      let made : script.updates (said_of (take i ups)) ≡ updates_in (hand_events h.origin w.writer.token) = (calls_ran (take i ups) events rs ran).0 ∙ ap updates_in (sym done) in
      let first = updates_up_to ups i l c here is in
      subst (λ (us : List (Update ℕ)). HasRoomFor h.origin.config.client.client.arena_log (length (after_from nat_cmp most [] (us ++ c ∷ [])))) made
      (subst (λ (us : List (Update ℕ)). HasRoomFor h.origin.config.client.client.arena_log (length (after_from nat_cmp most [] us))) (sym first.1) (room first.0))
  line_fits w events rs i l here done ran (Hold file count) is = tt

  pub will_fit : (given : HtWriter F) → hand_events h.origin given.writer.token ≡ [] → WillFit (writer_hand pre post h) given ups
  will_fit given none i l here w events rs is_ready grown ran = line_fits w events rs i l here (grown ∙ ap (λ (es : Writing). es ++ events) none) ran l.what refl

updates_long : (log : List (LogEntry ℕ)) → length (updates log) ≡ length log
updates_long [] = refl
updates_long (e ∷ log) = let same = updates_long log in omega arith

-- A job was run over a new table, which was closed then
module _ (h : HashTable) (w : Token (Signals HtClient)) (made : table w ≡ h) (backs : List (Pass (Signals HtClient))) (words : List ℕ) (closed : IsClosedTable w backs words) where
  abbrev log : List (LogEntry ℕ)
  log = (knows with_signals h.origin w).log

  abbrev done : Writing
  done = hand_events h.origin w

  abbrev us : List (Update ℕ)
  us = updates_in done

  -- what is known of the table, by its own origin
  us_are : us ≡ updates log
  us_are = (is_log_of h.origin w).0

  map_replies : AreReplies log
  map_replies = subst (λ (t : HashTable). AreReplies (knows with_signals t.origin w).log) made closed.replies

  replied : replies_in done ≡ replies nat_cmp most us
  replied = (is_log_of h.origin w).1 ∙ (map_replies ∙ ap (λ (vs : List (Update ℕ)). replies nat_cmp most vs) (sym us_are))

  bounded : AreBoundedFrom closed.places 0 done
  bounded = subst (λ (t : HashTable). AreBoundedFrom closed.places 0 (hand_events t.origin w)) made closed.bounded

  placed : All (IsPlacedEye (pass_eye h) (length us) (answer_after nat_cmp most us) closed.places) backs
  placed =
      subst (λ (vs : List (Update ℕ)). All (IsPlacedEye (pass_eye h) (length vs) (answer_after nat_cmp most vs) closed.places) backs) (sym us_are)
      (subst (λ (n : ℕ). All (IsPlacedEye (pass_eye h) n (answer_after nat_cmp most (updates log)) closed.places) backs) (sym (updates_long log))
      (subst (λ (t : HashTable). All (λ (p : Pass (Signals HtClient)). ArePlacedInLog (knows with_signals t.origin w).log (pass_events t.origin p.token) (closed.places (rec_of p.token))) backs) made closed.placed))

  left : map_after log ≡ after nat_cmp most us (length us)
  left = ap (λ (vs : List (Update ℕ)). after_from nat_cmp most [] vs) (sym us_are ∙ sym (take_all (length us) us (omega arith)))

  pub table_results : (ups : List (Numbered (UpLine (Update ℕ)))) (rs : List Reply) → UpdatesRan ups done rs
      → (given : List (Pass (Signals HtClient))) (asks : List (List (Numbered (AskLine ℕ)))) (bss : List (List (Option ℕ)))
      → AreUnused (pass_eye h) given → AreServed (pass_eye h) given asks backs bss → AreInOrder (pass_eye h) 0 backs
      → (pairs : Map ℕ) → pairs ≡ map_after log
      → AreResults (map_of most) (script.script_of (said_of ups) (map said_of asks)) rs bss pairs
  table_results ups rs ran given asks bss unused served order pairs are =
      job_results (map_of most) (pass_eye h) ups done rs ran given asks backs bss unused served order replied closed.places bounded placed pairs (are ∙ left)
