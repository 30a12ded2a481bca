-- What is known of an array when it is closed.
use Rattle.std.proofs.Common.{◌≡◌, ℕ, zero, suc, ◌+◌, get_or, List, [], ◌∷◌, ◌++◌, length, map, append-nil, drop, refl, sym, ap, ◌∙◌, subst, arith}
use Rattle.std.specs.Prelude.{All}
use Rattle.std.proofs.lemmas.List.{get_or-drop}
use mathlib.Core.Option.{some, some-injective}
use lib.ListN.{get_elem?}
use Rattle.ck_run.specs.declared.account.Entry.{Entry}
use Rattle.ck_run.specs.Run.{Run, replay, account}
use Rattle.ck_run.specs.Tokens.{origin, number, did}
use Rattle.ck_history.specs.declared.edit.Edit.{Edit}
use Rattle.ck_history.specs.Lists.{empty_lists, lists_after_from, committed_after}
use Rattle.ck_history.specs.Places.{AreBoundedFrom}
use Rattle.ck_epoch.specs.declared.item.Item.{Item}
use Rattle.ck_epoch.specs.State.{Origin, Token, base_of}
use Rattle.ck_epoch.specs.Calls.{rec_of}
use Rattle.ck_epoch.specs.Closing.{IsClosedDomain}
use Rattle.ck_epoch.specs.Ends.{Pass}
use Rattle.ck_signal.specs.declared.signals.Signals.{Signals}
use Rattle.ck_signal.specs.Signals.{signals}
use Rattle.ck_signal.specs.Told.{TrueSignals}
use Rattle.ck_events.specs.Events.{reader_events, writer_events}
use Rattle.ck_events.specs.Places.{places_from}
use Rattle.ck_events.proofs.Placed.{given_in, AreRight, placed}
use Rattle.ck_events.proofs.Bounded.{is_log, bounded}
use Rattle.ck_arraylaw.specs.declared.client.ArrayClient.{ArrayClient}
use Rattle.ck_arraylaw.specs.Array.{ReaderState, reader}
use Rattle.ck_arraylaw.specs.Client.{array, array_start, local_after, logged}
use Rattle.ck_arraylaw.specs.Host.{floor_word, base_word}
use Rattle.ck_arraylaw.specs.Known.{knows}
use Rattle.ck_arraylaw.specs.Law.{ArrayLaw, WordsStand, IsArrayRun, local_in, edits_in, linearized, read_stage_of, region_in, committed_in}
use Rattle.ck_arraylaw.specs.Reached.{with_signals}
use Rattle.ck_array.specs.Answered.{answers_in, HavePlaces}
use Rattle.ck_array.specs.Closed.{ArrayStandsFor, ArePlacedInLog, IsClosedArray}
use Rattle.ck_array.specs.Ends.{edits_by, IsPassReady}
use Rattle.ck_array.specs.Events.{answer_of, IsLogOf, known, pass_events, hand_events}
use Rattle.ck_array.specs.Reads.{resting}
use Rattle.ck_array.proofs.Elsewhere.{writer_number, reader_number}
use Rattle.ck_array.proofs.EventSteps.{IsIdle, no_read_is, edits_of, replies_of, log_grows, adds_one}
use Rattle.ck_array.proofs.Placing.{mono, places_law}
use Rattle.ck_array.proofs.Counts.{settled, answers_long, few_given, log_is_whole}
use Rattle.ck_arraylaw.proofs.Reaching.{has_logged}

-- the words that are left stand as those of the run did
words_stand : (o : Origin (Signals ArrayClient)) (run : Run) (words members : List ℕ) → WordsStand with_signals o run → words ≡ drop (base_of o) (replay o.words run) → committed_in with_signals o run ≡ members → ArrayStandsFor words members
words_stand o run words members h left is =
    let ws = replay o.words run in
    let word : (i j : ℕ) → j ≡ base_of o + i → get_or ws j 0 ≡ get_or words i 0 = λ i j e. ap (λ (x : ℕ). get_or ws x 0) e ∙ (sym (get_or-drop (base_of o) ws i 0) ∙ ap (λ (xs : List ℕ). get_or xs i 0) (sym left)) in
    let r : Item = region_in with_signals o run in
    subst (λ (ms : List ℕ). ArrayStandsFor words ms) is record {
      region = r;
      root = sym (word 0 (base_word with_signals o) (omega arith)) ∙ h.root;
      inside = h.inside;
      list = record {
        all = record {
          count = sym (word (0 + r.at) (base_word with_signals o + r.at) (omega arith)) ∙ h.list.all.count;
          member = λ j low. sym (word (0 + r.at + 1 + j) (base_word with_signals o + r.at + 1 + j) (omega arith)) ∙ h.list.all.member j low;
        };
        room = h.list.room;
      };
    }

-- an item of a list that was mapped
mapped : {A B : Type 0} (f : A → B) (xs : List A) (i : ℕ) (y : B) → get_elem? (map f xs) i ≡ some y → (x : A) × (get_elem? xs i ≡ some x) × (f x ≡ y)
mapped f [] i y at = absurd cc
mapped f (x ∷ xs) zero y at = (x, refl, some-injective (f x) y at)
mapped f (x ∷ xs) (suc i) y at = mapped f xs i y at

module _ (told : TrueSignals array) (laws : (o : Origin (Signals ArrayClient)) → ArrayLaw with_signals o) (w : Token (Signals ArrayClient)) (ps : List (Pass (Signals ArrayClient))) (words : List ℕ) (c : IsClosedDomain (signals array) w ps words)
    (free : IsIdle (knows with_signals (origin w) w)) (ready : All (λ (p : Pass (Signals ArrayClient)). IsPassReady (origin w) p) ps) where
  abbrev o : Origin (Signals ArrayClient)
  o = origin w

  abbrev f : ℕ
  f = floor_word with_signals o

  abbrev b : ℕ
  b = base_word with_signals o

  first : number w ≡ 0
  first = writer_number f b (number w) (did w) free.0 free.1

  mine : account 0 c.run ≡ did w
  mine = ap (λ (n : ℕ). account n c.run) (sym first) ∙ c.writer

  whole : IsArrayRun with_signals o (c.run ++ [])
  whole = subst (IsArrayRun with_signals o) (sym (append-nil c.run)) c.is_run

  local : local_in with_signals o c.run 0 ≡ knows with_signals o w
  local = λ i. local_after f b (sym first i) (mine i)

  log : edits_in with_signals o c.run ≡ edits_by o w
  log = settled (local_in with_signals o c.run 0) (free.0, local ∙ free.1, free.2) ∙ ap logged local

  abbrev place : ℕ → ℕ → ℕ
  place r = (places_law with_signals o (laws o) c.run r c.is_run).0

  all_have : (r : ℕ) → HavePlaces with_signals o c.run r (place r)
  all_have r = (places_law with_signals o (laws o) c.run r c.is_run).1

  long : (r : ℕ) (run : Run) → length (given_in array o (known o) run r) ≡ length (answers_in with_signals o run r)
  long r run = answers_long o run r

  abbrev places : ℕ → List ℕ
  places r = places_from (place r) 0 (length (answers_in with_signals o c.run r))

  module _ (p : Token (Signals ArrayClient)) (p_did : account (number p) c.run ≡ did p) (y : ReaderState) (at : knows with_signals o p ≡ reader y) where
    num : (r : ℕ) × (number p ≡ suc r)
    num = reader_number f b (number p) (did p) y at

    rec : num.0 ≡ rec_of p
    rec = let z = num.1 in omega arith

    did_p : account (suc num.0) c.run ≡ did p
    did_p = ap (λ (n : ℕ). account n c.run) (sym num.1) ∙ p_did

    -- what is known of the places
    right : AreRight array o (known o) told (linearized with_signals o) (mono with_signals o (laws o)) (has_logged o (laws o)) c.run c.is_run num.0 (λ p q. committed_after (edits_in with_signals o c.run) p) (place num.0)
    right = let h = all_have num.0 in record {
      gave = λ i x at. let m = mapped answer_of (answers_in with_signals o c.run num.0) i x at in ap (λ (x : Unit {0} × List ℕ). x.1) (sym m.2) ∙ h.gave i m.0 m.1;
      rise = λ i j le low. h.are.rise i j le (let l = long num.0 c.run in omega arith);
      before = λ past rest i e given. h.are.before past rest i e (let l = long num.0 past in omega arith);
      since = λ past rest i e is_out few low. h.are.since past rest i e (no_read_is (read_stage_of (local_in with_signals o past (suc num.0))) is_out) (let l = long num.0 past in omega arith) (let l = long num.0 c.run in omega arith);
    }

    placed_p : ArePlacedInLog (edits_by o w) (pass_events o p) (places (rec_of p))
    placed_p = subst (λ (us : List Edit). ArePlacedInLog us (pass_events o p) (places (rec_of p))) log
        (subst (λ (r : ℕ). ArePlacedInLog (edits_in with_signals o c.run) (pass_events o p) (places r)) rec
        (subst (λ (n : ℕ). ArePlacedInLog (edits_in with_signals o c.run) (reader_events array o (known o) (array_start n) (did p)) (places num.0)) (sym num.1)
        (subst (λ (m : ℕ). ArePlacedInLog (edits_in with_signals o c.run) (reader_events array o (known o) (array_start (suc num.0)) (did p)) (places_from (place num.0) 0 m)) (long num.0 c.run)
        (subst (λ (es : List Entry). ArePlacedInLog (edits_in with_signals o c.run) (reader_events array o (known o) (array_start (suc num.0)) es) (places_from (place num.0) 0 (length (given_in array o (known o) c.run num.0)))) did_p
        (placed array o (known o) told (linearized with_signals o) (mono with_signals o (laws o)) (has_logged o (laws o)) c.run c.is_run num.0 (λ p q. committed_after (edits_in with_signals o c.run) p) (place num.0) right (adds_one o num.0) refl)))))

  -- the edits of the writer's events
  is_log_of : IsLogOf (hand_events o w) (edits_by o w)
  is_log_of = let h = is_log array o (known o) (log_grows o) w (none (number w) first) in (h.0 ∙ edits_of empty_lists (edits_by o w), h.1 ∙ replies_of empty_lists (edits_by o w))
    where
      none : (n : ℕ) → n ≡ 0 → (known o).log ((known o).start n) ≡ []
      none n is = ap (λ (m : ℕ). (known o).log ((known o).start m)) is

  are_bounded : AreBoundedFrom places 0 (hand_events o w)
  are_bounded = subst (λ (n : ℕ). AreBoundedFrom places 0 (writer_events array o (known o) (array_start n) (did w))) (sym first)
      (subst (λ (es : List Entry). AreBoundedFrom places 0 (writer_events array o (known o) (array_start 0) es)) mine
      (subst (λ (ps : ℕ → List ℕ). AreBoundedFrom ps 0 (writer_events array o (known o) (array_start 0) (account 0 c.run))) (λ i r. places_from (place r) 0 (long r c.run i))
      (bounded array o (known o) (log_grows o) told (linearized with_signals o) (few_given o) (log_is_whole o) c.run c.is_run place
      (λ r past rest i e given. (all_have r).are.before past rest i e (let l = long r past in omega arith)) refl)))

  pub is_closed : IsClosedArray w ps words
  is_closed = record {
    run = c.run;
    is_run = c.is_run;
    writer = mine;
    passes = c.passes;
    leaves = c.leaves;
    safe = c.safe;
    epochs = c.epochs;
    log = log;
    stand = words_stand o c.run words (lists_after_from empty_lists (edits_by o w)).committed ((laws o).stand c.run [] whole) c.leaves (ap (λ (l : List Edit). (lists_after_from empty_lists l).committed) log);
    logged = is_log_of;
    place = place;
    have_places = all_have;
    places = places;
    listed = λ r. refl;
    placed = λ i d low. let q = get_or ps i d in let r = ready i d low in placed_p q.token (c.passes i d low).1 (resting r.answers) r.local;
    bounded = are_bounded;
  }
