-- The places of a pass's answers stay as they are when it sees more, and the next answer's is the greatest.
use Rattle.std.proofs.Common.{◌≡◌, ℕ, ◌≤◌, max, List, [], ◌∷◌, ◌++◌, length, take, Option, Result, refl, sym, ap, ◌∙◌, arith}
use Rattle.std.proofs.lemmas.List.{length-map, map-append}
use Rattle.std.proofs.Math.Seq.{take-length}
use Rattle.std.specs.Ordering.{nat_cmp}
use mathlib.Core.List.{IsPrefix}
use Rattle.ck_history.specs.declared.event.WriterEvent.TheVariants.{Updated, Told}
use Rattle.ck_history.specs.declared.event.ReaderEvent.TheVariants.{Answered, Reached}
use Rattle.ck_history.specs.declared.log.LogEntry.{LogEntry}
use Rattle.ck_history.specs.declared.log.Placed.{Placed}
use Rattle.ck_history.specs.declared.update.Update.{Update}
use Rattle.ck_history.specs.Events.{known_by}
use Rattle.ck_history.specs.Map.{find, after_from, answer_after}
use Rattle.ck_history.specs.Places.{ArePlacedAt}
use Rattle.ck_history.proofs.Placing as places
use Rattle.ck_history.proofs.Placing.{answer_after-append}
use Rattle.ck_snap.specs.Log.{Log, most_pairs, updates, map_after}
use Rattle.ck_snap.specs.Places.{Writing, Reading, log_of_events, answers_at, ArePlacedIn}
use Rattle.ck_snap.proofs.Prefixes.{prefix_length}

abbrev answers : Log → ℕ → ℕ → Option ℕ
answers log = answer_after nat_cmp most_pairs (updates log)

-- after fewer updates the answers are those of each longer log
answers_later : (log more : Log) → IsPrefix log more → (p k : ℕ) → p ≤ length log → answers more p k ≡ answers log p k
answers_later log more pre p k le =
    let whole : updates more ≡ updates log ++ updates pre.0 = ap updates (sym pre.1) ∙ map-append (λ (e : LogEntry ℕ). e.update) log pre.0 in
    let long = length-map log (λ (e : LogEntry ℕ). e.update) in
    rw whole (answer_after-append nat_cmp most_pairs (updates log) (updates pre.0) p k (omega arith))

-- the answer after all updates
answers_last : (log : Log) (k : ℕ) → answers log (length log) k ≡ find nat_cmp (map_after log) k
answers_last log k =
    let all : take (length log) (updates log) ≡ updates log = rw (← length-map log (λ (e : LogEntry ℕ). e.update)) (take-length (updates log)) in
    ap (λ (us : List (Update ℕ)). find nat_cmp (after_from nat_cmp most_pairs [] us) k) all

module _ (log more : Log) (pre : IsPrefix log more) (es : Reading) (ps : List ℕ) (h : ArePlacedIn log es ps) where
  pub placed_later : ArePlacedIn more es ps
  placed_later = places.placed_later (length log) (length more) (answers log) (answers more) (prefix_length log more pre) (answers_later log more pre) 0 es ps h

  -- one more answer, after all that is seen
  pub placed_answered : (k : ℕ) (a : Option ℕ) → a ≡ find nat_cmp (map_after more) k → ArePlacedIn more (es ++ Answered k a ∷ []) (ps ++ length more ∷ [])
  placed_answered k a is = places.placed_answered (length more) (answers more) 0 es ps k a placed_later (is ∙ sym (answers_last more k))

  -- one more `reached`
  pub placed_reached : (n : ℕ) (result : Result (Unit {0}) ℕ) → known_by n result ≤ length more → ArePlacedIn more (es ++ Reached n result ∷ []) ps
  placed_reached n result le = places.placed_reached (length more) (answers more) 0 es ps n result placed_later le

-- the log of two lists of events
pub log_of_events-append : (es fs : Writing) → log_of_events (es ++ fs) ≡ log_of_events es ++ log_of_events fs
log_of_events-append [] fs = refl
log_of_events-append (Updated u r ∷ es) fs = ap (λ (l : Log). record { update = u; reply = r } ∷ l) (log_of_events-append es fs)
log_of_events-append (Told reader k ∷ es) fs = log_of_events-append es fs

module _ (count : ℕ) (gives : ℕ → ℕ → Option ℕ) where
  answered_snoc : (least : ℕ) (es : Reading) (ps : List ℕ) (k : ℕ) (a : Option ℕ) (p : ℕ) → ArePlacedAt count gives least es ps → answers_at (es ++ Answered k a ∷ []) (ps ++ p ∷ []) ≡ answers_at es ps ++ record { key = k; answer = a; place = p } ∷ []
  answered_snoc least [] [] k a p h = refl
  answered_snoc least [] (q ∷ ps) k a p h = absurd h
  answered_snoc least (Answered j b ∷ es) [] k a p h = absurd h
  answered_snoc least (Answered j b ∷ es) (q ∷ ps) k a p h = ap (λ (l : List (Placed ℕ)). record { key = j; answer = b; place = q } ∷ l) (answered_snoc q es ps k a p h.2)
  answered_snoc least (Reached n result ∷ es) ps k a p h = answered_snoc (max least (known_by n result)) es ps k a p h

  reached_snoc : (least : ℕ) (es : Reading) (ps : List ℕ) (m : ℕ) (told : Result (Unit {0}) ℕ) → ArePlacedAt count gives least es ps → answers_at (es ++ Reached m told ∷ []) ps ≡ answers_at es ps
  reached_snoc least [] [] m told h = refl
  reached_snoc least [] (q ∷ ps) m told h = absurd h
  reached_snoc least (Answered j b ∷ es) [] m told h = absurd h
  reached_snoc least (Answered j b ∷ es) (q ∷ ps) m told h = ap (λ (l : List (Placed ℕ)). record { key = j; answer = b; place = q } ∷ l) (reached_snoc q es ps m told h.2)
  reached_snoc least (Reached n result ∷ es) ps m told h = reached_snoc (max least (known_by n result)) es ps m told h

module _ (log : Log) (es : Reading) (ps : List ℕ) (h : ArePlacedIn log es ps) where
  -- the answers with one more
  pub answers_at-answered : (k : ℕ) (a : Option ℕ) (p : ℕ) → answers_at (es ++ Answered k a ∷ []) (ps ++ p ∷ []) ≡ answers_at es ps ++ record { key = k; answer = a; place = p } ∷ []
  answers_at-answered k a p = answered_snoc (length log) (answers log) 0 es ps k a p h

  -- and after a `reached`
  pub answers_at-reached : (n : ℕ) (result : Result (Unit {0}) ℕ) → answers_at (es ++ Reached n result ∷ []) ps ≡ answers_at es ps
  answers_at-reached n result = reached_snoc (length log) (answers log) 0 es ps n result h
