-- The steps of the calls: that the domain allows them, and what they tell.
use Rattle.std.proofs.Common.{◌≡◌, ℕ, suc, ◌+◌, ◌-◌, ◌<◌, ◌≤◌, ⊎_elim, inl, inr, slice_index, List, [], ◌∷◌, ◌++◌, length, append_assoc, sym, ap, ◌∙◌, subst, arith}
use Rattle.std.proofs.Math.Nat.{le_trans}
use Rattle.ck_run.specs.declared.account.Account.{Account}
use Rattle.ck_run.specs.declared.account.Entry.{Entry}
use Rattle.ck_run.specs.declared.account.Step.{Step}
use Rattle.ck_run.specs.declared.account.Step.TheVariants.{Load, Store}
use Rattle.ck_run.specs.Range.{word_of}
use Rattle.ck_run.specs.Run.{Run, account, entry}
use Rattle.ck_run.specs.Rule.{unused}
use Rattle.ck_run.specs.Machine.{grow}
use Rattle.ck_run.specs.Tokens.{Table, table, adding, did, number, origin}
use Rattle.ck_run.proofs.Law.{obeys_append, obeys_parts}
use Rattle.ck_run.proofs.Moments.{part_follows}
use Rattle.ck_run.proofs.Runs.{split}
use Rattle.ck_run.proofs.Accounts.{account_grown}
use Rattle.ck_epoch.specs.declared.about.About.{About}
use Rattle.ck_epoch.specs.State.{Origin, Token, base_of, records_of}
use Rattle.ck_epoch.specs.Client.{Client, Passes, LogGrows, AnsweredRises, program}
use Rattle.ck_epoch.specs.Ends.{IsDomainToken, IsReading, IsWriting}
use Rattle.ck_epoch.specs.Calls.{MayFollow}
use Rattle.ck_signal.specs.declared.signals.Signals.{Signals}
use Rattle.ck_signal.specs.Words.{applied_word, answered_word, mark, reached, note, answered as asked, marks, reaches, notes, asks}
use Rattle.ck_signal.specs.Signals.{inside, readers, own_size, MaySignal, signals}
use Rattle.ck_signal.specs.Told.{applied_word_of, answered_word_of, log_length, answers_during, IsRunOf, IsAnswerPlace, AreBelow, TrueSignals, writer_log, pass_answers, HasSeen, HasBeenTold}
use Rattle.ck_signal.specs.Laws.{goes_on}
use Rattle.ck_signal.proofs.TrueSignals.{true_signals}

module _ {C : Type 0} (client : Client C) where
  -- a step on a signal word that is one of the calls
  may_signal : Passes client → (t : Token (Signals C)) (opens : List ℕ) (s : Step) → IsDomainToken (signals client) t → base_of (origin t) + own_size client (origin t) ≤ word_of s
      → MaySignal client (base_of (origin t)) (origin t) t.view.own (entry opens s) → MayFollow (signals client) t (entry opens s)
  may_signal passes t opens s part high may =
      let o = origin t in
      let e : Entry = entry opens s in
      let f = (part_follows (program (signals client)) o t.view.own part).3 in (
        passes (base_of o) (inside o) (number t) (did t) e f.0 (inr high, λ at log is. absurd cc),
        obeys_append grow (MaySignal client (base_of o) o) (unused (number t)) (did t) (e ∷ []) f.1 (subst (λ (a : Account). MaySignal client (base_of o) o a e) (sym (account_grown (unused (number t)) (did t))) may, tt),
      )

  -- a step on a word of the client inside
  pub may_step : (t : Token (Signals C)) (d : Table (About (Signals C))) (e : Entry) → table t ≡ d → IsDomainToken (signals client) t → word_of e.step < base_of d.origin + own_size client d.origin
      → client.follows (base_of (origin t)) (inside (origin t)) (number t) (did t ++ e ∷ []) → MayFollow (signals client) t e
  may_step t d e same part below may =
      let low = subst (λ (x : Table (About (Signals C))). word_of e.step < base_of x.origin + own_size client x.origin) (sym same) below in
      goes_on client (base_of (origin t)) (origin t) (number t) (did t) e (λ s. let from = s.0 in omega arith) (part_follows (program (signals client)) (origin t) t.view.own part).3 may

  -- the words of a call, by the domain's origin
  module _ (t : Token (Signals C)) (o : Origin (Signals C)) (same : origin t ≡ o) (word : ℕ) where
    pub is_mark : (k : ℕ) → word ≡ applied_word (own_size client o) → k ≡ length (writer_log client t) → entry (mark ∷ []) (Store (base_of o + word) k) ≡ marks (applied_word_of client o) (length (writer_log client t))
    is_mark k w v = λ i. marks (base_of o + w i) (v i)

    pub may_mark : Passes client → (k : ℕ) → word ≡ applied_word (own_size client o) → k ≡ length (writer_log client t) → IsWriting (signals client) t
        → MayFollow (signals client) t (entry (mark ∷ []) (Store (base_of o + word) k))
    may_mark passes k w v writing = may_signal passes t (mark ∷ []) (Store (base_of o + word) k) writing.part
        (let high : base_of o + own_size client o ≤ base_of o + word = omega arith in subst (λ (p : Origin (Signals C)). base_of p + own_size client p ≤ base_of o + word) (sym same) high)
        (λ s. inl (writing.first, is_mark k w v ∙ ap (λ (p : Origin (Signals C)). marks (applied_word_of client p) (length (writer_log client t))) (sym same)))

    pub is_reached : (opens : List ℕ) (wanted found : ℕ) → opens ≡ reached ∷ wanted ∷ [] → word ≡ applied_word (own_size client o) → entry opens (Load (base_of o + word) found) ≡ reaches (applied_word_of client o) wanted found
    is_reached opens wanted found name w = λ i. entry (name i) (Load (base_of o + w i) found)

    pub may_reach : Passes client → (opens : List ℕ) (wanted found : ℕ) → opens ≡ reached ∷ wanted ∷ [] → word ≡ applied_word (own_size client o) → IsReading (signals client) t
        → MayFollow (signals client) t (entry opens (Load (base_of o + word) found))
    may_reach passes opens wanted found name w reading = may_signal passes t opens (Load (base_of o + word) found) reading.part
        (let high : base_of o + own_size client o ≤ base_of o + word = omega arith in subst (λ (p : Origin (Signals C)). base_of p + own_size client p ≤ base_of o + word) (sym same) high)
        (λ s. inr (inl (wanted, found, (let other = reading.other in omega arith), is_reached opens wanted found name w ∙ ap (λ (p : Origin (Signals C)). reaches (applied_word_of client p) wanted found) (sym same))))

    -- a pass's record has a word
    pub is_reader : records_of o ≡ readers o → (r : ℕ) → r + 1 ≡ number t → IsReading (signals client) t → r < readers o
    is_reader all r rec reading =
        let low : reading.rec < records_of o = subst (λ (p : Origin (Signals C)). reading.rec < records_of p) same reading.low in
        let other = reading.other in
        omega arith

    pub is_note : (r k : ℕ) → word ≡ answered_word (own_size client o) r → k ≡ pass_answers client t → entry (note ∷ []) (Store (base_of o + word) k) ≡ notes (answered_word_of client o r) (pass_answers client t)
    is_note r k w v = λ i. notes (base_of o + w i) (v i)

    pub may_note : Passes client → records_of o ≡ readers o → (r k : ℕ) → r + 1 ≡ number t → word ≡ answered_word (own_size client o) r → k ≡ pass_answers client t → IsReading (signals client) t
        → MayFollow (signals client) t (entry (note ∷ []) (Store (base_of o + word) k))
    may_note passes all r k rec w v reading = may_signal passes t (note ∷ []) (Store (base_of o + word) k) reading.part
        (let high : base_of o + own_size client o ≤ base_of o + word = omega arith in subst (λ (p : Origin (Signals C)). base_of p + own_size client p ≤ base_of o + word) (sym same) high)
        (λ s. inr (inr (inl (r, (omega arith), subst (λ (p : Origin (Signals C)). r < readers p) (sym same) (is_reader all r rec reading), is_note r k w v ∙ ap (λ (p : Origin (Signals C)). notes (answered_word_of client p r) (pass_answers client t)) (sym same)))))

    pub is_asked : (opens : List ℕ) (r found : ℕ) → opens ≡ asked ∷ r ∷ [] → word ≡ answered_word (own_size client o) r → entry opens (Load (base_of o + word) found) ≡ asks (answered_word_of client o r) r found
    is_asked opens r found name w = λ i. entry (name i) (Load (base_of o + w i) found)

    pub may_ask : Passes client → (opens : List ℕ) (r found : ℕ) → r < readers o → opens ≡ asked ∷ r ∷ [] → word ≡ answered_word (own_size client o) r → IsWriting (signals client) t
        → MayFollow (signals client) t (entry opens (Load (base_of o + word) found))
    may_ask passes opens r found low name w writing = may_signal passes t opens (Load (base_of o + word) found) writing.part
        (let high : base_of o + own_size client o ≤ base_of o + word = omega arith in subst (λ (p : Origin (Signals C)). base_of p + own_size client p ≤ base_of o + word) (sym same) high)
        (λ s. inr (inr (inr (inl (r, found, writing.first, subst (λ (p : Origin (Signals C)). r < readers p) (sym same) low, is_asked opens r found name w ∙ ap (λ (p : Origin (Signals C)). asks (answered_word_of client p r) r found) (sym same))))))

  -- the last step of an account, on a signal word, was one of the calls
  made_signal : (t : Token (Signals C)) (e : Entry) → IsDomainToken (signals client) (adding t (e ∷ [])) → MaySignal client (base_of (origin t)) (origin t) t.view.own e
  made_signal t e part =
      let o = origin t in
      let f = (part_follows (program (signals client)) o (adding t (e ∷ [])).view.own part).3 in
      let last = (obeys_parts grow (MaySignal client (base_of o) o) (unused (number t)) (did t) (e ∷ []) f.1).1.0 in
      subst (λ (a : Account). MaySignal client (base_of o) o a e) (account_grown (unused (number t)) (did t)) last

  -- by whom: a reader loads `applied`, and the writer loads `answered`
  by_reader : (a : Account) (o : Origin (Signals C)) (n found : ℕ) → MaySignal client (base_of o) o a (reaches (applied_word_of client o) n found) → 0 < a.number
  by_reader a o n found may = ⊎_elim (λ m. absurd (let s = ap (λ (x : Entry). x.step) m.1 in cc))
      (λ c. ⊎_elim (λ m. m.2) (λ c. ⊎_elim (λ m. absurd (let s = ap (λ (x : Entry). x.step) m.3 in cc)) (λ c. ⊎_elim (λ m. absurd (let s = ap (λ (x : Entry). slice_index x.opens 0) m.4 in omega arith)) (λ m. m.2) c) c) c)
      (may (omega arith, omega arith))

  by_writer : (a : Account) (o : Origin (Signals C)) (r found : ℕ) → r < readers o → MaySignal client (base_of o) o a (asks (answered_word_of client o r) r found) → a.number ≡ 0
  by_writer a o r found low may = ⊎_elim (λ m. absurd (let s = ap (λ (x : Entry). x.step) m.1 in cc))
      (λ c. ⊎_elim (λ m. absurd (let s = ap (λ (x : Entry). slice_index x.opens 0) m.3 in omega arith)) (λ c. ⊎_elim (λ m. absurd (let s = ap (λ (x : Entry). x.step) m.3 in cc)) (λ c. ⊎_elim (λ m. m.2) (λ m. absurd (let s = ap (λ (x : Entry). slice_index x.opens 0) m.3 in omega arith)) c) c) c)
      (may (omega arith, omega arith))

  -- What the two loads tell, by the law
  module _ (grows : LogGrows client) (rises : AnsweredRises client) (t : Token (Signals C)) where
    law : TrueSignals client
    law = true_signals client grows rises

    abbrev o : Origin (Signals C)
    o = origin t

    seen_then : (n found : ℕ) → IsDomainToken (signals client) (adding t (reaches (applied_word_of client o) n found ∷ [])) → n ≤ found → HasSeen client (adding t (reaches (applied_word_of client o) n found ∷ [])) n
    seen_then n found part enough past rest more run mine =
        let e : Entry = reaches (applied_word_of client o) n found in
        let s = split (number t) past (did t) e more (mine ∙ append_assoc (did t) (e ∷ []) more) in
        let rec : number t ≡ suc (number t - 1) = let other = by_reader t.view.own o n found (made_signal t e part) in omega arith in
        law.reached o past rest (number t - 1) n run (s.past, s.rest, found, (s.parts ∙ ap (λ (k : ℕ). s.past ++ (k, e) ∷ s.rest) rec), enough)

    told_then : (r k : ℕ) → r < readers o → IsDomainToken (signals client) (adding t (asks (answered_word_of client o r) r k ∷ [])) → HasBeenTold client (adding t (asks (answered_word_of client o r) r k ∷ [])) r k (did t)
    told_then r k low part past rest more run mine =
        let e : Entry = asks (answered_word_of client o r) r k in
        let s = split (number t) past (did t) e more (mine ∙ append_assoc (did t) (e ∷ []) more) in
        let first : number t ≡ 0 = by_writer t.view.own o r k low (made_signal t e part) in
        let parts : past ≡ s.past ++ (0, e) ∷ s.rest = s.parts ∙ ap (λ (n : ℕ). s.past ++ (n, e) ∷ s.rest) first in
        let whole : past ++ rest ≡ s.past ++ (0, e) ∷ (s.rest ++ rest) = ap (λ (l : Run). l ++ rest) parts ∙ append_assoc s.past ((0, e) ∷ s.rest) rest in
        let b : AreBelow client o s.past (s.past ++ (0, e) ∷ (s.rest ++ rest)) r k (account 0 s.past) = law.answered o s.past (s.rest ++ rest) r k low (subst (IsRunOf client o) whole run) in
        let same : account 0 s.past ≡ did t = ap (λ (n : ℕ). account n s.past) (sym first) ∙ s.before in
        record {
          given = le_trans b.given (subst (λ (l : Run). answers_during client o s.past r ≤ answers_during client o l r) (sym parts) (law.rises o s.past ((0, e) ∷ s.rest) r));
          places = λ i place few p. subst (λ (es : List Entry). place ≤ log_length client o es) same (b.places i place few (subst (λ (l : Run). IsAnswerPlace client (log_length client o) o l r i place) whole p));
          placed = λ count rising i place few p. subst (λ (es : List Entry). place ≤ count es) same (b.placed count rising i place few (subst (λ (l : Run). IsAnswerPlace client count o l r i place) whole p));
        }

    pub has_seen : (u : Token (Signals C)) (d : Table (About (Signals C))) (n found : ℕ) → table t ≡ d → IsDomainToken (signals client) u → n ≤ found → u ≡ adding t (reaches (applied_word_of client d.origin) n found ∷ [])
        → HasSeen client u n
    has_seen u d n found same part enough made =
        let step = subst (λ (x : Table (About (Signals C))). u ≡ adding t (reaches (applied_word_of client x.origin) n found ∷ [])) (sym same) made in
        subst (λ (x : Token (Signals C)). HasSeen client x n) (sym step) (seen_then n found (subst (IsDomainToken (signals client)) step part) enough)

    pub has_been_told : (u : Token (Signals C)) (d : Table (About (Signals C))) (r k : ℕ) → table t ≡ d → r < readers d.origin → IsDomainToken (signals client) u → u ≡ adding t (asks (answered_word_of client d.origin r) r k ∷ [])
        → HasBeenTold client u r k (did t)
    has_been_told u d r k same low part made =
        let step = subst (λ (x : Table (About (Signals C))). u ≡ adding t (asks (answered_word_of client x.origin r) r k ∷ [])) (sym same) made in
        let few = subst (λ (x : Table (About (Signals C))). r < readers x.origin) (sym same) low in
        subst (λ (x : Token (Signals C)). HasBeenTold client x r k (did t)) (sym step) (told_then r k few (subst (IsDomainToken (signals client)) step part))
