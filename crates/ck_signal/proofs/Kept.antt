-- What the signal words tell is true at opening, and stays true at each step of each token.
use Rattle.std.proofs.Common.{◌≡◌, ◌≢◌, ℕ, ◌+◌, ◌<◌, ◌≤◌, le_refl, ◌⊎◌, ⊎_elim, Bool, cond, List, [], ◌∷◌, ◌++◌, length, set, length-set, get_or, get_or-set_same, get_or-set_other, refl, sym, ap, ◌∙◌, subst, arith}
use Rattle.std.proofs.Math.Nat.{le_trans}
use Rattle.std.proofs.lemmas.Bool.{cases_lt, le-ltb}
use mathlib.Core.Logic.{dite}
use native.Mathlib.Decide.{ℕ_discrete}
use Rattle.ck_run.specs.declared.account.Step.{Step}
use Rattle.ck_run.specs.declared.account.Step.TheVariants.{Load, Store, Exchange}
use Rattle.ck_run.specs.declared.account.Entry.{Entry}
use Rattle.ck_run.specs.declared.account.Account.{Account}
use Rattle.ck_run.specs.Run.{Run, words_after, account}
use Rattle.ck_run.specs.Range.{word_of}
use Rattle.ck_run.specs.Rule.{unused}
use Rattle.ck_run.specs.Machine.{grow, moved, IsInvariantAlong}
use Rattle.ck_run.proofs.Accounts.{account_in, accounts_grow}
use Rattle.ck_epoch.specs.State.{Origin, base_of}
use Rattle.ck_epoch.specs.Client.{Client, LogGrows, AnsweredRises, IsClientOpening}
use Rattle.ck_signal.specs.declared.signals.Signals.{Signals}
use Rattle.ck_signal.specs.Words.{applied_word, answered_word, size_with}
use Rattle.ck_signal.specs.Signals.{readers, own_size, log_by, answers_by, IsMark, IsReached, IsNote, IsAnswered, IsRead, IsSignal, MaySignal, signals}
use Rattle.ck_signal.specs.Told.{applied_word_of, answered_word_of, log_during, answers_during, IsTold}
use Rattle.ck_signal.proofs.Growing.{run_rises, longer}

-- a step leaves the other words
stays : (words : List ℕ) (s : Step) (w : ℕ) → w ≢ word_of s → get_or (words_after words s) w 0 ≡ get_or words w 0
stays words (Load at found) w other = refl
stays words (Store at n) w other = get_or-set_other words at w n 0 other
stays words (Exchange at old new found) w other = get_or-set_other words at w _ 0 other

same_length : (words : List ℕ) (s : Step) → length (words_after words s) ≡ length words
same_length words (Load at found) = refl
same_length words (Store at n) = length-set words at n
same_length words (Exchange at old new found) = length-set words at _

module _ {C : Type 0} (client : Client C) (origin : Origin (Signals C)) where
  -- where the words of the client inside end, and the signal words
  abbrev low : ℕ
  low = base_of origin + own_size client origin

  abbrev high : ℕ
  high = base_of origin + size_with (own_size client origin) (readers origin)

  pub record AreKept (past : Run) (words : List ℕ) (at : ℕ → Account) : Type 0 where
    pub wide : high ≤ length words
    pub accounts : (n : ℕ) → at n ≡ account_in past n
    pub told : IsTold client origin past words

  -- the signal words are 0 at opening
  pub starts : IsClientOpening (signals client) origin → AreKept [] origin.words unused
  starts opening = record {
    wide = let long = opening.long in omega arith;
    accounts = λ n. refl;
    told = record {
      updates = let z = zero_at (applied_word (own_size client origin)) (omega arith) (omega arith) in omega arith;
      answers = λ r few. let z = zero_at (answered_word (own_size client origin) r) (omega arith) (omega arith) in omega arith;
    };
  }
    where
      zero_at : (i : ℕ) → own_size client origin ≤ i → i < size_with (own_size client origin) (readers origin) → get_or origin.words (base_of origin + i) 0 ≡ 0
      zero_at i past few = opening.words i few ∙ ap (λ (b : Bool). cond b (client.first origin.config.client.client i) 0) (le-ltb i (own_size client origin) past)

module _ {C : Type 0} (client : Client C) (grows : LogGrows client) (rises : AnsweredRises client) (origin : Origin (Signals C))
    (past : Run) (words : List ℕ) (at : ℕ → Account) (n : ℕ) (e : Entry) (h : AreKept client origin past words at) where
  abbrev Keeps : List ℕ → Type 0
  Keeps after = AreKept client origin (past ++ (n, e) ∷ []) after (moved at n (grow (at n) e))

  abbrev a : Account
  a = account_in past n

  -- no word is more than it could tell before the step
  goes : (after : List ℕ) → length after ≡ length words → (get_or after (applied_word_of client origin) 0 ≤ length (log_during client origin past))
      → ((r : ℕ) → r < readers origin → get_or after (answered_word_of client origin r) 0 ≤ answers_during client origin past r) → Keeps after
  goes after long updates answers = record {
    wide = subst (λ (k : ℕ). high client origin ≤ k) (sym long) h.wide;
    accounts = λ m. accounts_grow past at n m e h.accounts;
    told = record {
      updates = le_trans updates (longer client grows rises origin past ((n, e) ∷ []));
      answers = λ r few. le_trans (answers r few) (run_rises client grows rises origin past ((n, e) ∷ []) r);
    };
  }

  rests : (after : List ℕ) → length after ≡ length words → ((w : ℕ) → low client origin ≤ w → w < high client origin → get_or after w 0 ≡ get_or words w 0) → Keeps after
  rests after long same = goes after long
      (subst (λ (k : ℕ). k ≤ length (log_during client origin past)) (sym (same (applied_word_of client origin) (omega arith) (omega arith))) h.told.updates)
      (λ r few. subst (λ (k : ℕ). k ≤ answers_during client origin past r) (sym (same (answered_word_of client origin r) (omega arith) (omega arith))) (h.told.answers r few))

  elsewhere : (IsSignal client (base_of origin) origin e → ⊥) → Keeps (words_after words e.step)
  elsewhere else = rests (words_after words e.step) (same_length words e.step) (λ w from to. stays words e.step w (λ is. else (omega arith, omega arith)))

  loads : (word found : ℕ) → e.step ≡ Load word found → Keeps (words_after words e.step)
  loads word found is = subst (λ (s : Step). Keeps (words_after words s)) (sym is) (rests words refl (λ w from to. refl))

  marked : IsMark client (base_of origin) origin a e → Keeps (words_after words e.step)
  marked m =
      let word = applied_word_of client origin in
      let k = length (log_by client (base_of origin) origin (account n past)) in
      let told : k ≤ length (log_during client origin past) = subst (λ (i : ℕ). k ≤ length (log_by client (base_of origin) origin (account i past))) m.0 (le_refl k) in
      subst (λ (x : Entry). Keeps (words_after words x.step)) (sym m.1)
      (goes (set words word k) (length-set words word k)
      (subst (λ (z : ℕ). z ≤ length (log_during client origin past)) (sym (get_or-set_same words word k 0 (let wide = h.wide in omega arith))) told)
      (λ r few. subst (λ (z : ℕ). z ≤ answers_during client origin past r) (sym (get_or-set_other words word (answered_word_of client origin r) k 0 (omega arith))) (h.told.answers r few)))

  noted : IsNote client (base_of origin) origin a e → Keeps (words_after words e.step)
  noted m =
      let r : ℕ = m.0 in
      let word = answered_word_of client origin r in
      let k = answers_by client (base_of origin) origin (account n past) in
      let told : k ≤ answers_during client origin past r = subst (λ (i : ℕ). k ≤ answers_by client (base_of origin) origin (account i past)) m.1 (le_refl k) in
      let here : get_or (set words word k) word 0 ≡ k = get_or-set_same words word k 0 (let wide = h.wide in let few = m.2 in omega arith) in
      subst (λ (x : Entry). Keeps (words_after words x.step)) (sym m.3)
      (goes (set words word k) (length-set words word k)
      (subst (λ (z : ℕ). z ≤ length (log_during client origin past)) (sym (get_or-set_other words word (applied_word_of client origin) k 0 (omega arith))) h.told.updates)
      (λ q few. dite (ℕ_discrete r q)
      (λ (same : r ≡ q). subst (λ (i : ℕ). get_or (set words word k) (answered_word_of client origin i) 0 ≤ answers_during client origin past i) same (subst (λ (z : ℕ). z ≤ answers_during client origin past r) (sym here) told))
      (λ (other : r ≢ q). subst (λ (z : ℕ). z ≤ answers_during client origin past q) (sym (get_or-set_other words word (answered_word_of client origin q) k 0 (λ is. other (omega arith)))) (h.told.answers q few))))

  signalled : IsMark client (base_of origin) origin a e ⊎ (IsReached client (base_of origin) origin a e ⊎ (IsNote client (base_of origin) origin a e ⊎ (IsAnswered client (base_of origin) origin a e ⊎ IsRead origin a e)))
      → Keeps (words_after words e.step)
  signalled c = ⊎_elim marked
      (λ c. ⊎_elim (λ (m : IsReached client (base_of origin) origin a e). loads (applied_word_of client origin) m.1 (ap (λ (x : Entry). x.step) m.3))
      (λ c. ⊎_elim noted
      (λ c. ⊎_elim (λ (m : IsAnswered client (base_of origin) origin a e). loads (answered_word_of client origin m.0) m.1 (ap (λ (x : Entry). x.step) m.4))
      (λ (m : IsRead origin a e). loads (base_of origin + m.0) m.1 (ap (λ (x : Entry). x.step) m.3)) c) c) c) c

  each_keeps : MaySignal client (base_of origin) origin a e → Keeps (words_after words e.step)
  each_keeps may = ⊎_elim
      (λ (below : word_of e.step < low client origin). elsewhere (λ s. let from = s.0 in omega arith))
      (λ (from : low client origin ≤ word_of e.step). ⊎_elim (λ (to : word_of e.step < high client origin). signalled (may (from, to)))
      (λ (past : high client origin ≤ word_of e.step). elsewhere (λ s. let to = s.1 in omega arith)) (cases_lt (word_of e.step) (high client origin)))
      (cases_lt (word_of e.step) (low client origin))

pub keeps : {C : Type 0} (client : Client C) → LogGrows client → AnsweredRises client → (origin : Origin (Signals C))
    → IsInvariantAlong grow (MaySignal client (base_of origin) origin) (AreKept client origin)
keeps client grows rises origin past words at n e h may fits =
    each_keeps client grows rises origin past words at n e h (subst (λ (b : Account). MaySignal client (base_of origin) origin b e) (h.accounts n) may)
