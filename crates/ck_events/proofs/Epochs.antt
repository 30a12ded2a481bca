-- The steps of a wait, a round and a poll are on the words of the epochs, and none of them is told.
use Rattle.std.proofs.Common.{◌≡◌, ℕ, ◌+◌, ◌<◌, ◌≤◌, Bool, true, false, cond, ◌==◌, List, [], ◌∷◌, ◌++◌, length, map, length-append, refl, sym, subst, arith}
use Rattle.std.specs.Prelude.{All}
use Rattle.std.proofs.lemmas.List.Elements.{All-nil, All-cons, All-head, All-tail, All-append}
use Rattle.ck_run.specs.declared.account.Step.{Step}
use Rattle.ck_run.specs.declared.account.Step.TheVariants.{Load, Exchange}
use Rattle.ck_run.specs.declared.account.Entry.{Entry}
use Rattle.ck_run.specs.Range.{word_of}
use Rattle.ck_run.specs.Run.{call, entry, further}
use Rattle.ck_run.specs.Tokens.{adding}
use Rattle.ck_epoch.specs.declared.answers.Poll.{Poll}
use Rattle.ck_epoch.specs.declared.answers.Poll.TheVariants.{Clear, Moved, Blocked}
use Rattle.ck_epoch.specs.State.{Token, active_word, epoch_word, base, poll, barrier}
use Rattle.ck_epoch.specs.Calls.{RecordLook, Polls, look_steps, scan_steps}
use Rattle.ck_epoch.specs.Rounds.{wait_steps, waits_steps, IsRound, Rounds}
use Rattle.ck_events.proofs.Steps.{AreQuiet, call_quiet}

module _ (records : ℕ) where
  abbrev IsLow : Step → Type 0
  IsLow s = word_of s < base records

  low_look : (rec : ℕ) (l : RecordLook) → rec < records → All IsLow (look_steps rec l)
  low_look rec l low = All-cons IsLow (Load (active_word rec) l.active) (cond (l.active == 0) [] (Load (epoch_word rec) l.epoch ∷ [])) (omega arith) (by (l.active == 0))
    where
      by : (b : Bool) → All IsLow (cond b [] (Load (epoch_word rec) l.epoch ∷ []))
      by true = All-nil IsLow
      by false = All-cons IsLow (Load (epoch_word rec) l.epoch) [] (omega arith) (All-nil IsLow)

  low_wait : (rec : ℕ) (ls : List RecordLook) → rec < records → All IsLow (wait_steps rec ls)
  low_wait rec [] low = All-nil IsLow
  low_wait rec (l ∷ ls) low = All-append IsLow (look_steps rec l) (wait_steps rec ls) (low_look rec l low) (low_wait rec ls low)

  low_waits : (rec : ℕ) (waits : List (List RecordLook)) → rec + length waits ≤ records → All IsLow (waits_steps rec waits)
  low_waits rec [] low = All-nil IsLow
  low_waits rec (looks ∷ rest) low = All-append IsLow (wait_steps rec looks) (waits_steps (rec + 1) rest) (low_wait rec looks (omega arith)) (low_waits (rec + 1) rest (omega arith))

  low_round : (e : ℕ) (steps : List Step) → IsRound records e steps → All IsLow steps
  low_round e steps r =
      let waits = waits_steps 0 r.0 in
      subst (All IsLow) (sym r.3) (All-cons IsLow (Load 0 e) (waits ++ Exchange 0 e (e + 1) e ∷ []) (omega arith)
      (All-append IsLow waits (Exchange 0 e (e + 1) e ∷ []) (low_waits 0 r.0 (let n = r.1 in omega arith)) (All-cons IsLow (Exchange 0 e (e + 1) e) [] (omega arith) (All-nil IsLow))))

  low_scan : (rec : ℕ) (ls : List RecordLook) → rec + length ls ≤ records → All IsLow (scan_steps rec ls)
  low_scan rec [] low = All-nil IsLow
  low_scan rec (l ∷ ls) low = All-append IsLow (look_steps rec l) (scan_steps (rec + 1) ls) (low_look rec l (omega arith)) (low_scan (rec + 1) ls (omega arith))

  low_poll : (e : ℕ) (ls : List RecordLook) (end : List Step) → length ls ≤ records → All IsLow end → All IsLow (Load 0 e ∷ scan_steps 0 ls ++ end)
  low_poll e ls end low ends = All-cons IsLow (Load 0 e) (scan_steps 0 ls ++ end) (omega arith) (All-append IsLow (scan_steps 0 ls) end (low_scan 0 ls (omega arith)) ends)

  -- such a step hands no item over
  abbrev pub IsLowEntry : Entry → Type 0
  IsLowEntry e = (word_of e.step < base records) × (e.item ≡ [])

  low_further : (ss : List Step) → All IsLow ss → All IsLowEntry (map further ss)
  low_further [] h = All-nil IsLowEntry
  low_further (s ∷ ss) h = All-cons IsLowEntry (further s) (map further ss) (All-head IsLow s ss h, refl) (low_further ss (All-tail IsLow s ss h))

  low_call : (name : ℕ) (ss : List Step) → All IsLow ss → All IsLowEntry (call name [] ss)
  low_call name [] h = All-nil IsLowEntry
  low_call name (s ∷ ss) h = All-cons IsLowEntry (entry (name ∷ []) s) (map further ss) (All-head IsLow s ss h, refl) (low_further ss (All-tail IsLow s ss h))

  -- what is so of these entries, by which t has become u
  abbrev pub AreOfEpochs : {C : Type 0} → Token C → Token C → List Entry → Type 0
  AreOfEpochs t u es = (u ≡ adding t es) × All IsLowEntry es × AreQuiet es

  -- the steps of a barrier
  pub barrier_steps : {C : Type 0} (e : ℕ) (t u : Token C) → Rounds records barrier e t u → (es : List Entry) × AreOfEpochs t u es
  barrier_steps e t u r =
      let ss = r.0 ++ r.1 in
      (call barrier [] ss, (r.4, low_call barrier ss (All-append IsLow r.0 r.1 (low_round e r.0 r.2) (low_round (e + 1) r.1 r.3)), call_quiet barrier ss (λ e. omega arith)))

  -- the steps of a poll
  pub poll_steps : {C : Type 0} (e : ℕ) (t u : Token C) (answer : Poll) → Polls records e t answer u → (es : List Entry) × AreOfEpochs t u es
  poll_steps {C} e t u answer p = by answer p
    where
      made : (ss : List Step) → u ≡ adding t (call poll [] ss) → All IsLow ss → (es : List Entry) × AreOfEpochs t u es
      made ss is low = (call poll [] ss, (is, low_call poll ss low, call_quiet poll ss (λ e. omega arith)))

      by : (answer : Poll) → Polls records e t answer u → (es : List Entry) × AreOfEpochs t u es
      by (Clear n) p = made (Load 0 e ∷ scan_steps 0 p.looked) p.steps (All-cons IsLow (Load 0 e) (scan_steps 0 p.looked) (omega arith) (low_scan 0 p.looked (let all = p.all in omega arith)))
      by (Moved n rec) p = made (Load 0 e ∷ scan_steps 0 p.looked ++ Exchange 0 e (e + 1) e ∷ []) p.steps (low_poll e p.looked (Exchange 0 e (e + 1) e ∷ []) (let all = p.all in omega arith) (All-cons IsLow (Exchange 0 e (e + 1) e) [] (omega arith) (All-nil IsLow)))
      by (Blocked n rec epoch) p =
          let ls = p.before ++ record { active = p.active; epoch = epoch } ∷ [] in
          made (Load 0 e ∷ scan_steps 0 ls) p.steps (All-cons IsLow (Load 0 e) (scan_steps 0 ls) (omega arith) (low_scan 0 ls (let many = length-append p.before (record { active = p.active; epoch = epoch } ∷ []) in let at = p.at in let low = p.low in omega arith)))
