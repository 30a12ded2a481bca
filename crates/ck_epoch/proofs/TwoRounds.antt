-- The rounds of `synchronize` and `barrier`, and what holds after them.
use Rattle.std.proofs.Common.{◌≡◌, ℕ, ◌+◌, ◌^◌, ◌<◌, ◌≤◌, ◌⊎◌, inl, inr, Bool, true, false, cond, nat_lt, Option, None, List, [], ◌∷◌, ◌++◌, map, length, All, refl, sym, ap, ◌∙◌, subst, arith}
use Rattle.std.proofs.lemmas.Bool.Decides.{nat_tests}
use Rattle.std.proofs.lemmas.List.{map-append, append_assoc, append-nil, length-append}
use Rattle.std.proofs.lemmas.List.Elements.{All-push, All-nil}
use Rattle.ck_run.specs.declared.account.Step.{Step}
use Rattle.ck_run.specs.declared.account.Step.TheVariants.{Load, Exchange}
use Rattle.ck_run.specs.declared.account.Entry.{Entry}
use Rattle.ck_run.specs.Run.{index_in, Run, entry, further, account}
use Rattle.ck_run.specs.Rule.{IsRun}
use Rattle.ck_run.specs.Machine.{follows_of, IsAt}
use Rattle.ck_run.specs.Tokens.{Table, table, did, origin, number, adding, MayMake}
use Rattle.ck_run.proofs.Moments.{run_weaker, run_before, part_weaker, table_stays, number_stays, adds_one, adding-append}
use Rattle.ck_epoch.specs.declared.about.About.{About}
use Rattle.ck_epoch.specs.State.{base, synchronize, barrier, poll, Task, polling, first_round, second_round, Stage, free, scanning, between, TokenState, Retires, Calls, after_load, after_raise, Origin, Token, records_of, epochs, queue, state, state_at}
use Rattle.ck_epoch.specs.Epochs.{IsOpen}
use Rattle.ck_epoch.specs.Held.{IsScan}
use Rattle.ck_epoch.specs.Client.{Client, Passes, program}
use Rattle.ck_epoch.specs.Lists.{Backlog, AreListsOf, AreRetired}
use Rattle.ck_epoch.specs.Ends.{IsDomainToken, IsWriter as IsBetween}
use Rattle.ck_epoch.specs.Calls.{RecordLook}
use Rattle.ck_epoch.specs.Rounds.{wait_steps, IsWait, waits_steps, IsRound, IsWaiting, name_of, after_rounds, Rounds, HaveEnded, IsInRound, ScansOn, IsWriterFree}
use Rattle.ck_epoch.proofs.Stepping.{Steps, may_epochs, state_after_step}
use Rattle.ck_epoch.proofs.EpochLaw.{held_after, has_waited}
use Rattle.ck_run.proofs.Runs.{count, index_stays, index_below, cut}
use Rattle.ck_epoch.proofs.OpenSections.{was_open}
use Rattle.ck_epoch.proofs.Moments.{writer_knows, loads_global, finds_global}
use Rattle.ck_epoch.proofs.Waits.{HasPassed, next_at, may_at, scans_both, scans_none, adds_none}

waits_snoc : (rec : ℕ) (waits : List (List RecordLook)) (looks : List RecordLook) → waits_steps rec (waits ++ looks ∷ []) ≡ waits_steps rec waits ++ wait_steps (rec + length waits) looks
waits_snoc rec [] looks = append-nil (wait_steps rec looks) ∙ ap (λ (k : ℕ). wait_steps k looks) (omega arith)
waits_snoc rec (w ∷ ws) looks = ap (λ (z : List Step). wait_steps rec w ++ z) (waits_snoc (rec + 1) ws looks ∙ ap (λ (k : ℕ). waits_steps (rec + 1) ws ++ wait_steps k looks) (omega arith))
    ∙ sym (append_assoc (wait_steps rec w) (waits_steps (rec + 1) ws) (wait_steps (rec + length (w ∷ ws)) looks))

-- what is raised is the same, but for the stage and the number of steps before
raise_same : (task : Task) → IsWaiting task → (s : TokenState) (g : Stage) (n m e : ℕ) → record (after_raise (record s { stage = g; steps = n }) task e) { steps = m } ≡ record (after_raise s task e) { steps = m }
raise_same (first_round all x) w s g n m e = refl
raise_same (second_round true x) w s g n m e = refl
raise_same (second_round false x) w s g n m e = refl
raise_same polling w s g n m e = absurd w

-- the token t has waited for the records below `rec` since it was t0
pub record HasWaited {C : Type 0} (client : Client C) (e rec : ℕ) (t0 t : Token C) : Type 0 where
  pub same : table t ≡ table t0
  pub scans : IsInRound client e rec t
  pub on : ScansOn e 0 rec t0 t
  pub waits : List (List RecordLook)
  pub count : length waits ≡ rec
  pub each : All (IsWait e) waits
  pub did : t ≡ adding t0 (map further (waits_steps 0 waits))

module _ {C : Type 0} (client : Client C) (e : ℕ) where
  pub not_waited : (t : Token C) → IsInRound client e 0 t → HasWaited client e 0 t t
  not_waited t i = record { same = refl; scans = i; on = scans_none client e 0 t; waits = []; count = refl; each = All-nil (IsWait e); did = adds_none t }

  pub waits_more : (rec : ℕ) (t0 t u : Token C) → HasWaited client e rec t0 t → HasPassed client e rec t u → HasWaited client e (rec + 1) t0 u
  waits_more rec t0 t u h p = record {
    same = p.same ∙ h.same;
    scans = p.scans.0;
    on = scans_both client e 0 rec (rec + 1) t0 t u h.on p.scans.1;
    waits = h.waits ++ p.did.0 ∷ [];
    count = let n = h.count in length-append h.waits (p.did.0 ∷ []) ∙ ap (λ (k : ℕ). k + 1) n;
    each = All-push (IsWait e) h.waits p.did.0 h.each p.did.1;
    did = p.did.2 ∙ (ap (λ (x : Token C). adding x (map further (wait_steps rec p.did.0))) h.did
        ∙ (adding-append t0 (map further (waits_steps 0 h.waits)) (map further (wait_steps rec p.did.0))
        ∙ ap (adding t0) (sym (map-append further (waits_steps 0 h.waits) (wait_steps rec p.did.0))
        ∙ ap (map further) (sym (waits_snoc 0 h.waits p.did.0 ∙ ap (λ (k : ℕ). waits_steps 0 h.waits ++ wait_steps k p.did.0) (let n = h.count in omega arith))))));
  }

module _ {C : Type 0} (client : Client C) (passes : Passes client) where
  in_epochs : (t : Token C) → IsDomainToken client t → IsAt epochs t (state t)
  in_epochs t p = record { part = part_weaker (program client) (follows_of epochs) (origin t) t.view.own (λ n es h. h.0) p; state = refl }

  -- the number of an epoch is small
  pub small : (e rec : ℕ) (t : Token C) → IsInRound client e rec t → (e ≡ (state t).epoch) × (e + 1 < 2 ^ 64)
  small e rec t i = let k = writer_knows t (state t) (in_epochs t i.part) i.first in let w = k.1 in
      let scan = subst (λ (g : Stage). IsScan (records_of (origin t)) k.0 (length (did t)) g) i.stage w.scan in
      let epoch = w.epoch in let bound = w.bounded in let few = w.few in
      (scan.0 ∙ sym epoch, (let z = scan.0 in omega arith))

  -- The exchange at the end of a round, by the token t that was t0 before the first record
  module _ (e : ℕ) (t0 t : Token C) (h : HasWaited client e (records_of (origin t)) t0 t) where
    abbrev R : ℕ
    R = records_of (origin t)

    abbrev raise : ℕ → Step
    raise n = Exchange 0 e (e + 1) n

    pub may_raise : (n : ℕ) → MayMake (program client) t (further (raise n))
    may_raise n = let i = h.scans in may_epochs client passes t [] (raise n) i.part (omega arith)
        (may_at R (state t) (scanning i.task e R i.busy) [] (raise n) i.stage (refl, refl, refl, refl, (refl, refl)))

    module _ (u : Token C) (found : ℕ) (made : Steps client t (further (raise found)) u) where
      pub finds_it : found ≡ e
      finds_it = let i = h.scans in finds_global t (state t) (in_epochs t i.part) i.first (program client) (λ n es f. f.0) u (further (raise found)) made e (e + 1) found refl
          ∙ sym (small e R t i).0

      pub round_table : table u ≡ table t0
      round_table = table_stays (program client) t u (further (raise found)) made ∙ h.same

      pub round_steps : (steps : List Step) × IsRound R e (Load 0 e ∷ steps) × (u ≡ adding t0 (map further steps))
      round_steps = let ws = waits_steps 0 h.waits in (
        ws ++ raise e ∷ [],
        (h.waits, h.count, h.each, refl),
        adds_one (program client) t0 t u (map further ws) (further (raise found)) h.did made
            ∙ ap (adding t0) (ap (λ (n : ℕ). map further ws ++ further (raise n) ∷ []) finds_it ∙ sym (map-append further ws (raise e ∷ []))),
      )

      pub round_state : (task : Task) → IsWaiting task → (busy : Option ℕ) → (state t0).stage ≡ scanning task e 0 busy → state u ≡ record (after_raise (state t0) task e) { steps = (state u).steps }
      round_state task w busy is =
          let on = h.on task w busy is in
          let n : ℕ = (state t).steps + 1 in
          let raised : state u ≡ record (after_raise (state t) task e) { steps = n } = state_after_step client t u (further (raise found)) made
          ∙ next_at R (state t) (scanning task e R on.0) [] (raise found) (ap (λ (s : TokenState). s.stage) on.1) in
          let whole : state u ≡ record (after_raise (state t0) task e) { steps = n } = raised
          ∙ (ap (λ (s : TokenState). record (after_raise s task e) { steps = n }) on.1
          ∙ raise_same task w (state t0) (scanning task e R on.0) (state t).steps n e) in
          whole ∙ λ i. record (after_raise (state t0) task e) { steps = ap (λ (s : TokenState). s.steps) (sym whole) i }

-- after the last record
module _ {C : Type 0} (t0 t : Token C) (d w : Table (About C)) (about : About C) (same : table t ≡ table t0) (here : table t0 ≡ d) (view : w ≡ d) (told : w.origin.config ≡ about) where
  pub records_here : records_of (origin t) ≡ records_of d.origin
  records_here = ap (λ (x : Table (About C)). records_of x.origin) (same ∙ here)

  pub all_records : (rec : ℕ) → about.records ≤ rec → rec ≤ about.records → rec ≡ records_of (origin t)
  all_records rec high low = let z : records_of (origin t) ≡ about.records = records_here ∙ (ap (λ (x : Table (About C)). records_of x.origin) (sym view) ∙ ap (λ (x : About C). x.records) told) in omega arith

  pub some_record : (rec : ℕ) → rec < about.records → rec < records_of d.origin
  some_record rec low = let z : records_of d.origin ≡ about.records = ap (λ (x : Table (About C)). records_of x.origin) (sym view) ∙ ap (λ (x : About C). x.records) told in omega arith

is_small : (k : ℕ) → nat_lt 0 (base k) ≡ true
is_small k = grind (arith, nat_tests)

-- the first step of a call of this name
begins_as : (all : Bool) (opens : List ℕ) → opens ≡ name_of all ∷ [] → (s : TokenState) (e : ℕ) → after_load s opens [] e ≡ record s { stage = scanning (first_round all s.steps) e 0 None; calls = s.calls + 1 }
begins_as false opens name s e = ap (λ (o : List ℕ). after_load s o [] e) name
begins_as true opens name s e = ap (λ (o : List ℕ). after_load s o [] e) name

begins_by : (all : Bool) (opens : List ℕ) → opens ≡ name_of all ∷ [] → Retires [] ⊎ Calls poll opens [] ⊎ Calls synchronize opens [] ⊎ Calls barrier opens []
begins_by false opens name = inr (inr (inl (name, refl)))
begins_by true opens name = inr (inr (inr (name, refl)))

-- the second round leaves what the call does
raised_twice : (all : Bool) (s : TokenState) (e n k m : ℕ) → e ≡ s.epoch
    → record (after_raise (record s { stage = scanning (second_round all s.steps) (e + 1) 0 None; calls = s.calls + 1; epoch = n; steps = k }) (second_round all s.steps) (e + 1)) { steps = m } ≡ after_rounds all s m
raised_twice true s e n k m is = λ i. record (after_rounds true s m) { epoch = twice i }
  where
    twice : e + 1 + 1 ≡ s.epoch + 2
    twice = omega arith
raised_twice false s e n k m is = λ i. record (after_rounds false s m) { epoch = twice i }
  where
    twice : e + 1 + 1 ≡ s.epoch + 2
    twice = omega arith

-- The call up to its first round, by the token t
module _ {C : Type 0} (client : Client C) (passes : Passes client) (t : Token C) (f : IsWriterFree client t) (all : Bool) (opens : List ℕ) (name : opens ≡ name_of all ∷ []) where
  abbrev S : TokenState
  S = state t

  pub may_begin : (n : ℕ) → MayMake (program client) t (entry opens (Load 0 n))
  may_begin n = may_epochs client passes t opens (Load 0 n) f.part (omega arith) (may_at (records_of (origin t)) S free opens (Load 0 n) f.stage (inl (refl, f.few, begins_by all opens name)))

  module _ (u : Token C) (e : ℕ) (made : Steps client t (entry opens (Load 0 e)) u) where
    pub first_epoch : e ≡ S.epoch
    first_epoch = loads_global t S (in_epochs client passes t f.part) f.first (program client) (λ n es h. h.0) u (entry opens (Load 0 e)) made e refl

    begun : state u ≡ record S { stage = scanning (first_round all S.steps) e 0 None; calls = S.calls + 1; steps = S.steps + 1 }
    begun = state_after_step client t u (entry opens (Load 0 e)) made ∙ (next_at (records_of (origin t)) S free opens (Load 0 e) f.stage
        ∙ (ap (λ (b : Bool). record (cond b (after_load S opens [] e) S) { steps = S.steps + 1 }) (is_small (records_of (origin t)))
        ∙ ap (λ (s : TokenState). record s { steps = S.steps + 1 }) (begins_as all opens name S e)))

    pub first_scan : IsInRound client e 0 u
    first_scan = record {
      part = made.1;
      first = number_stays (program client) t u (entry opens (Load 0 e)) made ∙ f.first;
      task = first_round all S.steps;
      busy = None;
      waits = tt;
      stage = ap (λ (s : TokenState). s.stage) begun;
    }

    -- the token w after the first round
    module _ (w : Token C) (first : List Step) (did_first : w ≡ adding u (map further first)) (part : IsDomainToken client w)
        (raised : (task : Task) → IsWaiting task → (busy : Option ℕ) → (state u).stage ≡ scanning task e 0 busy → state w ≡ record (after_raise (state u) task e) { steps = (state w).steps }) where
      halfway : state w ≡ record S { stage = between all S.steps; calls = S.calls + 1; epoch = e + 1; steps = (state w).steps }
      halfway = raised (first_round all S.steps) tt None (ap (λ (s : TokenState). s.stage) begun) ∙ ap (λ (s : TokenState). record (after_raise s (first_round all S.steps) e) { steps = (state w).steps }) begun

      first_there : number w ≡ 0
      first_there = ap number did_first ∙ (number_stays (program client) t u (entry opens (Load 0 e)) made ∙ f.first)

      pub may_go_on : (n : ℕ) → MayMake (program client) w (further (Load 0 n))
      may_go_on n = may_epochs client passes w [] (Load 0 n) part (omega arith)
          (may_at (records_of (origin w)) (state w) (between all S.steps) [] (Load 0 n) (ap (λ (s : TokenState). s.stage) halfway) (refl, (refl, refl)))

      module _ (x : Token C) (e' : ℕ) (made' : Steps client w (further (Load 0 e')) x) where
        next_epoch : e' ≡ e + 1
        next_epoch = loads_global w (state w) (in_epochs client passes w part) first_there (program client) (λ n es h. h.0) x (further (Load 0 e')) made' e' refl ∙ ap (λ (s : TokenState). s.epoch) halfway

        again : state x ≡ record S { stage = scanning (second_round all S.steps) e' 0 None; calls = S.calls + 1; epoch = e + 1; steps = (state w).steps + 1 }
        again = state_after_step client w x (further (Load 0 e')) made' ∙ (next_at (records_of (origin w)) (state w) (between all S.steps) [] (Load 0 e') (ap (λ (s : TokenState). s.stage) halfway)
            ∙ ap (λ (s : TokenState). record s { stage = scanning (second_round all S.steps) e' 0 None; steps = (state w).steps + 1 }) halfway)

        pub second_scan : IsInRound client e' 0 x
        second_scan = record {
          part = made'.1;
          first = number_stays (program client) w x (further (Load 0 e')) made' ∙ first_there;
          task = second_round all S.steps;
          busy = None;
          waits = tt;
          stage = ap (λ (s : TokenState). s.stage) again;
        }

        -- the token y after the second
        module _ (y : Token C) (second : List Step) (did_second : y ≡ adding x (map further second))
            (raised' : (task : Task) → IsWaiting task → (busy : Option ℕ) → (state x).stage ≡ scanning task e' 0 busy → state y ≡ record (after_raise (state x) task e') { steps = (state y).steps }) where
          pub both_state : state y ≡ after_rounds all S (state y).steps
          both_state = raised' (second_round all S.steps) tt None (ap (λ (s : TokenState). s.stage) again)
              ∙ (ap (λ (s : TokenState). record (after_raise s (second_round all S.steps) e') { steps = (state y).steps }) again
              ∙ (ap (λ (k : ℕ). record (after_raise (record S { stage = scanning (second_round all S.steps) k 0 None; calls = S.calls + 1; epoch = e + 1; steps = (state w).steps + 1 }) (second_round all S.steps) k) { steps = (state y).steps }) next_epoch
              ∙ raised_twice all S e (e + 1) ((state w).steps + 1) (state y).steps first_epoch))

          steps_are : y ≡ adding t (entry opens (Load 0 e) ∷ map further (first ++ Load 0 e' ∷ second))
          steps_are = did_second ∙ (ap (λ (z : Token C). adding z (map further second)) (made'.0 ∙ (ap (λ (z : Token C). adding z (further (Load 0 e') ∷ [])) (did_first ∙ ap (λ (z : Token C). adding z (map further first)) made.0)))
              ∙ (ap (λ (z : Token C). adding (adding z (further (Load 0 e') ∷ [])) (map further second)) (adding-append t (entry opens (Load 0 e) ∷ []) (map further first))
              ∙ (ap (λ (z : Token C). adding z (map further second)) (adding-append t (entry opens (Load 0 e) ∷ map further first) (further (Load 0 e') ∷ []))
              ∙ (adding-append t ((entry opens (Load 0 e) ∷ map further first) ++ further (Load 0 e') ∷ []) (map further second)
              ∙ ap (λ (es : List Entry). adding t (entry opens (Load 0 e) ∷ es)) (append_assoc (map further first) (further (Load 0 e') ∷ []) (map further second) ∙ sym (map-append further first (Load 0 e' ∷ second)))))))

          pub both_rounds : (records : ℕ) → IsRound records e (Load 0 e ∷ first) → IsRound records e' (Load 0 e' ∷ second) → (n : ℕ) → opens ≡ n ∷ [] → Rounds records n S.epoch t y
          both_rounds records a b n is = (
            Load 0 e ∷ first,
            Load 0 e' ∷ second,
            subst (λ (k : ℕ). IsRound records k (Load 0 e ∷ first)) first_epoch a,
            subst (λ (k : ℕ). IsRound records k (Load 0 e' ∷ second)) (next_epoch ∙ ap (λ (k : ℕ). k + 1) first_epoch) b,
            steps_are ∙ ap (λ (o : List ℕ). adding t (entry o (Load 0 e) ∷ map further (first ++ Load 0 e' ∷ second))) is,
          )

-- after both rounds no section is open that was open at the call
have_ended : {C : Type 0} (client : Client C) (passes : Passes client) (t u : Token C) (n : ℕ) (all : Bool) → IsWriterFree client t → origin u ≡ origin t → number u ≡ 0 → state u ≡ after_rounds all (state t) n → HaveEnded client t u
have_ended client passes t u n all f same first is past rest more run made r o low open_ older =
    let org = origin t in
    let k = cut 0 past (did u) more made in
    let whole : past ++ rest ≡ k.before ++ (k.since ++ rest) = ap (λ (p : Run). p ++ rest) k.whole ∙ append_assoc k.before k.since rest in
    let all_run : IsRun (follows_of epochs) org (past ++ rest) = run_weaker (program client) (follows_of epochs) org (past ++ rest) (λ j es h. h.0) run in
    let then : IsRun (follows_of epochs) org k.before = run_before epochs org k.before (k.since ++ rest) (subst (IsRun (follows_of epochs) org) whole all_run) in
    let there : state_at org 0 (account 0 k.before) ≡ state u = ap (state_at org 0) k.made ∙ (ap (λ (j : ℕ). state_at org j (did u)) (sym first) ∙ ap (λ (q : Origin _). state_at q (number u) (did u)) (sym same)) in
    let waited = ap (λ (s : TokenState). s.waited) (there ∙ is) in
    let w = (writer_knows t (state t) (in_epochs client passes t f.part) f.first).1 in
    let begun : (state t).steps < count k.before 0 = (held_after org k.before then).writer.waited (state t).steps waited in
    let stays = ap (λ (p : Run). index_in p 0 (state t).steps) k.whole ∙ index_stays k.before k.since 0 (state t).steps begun in
    let early : o < index_in k.before 0 (state t).steps = let z = ap (index_in past 0) w.steps in omega arith in
    let below = index_below k.before 0 (state t).steps begun in
    has_waited org k.before then r o (state t).steps low (was_open k.before k.since r o (omega arith) (subst (λ (p : Run). IsOpen p r o) k.whole open_)) waited early

-- the writer between two calls, before and after two rounds
module _ {C : Type 0} (client : Client C) (t : Token C) (b : Backlog) (w : IsBetween client t b) where
  pub is_free : (state t).calls < 2 ^ 40 → IsWriterFree client t
  is_free few = record { part = w.part; first = w.first; stage = w.stage; few = few }

  module _ (u : Token C) (all : Bool) (n : ℕ) (part : IsDomainToken client u) (same : table u ≡ table t) (number_is : number u ≡ number t) (is : state u ≡ after_rounds all (state t) n) where
    calls_after : (a : Bool) → (after_rounds a (state t) n).calls ≡ (state t).calls + 1
    calls_after a = refl

    counts_more : (calls : ℕ) → (state t).calls ≤ calls → (state u).calls ≤ calls + 1
    counts_more calls counts = let z : (state u).calls ≡ (state t).calls + 1 = ap (λ (s : TokenState). s.calls) is in omega arith

    -- its queue is what its account tells
    writer_after : (c : Backlog) → AreListsOf c.lists (queue (after_rounds all (state t) n).pending) → AreRetired (client.retires (origin t).config.client) (queue (after_rounds all (state t) n).pending) → IsBetween client u c
    writer_after c pending retired = record {
      part = part;
      first = number_is ∙ w.first;
      stage = ap (λ (s : TokenState). s.stage) is;
      pending = subst (λ (s : TokenState). AreListsOf c.lists (queue s.pending)) (sym is) pending;
      retired = subst (λ (s : TokenState). AreRetired (client.retires (origin u).config.client) (queue s.pending)) (sym is)
          (subst (λ (x : Table (About C)). AreRetired (client.retires x.origin.config.client) (queue (after_rounds all (state t) n).pending)) (sym same) retired);
    }

    -- the writer between two calls again
    pub both_after : (c : Backlog) → AreListsOf c.lists (queue (after_rounds all (state t) n).pending) → AreRetired (client.retires (origin t).config.client) (queue (after_rounds all (state t) n).pending)
        → (calls : ℕ) → (state t).calls ≤ calls → IsBetween client u c × ((state u).calls ≤ calls + 1)
    both_after c pending retired calls counts = (writer_after c pending retired, counts_more calls counts)

  -- after its steps the sections that were open have ended
  pub ended_after : (passes : Passes client) (u : Token C) (all : Bool) (records name e : ℕ) → (state t).calls < 2 ^ 40 → Rounds records name e t u → state u ≡ after_rounds all (state t) (state u).steps → HaveEnded client t u
  ended_after passes u all records name e few rounds is = have_ended client passes t u (state u).steps all (is_free few) (ap origin rounds.4) (ap number rounds.4 ∙ w.first) is
