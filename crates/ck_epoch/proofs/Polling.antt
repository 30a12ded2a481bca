-- The steps of a poll.
use Rattle.std.proofs.Common.{◌≡◌, ◌≢◌, ℕ, ◌+◌, ◌-◌, ◌%◌, ◌<◌, ◌≤◌, ◌^◌, inl, inr, Bool, true, false, ◌&&◌, cond, ◌==◌, eq-eqb, ne_eqb, Option, Some, None, List, [], ◌∷◌, ◌++◌, refl, sym, ap, ◌∙◌, subst, arith}
use Rattle.std.proofs.lemmas.List.Elements.{All-nil}
use Rattle.ck_run.specs.declared.account.Step.TheVariants.{Load, Exchange}
use Rattle.ck_run.specs.declared.account.Entry.{Entry}
use Rattle.ck_run.specs.Run.{entry, further, call}
use Rattle.ck_run.specs.Tokens.{Table, table, adding, number, origin, MayMake}
use Rattle.ck_run.proofs.Moments.{origin_stays, number_stays, adds_one}
use Rattle.ck_epoch.specs.declared.answers.Scan.TheVariants.{Clear, Current, Behind}
use Rattle.ck_epoch.specs.declared.about.About.{About}
use Rattle.ck_epoch.specs.State.{Origin, Token, TokenState, Stage, polling, free, scanning, comparing, records_of, active_word, epoch_word, Retirement, on_list, off_list, list_by_list, dispatch, dispatch_all, first_busy, is_clear, poll, state}
use Rattle.ck_epoch.specs.Client.{Client, Passes, program}
use Rattle.ck_epoch.specs.Ends.{IsWriting}
use Rattle.ck_epoch.specs.Calls.{RecordLook, scan_steps}
use Rattle.ck_epoch.specs.Scan.{is_done, first_dispatch, IsScanning, Did}
use Rattle.ck_epoch.proofs.Stepping.{Steps, may_at, state_at_step, writer_holds, writer_loads, writer_finds, opened}
use Rattle.ck_epoch.proofs.Looks.{call_more, one_more, inactive_steps, active_steps, found_inactive, found_current, are_current}
use Rattle.ck_epoch.proofs.Retirements.{lt_first}

-- the fields of a state that is one of two
module _ (s : TokenState) (g : Stage) where
  abbrev either : Bool → TokenState
  either b = cond b (record (dispatch_all s) { stage = free }) (record s { stage = g })

  either_stage : (b : Bool) → (either b).stage ≡ cond b free g
  either_stage true = refl
  either_stage false = refl

  either_pending : (b : Bool) → (either b).pending ≡ cond b [] s.pending
  either_pending true = refl
  either_pending false = refl

  either_dispatched : (b : Bool) → (either b).dispatched ≡ cond b (s.dispatched ++ list_by_list s.pending) s.dispatched
  either_dispatched true = refl
  either_dispatched false = refl

  either_calls : (b : Bool) → (either b).calls ≡ s.calls
  either_calls true = refl
  either_calls false = refl

  either_epoch : (b : Bool) → (either b).epoch ≡ s.epoch
  either_epoch true = refl
  either_epoch false = refl

module _ {C : Type 0} (client : Client C) (passes : Passes client) where
  -- the first step
  module _ (t : Token C) (writing : IsWriting client t) (is_free : (state t).stage ≡ free) (few : (state t).calls < 2 ^ 40) where
    abbrev starts : ℕ → Entry
    starts n = entry (poll ∷ []) (Load 0 n)

    pub may_start : (n : ℕ) → MayMake (program client) t (starts n)
    may_start n = may_at client passes t (poll ∷ []) (Load 0 n) free writing.part (omega arith) is_free (inl (refl, few, inr (inl (refl, refl))))

    module _ (u : Token C) (n : ℕ) (made : Steps client t (starts n) u) where
      abbrev R : ℕ
      R = records_of (origin t)

      state_is : state u ≡ record (dispatch (n - 2) (state t)) { stage = scanning polling n 0 None; calls = (state t).calls + 1; steps = (state t).steps + 1 }
      state_is = state_at_step client t u (starts n) free made is_free
          ∙ ap (λ (b : Bool). record (cond b (record (dispatch (n - 2) (state t)) { stage = scanning polling n 0 None; calls = (state t).calls + 1 }) (state t)) { steps = (state t).steps + 1 }) (lt_first R)

      found_epoch : n ≡ (state t).epoch
      found_epoch = writer_loads client t u (starts n) n writing.part writing.first made refl

      pub start_bounds : (4 ≤ n) × (n < 2 ^ 42)
      start_bounds = let h = writer_holds client t writing.part writing.first in let w = h.1 in
          let e : n ≡ h.0 = found_epoch ∙ w.epoch in
          let late = w.late in let bound = w.bounded in let k = few in (omega arith, omega arith)

      not_done : is_done R 0 None ≡ false
      not_done = ap (λ (b : Bool). b && true) (ne_eqb 0 R (λ z. let b = (opened client t writing.part).some_records in omega arith))

      pub start : IsScanning client t u n 0 None
      start = record {
        part = made.1;
        first = number_stays (program client) t u (starts n) made ∙ writing.first;
        looked = [];
        count = refl;
        found = All-nil (λ (x : RecordLook). x.active ≡ 0);
        steps = made.0;
        stage = ap (λ (s : TokenState). s.stage) state_is ∙ sym (ap (λ (b : Bool). cond b free (scanning polling n 0 None)) not_done);
        calls = ap (λ (s : TokenState). s.calls) state_is;
        epoch = (sym found_epoch, ap (λ (s : TokenState). s.epoch) state_is ∙ sym found_epoch);
        pending = ap (λ (s : TokenState). s.pending) state_is ∙ sym (ap (λ (b : Bool). cond b [] (off_list ((n - 2) % 4) (state t).pending)) not_done);
        dispatched = ap (λ (s : TokenState). s.dispatched) state_is
            ∙ sym (ap (λ (b : Bool). cond b (first_dispatch n (state t) ++ list_by_list (off_list ((n - 2) % 4) (state t).pending)) (first_dispatch n (state t))) not_done);
      }

  -- one record
  module _ (t u : Token C) (e rec : ℕ) (busy : Option ℕ) (at : IsScanning client t u e rec busy) (low : rec < records_of (origin t)) where
    abbrev S : ℕ
    S = records_of (origin t)

    abbrev items : List Retirement
    items = off_list ((e - 2) % 4) (state t).pending

    same : origin u ≡ origin t
    same = ap origin at.steps

    same_records : records_of (origin u) ≡ S
    same_records = ap records_of same

    going : is_done S rec busy ≡ false
    going = ap (λ (b : Bool). b && is_clear polling busy) (ne_eqb rec S (λ z. let l = low in omega arith))

    at_record : (state u).stage ≡ scanning polling e rec busy
    at_record = at.stage ∙ ap (λ (b : Bool). cond b free (scanning polling e rec busy)) going

    still : (state u).pending ≡ items
    still = at.pending ∙ ap (λ (b : Bool). cond b [] items) going

    left : (state u).dispatched ≡ first_dispatch e (state t)
    left = at.dispatched ∙ ap (λ (b : Bool). cond b (first_dispatch e (state t) ++ list_by_list items) (first_dispatch e (state t))) going

    abbrev sees : ℕ → Entry
    sees n = further (Load (active_word rec) n)

    pub may_see : (w n : ℕ) → w ≡ active_word rec → MayMake (program client) u (further (Load w n))
    may_see w n is = let z = same_records in let l = low in
        may_at client passes u [] (Load w n) (scanning polling e rec busy) at.part (omega arith) at_record (is, subst (λ (k : ℕ). rec < k) (sym same_records) low, (refl, refl))

    module _ (v : Token C) (w n : ℕ) (w_is : w ≡ active_word rec) (made : Steps client u (further (Load w n)) v) where
      seen_state : (b : Bool) → (n == 0) ≡ b
          → state v ≡ record (cond b (either (state u) (scanning polling e (rec + 1) busy) (is_done S (rec + 1) busy)) (record (state u) { stage = comparing polling e rec busy })) { steps = (state u).steps + 1 }
      seen_state b test = state_at_step client u v (further (Load w n)) (scanning polling e rec busy) made at_record
          ∙ ap (λ (x : ℕ × Bool). record (cond x.1 (either (state u) (scanning polling e (rec + 1) busy) (is_done x.0 (rec + 1) busy)) (record (state u) { stage = comparing polling e rec busy })) { steps = (state u).steps + 1 })
          (λ i. (same_records i, test i))

      seen_number : number v ≡ 0
      seen_number = number_stays (program client) u v (further (Load w n)) made ∙ at.first

      pub inactive : n ≡ 0 → IsScanning client t v e (rec + 1) busy
      inactive none =
          let s = seen_state true (eq-eqb n 0 none) in
          let g = scanning polling e (rec + 1) busy in
          let b = is_done S (rec + 1) busy in
          let l : RecordLook = record { active = n; epoch = 0 } in
          record {
            part = made.1;
            first = seen_number;
            looked = at.looked ++ l ∷ [];
            count = one_more rec at.looked l at.count;
            found = found_inactive e at.looked busy l none at.found;
            steps = inactive_steps (program client) t u poll e rec at.looked at.count at.steps v w n w_is made none;
            stage = ap (λ (x : TokenState). x.stage) s ∙ either_stage (state u) g b;
            calls = ap (λ (x : TokenState). x.calls) s ∙ (either_calls (state u) g b ∙ at.calls);
            epoch = (at.epoch.0, ap (λ (x : TokenState). x.epoch) s ∙ (either_epoch (state u) g b ∙ at.epoch.1));
            pending = ap (λ (x : TokenState). x.pending) s ∙ (either_pending (state u) g b ∙ ap (λ (ps : List Retirement). cond b [] ps) still);
            dispatched = ap (λ (x : TokenState). x.dispatched) s ∙ (either_dispatched (state u) g b ∙ λ i. cond b (left i ++ list_by_list (still i)) (left i));
          }

      -- it is active
      module _ (active : n ≢ 0) where
        comparing_state : state v ≡ record (state u) { stage = comparing polling e rec busy; steps = (state u).steps + 1 }
        comparing_state = seen_state false (ne_eqb n 0 active)

        comparing_stage : (state v).stage ≡ comparing polling e rec busy
        comparing_stage = ap (λ (x : TokenState). x.stage) comparing_state

        comparing_records : records_of (origin v) ≡ S
        comparing_records = ap records_of (origin_stays (program client) u v (further (Load w n)) made) ∙ same_records

        pub may_compare : (x m : ℕ) → x ≡ epoch_word rec → MayMake (program client) v (further (Load x m))
        may_compare x m is = let z = comparing_records in let l = low in
            may_at client passes v [] (Load x m) (comparing polling e rec busy) made.1 (omega arith) comparing_stage (is, subst (λ (k : ℕ). rec < k) (sym comparing_records) low, (refl, refl))

        module _ (z : Token C) (x m : ℕ) (x_is : x ≡ epoch_word rec) (compared : Steps client v (further (Load x m)) z) where
          abbrev busier : Option ℕ
          busier = first_busy busy rec

          compared_state : (b : Bool) → (m == e) ≡ b
              → state z ≡ record (cond b (either (state v) (scanning polling e (rec + 1) busier) (is_done S (rec + 1) busier)) (record (state v) { stage = free })) { steps = (state v).steps + 1 }
          compared_state b test = state_at_step client v z (further (Load x m)) (comparing polling e rec busy) compared comparing_stage
              ∙ ap (λ (y : ℕ × Bool). record (cond y.1 (either (state v) (scanning polling e (rec + 1) busier) (is_done y.0 (rec + 1) busier)) (record (state v) { stage = free })) { steps = (state v).steps + 1 })
              (λ i. (comparing_records i, test i))

          compared_number : number z ≡ 0
          compared_number = number_stays (program client) v z (further (Load x m)) compared ∙ seen_number

          abbrev l : RecordLook
          l = record { active = n; epoch = m }

          compared_steps : z ≡ adding t (call poll [] (Load 0 e ∷ scan_steps 0 (at.looked ++ l ∷ [])))
          compared_steps = active_steps (program client) t u poll e rec at.looked at.count at.steps v w n w_is made active z x m x_is compared

          pub current : m ≡ e → IsScanning client t z e (rec + 1) busier
          current is =
              let s = compared_state true (eq-eqb m e is) in
              let g = scanning polling e (rec + 1) busier in
              let b = is_done S (rec + 1) busier in
              let c = comparing_state in
              record {
                part = compared.1;
                first = compared_number;
                looked = at.looked ++ l ∷ [];
                count = one_more rec at.looked l at.count;
                found = found_current e n m rec at.looked busy active is at.count at.found;
                steps = compared_steps;
                stage = ap (λ (y : TokenState). y.stage) s ∙ either_stage (state v) g b;
                calls = ap (λ (y : TokenState). y.calls) s ∙ (either_calls (state v) g b ∙ (ap (λ (y : TokenState). y.calls) c ∙ at.calls));
                epoch = (at.epoch.0, ap (λ (y : TokenState). y.epoch) s ∙ (either_epoch (state v) g b ∙ (ap (λ (y : TokenState). y.epoch) c ∙ at.epoch.1)));
                pending = ap (λ (y : TokenState). y.pending) s ∙ (either_pending (state v) g b ∙ ap (λ (ps : List Retirement). cond b [] ps) (ap (λ (y : TokenState). y.pending) c ∙ still));
                dispatched = ap (λ (y : TokenState). y.dispatched) s ∙ (either_dispatched (state v) g b ∙ (ap (λ (y : TokenState). cond b (y.dispatched ++ list_by_list y.pending) y.dispatched) c ∙ λ i. cond b (left i ++ list_by_list (still i)) (left i)));
              }

          pub behind : m ≢ e → Did client t z e (Behind rec m)
          behind other =
              let s = compared_state false (ne_eqb m e other) in
              let c = comparing_state in (
                record {
                  before = at.looked;
                  active = n;
                  at = at.count;
                  low = low;
                  current = are_current e at.looked busy at.found;
                  is_active = active;
                  other = other;
                  steps = compared_steps;
                },
                record {
                  part = compared.1;
                  first = compared_number;
                  stage = ap (λ (y : TokenState). y.stage) s;
                  calls = ap (λ (y : TokenState). y.calls) s ∙ (ap (λ (y : TokenState). y.calls) c ∙ at.calls);
                  epoch_is = ap (λ (y : TokenState). y.epoch) s ∙ (ap (λ (y : TokenState). y.epoch) c ∙ at.epoch.1);
                  pending_is = ap (λ (y : TokenState). y.pending) s ∙ (ap (λ (y : TokenState). y.pending) c ∙ still);
                  dispatched_is = ap (λ (y : TokenState). y.dispatched) s ∙ (ap (λ (y : TokenState). y.dispatched) c ∙ left);
                },
              )

  -- all records were passed, and none was active
  pub clear : (t u : Token C) (e : ℕ) → IsScanning client t u e (records_of (origin t)) None → Did client t u e Clear
  clear t u e at =
      let done : is_done (records_of (origin t)) (records_of (origin t)) None ≡ true = ap (λ (b : Bool). b && true) (eq-eqb (records_of (origin t)) (records_of (origin t)) refl) in (
        record { looked = at.looked; all = at.count; inactive = at.found; steps = at.steps },
        record {
          part = at.part;
          first = at.first;
          stage = at.stage ∙ ap (λ (b : Bool). cond b free (scanning polling e (records_of (origin t)) None)) done;
          calls = at.calls;
          epoch_is = at.epoch.1;
          pending_is = at.pending ∙ ap (λ (b : Bool). cond b [] (off_list ((e - 2) % 4) (state t).pending)) done;
          dispatched_is = at.dispatched ∙ ap (λ (b : Bool). cond b (first_dispatch e (state t) ++ list_by_list (off_list ((e - 2) % 4) (state t).pending)) (first_dispatch e (state t))) done;
        },
      )

  -- some were, and had the epoch: the exchange
  module _ (t u : Token C) (e rec : ℕ) (at : IsScanning client t u e (records_of (origin t)) (Some rec)) where
    abbrev N : ℕ
    N = records_of (origin t)

    waits : is_done N N (Some rec) ≡ false
    waits = and_false (N == N)
      where
        and_false : (b : Bool) → b && false ≡ false
        and_false true = refl
        and_false false = refl

    at_end : (state u).stage ≡ scanning polling e N (Some rec)
    at_end = at.stage ∙ ap (λ (b : Bool). cond b free (scanning polling e N (Some rec))) waits

    still_there : (state u).pending ≡ off_list ((e - 2) % 4) (state t).pending
    still_there = at.pending ∙ ap (λ (b : Bool). cond b [] (off_list ((e - 2) % 4) (state t).pending)) waits

    left_there : (state u).dispatched ≡ first_dispatch e (state t)
    left_there = at.dispatched ∙ ap (λ (b : Bool). cond b (first_dispatch e (state t) ++ list_by_list (off_list ((e - 2) % 4) (state t).pending)) (first_dispatch e (state t))) waits

    pub may_raise : (n : ℕ) → MayMake (program client) u (further (Exchange 0 e (e + 1) n))
    may_raise n = may_at client passes u [] (Exchange 0 e (e + 1) n) (scanning polling e N (Some rec)) at.part (omega arith) at_end (refl, sym (ap records_of (ap origin at.steps)), refl, refl, (refl, refl))

    pub raised : (v : Token C) (n : ℕ) → Steps client u (further (Exchange 0 e (e + 1) n)) v → Did client t v e (Current rec)
    raised v n made =
        let s = state_at_step client u v (further (Exchange 0 e (e + 1) n)) (scanning polling e N (Some rec)) made at_end in
        let found : n ≡ e = writer_finds client u v (further (Exchange 0 e (e + 1) n)) e (e + 1) n at.part at.first made refl ∙ at.epoch.1 in (
          record {
            looked = at.looked;
            all = at.count;
            found = at.found;
            steps = adds_one (program client) t u v (call poll [] (Load 0 e ∷ scan_steps 0 at.looked)) (further (Exchange 0 e (e + 1) n)) at.steps made
                ∙ ap (adding t) (call_more poll [] (Load 0 e) (scan_steps 0 at.looked) (Exchange 0 e (e + 1) n ∷ []) ∙ ap (λ (k : ℕ). call poll [] (Load 0 e ∷ scan_steps 0 at.looked ++ Exchange 0 e (e + 1) k ∷ [])) found);
          },
          record {
            part = made.1;
            first = number_stays (program client) u v (further (Exchange 0 e (e + 1) n)) made ∙ at.first;
            stage = ap (λ (y : TokenState). y.stage) s;
            calls = ap (λ (y : TokenState). y.calls) s ∙ at.calls;
            epoch_is = ap (λ (y : TokenState). y.epoch) s;
            pending_is = ap (λ (y : TokenState). y.pending) s ∙ ap (off_list ((e - 1) % 4)) still_there;
            dispatched_is = ap (λ (y : TokenState). y.dispatched) s ∙ λ i. left_there i ++ on_list ((e - 1) % 4) (still_there i);
          },
        )

-- a record of the domain is one of the token's
pub low_record : {C : Type 0} (client : Client C) (t u : Token C) (e rec : ℕ) (busy : Option ℕ) (now : Table (About C)) → IsScanning client t u e rec busy → table u ≡ now → rec < records_of now.origin → rec < records_of (origin t)
low_record client t u e rec busy now at is low = subst (λ (o : Origin _). rec < records_of o) (sym (ap (λ (x : Table (About _)). x.origin) is) ∙ ap origin at.steps) low

-- after the last record
pub end_record : {C : Type 0} (client : Client C) (t u : Token C) (e rec : ℕ) (busy : Option ℕ) (d now : Table (About C)) (about : About C) → IsScanning client t u e rec busy → table u ≡ now → d ≡ now
    → d.origin.config ≡ about → rec ≡ about.records → IsScanning client t u e (records_of (origin t)) busy
end_record client t u e rec busy d now about at is keeps told all = subst (λ (k : ℕ). IsScanning client t u e k busy)
    (all ∙ (ap (λ (a : About _). a.records) (sym told) ∙ (ap (λ (x : Table (About _)). records_of x.origin) (keeps ∙ sym is) ∙ ap records_of (ap origin at.steps)))) at
