-- What a step of the writer keeps of the writer.
use Rattle.std.proofs.Common.{◌≡◌, ℕ, ◌+◌, ◌-◌, ◌*◌, ◌%◌, ◌^◌, ◌<◌, ◌≤◌, Bool, true, false, not, cond, Option, Some, None, List, [], ◌∷◌, ◌++◌, length, get_or, All, filter, length-append, refl, sym, ap, ◌∙◌, subst, arith}
use Rattle.std.proofs.lemmas.List.Elements.{All-filter, All-append, All-push, All-nil, All-weaker}
use mathlib.Core.Option.{some}
use Rattle.atomic_table.proofs.Lists.{at_longer, at_last}
use Rattle.ck_run.specs.declared.account.Step.TheVariants.{Load}
use Rattle.ck_run.specs.declared.account.Entry.{Entry}
use Rattle.ck_run.specs.Run.{handing}
use Rattle.ck_epoch.specs.Lists.{is_on}
use Rattle.ck_epoch.specs.State.{Task, polling, first_round, second_round, Stage, free, scanning, comparing, between, Retirement, retirement, TokenState, list_by_list, dispatch, dispatch_all}
use Rattle.ck_epoch.specs.Epochs.{IsRetired}
use Rattle.ck_epoch.specs.Held.{IsOfWriter, halfway, due, risen, IsBegun, IsScan, IsWriterHeld}
use Rattle.ck_run.proofs.Lists.{inside}
use Rattle.ck_epoch.proofs.Records.{AreMade}
use Rattle.ck_epoch.proofs.Timely.{All-four}
use Rattle.ck_epoch.proofs.RecordsKept.{at_stage, none_some, some_same}

begun_more : (steps steps' : ℕ) (task : Task) → steps ≤ steps' → IsBegun steps task → IsBegun steps' task
begun_more steps steps' polling le b = tt
begun_more steps steps' (first_round all s) le b = omega arith
begun_more steps steps' (second_round all s) le b = omega arith

-- At each record of a scan, and at the comparison there, the epoch may still rise as often, and rose as often since the last retirement
same_rises : (task : Task) (e rec rec' : ℕ) (busy busy' : Option ℕ)
    → (due (scanning task e rec' busy') ≡ due (scanning task e rec busy)) × (risen (scanning task e rec' busy') ≡ risen (scanning task e rec busy))
    × (due (comparing task e rec' busy') ≡ due (scanning task e rec busy)) × (risen (comparing task e rec' busy') ≡ risen (scanning task e rec busy))
same_rises polling e rec rec' busy busy' = (refl, refl, refl, refl)
same_rises (first_round all s) e rec rec' busy busy' = (refl, refl, refl, refl)
same_rises (second_round all s) e rec rec' busy busy' = (refl, refl, refl, refl)

half_begun : (records global steps : ℕ) (s : Stage) → IsScan records global steps s → (first : ℕ) → halfway s ≡ Some first → first < steps
half_begun records global steps (between all started) c first e = subst (λ (x : ℕ). x < steps) (some_same started first e) c
half_begun records global steps (scanning (second_round all started) x rec busy) c first e = subst (λ (x : ℕ). x < steps) (some_same started first e) c.2
half_begun records global steps (comparing (second_round all started) x rec busy) c first e = subst (λ (x : ℕ). x < steps) (some_same started first e) c.2
half_begun records global steps s c first e = none_some first e

-- the entries that its state names have been made
pub are_made : (records global : ℕ) (entries : List Entry) (w : TokenState) → IsWriterHeld records global entries w → AreMade (length entries) w
are_made records global entries w h = record {
  pending = λ k d l. let p = (h.pending k d l).0 in inside entries (get_or w.pending k d).number _ p.1;
  dispatched = λ k d l. let p = h.dispatched k d l in inside entries (get_or w.dispatched k d).number _ p.1;
  half = half_begun records global (length entries) w.stage h.scan;
  waited = h.waited;
}

abbrev IsPending : ℕ → List Entry → ℕ → Retirement → Type 0
IsPending global entries up k = IsRetired entries k × (k.retired.epoch + up ≤ global)

-- the comparison of a record's epoch is a part of the scan
pub as_scanning : (records global : ℕ) (entries : List Entry) (w : TokenState) (task : Task) (e rec : ℕ) (busy : Option ℕ) → IsWriterHeld records global entries (at_stage w (comparing task e rec busy))
    → IsWriterHeld records global entries (at_stage w (scanning task e rec busy))
as_scanning records global entries w task e rec busy h = let b = h.bounded in let same = same_rises task e rec rec busy busy in let d = same.2 in let c = h.scan in let low = c.1 in record {
  writing = tt;
  steps = h.steps;
  epoch = h.epoch;
  late = h.late;
  few = h.few;
  bounded = omega arith;
  scan = (c.0, omega arith, c.2);
  pending = All-weaker (IsPending global entries (risen (comparing task e rec busy))) (IsPending global entries (risen (scanning task e rec busy)))
      (λ k p. (p.0, let q = p.1 in let z = same.3 in omega arith)) w.pending h.pending;
  dispatched = h.dispatched;
  waited = h.waited;
}

module _ (records global : ℕ) (entries : List Entry) (e : Entry) (w : TokenState) where
  abbrev more : List Entry
  more = entries ++ e ∷ []

  long : length more ≡ length entries + 1
  long = length-append entries (e ∷ [])

  retired_more : (k : Retirement) → IsRetired entries k → IsRetired more k
  retired_more k r = (r.0, at_longer entries (e ∷ []) k.number _ r.1)

  pending_more : (global' up up' : ℕ) → ((x : ℕ) → x + up ≤ global → x + up' ≤ global') → All (IsPending global entries up) w.pending → All (IsPending global' more up') w.pending
  pending_more global' up up' le p = All-weaker (IsPending global entries up) (IsPending global' more up') (λ k r. (retired_more k r.0, le k.retired.epoch r.1)) w.pending p

  gone_more : All (IsRetired entries) w.dispatched → All (IsRetired more) w.dispatched
  gone_more p = All-weaker (IsRetired entries) (IsRetired more) retired_more w.dispatched p

  told : (global' up : ℕ) (items : List Retirement) → All (IsPending global' more up) items → All (IsRetired more) items
  told global' up items p = All-weaker (IsPending global' more up) (IsRetired more) (λ k r. r.0) items p

  waited_more : (waited : Option ℕ) → ((first : ℕ) → waited ≡ Some first → first < length entries) → (first : ℕ) → waited ≡ Some first → first < length more
  waited_more waited h first z = let b = h first z in let l = long in omega arith

  -- A step from one stage to another, after which these items are pending and these dispatched
  goes : (from to : Stage) (global' epoch calls : ℕ) (pending dispatched : List Retirement) → IsWriterHeld records global entries (at_stage w from)
      → IsOfWriter to → epoch ≡ global' → 4 ≤ global' → calls ≤ 2 ^ 40 → global' + due to ≤ 4 + 2 * calls → IsScan records global' (length more) to
      → All (IsPending global' more (risen to)) pending → All (IsRetired more) dispatched
      → IsWriterHeld records global' more (record w { stage = to; epoch = epoch; calls = calls; pending = pending; dispatched = dispatched; steps = w.steps + 1 })
  goes from to global' epoch calls pending dispatched h writing same late few bounded scan are_pending are_dispatched = let s = h.steps in let l = long in record {
    writing = writing;
    steps = omega arith;
    epoch = same;
    late = late;
    few = few;
    bounded = bounded;
    scan = scan;
    pending = are_pending;
    dispatched = are_dispatched;
    waited = waited_more w.waited h.waited;
  }

  -- one that leaves the items and the global epoch as they are
  stays : (from to : Stage) (calls : ℕ) → IsWriterHeld records global entries (at_stage w from)
      → IsOfWriter to → calls ≤ 2 ^ 40 → global + due to ≤ 4 + 2 * calls → IsScan records global (length more) to → risen to ≤ risen from
      → IsWriterHeld records global more (record w { stage = to; calls = calls; steps = w.steps + 1 })
  stays from to calls h writing few bounded scan up = goes from to global w.epoch calls w.pending w.dispatched h writing h.epoch h.late few bounded scan
      (pending_more global (risen from) (risen to) (λ x b. omega arith) h.pending) (gone_more h.dispatched)

  -- a step on the client's words
  pub elsewhere : IsWriterHeld records global entries (at_stage w free) → IsWriterHeld records global more (record w { stage = free; steps = w.steps + 1 })
  elsewhere h = stays free free w.calls h tt h.few h.bounded tt (omega arith)

  -- the load at which an item is retired
  pub retires : (opens : List ℕ) (at log found : ℕ) → e ≡ handing opens (at ∷ log ∷ []) (Load 0 found) → found ≡ global → w.calls < 2 ^ 40 → IsWriterHeld records global entries (at_stage w free)
      → IsWriterHeld records global more (record w { stage = free; calls = w.calls + 1; pending = w.pending ++ retirement w.steps at log found ∷ []; steps = w.steps + 1 })
  retires opens at log found is same fewer h = let s = h.steps in let b = h.bounded in
      goes free free global w.epoch (w.calls + 1) (w.pending ++ retirement w.steps at log found ∷ []) w.dispatched h tt h.epoch h.late (omega arith) (omega arith) tt
      (All-push (IsPending global more 0) w.pending (retirement w.steps at log found) (pending_more global 0 0 (λ x b. b) h.pending)
      ((opens, at_last entries e w.steps (sym s) ∙ ap some is), omega arith))
      (gone_more h.dispatched)

  -- the items of these lists are dispatched
  module _ (global' : ℕ) (on_lists : Retirement → Bool) (pending : All (IsPending global' more 0) w.pending) where
    left : All (IsPending global' more 0) (filter (λ (k : Retirement). not (on_lists k)) w.pending)
    left = All-filter (λ (k : Retirement). not (on_lists k)) (IsPending global' more 0) w.pending pending

    gone : All (IsRetired entries) w.dispatched → All (IsRetired more) (w.dispatched ++ filter on_lists w.pending)
    gone d = All-append (IsRetired more) w.dispatched (filter on_lists w.pending) (gone_more d) (All-filter on_lists (IsRetired more) w.pending (told global' 0 w.pending pending))

  -- the load at which a poll begins
  pub polls : (found : ℕ) → found ≡ global → w.calls < 2 ^ 40 → IsWriterHeld records global entries (at_stage w free)
      → IsWriterHeld records global more (record (dispatch (found - 2) w) { stage = scanning polling found 0 None; calls = w.calls + 1; steps = w.steps + 1 })
  polls found same fewer h = let b = h.bounded in let pending = pending_more global 0 0 (λ x b. b) h.pending in
      let on = λ (k : Retirement). is_on ((found - 2) % 4) k.retired in
      goes free (scanning polling found 0 None) global w.epoch (w.calls + 1) _ _ h tt h.epoch h.late (omega arith) (omega arith) (same, omega arith, tt)
      (left global on pending) (gone global on pending h.dispatched)

  -- the load at which `synchronize` or `barrier` begins
  pub begins : (all : Bool) (found : ℕ) → found ≡ global → w.calls < 2 ^ 40 → IsWriterHeld records global entries (at_stage w free)
      → IsWriterHeld records global more (record w { stage = scanning (first_round all w.steps) found 0 None; calls = w.calls + 1; steps = w.steps + 1 })
  begins all found same fewer h = let s = h.steps in let l = long in let b = h.bounded in
      stays free (scanning (first_round all w.steps) found 0 None) (w.calls + 1) h tt (omega arith) (omega arith) (same, omega arith, omega arith) (omega arith)

  -- the load at which the second round begins
  pub goes_on : (all : Bool) (started found : ℕ) → found ≡ global → IsWriterHeld records global entries (at_stage w (between all started))
      → IsWriterHeld records global more (record w { stage = scanning (second_round all started) found 0 None; steps = w.steps + 1 })
  goes_on all started found same h = let l = long in let c = h.scan in
      stays (between all started) (scanning (second_round all started) found 0 None) w.calls h tt h.few h.bounded (same, omega arith, omega arith) (omega arith)

  -- a scan
  module _ (task : Task) (found rec : ℕ) (busy : Option ℕ) (h : IsWriterHeld records global entries (at_stage w (scanning task found rec busy))) where
    -- goes on with this record
    pub scans : (rec' : ℕ) (busy' : Option ℕ) → rec' ≤ records → IsWriterHeld records global more (record w { stage = scanning task found rec' busy'; steps = w.steps + 1 })
    scans rec' busy' low = let l = long in let c = h.scan in let b = h.bounded in let same = same_rises task found rec rec' busy busy' in
        let d = same.0 in let r = same.1 in
        stays (scanning task found rec busy) (scanning task found rec' busy') w.calls h tt h.few (omega arith) (c.0, low, begun_more (length entries) (length more) task (omega arith) c.2) (omega arith)

    -- compares the epoch of this record
    pub compares : rec < records → IsWriterHeld records global more (record w { stage = comparing task found rec busy; steps = w.steps + 1 })
    compares low = let l = long in let c = h.scan in let b = h.bounded in let same = same_rises task found rec rec busy busy in
        let d = same.2 in let r = same.3 in
        stays (scanning task found rec busy) (comparing task found rec busy) w.calls h tt h.few (omega arith) (c.0, low, begun_more (length entries) (length more) task (omega arith) c.2) (omega arith)

  module _ (found rec : ℕ) (busy : Option ℕ) (h : IsWriterHeld records global entries (at_stage w (scanning polling found rec busy))) where
    -- a poll is blocked
    pub gives_up : IsWriterHeld records global more (record w { stage = free; steps = w.steps + 1 })
    gives_up = let b = h.bounded in stays (scanning polling found rec busy) free w.calls h tt h.few (omega arith) tt (omega arith)

    -- a poll found no record active
    pub clears : IsWriterHeld records global more (record (dispatch_all w) { stage = free; steps = w.steps + 1 })
    clears = let b = h.bounded in goes (scanning polling found rec busy) free global w.epoch w.calls _ _ h tt h.epoch h.late h.few (omega arith) tt
        (All-nil (IsPending global more 0))
        (All-append (IsRetired more) w.dispatched (list_by_list w.pending) (gone_more h.dispatched)
        (All-four (IsRetired more) w.pending (told global 0 w.pending (pending_more global 0 0 (λ x b. b) h.pending))))

    -- a poll raises the global epoch
    pub raises : IsWriterHeld records (global + 1) more (record (dispatch (found - 1) w) { stage = free; epoch = found + 1; steps = w.steps + 1 })
    raises = let b = h.bounded in let c = h.scan in let t = h.late in let pending = pending_more (global + 1) 0 0 (λ x b. omega arith) h.pending in
        let on = λ (k : Retirement). is_on ((found - 1) % 4) k.retired in
        goes (scanning polling found rec busy) free (global + 1) (found + 1) w.calls _ _ h tt (omega arith) (omega arith) h.few (omega arith) tt
        (left (global + 1) on pending) (gone (global + 1) on pending h.dispatched)

  -- the first round raises it
  pub raises_first : (all : Bool) (started found rec : ℕ) (busy : Option ℕ) → IsWriterHeld records global entries (at_stage w (scanning (first_round all started) found rec busy))
      → IsWriterHeld records (global + 1) more (record w { stage = between all started; epoch = found + 1; steps = w.steps + 1 })
  raises_first all started found rec busy h = let l = long in let b = h.bounded in let c = h.scan in let t = h.late in
      goes (scanning (first_round all started) found rec busy) (between all started) (global + 1) (found + 1) w.calls w.pending w.dispatched h tt (omega arith) (omega arith) h.few (omega arith)
      (let d = c.2 in omega arith) (pending_more (global + 1) 0 1 (λ x b. omega arith) h.pending) (gone_more h.dispatched)

  -- and the second
  pub raises_second : (all : Bool) (started found rec : ℕ) (busy : Option ℕ) → IsWriterHeld records global entries (at_stage w (scanning (second_round all started) found rec busy))
      → IsWriterHeld records (global + 1) more (record (cond all (dispatch_all w) w) { stage = free; epoch = found + 1; waited = Some started; steps = w.steps + 1 })
  raises_second all started found rec busy h = let s = h.steps in let l = long in let b = h.bounded in let c = h.scan in let t = h.late in let first = c.2 in
      let pending : All (IsPending (global + 1) more 0) w.pending = pending_more (global + 1) 1 0 (λ x b. omega arith) h.pending in
      let lists : (all : Bool) → All (IsPending (global + 1) more 0) (cond all (dispatch_all w) w).pending × All (IsRetired more) (cond all (dispatch_all w) w).dispatched = λ all. elim all as
      (λ all. All (IsPending (global + 1) more 0) (cond all (dispatch_all w) w).pending × All (IsRetired more) (cond all (dispatch_all w) w).dispatched) [
        | true ↦ (All-nil (IsPending (global + 1) more 0), All-append (IsRetired more) w.dispatched (list_by_list w.pending) (gone_more h.dispatched) (All-four (IsRetired more) w.pending (told (global + 1) 0 w.pending pending)))
        | false ↦ (pending, gone_more h.dispatched)
      ] in
      record {
        writing = tt;
        steps = omega arith;
        epoch = omega arith;
        late = omega arith;
        few = calls_same all;
        bounded = let z = calls_is all in omega arith;
        scan = tt;
        pending = (lists all).0;
        dispatched = (lists all).1;
        waited = λ x z. let q = some_same started x z in omega arith;
      }
    where
      calls_is : (all : Bool) → (cond all (dispatch_all w) w).calls ≡ w.calls
      calls_is true = refl
      calls_is false = refl

      calls_same : (all : Bool) → (cond all (dispatch_all w) w).calls ≤ 2 ^ 40
      calls_same all = let f = h.few in let z = calls_is all in omega arith
