-- What a step of the writer keeps of one record and of its pass's stage.
use Rattle.std.proofs.Common.{◌≡◌, ℕ, ◌+◌, ◌-◌, ◌%◌, ◌<◌, ◌≤◌, Bool, true, false, not, cond, Option, Some, None, [], ◌∷◌, ◌++◌, All, refl, sym, ap, ◌∙◌, subst, arith}
use Rattle.std.proofs.lemmas.List.Elements.{All-filter, All-append, All-push, All-nil}
use native.Mathlib.Decide.{ℕ_discrete}
use mathlib.Core.Logic.{dite}
use Rattle.ck_run.specs.declared.account.Entry.{Entry}
use Rattle.ck_run.specs.Run.{index_in, Run}
use Rattle.ck_epoch.specs.Lists.{is_on}
use Rattle.ck_epoch.specs.State.{Task, polling, first_round, second_round, Stage, inside, free, scanning, comparing, between, Retirement, TokenState, list_by_list, dispatch, dispatch_all}
use Rattle.ck_epoch.specs.Epochs.{IsPassed}
use Rattle.ck_epoch.specs.Held.{active_of, IsTimely, IsAtGlobal, IsQuiet, halfway, GuardsSection, IsOpenAt, IsRecordHeld}
use Rattle.ck_run.proofs.Runs.{count, index_stays}
use Rattle.ck_epoch.proofs.OpenSections.{open_else}
use Rattle.ck_epoch.proofs.Timely.{two_back, one_back, All-four, Bounded, list_goes, all_go, idle_current, own_current, timely_up}
use Rattle.ck_epoch.proofs.Records.{AreMade, open_along}

-- the state with another stage
abbrev pub at_stage : TokenState → Stage → TokenState
at_stage w s = record w { stage = s }

pub none_some : {A : Type 0} (x : ℕ) → None ≡ Some x → A
none_some x e = absurd cc

pub some_same : (x y : ℕ) → Some x ≡ Some y → x ≡ y
some_same x y e = cc

open_maps : (global global' r : ℕ) (older : ℕ → Type 0) (w w' : TokenState) (g : Stage)
    → ((d x : ℕ) → g ≡ inside d x → GuardsSection global older r x w → GuardsSection global' older r x w') → IsOpenAt global older r w g → IsOpenAt global' older r w' g
open_maps global global' r older w w' (inside d x) f h = f d x refl h
open_maps global global' r older w w' g f h = h

-- how a scan's stage tells what it has found
quiet_before : (task : Task) (e rec : ℕ) (busy : Option ℕ) (r : ℕ) → (r ≡ rec → ⊥) → IsQuiet (scanning task e (rec + 1) busy) r → IsQuiet (scanning task e rec busy) r
quiet_before polling e rec None r ne q = omega arith
quiet_before polling e rec (Some f) r ne q = q
quiet_before (first_round all s) e rec busy r ne q = q
quiet_before (second_round all s) e rec busy r ne q = q

never_quiet : (task : Task) (e rec found r : ℕ) → IsQuiet (scanning task e rec (Some found)) r → ⊥
never_quiet polling e rec found r q = q
never_quiet (first_round all s) e rec found r q = q
never_quiet (second_round all s) e rec found r q = q

quiet_scanning : (task : Task) (e rec : ℕ) (busy : Option ℕ) (r : ℕ) → IsQuiet (comparing task e rec busy) r → IsQuiet (scanning task e rec busy) r
quiet_scanning polling e rec None r q = q
quiet_scanning polling e rec (Some f) r q = q
quiet_scanning (first_round all s) e rec busy r q = q
quiet_scanning (second_round all s) e rec busy r q = q

quiet_comparing : (task : Task) (e rec : ℕ) (busy : Option ℕ) (r : ℕ) → IsQuiet (scanning task e rec busy) r → IsQuiet (comparing task e rec busy) r
quiet_comparing polling e rec None r q = q
quiet_comparing polling e rec (Some f) r q = q
quiet_comparing (first_round all s) e rec busy r q = q
quiet_comparing (second_round all s) e rec busy r q = q

half_same : (task : Task) (e rec rec' : ℕ) (busy busy' : Option ℕ) → halfway (scanning task e rec' busy') ≡ halfway (scanning task e rec busy)
half_same polling e rec rec' busy busy' = refl
half_same (first_round all s) e rec rec' busy busy' = refl
half_same (second_round all s) e rec rec' busy busy' = refl

half_scanning : (task : Task) (e rec : ℕ) (busy : Option ℕ) → halfway (scanning task e rec busy) ≡ halfway (comparing task e rec busy)
half_scanning polling e rec busy = refl
half_scanning (first_round all s) e rec busy = refl
half_scanning (second_round all s) e rec busy = refl

-- the comparison of a record's epoch changes nothing of what the scan has found
pub as_scanning : (past : Run) (global active own r : ℕ) (w : TokenState) (g : Stage) (task : Task) (e rec : ℕ) (busy : Option ℕ)
    → IsRecordHeld past global active own r (at_stage w (comparing task e rec busy)) g → IsRecordHeld past global active own r (at_stage w (scanning task e rec busy)) g
as_scanning past global active own r w g task e rec busy h = record {
  reading = h.reading;
  behind = h.behind;
  counted = h.counted;
  timely = h.timely;
  current = h.current;
  sections = λ o is. open_maps global global r (λ i. o < index_in past 0 i) (at_stage w (comparing task e rec busy)) (at_stage w (scanning task e rec busy)) g
      (λ d x inner b. record {
        pending = b.pending;
        dispatched = b.dispatched;
        quiet = λ q. b.quiet (quiet_comparing task e rec busy r q);
        half = λ first z. b.half first (sym (half_scanning task e rec busy) ∙ z);
        waited = b.waited;
      })
      (h.sections o is);
}

module _ (past : Run) (e : Entry) (active own r : ℕ) where
  abbrev now : Run
  now = past ++ (0, e) ∷ []

  back : (o i : ℕ) → i < count past 0 → o < index_in now 0 i → o < index_in past 0 i
  back o i l h = let s = index_stays past ((0, e) ∷ []) 0 i l in omega arith

  goes : (global global' : ℕ) (w w' : TokenState) (g : Stage) → AreMade (count past 0) w → global ≤ global' → (IsTimely global own g → IsTimely global' own g) → (IsPassed w'.stage r → IsAtGlobal global' g)
      → ((older : ℕ → Type 0) (d x : ℕ) → g ≡ inside d x → GuardsSection global older r x w → GuardsSection global' older r x w')
      → IsRecordHeld past global active own r w g → IsRecordHeld now global' active own r w' g
  goes global global' w w' g made up timely current guards h = record {
    reading = h.reading;
    behind = let b = h.behind in omega arith;
    counted = h.counted;
    timely = timely h.timely;
    current = current;
    sections = λ o is. let older : ℕ → Type 0 = λ i. o < index_in now 0 i in open_maps global global' r older w w' g (guards older)
        (open_along global r (count past 0) (λ i. o < index_in past 0 i) older w g made (back o)
        (h.sections o (open_else past 0 e r o is (λ z. absurd (omega arith)))));
  }

  -- the global epoch stays
  module _ (global : ℕ) (w : TokenState) (g : Stage) (made : AreMade (count past 0) w) (h : IsRecordHeld past global active own r w g) where
    stays_goes : (w' : TokenState) → (IsPassed w'.stage r → IsAtGlobal global g)
        → ((older : ℕ → Type 0) (d x : ℕ) → g ≡ inside d x → IsTimely global own (inside d x) → GuardsSection global older r x w → GuardsSection global older r x w') → IsRecordHeld now global active own r w' g
    stays_goes w' current guards = goes global global w w' g made (omega arith) (λ t. t) current (λ older d x is. guards older d x is (subst (IsTimely global own) is h.timely)) h

    -- a step on the client's words
    pub elsewhere : IsRecordHeld now global active own r (record w { steps = w.steps + 1 }) g
    elsewhere = stays_goes (record w { steps = w.steps + 1 }) h.current (λ older d x is t b. record { pending = b.pending; dispatched = b.dispatched; quiet = b.quiet; half = b.half; waited = b.waited })

  -- from between two calls
  module _ (global : ℕ) (w : TokenState) (g : Stage) (made : AreMade (count past 0) (at_stage w free)) (h : IsRecordHeld past global active own r (at_stage w free) g) (c n : ℕ) where
    -- the load at which an item is retired
    pub retires : (k : Retirement) → k.retired.epoch ≡ global → IsRecordHeld now global active own r (record w { stage = free; calls = c; pending = w.pending ++ k ∷ []; steps = n }) g
    retires k is = stays_goes global (at_stage w free) g made h (record w { stage = free; calls = c; pending = w.pending ++ k ∷ []; steps = n }) (λ p. absurd p)
        (λ older d x inner t b. record {
          pending = All-push (λ (k : Retirement). older k.number → x ≤ k.retired.epoch) w.pending k b.pending (λ o. let y : x ≤ global = t.2 in omega arith);
          dispatched = b.dispatched;
          quiet = λ q. absurd q;
          half = λ first z. none_some first z;
          waited = b.waited;
        })

    -- the load at which a poll begins: the list of the epoch before the last goes
    pub polls : (e : ℕ) → e ≡ global → 4 ≤ global → All (Bounded global 0) w.pending → IsRecordHeld now global active own r (record (dispatch (e - 2) w) { stage = scanning polling e 0 None; calls = c; steps = n }) g
    polls e is late low = stays_goes global (at_stage w free) g made h (record (dispatch (e - 2) w) { stage = scanning polling e 0 None; calls = c; steps = n }) (λ p. absurd (omega arith))
        (λ older d x inner t b. record {
          pending = All-filter (λ (k : Retirement). not (is_on ((e - 2) % 4) k.retired)) (λ (k : Retirement). older k.number → x ≤ k.retired.epoch) w.pending b.pending;
          dispatched = list_goes older x global 0 w.pending w.dispatched b.pending b.dispatched low ((e - 2) % 4)
              (λ y same above below. let z : global ≤ x + 1 = t.3 in let q : y ≤ global - 2 = two_back y global (omega arith) late (same ∙ ap (λ (m : ℕ). (m - 2) % 4) is) in omega arith);
          quiet = λ q. absurd (omega arith);
          half = λ first z. none_some first z;
          waited = b.waited;
        })

    -- the load at which `synchronize` or `barrier` begins
    pub begins : (all : Bool) (started e : ℕ) → IsRecordHeld now global active own r (record w { stage = scanning (first_round all started) e 0 None; calls = c; steps = n }) g
    begins all started e = stays_goes global (at_stage w free) g made h (record w { stage = scanning (first_round all started) e 0 None; calls = c; steps = n }) (λ p. absurd (omega arith))
        (λ older d x inner t b. record { pending = b.pending; dispatched = b.dispatched; quiet = λ q. absurd q; half = λ first z. none_some first z; waited = b.waited })

  -- the load at which the second round begins
  pub goes_on : (global : ℕ) (w : TokenState) (g : Stage) (all : Bool) (started e n : ℕ) → AreMade (count past 0) (at_stage w (between all started)) → IsRecordHeld past global active own r (at_stage w (between all started)) g
      → IsRecordHeld now global active own r (record w { stage = scanning (second_round all started) e 0 None; steps = n }) g
  goes_on global w g all started e n made h = stays_goes global (at_stage w (between all started)) g made h (record w { stage = scanning (second_round all started) e 0 None; steps = n }) (λ p. absurd (omega arith))
      (λ older d x inner t b. record { pending = b.pending; dispatched = b.dispatched; quiet = λ q. absurd q; half = b.half; waited = b.waited })

  -- a scan
  module _ (global : ℕ) (w : TokenState) (g : Stage) (task : Task) (e' rec : ℕ) (busy : Option ℕ) (made : AreMade (count past 0) (at_stage w (scanning task e' rec busy)))
      (h : IsRecordHeld past global active own r (at_stage w (scanning task e' rec busy)) g) (n : ℕ) where
    current_next : (r ≡ rec → IsAtGlobal global g) → r < rec + 1 → IsAtGlobal global g
    current_next here l = dite (ℕ_discrete r rec) (λ is. here is) (λ ne. h.current (omega arith))

    -- the record was found inactive
    pub passes_inactive : (r ≡ rec → active ≡ 0) → IsRecordHeld now global active own r (record w { stage = scanning task e' (rec + 1) busy; steps = n }) g
    passes_inactive found = stays_goes global (at_stage w (scanning task e' rec busy)) g made h (record w { stage = scanning task e' (rec + 1) busy; steps = n })
        (current_next (λ is. idle_current global own g (sym h.counted ∙ found is) h.timely))
        (λ older d x inner t b. record {
          pending = b.pending;
          dispatched = b.dispatched;
          quiet = λ q. b.quiet (quiet_before task e' rec busy r (λ is. let a : active ≡ d = h.counted ∙ ap active_of inner in let z = found is in let some = t.0 in absurd (omega arith)) q);
          half = λ first z. b.half first (sym (half_same task e' rec (rec + 1) busy busy) ∙ z);
          waited = b.waited;
        })

    -- the record was found at the epoch of the scan
    pub passes_current : (found : ℕ) → (r ≡ rec → own ≡ global) → IsRecordHeld now global active own r (record w { stage = scanning task e' (rec + 1) (Some found); steps = n }) g
    passes_current found at = stays_goes global (at_stage w (scanning task e' rec busy)) g made h (record w { stage = scanning task e' (rec + 1) (Some found); steps = n })
        (current_next (λ is. own_current global own g (at is) h.timely))
        (λ older d x inner t b. record {
          pending = b.pending;
          dispatched = b.dispatched;
          quiet = λ q. absurd (never_quiet task e' (rec + 1) found r q);
          half = λ first z. b.half first (sym (half_same task e' rec (rec + 1) busy (Some found)) ∙ z);
          waited = b.waited;
        })

    -- the record was found active
    pub meets : IsRecordHeld now global active own r (record w { stage = comparing task e' rec busy; steps = n }) g
    meets = stays_goes global (at_stage w (scanning task e' rec busy)) g made h (record w { stage = comparing task e' rec busy; steps = n }) h.current
        (λ older d x inner t b. record {
          pending = b.pending;
          dispatched = b.dispatched;
          quiet = λ q. b.quiet (quiet_scanning task e' rec busy r q);
          half = λ first z. b.half first (half_scanning task e' rec busy ∙ z);
          waited = b.waited;
        })

    -- its epoch is another: the record is loaded again
    pub repeats : IsRecordHeld now global active own r (record w { stage = scanning task e' rec busy; steps = n }) g
    repeats = stays_goes global (at_stage w (scanning task e' rec busy)) g made h (record w { stage = scanning task e' rec busy; steps = n }) h.current
        (λ older d x inner t b. record { pending = b.pending; dispatched = b.dispatched; quiet = b.quiet; half = b.half; waited = b.waited })

    -- or the poll is blocked
    pub gives_up : IsRecordHeld now global active own r (record w { stage = free; steps = n }) g
    gives_up = stays_goes global (at_stage w (scanning task e' rec busy)) g made h (record w { stage = free; steps = n }) (λ p. absurd p)
        (λ older d x inner t b. record { pending = b.pending; dispatched = b.dispatched; quiet = λ q. absurd q; half = λ first z. none_some first z; waited = b.waited })

  -- a poll found no record active: all lists go
  pub clears : (global : ℕ) (w : TokenState) (g : Stage) (e' rec n : ℕ) → AreMade (count past 0) (at_stage w (scanning polling e' rec None)) → IsRecordHeld past global active own r (at_stage w (scanning polling e' rec None)) g
      → r < rec + 1 → (r ≡ rec → active ≡ 0) → IsRecordHeld now global active own r (record (dispatch_all w) { stage = free; steps = n }) g
  clears global w g e' rec n made h low found = stays_goes global (at_stage w (scanning polling e' rec None)) g made h (record (dispatch_all w) { stage = free; steps = n }) (λ p. absurd p)
      (λ older d x inner t b. let passed : r < rec = dite (ℕ_discrete r rec) (λ is. let a : active ≡ d = h.counted ∙ ap active_of inner in let z = found is in let some = t.0 in absurd (omega arith)) (λ ne. omega arith) in
      record {
        pending = All-nil (λ (k : Retirement). older k.number → x ≤ k.retired.epoch);
        dispatched = All-append (λ (k : Retirement). ¬ older k.number) w.dispatched (list_by_list w.pending) b.dispatched (All-four (λ (k : Retirement). ¬ older k.number) w.pending (b.quiet passed));
        quiet = λ q. absurd q;
        half = λ first z. none_some first z;
        waited = b.waited;
      })

  -- the global epoch rises: each section that the scan passed is at the old one
  module _ (global : ℕ) (w : TokenState) (g : Stage) (e' records : ℕ) (busy : Option ℕ) (inside_ : r < records) (n : ℕ) where
    rises_timely : IsAtGlobal global g → IsTimely global own g → IsTimely (global + 1) own g
    rises_timely = timely_up global own g

    pub raises : e' ≡ global → 4 ≤ global → All (Bounded global 0) w.pending → AreMade (count past 0) (at_stage w (scanning polling e' records busy))
        → IsRecordHeld past global active own r (at_stage w (scanning polling e' records busy)) g → IsRecordHeld now (global + 1) active own r (record (dispatch (e' - 1) w) { stage = free; epoch = e' + 1; steps = n }) g
    raises is late low made h = let cur = h.current inside_ in goes global (global + 1) (at_stage w (scanning polling e' records busy)) (record (dispatch (e' - 1) w) { stage = free; epoch = e' + 1; steps = n }) g made (omega arith)
        (rises_timely cur) (λ p. absurd p)
        (λ older d x inner b. let at : x ≡ global = subst (IsAtGlobal global) inner cur in record {
          pending = All-filter (λ (k : Retirement). not (is_on ((e' - 1) % 4) k.retired)) (λ (k : Retirement). older k.number → x ≤ k.retired.epoch) w.pending b.pending;
          dispatched = list_goes older x global 0 w.pending w.dispatched b.pending b.dispatched low ((e' - 1) % 4)
              (λ y same above below. let q : y ≤ global - 1 = one_back y global (omega arith) late (same ∙ ap (λ (m : ℕ). (m - 1) % 4) is) in omega arith);
          quiet = λ q. absurd q;
          half = λ first z. none_some first z;
          waited = b.waited;
        })
        h

    pub raises_first : (all : Bool) (started : ℕ) → AreMade (count past 0) (at_stage w (scanning (first_round all started) e' records busy))
        → IsRecordHeld past global active own r (at_stage w (scanning (first_round all started) e' records busy)) g → IsRecordHeld now (global + 1) active own r (record w { stage = between all started; epoch = e' + 1; steps = n }) g
    raises_first all started made h = let cur = h.current inside_ in goes global (global + 1) (at_stage w (scanning (first_round all started) e' records busy)) (record w { stage = between all started; epoch = e' + 1; steps = n }) g made (omega arith)
        (rises_timely cur) (λ p. absurd p)
        (λ older d x inner b. let at : x ≡ global = subst (IsAtGlobal global) inner cur in record {
          pending = b.pending;
          dispatched = b.dispatched;
          quiet = λ q. absurd q;
          half = λ first z o. omega arith;
          waited = b.waited;
        })
        h

    -- after the second round no section is open that was open at the call; `barrier` dispatches all lists
    pub raises_second : (all : Bool) (started : ℕ) → All (Bounded global 1) w.pending → AreMade (count past 0) (at_stage w (scanning (second_round all started) e' records busy))
        → IsRecordHeld past global active own r (at_stage w (scanning (second_round all started) e' records busy)) g
        → IsRecordHeld now (global + 1) active own r (record (cond all (dispatch_all w) w) { stage = free; epoch = e' + 1; waited = Some started; steps = n }) g
    raises_second all started low made h = let cur = h.current inside_ in
        goes global (global + 1) (at_stage w (scanning (second_round all started) e' records busy)) (record (cond all (dispatch_all w) w) { stage = free; epoch = e' + 1; waited = Some started; steps = n }) g made (omega arith)
        (rises_timely cur) (λ p. absurd p)
        (λ older d x inner b. let at : x ≡ global = subst (IsAtGlobal global) inner cur in let half : older started → x + 1 ≤ global = b.half started refl in
        second_guards older x at all b half)
        h
      where
        second_guards : (older : ℕ → Type 0) (x : ℕ) → x ≡ global → (all : Bool) → GuardsSection global older r x (at_stage w (scanning (second_round all started) e' records busy)) → (older started → x + 1 ≤ global)
            → GuardsSection (global + 1) older r x (record (cond all (dispatch_all w) w) { stage = free; epoch = e' + 1; waited = Some started; steps = n })
        second_guards older x at true b half = record {
          pending = All-nil (λ (k : Retirement). older k.number → x ≤ k.retired.epoch);
          dispatched = all_go older x global 1 w.pending w.dispatched b.pending b.dispatched low (λ y above below. omega arith);
          quiet = λ q. absurd q;
          half = λ first z. none_some first z;
          waited = λ first z o. let same = some_same started first z in let q = half (subst older (sym same) o) in omega arith;
        }
        second_guards older x at false b half = record {
          pending = b.pending;
          dispatched = b.dispatched;
          quiet = λ q. absurd q;
          half = λ first z. none_some first z;
          waited = λ first z o. let same = some_same started first z in let q = half (subst older (sym same) o) in omega arith;
        }
