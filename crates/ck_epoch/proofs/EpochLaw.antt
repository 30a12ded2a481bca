-- The law of epochs: what each step keeps holds at every moment of every true run, and says that the run is safe.
use Rattle.std.proofs.Common.{◌≡◌, ℕ, suc, ◌+◌, ◌<◌, ◌≤◌, List, [], ◌++◌, get_or, refl, sym, ◌∙◌, subst, arith}
use Rattle.std.proofs.lemmas.Bool.{eqb-true}
use Rattle.std.proofs.lemmas.List.Elements.{All-filter, All-nil, filter_passes}
use mathlib.Core.Option.{some-ne-none}
use Rattle.ck_run.specs.Run.{index_in, Run, replay, account}
use Rattle.ck_run.specs.Rule.{IsRun}
use Rattle.ck_run.specs.Machine.{IsInvariantAlong, follows_of}
use Rattle.ck_run.proofs.Moments.{holds_along, run_before}
use Rattle.ck_epoch.specs.Lists.{is_on}
use Rattle.ck_epoch.specs.State.{epoch_word, Stage, holding, inside, Retirement, TokenState, start, next, May, Origin, records_of, IsOpening, epochs, state_at}
use Rattle.ck_epoch.specs.Epochs.{IsOpen, IsPassed, IsRetired, writer_in, stage_in, IsSafeNow, IsSafe, AreEpochs, KeepsEpochs, HasWaited}
use Rattle.ck_epoch.specs.Held.{IsTimely, IsAtGlobal, GuardsSection, IsOpenAt, AreHeld}
use Rattle.ck_epoch.proofs.Keeps.{keeps}
use Rattle.ck_epoch.proofs.RecordsKept.{none_some}

-- a section that is open is one of its pass's stage
pub record IsInside (global : ℕ) (older : ℕ → Type 0) (r : ℕ) (w : TokenState) (g : Stage) : Type 0 where
  pub depth : ℕ
  pub epoch : ℕ
  pub stage : g ≡ inside depth epoch
  pub guarded : GuardsSection global older r epoch w

pub inside_at : (global : ℕ) (older : ℕ → Type 0) (r : ℕ) (w : TokenState) (g : Stage) → IsOpenAt global older r w g → IsInside global older r w g
inside_at global older r w (inside d x) h = record { depth = d; epoch = x; stage = refl; guarded = h }
inside_at global older r w g h = absurd h

module _ {C : Type 0} where
  abbrev pub Held : Origin C → Run → List ℕ → (ℕ → TokenState) → Type 0
  Held origin = AreHeld (records_of origin)

  pub starts : (origin : Origin C) → IsOpening origin → Held origin [] origin.words start
  starts origin o = record {
    wide = o.long;
    writer = record {
      writing = tt;
      steps = refl;
      epoch = sym o.epoch;
      late = omega (arith, o.epoch);
      few = omega arith;
      bounded = omega (arith, o.epoch);
      scan = tt;
      pending = All-nil (λ (k : Retirement). IsRetired [] k × (k.retired.epoch + 0 ≤ get_or origin.words 0 0));
      dispatched = All-nil (IsRetired []);
      waited = λ first z. none_some first z;
    };
    numbered = λ r. refl;
    unused = λ r l. refl;
    each = λ r l. record {
      reading = tt;
      behind = let a = o.epochs r l in omega (arith, o.epoch);
      counted = o.active r l;
      timely = tt;
      current = λ p. tt;
      sections = λ i is. some-ne-none (suc r, is.opens.0) (sym is.opens.2);
    };
  }

  pub each_keeps : (origin : Origin C) → IsInvariantAlong (next (records_of origin)) (May (records_of origin)) (Held origin)
  each_keeps origin = keeps (records_of origin)

  -- at the end of every true run, and so at each of its moments
  pub held_after : (origin : Origin C) (run : Run) → IsRun (follows_of epochs) origin run → Held origin run (replay origin.words run) (λ n. state_at origin n (account n run))
  held_after origin run r = holds_along epochs Held starts each_keeps origin run r

  module _ (origin : Origin C) (run : Run) (h : Held origin run (replay origin.words run) (λ n. state_at origin n (account n run))) where
    abbrev E : ℕ
    E = get_or (replay origin.words run) 0 0

    abbrev G : ℕ → ℕ
    G r = get_or (replay origin.words run) (epoch_word r) 0

    -- the section and what guards it
    pub section : (r o : ℕ) → r < records_of origin → IsOpen run r o → IsInside E (λ i. o < index_in run 0 i) r (writer_in origin run) (stage_in origin run r)
    section r o l is = inside_at E (λ i. o < index_in run 0 i) r (writer_in origin run) (stage_in origin run r) ((h.each r l).sections o is)

    pub safe_now : IsSafeNow origin run
    safe_now r o l is = (section r o l is).guarded.dispatched

    pub waited_now : HasWaited origin run
    waited_now r o first l is z = (section r o l is).guarded.waited first z

    timely : (r : ℕ) (g : Stage) → r < records_of origin → stage_in origin run r ≡ g → IsTimely E (G r) g
    timely r g l is = subst (IsTimely E (G r)) is (h.each r l).timely

    current : (r : ℕ) (g : Stage) → r < records_of origin → IsPassed (writer_in origin run).stage r → stage_in origin run r ≡ g → IsAtGlobal E g
    current r g l p is = subst (IsAtGlobal E) is ((h.each r l).current p)

    pub epochs_now : AreEpochs origin run (replay origin.words run)
    epochs_now = record {
      behind = λ r l. (h.each r l).behind;
      loaded = λ r g l is. timely r (holding g) l is;
      sections = λ r o l is. let s = section r o l is in let t = timely r (inside s.depth s.epoch) l s.stage in let e = t.1 in let a = t.2 in let b = t.3 in (omega arith, omega arith);
      scanned_loaded = λ r g l p is. current r (holding g) l p is;
      scanned_sections = λ r o l p is. let s = section r o l is in let t = timely r (inside s.depth s.epoch) l s.stage in t.1 ∙ current r (inside s.depth s.epoch) l p s.stage;
      pending = λ j low k d l. let w = writer_in origin run in let test = λ (k : Retirement). is_on j k.retired in
          let p = All-filter test (λ (k : Retirement). IsRetired (account 0 run) k × (k.retired.epoch ≤ E)) w.pending (λ k d l. let q = h.writer.pending k d l in (q.0, let b = q.1 in omega arith)) k d l in
          (p.0, eqb-true _ j (filter_passes test w.pending k d l), p.1);
      dispatched = h.writer.dispatched;
    }

  prefix : (origin : Origin C) (run past rest : Run) → IsRun (follows_of epochs) origin run → run ≡ past ++ rest → IsRun (follows_of epochs) origin past
  prefix origin run past rest r is = run_before epochs origin past rest (subst (IsRun (follows_of epochs) origin) is r)

  pub safe : (origin : Origin C) (run : Run) → IsRun (follows_of epochs) origin run → IsSafe origin run
  safe origin run r past rest is = safe_now origin past (held_after origin past (prefix origin run past rest r is))

  pub keeps_epochs : (origin : Origin C) (run : Run) → IsRun (follows_of epochs) origin run → KeepsEpochs origin run
  keeps_epochs origin run r past rest is = epochs_now origin past (held_after origin past (prefix origin run past rest r is))

  pub has_waited : (origin : Origin C) (run : Run) → IsRun (follows_of epochs) origin run → HasWaited origin run
  has_waited origin run r = waited_now origin run (held_after origin run r)
