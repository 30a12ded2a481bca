-- The law of a registry: what each step keeps holds at every moment of every true run, and says that the run is safe.
use Rattle.std.proofs.Common.{◌≡◌, ℕ, ◌+◌, ◌<◌, ◌≤◌, List, [], ◌++◌, get_or, sym, refl, ◌∙◌, subst, arith}
use Rattle.std.proofs.lemmas.Bool.{eqb-true}
use Rattle.std.proofs.lemmas.List.Elements.{All-filter, All-nil, filter_passes}
use mathlib.Core.Option.{some-ne-none}
use Rattle.ck_run.specs.Run.{Run, replay, account}
use Rattle.ck_run.specs.Rule.{IsRun}
use Rattle.ck_run.specs.Machine.{follows_of}
use Rattle.ck_run.proofs.Moments.{holds_along, run_before}
use Rattle.ck_epoch.specs.Lists.{is_on}
use Rattle.ck_epoch.specs.State.{epoch_word, inside, Retirement}
use Rattle.ck_epoch.specs.Epochs.{IsRetired}
use Rattle.ck_epoch.specs.Held.{IsTimely, IsAtGlobal}
use Rattle.ck_registry.specs.State.{TokenState, start, Origin, records_of, IsOpening, registry, state_at}
use Rattle.ck_registry.specs.Epochs.{IsSectionOpen, HasPassed, visitor_in, IsSafeForAllNow, HaveOneHolder, AreSharedEpochs, RegistryLaw}
use Rattle.ck_registry.specs.Held.{IsPendingItem, AreMembersHeld}
use Rattle.ck_registry.proofs.Keeps.{keeps}

abbrev pub Held : Origin → Run → List ℕ → (ℕ → TokenState) → Type 0
Held origin = AreMembersHeld (records_of origin) origin.tokens

pub starts : (origin : Origin) → IsOpening origin → Held origin [] origin.words start
starts origin o = record {
  some_records = o.some_records;
  wide = o.long;
  late = omega (arith, o.epoch);
  few = o.few;
  bounded = omega (arith, o.epoch);
  numbered = λ n. refl;
  sound = λ r low. record { behind = let a = o.epochs r low in omega (arith, o.epoch); low = let a = o.states r low in omega arith; idle = λ z. o.active r low };
  each = λ n. record {
    steps = refl;
    few = omega arith;
    reading = tt;
    member = λ m. absurd m;
    scan = tt;
    pending = All-nil (IsPendingItem (get_or origin.words 0 0) []);
    dispatched = All-nil (IsRetired []);
  };
  alone = λ n m a b same. absurd a;
  found = λ m n a passed. absurd a;
  open_in = λ r i low is. absurd (some-ne-none (is.opens.0, is.opens.1.0) (sym is.opens.1.2));
  guarded = λ m r i low is. absurd (some-ne-none (is.opens.0, is.opens.1.0) (sym is.opens.1.2));
}

-- at the end of every true run, and so at each of its moments
pub held_after : (origin : Origin) (run : Run) → IsRun (follows_of registry) origin run → Held origin run (replay origin.words run) (λ n. state_at origin n (account n run))
held_after origin run r = holds_along registry Held starts keeps origin run r

module _ (origin : Origin) (run : Run) (h : Held origin run (replay origin.words run) (λ n. state_at origin n (account n run))) where
  abbrev E : ℕ
  E = get_or (replay origin.words run) 0 0

  abbrev W : ℕ → ℕ
  W r = get_or (replay origin.words run) (epoch_word r) 0

  safe_now : IsSafeForAllNow origin run
  safe_now r o m low is = (h.guarded m r o low is).dispatched

  abbrev at : ℕ → TokenState
  at = visitor_in origin run

  alone_now : HaveOneHolder origin run
  alone_now r n m a b = h.alone n m a.0 b.0 (a.1 ∙ sym b.1)

  -- a section's record is its holder's
  at_inside : (r o : ℕ) → (low : r < records_of origin) → (is : IsSectionOpen run r o) → let i = h.open_in r o low is in IsTimely E (W r) (inside i.1.depth i.1.epoch)
  at_inside r o low is = let i = h.open_in r o low is in
      subst (λ (q : ℕ). IsTimely E (W q) (inside i.1.depth i.1.epoch)) i.1.holds.1 (subst (IsTimely E (W (at i.0).rec)) i.1.section ((h.each i.0).member i.1.holds.0).timely)

  epochs_now : AreSharedEpochs origin run (replay origin.words run)
  epochs_now = record {
    behind = λ r low. (h.sound r low).behind;
    loaded = λ n r g a is. subst (λ (q : ℕ). (g ≤ E) × (E ≤ g + 1) × (W q ≤ g)) a.1 (subst (IsTimely E (W (at n).rec)) is ((h.each n).member a.0).timely);
    sections = λ r o low is. let t = at_inside r o low is in let x = t.1 in let a = t.2 in let b = t.3 in (omega arith, omega arith);
    scanned_loaded = λ m n r g passed a is. subst (IsAtGlobal E) is (h.found m n a.0 (subst (HasPassed (at m).activity E) (sym a.1) passed));
    scanned_sections = λ m r o low passed is. let i = h.open_in r o low is in let t = at_inside r o low is in
        t.1 ∙ subst (IsAtGlobal E) i.1.section (h.found m i.0 i.1.holds.0 (subst (HasPassed (at m).activity E) (sym i.1.holds.1) passed));
    pending = λ m j low k d l. let w = at m in let test : Retirement → _ = λ (k : Retirement). is_on j k.retired in
        let p = All-filter test (IsPendingItem E (account m run)) w.pending (h.each m).pending k d l in
        (p.0, eqb-true _ j (filter_passes test w.pending k d l), p.1);
    dispatched = λ m. (h.each m).dispatched;
  }

prefix : (origin : Origin) (run past rest : Run) → IsRun (follows_of registry) origin run → run ≡ past ++ rest → Held origin past (replay origin.words past) (λ n. state_at origin n (account n past))
prefix origin run past rest r is = held_after origin past (run_before registry origin past rest (subst (IsRun (follows_of registry) origin) is r))

pub registry_law : RegistryLaw
registry_law origin run r = record {
  safe = λ past rest is. safe_now origin past (prefix origin run past rest r is);
  epochs = λ past rest is. epochs_now origin past (prefix origin run past rest r is);
  alone = λ past rest is. alone_now origin past (prefix origin run past rest r is);
}
