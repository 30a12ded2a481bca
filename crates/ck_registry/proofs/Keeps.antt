-- Each step of each visitor keeps what holds of a registry at every moment.
use Rattle.std.proofs.Common.{◌≡◌, ◌≢◌, ℕ, zero, suc, ◌+◌, ◌-◌, ◌%◌, ◌^◌, ◌<◌, ◌≤◌, ◌⊎◌, ⊎_elim, inl, inr, Bool, true, false, not, cond, ◌==◌, eq-eqb, Option, Some, None, List, [], ◌∷◌, ◌++◌, length, All, set, get_or, length-set, get_or-set_same, get_or-set_other, refl, sym, ap, ◌∙◌, subst, arith}
use Rattle.std.proofs.lemmas.Bool.{eqb-true}
use Rattle.std.proofs.lemmas.List.{set-get_or}
use Rattle.std.proofs.lemmas.List.Elements.{All-filter, All-append, All-push, All-nil}
use mathlib.Core.Logic.{dite}
use mathlib.Core.Option.{some}
use native.Mathlib.Decide.{ℕ_discrete}
use Rattle.atomic_table.proofs.Lists.{at_last}
use Rattle.ck_run.specs.declared.account.Step.{Step}
use Rattle.ck_run.specs.declared.account.Step.TheVariants.{Load, Store, Exchange}
use Rattle.ck_run.specs.declared.account.Entry.{Entry}
use Rattle.ck_run.specs.Run.{Run, account, words_after, Fits}
use Rattle.ck_run.specs.Range.{word_of}
use Rattle.ck_run.specs.Machine.{moved, IsInvariantAlong}
use Rattle.ck_epoch.specs.Lists.{is_on}
use Rattle.ck_epoch.specs.State.{active_word, epoch_word, Stage, outside, entering, holding, inside, at_depth, Calls, Retirement, retirement, list_by_list, first_busy}
use Rattle.ck_epoch.specs.Epochs.{IsRetired}
use Rattle.ck_epoch.specs.Held.{IsOfPass, active_of, IsTimely, IsAtGlobal}
use Rattle.ck_epoch.proofs.Timely.{two_back, All-four, list_goes}
use Rattle.ck_registry.specs.State.{state_word, Activity, away, trying, resting, passing, checking, ready, TokenState, IsMember, dispatch, dispatch_all, after_scan, after_load, after_store, after_advance, after_rest, Retires, MayLoad, after_try, after_record, after_step, next, Tries, MayRest, MayStep, scan, Origin, records_of, May}
use Rattle.ck_registry.specs.Epochs.{IsSectionOpen, HasPassed}
use Rattle.ck_registry.specs.Held.{IsSound, IsMemberHeld, IsMemberScan, IsPendingItem, IsQuietScan, IsWithinSection, AreMembersHeld}
use Rattle.ck_registry.proofs.OpenSections.{open_cases, open_stays, not_ended, retired_more, pending_more, told}
use Rattle.ck_registry.proofs.Change.{S, A, W, open_facts}
use Rattle.ck_registry.proofs.StepKinds.{IsStill, rests, sets, rises}

load_not_store : (w x v y : ℕ) → Load w x ≢ Store v y
load_not_store w x v y e = cc

exchange_not_store : (w a b x v y : ℕ) → Exchange w a b x ≢ Store v y
exchange_not_store w a b x v y e = cc

outside_not_inside : (d g : ℕ) → outside ≡ inside d g → ⊥
outside_not_inside d g e = cc

entering_not_inside : (d g : ℕ) → entering ≡ inside d g → ⊥
entering_not_inside d g e = cc

holding_not_inside : (x d g : ℕ) → holding x ≡ inside d g → ⊥
holding_not_inside x d g e = cc

quiet_checks : (e rec r : ℕ) (busy : Option ℕ) → IsQuietScan (checking e rec busy) r → IsQuietScan (passing e rec busy) r
quiet_checks e rec r None q = q
quiet_checks e rec r (Some f) q = q

quiet_before : (e rec r : ℕ) (busy : Option ℕ) → (r ≡ rec → ⊥) → IsQuietScan (passing e (rec + 1) busy) r → IsQuietScan (passing e rec busy) r
quiet_before e rec r None ne q = omega arith
quiet_before e rec r (Some f) ne q = q

module _ (records tokens : ℕ) (past : Run) (words : List ℕ) (at : ℕ → TokenState) (h : AreMembersHeld records tokens past words at) (n : ℕ) (e : Entry) (among : n < tokens) where
  abbrev T : TokenState
  T = at n

  abbrev G : ℕ
  G = get_or words 0 0

  abbrev after : Run
  after = past ++ (n, e) ∷ []

  abbrev more : List Entry
  more = account n past ++ e ∷ []

  abbrev Held : List ℕ → TokenState → Type 0
  Held words' u = AreMembersHeld records tokens after words' (moved at n u)

  kept_pending : All (IsPendingItem G more) T.pending
  kept_pending = pending_more (account n past) e G G (omega arith) T.pending (h.each n).pending

  kept_dispatched : All (IsRetired more) T.dispatched
  kept_dispatched = retired_more (account n past) e T.dispatched (h.each n).dispatched

  no_store_load : (w x : ℕ) → e.step ≡ Load w x → (r g : ℕ) → e.step ≢ Store (epoch_word r) g
  no_store_load w x on r g z = load_not_store w x (epoch_word r) g (sym on ∙ z)

  no_store_exchange : (w a b x : ℕ) → e.step ≡ Exchange w a b x → (r g : ℕ) → e.step ≢ Store (epoch_word r) g
  no_store_exchange w a b x on r g z = exchange_not_store w a b x (epoch_word r) g (sym on ∙ z)

  -- a step that changes no word, and of the visitor only what it is about
  turns : (a : Activity) (c : ℕ) → (IsMember a → IsMember T.activity) → (IsMember T.activity → IsMember a) → T.calls ≤ c → c ≤ 2 ^ 40 → IsMemberScan records G a
      → ((r : ℕ) → r < records → HasPassed a G r → HasPassed T.activity G r ⊎ ((A words r ≡ 0) ⊎ (W words r ≡ G))) → ((r g : ℕ) → e.step ≢ Store (epoch_word r) g)
      → ((r : ℕ) → 0 < A words r → IsQuietScan a r → IsQuietScan T.activity r) → Held words (record T { activity = a; calls = c; steps = T.steps + 1 })
  turns a c member holder counts few scans passes opens quiet = rests records tokens past words at h n e among a c T.pending T.dispatched record {
    member = member;
    holder = holder;
    counts = counts;
    few = few;
    scan = scans;
    pending = kept_pending;
    dispatched = kept_dispatched;
    passes = passes;
    opens = opens;
    guards = λ older r low some up down g. record { pending = g.pending; dispatched = g.dispatched; quiet = λ q. g.quiet (quiet r some q) };
  }

  few_calls : T.calls ≤ 2 ^ 40
  few_calls = (h.each n).few

  -- a step of a member, whose record's words are these
  module _ (is : IsMember T.activity) where
    mine : IsMemberHeld records G (S records words T.rec) (A words T.rec) (W words T.rec) T.rec T.section
    mine = (h.each n).member is

    -- its record's section is its own
    is_inside : (o : ℕ) → IsSectionOpen past T.rec o → (d : ℕ) × (g : ℕ) × (T.section ≡ inside d g)
    is_inside o open_ = let i = h.open_in T.rec o mine.low open_ in let same : i.0 ≡ n = h.alone i.0 n i.1.holds.0 is i.1.holds.1 in
        (i.1.depth, i.1.epoch, sym (ap (λ (k : ℕ). (at k).section) same) ∙ i.1.section)

    apart : (m : ℕ) → n ≢ m → IsMember (at m).activity → T.rec ≢ (at m).rec
    apart m ne other same = ne (h.alone n m is other same)

    none_open : (g : Stage) → T.section ≡ g → ((d x : ℕ) → g ≡ inside d x → ⊥) → (o : ℕ) → IsSectionOpen past T.rec o → ⊥
    none_open g at_ never o open_ = let z = is_inside o open_ in never z.0 z.1 (sym at_ ∙ z.2)

    -- a store in one of its words
    module _ (w x : ℕ) (on : e.step ≡ Store w x) (else_ : (r : ℕ) → r < records → T.rec ≢ r → (state_word records r ≢ w) × (active_word r ≢ w) × (epoch_word r ≢ w)) (pos : 0 ≢ w) where
      abbrev words' : List ℕ
      words' = set words w x

      stores : (a : Activity) (g : Stage) (c : ℕ) → IsStill a → T.calls ≤ c → c ≤ 2 ^ 40 → IsOfPass g
          → (IsMember a → IsMemberHeld records G (S records words' T.rec) (A words' T.rec) (W words' T.rec) T.rec g)
          → IsSound G (S records words' T.rec) (A words' T.rec) (W words' T.rec) → (IsMember a → (m : ℕ) → HasPassed (at m).activity G T.rec → IsAtGlobal G g)
          → ((o : ℕ) → IsSectionOpen after T.rec o → ((IsSectionOpen past T.rec o × (W words' T.rec ≡ W words T.rec)) ⊎ (o ≡ length past)) × IsWithinSection (record T { activity = a; section = g; calls = c; steps = T.steps + 1 }) T.rec)
          → Held words' (record T { activity = a; section = g; calls = c; steps = T.steps + 1 })
      stores a g c still counts few reading member sound current opened = sets records tokens past words at h n e among T.rec words' a g c record {
        low = mine.low;
        long = length-set words w x;
        global = get_or-set_other words w 0 x 0 pos;
        rest = λ r low ne. let z = else_ r low ne in (get_or-set_other words w (state_word records r) x 0 z.0, get_or-set_other words w (active_word r) x 0 z.1, get_or-set_other words w (epoch_word r) x 0 z.2);
        was = λ _. refl;
        apart = apart;
        still = still;
        counts = counts;
        few = few;
        reading = reading;
        member = member;
        sound = sound;
        current = current;
        opened = opened;
        elsewhere = λ r g low ne z. (else_ r low ne).2 (sym (ap word_of (sym on ∙ z)));
      }

    -- in the active word
    module _ (x : ℕ) (on : e.step ≡ Store (active_word T.rec) x) where
      abbrev active' : List ℕ
      active' = set words (active_word T.rec) x

      at_active : A active' T.rec ≡ x
      at_active = let w = h.wide in let l = mine.low in get_or-set_same words (active_word T.rec) x 0 (omega arith)

      state_stays : S records active' T.rec ≡ S records words T.rec
      state_stays = let l = mine.low in get_or-set_other words (active_word T.rec) (state_word records T.rec) x 0 (λ z. absurd (omega arith))

      epoch_stays : W active' T.rec ≡ W words T.rec
      epoch_stays = get_or-set_other words (active_word T.rec) (epoch_word T.rec) x 0 (λ z. absurd (omega arith))

      active_opens_none : (o : ℕ) → IsSectionOpen after T.rec o → IsSectionOpen past T.rec o
      active_opens_none o now = open_stays past n e T.rec o now (λ g z. let y = ap word_of (sym on ∙ z) in absurd (omega arith))

      sets_active : (g : Stage) → T.calls < 2 ^ 40 → IsOfPass g → x ≡ active_of g → IsTimely G (W words T.rec) g → ((m : ℕ) → HasPassed (at m).activity G T.rec → IsAtGlobal G g)
          → ((o : ℕ) → IsSectionOpen after T.rec o → IsSectionOpen past T.rec o → IsWithinSection (record T { activity = resting; section = g; calls = T.calls + 1; steps = T.steps + 1 }) T.rec)
          → Held active' (record T { activity = resting; section = g; calls = T.calls + 1; steps = T.steps + 1 })
      sets_active g fewer reading counted timely current inside_ = let l = mine.low in let s = h.sound T.rec l in let held = mine.held in
          stores (active_word T.rec) x on (λ r low ne. (λ z. absurd (omega arith), λ z. absurd (omega arith), λ z. absurd (omega arith))) (λ z. absurd (omega arith)) resting g (T.calls + 1) tt (omega arith) (omega arith) reading
          (λ _. record { low = l; held = state_stays ∙ held; counted = at_active ∙ counted; timely = subst (λ (k : ℕ). IsTimely G k g) (sym epoch_stays) timely })
          record { behind = let b = s.behind in let y = epoch_stays in omega arith; low = let b = s.low in let y = state_stays in omega arith; idle = λ z. let y = state_stays in absurd (omega arith) }
          (λ _ m p. current m p)
          (λ o now. let was = active_opens_none o now in (inl (was, epoch_stays), inside_ o now was))

      enters : T.section ≡ outside → T.calls < 2 ^ 40 → x ≡ 1 → Held active' (record T { activity = resting; section = entering; calls = T.calls + 1; steps = T.steps + 1 })
      enters at_ fewer one = sets_active entering fewer tt one tt (λ m p. tt) (λ o now was. absurd (none_open outside at_ outside_not_inside o was))

      deepens : (d g : ℕ) → T.section ≡ inside d g → T.calls < 2 ^ 40 → (k : ℕ) → x ≡ k → Held active' (record T { activity = resting; section = at_depth k g; calls = T.calls + 1; steps = T.steps + 1 })
      deepens d g at_ fewer zero is_x = sets_active outside fewer tt is_x tt (λ m p. tt) (λ o now was. absurd (not_ended past n e T.rec o now was (on ∙ ap (λ (k : ℕ). Store (active_word T.rec) k) is_x)))
      deepens d g at_ fewer (suc k) is_x = let t = subst (IsTimely G (W words T.rec)) at_ mine.timely in
          sets_active (inside (suc k) g) fewer tt is_x (omega arith, t.1, t.2, t.3) (λ m p. subst (IsAtGlobal G) at_ (h.found m n is p))
          (λ o now was. record { holds = (tt, refl); depth = suc k; epoch = g; section = refl })

    -- the global epoch is loaded
    holds_epoch : (g : ℕ) → T.section ≡ entering → ((r y : ℕ) → e.step ≢ Store (epoch_word r) y) → g ≡ G → Held words (record T { activity = resting; section = holding g; steps = T.steps + 1 })
    holds_epoch g at_ opens found = let l = mine.low in let s = h.sound T.rec l in let b = s.behind in
        sets records tokens past words at h n e among T.rec words resting (holding g) T.calls record {
          low = l;
          long = refl;
          global = refl;
          rest = λ r low ne. (refl, refl, refl);
          was = λ _. refl;
          apart = apart;
          still = tt;
          counts = omega arith;
          few = few_calls;
          reading = tt;
          member = λ _. record { low = l; held = mine.held; counted = mine.counted ∙ ap active_of at_; timely = (omega arith, omega arith, omega arith) };
          sound = s;
          current = λ _ m p. found;
          opened = λ o now. absurd (none_open entering at_ entering_not_inside o (open_stays past n e T.rec o now (opens T.rec)));
          elsewhere = λ r y low ne. opens r y;
        }

    -- and stored: a section opens
    opens_section : (g : ℕ) → T.section ≡ holding g → e.step ≡ Store (epoch_word T.rec) g → Held (set words (epoch_word T.rec) g) (record T { activity = resting; section = inside 1 g; steps = T.steps + 1 })
    opens_section g at_ on = let w = epoch_word T.rec in let l = mine.low in let s = h.sound T.rec l in let wide = h.wide in let held = mine.held in
        let t = subst (IsTimely G (W words T.rec)) at_ mine.timely in let t0 = t.0 in let t1 = t.1 in
        let words' : List ℕ = set words w g in
        let state : S records words' T.rec ≡ S records words T.rec = get_or-set_other words w (state_word records T.rec) g 0 (λ z. absurd (omega arith)) in
        let active : A words' T.rec ≡ A words T.rec = get_or-set_other words w (active_word T.rec) g 0 (λ z. absurd (omega arith)) in
        let own : W words' T.rec ≡ g = get_or-set_same words w g 0 (omega arith) in
        stores w g on (λ r low ne. (λ z. absurd (omega arith), λ z. absurd (omega arith), λ z. absurd (omega arith))) (λ z. absurd (omega arith)) resting (inside 1 g) T.calls tt (omega arith) few_calls tt
        (λ _. record { low = l; held = state ∙ held; counted = active ∙ (mine.counted ∙ ap active_of at_); timely = (omega arith, own, t0, t1) })
        record { behind = omega arith; low = let b = s.low in omega arith; idle = λ z. absurd (omega arith) }
        (λ _ m p. subst (IsAtGlobal G) at_ (h.found m n is p))
        (λ o now. (
          ⊎_elim (λ old. absurd (none_open (holding g) at_ (holding_not_inside g) o old)) (λ new. inr new.0) (open_cases past n e T.rec o now),
          record { holds = (tt, refl); depth = 1; epoch = g; section = refl },
        ))

    -- the record is handed back
    leaves : T.section ≡ outside → e.step ≡ Store (state_word records T.rec) 0 → Held (set words (state_word records T.rec) 0) (record T { activity = away; steps = T.steps + 1 })
    leaves at_ on = let w = state_word records T.rec in let l = mine.low in let s = h.sound T.rec l in let wide = h.wide in
        let words' : List ℕ = set words w 0 in
        let state : S records words' T.rec ≡ 0 = get_or-set_same words w 0 0 (omega arith) in
        let active : A words' T.rec ≡ A words T.rec = get_or-set_other words w (active_word T.rec) 0 0 (λ z. absurd (omega arith)) in
        let own : W words' T.rec ≡ W words T.rec = get_or-set_other words w (epoch_word T.rec) 0 0 (λ z. absurd (omega arith)) in
        subst (λ (g : Stage). Held words' (record T { activity = away; section = g; steps = T.steps + 1 })) (sym at_)
        (stores w 0 on (λ r low ne. (λ z. absurd (omega arith), λ z. absurd (omega arith), λ z. absurd (omega arith))) (λ z. absurd (omega arith)) away outside T.calls tt (omega arith) few_calls tt
        (λ m. absurd m)
        record { behind = let b = s.behind in omega arith; low = omega arith; idle = λ z. active ∙ (mine.counted ∙ ap active_of at_) }
        (λ m. absurd m)
        (λ o now. absurd (none_open outside at_ outside_not_inside o (open_stays past n e T.rec o now (λ g z. let y = ap word_of (sym on ∙ z) in absurd (omega arith))))))

    -- the load by which an item is retired
    retires : (at_ log found : ℕ) → e.item ≡ at_ ∷ log ∷ [] → e.step ≡ Load 0 found → found ≡ G → T.calls < 2 ^ 40
        → Held words (record T { activity = resting; calls = T.calls + 1; pending = T.pending ++ retirement T.steps at_ log found ∷ []; steps = T.steps + 1 })
    retires at_ log found item on same fewer = let s = (h.each n).steps in let k : Retirement = retirement T.steps at_ log found in
        rests records tokens past words at h n e among resting (T.calls + 1) (T.pending ++ k ∷ []) T.dispatched record {
          member = λ _. is;
          holder = λ _. tt;
          counts = omega arith;
          few = omega arith;
          scan = tt;
          pending = All-push (IsPendingItem G more) T.pending k kept_pending
              ((e.opens, at_last (account n past) e T.steps (sym s) ∙ ap some (λ i. record { opens = e.opens; item = item i; step = on i })), omega arith);
          dispatched = kept_dispatched;
          passes = λ r low p. absurd p;
          opens = no_store_load 0 found on;
          guards = λ older r low some_ up down g. record {
            pending = All-push (λ (k : Retirement). older k.number → W words r ≤ k.retired.epoch) T.pending k g.pending (λ o. omega arith);
            dispatched = g.dispatched;
            quiet = λ q. absurd q;
          };
        }

    -- the load at which a scan begins: the list of the epoch before the last goes
    scans : (found : ℕ) → e.step ≡ Load 0 found → found ≡ G → T.calls < 2 ^ 40
        → Held words (record (dispatch (found - 2) T) { activity = passing found 0 None; calls = T.calls + 1; steps = T.steps + 1 })
    scans found on same fewer = let late = h.late in
        rests records tokens past words at h n e among (passing found 0 None) (T.calls + 1) (dispatch (found - 2) T).pending (dispatch (found - 2) T).dispatched record {
          member = λ _. is;
          holder = λ _. tt;
          counts = omega arith;
          few = omega arith;
          scan = (omega arith, omega arith, h.some_records);
          pending = All-filter (λ (k : Retirement). not (is_on ((found - 2) % 4) k.retired)) (IsPendingItem G more) T.pending kept_pending;
          dispatched = All-append (IsRetired more) T.dispatched _ kept_dispatched
              (All-filter (λ (k : Retirement). is_on ((found - 2) % 4) k.retired) (IsRetired more) T.pending (told G more T.pending kept_pending));
          passes = λ r low p. let b = p.1 in absurd (omega arith);
          opens = no_store_load 0 found on;
          guards = λ older r low some_ up down g. let x : ℕ = W words r in record {
            pending = All-filter (λ (k : Retirement). not (is_on ((found - 2) % 4) k.retired)) (λ (k : Retirement). older k.number → x ≤ k.retired.epoch) T.pending g.pending;
            dispatched = list_goes older x G 0 T.pending T.dispatched g.pending g.dispatched (λ k d l. let p = (kept_pending k d l).1 in omega arith) ((found - 2) % 4)
                (λ y rem above below. let q : y ≤ G - 2 = two_back y G (omega arith) late (rem ∙ ap (λ (m : ℕ). (m - 2) % 4) same) in omega arith);
            quiet = λ q. absurd (omega arith);
          };
        }

    -- a scan found no record active: all lists go
    clears : (v rec : ℕ) → T.activity ≡ passing v rec None → rec + 1 ≡ records → A words rec ≡ 0 → ((r g : ℕ) → e.step ≢ Store (epoch_word r) g)
        → Held words (record (dispatch_all T) { activity = resting; steps = T.steps + 1 })
    clears v rec at_ last none opens = rests records tokens past words at h n e among resting T.calls [] (dispatch_all T).dispatched record {
      member = λ _. is;
      holder = λ _. tt;
      counts = omega arith;
      few = few_calls;
      scan = tt;
      pending = All-nil (IsPendingItem G more);
      dispatched = All-append (IsRetired more) T.dispatched (list_by_list T.pending) kept_dispatched (All-four (IsRetired more) T.pending (told G more T.pending kept_pending));
      passes = λ r low p. absurd p;
      opens = opens;
      guards = λ older r low some_ up down g.
          let before : r < rec = dite (ℕ_discrete r rec) (λ z. let y = ap (A words) z in absurd (omega arith)) (λ ne. omega arith) in
          record {
            pending = All-nil (λ (k : Retirement). older k.number → W words r ≤ k.retired.epoch);
            dispatched = All-append (λ (k : Retirement). ¬ older k.number) T.dispatched (list_by_list T.pending) g.dispatched
                (All-four (λ (k : Retirement). ¬ older k.number) T.pending (g.quiet (subst (λ (a : Activity). IsQuietScan a r) (sym at_) before)));
            quiet = λ q. absurd q;
          };
    }

    -- a load of the global epoch at which a call begins
    loads : (x a : ℕ) → e.step ≡ Load a x → MayLoad T e.opens e.item a → Fits words (Load a x) → Held words (record (after_load T e.item x) { steps = T.steps + 1 })
    loads x a on may fits =
        let on0 : e.step ≡ Load 0 x = on ∙ ap (λ (k : ℕ). Load k x) may.0 in
        let same : x ≡ G = fits ∙ ap (λ (k : ℕ). get_or words k 0) may.0 in
        ⊎_elim
        (λ (m : Retires e.opens e.item). subst (λ (l : List ℕ). Held words (record (after_load T l x) { steps = T.steps + 1 })) (sym m.3) (retires m.0 m.1 x m.3 on0 same may.1))
        (λ (m : Calls scan e.opens e.item). subst (λ (l : List ℕ). Held words (record (after_load T l x) { steps = T.steps + 1 })) (sym m.1) (scans x on0 same may.1))
        may.2

    -- a step between two calls or within `begin`
    rest_kind : (g : Stage) (s : Step) → T.section ≡ g → e.step ≡ s → MayRest records T e.opens e.item g s → Fits words s
        → Held (words_after words s) (record (after_rest T e.item g s) { steps = T.steps + 1 })
    rest_kind outside (Store a x) at_ on may fits = ⊎_elim
        (λ m. subst (λ (z : ℕ × ℕ). Held (set words z.0 x) (record (after_store T z.1) { steps = T.steps + 1 })) (λ i. (sym m.0.0 i, sym m.1 i))
        (enters x (on ∙ ap (λ (k : ℕ). Store k x) m.0.0) at_ m.0.2 m.1))
        (λ m. subst (λ (z : ℕ × ℕ). Held (set words z.0 z.1) (record (after_store T z.1) { steps = T.steps + 1 })) (λ i. (sym m.0.0 i, sym m.1 i))
        (leaves at_ (on ∙ (λ i. Store (m.0.0 i) (m.1 i)))))
        may
    rest_kind outside (Load a x) at_ on may fits = loads x a on may fits
    rest_kind entering (Load a x) at_ on may fits = holds_epoch x at_ (no_store_load a x on) (fits ∙ ap (λ (k : ℕ). get_or words k 0) may.0)
    rest_kind (holding g) (Store a x) at_ on may fits =
        subst (λ (z : ℕ × ℕ). Held (set words z.0 z.1) (record T { activity = resting; section = inside 1 g; steps = T.steps + 1 })) (λ i. (sym may.0 i, sym may.2 i))
        (opens_section g at_ (on ∙ (λ i. Store (may.0 i) (may.2 i))))
    rest_kind (inside d g) (Store a x) at_ on may fits =
        subst (λ (z : ℕ). Held (set words z x) (record T { activity = resting; section = at_depth x g; calls = T.calls + 1; steps = T.steps + 1 })) (sym may.0.0)
        (deepens x (on ∙ ap (λ (k : ℕ). Store k x) may.0.0) d g at_ may.0.2 x refl)
    rest_kind (inside d g) (Load a x) at_ on may fits = loads x a on may fits
    rest_kind g s at_ on may fits = absurd may

    -- a record was passed
    module _ (v rec : ℕ) (busy : Option ℕ) (opens : (r g : ℕ) → e.step ≢ Store (epoch_word r) g) (scan_ : (4 ≤ v) × (v ≤ G) × (rec < records)) where
      -- as it was found inactive
      inactive : T.activity ≡ passing v rec busy → A words rec ≡ 0 → Held words (record (after_record records T v rec busy) { steps = T.steps + 1 })
      inactive at_ none = by_test (rec + 1 == records) refl
        where
          passes : (r : ℕ) → r < rec + 1 → v ≡ G → HasPassed T.activity G r ⊎ ((A words r ≡ 0) ⊎ (W words r ≡ G))
          passes r low same = dite (ℕ_discrete r rec)
              (λ z. inr (inl (ap (A words) z ∙ none)))
              (λ ne. inl (subst (λ (a : Activity). HasPassed a G r) (sym at_) (same, omega arith)))

          finishes : (b : Option ℕ) → b ≡ busy → rec + 1 ≡ records → Held words (record (after_scan T v b) { steps = T.steps + 1 })
          finishes None z last = clears v rec (at_ ∙ ap (passing v rec) (sym z)) last none opens
          finishes (Some f) z last = turns (ready v) T.calls (λ _. is) (λ _. tt) (omega arith) few_calls (scan_.0, scan_.1) (λ r low p. passes r (omega arith) p) opens (λ r some_ q. absurd q)

          by_test : (b : Bool) → (rec + 1 == records) ≡ b → Held words (record (cond b (after_scan T v busy) (record T { activity = passing v (rec + 1) busy })) { steps = T.steps + 1 })
          by_test true z = finishes busy refl (eqb-true (rec + 1) records z)
          by_test false z = let s2 = scan_.2 in turns (passing v (rec + 1) busy) T.calls (λ _. is) (λ _. tt) (omega arith) few_calls
              (scan_.0, scan_.1, dite (ℕ_discrete (rec + 1) records) (λ y. absurd (let q : true ≡ false = sym (eq-eqb (rec + 1) records y) ∙ z in cc)) (λ ne. omega arith))
              (λ r low p. passes r p.1 p.0) opens
              (λ r some_ q. subst (λ (a : Activity). IsQuietScan a r) (sym at_) (quiet_before v rec r busy (λ y. let k = ap (A words) y in absurd (omega arith)) q))

      -- as it was found active at the epoch of the scan
      current : (f : ℕ) → T.activity ≡ checking v rec busy → W words rec ≡ v → Held words (record (after_record records T v rec (Some f)) { steps = T.steps + 1 })
      current f at_ own = by_test (rec + 1 == records) refl
        where
          passes : (r : ℕ) → r < rec + 1 → v ≡ G → HasPassed T.activity G r ⊎ ((A words r ≡ 0) ⊎ (W words r ≡ G))
          passes r low same = dite (ℕ_discrete r rec)
              (λ z. inr (inr (ap (W words) z ∙ (own ∙ same))))
              (λ ne. inl (subst (λ (a : Activity). HasPassed a G r) (sym at_) (same, omega arith)))

          by_test : (b : Bool) → (rec + 1 == records) ≡ b → Held words (record (cond b (record T { activity = ready v }) (record T { activity = passing v (rec + 1) (Some f) })) { steps = T.steps + 1 })
          by_test true z = let last = eqb-true (rec + 1) records z in turns (ready v) T.calls (λ _. is) (λ _. tt) (omega arith) few_calls (scan_.0, scan_.1) (λ r low p. passes r (omega arith) p) opens (λ r some_ q. absurd q)
          by_test false z = let s2 = scan_.2 in turns (passing v (rec + 1) (Some f)) T.calls (λ _. is) (λ _. tt) (omega arith) few_calls
              (scan_.0, scan_.1, dite (ℕ_discrete (rec + 1) records) (λ y. absurd (let q : true ≡ false = sym (eq-eqb (rec + 1) records y) ∙ z in cc)) (λ ne. omega arith))
              (λ r low p. passes r p.1 p.0) opens (λ r some_ q. absurd q)

      -- it was found active
      meets : T.activity ≡ passing v rec busy → Held words (record T { activity = checking v rec busy; steps = T.steps + 1 })
      meets at_ = turns (checking v rec busy) T.calls (λ _. is) (λ _. tt) (omega arith) few_calls scan_ (λ r low p. inl (subst (λ (a : Activity). HasPassed a G r) (sym at_) p)) opens
          (λ r some_ q. subst (λ (a : Activity). IsQuietScan a r) (sym at_) (quiet_checks v rec r busy q))

      blocked : Held words (record T { activity = resting; steps = T.steps + 1 })
      blocked = turns resting T.calls (λ _. is) (λ _. tt) (omega arith) few_calls tt (λ r low p. absurd p) opens (λ r some_ q. absurd q)

      compared : (x : ℕ) → T.activity ≡ checking v rec busy → x ≡ W words rec
          → Held words (record (cond (x == v) (after_record records T v rec (first_busy busy rec)) (record T { activity = resting })) { steps = T.steps + 1 })
      compared x at_ fits = by_test (x == v) refl
        where
          passed : (b : Option ℕ) → W words rec ≡ v → Held words (record (after_record records T v rec (first_busy b rec)) { steps = T.steps + 1 })
          passed None own = current rec at_ own
          passed (Some f) own = current f at_ own

          by_test : (b : Bool) → (x == v) ≡ b → Held words (record (cond b (after_record records T v rec (first_busy busy rec)) (record T { activity = resting })) { steps = T.steps + 1 })
          by_test true z = passed busy (sym fits ∙ eqb-true x v z)
          by_test false z = blocked

    -- the exchange of the global epoch
    advances : (v found : ℕ) → T.activity ≡ ready v → e.step ≡ Exchange 0 v (v + 1) found → found ≡ G → T.calls < 2 ^ 40
        → Held (set words 0 (cond (found == v) (v + 1) found)) (record (after_advance T v found) { steps = T.steps + 1 })
    advances v found at_ on fits fewer = by_test (found == v) refl
      where
        by_test : (b : Bool) → (found == v) ≡ b
            → Held (set words 0 (cond b (v + 1) found)) (record (cond b (record (dispatch (v - 1) T) { activity = resting; calls = T.calls + 1 }) (record T { activity = resting; calls = T.calls + 1 })) { steps = T.steps + 1 })
        by_test true z = rises records tokens past words at h n e among v at_ (sym (eqb-true found v z) ∙ fits) fewer (no_store_exchange 0 v (v + 1) found on)
        by_test false z = subst (λ (ws : List ℕ). Held ws (record T { activity = resting; calls = T.calls + 1; steps = T.steps + 1 })) (sym (ap (set words 0) fits ∙ set-get_or words 0 0))
            (turns resting (T.calls + 1) (λ _. is) (λ _. tt) (omega arith) (omega arith) tt (λ r low p. absurd p) (no_store_exchange 0 v (v + 1) found on) (λ r some_ q. absurd q))

  -- `register` tries a record
  module _ (not_member : IsMember T.activity → ⊥) (r found : ℕ) (low : r < records) (on : e.step ≡ Exchange (state_word records r) 0 1 found) (fits : found ≡ S records words r) where
    joins : found ≡ 0 → Held (set words (state_word records r) 1) (record T { activity = resting; section = outside; rec = r; steps = T.steps + 1 })
    joins none = let w = state_word records r in let wide = h.wide in let s = h.sound r low in
        let words' : List ℕ = set words w 1 in
        let free : S records words r ≡ 0 = sym fits ∙ none in
        let idle : A words r ≡ 0 = s.idle free in
        let state : S records words' r ≡ 1 = get_or-set_same words w 1 0 (omega arith) in
        let active : A words' r ≡ A words r = get_or-set_other words w (active_word r) 1 0 (λ z. absurd (omega arith)) in
        let own : W words' r ≡ W words r = get_or-set_other words w (epoch_word r) 1 0 (λ z. absurd (omega arith)) in
        sets records tokens past words at h n e among r words' resting outside T.calls record {
          low = low;
          long = length-set words w 1;
          global = get_or-set_other words w 0 1 0 (λ z. absurd (omega arith));
          rest = λ k low ne. (get_or-set_other words w (state_word records k) 1 0 (λ z. absurd (omega arith)), get_or-set_other words w (active_word k) 1 0 (λ z. absurd (omega arith)), get_or-set_other words w (epoch_word k) 1 0 (λ z. absurd (omega arith)));
          was = λ m. absurd (not_member m);
          apart = λ m ne other same. let held = ((h.each m).member other).held in let z = ap (S records words) same in absurd (omega arith);
          still = tt;
          counts = omega arith;
          few = few_calls;
          reading = tt;
          member = λ _. record { low = low; held = state; counted = active ∙ idle; timely = tt };
          sound = record { behind = let b = s.behind in omega arith; low = omega arith; idle = λ z. active ∙ idle };
          current = λ _ m p. tt;
          opened = λ o now. let f = open_facts records tokens past words at h r o low (open_stays past n e r o now (no_store_exchange w 0 1 found on r)) in let some_ = f.0 in absurd (omega arith);
          elsewhere = λ k g low ne. no_store_exchange w 0 1 found on k g;
        }

    misses : (a : Activity) → (IsMember a → ⊥) → IsStill a → Held words (record T { activity = a; steps = T.steps + 1 })
    misses away never still = turns away T.calls (λ m. absurd m) (λ m. not_member m) (omega arith) few_calls tt (λ k l p. absurd p) (no_store_exchange (state_word records r) 0 1 found on) (λ k some_ q. absurd q)
    misses (trying k) never still = turns (trying k) T.calls (λ m. absurd m) (λ m. not_member m) (omega arith) few_calls tt (λ k l p. absurd p) (no_store_exchange (state_word records r) 0 1 found on) (λ k some_ q. absurd q)
    misses a never still = absurd (never tt)

    tries : Held (set words (state_word records r) (cond (found == 0) 1 found)) (record (after_try records T r found) { steps = T.steps + 1 })
    tries = by_test (found == 0) refl
      where
        last_test : (b : Bool) → Held words (record (cond b (record T { activity = away }) (record T { activity = trying (r + 1) })) { steps = T.steps + 1 })
        last_test true = misses away (λ m. m) tt
        last_test false = misses (trying (r + 1)) (λ m. m) tt

        by_test : (b : Bool) → (found == 0) ≡ b
            → Held (set words (state_word records r) (cond b 1 found)) (record (cond b (record T { activity = resting; section = outside; rec = r }) (cond (r + 1 == records) (record T { activity = away }) (record T { activity = trying (r + 1) }))) { steps = T.steps + 1 })
        by_test true z = joins (eqb-true found 0 z)
        by_test false z = subst (λ (ws : List ℕ). Held ws (record (cond (r + 1 == records) (record T { activity = away }) (record T { activity = trying (r + 1) })) { steps = T.steps + 1 }))
            (sym (ap (set words (state_word records r)) fits ∙ set-get_or words (state_word records r) 0)) (last_test (r + 1 == records))

  tries_at : (r a old new found : ℕ) → (IsMember T.activity → ⊥) → e.step ≡ Exchange a old new found → Tries records r a old new → Fits words (Exchange a old new found)
      → Held (set words a (cond (found == old) new found)) (record (after_try records T r found) { steps = T.steps + 1 })
  tries_at r a old new found never on may fits =
      subst (λ (z : ℕ × ℕ × ℕ). Held (set words z.0 (cond (found == z.1) z.2 found)) (record (after_try records T r found) { steps = T.steps + 1 })) (λ i. (sym may.0 i, sym may.2 i, sym may.3 i))
      (tries never r found may.1 (on ∙ λ i. Exchange (may.0 i) (may.2 i) (may.3 i) found) (fits ∙ ap (λ (k : ℕ). get_or words k 0) may.0))

  not_member : (a : Activity) → T.activity ≡ a → (IsMember a → ⊥) → IsMember T.activity → ⊥
  not_member a is never m = never (subst IsMember is m)

  kind : (a : Activity) (s : Step) → T.activity ≡ a → e.step ≡ s → MayStep records T e.opens e.item a s → Fits words s
      → Held (words_after words s) (record (after_step records T e.item a s) { steps = T.steps + 1 })
  kind away (Exchange a old new found) is on may fits = tries_at 0 a old new found (not_member away is (λ m. m)) on may.0 fits
  kind (trying r) (Exchange a old new found) is on may fits = tries_at r a old new found (not_member (trying r) is (λ m. m)) on may.0 fits
  kind resting s is on may fits = rest_kind (subst IsMember (sym is) tt) T.section s refl on may fits
  kind (passing v rec busy) (Load a x) is on may fits = by_test (x == 0) refl
    where
      member : IsMember T.activity
      member = subst IsMember (sym is) tt

      found : x ≡ A words rec
      found = fits ∙ ap (λ (k : ℕ). get_or words k 0) may.0

      at_scan : (4 ≤ v) × (v ≤ G) × (rec < records)
      at_scan = subst (IsMemberScan records G) is (h.each n).scan

      by_test : (b : Bool) → (x == 0) ≡ b → Held words (record (cond b (after_record records T v rec busy) (record T { activity = checking v rec busy })) { steps = T.steps + 1 })
      by_test true z = inactive member v rec busy (no_store_load a x on) at_scan is (sym found ∙ eqb-true x 0 z)
      by_test false z = meets member v rec busy (no_store_load a x on) at_scan is
  kind (checking v rec busy) (Load a x) is on may fits =
      compared (subst IsMember (sym is) tt) v rec busy (no_store_load a x on) (subst (IsMemberScan records G) is (h.each n).scan) x is (fits ∙ ap (λ (k : ℕ). get_or words k 0) may.0)
  kind (ready v) (Exchange a old new found) is on may fits =
      subst (λ (z : ℕ × ℕ × ℕ). Held (set words z.0 (cond (found == z.1) z.2 found)) (record (after_advance T v found) { steps = T.steps + 1 })) (λ i. (sym may.0 i, sym may.1 i, sym may.2 i))
      (advances (subst IsMember (sym is) tt) v found is (on ∙ λ i. Exchange (may.0 i) (may.1 i) (may.2 i) found) (fits ∙ ap (λ (k : ℕ). get_or words k 0) may.0) may.3)
  kind (ready v) (Load a x) is on may fits = rest_kind (subst IsMember (sym is) tt) T.section (Load a x) refl on may fits
  kind (ready v) (Store a x) is on may fits = rest_kind (subst IsMember (sym is) tt) T.section (Store a x) refl on may fits
  kind a s is on may fits = absurd may

-- What holds of a registry is kept by each step of its visitors
pub keeps : (origin : Origin) → IsInvariantAlong (next (records_of origin)) (May origin) (AreMembersHeld (records_of origin) origin.tokens)
keeps origin past words at n e h may fits =
    kind (records_of origin) origin.tokens past words at h n e (subst (λ (k : ℕ). k < origin.tokens) (h.numbered n) may.0) (at n).activity e.step refl refl may.1 fits
