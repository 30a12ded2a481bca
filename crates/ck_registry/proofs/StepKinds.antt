-- Three kinds of step: one that changes no word, one on the words of the visitor's own record, and the rise of the global epoch.
use Rattle.std.proofs.Common.{◌≡◌, ◌≢◌, ℕ, ◌+◌, ◌-◌, ◌%◌, ◌^◌, ◌<◌, ◌≤◌, ◌⊎◌, ⊎_elim, inl, not, List, [], ◌∷◌, ◌++◌, length, All, set, get_or, length-set, get_or-set_same, get_or-set_other, refl, sym, ap, ◌∙◌, subst, arith}
use Rattle.std.proofs.lemmas.List.Elements.{All-filter, All-append}
use mathlib.Core.Logic.{dite}
use native.Mathlib.Decide.{ℕ_discrete}
use Rattle.ck_run.specs.declared.account.Step.TheVariants.{Store}
use Rattle.ck_run.specs.declared.account.Entry.{Entry}
use Rattle.ck_run.specs.Run.{Run, account}
use Rattle.ck_run.specs.Machine.{moved}
use Rattle.ck_run.proofs.Law.{moved_here, moved_else}
use Rattle.ck_epoch.specs.Lists.{is_on}
use Rattle.ck_epoch.specs.State.{active_word, epoch_word, Stage, inside, Retirement}
use Rattle.ck_epoch.specs.Epochs.{IsRetired}
use Rattle.ck_epoch.specs.Held.{IsOfPass, IsTimely, IsAtGlobal}
use Rattle.ck_epoch.proofs.Timely.{one_back, list_goes, timely_up}
use Rattle.ck_registry.specs.State.{state_word, Activity, away, trying, resting, passing, checking, ready, TokenState, IsMember, dispatch}
use Rattle.ck_registry.specs.Epochs.{IsSectionOpen, HasPassed}
use Rattle.ck_registry.specs.Held.{IsSound, IsMemberHeld, IsMemberScan, IsPendingItem, IsQuietScan, IsSectionGuarded, IsWithinSection, AreMembersHeld}
use Rattle.ck_registry.proofs.OpenSections.{open_stays, one_longer, retired_more, pending_more, told}
use Rattle.ck_registry.proofs.Change.{S, A, W, open_facts, found_current, changes}

-- not in a scan, and with none that is to be advanced
abbrev pub IsStill : Activity → Type 0
IsStill away = Unit {0}
IsStill (trying r) = Unit {0}
IsStill resting = Unit {0}
IsStill a = ⊥

still_passed : (a : Activity) (e r : ℕ) → IsStill a → HasPassed a e r → ⊥
still_passed (passing x rec busy) e r s p = s
still_passed (checking x rec busy) e r s p = s
still_passed (ready x) e r s p = s
still_passed a e r s p = p

still_quiet : (a : Activity) (r : ℕ) → IsStill a → IsQuietScan a r → ⊥
still_quiet (passing x rec busy) r s p = s
still_quiet (checking x rec busy) r s p = s
still_quiet (ready x) r s p = s
still_quiet a r s p = p

still_scan : (records global : ℕ) (a : Activity) → IsStill a → IsMemberScan records global a
still_scan records global (passing x rec busy) s = absurd s
still_scan records global (checking x rec busy) s = absurd s
still_scan records global (ready x) s = absurd s
still_scan records global a s = tt

-- a scan's epoch is at most the global one
passed_epoch : (records global e r : ℕ) (a : Activity) → IsMemberScan records global a → HasPassed a e r → e ≤ global
passed_epoch records global e r (passing x rec busy) s p = let b = s.1 in let q = p.0 in omega arith
passed_epoch records global e r (checking x rec busy) s p = let b = s.1 in let q = p.0 in omega arith
passed_epoch records global e r (ready x) s p = let b = s.1 in omega arith
passed_epoch records global e r a s p = absurd p

module _ (records tokens : ℕ) (past : Run) (words : List ℕ) (at : ℕ → TokenState) (h : AreMembersHeld records tokens past words at) (n : ℕ) (e : Entry) (among : n < tokens) where
  abbrev pub T : TokenState
  T = at n

  abbrev pub G : ℕ
  G = get_or words 0 0

  abbrev pub after : Run
  after = past ++ (n, e) ∷ []

  abbrev pub more : List Entry
  more = account n past ++ e ∷ []

  one_step : T.steps + 1 ≡ length more
  one_step = let s = (h.each n).steps in let l = one_longer (account n past) e in omega arith

  -- a step that changes no word, and what it leaves of the visitor
  abbrev pub rested : Activity → ℕ → List Retirement → List Retirement → TokenState
  rested a calls ps qs = record T { activity = a; steps = T.steps + 1; calls = calls; pending = ps; dispatched = qs }

  pub record Rest (a : Activity) (calls : ℕ) (ps qs : List Retirement) : Type 1 where
    pub member : IsMember a → IsMember T.activity
    pub holder : IsMember T.activity → IsMember a
    pub counts : T.calls ≤ calls
    pub few : calls ≤ 2 ^ 40
    pub scan : IsMemberScan records G a
    pub pending : All (IsPendingItem G more) ps
    pub dispatched : All (IsRetired more) qs
    pub passes : (r : ℕ) → r < records → HasPassed a G r → HasPassed T.activity G r ⊎ ((A words r ≡ 0) ⊎ (W words r ≡ G))
    pub opens : (r g : ℕ) → e.step ≢ Store (epoch_word r) g
    pub guards : (older : ℕ → Type 0) (r : ℕ) → r < records → 0 < A words r → W words r ≤ G → G ≤ W words r + 1 → IsSectionGuarded older r (W words r) T → IsSectionGuarded older r (W words r) (rested a calls ps qs)

  module _ (a : Activity) (calls : ℕ) (ps qs : List Retirement) (c : Rest a calls ps qs) where
    abbrev turned : TokenState
    turned = rested a calls ps qs

    stays_open : (r o : ℕ) → IsSectionOpen after r o → IsSectionOpen past r o
    stays_open r o is = open_stays past n e r o is (c.opens r)

    -- what it found of a member's record
    by_words : (k : ℕ) → IsMember (at k).activity → HasPassed a G (at k).rec → IsAtGlobal G (at k).section
    by_words k is passed = ⊎_elim
        (λ old. h.found n k is old)
        (λ new. found_current records tokens past words at h k is new)
        (c.passes (at k).rec ((h.each k).member is).low passed)

    inside_now : (r o : ℕ) → r < records → IsSectionOpen after r o → (k : ℕ) × IsWithinSection (moved at n turned k) r
    inside_now r o low is = let i = h.open_in r o low (stays_open r o is) in (
      i.0,
      dite (ℕ_discrete n i.0)
          (λ same. let z : at i.0 ≡ T = ap at (sym same) in subst (λ (t : TokenState). IsWithinSection t r) (sym (moved_here at n i.0 turned same)) record {
            holds = (c.holder (subst (λ (t : TokenState). IsMember t.activity) z i.1.holds.0), ap (λ (t : TokenState). t.rec) (sym z) ∙ i.1.holds.1);
            depth = i.1.depth;
            epoch = i.1.epoch;
            section = ap (λ (t : TokenState). t.section) (sym z) ∙ i.1.section;
          })
          (λ ne. subst (λ (t : TokenState). IsWithinSection t r) (sym (moved_else at n i.0 turned ne)) i.1),
    )

    pub rests : AreMembersHeld records tokens after words (moved at n turned)
    rests = let v = h.each n in changes records tokens past words at h n e words G turned refl record {
      among = among;
      long = refl;
      up = omega arith;
      number = h.numbered n;
      counts = let k = c.counts in omega arith;
      mine = record {
        steps = one_step;
        few = c.few;
        reading = v.reading;
        member = λ is. v.member (c.member is);
        scan = c.scan;
        pending = c.pending;
        dispatched = c.dispatched;
      };
      others = λ m ne is. (refl, refl, refl, ((h.each m).member is).timely);
      sound = h.sound;
      alone = λ m ne is mine same. ne (sym (h.alone m n is (c.member mine) same));
      found_others = λ m k _ _ is passed. h.found m k is passed;
      found_me = λ m ne is passed. h.found m n (c.member is) passed;
      found_by_me = λ k ne is passed. by_words k is passed;
      found_self = λ is passed. by_words n (c.member is) passed;
      cases = λ r o low is. inl (stays_open r o is, refl);
      inside = inside_now;
      guards = λ older r o low was is g. let f = open_facts records tokens past words at h r o low was in c.guards older r low f.0 f.1 f.2 g;
    }

  -- A step on the words of the record q, which is the visitor's before the step or after it
  abbrev pub stored : ℕ → Activity → Stage → ℕ → TokenState
  stored q a g calls = record T { activity = a; section = g; rec = q; steps = T.steps + 1; calls = calls }

  pub record Sets (q : ℕ) (words' : List ℕ) (a : Activity) (g : Stage) (calls : ℕ) : Type 0 where
    pub low : q < records
    pub long : length words' ≡ length words
    pub global : get_or words' 0 0 ≡ G
    pub rest : (r : ℕ) → r < records → q ≢ r → (S records words' r ≡ S records words r) × (A words' r ≡ A words r) × (W words' r ≡ W words r)
    pub was : IsMember T.activity → T.rec ≡ q
    pub apart : (m : ℕ) → n ≢ m → IsMember (at m).activity → q ≢ (at m).rec
    pub still : IsStill a
    pub counts : T.calls ≤ calls
    pub few : calls ≤ 2 ^ 40
    pub reading : IsOfPass g
    pub member : IsMember a → IsMemberHeld records G (S records words' q) (A words' q) (W words' q) q g
    pub sound : IsSound G (S records words' q) (A words' q) (W words' q)
    pub current : IsMember a → (m : ℕ) → HasPassed (at m).activity G q → IsAtGlobal G g
    pub opened : (o : ℕ) → IsSectionOpen after q o → ((IsSectionOpen past q o × (W words' q ≡ W words q)) ⊎ (o ≡ length past)) × IsWithinSection (stored q a g calls) q
    pub elsewhere : (r x : ℕ) → r < records → q ≢ r → e.step ≢ Store (epoch_word r) x

  module _ (q : ℕ) (words' : List ℕ) (a : Activity) (g : Stage) (calls : ℕ) (c : Sets q words' a g calls) where
    abbrev changed : TokenState
    changed = stored q a g calls

    stays_else : (r o : ℕ) → r < records → q ≢ r → IsSectionOpen after r o → IsSectionOpen past r o
    stays_else r o low ne is = open_stays past n e r o is (λ g. c.elsewhere r g low ne)

    inside_else : (r o : ℕ) → r < records → q ≢ r → IsSectionOpen after r o → (k : ℕ) × IsWithinSection (moved at n changed k) r
    inside_else r o low ne is = let i = h.open_in r o low (stays_else r o low ne is) in (
      i.0,
      dite (ℕ_discrete n i.0)
          (λ same. let z : at i.0 ≡ T = ap at (sym same) in
          absurd (ne (sym (c.was (subst (λ (t : TokenState). IsMember t.activity) z i.1.holds.0)) ∙ (ap (λ (t : TokenState). t.rec) (sym z) ∙ i.1.holds.1))))
          (λ other. subst (λ (t : TokenState). IsWithinSection t r) (sym (moved_else at n i.0 changed other)) i.1),
    )

    pub sets : AreMembersHeld records tokens after words' (moved at n changed)
    sets = let v = h.each n in changes records tokens past words at h n e words' G changed c.global record {
      among = among;
      long = c.long;
      up = omega arith;
      number = h.numbered n;
      counts = let k = c.counts in omega arith;
      mine = record {
        steps = one_step;
        few = c.few;
        reading = c.reading;
        member = c.member;
        scan = still_scan records G a c.still;
        pending = pending_more (account n past) e G G (omega arith) T.pending v.pending;
        dispatched = retired_more (account n past) e T.dispatched v.dispatched;
      };
      others = λ m ne is. let k = (h.each m).member is in let s = c.rest (at m).rec k.low (c.apart m ne is) in (s.0, s.1, s.2, k.timely);
      sound = λ r low. dite (ℕ_discrete q r)
          (λ same. subst (λ (x : ℕ). IsSound G (S records words' x) (A words' x) (W words' x)) same c.sound)
          (λ ne. let s = c.rest r low ne in subst (λ (x : ℕ × ℕ × ℕ). IsSound G x.0 x.1 x.2) (λ i. (sym s.0 i, sym s.1 i, sym s.2 i)) (h.sound r low));
      alone = λ m ne is mine same. c.apart m ne is (sym same);
      found_others = λ m k _ _ is passed. h.found m k is passed;
      found_me = λ m ne is passed. c.current is m passed;
      found_by_me = λ k ne is passed. absurd (still_passed a G (at k).rec c.still passed);
      found_self = λ is passed. absurd (still_passed a G q c.still passed);
      cases = λ r o low is. dite (ℕ_discrete q r)
          (λ same. subst (λ (x : ℕ). IsSectionOpen after x o → (IsSectionOpen past x o × (W words' x ≡ W words x)) ⊎ (o ≡ length past)) same (λ is. (c.opened o is).0) is)
          (λ ne. inl (stays_else r o low ne is, (c.rest r low ne).2));
      inside = λ r o low is. dite (ℕ_discrete q r)
          (λ same. (n, subst (λ (t : TokenState). IsWithinSection t r) (sym (moved_here at n n changed refl)) (subst (λ (x : ℕ). IsSectionOpen after x o → IsWithinSection changed x) same (λ is. (c.opened o is).1) is)))
          (λ ne. inside_else r o low ne is);
      guards = λ older r o low was is g. record {
        pending = g.pending;
        dispatched = g.dispatched;
        quiet = λ quiet. absurd (still_quiet a r c.still quiet);
      };
    }

  -- The global epoch rises from e0, at which the scan of this member found each record that was active
  module _ (e0 : ℕ) (is_ready : T.activity ≡ ready e0) (same : e0 ≡ G) (few : T.calls < 2 ^ 40) where
    abbrev risen : TokenState
    risen = record (dispatch (e0 - 1) T) { activity = resting; calls = T.calls + 1; steps = T.steps + 1 }

    abbrev words_risen : List ℕ
    words_risen = set words 0 (e0 + 1)

    mine_is : IsMember T.activity
    mine_is = subst IsMember (sym is_ready) tt

    passed_all : (r : ℕ) → HasPassed T.activity G r
    passed_all r = subst (λ (a : Activity). HasPassed a G r) (sym is_ready) same

    current_all : (k : ℕ) → IsMember (at k).activity → IsAtGlobal G (at k).section
    current_all k is = h.found n k is (passed_all (at k).rec)

    rise_else : (i : ℕ) → i ≢ 0 → get_or words_risen i 0 ≡ get_or words i 0
    rise_else i ne = get_or-set_other words 0 i (e0 + 1) 0 ne

    same_words : (r : ℕ) → (S records words_risen r ≡ S records words r) × (A words_risen r ≡ A words r) × (W words_risen r ≡ W words r)
    same_words r = (rise_else (state_word records r) (λ z. absurd (omega arith)), rise_else (active_word r) (λ z. absurd (omega arith)), rise_else (epoch_word r) (λ z. absurd (omega arith)))

    stays_risen : (step : (r g : ℕ) → e.step ≢ Store (epoch_word r) g) (r o : ℕ) → IsSectionOpen after r o → IsSectionOpen past r o
    stays_risen step r o is = open_stays past n e r o is (step r)

    own_is : (r o : ℕ) → r < records → IsSectionOpen past r o → W words r ≡ G
    own_is r o low is = let i = h.open_in r o low is in let k = i.0 in let m = (h.each k).member i.1.holds.0 in
        let t : IsTimely G (W words (at k).rec) (inside i.1.depth i.1.epoch) = subst (IsTimely G (W words (at k).rec)) i.1.section m.timely in
        let c : IsAtGlobal G (inside i.1.depth i.1.epoch) = subst (IsAtGlobal G) i.1.section (current_all k i.1.holds.0) in
        subst (λ (q : ℕ). W words q ≡ G) i.1.holds.1 (t.1 ∙ c)

    pub rises : ((r g : ℕ) → e.step ≢ Store (epoch_word r) g) → AreMembersHeld records tokens after words_risen (moved at n risen)
    rises step = let w = h.wide in let v = h.each n in let late = h.late in
        let pending : All (IsPendingItem (G + 1) more) T.pending = pending_more (account n past) e G (G + 1) (omega arith) T.pending v.pending in
        changes records tokens past words at h n e words_risen (G + 1) risen (get_or-set_same words 0 (e0 + 1) 0 (omega arith) ∙ ap (λ (k : ℕ). k + 1) same) record {
          among = among;
          long = length-set words 0 (e0 + 1);
          up = omega arith;
          number = h.numbered n;
          counts = omega arith;
          mine = record {
            steps = one_step;
            few = omega arith;
            reading = v.reading;
            member = λ is. let k = v.member mine_is in let s = same_words T.rec in record {
              low = k.low;
              held = s.0 ∙ k.held;
              counted = s.1 ∙ k.counted;
              timely = subst (λ (x : ℕ). IsTimely (G + 1) x T.section) (sym s.2) (timely_up G (W words T.rec) T.section (current_all n mine_is) k.timely);
            };
            scan = tt;
            pending = All-filter (λ (k : Retirement). not (is_on ((e0 - 1) % 4) k.retired)) (IsPendingItem (G + 1) more) T.pending pending;
            dispatched = All-append (IsRetired more) T.dispatched _ (retired_more (account n past) e T.dispatched v.dispatched)
                (All-filter (λ (k : Retirement). is_on ((e0 - 1) % 4) k.retired) (IsRetired more) T.pending (told (G + 1) more T.pending pending));
          };
          others = λ m ne is. let s = same_words (at m).rec in (s.0, s.1, s.2, timely_up G (W words (at m).rec) (at m).section (current_all m is) ((h.each m).member is).timely);
          sound = λ r low. let s = same_words r in let o = h.sound r low in let b = o.behind in record { behind = let z = s.2 in omega arith; low = let z = s.0 in let y = o.low in omega arith; idle = λ z. s.1 ∙ o.idle (sym s.0 ∙ z) };
          alone = λ m ne is mine eq. ne (sym (h.alone m n is mine_is eq));
          found_others = λ m k _ _ is passed. let b = passed_epoch records G (G + 1) (at k).rec (at m).activity (h.each m).scan passed in absurd (omega arith);
          found_me = λ m ne is passed. let b = passed_epoch records G (G + 1) T.rec (at m).activity (h.each m).scan passed in absurd (omega arith);
          found_by_me = λ k ne is passed. absurd passed;
          found_self = λ is passed. absurd passed;
          cases = λ r o low is. inl (stays_risen step r o is, (same_words r).2);
          inside = λ r o low is. let i = h.open_in r o low (stays_risen step r o is) in (
            i.0,
            dite (ℕ_discrete n i.0)
                (λ eq. let z : at i.0 ≡ T = ap at (sym eq) in subst (λ (t : TokenState). IsWithinSection t r) (sym (moved_here at n i.0 risen eq)) record {
                  holds = (tt, ap (λ (t : TokenState). t.rec) (sym z) ∙ i.1.holds.1);
                  depth = i.1.depth;
                  epoch = i.1.epoch;
                  section = ap (λ (t : TokenState). t.section) (sym z) ∙ i.1.section;
                })
                (λ ne. subst (λ (t : TokenState). IsWithinSection t r) (sym (moved_else at n i.0 risen ne)) i.1),
          );
          guards = λ older r o low was is g. let x : ℕ = W words r in let at_ : x ≡ G = own_is r o low was in record {
            pending = All-filter (λ (k : Retirement). not (is_on ((e0 - 1) % 4) k.retired)) (λ (k : Retirement). older k.number → x ≤ k.retired.epoch) T.pending g.pending;
            dispatched = list_goes older x G 0 T.pending T.dispatched g.pending g.dispatched (λ k d l. let p = (v.pending k d l).1 in omega arith) ((e0 - 1) % 4)
                (λ y rem above below. let q : y ≤ G - 1 = one_back y G (omega arith) late (rem ∙ ap (λ (m : ℕ). (m - 1) % 4) same) in omega arith);
            quiet = λ q. absurd q;
          };
        }
