-- What a scan leaves, by what it found.
use Rattle.std.proofs.Common.{◌≡◌, ℕ, ◌+◌, ◌-◌, ◌%◌, ◌<◌, ◌≤◌, [], ◌++◌, length, refl, ap, ◌∙◌, subst, arith}
use Rattle.ck_run.specs.Tokens.{Table, table, number, origin}
use Rattle.ck_epoch.specs.State.{queue}
use Rattle.ck_epoch.specs.Lists.{items_on, in_a_row}
use Rattle.ck_epoch.proofs.Emptying.{IsEmptied}
use Rattle.ck_registry.specs.declared.answers.Finding.{Finding}
use Rattle.ck_registry.specs.declared.answers.Finding.TheVariants.{AllInactive, AllCurrent, OneBehind}
use Rattle.ck_registry.specs.declared.answers.Scan.{Scan}
use Rattle.ck_registry.specs.declared.answers.Scan.TheVariants.{Clear, Blocked, Ready}
use Rattle.ck_registry.specs.State.{Token, TokenState, records_of, state}
use Rattle.ck_registry.specs.Deferred.{Deferred, items_of}
use Rattle.ck_registry.specs.Ends.{Member, IsIdle, IsHolder, AreDeferred, rec_of}
use Rattle.ck_registry.specs.Calls.{IsScan}
use Rattle.ck_registry.specs.Scan.{after_finding, HasScanned}
use Rattle.ck_registry.proofs.Stepping.{Went, holder_after}
use Rattle.ck_registry.proofs.Dispatching.{one_waits, one_count, one_pending, one_dispatched, one_deferred, all_waits, all_count, all_dispatched, all_deferred}

-- whatever it found
leaves : (e : ℕ) (s : TokenState) (f : Finding) → ((after_finding e s f).rec ≡ s.rec) × ((after_finding e s f).section ≡ s.section) × ((after_finding e s f).calls ≡ s.calls + 1) × IsIdle (after_finding e s f).activity
leaves e s AllInactive = (refl, refl, refl, tt)
leaves e s (AllCurrent rec) = (refl, refl, refl, tt)
leaves e s (OneBehind rec epoch) = (refl, refl, refl, tt)

module _ (t u : Token) (e : ℕ) where
  scan_went : (f : Finding) → (h : HasScanned t u e f) → Went t u (record (after_finding e (state t) f) { steps = h.made })
  scan_went AllInactive h = record { at = h.at; same = ap origin h.finds.steps; number = ap number h.finds.steps }
  scan_went (AllCurrent rec) h = record { at = h.at; same = ap origin h.finds.steps; number = ap number h.finds.steps }
  scan_went (OneBehind rec epoch) h = record { at = h.at; same = ap origin h.finds.steps; number = ap number h.finds.steps }

  -- the member holds its record, with the sections that it had
  pub scan_holder : (f : Finding) (rec d : ℕ) → HasScanned t u e f → IsHolder t rec d → IsHolder u rec d
  scan_holder f rec d s h = let k = leaves e (state t) f in holder_after t u _ rec d d (scan_went f s) h k.3 k.0 (h.section.0, k.1 ∙ h.section.1)

  pub scan_counts : (f : Finding) (k : ℕ) → HasScanned t u e f → (state t).calls ≤ k → (state u).calls ≤ k + 1
  scan_counts f k s few = let c = ap (λ (x : TokenState). x.calls) s.at.state ∙ (leaves e (state t) f).2 in omega arith

  -- the list of e - 2 was dispatched first
  module _ (late : 4 ≤ e) (b b' : Deferred) (are : AreDeferred t b) (is : IsEmptied ((e - 2) % 4) b.lists b'.lists) (w : b'.waiting ≡ b.waiting ++ items_of (items_on b.lists ((e - 2) % 4))) (calls calls' room room' : ℕ) where
    abbrev R : ℕ
    R = records_of (origin t)

    abbrev list : ℕ
    list = (e - 2) % 4

    low : list < 4
    low = omega arith

    abbrev before : Member
    before = record { token = t; calls = calls; waiting = b.waiting; room = room }

    module _ (n : ℕ) (count : n ≡ length (items_on b.lists list)) where
      pub ready_scan : (rec : ℕ) → HasScanned t u e (AllCurrent rec) → IsScan R e before (Ready n rec e) (record { token = u; calls = calls'; waiting = b'.waiting; room = room' })
      ready_scan rec h = record {
        steps = (refl, h.finds);
        late = late;
        dispatched = one_dispatched t b b' are list low is w u (ap (λ (x : TokenState). x.pending) h.at.state) (ap (λ (x : TokenState). x.dispatched) h.at.state);
        pending = one_pending t b b' are list low is w u (ap (λ (x : TokenState). x.pending) h.at.state) (ap (λ (x : TokenState). x.dispatched) h.at.state);
        waiting = one_waits t b b' are list low is w;
        count = one_count t b b' are list low is w n count;
        activity = ap (λ (x : TokenState). x.activity) h.at.state;
      }

      pub blocked_scan : (rec epoch : ℕ) → HasScanned t u e (OneBehind rec epoch) → IsScan R e before (Blocked n rec epoch) (record { token = u; calls = calls'; waiting = b'.waiting; room = room' })
      blocked_scan rec epoch h = record {
        steps = h.finds;
        late = late;
        dispatched = one_dispatched t b b' are list low is w u (ap (λ (x : TokenState). x.pending) h.at.state) (ap (λ (x : TokenState). x.dispatched) h.at.state);
        pending = one_pending t b b' are list low is w u (ap (λ (x : TokenState). x.pending) h.at.state) (ap (λ (x : TokenState). x.dispatched) h.at.state);
        waiting = one_waits t b b' are list low is w;
        count = one_count t b b' are list low is w n count;
        activity = ap (λ (x : TokenState). x.activity) h.at.state;
      }

    pub ready_deferred : (rec : ℕ) → HasScanned t u e (AllCurrent rec) → AreDeferred u b'
    ready_deferred rec h = one_deferred t b b' are list low is w u (ap (λ (x : TokenState). x.pending) h.at.state) (ap (λ (x : TokenState). x.dispatched) h.at.state)

    pub blocked_deferred : (rec epoch : ℕ) → HasScanned t u e (OneBehind rec epoch) → AreDeferred u b'
    blocked_deferred rec epoch h = one_deferred t b b' are list low is w u (ap (λ (x : TokenState). x.pending) h.at.state) (ap (λ (x : TokenState). x.dispatched) h.at.state)

    -- and all others where no record was active
    module _ (h : HasScanned t u e AllInactive) (b'' : Deferred) (none : (l : ℕ) → l < 4 → items_on b''.lists l ≡ []) (w' : b''.waiting ≡ b'.waiting ++ items_of (in_a_row b'.lists)) where
      pub clear_deferred : AreDeferred u b''
      clear_deferred = all_deferred t b b' are list low is w b'' none w' u (ap (λ (x : TokenState). x.pending) h.at.state) (ap (λ (x : TokenState). x.dispatched) h.at.state)

      pub clear_scan : (n m : ℕ) → n ≡ length (items_on b.lists list) → m ≡ length (in_a_row b'.lists) → IsScan R e before (Clear (n + m)) (record { token = u; calls = calls'; waiting = b''.waiting; room = room' })
      clear_scan n m count count' = record {
        steps = h.finds;
        late = late;
        dispatched = all_dispatched t b b' are list low is w b'' none w' u (ap (λ (x : TokenState). x.pending) h.at.state) (ap (λ (x : TokenState). x.dispatched) h.at.state);
        pending = ap (λ (x : TokenState). queue x.pending) h.at.state;
        waiting = all_waits t b b' are list low is w b'' none w';
        count = all_count t b b' are list low is w b'' none w' n m count count';
        activity = ap (λ (x : TokenState). x.activity) h.at.state;
      }

-- The same told of the member and of the registry as contracts see them
module _ {m v : Member} (view : m ≡ v) where
  pub told_same : (u : Token) (e : ℕ) (f : Finding) (room : ℕ) → HasScanned m.token u e f → table u ≡ table m.token → room ≡ m.room → (table u ≡ table v.token) × (number u ≡ number v.token) × (rec_of u ≡ rec_of v.token) × (room ≡ v.room)
  told_same u e f room h same kept = (
    same ∙ ap (λ (x : Member). table x.token) view,
    (scan_went m.token u e f h).number ∙ ap (λ (x : Member). number x.token) view,
    ap (λ (x : TokenState). x.rec) h.at.state ∙ ((leaves e (state m.token) f).0 ∙ ap (λ (x : Member). rec_of x.token) view),
    kept ∙ ap (λ (x : Member). x.room) view,
  )

  pub told_section : (u : Token) (e : ℕ) (f : Finding) → HasScanned m.token u e f → (state u).section ≡ (state v.token).section
  told_section u e f h = ap (λ (x : TokenState). x.section) h.at.state ∙ ((leaves e (state m.token) f).1 ∙ ap (λ (x : Member). (state x.token).section) view)

  pub told_scan : {now : Table ℕ} → table v.token ≡ now → (e : ℕ) (answer : Scan) (n : Member) → IsScan (records_of (origin m.token)) e m answer n → IsScan (records_of now.origin) e v answer n
  told_scan {now} same e answer n is = subst (λ (x : Member). IsScan (records_of now.origin) e x answer n) view
      (subst (λ (k : ℕ). IsScan k e m answer n) (ap (λ (x : Member). records_of (origin x.token)) view ∙ ap (λ (x : Table ℕ). records_of x.origin) same) is)
