-- The exchange of `advance`.
use Rattle.std.proofs.Common.{◌≡◌, ◌≢◌, ℕ, ◌+◌, ◌-◌, ◌%◌, ◌<◌, ◌≤◌, ◌^◌, Bool, cond, eq-eqb, ne_eqb, [], ◌∷◌, ◌++◌, length, refl, ap, ◌∙◌, arith}
use Rattle.ck_run.specs.declared.account.Step.TheVariants.{Exchange}
use Rattle.ck_run.specs.declared.account.Entry.{Entry}
use Rattle.ck_run.specs.Run.{entry}
use Rattle.ck_run.specs.Machine.{follows_of}
use Rattle.ck_run.specs.Tokens.{MayMake, adding}
use Rattle.ck_epoch.specs.Lists.{items_on}
use Rattle.ck_epoch.proofs.Emptying.{IsEmptied}
use Rattle.ck_registry.specs.declared.answers.Advance.TheVariants.{Moved}
use Rattle.ck_registry.specs.State.{Token, TokenState, Activity, resting, ready, dispatch, advance, registry, state}
use Rattle.ck_registry.specs.Deferred.{Deferred, items_of}
use Rattle.ck_registry.specs.Ends.{IsHolder, AreDeferred}
use Rattle.ck_registry.specs.Calls.{IsAdvance}
use Rattle.ck_registry.proofs.Stepping.{Steps, Went, stays, may_go, goes, went_as, ready_late, holder_after}
use Rattle.ck_registry.proofs.Dispatching.{one_waits, one_count, one_pending, one_dispatched, one_deferred}

module _ (t : Token) (rec d : ℕ) (h : IsHolder t rec d) (e : ℕ) (can : (state t).activity ≡ ready e) (few : (state t).calls < 2 ^ 40) where
  abbrev s0 : TokenState
  s0 = record (state t) { activity = ready e }

  at_ready : Went t t s0
  at_ready = stays t s0 h.part (ap (λ (a : Activity). record (state t) { activity = a }) can)

  pub late : (4 ≤ e) × (e < 2 ^ 47)
  late = ready_late t t s0 at_ready e refl

  abbrev advances : ℕ → Entry
  advances n = entry (advance ∷ e ∷ []) (Exchange 0 e (e + 1) n)

  pub may_advance : (n : ℕ) → MayMake (follows_of registry) t (advances n)
  may_advance n = may_go t t s0 at_ready (advances n) h.low (refl, refl, refl, few, refl, refl)

  abbrev counted : TokenState
  counted = record (state t) { activity = resting; calls = (state t).calls + 1; steps = (state t).steps + 1 }

  abbrev after : Bool → TokenState
  after b = record (cond b (record (dispatch (e - 1) s0) { activity = resting; calls = (state t).calls + 1 }) (record s0 { activity = resting; calls = (state t).calls + 1 })) { steps = (state t).steps + 1 }

  module _ (u : Token) (n : ℕ) (made : Steps t (advances n) u) where
    pub has_moved : n ≡ e → Went t u (dispatch (e - 1) counted)
    has_moved is = went_as t u _ (dispatch (e - 1) counted) (goes t t s0 at_ready u (advances n) made) (ap after (eq-eqb n e is))

    pub has_raced : n ≢ e → Went t u counted
    has_raced other = went_as t u _ counted (goes t t s0 at_ready u (advances n) made) (ap after (ne_eqb n e other))

    pub moved_holder : n ≡ e → IsHolder u rec d
    moved_holder is = holder_after t u _ rec d d (has_moved is) h tt refl h.section

    pub raced_holder : n ≢ e → IsHolder u rec d
    raced_holder other = holder_after t u _ rec d d (has_raced other) h tt refl h.section

    -- the list of e - 1 was dispatched
    module _ (is : n ≡ e) (b b' : Deferred) (are : AreDeferred t b) (off : IsEmptied ((e - 1) % 4) b.lists b'.lists) (w : b'.waiting ≡ b.waiting ++ items_of (items_on b.lists ((e - 1) % 4))) where
      low : (e - 1) % 4 < 4
      low = omega arith

      pub moved_deferred : AreDeferred u b'
      moved_deferred = one_deferred t b b' are ((e - 1) % 4) low off w u (ap (λ (s : TokenState). s.pending) (has_moved is).at.state) (ap (λ (s : TokenState). s.dispatched) (has_moved is).at.state)

      pub moved_advance : (calls calls' room room' k : ℕ) → k ≡ length (items_on b.lists ((e - 1) % 4))
          → IsAdvance e (record { token = t; calls = calls; waiting = b.waiting; room = room }) (Moved k) (record { token = u; calls = calls'; waiting = b'.waiting; room = room' })
      moved_advance calls calls' room room' k count = record {
        steps = made.0 ∙ ap (λ (x : ℕ). adding t (advances x ∷ [])) is;
        dispatched = one_dispatched t b b' are ((e - 1) % 4) low off w u (ap (λ (s : TokenState). s.pending) (has_moved is).at.state) (ap (λ (s : TokenState). s.dispatched) (has_moved is).at.state);
        pending = one_pending t b b' are ((e - 1) % 4) low off w u (ap (λ (s : TokenState). s.pending) (has_moved is).at.state) (ap (λ (s : TokenState). s.dispatched) (has_moved is).at.state);
        waiting = one_waits t b b' are ((e - 1) % 4) low off w;
        count = one_count t b b' are ((e - 1) % 4) low off w k count;
        activity = ap (λ (s : TokenState). s.activity) (has_moved is).at.state;
      }
