-- What a call that retires or dispatches leaves of the items of a member.
use Rattle.std.proofs.Common.{◌≡◌, ℕ, ◌+◌, ◌<◌, ◌^◌, inl, List, [], ◌∷◌, ◌++◌, length, append_assoc, refl, sym, ap, ◌∙◌, subst}
use Rattle.std.proofs.lemmas.List.{map-append}
use Rattle.ck_run.specs.declared.account.Step.TheVariants.{Load}
use Rattle.ck_run.specs.declared.account.Entry.{Entry}
use Rattle.ck_run.specs.Run.{handing}
use Rattle.ck_run.specs.Machine.{follows_of}
use Rattle.ck_run.specs.Tokens.{origin, MayMake}
use Rattle.ck_epoch.specs.declared.item.Item.{Item}
use Rattle.ck_epoch.specs.declared.item.Retired.{Retired}
use Rattle.ck_epoch.specs.State.{Retirement, retirement, queue, on_list, off_list, list_by_list}
use Rattle.ck_epoch.specs.Lists.{on, off, by_list, items_on, in_a_row, AreListsOf}
use Rattle.ck_epoch.proofs.FourLists.{queue_off, queue_on, queue_by_list, queue_behind}
use Rattle.ck_epoch.proofs.Emptying.{IsPut, IsEmptied, lists_more, lists_off, waits_one, waits_all, count_one, count_all}
use Rattle.ck_registry.specs.State.{Token, TokenState, resting, retire, records_of, registry, state}
use Rattle.ck_registry.specs.Deferred.{Deferred, items_of, IsLeftOf}
use Rattle.ck_registry.specs.Ends.{Member, IsHolder, AreDeferred}
use Rattle.ck_registry.proofs.Waiting.{waits_more}
use Rattle.ck_registry.proofs.Stepping.{Steps, Went, stays, may_go, goes, went_as, may_load, after_idle_load, holder_after}

-- a member as contracts see it, of equal parts
pub member_is : (u v : Token) (ws ws' : List Item) (room room' calls : ℕ) → u ≡ v → ws ≡ ws' → room ≡ room'
    → ◌≡◌ {A = Member} (record { token = u; calls = calls; waiting = ws; room = room }) (record { token = v; calls = calls; waiting = ws'; room = room' })
member_is u v ws ws' room room' calls e f g = λ i. record { token = e i; calls = calls; waiting = f i; room = g i }

-- `call`
module _ (t : Token) (rec d : ℕ) (h : IsHolder t rec d) (few : (state t).calls < 2 ^ 40) (i : Item) where
  abbrev hands : ℕ → Entry
  hands n = handing (retire ∷ i.at ∷ i.log ∷ []) (i.at ∷ i.log ∷ []) (Load 0 n)

  pub may_retire : (n : ℕ) → MayMake (follows_of registry) t (hands n)
  may_retire n = may_go t t (state t) (stays t (state t) h.part refl) (hands n) h.low
      (may_load (records_of (origin t)) (state t) (retire ∷ i.at ∷ i.log ∷ []) (i.at ∷ i.log ∷ []) (state t).activity d h.section.0 0 n h.stands h.section.1 (refl, few, inl (i.at, i.log, refl, refl)))

  module _ (u : Token) (n : ℕ) (made : Steps t (hands n) u) where
    abbrev s1 : TokenState
    s1 = record (state t) { activity = resting; calls = (state t).calls + 1; pending = (state t).pending ++ retirement (state t).steps i.at i.log n ∷ []; steps = (state t).steps + 1 }

    at_retired : Went t u s1
    at_retired = went_as t u _ s1 (goes t t (state t) (stays t (state t) h.part refl) u (hands n) made)
        (ap (λ (x : TokenState). record x { steps = (state t).steps + 1 }) (after_idle_load (records_of (origin t)) (state t) (i.at ∷ i.log ∷ []) (state t).activity d h.section.0 0 n h.stands h.section.1))

    pub is_retired : IsHolder u rec d
    is_retired = holder_after t u s1 rec d d at_retired h tt refl h.section

    pub queued : queue (state u).pending ≡ queue (state t).pending ++ record { item = i; epoch = n } ∷ []
    queued = ap (λ (s : TokenState). queue s.pending) at_retired.at.state ∙ map-append (λ (k : Retirement). k.retired) (state t).pending (retirement (state t).steps i.at i.log n ∷ [])

    pub retired_dispatched : (state u).dispatched ≡ (state t).dispatched
    retired_dispatched = ap (λ (s : TokenState). s.dispatched) at_retired.at.state

    pub retired_section : (state u).section ≡ (state t).section
    retired_section = ap (λ (s : TokenState). s.section) at_retired.at.state

    pub retired_rec : (state u).rec ≡ (state t).rec
    retired_rec = ap (λ (s : TokenState). s.rec) at_retired.at.state

    pub retired_calls : (state u).calls ≡ (state t).calls + 1
    retired_calls = ap (λ (s : TokenState). s.calls) at_retired.at.state

    pub put_behind : (b b' : Deferred) → AreDeferred t b → IsPut (record { item = i; epoch = n }) b.lists b'.lists → b'.waiting ≡ b.waiting → AreDeferred u b'
    put_behind b b' are is same = record {
      pending = subst (AreListsOf b'.lists) (sym queued) (lists_more (record { item = i; epoch = n }) b.lists b'.lists (queue (state t).pending) are.pending is);
      waits = subst (λ (ks : List Retirement). IsLeftOf b'.waiting (queue ks)) (sym retired_dispatched) (subst (λ (ws : List Item). IsLeftOf ws (queue (state t).dispatched)) (sym same) are.waits);
    }

-- One list was dispatched
module _ (t : Token) (b b' : Deferred) (are : AreDeferred t b) (list : ℕ) (low : list < 4) (is : IsEmptied list b.lists b'.lists) (w : b'.waiting ≡ b.waiting ++ items_of (items_on b.lists list)) where
  abbrev p : List Retired
  p = queue (state t).pending

  abbrev gone : List Retired
  gone = queue (state t).dispatched

  pub one_waits : b'.waiting ≡ b.waiting ++ items_of (on list p)
  one_waits = waits_one b.lists b'.lists p are.pending list low is (λ (r : Retired). r.item) b.waiting b'.waiting w

  pub one_left : AreListsOf b'.lists (off list p)
  one_left = lists_off list b.lists b'.lists p are.pending is

  pub one_count : (n : ℕ) → n ≡ length (items_on b.lists list) → n ≡ length (on list p)
  one_count = count_one b.lists b'.lists p are.pending list low is

  -- as the account tells it
  module _ (u : Token) (pending : (state u).pending ≡ off_list list (state t).pending) (dispatched : (state u).dispatched ≡ (state t).dispatched ++ on_list list (state t).pending) where
    pub one_pending : queue (state u).pending ≡ off list p
    one_pending = ap queue pending ∙ queue_off list (state t).pending

    pub one_dispatched : queue (state u).dispatched ≡ gone ++ on list p
    one_dispatched = ap queue dispatched ∙ queue_behind (state t).dispatched (on_list list (state t).pending) (on list p) (queue_on list (state t).pending)

    pub one_deferred : AreDeferred u b'
    one_deferred = record {
      pending = subst (AreListsOf b'.lists) (sym one_pending) one_left;
      waits = subst (IsLeftOf b'.waiting) (sym one_dispatched) (subst (λ (ws : List Item). IsLeftOf ws (gone ++ on list p)) (sym one_waits) (waits_more b.waiting gone (on list p) are.waits));
    }

  -- and then all others
  module _ (b'' : Deferred) (none : (l : ℕ) → l < 4 → items_on b''.lists l ≡ []) (w' : b''.waiting ≡ b'.waiting ++ items_of (in_a_row b'.lists)) where
    abbrev all : List Retired
    all = on list p ++ by_list (off list p)

    pub all_waits : b''.waiting ≡ b.waiting ++ items_of all
    all_waits = waits_all b.lists b'.lists p are.pending list low is (λ (r : Retired). r.item) b.waiting b'.waiting w b''.waiting w'

    pub all_count : (n m : ℕ) → n ≡ length (items_on b.lists list) → m ≡ length (in_a_row b'.lists) → n + m ≡ length all
    all_count n m e = count_all b.lists b'.lists p are.pending list low is n e m

    module _ (u : Token) (pending : (state u).pending ≡ []) (dispatched : (state u).dispatched ≡ ((state t).dispatched ++ on_list list (state t).pending) ++ list_by_list (off_list list (state t).pending)) where
      pub all_dispatched : queue (state u).dispatched ≡ gone ++ all
      all_dispatched = ap queue dispatched
          ∙ (queue_behind ((state t).dispatched ++ on_list list (state t).pending) (list_by_list (off_list list (state t).pending)) (by_list (off list p)) (queue_by_list (off_list list (state t).pending) ∙ ap by_list (queue_off list (state t).pending))
          ∙ (ap (λ (rs : List Retired). rs ++ by_list (off list p)) (queue_behind (state t).dispatched (on_list list (state t).pending) (on list p) (queue_on list (state t).pending))
          ∙ append_assoc gone (on list p) (by_list (off list p))))

      pub all_deferred : AreDeferred u b''
      all_deferred = record {
        pending = subst (λ (ks : List Retirement). AreListsOf b''.lists (queue ks)) (sym pending) none;
        waits = subst (IsLeftOf b''.waiting) (sym all_dispatched) (subst (λ (ws : List Item). IsLeftOf ws (gone ++ all)) (sym all_waits) (waits_more b.waiting gone all are.waits));
      }
