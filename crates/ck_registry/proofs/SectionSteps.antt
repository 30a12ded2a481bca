-- The steps by which a member opens a section, nests it and ends it, and by which it hands its record back.
use Rattle.std.proofs.Common.{◌≡◌, ℕ, zero, suc, ◌+◌, ◌-◌, ◌<◌, ◌^◌, ◌⊎◌, ⊎_elim, inl, inr, List, [], ◌∷◌, refl, sym, ap, ◌∙◌, subst, arith}
use Rattle.ck_run.specs.declared.account.Step.TheVariants.{Load, Store}
use Rattle.ck_run.specs.declared.account.Entry.{Entry}
use Rattle.ck_run.specs.Run.{entry, further, call}
use Rattle.ck_run.specs.Machine.{follows_of}
use Rattle.ck_run.specs.Tokens.{adding, number, origin, MayMake}
use Rattle.ck_run.proofs.Moments.{adds_one}
use Rattle.ck_epoch.specs.State.{Stage, outside, entering, holding, inside, active_word, epoch_word, at_depth, Retirement, queue}
use Rattle.ck_epoch.specs.Lists.{AreListsOf}
use Rattle.ck_registry.specs.State.{Origin, Token, TokenState, away, resting, state_word, begin, end, unregister, records_of, registry, state}
use Rattle.ck_registry.specs.Deferred.{Deferred, IsLeftOf}
use Rattle.ck_registry.specs.Ends.{IsHolder, IsVisitor, AreDeferred, IsSameItems}
use Rattle.ck_registry.proofs.Stepping.{Steps, Went, stays, may_go, goes, went_as, may_store, after_idle_store, holder_after}

-- where the section of the state is known
at_section : (t : Token) (rec d : ℕ) (h : IsHolder t rec d) (x : Stage) → (state t).section ≡ x → Went t t (record (state t) { section = x })
at_section t rec d h x is = stays t (record (state t) { section = x }) h.part (ap (λ (y : Stage). record (state t) { section = y }) is)

same_items : (t u : Token) (s : TokenState) → Went t u s → s.pending ≡ (state t).pending → s.dispatched ≡ (state t).dispatched → IsSameItems t u
same_items t u s w e f = (ap (λ (x : TokenState). x.pending) w.at.state ∙ e, ap (λ (x : TokenState). x.dispatched) w.at.state ∙ f)

-- `begin`, of a member that has no section open
module _ (t : Token) (rec : ℕ) (h : IsHolder t rec 0) (few : (state t).calls < 2 ^ 40) where
  abbrev R : ℕ
  R = records_of (origin t)

  abbrev s0 : TokenState
  s0 = record (state t) { section = outside }

  at_outside : Went t t s0
  at_outside = at_section t rec 0 h outside h.section.1

  held_low : (state t).rec < R
  held_low = subst (λ (k : ℕ). k < R) (sym h.held) h.record_low

  abbrev enters : ℕ → Entry
  enters w = entry (begin ∷ []) (Store w 1)

  pub may_enter : (w : ℕ) → w ≡ active_word rec → MayMake (follows_of registry) t (enters w)
  may_enter w e = may_go t t s0 at_outside (enters w) h.low
      (may_store R s0 (begin ∷ []) [] (state t).activity w 1 h.stands (inl ((e ∙ ap active_word (sym h.held), held_low, few), refl, (refl, refl))))

  module _ (u : Token) (w : ℕ) (w_is : w ≡ active_word rec) (entered : Steps t (enters w) u) where
    abbrev s1 : TokenState
    s1 = record (state t) { activity = resting; section = entering; calls = (state t).calls + 1; steps = (state t).steps + 1 }

    at_entering : Went t u s1
    at_entering = went_as t u _ s1 (goes t t s0 at_outside u (enters w) entered)
        (ap (λ (x : TokenState). record x { steps = (state t).steps + 1 }) (after_idle_store R s0 [] (state t).activity w 1 h.stands))

    pub may_hold : (g : ℕ) → MayMake (follows_of registry) u (further (Load 0 g))
    may_hold g = may_go t u s1 at_entering (further (Load 0 g)) h.low (refl, (refl, refl))

    module _ (v : Token) (g : ℕ) (loaded : Steps u (further (Load 0 g)) v) where
      abbrev s2 : TokenState
      s2 = record s1 { section = holding g; steps = (state t).steps + 1 + 1 }

      at_holding : Went t v s2
      at_holding = goes t u s1 at_entering v (further (Load 0 g)) loaded

      pub may_open : (x : ℕ) → x ≡ epoch_word rec → MayMake (follows_of registry) v (further (Store x g))
      may_open x e = may_go t v s2 at_holding (further (Store x g)) h.low (e ∙ ap epoch_word (sym h.held), held_low, refl, (refl, refl))

      module _ (z : Token) (x : ℕ) (x_is : x ≡ epoch_word rec) (opened : Steps v (further (Store x g)) z) where
        at_inside : Went t z (record s2 { section = inside 1 g; steps = (state t).steps + 1 + 1 + 1 })
        at_inside = goes t v s2 at_holding z (further (Store x g)) opened

        pub is_inside : IsHolder z rec 1
        is_inside = holder_after t z _ rec 0 1 at_inside h tt refl (g, refl)

        pub begun_items : IsSameItems t z
        begun_items = same_items t z _ at_inside refl refl

        pub one_call : (state z).calls ≡ (state t).calls + 1
        one_call = ap (λ (s : TokenState). s.calls) at_inside.at.state

        pub begun : z ≡ adding t (call begin [] (Store (active_word rec) 1 ∷ Load 0 g ∷ Store (epoch_word rec) g ∷ []))
        begun = adds_one (follows_of registry) t v z (enters w ∷ further (Load 0 g) ∷ []) (further (Store x g)) (adds_one (follows_of registry) t u v (enters w ∷ []) (further (Load 0 g)) entered.0 loaded) opened
            ∙ ap (λ (p : ℕ × ℕ). adding t (call begin [] (Store p.0 1 ∷ Load 0 g ∷ Store p.1 g ∷ []))) (λ i. (w_is i, x_is i))

-- `begin` and `end` of a member that has a section open
module _ (t : Token) (rec d : ℕ) (open_ : 0 < d) (h : IsHolder t rec d) (few : (state t).calls < 2 ^ 40) (opens : List ℕ) (n : ℕ)
    (name : ((n ≡ d + 1) × (d < 2 ^ 32) × (opens ≡ begin ∷ [])) ⊎ ((n ≡ d - 1) × (opens ≡ end ∷ []))) where
  is_open : (k g : ℕ) → 0 < k → at_depth k g ≡ inside k g
  is_open zero g b = absurd (omega arith)
  is_open (suc k) g b = refl

  abbrev g : ℕ
  g = h.section.0

  abbrev sd : TokenState
  sd = record (state t) { section = inside d g }

  at_depth_d : Went t t sd
  at_depth_d = at_section t rec d h (inside d g) (h.section.1 ∙ is_open d g open_)

  abbrev sets : ℕ → Entry
  sets w = entry opens (Store w n)

  pub may_set : (w : ℕ) → w ≡ active_word rec → MayMake (follows_of registry) t (sets w)
  may_set w e = may_go t t sd at_depth_d (sets w) h.low
      (may_store (records_of (origin t)) sd opens [] (state t).activity w n h.stands
      ((e ∙ ap active_word (sym h.held), subst (λ (k : ℕ). k < records_of (origin t)) (sym h.held) h.record_low, few), ⊎_elim (λ b. inl (b.0, b.1, (b.2, refl))) (λ b. inr (b.0, (b.1, refl))) name))

  module _ (u : Token) (w : ℕ) (made : Steps t (sets w) u) where
    abbrev sn : TokenState
    sn = record (state t) { activity = resting; section = at_depth n g; calls = (state t).calls + 1; steps = (state t).steps + 1 }

    at_set : Went t u sn
    at_set = went_as t u _ sn (goes t t sd at_depth_d u (sets w) made)
        (ap (λ (x : TokenState). record x { steps = (state t).steps + 1 }) (after_idle_store (records_of (origin t)) sd [] (state t).activity w n h.stands))

    pub is_set : IsHolder u rec n
    is_set = holder_after t u sn rec d n at_set h tt refl (g, refl)

    pub set_items : IsSameItems t u
    set_items = same_items t u sn at_set refl refl

    pub set_calls : (state u).calls ≡ (state t).calls + 1
    set_calls = ap (λ (s : TokenState). s.calls) at_set.at.state

-- `unregister`, of a member with no section open and nothing pending
module _ (t : Token) (rec : ℕ) (h : IsHolder t rec 0) (none : (state t).pending ≡ []) where
  abbrev idle : TokenState
  idle = record (state t) { section = outside }

  at_idle : Went t t idle
  at_idle = at_section t rec 0 h outside h.section.1

  abbrev hands : ℕ → Entry
  hands w = entry (unregister ∷ []) (Store w 0)

  pub may_hand : (w : ℕ) → w ≡ state_word (records_of (origin t)) rec → MayMake (follows_of registry) t (hands w)
  may_hand w e = may_go t t idle at_idle (hands w) h.low
      (may_store (records_of (origin t)) idle (unregister ∷ []) [] (state t).activity w 0 h.stands
      (inr ((e ∙ ap (state_word (records_of (origin t))) (sym h.held), subst (λ (k : ℕ). k < records_of (origin t)) (sym h.held) h.record_low, none), refl, (refl, refl))))

  module _ (u : Token) (w : ℕ) (made : Steps t (hands w) u) where
    at_away : Went t u (record (state t) { activity = away; section = outside; steps = (state t).steps + 1 })
    at_away = went_as t u _ (record (state t) { activity = away; section = outside; steps = (state t).steps + 1 }) (goes t t idle at_idle u (hands w) made)
        (ap (λ (x : TokenState). record x { steps = (state t).steps + 1 }) (after_idle_store (records_of (origin t)) idle [] (state t).activity w 0 h.stands))

    pub is_away : (d : Deferred) → AreDeferred t d → d.waiting ≡ [] → IsVisitor u d
    is_away d are empty = record {
      part = at_away.at.part;
      low = subst (λ (n : ℕ). n < (origin u).tokens) (sym at_away.number) (subst (λ (o : Origin). number t < o.tokens) (sym at_away.same) h.low);
      stands = ap (λ (s : TokenState). s.activity) at_away.at.state;
      none = ap (λ (s : TokenState). s.pending) at_away.at.state ∙ none;
      pending = subst (λ (ks : List Retirement). AreListsOf d.lists (queue ks)) none are.pending;
      empty = empty;
      waits = subst (λ (s : TokenState). IsLeftOf d.waiting (queue s.dispatched)) (sym at_away.at.state) are.waits;
    }

    pub away_calls : (state u).calls ≡ (state t).calls
    away_calls = ap (λ (s : TokenState). s.calls) at_away.at.state
