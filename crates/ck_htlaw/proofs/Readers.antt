-- Each step of the writer keeps what holds of each reader.
use Rattle.std.proofs.Common.{◌≡◌, ◌≢◌, ℕ, suc, ◌≤◌, ◌⊎◌, ⊎_elim, inl, inr, refl, sym, ap, ◌∙◌, subst, arith}
use mathlib.Core.Logic.{dite}
use native.Mathlib.Decide.{ℕ_discrete}
use Rattle.ck_slots.specs.Slots.{Order, IsOrder, SlotsView, Holds}
use Rattle.ck_htlaw.specs.Stages.{Insertion, Target, move, Stage, idle, with_high, twice, IsApart, Maps, IsMap, IsPut, IsStep}
use Rattle.ck_htlaw.specs.Look.{LookState, no_look, at_version, at_state, at_low, at_high, at_value, checking_value, checking_absence, IsSince, IsHalf, IsAhead, IsStable, IsJustified, IsReadingSlot, Facts, LookInvariant}
use Rattle.ck_htlaw.proofs.Maps.{IsOff, holds_off}
use Rattle.ck_htlaw.proofs.Places.{newly, gone}

pub since_more : (maps maps' : Maps) (r q q' k x : ℕ) → ((p : ℕ) → p ≤ q → maps' p k ≡ maps p k) → q ≤ q' → IsSince maps r q k x → IsSince maps' r q' k x
since_more maps maps' r q q' k x same le s = record { place = s.place; low = s.low; high = let h = s.high in omega arith; gave = same s.place s.high ∙ s.gave }

module _ (o : Order) (v v' : SlotsView) (maps maps' : Maps) (q q' : ℕ) (g g' : Stage) (r : ℕ) where
  -- what a step by which no counter rises keeps
  pub record IsKept : Type 0 where
    pub since : (k x : ℕ) → IsSince maps r q k x → IsSince maps' r q' k x
    pub ahead : (k i : ℕ) → IsAhead o v maps q g r k i → IsAhead o v' maps' q' g' r k i
    pub stable : (s : ℕ) → IsStable v g s → IsStable v' g' s
    pub low : (s : ℕ) → IsStable v g s → v'.low s ≡ v.low s
    pub high : (s : ℕ) → IsStable v g s → v'.high s ≡ v.high s
    pub justified : (k s : ℕ) → IsStable v g s → IsJustified o v maps q r k s → IsJustified o v' maps' q' r k s

  module _ (z : IsKept) where
    read_kept : (k i : ℕ) → IsReadingSlot o v maps q g r k i → IsReadingSlot o v' maps' q' g' r k i
    read_kept k i h = record { ahead = z.ahead k i h.ahead; stable = z.stable (o.probe k i) h.stable; justified = z.justified k (o.probe k i) h.stable h.justified }

    facts_kept : (look_state : LookState) → Facts o v maps q g r look_state → Facts o v' maps' q' g' r look_state
    facts_kept no_look h = tt
    facts_kept (at_version k) h = tt
    facts_kept (at_state k c i) h = z.ahead k i h
    facts_kept (at_low k c i) h = read_kept k i h
    facts_kept (at_high k c i l) h = (read_kept k i h.0, h.1 ∙ sym (z.low (o.probe k i) h.0.stable))
    facts_kept (at_value k c i) h = let s : ℕ = o.probe k i in
        let a : v'.low s ≡ o.low_of k = z.low s h.stable ∙ h.is_low in let b : v'.high s ≡ o.high_of k = z.high s h.stable ∙ h.is_high in
        record { stable = z.stable s h.stable; is_low = a; is_high = b; justified = z.justified k s h.stable (λ _ _. h.justified) a b }
    facts_kept (checking_value k c x) h = z.since k (suc x) h
    facts_kept (checking_absence k c) h = z.since k 0 h

    pub reader_kept : q ≤ q' → (now : ℕ) (look_state : LookState) → LookInvariant o v maps q g now r look_state → LookInvariant o v' maps' q' g' now r look_state
    reader_kept le now look_state h = record { since = let a = h.since in omega arith; risen = h.risen; within = h.within; facts = λ e. facts_kept look_state (h.facts e) }

-- The counter rises: no look that loaded it before is bound by anything any more
pub look_bumped : (o : Order) (v v' : SlotsView) (maps : Maps) (q : ℕ) (g g' : Stage) (now r : ℕ) (look_state : LookState) → LookInvariant o v maps q g now r look_state → LookInvariant o v' maps q g' (suc now) r look_state
look_bumped o v v' maps q g g' now r no_look h = record { since = h.since; risen = omega arith; within = tt; facts = λ e. tt }
look_bumped o v v' maps q g g' now r (at_version k) h = record { since = h.since; risen = omega arith; within = tt; facts = λ e. tt }
look_bumped o v v' maps q g g' now r (at_state k c i) h = let b = h.risen in record { since = h.since; risen = omega arith; within = h.within; facts = λ e. absurd (omega arith) }
look_bumped o v v' maps q g g' now r (at_low k c i) h = let b = h.risen in record { since = h.since; risen = omega arith; within = h.within; facts = λ e. absurd (omega arith) }
look_bumped o v v' maps q g g' now r (at_high k c i l) h = let b = h.risen in record { since = h.since; risen = omega arith; within = h.within; facts = λ e. absurd (omega arith) }
look_bumped o v v' maps q g g' now r (at_value k c i) h = let b = h.risen in record { since = h.since; risen = omega arith; within = h.within; facts = λ e. absurd (omega arith) }
look_bumped o v v' maps q g g' now r (checking_value k c x) h = let b = h.risen in record { since = h.since; risen = omega arith; within = tt; facts = λ e. absurd (omega arith) }
look_bumped o v v' maps q g g' now r (checking_absence k c) h = let b = h.risen in record { since = h.since; risen = omega arith; within = tt; facts = λ e. absurd (omega arith) }

-- a word of a slot that is being filled
pub kept_off : (o : Order) (v v' : SlotsView) (maps : Maps) (q to : ℕ) (g g' : Stage) (r : ℕ) → IsOff v v' to → v.state to ≢ 1 → ((k i : ℕ) → IsHalf o g r q k i → ⊥)
    → ((s : ℕ) → IsStable v g s → to ≢ s) → ((s : ℕ) → to ≢ s → IsApart g' s) → IsKept o v v' maps maps q q g g' r
kept_off o v v' maps q to g g' r off ne none apart onto = record {
  since = λ k x h. h;
  ahead = λ k i. ⊎_elim (λ (a : IsSince maps r q k 0). inl a) (λ (a : ((s : ℕ) → Holds o v k s → i ≤ o.step k s) ⊎ IsHalf o g r q k i).
      ⊎_elim (λ (b : (s : ℕ) → Holds o v k s → i ≤ o.step k s). inr (inl (λ s x. b s (holds_off o v v' to off ne k s x)))) (λ (b : IsHalf o g r q k i). absurd (none k i b)) a);
  stable = λ s h. record { state = λ e. h.state (sym (off.state s) ∙ e); apart = onto s (apart s h) };
  low = λ s h. off.low s (λ e. apart s h (sym e));
  high = λ s h. off.high s (λ e. apart s h (sym e));
  justified = λ k s h law a b. let n : s ≢ to = λ e. apart s h (sym e) in
      subst (λ (x : ℕ). IsSince maps r q k (suc x)) (sym (off.value s n)) (law (sym (off.low s n) ∙ a) (sym (off.high s n) ∙ b));
}

module _ (o : Order) (ok : IsOrder o) (v : SlotsView) (maps maps' : Maps) (q r : ℕ) where
  pub since_step : (k x : ℕ) → IsStep maps maps' q k x → (j y : ℕ) → IsSince maps r q j y → IsSince maps' r (suc q) j y
  since_step k x m j y = since_more maps maps' r q (suc q) j y (λ p l. m.same p j l) (omega arith)

  -- the store of the state of a slot that was filled
  pub kept_full : (c : Target) (w : Insertion) (f : ℕ → ℕ) (h : IsMap o v maps q (with_high c w)) (p : IsPut v.state f w.to 1) (m : IsStep maps maps' q w.key (suc w.number)) (g' : Stage)
      → ((s : ℕ) → IsApart g' s) → ((i : ℕ) → ((s : ℕ) → Holds o v w.key s → i ≤ o.step w.key s) → IsAhead o (record v { state = f }) maps' (suc q) g' r w.key i)
      → IsKept o v (record v { state = f }) maps maps' q (suc q) (with_high c w) g' r
  kept_full c w f h p m g' apart mine = record {
    since = since_step w.key (suc w.number) m;
    ahead = λ k i. ⊎_elim (λ (a : IsSince maps r q k 0). inl (since_step w.key (suc w.number) m k 0 a)) (λ (a : ((s : ℕ) → Holds o v k s → i ≤ o.step k s) ⊎ ⊥).
        ⊎_elim (λ (b : (s : ℕ) → Holds o v k s → i ≤ o.step k s). dite (ℕ_discrete k w.key)
        (λ (e : k ≡ w.key). subst (λ (j : ℕ). IsAhead o (record v { state = f }) maps' (suc q) g' r j i) (sym e) (mine i (subst (λ (j : ℕ). (s : ℕ) → Holds o v j s → i ≤ o.step j s) e b)))
        (λ (n : k ≢ w.key). inr (inl (λ s x. ⊎_elim (λ (u : (k ≡ w.key) × (s ≡ w.to)). absurd (n u.0)) (λ (u : (s ≢ w.to) × Holds o v k s). b s u.1) (newly o ok v maps maps' q c w f h p m k s x)))))
        (λ (b : ⊥). absurd b) a);
    stable = λ s x. record { state = λ e. dite (ℕ_discrete s w.to) (λ (u : s ≡ w.to). let a = ap f u in let b = p.here in absurd (omega arith)) (λ (n : s ≢ w.to). x.state (sym (p.others s n) ∙ e)); apart = apart s };
    low = λ s x. refl;
    high = λ s x. refl;
    justified = λ k s x law a b. since_step w.key (suc w.number) m k (suc (v.value s)) (law a b);
  }

  pub kept_fresh : r ≤ q → (c : Target) (w : Insertion) (f : ℕ → ℕ) (h : IsMap o v maps q (with_high c w)) → IsPut v.state f w.to 1 → IsStep maps maps' q w.key (suc w.number) → maps q w.key ≡ 0
      → IsKept o v (record v { state = f }) maps maps' q (suc q) (with_high c w) idle r
  kept_fresh le c w f h p m absent = kept_full c w f h p m idle (λ s. tt) (λ i _. inl record { place = q; low = le; high = omega arith; gave = m.same q w.key (omega arith) ∙ absent })

  pub kept_move : r ≤ q → (from : ℕ) (w : Insertion) (f : ℕ → ℕ) (h : IsMap o v maps q (with_high (move from) w)) → IsPut v.state f w.to 1 → IsStep maps maps' q w.key (suc w.number)
      → IsKept o v (record v { state = f }) maps maps' q (suc q) (with_high (move from) w) (twice from w) r
  kept_move le from w f h p m = kept_full (move from) w f h p m (twice from w) (λ s. tt) (λ i b. inr (inr (refl, b from h.knows.0.stands, omega arith)))

  -- a tombstone
  pub kept_tomb : (k s : ℕ) (f : ℕ → ℕ) (g g' : Stage) (h : IsMap o v maps q g) (p : IsPut v.state f s 2) (stood : Holds o v k s) (q' : ℕ) → ((j y : ℕ) → IsSince maps r q j y → IsSince maps' r q' j y)
      → ((j i : ℕ) → IsHalf o g r q j i → ⊥) → ((t : ℕ) → IsApart g' t) → IsKept o v (record v { state = f }) maps maps' q q' g g' r
  kept_tomb k s f g g' h p stood q' since none apart = record {
    since = since;
    ahead = λ j i. ⊎_elim (λ (a : IsSince maps r q j 0). inl (since j 0 a)) (λ (a : ((t : ℕ) → Holds o v j t → i ≤ o.step j t) ⊎ IsHalf o g r q j i).
        ⊎_elim (λ (b : (t : ℕ) → Holds o v j t → i ≤ o.step j t). inr (inl (λ t x. b t (gone o ok v maps maps' q k s f g h p stood j t x).1))) (λ (b : IsHalf o g r q j i). absurd (none j i b)) a);
    stable = λ t x. record { state = λ e. dite (ℕ_discrete t s) (λ (u : t ≡ s). let a = ap f u in let b = p.here in absurd (omega arith)) (λ (n : t ≢ s). x.state (sym (p.others t n) ∙ e)); apart = apart t };
    low = λ t x. refl;
    high = λ t x. refl;
    justified = λ j t x law a b. since j (suc (v.value t)) (law a b);
  }

  -- a replacement in place
  pub kept_value : r ≤ q → (k s x : ℕ) (f : ℕ → ℕ) → IsPut v.value f s x → Holds o v k s → IsStep maps maps' q k (suc x) → IsKept o v (record v { value = f }) maps maps' q (suc q) idle idle r
  kept_value le k s x f p stood m = record {
    since = since_step k (suc x) m;
    ahead = λ j i. ⊎_elim (λ (a : IsSince maps r q j 0). inl (since_step k (suc x) m j 0 a)) (λ (a : ((t : ℕ) → Holds o v j t → i ≤ o.step j t) ⊎ ⊥).
        ⊎_elim (λ (b : (t : ℕ) → Holds o v j t → i ≤ o.step j t). inr (inl (λ t y. b t record { inside = y.inside; full = y.full; is_low = y.is_low; is_high = y.is_high }))) (λ (b : ⊥). absurd b) a);
    stable = λ t y. record { state = y.state; apart = y.apart };
    low = λ t y. refl;
    high = λ t y. refl;
    justified = λ j t y law a b. dite (ℕ_discrete t s)
        (λ (e : t ≡ s). let same : j ≡ k = ok.one_key j k (sym a ∙ (ap v.low e ∙ stood.is_low)) (sym b ∙ (ap v.high e ∙ stood.is_high)) in
        record { place = suc q; low = omega arith; high = omega arith; gave = ap (maps' (suc q)) same ∙ (m.here ∙ ap suc (sym (ap f e ∙ p.here))) })
        (λ (n : t ≢ s). subst (λ (u : ℕ). IsSince maps' r (suc q) j (suc u)) (sym (p.others t n)) (since_step k (suc x) m j (suc (v.value t)) (law a b)));
  }
