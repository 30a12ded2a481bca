-- The steps by which a pass opens a section, nests it and ends it.
use Rattle.std.proofs.Common.{◌≡◌, ℕ, zero, suc, ◌+◌, ◌-◌, ◌<◌, ◌^◌, ◌⊎◌, ⊎_elim, inl, inr, Bool, true, cond, nat_lt, List, [], ◌∷◌, refl, sym, ap, ◌∙◌, subst, arith}
use Rattle.std.proofs.lemmas.Bool.Decides.{nat_tests}
use Rattle.ck_run.specs.declared.account.Step.{Step}
use Rattle.ck_run.specs.declared.account.Step.TheVariants.{Load, Store}
use Rattle.ck_run.specs.declared.account.Entry.{Entry}
use Rattle.ck_run.specs.Run.{entry, further, call}
use Rattle.ck_run.specs.Range.{word_of}
use Rattle.ck_run.specs.Tokens.{adding, number, origin, MayMake}
use Rattle.ck_run.proofs.Moments.{origin_stays, number_stays, adds_one}
use Rattle.ck_epoch.specs.State.{Origin, Token, TokenState, Stage, outside, entering, holding, inside, base, base_of, records_of, active_word, epoch_word, begin, end, at_depth, next, MayStep, state}
use Rattle.ck_epoch.specs.Client.{Client, Passes, program}
use Rattle.ck_epoch.specs.Ends.{IsDomainToken, IsPass}
use Rattle.ck_epoch.proofs.Stepping.{Steps, may_epochs, state_after_step, pass_holds}

lt_yes : (a b : ℕ) → a < b → nat_lt a b ≡ true
lt_yes a b l = grind (arith, nat_tests)

-- the words of a record are of the epochs
low_active : (r n : ℕ) → r < n → active_word r < base n
low_active r n l = omega arith

low_epoch : (r n : ℕ) → r < n → epoch_word r < base n
low_epoch r n l = omega arith

module _ {C : Type 0} (client : Client C) (passes : Passes client) where
  -- a token that went on from t, and has this state
  record Went (t u : Token C) (s : TokenState) : Type 0 where
    part : IsDomainToken client u
    same : origin u ≡ origin t
    number : number u ≡ number t
    state : state u ≡ s

  goes : (t u v : Token C) (e : Entry) (s : TokenState) → Went t u s → Steps client u e v → Went t v (next (records_of (origin t)) s e)
  goes t u v e s i made = record {
    part = made.1;
    same = origin_stays (program client) u v e made ∙ i.same;
    number = number_stays (program client) u v e made ∙ i.number;
    state = state_after_step client u v e made ∙ (ap (λ (o : Origin C). next (records_of o) (state u) e) i.same ∙ ap (λ (x : TokenState). next (records_of (origin t)) x e) i.state);
  }

  -- a step of a pass on a word of the epochs may be made
  may_go : (t u : Token C) (opens : List ℕ) (p : Step) (s : TokenState) → Went t u s → word_of p < base_of (origin t) → MayStep (records_of (origin t)) s opens [] s.stage p
      → MayMake (program client) u (entry opens p)
  may_go t u opens p s i low may = may_epochs client passes u opens p i.part (subst (λ (o : Origin C). word_of p < base_of o) (sym i.same) low)
      (subst (λ (o : Origin C). MayStep (records_of o) (state u) opens [] (state u).stage p) (sym i.same) (subst (λ (x : TokenState). MayStep (records_of (origin t)) x opens [] x.stage p) (sym i.state) may))

  stays : (t : Token C) → IsDomainToken client t → Went t t (state t)
  stays t p = record { part = p; same = refl; number = refl; state = refl }

  -- where the stage is known
  at_stage : (t : Token C) (g : Stage) → IsDomainToken client t → (state t).stage ≡ g → Went t t (record (state t) { stage = g })
  at_stage t g p is = record { part = p; same = refl; number = refl; state = ap (λ (h : Stage). record (state t) { stage = h }) is }

  -- a pass has so many nested sections open after it went on
  pass_after : (t u : Token C) (s : TokenState) (rec d d' : ℕ) → Went t u s → IsPass client t rec d → (g : ℕ) × (s.stage ≡ at_depth d' g) → IsPass client u rec d'
  pass_after t u s rec d d' w at stage = record {
    part = w.part;
    other = w.number ∙ at.other;
    low = subst (λ (o : Origin C). rec < records_of o) (sym w.same) at.low;
    stage = (stage.0, ap (λ (x : TokenState). x.stage) w.state ∙ stage.1);
  }

  -- `begin`, of a pass that has no section open
  module _ (t : Token C) (rec : ℕ) (at : IsPass client t rec 0) (few : (state t).calls < 2 ^ 40) where
    abbrev R : ℕ
    R = records_of (origin t)

    rec_is : (state t).rec ≡ rec
    rec_is = pass_holds client t rec at.part at.other

    at_outside : Went t t (record (state t) { stage = outside })
    at_outside = at_stage t outside at.part at.stage.1

    abbrev enters : ℕ → Entry
    enters w = entry (begin ∷ []) (Store w 1)

    pub may_enter : (w : ℕ) → w ≡ active_word rec → MayMake (program client) t (enters w)
    may_enter w e = let l = low_active rec R at.low in
        may_go t t (begin ∷ []) (Store w 1) (record (state t) { stage = outside }) at_outside (omega arith)
        (inl ((e ∙ ap active_word (sym rec_is), (let r = rec_is in let k = at.low in omega arith), few), refl, (refl, refl)))

    module _ (u : Token C) (w : ℕ) (w_is : w ≡ active_word rec) (entered : Steps client t (enters w) u) where
      abbrev at_word : TokenState
      at_word = record (state t) { stage = entering; calls = (state t).calls + 1; steps = (state t).steps + 1 }

      at_entering : Went t u at_word
      at_entering = let l = low_active rec R at.low in let b = lt_yes w (base R) (omega arith) in
          subst (λ (c : Bool). Went t u (record (cond c (record (state t) { stage = entering; calls = (state t).calls + 1 }) (record (state t) { stage = outside })) { steps = (state t).steps + 1 })) b
          (goes t t u (enters w) (record (state t) { stage = outside }) at_outside entered)

      pub may_hold : (g : ℕ) → MayMake (program client) u (further (Load 0 g))
      may_hold g = may_go t u [] (Load 0 g) at_word at_entering (omega arith) (refl, (refl, refl))

      module _ (v : Token C) (g : ℕ) (held : Steps client u (further (Load 0 g)) v) where
        abbrev at_epoch : TokenState
        at_epoch = record at_word { stage = holding g; steps = (state t).steps + 1 + 1 }

        at_holding : Went t v at_epoch
        at_holding = goes t u v (further (Load 0 g)) at_word at_entering held

        pub may_open : (x : ℕ) → x ≡ epoch_word rec → MayMake (program client) v (further (Store x g))
        may_open x e = let l = low_epoch rec R at.low in
            may_go t v [] (Store x g) at_epoch at_holding (omega arith) (e ∙ ap epoch_word (sym rec_is), (let r = rec_is in let k = at.low in omega arith), refl, (refl, refl))

        module _ (z : Token C) (x : ℕ) (x_is : x ≡ epoch_word rec) (opened : Steps client v (further (Store x g)) z) where
          at_inside : Went t z (record at_epoch { stage = inside 1 g; steps = (state t).steps + 1 + 1 + 1 })
          at_inside = goes t v z (further (Store x g)) at_epoch at_holding opened

          pub is_inside : IsPass client z rec 1
          is_inside = pass_after t z (record at_epoch { stage = inside 1 g; steps = (state t).steps + 1 + 1 + 1 }) rec 0 1 at_inside at (g, refl)

          pub one_call : (state z).calls ≡ (state t).calls + 1
          one_call = ap (λ (s : TokenState). s.calls) at_inside.state

          pub begun : z ≡ adding t (call begin [] (Store (active_word rec) 1 ∷ Load 0 g ∷ Store (epoch_word rec) g ∷ []))
          begun = adds_one (program client) t v z (enters w ∷ further (Load 0 g) ∷ []) (further (Store x g)) (adds_one (program client) t u v (enters w ∷ []) (further (Load 0 g)) entered.0 held) opened
              ∙ ap (λ (p : ℕ × ℕ). adding t (call begin [] (Store p.0 1 ∷ Load 0 g ∷ Store p.1 g ∷ []))) (λ i. (w_is i, x_is i))

  -- `begin` and `end` of a pass that has a section open
  module _ (t : Token C) (rec d : ℕ) (open_ : 0 < d) (at : IsPass client t rec d) (few : (state t).calls < 2 ^ 40) (opens : List ℕ) (n : ℕ)
      (name : ((n ≡ d + 1) × (d < 2 ^ 32) × (opens ≡ begin ∷ [])) ⊎ ((n ≡ d - 1) × (opens ≡ end ∷ []))) where
    abbrev sets : ℕ → Entry
    sets w = entry opens (Store w n)

    is_open : (k : ℕ) (g : ℕ) → 0 < k → at_depth k g ≡ inside k g
    is_open zero g b = absurd (omega arith)
    is_open (suc k) g b = refl

    abbrev g : ℕ
    g = at.stage.0

    at_depth_d : Went t t (record (state t) { stage = inside d g })
    at_depth_d = at_stage t (inside d g) at.part (at.stage.1 ∙ is_open d g open_)

    pub may_set : (w : ℕ) → w ≡ active_word rec → MayMake (program client) t (sets w)
    may_set w e =
        let l = low_active rec (records_of (origin t)) at.low in
        let r = pass_holds client t rec at.part at.other in
        may_go t t opens (Store w n) (record (state t) { stage = inside d g }) at_depth_d (omega arith)
        (inl ((e ∙ ap active_word (sym r), (let k = at.low in omega arith), few), ⊎_elim (λ b. inl (b.0, b.1, (b.2, refl))) (λ b. inr (b.0, (b.1, refl))) name))

    module _ (u : Token C) (w : ℕ) (w_is : w ≡ active_word rec) (made : Steps client t (sets w) u) where
      at_set : Went t u (record (state t) { stage = at_depth n g; calls = (state t).calls + 1; steps = (state t).steps + 1 })
      at_set = let l = low_active rec (records_of (origin t)) at.low in let b = lt_yes w (base (records_of (origin t))) (omega arith) in
          subst (λ (c : Bool). Went t u (record (cond c (record (state t) { stage = at_depth n g; calls = (state t).calls + 1 }) (record (state t) { stage = inside d g })) { steps = (state t).steps + 1 })) b
          (goes t t u (sets w) (record (state t) { stage = inside d g }) at_depth_d made)

      pub is_set : IsPass client u rec n
      is_set = pass_after t u (record (state t) { stage = at_depth n g; calls = (state t).calls + 1; steps = (state t).steps + 1 }) rec d n at_set at (g, refl)

      pub set_calls : (state u).calls ≡ (state t).calls + 1
      set_calls = ap (λ (s : TokenState). s.calls) at_set.state
