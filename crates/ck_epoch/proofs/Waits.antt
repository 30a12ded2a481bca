-- The steps of a round of `synchronize` or `barrier`.
use Rattle.std.proofs.Common.{◌≡◌, ◌≢◌, ℕ, ◌+◌, ◌<◌, ⊎_elim, inl, inr, Bool, true, false, ◌&&◌, cond, ◌==◌, eq-eqb, ne_eqb, Option, List, [], ◌∷◌, ◌++◌, map, All, refl, sym, ap, ◌∙◌, subst, arith}
use Rattle.std.proofs.lemmas.List.{map-append, append_assoc, append-nil}
use Rattle.std.proofs.lemmas.List.Elements.{All-push, All-nil}
use Rattle.ck_run.specs.declared.account.Step.{Step}
use Rattle.ck_run.specs.declared.account.Step.TheVariants.{Load}
use Rattle.ck_run.specs.Run.{entry, further}
use Rattle.ck_run.specs.Tokens.{Table, table, did, origin, number, adding, MayMake}
use Rattle.ck_run.proofs.Moments.{table_stays, number_stays, adds_one}
use Rattle.ck_epoch.specs.declared.about.About.{About}
use Rattle.ck_epoch.specs.State.{active_word, epoch_word, Task, polling, first_round, second_round, Stage, free, scanning, comparing, TokenState, first_busy, is_clear, dispatch_all, after_record, after_blocked, after_step, next, MayStep, May, Origin, Token, records_of, state}
use Rattle.ck_epoch.specs.Client.{Client, Passes, program}
use Rattle.ck_epoch.specs.Ends.{IsDomainToken}
use Rattle.ck_epoch.specs.Calls.{RecordLook, look_steps}
use Rattle.ck_epoch.specs.Rounds.{wait_steps, LetsPass, IsWait, IsWaiting, IsInRound, ScansOn}
use Rattle.ck_epoch.proofs.Stepping.{Steps, may_epochs, state_after_step}

never_clear : (task : Task) → IsWaiting task → (b : Bool) (busy : Option ℕ) → (b && is_clear task busy) ≡ false
never_clear (first_round all s) w true busy = refl
never_clear (first_round all s) w false busy = refl
never_clear (second_round all s) w true busy = refl
never_clear (second_round all s) w false busy = refl
never_clear polling w b busy = absurd w

blocked_waits : (task : Task) → IsWaiting task → (s : TokenState) (e rec : ℕ) (busy : Option ℕ) → after_blocked s task e rec busy ≡ record s { stage = scanning task e rec busy }
blocked_waits (first_round all x) w s e rec busy = refl
blocked_waits (second_round all x) w s e rec busy = refl
blocked_waits polling w s e rec busy = absurd w

module _ (records : ℕ) where
  record_waits : (task : Task) → IsWaiting task → (s : TokenState) (e rec : ℕ) (busy : Option ℕ) → after_record records s task e rec busy ≡ record s { stage = scanning task e (rec + 1) busy }
  record_waits task w s e rec busy = ap (λ (b : Bool). cond b (record (dispatch_all s) { stage = free }) (record s { stage = scanning task e (rec + 1) busy })) (never_clear task w (rec + 1 == records) busy)

  -- the state after a step, by the stage before it
  pub next_at : (s : TokenState) (g : Stage) (opens : List ℕ) (x : Step) → s.stage ≡ g → next records s (entry opens x) ≡ record (after_step records s opens [] g x) { steps = s.steps + 1 }
  next_at s g opens x is = ap (λ (y : Stage). record (after_step records s opens [] y x) { steps = s.steps + 1 }) is

  pub may_at : (s : TokenState) (g : Stage) (opens : List ℕ) (x : Step) → s.stage ≡ g → MayStep records s opens [] g x → May records s (entry opens x)
  may_at s g opens x is may = subst (λ (y : Stage). MayStep records s opens [] y x) (sym is) may

-- a state that is another but for the stage and the number of steps
pub with_steps : (s s' : TokenState) (g : Stage) (n : ℕ) → s' ≡ record s { stage = g; steps = n } → s' ≡ record s { stage = g; steps = s'.steps }
with_steps s s' g n e = e ∙ λ i. record s { stage = g; steps = ap (λ (x : TokenState). x.steps) (sym e) i }

module _ {C : Type 0} (client : Client C) where
  -- a token that goes on within a scan is within it
  scans_there : (e from to : ℕ) (t u : Token C) → IsInRound client e from t → IsDomainToken client u → number u ≡ number t → ScansOn e from to t u → IsInRound client e to u
  scans_there e from to t u i part same on = let r = on i.task i.waits i.busy i.stage in record {
    part = part;
    first = same ∙ i.first;
    task = i.task;
    busy = r.0;
    waits = i.waits;
    stage = ap (λ (x : TokenState). x.stage) r.1;
  }

  -- one after another
  pub scans_both : (e from mid to : ℕ) (t u v : Token C) → ScansOn e from mid t u → ScansOn e mid to u v → ScansOn e from to t v
  scans_both e from mid to t u v a b task w busy is =
      let x = a task w busy is in
      let y = b task w x.0 (ap (λ (s : TokenState). s.stage) x.1) in
      (y.0, y.1 ∙ λ i. record (x.1 i) { stage = scanning task e to y.0; steps = (state v).steps })

  pub scans_none : (e rec : ℕ) (t : Token C) → ScansOn e rec rec t t
  scans_none e rec t task w busy is = (busy, λ i. record (state t) { stage = is i })

wait_snoc : (rec : ℕ) (before : List RecordLook) (l : RecordLook) → wait_steps rec (before ++ l ∷ []) ≡ wait_steps rec before ++ look_steps rec l
wait_snoc rec [] l = append-nil (look_steps rec l)
wait_snoc rec (x ∷ xs) l = ap (λ (z : List Step). look_steps rec x ++ z) (wait_snoc rec xs l) ∙ sym (append_assoc (look_steps rec x) (wait_steps rec xs) (look_steps rec l))

looked : ℕ → ℕ → RecordLook
looked active epoch = record { active = active; epoch = epoch }

look_inactive : (rec active epoch : ℕ) → active ≡ 0 → look_steps rec (record { active = active; epoch = epoch }) ≡ Load (active_word rec) active ∷ []
look_inactive rec active epoch z = ap (λ (b : Bool). Load (active_word rec) active ∷ cond b [] (Load (epoch_word rec) epoch ∷ [])) (eq-eqb active 0 z)

look_active : (rec active epoch : ℕ) → active ≢ 0 → look_steps rec (record { active = active; epoch = epoch }) ≡ Load (active_word rec) active ∷ Load (epoch_word rec) epoch ∷ []
look_active rec active epoch z = ap (λ (b : Bool). Load (active_word rec) active ∷ cond b [] (Load (epoch_word rec) epoch ∷ [])) (ne_eqb active 0 z)

pub adds_none : {C : Type 0} (t : Token C) → t ≡ adding t []
adds_none t i = record t { view = record t.view { own = record t.view.own { entries = sym (append-nil (did t)) i } } }

module _ {C : Type 0} where
  -- the token after these looks at the record
  abbrev pub Looks : ℕ → List RecordLook → Token C → Token C → Type 0
  Looks rec looks t u = u ≡ adding t (map further (wait_steps rec looks))

  looks_more : (rec : ℕ) (before : List RecordLook) (l : RecordLook) (t v : Token C) (steps : List Step) → look_steps rec l ≡ steps → v ≡ adding t (map further (wait_steps rec before) ++ map further steps) → Looks rec (before ++ l ∷ []) t v
  looks_more rec before l t v steps is e = e ∙ ap (adding t)
      (sym (map-append further (wait_steps rec before) steps) ∙ ap (map further) (ap (λ (z : List Step). wait_steps rec before ++ z) (sym is) ∙ sym (wait_snoc rec before l)))

-- A look at the record `rec`, by the token t that made these looks since it was t0
module _ {C : Type 0} (client : Client C) (passes : Passes client) (e rec : ℕ) (t0 t : Token C) (i : IsInRound client e rec t) (low : rec < records_of (origin t)) where
  abbrev R : ℕ
  R = records_of (origin t)

  abbrev active_load : ℕ → Step
  active_load n = Load (active_word rec) n

  abbrev epoch_load : ℕ → Step
  epoch_load n = Load (epoch_word rec) n

  pub may_active : (n : ℕ) → MayMake (program client) t (further (active_load n))
  may_active n = may_epochs client passes t [] (active_load n) i.part (omega arith) (may_at R (state t) (scanning i.task e rec i.busy) [] (active_load n) i.stage (refl, low, (refl, refl)))

  module _ (u : Token C) (active : ℕ) (made : Steps client t (further (active_load active)) u) where
    same_number : number u ≡ number t
    same_number = number_stays (program client) t u (further (active_load active)) made

    after_active : (task : Task) (busy : Option ℕ) → (state t).stage ≡ scanning task e rec busy
        → state u ≡ record (cond (active == 0) (after_record R (state t) task e rec busy) (record (state t) { stage = comparing task e rec busy })) { steps = (state t).steps + 1 }
    after_active task busy is = state_after_step client t u (further (active_load active)) made ∙ next_at R (state t) (scanning task e rec busy) [] (active_load active) is

    -- it was inactive
    module _ (none : active ≡ 0) where
      pub on_inactive : ScansOn e rec (rec + 1) t u
      on_inactive task w busy is = (
        busy,
        with_steps (state t) (state u) (scanning task e (rec + 1) busy) ((state t).steps + 1) (after_active task busy is
            ∙ (ap (λ (b : Bool). record (cond b (after_record R (state t) task e rec busy) (record (state t) { stage = comparing task e rec busy })) { steps = (state t).steps + 1 }) (eq-eqb active 0 none)
            ∙ ap (λ (s : TokenState). record s { steps = (state t).steps + 1 }) (record_waits R task w (state t) e rec busy))),
      )

      pub there_inactive : IsInRound client e (rec + 1) u
      there_inactive = scans_there client e rec (rec + 1) t u i made.1 same_number on_inactive

      pub waits_inactive : (before : List RecordLook) → All (λ (l : RecordLook). ¬ LetsPass e l) before → Looks rec before t0 t → (looks : List RecordLook) × IsWait e looks × Looks rec looks t0 u
      waits_inactive before others so_far = let l = looked active 0 in (
        before ++ record { active = active; epoch = 0 } ∷ [],
        (before, record { active = active; epoch = 0 }, refl, others, inl none),
        looks_more rec before (record { active = active; epoch = 0 }) t0 u (active_load active ∷ []) (look_inactive rec active 0 none)
            (adds_one (program client) t0 t u (map further (wait_steps rec before)) (further (active_load active)) so_far made),
      )

    -- it was active
    module _ (some_ : active ≢ 0) where
      after_some : (task : Task) (busy : Option ℕ) → (state t).stage ≡ scanning task e rec busy → state u ≡ record (state t) { stage = comparing task e rec busy; steps = (state t).steps + 1 }
      after_some task busy is = after_active task busy is
          ∙ ap (λ (b : Bool). record (cond b (after_record R (state t) task e rec busy) (record (state t) { stage = comparing task e rec busy })) { steps = (state t).steps + 1 }) (ne_eqb active 0 some_)

      same_origin : origin u ≡ origin t
      same_origin = ap origin made.0

      pub may_epoch : (n : ℕ) → MayMake (program client) u (further (epoch_load n))
      may_epoch n = may_epochs client passes u [] (epoch_load n) made.1 (let z = ap records_of same_origin in omega arith)
          (may_at (records_of (origin u)) (state u) (comparing i.task e rec i.busy) [] (epoch_load n) (ap (λ (s : TokenState). s.stage) (after_some i.task i.busy i.stage)) (refl, (let z = ap records_of same_origin in omega arith), (refl, refl)))

      module _ (v : Token C) (found : ℕ) (made' : Steps client u (further (epoch_load found)) v) where
        number_too : number v ≡ number t
        number_too = number_stays (program client) u v (further (epoch_load found)) made' ∙ same_number

        abbrev compares : Task → Option ℕ → TokenState
        compares task busy = record (state t) { stage = comparing task e rec busy; steps = (state t).steps + 1 }

        after_epoch : (task : Task) (busy : Option ℕ) → (state t).stage ≡ scanning task e rec busy → state v
            ≡ record (cond (found == e) (after_record R (compares task busy) task e rec (first_busy busy rec)) (after_blocked (compares task busy) task e rec busy)) { steps = (state t).steps + 1 + 1 }
        after_epoch task busy is = state_after_step client u v (further (epoch_load found)) made'
            ∙ (ap (λ (o : Origin C). next (records_of o) (state u) (further (epoch_load found))) same_origin
            ∙ ap (λ (s : TokenState). next R s (further (epoch_load found))) (after_some task busy is))

        -- with the epoch of the round
        pub on_current : found ≡ e → ScansOn e rec (rec + 1) t v
        on_current same task w busy is = (
          first_busy busy rec,
          with_steps (state t) (state v) (scanning task e (rec + 1) (first_busy busy rec)) ((state t).steps + 1 + 1) (after_epoch task busy is
              ∙ (ap (λ (b : Bool). record (cond b (after_record R (compares task busy) task e rec (first_busy busy rec)) (after_blocked (compares task busy) task e rec busy)) { steps = (state t).steps + 1 + 1 }) (eq-eqb found e same)
              ∙ ap (λ (s : TokenState). record s { steps = (state t).steps + 1 + 1 }) (record_waits R task w (compares task busy) e rec (first_busy busy rec)))),
        )

        -- with another
        pub on_other : found ≢ e → ScansOn e rec rec t v
        on_other other task w busy is = (
          busy,
          with_steps (state t) (state v) (scanning task e rec busy) ((state t).steps + 1 + 1) (after_epoch task busy is
              ∙ (ap (λ (b : Bool). record (cond b (after_record R (compares task busy) task e rec (first_busy busy rec)) (after_blocked (compares task busy) task e rec busy)) { steps = (state t).steps + 1 + 1 }) (ne_eqb found e other)
              ∙ ap (λ (s : TokenState). record s { steps = (state t).steps + 1 + 1 }) (blocked_waits task w (compares task busy) e rec busy))),
        )

        pub there_current : found ≡ e → IsInRound client e (rec + 1) v
        there_current same = scans_there client e rec (rec + 1) t v i made'.1 number_too (on_current same)

        pub there_other : found ≢ e → IsInRound client e rec v
        there_other other = scans_there client e rec rec t v i made'.1 number_too (on_other other)

        abbrev look : RecordLook
        look = record { active = active; epoch = found }

        looks_now : (before : List RecordLook) → Looks rec before t0 t → Looks rec (before ++ look ∷ []) t0 v
        looks_now before so_far = looks_more rec before look t0 v (active_load active ∷ epoch_load found ∷ []) (look_active rec active found some_)
            (adds_one (program client) t0 u v (map further (wait_steps rec before) ++ further (active_load active) ∷ []) (further (epoch_load found))
            (adds_one (program client) t0 t u (map further (wait_steps rec before)) (further (active_load active)) so_far made) made'
            ∙ ap (adding t0) (append_assoc (map further (wait_steps rec before)) (further (active_load active) ∷ []) (further (epoch_load found) ∷ [])))

        pub waits_current : found ≡ e → (before : List RecordLook) → All (λ (l : RecordLook). ¬ LetsPass e l) before → Looks rec before t0 t → (looks : List RecordLook) × IsWait e looks × Looks rec looks t0 v
        waits_current same before others so_far = (before ++ look ∷ [], (before, look, refl, others, inr same), looks_now before so_far)

        pub waits_other : found ≢ e → (before : List RecordLook) → All (λ (l : RecordLook). ¬ LetsPass e l) before → Looks rec before t0 t
            → (looks : List RecordLook) × All (λ (l : RecordLook). ¬ LetsPass e l) looks × Looks rec looks t0 v
        waits_other other before others so_far = (
          before ++ look ∷ [],
          All-push (λ (l : RecordLook). ¬ LetsPass e l) before look others (λ p. ⊎_elim (λ (z : active ≡ 0). some_ z) (λ (z : found ≡ e). other z) p),
          looks_now before so_far,
        )

pub in_range : {C : Type 0} (rec : ℕ) (t0 t : Token C) (d : Table (About C)) → table t ≡ table t0 → table t0 ≡ d → rec < records_of d.origin → rec < records_of (origin t)
in_range {C = C} rec t0 t d a b low = subst (λ (x : Table (About C)). rec < records_of x.origin) (sym (a ∙ b)) low

-- the token t has looked at the record, always in vain, since it was t0
pub record HasLooked {C : Type 0} (client : Client C) (e rec : ℕ) (t0 t : Token C) : Type 0 where
  pub same : table t ≡ table t0
  pub scans : IsInRound client e rec t
  pub on : ScansOn e rec rec t0 t
  pub looks : List RecordLook
  pub others : All (λ (l : RecordLook). ¬ LetsPass e l) looks
  pub did : Looks rec looks t0 t

-- and then it passed the record
pub record HasPassed {C : Type 0} (client : Client C) (e rec : ℕ) (t0 t : Token C) : Type 0 where
  pub same : table t ≡ table t0
  pub did : (looks : List RecordLook) × IsWait e looks × Looks rec looks t0 t
  pub scans : IsInRound client e (rec + 1) t × ScansOn e rec (rec + 1) t0 t

module _ {C : Type 0} (client : Client C) (passes : Passes client) (e rec : ℕ) where
  pub not_looked : (t : Token C) → IsInRound client e rec t → HasLooked client e rec t t
  not_looked t i = record { same = refl; scans = i; on = scans_none client e rec t; looks = []; others = All-nil (λ (l : RecordLook). ¬ LetsPass e l); did = adds_none t }

  module _ (t0 t : Token C) (h : HasLooked client e rec t0 t) (low : rec < records_of (origin t)) (word : ℕ) (is : word ≡ active_word rec) where
    pub may_look : (n : ℕ) → MayMake (program client) t (further (Load word n))
    may_look n = subst (λ (w : ℕ). MayMake (program client) t (further (Load w n))) (sym is) (may_active client passes e rec t0 t h.scans low n)

    module _ (u : Token C) (active : ℕ) (step : Steps client t (further (Load word active)) u) where
      made : Steps client t (further (Load (active_word rec) active)) u
      made = subst (λ (w : ℕ). Steps client t (further (Load w active)) u) is step

      same_table : table u ≡ table t0
      same_table = table_stays (program client) t u (further (Load (active_word rec) active)) made ∙ h.same

      pub passed_inactive : active ≡ 0 → HasPassed client e rec t0 u
      passed_inactive none = record {
        same = same_table;
        did = waits_inactive client passes e rec t0 t h.scans low u active made none h.looks h.others h.did;
        scans = (
          there_inactive client passes e rec t0 t h.scans low u active made none,
          scans_both client e rec rec (rec + 1) t0 t u h.on (on_inactive client passes e rec t0 t h.scans low u active made none),
        );
      }

      module _ (some_ : active ≢ 0) (word' : ℕ) (is' : word' ≡ epoch_word rec) where
        pub may_compare : (n : ℕ) → MayMake (program client) u (further (Load word' n))
        may_compare n = subst (λ (w : ℕ). MayMake (program client) u (further (Load w n))) (sym is') (may_epoch client passes e rec t0 t h.scans low u active made some_ n)

        module _ (v : Token C) (found : ℕ) (step' : Steps client u (further (Load word' found)) v) where
          made_too : Steps client u (further (Load (epoch_word rec) found)) v
          made_too = subst (λ (w : ℕ). Steps client u (further (Load w found)) v) is' step'

          same_too : table v ≡ table t0
          same_too = table_stays (program client) u v (further (Load (epoch_word rec) found)) made_too ∙ same_table

          pub passed_current : found ≡ e → HasPassed client e rec t0 v
          passed_current at = record {
            same = same_too;
            did = waits_current client passes e rec t0 t h.scans low u active made some_ v found made_too at h.looks h.others h.did;
            scans = (
              there_current client passes e rec t0 t h.scans low u active made some_ v found made_too at,
              scans_both client e rec rec (rec + 1) t0 t v h.on (on_current client passes e rec t0 t h.scans low u active made some_ v found made_too at),
            );
          }

          pub still_looked : found ≢ e → HasLooked client e rec t0 v
          still_looked other = let w = waits_other client passes e rec t0 t h.scans low u active made some_ v found made_too other h.looks h.others h.did in record {
            same = same_too;
            scans = there_other client passes e rec t0 t h.scans low u active made some_ v found made_too other;
            on = scans_both client e rec rec rec t0 t v h.on (on_other client passes e rec t0 t h.scans low u active made some_ v found made_too other);
            looks = w.0;
            others = w.1;
            did = w.2;
          }
