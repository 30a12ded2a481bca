-- A step of a visitor: when the registry allows it, where it leaves the visitor, and what the law tells of it.
use Rattle.std.proofs.Common.{◌≡◌, ℕ, zero, suc, ◌*◌, ◌^◌, ◌<◌, ◌≤◌, List, [], ◌∷◌, ◌++◌, length, get_or, refl, sym, ap, ◌∙◌, subst, arith}
use Rattle.ck_run.specs.declared.account.Entry.{Entry}
use Rattle.ck_run.specs.declared.account.Step.TheVariants.{Load, Store, Exchange}
use Rattle.ck_run.specs.Run.{replay, account, entry}
use Rattle.ck_run.specs.Rule.{IsRun}
use Rattle.ck_run.specs.Machine.{IsAt, follows_of}
use Rattle.ck_run.specs.Tokens.{Table, table, did, number, origin, MayMake, Makes}
use Rattle.ck_run.proofs.Runs.{split}
use Rattle.ck_run.proofs.Moments.{run_before, at_step, makes, may_make, origin_stays, number_stays, part_follows}
use Rattle.ck_epoch.specs.State.{Stage, at_depth, depth_of}
use Rattle.ck_registry.specs.State.{Origin, Token, TokenState, Activity, away, trying, resting, passing, checking, ready, state_word, IsOpening, MayRest, MayStep, MayLoad, after_rest, after_load, after_step, next, records_of, registry, state, state_at}
use Rattle.ck_registry.specs.Held.{IsMemberScan, calls_below}
use Rattle.ck_registry.specs.Ends.{IsRegistryToken, IsIdle, IsHolder, depth}
use Rattle.ck_registry.proofs.RegistryLaw.{Held, held_after}

abbrev pub Steps : Token → Entry → Token → Type 0
Steps t e u = Makes (follows_of registry) t e u

-- a visitor that began as t, is u now and has this state
pub record Went (t u : Token) (s : TokenState) : Type 0 where
  pub at : IsAt registry u s
  pub same : origin u ≡ origin t
  pub number : number u ≡ number t

pub stays : (t : Token) (s : TokenState) → IsRegistryToken t → state t ≡ s → Went t t s
stays t s p is = record { at = record { part = p; state = is }; same = refl; number = refl }

pub opened : (t : Token) → IsRegistryToken t → IsOpening (origin t)
opened t p = (part_follows (follows_of registry) (origin t) t.view.own p).0

-- what the calls of all visitors come to
few_below : (n : ℕ) (at : ℕ → TokenState) → ((m : ℕ) → (at m).calls ≤ 2 ^ 40) → calls_below n at ≤ n * 2 ^ 40
few_below zero at few = omega arith
few_below (suc n) at few = let a = few_below n at few in let b = few n in omega arith

module _ (t u : Token) (s : TokenState) (w : Went t u s) where
  held : Held (origin u) w.at.part.run (replay (origin u).words w.at.part.run) (λ n. state_at (origin u) n (account n w.at.part.run))
  held = held_after (origin u) w.at.part.run w.at.part.is_run

  stands : state_at (origin u) (number u) (account (number u) w.at.part.run) ≡ s
  stands = ap (state_at (origin u) (number u)) w.at.part.mine ∙ w.at.state

  pub numbered : s.number ≡ number t
  numbered = ap (λ (x : TokenState). x.number) (sym stands) ∙ (held.numbered (number u) ∙ w.number)

  -- a step that the state allows may be made
  pub may_go : (e : Entry) → number t < (origin t).tokens → MayStep (records_of (origin t)) s e.opens e.item s.activity e.step → MayMake (follows_of registry) u e
  may_go e low may = may_make registry u s e w.at (
    subst (λ (o : Origin). s.number < o.tokens) (sym w.same) (subst (λ (n : ℕ). n < (origin t).tokens) (sym numbered) low),
    subst (λ (o : Origin). MayStep (records_of o) s e.opens e.item s.activity e.step) (sym w.same) may,
  )

  -- and takes the state on
  pub goes : (v : Token) (e : Entry) → Steps u e v → Went t v (next (records_of (origin t)) s e)
  goes v e made = record {
    at = subst (λ (o : Origin). IsAt registry v (next (records_of o) s e)) w.same (makes registry u v s e w.at made);
    same = origin_stays (follows_of registry) u v e made ∙ w.same;
    number = number_stays (follows_of registry) u v e made ∙ w.number;
  }

  -- the epoch of a scan is at least the first one, and low
  scan_holds : (global : ℕ) × (global < 2 ^ 47) × IsMemberScan (records_of (origin u)) global s.activity
  scan_holds =
      let g = get_or (replay (origin u).words w.at.part.run) 0 0 in
      let few = few_below (origin u).tokens (λ n. state_at (origin u) n (account n w.at.part.run)) (λ n. (held.each n).few) in
      let bounded = held.bounded in let tokens = held.few in
      (g, omega arith, subst (λ (x : TokenState). IsMemberScan (records_of (origin u)) g x.activity) stands (held.each (number u)).scan)

  pub passing_late : (e rec : ℕ) (busy : _) → s.activity ≡ passing e rec busy → (4 ≤ e) × (e < 2 ^ 47)
  passing_late e rec busy is = let h = scan_holds in let low = h.1 in let k = subst (IsMemberScan (records_of (origin u)) h.0) is h.2 in let a = k.0 in let b = k.1 in (a, omega arith)

  pub ready_late : (e : ℕ) → s.activity ≡ ready e → (4 ≤ e) × (e < 2 ^ 47)
  ready_late e is = let h = scan_holds in let low = h.1 in let k = subst (IsMemberScan (records_of (origin u)) h.0) is h.2 in let a = k.0 in let b = k.1 in (a, omega arith)

-- the same state, written otherwise
pub went_as : (t u : Token) (s s' : TokenState) → Went t u s → s ≡ s' → Went t u s'
went_as t u s s' w e = subst (Went t u) e w

-- The state of a record that an exchange finds is 0 or 1
pub state_found : (t u : Token) (opens : List ℕ) (r old new found : ℕ) → IsRegistryToken t → r < records_of (origin t) → Steps t (entry opens (Exchange (state_word (records_of (origin t)) r) old new found)) u → found ≤ 1
state_found t u opens r old new found p low made =
    let o = origin t in
    let e = entry opens (Exchange (state_word (records_of o) r) old new found) in
    let q = made.1 in
    let entries : account (number t) q.run ≡ did t ++ e ∷ [] = ap (λ (k : ℕ). account k q.run) (sym (ap number made.0)) ∙ (q.mine ∙ ap did made.0) in
    let is_run : IsRun (follows_of registry) o q.run = subst (λ (x : Origin). IsRun (follows_of registry) x q.run) (ap origin made.0) q.is_run in
    let l = split (number t) q.run (did t) e [] entries in
    let whole : IsRun (follows_of registry) o (l.past ++ (number t, e) ∷ l.rest) = subst (IsRun (follows_of registry) o) l.parts is_run in
    let held = held_after o l.past (run_before registry o l.past ((number t, e) ∷ l.rest) whole) in
    let fits : found ≡ get_or (replay o.words l.past) (state_word (records_of o) r) 0 = (at_step registry o l.past l.rest (number t) e whole).1 in
    let sound = (held.sound r low).low in
    omega arith

-- the depth that a member keeps is its own
pub depth_at : (d g : ℕ) → depth_of (at_depth d g) ≡ d
depth_at zero g = refl
depth_at (suc d) g = refl

-- between two calls a member may do what its section allows
pub may_store : (R : ℕ) (s : TokenState) (opens item : List ℕ) (a : Activity) (at n : ℕ) → IsIdle a → MayRest R s opens item s.section (Store at n) → MayStep R s opens item a (Store at n)
may_store R s opens item resting at n i may = may
may_store R s opens item (ready e) at n i may = may
may_store R s opens item away at n i may = absurd i
may_store R s opens item (trying r) at n i may = absurd i
may_store R s opens item (passing e r b) at n i may = absurd i
may_store R s opens item (checking e r b) at n i may = absurd i

pub after_idle_store : (R : ℕ) (s : TokenState) (item : List ℕ) (a : Activity) (at n : ℕ) → IsIdle a → after_step R s item a (Store at n) ≡ after_rest s item s.section (Store at n)
after_idle_store R s item resting at n i = refl
after_idle_store R s item (ready e) at n i = refl
after_idle_store R s item away at n i = absurd i
after_idle_store R s item (trying r) at n i = absurd i
after_idle_store R s item (passing e r b) at n i = absurd i
after_idle_store R s item (checking e r b) at n i = absurd i

rest_loads : (R : ℕ) (s : TokenState) (opens item : List ℕ) (d g at n : ℕ) → MayLoad s opens item at → MayRest R s opens item (at_depth d g) (Load at n)
rest_loads R s opens item zero g at n may = may
rest_loads R s opens item (suc d) g at n may = may

after_rest_load : (s : TokenState) (item : List ℕ) (d g at n : ℕ) → after_rest s item (at_depth d g) (Load at n) ≡ after_load s item n
after_rest_load s item zero g at n = refl
after_rest_load s item (suc d) g at n = refl

-- such a member may load the global epoch, whatever its section
pub may_load : (R : ℕ) (s : TokenState) (opens item : List ℕ) (a : Activity) (d g at n : ℕ) → IsIdle a → s.section ≡ at_depth d g → MayLoad s opens item at → MayStep R s opens item a (Load at n)
may_load R s opens item resting d g at n i is may = subst (λ (x : Stage). MayRest R s opens item x (Load at n)) (sym is) (rest_loads R s opens item d g at n may)
may_load R s opens item (ready e) d g at n i is may = subst (λ (x : Stage). MayRest R s opens item x (Load at n)) (sym is) (rest_loads R s opens item d g at n may)
may_load R s opens item away d g at n i is may = absurd i
may_load R s opens item (trying r) d g at n i is may = absurd i
may_load R s opens item (passing e r b) d g at n i is may = absurd i
may_load R s opens item (checking e r b) d g at n i is may = absurd i

pub after_idle_load : (R : ℕ) (s : TokenState) (item : List ℕ) (a : Activity) (d g at n : ℕ) → IsIdle a → s.section ≡ at_depth d g → after_step R s item a (Load at n) ≡ after_load s item n
after_idle_load R s item resting d g at n i is = ap (λ (x : Stage). after_rest s item x (Load at n)) is ∙ after_rest_load s item d g at n
after_idle_load R s item (ready e) d g at n i is = ap (λ (x : Stage). after_rest s item x (Load at n)) is ∙ after_rest_load s item d g at n
after_idle_load R s item away d g at n i is = absurd i
after_idle_load R s item (trying r) d g at n i is = absurd i
after_idle_load R s item (passing e r b) d g at n i is = absurd i
after_idle_load R s item (checking e r b) d g at n i is = absurd i

-- a member that holds its record as before
pub holder_after : (t u : Token) (s : TokenState) (rec d d' : ℕ) → Went t u s → IsHolder t rec d → IsIdle s.activity → s.rec ≡ (state t).rec → (g : ℕ) × (s.section ≡ at_depth d' g) → IsHolder u rec d'
holder_after t u s rec d d' w h idle same section = record {
  part = w.at.part;
  low = subst (λ (n : ℕ). n < (origin u).tokens) (sym w.number) (subst (λ (o : Origin). number t < o.tokens) (sym w.same) h.low);
  stands = subst (λ (x : TokenState). IsIdle x.activity) (sym w.at.state) idle;
  held = ap (λ (x : TokenState). x.rec) w.at.state ∙ (same ∙ h.held);
  record_low = subst (λ (o : Origin). rec < records_of o) (sym w.same) h.record_low;
  section = (section.0, ap (λ (x : TokenState). x.section) w.at.state ∙ section.1);
}

-- the records that the registry keeps are those of the token
pub records_are : (t : Token) (d now : Table ℕ) (records : ℕ) → table t ≡ now → d ≡ now → d.origin.config ≡ records → records_of (origin t) ≡ records
records_are t d now records same keeps told = ap (λ (x : Table ℕ). x.origin.config) (same ∙ sym keeps) ∙ told

-- no section is open
pub at_zero : (t : Token) (rec d : ℕ) → IsHolder t rec d → depth t ≡ 0 → IsHolder t rec 0
at_zero t rec d h none = subst (IsHolder t rec) (sym (depth_at d h.section.0) ∙ (ap depth_of (sym h.section.1) ∙ none)) h

-- a list without items
pub none_of : {A : Type 0} (xs : List A) → length xs ≡ 0 → xs ≡ []
none_of [] e = refl
none_of (x ∷ xs) e = absurd (omega arith)
