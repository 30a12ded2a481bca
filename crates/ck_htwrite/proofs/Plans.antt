-- The plan of an update on the writer's lists, and which case it is.
use Rattle.std.proofs.Common.{◌≡◌, ℕ, ◌+◌, ◌*◌, ◌^◌, ◌<◌, ◌≤◌, ◌⊎◌, ⊎_elim, Bool, true, false, cond, nat_lt, nat_le, List, [], ◌∷◌, refl, sym, ap, ◌∙◌, subst, arith}
use Rattle.std.specs.Prelude.{MatchBool}
use Rattle.std.proofs.lemmas.Bool.Decides.{nat_tests}
use Rattle.std.proofs.Math.Nat.{pow-le-pow_right}
use Rattle.ck_run.specs.declared.account.Step.{Step}
use Rattle.ck_run.specs.Range.{word_of}
use Rattle.ck_run.specs.Run.{entry}
use Rattle.ck_probe.specs.Mixing.{key_code_of}
use Rattle.ck_slots.specs.Slots.{SlotsView}
use Rattle.ck_slots.specs.Counting.{rebuilt_log}
use Rattle.ck_htplan.specs.declared.cases.Plan.{Plan}
use Rattle.ck_htplan.specs.declared.cases.Plan.TheVariants.{Empty, Reuse, Stand, Move}
use Rattle.ck_htplan.specs.Plans.{IsPlan}
use Rattle.ck_htplan.specs.Region.{order_of, view_of, low_of, high_of}
use Rattle.ck_htlaw.specs.declared.client.HtClient.{HtClient}
use Rattle.ck_htlaw.specs.Calls.{set as setting, put as putting, remove as removing}
use Rattle.ck_htlaw.specs.Stages.{Insertion, Target, empty, reuse, Stage, idle}
use Rattle.ck_htlaw.specs.Layout.{log_of, counters_of, layout}
use Rattle.ck_htlaw.specs.Table.{Layout, WriterState, inserts, nothing, begins_rebuild}
use Rattle.ck_htlaw.specs.Actions.{most, action, by_stage, goes_in, keys_now, tombstones_now, plan_now, root_at, to_set, to_put, to_remove}
use Rattle.ck_htlaw.specs.Client.{orders_of, hash_of}
use Rattle.ck_htwrite.specs.declared.state.HtState.{HtState}
use Rattle.ck_htwrite.specs.Rebuild.{GoesOnAfter}
use Rattle.ck_htwrite.specs.State.{Reflects}
use Rattle.ck_htwrite.specs.Updates.{AddsFresh, Asks, IsIn, HasStates, InsertSteps, IsAdding, IsRebuildDue, IsRoomy, PutSteps, SetSteps, insert_steps, storing}
use Rattle.ck_htwrite.proofs.Agree.{keys_are, tombstones_are}
use Rattle.ck_htwrite.proofs.Slots.{count_most}

-- the slots of a plan are slots
pub plan_in : (client : HtClient) (c : ℕ) (v : SlotsView) (key : ℕ) (r : Plan) → IsPlan (order_of c (hash_of client)) v key r → IsIn (2 ^ c) r
plan_in client c v key (Empty at) p = subst (λ (s : ℕ). s < 2 ^ c) (sym p.2.0) p.1.inside
plan_in client c v key (Reuse at) p = p.2.1.0.inside
plan_in client c v key (Stand at) p = p.2.0.0.inside
plan_in client c v key (Move to from) p = (p.2.1.0.inside, p.2.0.0.inside)

-- and have the states that it says
pub plan_states : (client : HtClient) (c : ℕ) (v : SlotsView) (key : ℕ) (r : Plan) → IsPlan (order_of c (hash_of client)) v key r → HasStates v r
plan_states client c v key (Empty at) p = subst (λ (s : ℕ). v.state s ≡ 0) (sym p.2.0) p.1.here
plan_states client c v key (Reuse at) p = p.2.1.0.here
plan_states client c v key (Stand at) p = p.2.0.0.here.full
plan_states client c v key (Move to from) p = (p.2.1.0.here, p.2.0.0.here.full)

-- the hash that the code computes
pub hash_is : (client inner : HtClient) (key h low high : ℕ) → h ≡ key_code_of low high inner.seed → low ≡ low_of key → high ≡ high_of key → inner ≡ client → hash_of client key ≡ h
hash_is client inner key h low high e a b d = sym (e ∙ (λ i. key_code_of (a i) (b i) (d i).seed))

less : (n k : ℕ) → n ≡ k → n < 262144 → nat_lt k 262144 ≡ true
less n k e h = grind (arith, nat_tests)

not_less : (n k : ℕ) → n ≡ k → 262144 ≤ n → nat_lt k 262144 ≡ false
not_less n k e h = grind (arith, nat_tests)

pub over_full : (a b : ℕ) → nat_le a b ≡ false → b < a
over_full a b h = grind (arith, nat_tests)

module _ (floor base : ℕ) (client : HtClient) (p : WriterState) (s : HtState) where
  abbrev n : ℕ
  n = counters_of client

  abbrev l : Layout
  l = layout floor base n (orders_of client)

  module _ (h : Reflects n l p s) where
    few_slots : 2 ^ log_of s.root ≤ 524288
    few_slots = let q : 2 ^ log_of s.root ≤ 2 ^ 19 = pow-le-pow_right (let two : 0 < 2 = omega arith in two) h.mirrors.shape.is_root.few in omega arith

    pub keys_few : s.keys ≤ 524288
    keys_few = let m = h.mirrors.keys in let c = count_most (view_of s.words.items).state 1 (2 ^ log_of s.root) in let q = few_slots in omega arith

    pub tombstones_few : s.tombstones ≤ 524288
    tombstones_few = let m = h.mirrors.tombstones in let c = count_most (view_of s.words.items).state 2 (2 ^ log_of s.root) in let q = few_slots in omega arith

    pub room : s.keys < 262144 → nat_lt (keys_now l p) most ≡ true
    room = less s.keys (keys_now l p) (keys_are floor base n client p s h)

    pub no_room : 262144 ≤ s.keys → nat_lt (keys_now l p) most ≡ false
    no_room = not_less s.keys (keys_now l p) (keys_are floor base n client p s h)

    pub rule_is : (b : Bool) → b ≡ nat_le (4 * (s.keys + s.tombstones + 1)) (3 * 2 ^ log_of s.root) → nat_le (4 * (keys_now l p + tombstones_now l p + 1)) (3 * (l.order p.root).slots) ≡ b
    rule_is b e = sym (e ∙ (λ i. nat_le (4 * (keys_are floor base n client p s h i + tombstones_are floor base n client p s h i + 1)) (3 * 2 ^ log_of (sym h.root i))))

    module _ (opens : List ℕ) (c : Target) (w : Insertion) (adding_is : IsAdding l p opens c w) where
      pub about_nothing : nat_lt (keys_now l p) most ≡ false → (x : Step) → action l p (entry opens x) ≡ nothing
      about_nothing full x = adding_is x ∙ ap (λ (b : Bool). cond b (goes_in l p c w (word_of x)) nothing) full

      pub about_in : nat_lt (keys_now l p) most ≡ true → (x : Step) → action l p (entry opens x) ≡ goes_in l p c w (word_of x)
      about_in fits x = adding_is x ∙ ap (λ (b : Bool). cond b (goes_in l p c w (word_of x)) nothing) fits

    pub about_insert : (opens : List ℕ) (w : Insertion) → IsAdding l p opens empty w → nat_lt (keys_now l p) most ≡ true → (b : Bool) → b ≡ nat_le (4 * (s.keys + s.tombstones + 1)) (3 * 2 ^ log_of s.root) → b ≡ true → (x : Step) → action l p (entry opens x) ≡ inserts empty w
    about_insert opens w adding_is fits b e on x = about_in opens empty w adding_is fits x ∙ ap (λ (z : Bool). cond z (inserts empty w) (begins_rebuild (root_at l p (word_of x) (rebuilt_log (log_of p.root) (keys_now l p))))) (rule_is b e ∙ on)

    pub about_reuse : (opens : List ℕ) (w : Insertion) → IsAdding l p opens reuse w → nat_lt (keys_now l p) most ≡ true → (x : Step) → action l p (entry opens x) ≡ inserts reuse w
    about_reuse opens w adding_is fits x = about_in opens reuse w adding_is fits x

-- what a call is about, by its plan
module _ (l : Layout) (p : WriterState) (idles : p.stage ≡ idle) (key value : ℕ) (plan : Plan) (is : plan_now l p key ≡ plan) where
  pub set_is : (opens : List ℕ) → opens ≡ setting ∷ key ∷ value ∷ [] → (x : Step) → action l p (entry opens x) ≡ to_set l p plan key value (word_of x)
  set_is opens e x = ap (λ (os : List ℕ). action l p (entry os x)) e ∙ (ap (λ (g : Stage). by_stage l p g (entry (setting ∷ key ∷ value ∷ []) x)) idles ∙ ap (λ (q : Plan). to_set l p q key value (word_of x)) is)

  pub put_is : (opens : List ℕ) → opens ≡ putting ∷ key ∷ value ∷ [] → (x : Step) → action l p (entry opens x) ≡ to_put l p plan key value (word_of x)
  put_is opens e x = ap (λ (os : List ℕ). action l p (entry os x)) e ∙ (ap (λ (g : Stage). by_stage l p g (entry (putting ∷ key ∷ value ∷ []) x)) idles ∙ ap (λ (q : Plan). to_put l p q key value (word_of x)) is)

  pub remove_is : (opens : List ℕ) → opens ≡ removing ∷ key ∷ [] → (x : Step) → action l p (entry opens x) ≡ to_remove l p plan key
  remove_is opens e x = ap (λ (os : List ℕ). action l p (entry os x)) e ∙ (ap (λ (g : Stage). by_stage l p g (entry (removing ∷ key ∷ []) x)) idles ∙ ap (λ (q : Plan). to_remove l p q key) is)

  -- a fresh key of either call takes a tombstone
  pub reuses_stored : (keeps : Bool) (at : ℕ) → plan ≡ Reuse at → (opens : List ℕ) → opens ≡ storing keeps key value → IsAdding l p opens reuse (record { key = key; number = value; to = at })
  reuses_stored true at case opens e x = put_is opens e x ∙ ap (λ (q : Plan). to_put l p q key value (word_of x)) case
  reuses_stored false at case opens e x = set_is opens e x ∙ ap (λ (q : Plan). to_set l p q key value (word_of x)) case

-- after a rebuild these calls go on, and put their fresh key in
pub stored_goes_on : (keeps : Bool) (key value : ℕ) (l : Layout) → GoesOnAfter l (storing keeps key value)
stored_goes_on true key value l q = refl
stored_goes_on false key value l q = refl

pub adds_stored : (keeps : Bool) (key value : ℕ) → AddsFresh (storing keeps key value) key value
adds_stored true key value l p at planned word = ap (λ (q : Plan). to_put l p q key value word) planned
adds_stored false key value l p at planned word = ap (λ (q : Plan). to_set l p q key value word) planned

-- the key of a plan stands in this slot, and what holds of both such plans
abbrev pub IsFound : ℕ → Plan → Type 0
IsFound at plan = (plan ≡ Stand at) ⊎ ((to : ℕ) × (plan ≡ Move to at))

pub by_found : (P : Plan → Type 0) (at : ℕ) → P (Stand at) → ((to : ℕ) → P (Move to at)) → (plan : Plan) → IsFound at plan → P plan
by_found P at stand move plan = ⊎_elim (λ (e : plan ≡ Stand at). subst P (sym e) stand) (λ (m : (to : ℕ) × (plan ≡ Move to at)). subst P (sym m.1) (move m.0))

-- which of the two it is
pub found_move : (at : ℕ) (plan : Plan) → IsFound at plan → (to from : ℕ) → plan ≡ Move to from → plan ≡ Move to at
found_move at plan found to from is = ⊎_elim (λ (e : plan ≡ Stand at). absurd cc) (λ (m : (slot : ℕ) × (plan ≡ Move slot at)). let e = m.1 in cc) found

pub found_stand : (at : ℕ) (plan : Plan) → IsFound at plan → ((to from : ℕ) → plan ≡ Move to from → ⊥) → plan ≡ Stand at
found_stand at plan found stays = ⊎_elim (λ (e : plan ≡ Stand at). e) (λ (m : (to : ℕ) × (plan ≡ Move to at)). absurd (stays m.0 at m.1)) found

-- it is missing
abbrev pub IsMissing : Plan → Type 0
IsMissing plan = ((at : ℕ) × (plan ≡ Empty at)) ⊎ ((at : ℕ) × (plan ≡ Reuse at))

pub by_missing : (P : Plan → Type 0) → ((at : ℕ) → P (Empty at)) → ((at : ℕ) → P (Reuse at)) → (plan : Plan) → IsMissing plan → P plan
by_missing P takes reuses plan = ⊎_elim (λ (m : (at : ℕ) × (plan ≡ Empty at)). subst P (sym m.1) (takes m.0)) (λ (m : (at : ℕ) × (plan ≡ Reuse at)). subst P (sym m.1) (reuses m.0))

-- a call that made the steps of its plan had no rebuild due
module _ (l : Layout) (p : WriterState) (key value : ℕ) (plan : Plan) (ss : List Step) (due : IsRebuildDue l p plan) where
  not_due : InsertSteps l p key value due.slot ss → ⊥
  not_due are = due.full (subst (λ (b : Bool). MatchBool b (IsRoomy l p × (ss ≡ insert_steps l p.root due.slot key value)) (Asks l ss)) due.room are).0

  pub not_due_set : SetSteps l p key value plan ss → ⊥
  not_due_set are = not_due (subst (λ (q : Plan). SetSteps l p key value q ss) due.fresh are)

  pub not_due_put : PutSteps l p key value plan ss → ⊥
  not_due_put are = not_due (subst (λ (q : Plan). PutSteps l p key value q ss) due.fresh are)
