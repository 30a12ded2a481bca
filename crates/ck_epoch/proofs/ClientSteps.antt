-- A step on a word of the client's, by a token between two calls, leaves the epochs as they are.
use Rattle.std.proofs.Common.{◌≡◌, ℕ, zero, suc, ◌+◌, ◌<◌, ◌≤◌, inr, Bool, true, false, cond, nat_lt, List, [], refl, sym, ap, ◌∙◌, subst, arith}
use Rattle.std.proofs.lemmas.Bool.Decides.{nat_tests}
use Rattle.ck_run.specs.declared.account.Step.{Step}
use Rattle.ck_run.specs.declared.account.Step.TheVariants.{Load, Store, Exchange}
use Rattle.ck_run.specs.Run.{entry}
use Rattle.ck_run.specs.Tokens.{Table, table, number, origin, MayMake}
use Rattle.ck_epoch.specs.declared.about.About.{About}
use Rattle.ck_epoch.specs.State.{Origin, Token, TokenState, Stage, outside, inside, free, base, base_of, records_of, at_depth, after_step, MayStep, state, depth}
use Rattle.ck_epoch.specs.Lists.{Backlog}
use Rattle.ck_epoch.specs.Client.{Client, IsGuarded, program}
use Rattle.ck_epoch.specs.Ends.{IsDomainToken, IsWriting, IsReading, IsWriter, IsPass}
use Rattle.ck_epoch.specs.Calls.{MayFollow}
use Rattle.ck_epoch.proofs.Stepping.{Steps, may_step, state_after_step}

lt_no : (a b : ℕ) → b ≤ a → nat_lt a b ≡ false
lt_no a b l = grind (arith, nat_tests)

-- between two calls
abbrev IsResting : Stage → Type 0
IsResting outside = Unit {0}
IsResting (inside d g) = Unit {0}
IsResting free = Unit {0}
IsResting g = ⊥

-- a load or a store of the word w
abbrev IsOn : ℕ → Step → Type 0
IsOn w (Load at n) = at ≡ w
IsOn w (Store at n) = at ≡ w
IsOn w (Exchange at old new found) = ⊥

on_word : (s : Step) (k found w : ℕ) → s ≡ Load k found → IsOn w s → k ≡ w
on_word s k found w is on = subst (IsOn w) is on

module _ (R w : ℕ) (high : base R ≤ w) (t : TokenState) (opens : List ℕ) where
  may_rest : (g : Stage) (s : Step) → IsResting g → IsOn w s → MayStep R t opens [] g s
  may_rest outside (Load at n) r e = (let z = e in omega arith, refl)
  may_rest outside (Store at n) r e = inr (let z = e in omega arith, refl)
  may_rest (inside d g) (Load at n) r e = (let z = e in omega arith, refl)
  may_rest (inside d g) (Store at n) r e = inr (let z = e in omega arith, refl)
  may_rest free (Load at n) r e = inr (let z = e in omega arith, refl)
  may_rest free (Store at n) r e = (let z = e in omega arith, refl)
  may_rest g (Exchange at old new found) r e = absurd e
  may_rest g s r e = absurd r

  elsewhere : (A : TokenState) (at : ℕ) → at ≡ w → cond (nat_lt at (base R)) A t ≡ t
  elsewhere A at e = ap (λ (b : Bool). cond b A t) (lt_no at (base R) (let z = e in omega arith))

  rests : (g : Stage) (s : Step) → IsResting g → IsOn w s → after_step R t opens [] g s ≡ t
  rests outside (Load at n) r e = refl
  rests outside (Store at n) r e = elsewhere _ at e
  rests (inside d g) (Load at n) r e = refl
  rests (inside d g) (Store at n) r e = elsewhere _ at e
  rests free (Load at n) r e = elsewhere _ at e
  rests free (Store at n) r e = refl
  rests g (Exchange at old new found) r e = absurd e
  rests g s r e = absurd r

module _ {C : Type 0} (client : Client C) (t : Token C) (part : IsDomainToken client t) (resting : IsResting (state t).stage) (opens : List ℕ) (s : Step) (w : ℕ) (on : IsOn w s) (high : base_of (origin t) ≤ w) where
  may_client : (0 < number t → IsGuarded client (origin t) (state t) (entry opens s)) → MayFollow client t (entry opens s) → MayMake (program client) t (entry opens s)
  may_client guarded follows = may_step client t (entry opens s) part (may_rest (records_of (origin t)) w high (state t) opens (state t).stage s resting on) guarded follows

  client_state : (u : Token C) → Steps client t (entry opens s) u → state u ≡ record (state t) { steps = (state t).steps + 1 }
  client_state u made = state_after_step client t u (entry opens s) made
      ∙ ap (λ (x : TokenState). record x { steps = (state t).steps + 1 }) (rests (records_of (origin t)) w high (state t) opens (state t).stage s resting on)

module _ {C : Type 0} (client : Client C) where
  -- the word at a place of the client, of what a domain keeps
  pub client_word : (d now : Table (About C)) (about : About C) (b at : ℕ) → b ≡ base about.records → d.origin.config ≡ about → d ≡ now → b + at ≡ base_of now.origin + at
  client_word d now about b at e told is = ap (λ (k : ℕ). k + at) (e ∙ (ap (λ (a : About C). base a.records) (sym told) ∙ ap (λ (x : Table (About C)). base_of x.origin) is))

  high_word : (t : Token C) (now : Table (About C)) (at w : ℕ) → table t ≡ now → w ≡ base_of now.origin + at → base_of (origin t) ≤ w
  high_word t now at w same e = let z = ap (λ (x : Table (About C)). base_of x.origin) same in omega arith

  -- A step of the writer's on the client's word at this place
  module _ (t : Token C) (b : Backlog) (inv : IsWriter client t b) (opens : List ℕ) (step : ℕ → Step) (on : (w : ℕ) → IsOn w (step w)) (now : Table (About C)) (at w : ℕ) (same : table t ≡ now)
      (w_is : w ≡ base_of now.origin + at) where
    high : base_of (origin t) ≤ w
    high = high_word t now at w same w_is

    is_writing : IsWriting client t
    is_writing = record { part = inv.part; first = inv.first }

    rests_free : IsResting (state t).stage
    rests_free = subst IsResting (sym inv.stage) tt

    pub may_ask : (IsWriting client t → MayFollow client t (entry opens (step (base_of now.origin + at)))) → MayMake (program client) t (entry opens (step w))
    may_ask follows = may_client client t inv.part rests_free opens (step w) w (on w) high
        (λ other. absurd (let z = inv.first in omega arith))
        (subst (λ (k : ℕ). MayFollow client t (entry opens (step k))) (sym w_is) (follows is_writing))

  -- the same of a pass, which loads a guarded word within a section alone
  module _ (t : Token C) (rec depth_ : ℕ) (inv : IsPass client t rec depth_) (opens : List ℕ) (step : ℕ → Step) (on : (w : ℕ) → IsOn w (step w)) (now : Table (About C)) (at w : ℕ) (same : table t ≡ now)
      (w_is : w ≡ base_of now.origin + at) where
    is_reading : IsReading client t
    is_reading = record { part = inv.part; rec = rec; other = inv.other; low = inv.low }

    rests_at : (d g : ℕ) → IsResting (at_depth d g)
    rests_at zero g = tt
    rests_at (suc d) g = tt

    resting : IsResting (state t).stage
    resting = subst IsResting (sym inv.stage.1) (rests_at depth_ inv.stage.0)

    pub may_read : ((k found : ℕ) → step w ≡ Load k found → client.guarded now.origin.config.client at ≡ true → 0 < depth t)
        → (IsReading client t → MayFollow client t (entry opens (step (base_of now.origin + at)))) → MayMake (program client) t (entry opens (step w))
    may_read section follows = may_client client t inv.part resting opens (step w) w (on w) (high_word t now at w same w_is)
        (λ other k found is guarded. section (base_of (origin t) + k) found is (subst (λ (j : ℕ). client.guarded now.origin.config.client j ≡ true) (same_place k found is) (subst (λ (o : Origin C). client.guarded o.config.client k ≡ true) (ap (λ (x : Table (About C)). x.origin) same) guarded)))
        (subst (λ (k : ℕ). MayFollow client t (entry opens (step k))) (sym w_is) (follows is_reading))
      where
        same_place : (k found : ℕ) → step w ≡ Load (base_of (origin t) + k) found → k ≡ at
        same_place k found is = let e = on_word (step w) (base_of (origin t) + k) found w is (on w) in let z = ap (λ (x : Table (About C)). base_of x.origin) same in omega arith
