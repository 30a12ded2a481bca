-- The load by which the writer retires an item.
use Rattle.std.proofs.Common.{◌≡◌, ℕ, ◌+◌, ◌<◌, ◌^◌, inl, Bool, true, cond, nat_lt, List, [], ◌∷◌, ◌++◌, length, Contains, refl, sym, ap, ◌∙◌, subst, arith}
use Rattle.std.proofs.lemmas.List.{map-append, length_push, get_or_push}
use Rattle.std.proofs.lemmas.List.Elements.{All-push}
use Rattle.std.proofs.lemmas.Bool.Decides.{nat_tests}
use Rattle.ck_run.specs.declared.account.Step.TheVariants.{Load}
use Rattle.ck_run.specs.declared.account.Entry.{Entry}
use Rattle.ck_run.specs.Run.{handing}
use Rattle.ck_run.specs.Tokens.{adding, origin, MayMake}
use Rattle.ck_run.proofs.Moments.{origin_stays, number_stays}
use Rattle.ck_words.specs.declared.back.Back.{Back}
use Rattle.ck_epoch.specs.declared.item.Item.{Item}
use Rattle.ck_epoch.specs.declared.item.Retired.{Retired}
use Rattle.ck_epoch.specs.State.{Origin, Token, TokenState, Stage, free, base, records_of, Retirement, retirement, queue, after_step, MayStep, state}
use Rattle.ck_epoch.specs.Lists.{Backlog, AreListsOf, AreRetired}
use Rattle.ck_epoch.proofs.Emptying.{IsPut, lists_more}
use Rattle.ck_epoch.specs.Client.{Client, program}
use Rattle.ck_epoch.specs.Ends.{Writer, IsWriting, IsWriter}
use Rattle.ck_epoch.specs.Calls.{MayFollow}
use Rattle.ck_epoch.proofs.Stepping.{Steps, may_step, state_after_step, writer_loads}

pub lt_first : (R : ℕ) → nat_lt 0 (base R) ≡ true
lt_first R = let b : 0 < base R = omega arith in grind (arith, nat_tests)

-- the token after the load that hands the item over and finds the global epoch
abbrev pub loaded : {C : Type 0} → List ℕ → Item → Token C → Token C
loaded opens i t = adding t (handing opens (i.at ∷ i.log ∷ []) (Load 0 (state t).epoch) ∷ [])

-- a writer as contracts see it, of equal parts
pub closed : {C F : Type 0} (u v : Token C) (waiting waiting' : List Back) (room room' : ℕ) (calls : ℕ) (handler : F) (tally : ℕ) → u ≡ v → waiting ≡ waiting' → room ≡ room'
    → ◌≡◌ {A = Writer C F} (record { token = u; calls = calls; waiting = waiting; room = room; handler = handler; tally = tally })
    (record { token = v; calls = calls; waiting = waiting'; room = room'; handler = handler; tally = tally })
closed u v waiting waiting' room room' calls handler tally e f g = λ i. record { token = e i; calls = calls; waiting = f i; room = g i; handler = handler; tally = tally }

module _ {C : Type 0} (client : Client C) (t : Token C) (b : Backlog) (inv : IsWriter client t b) (few : (state t).calls < 2 ^ 40) (i : Item) (opens : List ℕ) where
  abbrev hands : ℕ → Entry
  hands n = handing opens (i.at ∷ i.log ∷ []) (Load 0 n)

  pub may_retire : (n : ℕ) → (IsWriting client t → MayFollow client t (hands n)) → MayMake (program client) t (hands n)
  may_retire n follows = may_step client t (hands n) inv.part
      (subst (λ (g : Stage). MayStep (records_of (origin t)) (state t) opens (i.at ∷ i.log ∷ []) g (Load 0 n)) (sym inv.stage) (inl (refl, few, inl (i.at, i.log, refl))))
      (λ other. absurd (let z = inv.first in omega arith))
      (follows (record { part = inv.part; first = inv.first }))

  module _ (u : Token C) (n : ℕ) (made : Steps client t (hands n) u) where
    abbrev retires : TokenState
    retires = record (state t) { stage = free; calls = (state t).calls + 1; pending = (state t).pending ++ retirement (state t).steps i.at i.log n ∷ []; steps = (state t).steps + 1 }

    retired_state : state u ≡ retires
    retired_state = state_after_step client t u (hands n) made
        ∙ (ap (λ (g : Stage). record (after_step (records_of (origin t)) (state t) opens (i.at ∷ i.log ∷ []) g (Load 0 n)) { steps = (state t).steps + 1 }) inv.stage
        ∙ ap (λ (c : Bool). record (cond c (record (state t) { stage = free; calls = (state t).calls + 1; pending = (state t).pending ++ retirement (state t).steps i.at i.log n ∷ [] }) (state t)) { steps = (state t).steps + 1 })
        (lt_first (records_of (origin t))))

    pub finds_epoch : n ≡ (state t).epoch
    finds_epoch = writer_loads client t u (hands n) n inv.part inv.first made refl

    pub queued : queue (state u).pending ≡ queue (state t).pending ++ record { item = i; epoch = n } ∷ []
    queued = ap (λ (s : TokenState). queue s.pending) retired_state ∙ map-append (λ (k : Retirement). k.retired) (state t).pending (retirement (state t).steps i.at i.log n ∷ [])

    -- it is pending now
    pub is_pending : Contains (queue (state u).pending) (record { item = i; epoch = n })
    is_pending = let before = queue (state t).pending in let r : Retired = record { item = i; epoch = n } in
        subst (λ (xs : List Retired). Contains xs r) (sym queued) (length before, (let z = length_push before r in omega arith), get_or_push before r r (length before) refl)

    pub retired_dispatched : (state u).dispatched ≡ (state t).dispatched
    retired_dispatched = ap (λ (s : TokenState). s.dispatched) retired_state

    pub retired_epoch : (state u).epoch ≡ (state t).epoch
    retired_epoch = ap (λ (s : TokenState). s.epoch) retired_state

    pub retired_calls : (state u).calls ≡ (state t).calls + 1
    retired_calls = ap (λ (s : TokenState). s.calls) retired_state

    pub retired : (b' : Backlog) → IsPut (record { item = i; epoch = n }) b.lists b'.lists → client.retires (origin t).config.client i ≡ true → IsWriter client u b'
    retired b' is may = record {
      part = made.1;
      first = number_stays (program client) t u (hands n) made ∙ inv.first;
      stage = ap (λ (s : TokenState). s.stage) retired_state;
      pending = subst (AreListsOf b'.lists) (sym queued) (lists_more (record { item = i; epoch = n }) b.lists b'.lists (queue (state t).pending) inv.pending is);
      retired = subst (AreRetired (client.retires (origin u).config.client)) (sym queued)
          (subst (λ (o : Origin C). AreRetired (client.retires o.config.client) (queue (state t).pending ++ record { item = i; epoch = n } ∷ [])) (sym (origin_stays (program client) t u (hands n) made))
          (All-push (λ (r : Retired). client.retires (origin t).config.client r.item ≡ true) (queue (state t).pending) (record { item = i; epoch = n }) inv.retired may));
    }
