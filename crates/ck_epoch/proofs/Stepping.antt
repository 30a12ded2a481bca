-- A step of a token of a domain: when the domain and its client allow it, and where it leaves the token.
use Rattle.std.proofs.Common.{◌≡◌, ℕ, suc, ◌+◌, ◌^◌, ◌<◌, ◌≤◌, List, [], ◌∷◌, refl, sym, ap, ◌∙◌, subst, arith, inl}
use Rattle.ck_run.specs.declared.account.Entry.{Entry}
use Rattle.ck_run.specs.declared.account.Step.{Step}
use Rattle.ck_run.specs.declared.account.Step.TheVariants.{Load, Exchange}
use Rattle.ck_run.specs.Range.{word_of}
use Rattle.ck_run.specs.Machine.{IsAt, follows_of}
use Rattle.ck_run.specs.Tokens.{did, number, origin, MayMake, Makes}
use Rattle.ck_run.proofs.Law.{state-append, obeys_append}
use Rattle.ck_run.proofs.Moments.{part_weaker, part_follows}
use Rattle.ck_epoch.specs.State.{Origin, IsOpening, Token, TokenState, Stage, MayStep, after_step, base_of, records_of, epochs, next, May, state}
use Rattle.ck_epoch.specs.Client.{Client, Passes, IsGuarded, program}
use Rattle.ck_epoch.specs.Ends.{IsDomainToken}
use Rattle.ck_epoch.specs.Calls.{MayFollow}
use Rattle.ck_epoch.specs.Held.{IsWriterHeld}
use Rattle.ck_epoch.proofs.Moments.{sees, writer_knows, loads_global, finds_global}

-- what a token counts is below the most where what its owner counts is
pub few_calls : {A : Type 0} (calls : A → ℕ) {x y : A} {n : ℕ} → x ≡ y → n ≤ calls x → calls y < 2 ^ 40 → n < 2 ^ 40
few_calls calls same counts few = let e = ap calls same in omega arith

module _ {C : Type 0} (client : Client C) where
  abbrev pub Steps : Token C → Entry → Token C → Type 0
  Steps t e u = Makes (program client) t e u

  allowed : (t : Token C) → IsDomainToken client t → program client (origin t) (number t) (did t)
  allowed t p = part_follows (program client) (origin t) t.view.own p

  -- how the domain began
  pub opened : (t : Token C) → IsDomainToken client t → IsOpening (origin t)
  opened t p = (allowed t p).0.0

  -- A step that the calls allow at the state, and the client after the steps before it
  pub may_step : (t : Token C) (e : Entry) → IsDomainToken client t → May (records_of (origin t)) (state t) e → (0 < number t → IsGuarded client (origin t) (state t) e) → MayFollow client t e
      → MayMake (program client) t e
  may_step t e p may guarded follows =
      let o = origin t in
      let n = number t in
      let f = allowed t p in (
        (f.0.0, obeys_append (epochs.next o) (epochs.Allows o) (epochs.start o n) (did t) (e ∷ []) f.0.1 (may, tt)),
        f.1,
        (λ other. obeys_append (epochs.next o) (IsGuarded client o) (epochs.start o n) (did t) (e ∷ []) (f.2 other) (guarded other, tt)),
        follows,
      )

  -- a step on the words of the epochs, which hands nothing over, is nothing to the client
  pub may_epochs : Passes client → (t : Token C) (opens : List ℕ) (s : Step) → IsDomainToken client t → word_of s < base_of (origin t)
      → May (records_of (origin t)) (state t) (record { opens = opens; item = []; step = s }) → MayMake (program client) t (record { opens = opens; item = []; step = s })
  may_epochs passes t opens s p low may =
      let o = origin t in
      let e : Entry = record { opens = opens; item = []; step = s } in
      may_step t e p may (λ other at found is. absurd (let a = ap word_of is in omega arith))
      (passes (base_of o) o (number t) (did t) e (allowed t p).3 (inl low, λ at log z. absurd cc))

  -- the same at a known stage
  pub may_at : Passes client → (t : Token C) (opens : List ℕ) (s : Step) (g : Stage) → IsDomainToken client t → word_of s < base_of (origin t) → (state t).stage ≡ g
      → MayStep (records_of (origin t)) (state t) opens [] g s → MayMake (program client) t (record { opens = opens; item = []; step = s })
  may_at passes t opens s g p low is may = may_epochs passes t opens s p low (subst (λ (h : Stage). MayStep (records_of (origin t)) (state t) opens [] h s) (sym is) may)

  -- the state goes on
  pub state_after_step : (t u : Token C) (e : Entry) → Steps t e u → state u ≡ next (records_of (origin t)) (state t) e
  state_after_step t u e made = ap state made.0 ∙ state-append (epochs.next (origin t)) (epochs.start (origin t) (number t)) (did t) (e ∷ [])

  -- from a known stage
  pub state_at_step : (t u : Token C) (e : Entry) (g : Stage) → Steps t e u → (state t).stage ≡ g
      → state u ≡ record (after_step (records_of (origin t)) (state t) e.opens e.item g e.step) { steps = (state t).steps + 1 }
  state_at_step t u e g made is = state_after_step t u e made
      ∙ ap (λ (h : Stage). record (after_step (records_of (origin t)) (state t) e.opens e.item h e.step) { steps = (state t).steps + 1 }) is

module _ {C : Type 0} (client : Client C) where
  weaker : (origin : Origin C) (n : ℕ) (es : List Entry) → program client origin n es → follows_of epochs origin n es
  weaker origin n es f = f.0

  -- the token as the epochs see it
  at_epochs : (t : Token C) → IsDomainToken client t → IsAt epochs t (state t)
  at_epochs t p = record { part = part_weaker (program client) (follows_of epochs) (origin t) t.view.own (weaker (origin t)) p; state = refl }

  -- what the law of epochs says of the writer between two of its steps
  pub writer_holds : (t : Token C) → IsDomainToken client t → number t ≡ 0 → (global : ℕ) × IsWriterHeld (records_of (origin t)) global (did t) (state t)
  writer_holds t p first = writer_knows t (state t) (at_epochs t p) first

  -- what it loads from the first word, or finds there, is the global epoch as it knows it
  pub writer_loads : (t u : Token C) (e : Entry) (found : ℕ) → IsDomainToken client t → number t ≡ 0 → Steps client t e u → e.step ≡ Load 0 found → found ≡ (state t).epoch
  writer_loads t u e found p first made is = loads_global t (state t) (at_epochs t p) first (program client) (weaker (origin t)) u e made found is

  pub writer_finds : (t u : Token C) (e : Entry) (expected new found : ℕ) → IsDomainToken client t → number t ≡ 0 → Steps client t e u → e.step ≡ Exchange 0 expected new found
      → found ≡ (state t).epoch
  writer_finds t u e expected new found p first made is = finds_global t (state t) (at_epochs t p) first (program client) (weaker (origin t)) u e made expected new found is

  -- a pass's record
  pub pass_holds : (t : Token C) (r : ℕ) → IsDomainToken client t → number t ≡ suc r → (state t).rec ≡ r
  pass_holds t r p is =
      let v = sees t (state t) (at_epochs t p) in
      ap (λ (s : TokenState). s.rec) (sym v.state) ∙ (ap (λ (n : ℕ). (v.at n).rec) is ∙ v.held.numbered r)
