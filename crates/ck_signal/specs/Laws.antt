-- A client with signals keeps the laws of a client, and what is within the client inside is within it. These are proofs, and stand here
-- because a ghost member of an `impl` cites only its own crate's specs.
use Rattle.std.proofs.Common.{ℕ, ◌+◌, ◌<◌, ◌≤◌, ⊎_elim, inl, inr, Bool, ◌&&◌, cond, List, [], ◌∷◌, ◌++◌, ap, ◌∙◌, arith}
use Rattle.std.proofs.lemmas.Bool.{lt-ltb}
use Rattle.ck_run.specs.declared.account.Entry.{Entry}
use Rattle.ck_run.specs.Rule.{unused}
use Rattle.ck_run.specs.Machine.{grow}
use Rattle.ck_run.specs.Range.{word_of}
use Rattle.ck_run.proofs.Law.{obeys_append}
use Rattle.ck_epoch.specs.State.{Origin, base_of}
use Rattle.ck_epoch.specs.Client.{Client, Starts, Passes, LogGrows, AnsweredRises}
use Rattle.ck_epoch.specs.Within.{IsWithin}
use Rattle.ck_signal.specs.declared.signals.Signals.{Signals}
use Rattle.ck_signal.specs.Signals.{inside, own_size, IsSignal, MaySignal, signals}

longer : (place size own records at : ℕ) → at < size → place + size ≤ own → place + at < own
longer place size own records at low fits = omega arith

module _ {C : Type 0} (client : Client C) where
  -- a step that isn't on a signal word
  pub goes_on : (first : ℕ) (origin : Origin (Signals C)) (n : ℕ) (es : List Entry) (e : Entry) → (IsSignal client first origin e → ⊥)
      → (signals client).follows first origin n es → client.follows first (inside origin) n (es ++ e ∷ []) → (signals client).follows first origin n (es ++ e ∷ [])
  goes_on first origin n es e else f may = (may, obeys_append grow (MaySignal client first origin) (unused n) es (e ∷ []) f.1 (λ s. absurd (else s), tt))

  pub starts : Starts client → Starts (signals client)
  starts h first origin placed n =
      let c = origin.config.client in (
        h first (inside origin) (λ i low. placed i (omega arith) ∙ ap (λ (b : Bool). cond b (client.first c.client i) 0) (lt-ltb i (client.size c.client) low)) n,
        tt,
      )

  pub passes : Passes client → Passes (signals client)
  passes h first origin n es e f others =
      let size = own_size client origin in
      goes_on first origin n es e
      (λ s. ⊎_elim (λ (low : word_of e.step < first). omega arith) (λ (high : first + (signals client).size origin.config.client ≤ word_of e.step). omega arith) others.0) f
      (h first (inside origin) n es e f.0 (
        ⊎_elim (λ (low : word_of e.step < first). inl low) (λ (high : first + (signals client).size origin.config.client ≤ word_of e.step). inr (omega arith)) others.0,
        (λ at log is. ⊎_elim (λ (low : base_of origin + at < first). inl low) (λ (high : first + (signals client).size origin.config.client ≤ base_of origin + at). inr (omega arith)) (others.1 at log is)),
      ))

  pub grows : LogGrows client → LogGrows (signals client)
  grows h first origin es e = h first (inside origin) es e

  pub rises : AnsweredRises client → AnsweredRises (signals client)
  rises h first origin es e = h first (inside origin) es e

module _ {C D : Type 0} (small : Client C) (large : Client D) (place : D → ℕ) (part : D → C) where
  pub within : IsWithin small large place part → IsWithin small (signals large) (λ c. place c.client) (λ c. part c.client)
  within h = record {
    fits = λ d. let fits = h.fits d.client in omega arith;
    first = λ d at low. ap (λ (b : Bool). cond b (large.first d.client (place d.client + at)) 0) (lt-ltb _ _ (let fits = h.fits d.client in omega arith)) ∙ h.first d.client at low;
    guarded = λ d at low. ap (λ (b : Bool). b && large.guarded d.client (place d.client + at)) (lt-ltb _ _ (let fits = h.fits d.client in omega arith)) ∙ h.guarded d.client at low;
    retires = λ d i may. h.retires d.client i may;
    home = λ d i may. h.home d.client i may;
    shows = λ first origin n es f. h.shows first (inside origin) n es f.0;
    lifts = λ first origin n es e low f own may.
        let fits = h.fits origin.config.client.client in
        goes_on large first origin n es e (λ s. ⊎_elim (λ w. omega arith) (λ w. omega arith) own) f (h.lifts first (inside origin) n es e low f.0 own may);
  }
