-- A token of a domain whose client holds the array, and its steps.
use Rattle.std.proofs.Common.{◌≡◌, ℕ, ◌+◌, le_refl, Bool, true, false, cond, List, [], ◌∷◌, ◌++◌, refl, sym, ap, ◌∙◌, subst, arith}
use Rattle.ck_run.specs.declared.account.Entry.{Entry}
use Rattle.ck_run.specs.declared.account.Account.{Account}
use Rattle.ck_run.specs.Rule.{unused}
use Rattle.ck_run.specs.Machine.{state_after, grow}
use Rattle.ck_run.specs.Tokens.{adding, did, number, origin}
use Rattle.ck_run.proofs.Accounts.{account_grown}
use Rattle.ck_run.proofs.Law.{obeys_append, state-append}
use Rattle.ck_run.proofs.Moments.{part_follows}
use Rattle.ck_epoch.specs.State.{Origin, Token, base_of}
use Rattle.ck_epoch.specs.Client.{IsOwn, program}
use Rattle.ck_epoch.specs.Ends.{IsDomainToken}
use Rattle.ck_epoch.specs.Calls.{MayFollow}
use Rattle.ck_epoch.specs.Within.{IsWithin}
use Rattle.ck_arraylaw.specs.Host.{Host, floor_word, base_word, inner}
use Rattle.ck_arraylaw.specs.Array.{WriterState, ReaderState, LocalState, writer, reader, written, after_read, released_if, given_up, is_array_word, is_array_item, is_section, after_own, after_other, array_next, array_may}
use Rattle.ck_arraylaw.specs.Calls.{is_single_load}
use Rattle.ck_arraylaw.specs.Client.{array_start, TakesFree, array}
use Rattle.ck_arraylaw.specs.Known.{knows}

-- the writer's state stays one, and so does a reader's
module _ (floor base : ℕ) where
  stays : {T : Type 0} (of : T → LocalState) (own other : T → Entry → T) → ((t : T) (e : Entry) → after_own floor base (of t) e ≡ of (own t e)) → ((t : T) (e : Entry) → after_other floor base (of t) e ≡ of (other t e))
      → (t : T) (es : List Entry) → (u : T) × (state_after (array_next floor base) (of t) es ≡ of u)
  stays of own other on off t [] = (t, refl)
  stays {T} of own other on off t (e ∷ es) = let n = one (is_array_word floor base e.step) in let r = stays of own other on off n.0 es in (r.0, ap (λ (h : LocalState). state_after (array_next floor base) h es) n.1 ∙ r.1)
    where
      one : (b : Bool) → (u : T) × (cond b (after_own floor base (of t) e) (after_other floor base (of t) e) ≡ of u)
      one true = (own t e, on t e)
      one false = (other t e, off t e)

  pub writer_after : (p : WriterState) (es : List Entry) → (q : WriterState) × (state_after (array_next floor base) (writer p) es ≡ writer q)
  writer_after = stays writer (λ p e. written base p e.opens p.stage e.step) (λ p e. released_if floor base (is_array_item floor base e.item) p) (λ p e. refl) (λ p e. refl)

  pub reader_after : (y : ReaderState) (es : List Entry) → (z : ReaderState) × (state_after (array_next floor base) (reader y) es ≡ reader z)
  reader_after = stays reader (λ y e. after_read floor base (is_single_load e.opens) y e) (λ y e. given_up floor base (is_section floor base e.step) y) (λ y e. refl) (λ y e. refl)

module _ {D : Type 0} (h : Host D) (o : Origin D) where
  -- the word of the domain at which a word of the array lies
  pub word_is : (b c at : ℕ) → b ≡ c → c ≡ h.place o.config.client → base_of o + (b + at) ≡ base_word h o + at
  word_is b c at e f = omega arith

  -- what the token knows after one more step
  pub knows_next : (t u : Token D) (e : Entry) → u ≡ adding t (e ∷ []) → knows h o u ≡ array_next (floor_word h o) (base_word h o) (knows h o t) e
  knows_next t u e made = ap (λ (x : Token D). knows h o x) made ∙ state-append (array_next (floor_word h o) (base_word h o)) (array_start (number t)) (did t) (e ∷ [])

  -- a step of the array's that its program lets the token make
  pub may_step : IsWithin array h.client h.place h.part → (t : Token D) → origin t ≡ o → IsDomainToken h.client t → (e : Entry) → IsOwn array (base_word h o) (inner h o) e
      → array_may (floor_word h o) (base_word h o) (knows h o t) e → TakesFree (base_word h o) (inner h o) (record { number = number t; entries = did t }) e → MayFollow h.client t e
  may_step within t same part e own may takes =
      let f : h.client.follows (base_of o) o (number t) (did t) = subst (λ (p : Origin D). h.client.follows (base_of p) p (number t) (did t)) same (part_follows (program h.client) (origin t) t.view.own part).3 in
      let g : array.follows (base_word h o) (inner h o) (number t) (did t) = within.shows (base_of o) o (number t) (did t) f in
      let taken : TakesFree (base_word h o) (inner h o) (state_after grow (unused (number t)) (did t)) e = subst (λ (a : Account). TakesFree (base_word h o) (inner h o) a e) (sym (account_grown (unused (number t)) (did t))) takes in
      subst (λ (p : Origin D). h.client.follows (base_of p) p (number t) (did t ++ e ∷ [])) (sym same)
      (within.lifts (base_of o) o (number t) (did t) e (le_refl (base_of o)) f own (
        obeys_append (array_next (floor_word h o) (base_word h o)) (array_may (floor_word h o) (base_word h o)) (array_start (number t)) (did t) (e ∷ []) g.0 (may, tt),
        obeys_append grow (TakesFree (base_word h o) (inner h o)) (unused (number t)) (did t) (e ∷ []) g.1 (taken, tt),
      ))
