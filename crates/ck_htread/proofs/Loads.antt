-- A load within a look: that the table allows it, and where it leaves the pass.
use Rattle.std.proofs.Common.{◌≡◌, ℕ, ◌+◌, ◌<◌, ◌≤◌, le_refl, Bool, true, false, cond, ◌&&◌, inl, List, [], ◌∷◌, ◌++◌, append-nil, refl, sym, ap, ◌∙◌, subst}
use Rattle.ck_run.specs.declared.account.Step.TheVariants.{Load}
use Rattle.ck_run.specs.declared.account.Entry.{Entry}
use Rattle.ck_run.specs.declared.account.Account.{Account}
use Rattle.ck_run.specs.Run.{entry, further}
use Rattle.ck_run.specs.Rule.{unused}
use Rattle.ck_run.specs.Machine.{state_after}
use Rattle.ck_run.specs.Tokens.{adding, did, number, origin}
use Rattle.ck_run.proofs.Accounts.{account_grown}
use Rattle.ck_run.proofs.Law.{obeys_append}
use Rattle.ck_run.proofs.Moments.{part_follows}
use Rattle.ck_epoch.specs.State.{Origin, Token, base_of}
use Rattle.ck_epoch.specs.Client.{program}
use Rattle.ck_epoch.specs.Ends.{IsDomainToken}
use Rattle.ck_epoch.specs.Calls.{MayFollow}
use Rattle.ck_epoch.specs.Within.{IsWithin}
use Rattle.ck_run.specs.Machine.{grow}
use Rattle.ck_htlaw.specs.Calls.{is_single_load, key_of}
use Rattle.ck_htlaw.specs.Actions.{action}
use Rattle.ck_htlaw.specs.Look.{LookState, no_look, at_version, at_state, at_low, at_high, at_value, checking_value, checking_absence}
use Rattle.ck_htlaw.specs.Table.{Layout, ReaderState, LocalState, writer, reader, is_table_word, after_look_step, after_other, after_own, MayLookStep, MayLook, MayIf, LooksOn}
use Rattle.ck_htlaw.specs.Client.{Answers, look_ends, looks_next, start, table_next, table_may, local_after, TakesFree, table}
use Rattle.ck_htlaw.proofs.Tokens.{local_after_all, is_inside, knows_next}
use Rattle.ck_htread.specs.Reading.{IsInLook, IsDueAt, state_then, LookTotals, totals_after_load, IsInState}
use Rattle.ck_htlaw.specs.Host.{Host, inner, lies}
use Rattle.ck_htlaw.specs.Known.{knows}

-- where a load leaves a reader within a look
reader_goes : (l : Layout) (root : ℕ) (d : LookTotals) (look_state : LookState) (key w x : ℕ) → IsInLook look_state
    → after_look_step l (record { root = root; look_state = look_state; retries = d.retries }) key look_state (Load w x) ≡ record { root = root; look_state = state_then (l.order root) look_state x; retries = (totals_after_load d look_state x).retries }
reader_goes l root d no_look key w x h = absurd h
reader_goes l root d (at_version k) key w x h = refl
reader_goes l root d (at_state k c i) key w x h = refl
reader_goes l root d (at_low k c i) key w x h = refl
reader_goes l root d (at_high k c i y) key w x h = refl
reader_goes l root d (at_value k c i) key w x h = refl
reader_goes l root d (checking_value k c y) key w x h = refl
reader_goes l root d (checking_absence k c) key w x h = refl

ends_as_counted : (d : LookTotals) (look_state : LookState) (w x : ℕ) → d.looks ++ look_ends look_state (Load w x) ≡ (totals_after_load d look_state x).looks
ends_as_counted d no_look w x = append-nil d.looks
ends_as_counted d (at_version k) w x = append-nil d.looks
ends_as_counted d (at_state k c i) w x = append-nil d.looks
ends_as_counted d (at_low k c i) w x = append-nil d.looks
ends_as_counted d (at_high k c i y) w x = append-nil d.looks
ends_as_counted d (at_value k c i) w x = append-nil d.looks
ends_as_counted d (checking_value k c y) w x = refl
ends_as_counted d (checking_absence k c) w x = refl

goes_on : (look_state : LookState) → IsInLook look_state → LooksOn look_state []
goes_on no_look h = absurd h
goes_on (at_version k) h = refl
goes_on (at_state k c i) h = refl
goes_on (at_low k c i) h = refl
goes_on (at_high k c i y) h = refl
goes_on (at_value k c i) h = refl
goes_on (checking_value k c y) h = refl
goes_on (checking_absence k c) h = refl

module _ {D : Type 0} (host : Host D) (o : Origin D) where
  abbrev l : Layout
  l = lies host o

  -- a step on one of the table's words that its program lets a reader make
  pub may_read : IsWithin table host.client host.place host.part → (t : Token D) → origin t ≡ o → IsDomainToken host.client t → (y : ReaderState) → (knows host o t).local ≡ reader y → (opens : List ℕ) (w n : ℕ)
      → is_single_load opens ≡ false → MayLookStep l y.root y.look_state (Load w n) → LooksOn y.look_state opens → l.base ≤ w → w < l.base + l.size → MayFollow host.client t (entry opens (Load w n))
  may_read h t same run y local opens w n lone due on low high =
      let e : Entry = entry opens (Load w n) in
      let first : ℕ = base_of o + host.place o.config.client in
      let f : host.client.follows (base_of o) o (number t) (did t) = subst (λ (p : Origin D). host.client.follows (base_of p) p (number t) (did t)) same (part_follows (program host.client) (origin t) t.view.own run).3 in
      let g : table.follows first (inner host o) (number t) (did t) = h.shows (base_of o) o (number t) (did t) f in
      let at : local_after l o.words (number t) (did t) ≡ reader y = sym (local_after_all l _ (did t)) ∙ local in
      let may : table_may l (local_after l o.words (number t) (did t)) e = subst (λ (a : LocalState). MayIf l (action l) key_of (is_table_word l e.step) a e) (sym at)
      (subst (λ (b : Bool). MayIf l (action l) key_of b (reader y) e) (sym (is_inside l e.step low high)) (subst (λ (b : Bool). MayLook l (action l) key_of b y e) (sym lone) (due, on))) in
      let takes : TakesFree first (inner host o) (state_after grow (unused (number t)) (did t)) e = subst (λ (a : Account). TakesFree first (inner host o) a e) (sym (account_grown (unused (number t)) (did t)))
      (λ p root is own taking. absurd (let z : reader y ≡ writer p = sym at ∙ is in cc)) in
      subst (λ (p : Origin D). host.client.follows (base_of p) p (number t) (did t ++ e ∷ [])) (sym same)
      (h.lifts (base_of o) o (number t) (did t) e (le_refl (base_of o)) f (inl (low, high)) (
        obeys_append (table_next l) (table_may l) (start l o.words (number t)) (did t) (e ∷ []) g.0 (may, tt),
        obeys_append grow (TakesFree first (inner host o)) (unused (number t)) (did t) (e ∷ []) g.1 (takes, tt),
      ))

  pub may_load : IsWithin table host.client host.place host.part → (t : Token D) → origin t ≡ o → IsDomainToken host.client t → (root : ℕ) (look_state : LookState) (totals : LookTotals) → IsInState host o root look_state totals t → IsInLook look_state
      → (w n : ℕ) → IsDueAt l root look_state w → l.base ≤ w → w < l.base + l.size → MayFollow host.client t (further (Load w n))
  may_load h t same run root look_state totals at within w n due low high =
      may_read h t same run (record { root = root; look_state = look_state; retries = totals.retries }) at.local [] w n refl (due n) (goes_on look_state within) low high

  pub loads : (t u : Token D) (root : ℕ) (look_state : LookState) (totals : LookTotals) (w x : ℕ) → l.base ≤ w → w < l.base + l.size → u ≡ adding t (further (Load w x) ∷ [])
      → IsInState host o root look_state totals t → IsInLook look_state → IsInState host o root (state_then (l.order root) look_state x) (totals_after_load totals look_state x) u
  loads t u root look_state totals w x low high made at within =
      let e : Entry = further (Load w x) in
      let own : is_table_word l e.step ≡ true = is_inside l e.step low high in
      let y : ReaderState = record { root = root; look_state = look_state; retries = totals.retries } in
      let goes = reader_goes l root totals look_state (key_of []) w x within in
      let after = knows_next host o t u e made in
      record {
        local = ap (λ (a : Answers). a.local) after
            ∙ (ap (λ (a : LocalState). table_next l a e) at.local
            ∙ (ap (λ (b : Bool). cond b (after_own l (action l) key_of (reader y) e) (after_other l (reader y) e)) own ∙ ap reader goes));
        looks = ap (λ (a : Answers). a.looks) after
            ∙ (λ i. at.looks i ++ looks_next l (at.local i) e)
            ∙ (ap (λ (b : Bool). totals.looks ++ cond (b && true) (look_ends look_state (Load w x)) []) own ∙ ends_as_counted totals look_state w x);
      }
