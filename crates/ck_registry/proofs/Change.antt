-- A step of one visitor: what of it is to be shown, so that a registry is held after it.
use Rattle.std.proofs.Common.{◌≡◌, ◌≢◌, ℕ, zero, suc, ◌+◌, ◌<◌, ◌≤◌, ◌⊎◌, ⊎_elim, List, [], ◌∷◌, ◌++◌, length, length-append, All, get_or, refl, sym, ap, ◌∙◌, subst, arith}
use mathlib.Core.Logic.{dite}
use native.Mathlib.Decide.{ℕ_discrete}
use Rattle.ck_run.specs.declared.account.Entry.{Entry}
use Rattle.ck_run.specs.Run.{Run, account, index_in}
use Rattle.ck_run.specs.Machine.{moved}
use Rattle.ck_run.proofs.Law.{moved_here, moved_else}
use Rattle.ck_run.proofs.Runs.{account_here, account_else, count, index_stays, index_below}
use Rattle.ck_epoch.specs.State.{active_word, epoch_word, Stage, Retirement, inside}
use Rattle.ck_epoch.specs.Held.{active_of, IsTimely, IsAtGlobal}
use Rattle.ck_epoch.proofs.Timely.{idle_current, own_current}
use Rattle.ck_registry.specs.State.{state_word, Activity, passing, checking, ready, TokenState, IsMember}
use Rattle.ck_registry.specs.Epochs.{IsSectionOpen, HasPassed}
use Rattle.ck_registry.specs.Held.{IsSound, IsMemberScan, IsVisitorHeld, IsSectionGuarded, IsWithinSection, calls_below, AreMembersHeld}
use Rattle.ck_registry.proofs.OpenSections.{told, are_made}

-- the words of a record
abbrev pub S : ℕ → List ℕ → ℕ → ℕ
S records words r = get_or words (state_word records r) 0

abbrev pub A : List ℕ → ℕ → ℕ
A words r = get_or words (active_word r) 0

abbrev pub W : List ℕ → ℕ → ℕ
W words r = get_or words (epoch_word r) 0

scan_up : (records E E' : ℕ) → E ≤ E' → (a : Activity) → IsMemberScan records E a → IsMemberScan records E' a
scan_up records E E' up (passing e rec busy) h = let b = h.1 in (h.0, omega arith, h.2)
scan_up records E E' up (checking e rec busy) h = let b = h.1 in (h.0, omega arith, h.2)
scan_up records E E' up (ready e) h = let b = h.1 in (h.0, omega arith)
scan_up records E E' up a h = tt

-- what guards a section depends on the places of entries that have been made
pub guarded_along : (older older' : ℕ → Type 0) (r g steps : ℕ) (t : TokenState) → All (λ (k : Retirement). k.number < steps) t.pending → All (λ (k : Retirement). k.number < steps) t.dispatched
    → ((i : ℕ) → i < steps → older' i → older i) → IsSectionGuarded older r g t → IsSectionGuarded older' r g t
guarded_along older older' r g steps t made made' back h = record {
  pending = λ k d l o. h.pending k d l (back (get_or t.pending k d).number (made k d l) o);
  dispatched = λ k d l o. h.dispatched k d l (back (get_or t.dispatched k d).number (made' k d l) o);
  quiet = λ q k d l o. h.quiet q k d l (back (get_or t.pending k d).number (made k d l) o);
}

young_guarded : (older : ℕ → Type 0) (r g steps : ℕ) (t : TokenState) → All (λ (k : Retirement). k.number < steps) t.pending → All (λ (k : Retirement). k.number < steps) t.dispatched
    → ((i : ℕ) → i < steps → ¬ older i) → IsSectionGuarded older r g t
young_guarded older r g steps t made made' young = record {
  pending = λ k d l o. absurd (young (get_or t.pending k d).number (made k d l) o);
  dispatched = λ k d l o. young (get_or t.dispatched k d).number (made' k d l) o;
  quiet = λ q k d l o. young (get_or t.pending k d).number (made k d l) o;
}

-- the calls after a step of one visitor
same_below : (at : ℕ → TokenState) (n : ℕ) (u : TokenState) (k : ℕ) → k ≤ n → calls_below k (moved at n u) ≡ calls_below k at
same_below at n u zero l = refl
same_below at n u (suc k) l = let h = same_below at n u k (omega arith) in let m = ap (λ (t : TokenState). t.calls) (moved_else at n k u (λ z. absurd (omega arith))) in omega arith

sum_moves : (at : ℕ → TokenState) (n : ℕ) (u : TokenState) (k : ℕ) → n < k → calls_below k (moved at n u) + (at n).calls ≡ calls_below k at + u.calls
sum_moves at n u zero l = absurd (omega arith)
sum_moves at n u (suc k) l = dite (ℕ_discrete n k)
    (λ (e : n ≡ k). let h = same_below at n u k (omega arith) in let m = ap (λ (t : TokenState). t.calls) (moved_here at n k u e) in let z = ap (λ (i : ℕ). (at i).calls) e in omega arith)
    (λ (ne : n ≢ k). let h = sum_moves at n u k (omega arith) in let m = ap (λ (t : TokenState). t.calls) (moved_else at n k u ne) in omega arith)

module _ (records tokens : ℕ) (past : Run) (words : List ℕ) (at : ℕ → TokenState) (h : AreMembersHeld records tokens past words at) where
  abbrev pub E : ℕ
  E = get_or words 0 0

  -- what is known of an open section's record
  pub open_facts : (r o : ℕ) → r < records → IsSectionOpen past r o → (0 < A words r) × (W words r ≤ E) × (E ≤ W words r + 1)
  open_facts r o low is =
      let i = h.open_in r o low is in
      let n = i.0 in
      let m = (h.each n).member i.1.holds.0 in
      let d = i.1.depth in
      let g = i.1.epoch in
      let t : IsTimely E (W words (at n).rec) (inside d g) = subst (IsTimely E (W words (at n).rec)) i.1.section m.timely in
      let a : A words (at n).rec ≡ d = subst (λ (s : Stage). A words (at n).rec ≡ active_of s) i.1.section m.counted in
      let t0 = t.0 in
      let t1 = t.1 in
      let t2 = t.2 in
      let t3 = t.3 in
      subst (λ (q : ℕ). (0 < A words q) × (W words q ≤ E) × (E ≤ W words q + 1)) i.1.holds.1 (omega arith, omega arith, omega arith)

  -- a member whose record a scan found inactive, or at the global epoch
  pub found_current : (n : ℕ) → IsMember (at n).activity → (A words (at n).rec ≡ 0) ⊎ (W words (at n).rec ≡ E) → IsAtGlobal E (at n).section
  found_current n is found = let m = (h.each n).member is in ⊎_elim
      (λ none. idle_current E (W words (at n).rec) (at n).section (sym m.counted ∙ none) m.timely)
      (λ same. own_current E (W words (at n).rec) (at n).section same m.timely) found

  module _ (n : ℕ) (e : Entry) where
    abbrev pub now : Run
    now = past ++ (n, e) ∷ []

    -- What is to be shown of a step of the visitor n, after which it is u
    pub record Change (words' : List ℕ) (E' : ℕ) (u : TokenState) : Type 1 where
      pub among : n < tokens
      pub long : length words' ≡ length words
      pub up : E ≤ E'
      pub number : u.number ≡ n
      pub counts : E' + (at n).calls ≤ E + u.calls
      pub mine : IsVisitorHeld records E' (S records words' u.rec) (A words' u.rec) (W words' u.rec) (account n past ++ e ∷ []) u
      pub others : (m : ℕ) → n ≢ m → IsMember (at m).activity → (S records words' (at m).rec ≡ S records words (at m).rec) × (A words' (at m).rec ≡ A words (at m).rec) × (W words' (at m).rec ≡ W words (at m).rec) × IsTimely E' (W words (at m).rec) (at m).section
      pub sound : (r : ℕ) → r < records → IsSound E' (S records words' r) (A words' r) (W words' r)
      pub alone : (m : ℕ) → n ≢ m → IsMember (at m).activity → IsMember u.activity → (at m).rec ≡ u.rec → ⊥
      pub found_others : (m k : ℕ) → n ≢ m → n ≢ k → IsMember (at k).activity → HasPassed (at m).activity E' (at k).rec → IsAtGlobal E' (at k).section
      pub found_me : (m : ℕ) → n ≢ m → IsMember u.activity → HasPassed (at m).activity E' u.rec → IsAtGlobal E' u.section
      pub found_by_me : (k : ℕ) → n ≢ k → IsMember (at k).activity → HasPassed u.activity E' (at k).rec → IsAtGlobal E' (at k).section
      pub found_self : IsMember u.activity → HasPassed u.activity E' u.rec → IsAtGlobal E' u.section
      pub cases : (r o : ℕ) → r < records → IsSectionOpen now r o → (IsSectionOpen past r o × (W words' r ≡ W words r)) ⊎ (o ≡ length past)
      pub inside : (r o : ℕ) → r < records → IsSectionOpen now r o → (k : ℕ) × IsWithinSection (moved at n u k) r
      pub guards : (older : ℕ → Type 0) (r o : ℕ) → r < records → IsSectionOpen past r o → IsSectionOpen now r o → IsSectionGuarded older r (W words r) (at n) → IsSectionGuarded older r (W words r) u

    module _ (words' : List ℕ) (u : TokenState) (c : Change words' (get_or words' 0 0) u) where
      abbrev E' : ℕ
      E' = get_or words' 0 0

      abbrev at' : ℕ → TokenState
      at' = moved at n u

      here : (m : ℕ) → n ≡ m → at' m ≡ u
      here m same = moved_here at n m u same

      other : (m : ℕ) → n ≢ m → at' m ≡ at m
      other m ne = moved_else at n m u ne

      each_else : (m : ℕ) → n ≢ m → IsVisitorHeld records E' (S records words' (at m).rec) (A words' (at m).rec) (W words' (at m).rec) (account m past) (at m)
      each_else m ne = let v = h.each m in let up = c.up in record {
        steps = v.steps;
        few = v.few;
        reading = v.reading;
        member = λ is. let k = v.member is in let o = c.others m ne is in record {
          low = k.low;
          held = o.0 ∙ k.held;
          counted = o.1 ∙ k.counted;
          timely = subst (λ (w : ℕ). IsTimely E' w (at m).section) (sym o.2) o.3;
        };
        scan = scan_up records E E' up (at m).activity v.scan;
        pending = λ k d l. let p = v.pending k d l in (p.0, let b = p.1 in omega arith);
        dispatched = v.dispatched;
      }

      each' : (m : ℕ) → IsVisitorHeld records E' (S records words' (at' m).rec) (A words' (at' m).rec) (W words' (at' m).rec) (account m now) (at' m)
      each' m = dite (ℕ_discrete n m)
          (λ same. subst (λ (x : List Entry × TokenState). IsVisitorHeld records E' (S records words' x.1.rec) (A words' x.1.rec) (W words' x.1.rec) x.0 x.1)
          (λ i. (sym (account_here past n m e same) i, sym (here m same) i))
          (subst (λ (k : ℕ). IsVisitorHeld records E' (S records words' u.rec) (A words' u.rec) (W words' u.rec) (account k past ++ e ∷ []) u) same c.mine))
          (λ ne. subst (λ (x : List Entry × TokenState). IsVisitorHeld records E' (S records words' x.1.rec) (A words' x.1.rec) (W words' x.1.rec) x.0 x.1)
          (λ i. (sym (account_else past n m e ne) i, sym (other m ne) i)) (each_else m ne))

      alone' : (m k : ℕ) → IsMember (at' m).activity → IsMember (at' k).activity → (at' m).rec ≡ (at' k).rec → m ≡ k
      alone' m k a b same = dite (ℕ_discrete n m)
          (λ em. dite (ℕ_discrete n k)
          (λ ek. sym em ∙ ek)
          (λ nk. absurd (c.alone k nk (subst (λ (t : TokenState). IsMember t.activity) (other k nk) b) (subst (λ (t : TokenState). IsMember t.activity) (here m em) a)
          (sym (ap (λ (t : TokenState). t.rec) (other k nk)) ∙ (sym same ∙ ap (λ (t : TokenState). t.rec) (here m em))))))
          (λ nm. dite (ℕ_discrete n k)
          (λ ek. absurd (c.alone m nm (subst (λ (t : TokenState). IsMember t.activity) (other m nm) a) (subst (λ (t : TokenState). IsMember t.activity) (here k ek) b)
          (sym (ap (λ (t : TokenState). t.rec) (other m nm)) ∙ (same ∙ ap (λ (t : TokenState). t.rec) (here k ek)))))
          (λ nk. h.alone m k (subst (λ (t : TokenState). IsMember t.activity) (other m nm) a) (subst (λ (t : TokenState). IsMember t.activity) (other k nk) b)
          (sym (ap (λ (t : TokenState). t.rec) (other m nm)) ∙ (same ∙ ap (λ (t : TokenState). t.rec) (other k nk)))))

      abbrev Finds : TokenState → TokenState → Type 0
      Finds s t = IsMember t.activity → HasPassed s.activity E' t.rec → IsAtGlobal E' t.section

      found' : (m k : ℕ) → Finds (at' m) (at' k)
      found' m k = dite (ℕ_discrete n m)
          (λ em. dite (ℕ_discrete n k)
          (λ ek. subst (λ (x : TokenState × TokenState). Finds x.0 x.1) (λ i. (sym (here m em) i, sym (here k ek) i)) c.found_self)
          (λ nk. subst (λ (x : TokenState × TokenState). Finds x.0 x.1) (λ i. (sym (here m em) i, sym (other k nk) i)) (c.found_by_me k nk)))
          (λ nm. dite (ℕ_discrete n k)
          (λ ek. subst (λ (x : TokenState × TokenState). Finds x.0 x.1) (λ i. (sym (other m nm) i, sym (here k ek) i)) (c.found_me m nm))
          (λ nk. subst (λ (x : TokenState × TokenState). Finds x.0 x.1) (λ i. (sym (other m nm) i, sym (other k nk) i)) (c.found_others m k nm nk)))

      back : (m o i : ℕ) → i < count past m → o < index_in now m i → o < index_in past m i
      back m o i l b = let s = index_stays past ((n, e) ∷ []) m i l in omega arith

      old_guarded : (m r o : ℕ) → r < records → IsSectionOpen past r o → IsSectionOpen now r o → IsSectionGuarded (λ i. o < index_in now m i) r (W words r) (at' m)
      old_guarded m r o low was is =
          let v = h.each m in
          let along = guarded_along (λ i. o < index_in past m i) (λ i. o < index_in now m i) r (W words r) (count past m) (at m)
          (are_made (account m past) (at m).pending (told E (account m past) (at m).pending v.pending)) (are_made (account m past) (at m).dispatched v.dispatched) (back m o) (h.guarded m r o low was) in
          dite (ℕ_discrete n m)
          (λ same. subst (λ (t : TokenState). IsSectionGuarded (λ i. o < index_in now m i) r (W words r) t) (sym (here m same))
          (c.guards (λ i. o < index_in now m i) r o low was is (subst (λ (k : ℕ). IsSectionGuarded (λ i. o < index_in now m i) r (W words r) (at k)) (sym same) along)))
          (λ ne. subst (λ (t : TokenState). IsSectionGuarded (λ i. o < index_in now m i) r (W words r) t) (sym (other m ne)) along)

      new_guarded : (m r o : ℕ) → o ≡ length past → IsSectionGuarded (λ i. o < index_in now m i) r (W words' r) (at' m)
      new_guarded m r o is = let v = each' m in
          young_guarded (λ i. o < index_in now m i) r (W words' r) (count now m) (at' m)
          (are_made (account m now) (at' m).pending (told E' (account m now) (at' m).pending v.pending)) (are_made (account m now) (at' m).dispatched v.dispatched)
          (λ i l older. let b = index_below now m i l in let q = length-append past ((n, e) ∷ []) in absurd (omega arith))

      guarded' : (m r o : ℕ) → r < records → IsSectionOpen now r o → IsSectionGuarded (λ i. o < index_in now m i) r (W words' r) (at' m)
      guarded' m r o low is = ⊎_elim
          (λ (old : IsSectionOpen past r o × (W words' r ≡ W words r)). subst (λ (w : ℕ). IsSectionGuarded (λ i. o < index_in now m i) r w (at' m)) (sym old.1) (old_guarded m r o low old.0 is))
          (λ (new : o ≡ length past). new_guarded m r o new)
          (c.cases r o low is)

      held' : AreMembersHeld records tokens now words' at'
      held' = let up = c.up in let late = h.late in record {
        some_records = h.some_records;
        wide = let w = h.wide in let l = c.long in omega arith;
        late = omega arith;
        few = h.few;
        bounded = let b = h.bounded in let s = sum_moves at n u tokens c.among in let k = c.counts in omega arith;
        numbered = λ m. dite (ℕ_discrete n m)
            (λ same. ap (λ (t : TokenState). t.number) (here m same) ∙ (c.number ∙ same))
            (λ ne. ap (λ (t : TokenState). t.number) (other m ne) ∙ h.numbered m);
        sound = c.sound;
        each = each';
        alone = alone';
        found = found';
        open_in = c.inside;
        guarded = guarded';
      }

    -- so it is held
    pub changes : (words' : List ℕ) (global : ℕ) (u : TokenState) → get_or words' 0 0 ≡ global → Change words' global u → AreMembersHeld records tokens now words' (moved at n u)
    changes words' global u is c = held' words' u (subst (λ (G : ℕ). Change words' G u) (sym is) c)
