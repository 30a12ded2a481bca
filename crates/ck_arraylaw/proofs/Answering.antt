-- From its first step to its last an `all` collects the list that was committed at its first step.
use Rattle.std.proofs.Common.{◌≡◌, ◌≢◌, ℕ, suc, ◌+◌, ◌⊎◌, ⊎_elim, inl, Bool, true, false, cond, List, [], ◌∷◌, ◌++◌, length, get_or, append-nil, append_assoc, length-append, refl, sym, ap, ◌∙◌, subst, arith}
use Rattle.std.proofs.lemmas.Nat.{pow_pos}
use mathlib.Core.Logic.{dite}
use native.Mathlib.Decide.{ℕ_discrete}
use Rattle.ck_run.specs.declared.account.Step.TheVariants.{Load, Store}
use Rattle.ck_run.specs.declared.account.Entry.{Entry}
use Rattle.ck_run.specs.Run.{Run, Fits, account}
use Rattle.ck_epoch.specs.declared.item.Item.{Item}
use Rattle.ck_epoch.specs.State.{base_of, active_word}
use Rattle.ck_epoch.proofs.OpenSections.{opened_before}
use Rattle.ck_arraylaw.specs.Calls.{is_single_load}
use Rattle.ck_arraylaw.specs.Array.{ReadStage, no_read, ReaderState, LocalState, reader, edits_of, lists_of, MayIf, MayRead, MayReadNext, given_up, after_read, read_next, found_by, is_array_word, is_section, after_own, after_other, array_next, array_may}
use Rattle.ck_arraylaw.specs.Client.{first_reader, answers_of}
use Rattle.ck_arraylaw.specs.Law.{read_stage_of, until, IsReading}
use Rattle.ck_arraylaw.proofs.Members.{few_lists}
use Rattle.ck_arraylaw.proofs.Words.{load_is, list_stays}
use Rattle.ck_arraylaw.proofs.Collecting.{IsCollecting, collects_on, region_at_is, loaded}
use Rattle.ck_arraylaw.proofs.Tokens.{reader_after}
use Rattle.ck_arraylaw.proofs.Holding.{floor, base, IsTrue, words, local, Holds, may, fits, local_next, local_else, words_same, held, ArrayIn}
use Rattle.ck_arraylaw.proofs.Reading.{Looks, Begins, looks_on}

last_same : {A : Type 0} (xs : List A) (a b : A) → xs ++ a ∷ [] ≡ xs ++ b ∷ [] → a ≡ b
last_same [] a b e = cc
last_same {A} (x ∷ xs) a b e = last_same xs a b (let same : xs ++ a ∷ [] ≡ xs ++ b ∷ [] = cc in same)

not_longer : {A : Type 0} (xs : List A) (a : A) → xs ≡ xs ++ a ∷ [] → ⊥
not_longer {A} xs a e = let l : length xs ≡ length xs + 1 = ap (λ (l : List A). length l) e ∙ length-append xs (a ∷ []) in omega arith

whole_run : (past : Run) (x : ℕ × Entry) (done ahead rest : Run) → (past ++ x ∷ (done ++ ahead)) ++ rest ≡ (past ++ x ∷ done) ++ (ahead ++ rest)
whole_run past x done ahead rest = ap (λ (m : Run). m ++ rest) (sym (append_assoc past (x ∷ done) ahead)) ∙ append_assoc (past ++ x ∷ done) ahead rest

module _ {D : Type 0} (a : ArrayIn D) where
  open a use {host, within, pieces, origin}

  abbrev b : ℕ
  b = base a

  abbrev f : ℕ
  f = floor a

  abbrev stage : Run → ℕ → ReadStage
  stage run r = read_stage_of (local a run (suc r))

  reader_at : (run : Run) (r : ℕ) → (y : ReaderState) × (local a run (suc r) ≡ reader y)
  reader_at run r = reader_after f b first_reader (account (suc r) run)

  -- the present region is one to begin with
  pub begins_at : (past : Run) (h : Holds a past) → Begins a past h.writer_state.region (lists_of h.writer_state).committed
  begins_at past h = record { inside = h.invariant.inside; list = h.invariant.list; few = (few_lists (edits_of h.writer_state)).committed }

  -- the step of a reader, by the word that it is on
  module _ (run : Run) (r : ℕ) (e : Entry) (more : Run) (t : IsTrue a (run ++ (suc r, e) ∷ more)) where
    abbrev now : Run
    now = run ++ (suc r, e) ∷ []

    abbrev y : ReaderState
    y = (reader_at run r).0

    at_y : local a run (suc r) ≡ reader y
    at_y = (reader_at run r).1

    may_y : array_may f b (reader y) e
    may_y = subst (λ (x : LocalState). array_may f b x e) at_y (may a run (suc r) e more t)

    next_y : local a now (suc r) ≡ array_next f b (reader y) e
    next_y = local_next a run (suc r) e more t ∙ ap (λ (x : LocalState). array_next f b x e) at_y

    fits_y : Fits (words a run) e.step
    fits_y = fits a run (suc r) e more t

  -- the first step
  module _ (past : Run) (r : ℕ) (e : Entry) (more : Run) (t : IsTrue a (past ++ (suc r, e) ∷ more)) (h : Holds a past) (starts : stage past r ≡ no_read) (goes : stage (past ++ (suc r, e) ∷ []) r ≡ no_read → ⊥) where
    abbrev region : Item
    region = h.writer_state.region

    abbrev members : List ℕ
    members = (lists_of h.writer_state).committed

    abbrev Begun : Type 0
    Begun = Looks a past (past ++ (suc r, e) ∷ []) r region × IsCollecting region members (stage (past ++ (suc r, e) ∷ []) r)

    rests : (y past r e more t).stage ≡ no_read
    rests = ap read_stage_of (sym (at_y past r e more t)) ∙ starts

    by_load : is_array_word f b e.step ≡ true → MayReadNext b (y past r e more t).stage e.opens e.step → local a (past ++ (suc r, e) ∷ []) (suc r) ≡ reader (read_next (y past r e more t) (y past r e more t).stage (found_by e.step)) → Begun
    by_load on m next =
        let mine = subst (λ (g : ReadStage). MayReadNext b g e.opens e.step) rests m in
        let is : e.step ≡ Load b (found_by e.step) = load_is b e.step mine.0 in
        let found : found_by e.step ≡ region.at = loaded b (words a past) e.step mine.0 (fits_y past r e more t) ∙ h.invariant.root in
        let o = host.place origin.config.client in
        let word : b ≡ base_of origin + (o + 0) = omega arith in
        let guarded = pieces.guarded origin past more r e (o + 0) (found_by e.step) t (is ∙ ap (λ (k : ℕ). Load k (found_by e.step)) word) (within.guarded origin.config.client 0 (omega arith)) in
        let stage_is : stage (past ++ (suc r, e) ∷ []) r ≡ (read_next (y past r e more t) no_read (found_by e.step)).stage = ap read_stage_of next ∙ ap (λ (g : ReadStage). (read_next (y past r e more t) g (found_by e.step)).stage) rests in (
          record {
            low = guarded.0;
            o = guarded.1.0;
            section = pieces.lasts past (suc r) e r guarded.1.0 guarded.1.1 (λ _ ends. let z : Load b (found_by e.step) ≡ Store (active_word r) 0 = sym is ∙ ends in cc);
            linked = record { past = past; more = (suc r, e) ∷ []; whole = refl; after = opened_before past r guarded.1.0 guarded.1.1; linked = (h.writer_state, h.at_writer, inl refl) };
            kept = λ j low. ap (λ (ws : List ℕ). get_or ws (b + region.at + j) 0) (words_same a past (suc r) e more t (λ z. absurd (omega arith)) on);
          },
          subst (IsCollecting region members) (sym stage_is) (region_at_is region (found_by e.step) h.invariant.inside (pow_pos region.log) found),
        )

    by_word : (own : Bool) → is_array_word f b e.step ≡ own → MayIf f b own (reader (y past r e more t)) e → local a (past ++ (suc r, e) ∷ []) (suc r) ≡ cond own (after_own f b (reader (y past r e more t)) e) (after_other f b (reader (y past r e more t)) e) → Begun
    by_word true on m next = by (is_single_load e.opens) m next
      where
        by : (s : Bool) → MayRead f b s (y past r e more t) e → local a (past ++ (suc r, e) ∷ []) (suc r) ≡ reader (after_read f b s (y past r e more t) e) → Begun
        by true m next = absurd (goes (ap read_stage_of next ∙ rests))
        by false m next = by_load on m next
    by_word false off m next = by (is_section f b e.step) next
      where
        by : (s : Bool) → local a (past ++ (suc r, e) ∷ []) (suc r) ≡ reader (given_up f b s (y past r e more t)) → Begun
        by true next = absurd (goes (ap read_stage_of next))
        by false next = absurd (goes (ap read_stage_of next ∙ rests))

    pub begun : Begun
    begun = by_word (is_array_word f b e.step) refl (may_y past r e more t) (next_y past r e more t)

  -- a further step
  module _ (first : Run) (region : Item) (members : List ℕ) (start : Begins a first region members) where
    module _ (run : Run) (r : ℕ) (e : Entry) (more : Run) (t : IsTrue a (run ++ (suc r, e) ∷ more)) (looks : Looks a first run r region) (going : stage run r ≡ no_read → ⊥) (collecting : IsCollecting region members (stage run r)) where
      -- it goes on, or answers the list
      abbrev Further : Type 0
      Further = ((answers_of (local a (run ++ (suc r, e) ∷ []) (suc r)) ≡ answers_of (local a run (suc r))) × IsCollecting region members (stage (run ++ (suc r, e) ∷ []) r))
          ⊎ ((answers_of (local a (run ++ (suc r, e) ∷ []) (suc r)) ≡ answers_of (local a run (suc r)) ++ members ∷ []) × (stage (run ++ (suc r, e) ∷ []) r ≡ no_read))

      abbrev FurtherOf : LocalState → LocalState → Type 0
      FurtherOf before after = ((answers_of after ≡ answers_of before) × IsCollecting region members (read_stage_of after)) ⊎ ((answers_of after ≡ answers_of before ++ members ∷ []) × (read_stage_of after ≡ no_read))

      collecting_y : IsCollecting region members (y run r e more t).stage
      collecting_y = subst (λ (x : LocalState). IsCollecting region members (read_stage_of x)) (at_y run r e more t) collecting

      going_y : (y run r e more t).stage ≡ no_read → ⊥
      going_y z = going (ap read_stage_of (at_y run r e more t) ∙ z)

      by_step : (own : Bool) → MayIf f b own (reader (y run r e more t)) e → FurtherOf (reader (y run r e more t)) (cond own (after_own f b (reader (y run r e more t)) e) (after_other f b (reader (y run r e more t)) e))
      by_step true m = by (is_single_load e.opens) m
        where
          by : (s : Bool) → MayRead f b s (y run r e more t) e → FurtherOf (reader (y run r e more t)) (reader (after_read f b s (y run r e more t) e))
          by true m = inl (refl, collecting_y)
          by false m = collects_on region members b (words a run) (y run r e more t) (y run r e more t).stage e.opens e.step start.inside (list_stays b (words a first) (words a run) region members looks.kept start.list) start.few going_y collecting_y m (fits_y run r e more t)
      by_step false m = by (is_section f b e.step)
        where
          by : (s : Bool) → FurtherOf (reader (y run r e more t)) (reader (given_up f b s (y run r e more t)))
          by true = inl (refl, tt)
          by false = inl (refl, collecting_y)

      pub further : Further
      further = subst (λ (x : LocalState × LocalState). FurtherOf x.0 x.1) (λ i. (sym (at_y run r e more t) i, sym (next_y run r e more t) i)) (by_step (is_array_word f b e.step) (may_y run r e more t))

      -- what it answers is the list
      pub answers_list : (some : List ℕ) → answers_of (local a (run ++ (suc r, e) ∷ []) (suc r)) ≡ answers_of (local a run (suc r)) ++ some ∷ [] → some ≡ members
      answers_list some answered = ⊎_elim
          (λ x. absurd (not_longer (answers_of (local a run (suc r))) some (sym x.0 ∙ answered)))
          (λ x. last_same (answers_of (local a run (suc r))) some members (sym answered ∙ x.0)) further

    -- what is known of the reader at a moment of the `all`
    abbrev pub Known : Run → ℕ → Type 0
    Known run r = Looks a first run r region × IsCollecting region members (stage run r)

    known_next : (run : Run) (n : ℕ) (e : Entry) (more : Run) (r : ℕ) → IsTrue a (run ++ (n, e) ∷ more) → (stage run r ≡ no_read → ⊥) → (stage (run ++ (n, e) ∷ []) r ≡ no_read → ⊥) → Known run r → Known (run ++ (n, e) ∷ []) r
    known_next run n e more r t going goes known = (
      looks_on a first region members start run n e more t (held a run ((n, e) ∷ more) t) r known.0 goes,
      dite (ℕ_discrete n (suc r))
          (λ (mine : n ≡ suc r). subst (λ (k : ℕ). IsTrue a (run ++ (k, e) ∷ more) → (stage (run ++ (k, e) ∷ []) r ≡ no_read → ⊥) → IsCollecting region members (stage (run ++ (k, e) ∷ []) r)) (sym mine) (λ t goes. ⊎_elim (λ x. x.1) (λ x. absurd (goes x.1)) (further run r e more t known.0 going known.1)) t goes)
          (λ (other : n ≢ suc r). subst (λ (x : LocalState). IsCollecting region members (read_stage_of x)) (sym (local_else a run n e more t (suc r) other)) known.1),
    )

    pub known_until : (past : Run) (r : ℕ) (e : Entry) (between rest : Run) → IsTrue a (until past r e between ++ rest) → IsReading host origin past r e between → Known (past ++ (suc r, e) ∷ []) r → Known (until past r e between) r
    known_until past r e between rest t reading known = go between [] refl known
      where
        go : (ahead done : Run) → between ≡ done ++ ahead → Known (until past r e done) r → Known (until past r e between) r
        go [] done all known = subst (λ (m : Run). Known (until past r e m) r) (sym (all ∙ append-nil done)) known
        go (x ∷ ahead) done all known =
            let next : between ≡ (done ++ x ∷ []) ++ ahead = all ∙ sym (append_assoc done (x ∷ []) ahead) in
            let same : until past r e done ++ x ∷ [] ≡ until past r e (done ++ x ∷ []) = append_assoc past ((suc r, e) ∷ done) (x ∷ []) in
            let t' : IsTrue a (until past r e done ++ x ∷ (ahead ++ rest)) = subst (IsTrue a) (ap (λ (m : Run). until past r e m ++ rest) all ∙ whole_run past (suc r, e) done (x ∷ ahead) rest) t in
            go ahead (done ++ x ∷ []) next (subst (λ (run : Run). Known run r) same
            (known_next (until past r e done) x.0 x.1 (ahead ++ rest) r t' (reading.goes done (x ∷ ahead) all) (λ z. reading.goes (done ++ x ∷ []) ahead next (ap (λ (run : Run). stage run r) (sym same) ∙ z)) known))
