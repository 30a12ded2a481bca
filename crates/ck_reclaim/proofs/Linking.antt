-- While a section is open, no piece is lost that was linked since it opened, by the law of epochs: along a run, step by step.
use Rattle.std.proofs.Common.{◌≡◌, ◌≢◌, ℕ, suc, ◌+◌, ◌%◌, ◌<◌, ◌≤◌, ◌⊎◌, ⊎_elim, inl, inr, true, List, [], ◌∷◌, ◌++◌, length, get_or, Contains, append-nil, append_assoc, length-append, refl, sym, ap, ◌∙◌, subst, arith, eq-eqb}
use Rattle.std.proofs.lemmas.Bool.{cases_lt}
use Rattle.std.proofs.lemmas.List.Elements.{All-contains}
use mathlib.Core.Logic.{dite}
use native.Mathlib.Decide.{ℕ_discrete}
use Rattle.ck_run.specs.declared.account.Entry.{Entry}
use Rattle.ck_run.specs.Run.{Run, replay, account}
use Rattle.ck_run.specs.Rule.{IsRun}
use Rattle.ck_run.specs.Machine.{follows_of}
use Rattle.ck_run.proofs.Lists.{begins, inside}
use Rattle.ck_run.proofs.Runs.{account_here, account_else, index_stays}
use Rattle.ck_run.proofs.Moments.{run_before}
use Rattle.ck_epoch.specs.declared.item.Item.{Item}
use Rattle.ck_epoch.specs.Lists.{is_on}
use Rattle.ck_epoch.specs.State.{Origin, records_of, Retirement, TokenState, retirement, epochs, state_at}
use Rattle.ck_epoch.specs.Epochs.{IsOpen, IsOlder, IsRetired, Reclamation, writer_in}
use Rattle.ck_epoch.proofs.OpenSections.{was_open}
use Rattle.ck_reclaim.specs.Pieces.{Pieces, HandsOver, IsPendingSince, LinkedOrRetired, LinkedOrPending}
use Rattle.ck_reclaim.proofs.Filtered.{all_passing}
use Rattle.ck_reclaim.proofs.Along.{along}
use Rattle.ck_reclaim.proofs.Places.{index_last}

module _ {C : Type 0} (law : Reclamation C) (s : Pieces C) (origin : Origin C) where
  -- a true run, as far as the epochs go
  abbrev pub IsTrue : Run → Type 0
  IsTrue run = IsRun (follows_of epochs) origin run

  abbrev writer : Run → TokenState
  writer run = writer_in origin run

  abbrev Linked : Run → s.Piece → Type 0
  Linked run x = s.IsLinked origin (account 0 run) x

  module _ (past : Run) (n : ℕ) (e : Entry) (more : Run) (run : IsTrue (past ++ (n, e) ∷ more)) where
    abbrev now : Run
    now = past ++ (n, e) ∷ []

    whole : past ++ (n, e) ∷ more ≡ now ++ more
    whole = sym (append_assoc past ((n, e) ∷ []) more)

    -- a pending item has the number of an entry
    numbered : (k : Retirement) → Contains (writer past).pending k → k.number < length (account 0 past)
    numbered k has =
        let j : ℕ = k.retired.epoch % 4 in
        let kept = (law.keeps origin past (run_before epochs origin past ((n, e) ∷ more) run) past [] (sym (append-nil past))).pending j (omega arith) in
        let Kept : Retirement → Type 0 = λ k. IsRetired (account 0 past) k × (k.retired.epoch % 4 ≡ j) × (k.retired.epoch ≤ get_or (replay origin.words past) 0 0) in
        let retired = All-contains (λ (r : Retirement). is_on j r.retired ≡ true → Kept r) (writer past).pending k (all_passing Kept (λ (r : Retirement). is_on j r.retired) (writer past).pending kept) has (eq-eqb j j refl) in
        inside (account 0 past) k.number _ retired.0.1

    older_stays : (o : ℕ) (k : Retirement) → Contains (writer past).pending k → IsOlder past o k.number → IsOlder now o k.number
    older_stays o k has older = subst (λ (i : ℕ). o < i) (sym (index_stays past ((n, e) ∷ []) 0 k.number (numbered k has))) older

    -- What each step owes: what is pending and younger than an open section stays so, and what was linked is so or is retired
    pub record KeepsPieces : Type 0 where
      pub pending : (r o : ℕ) (k : Retirement) → r < records_of origin → IsOpen now r o → IsOlder now o k.number → Contains (writer past).pending k → Contains (writer now).pending k
      pub linked : (o : ℕ) (x : s.Piece) → o < length past → Linked past x → Linked now x ⊎ IsPendingSince s origin now o x

    -- a piece that was linked since the section opened was so before this step, or is linked now
    pub next : KeepsPieces → LinkedOrPending s origin past → LinkedOrPending s origin now
    next step before r o x low open_now w = ⊎_elim
        (λ (early : length w.past < suc (length past)). was_before (begins w.past w.more past ((n, e) ∷ []) (sym w.whole) (omega arith)))
        (λ (late : suc (length past) ≤ length w.past). is_now (begins now [] w.past w.more (append-nil now ∙ w.whole) (let l = long in omega arith)))
        (cases_lt (length w.past) (suc (length past)))
      where
        long : length now ≡ length past + 1
        long = length-append past ((n, e) ∷ [])

        goes_on : o < length past → Linked past x ⊎ IsPendingSince s origin past o x → Linked now x ⊎ IsPendingSince s origin now o x
        goes_on opened c = ⊎_elim (λ (l : Linked past x). step.linked o x opened l)
            (λ (p : IsPendingSince s origin past o x). let older = older_stays o p.by p.pending p.since in
            inr (record { by = p.by; pending = step.pending r o p.by low open_now older p.pending; same = p.same; since = older })) c

        was_before : (m : Run) × (past ≡ w.past ++ m) → Linked now x ⊎ IsPendingSince s origin now o x
        was_before b =
            let l : length past ≡ length w.past + length b.0 = ap length b.1 ∙ length-append w.past b.0 in
            let a = w.after in
            let opened : o < length past = omega arith in
            goes_on opened (before r o x low (was_open past ((n, e) ∷ []) r o opened open_now) (record { past = w.past; more = b.0; whole = b.1; after = w.after; linked = w.linked }))

        none : (m : Run) → length m ≡ 0 → m ≡ []
        none [] z = refl
        none (y ∷ m) z = absurd (omega arith)

        is_now : (m : Run) × (w.past ≡ now ++ m) → Linked now x ⊎ IsPendingSince s origin now o x
        is_now b =
            let l : length w.past ≡ length now + length b.0 = ap length b.1 ∙ length-append now b.0 in
            let l' : length now ≡ length w.past + length w.more = ap length w.whole ∙ length-append w.past w.more in
            let same : w.past ≡ now = b.1 ∙ (ap (λ (m : Run). now ++ m) (none b.0 (omega arith)) ∙ append-nil now) in
            inl (subst (λ (run : Run). Linked run x) same w.linked)

  -- a step of the writer
  module _ (past : Run) (e : Entry) (more : Run) (run : IsTrue (past ++ (0, e) ∷ more)) (retires : LinkedOrRetired s origin (account 0 past) e) where
    writer_step : KeepsPieces past 0 e more run
    writer_step = record {
      pending = λ r o k low open_now older has. ⊎_elim (λ (stays : Contains (writer (past ++ (0, e) ∷ [])).pending k). stays)
          (λ (goes : Contains (writer (past ++ (0, e) ∷ [])).dispatched k). absurd (All-contains (λ (k : Retirement). IsOlder (past ++ (0, e) ∷ []) o k.number → ⊥) (writer (past ++ (0, e) ∷ [])).dispatched k
          (law.safe origin (past ++ (0, e) ∷ more) run (past ++ (0, e) ∷ []) more (whole past 0 e more run) r o low open_now) goes older))
          (All-contains (λ (k : Retirement). Contains (writer (past ++ (0, e) ∷ [])).pending k ⊎ Contains (writer (past ++ (0, e) ∷ [])).dispatched k) (writer past).pending k (law.changes origin past more e run).stays has);
      linked = λ o x opened l. ⊎_elim
          (λ (stays : s.IsLinked origin (account 0 past ++ e ∷ []) x). inl (subst (λ (es : List Entry). s.IsLinked origin es x) (sym (account_here past 0 0 e refl)) stays))
          (λ (hands : HandsOver e (s.item origin x)).
          let i : Item = s.item origin x in
          let new = (law.changes origin past more e run).retires i.at i.log hands in
          inr (record {
            by = retirement (length (account 0 past)) i.at i.log new.0;
            pending = new.1;
            same = refl;
            since = subst (λ (j : ℕ). o < j) (sym (index_last past 0 e)) opened;
          }))
          (retires x l);
    }

  -- a step of a reader
  module _ (past : Run) (n : ℕ) (e : Entry) (more : Run) (run : IsTrue (past ++ (n, e) ∷ more)) (other : n ≢ 0) where
    writer_stays : writer (past ++ (n, e) ∷ []) ≡ writer past
    writer_stays = ap (state_at origin 0) (account_else past n 0 e other)

    reader_step : KeepsPieces past n e more run
    reader_step = record {
      pending = λ r o k low open_now older has. subst (λ (t : TokenState). Contains t.pending k) (sym writer_stays) has;
      linked = λ o x opened l. inl (subst (λ (es : List Entry). s.IsLinked origin es x) (sym (account_else past n 0 e other)) l);
    }

  -- at the opening nothing was linked
  first : LinkedOrPending s origin []
  first r o x low open_now w = let a = w.after in let l : 0 ≡ length w.past + length w.more = ap length w.whole ∙ length-append w.past w.more in absurd (omega arith)

  module _ (IsGood : Run → Type 0) (true : (run : Run) → IsGood run → IsTrue run) (retires : (past rest : Run) (e : Entry) → IsGood (past ++ (0, e) ∷ rest) → LinkedOrRetired s origin (account 0 past) e) where
    by_writer : (past : Run) (n : ℕ) (e : Entry) (rest : Run) → n ≡ 0 → (g : IsGood (past ++ (n, e) ∷ rest)) → KeepsPieces past n e rest (true (past ++ (n, e) ∷ rest) g)
    by_writer past n e rest mine = subst (λ (k : ℕ). (g : IsGood (past ++ (k, e) ∷ rest)) → KeepsPieces past k e rest (true (past ++ (k, e) ∷ rest) g)) (sym mine)
        (λ g. writer_step past e rest (true (past ++ (0, e) ∷ rest) g) (retires past rest e g))

    pub linked_or_pending : (past rest : Run) → IsGood (past ++ rest) → LinkedOrPending s origin past
    linked_or_pending = along origin IsGood true (LinkedOrPending s origin) first (λ past n e rest g h.
        let run = true (past ++ (n, e) ∷ rest) g in
        next past n e rest run (dite (ℕ_discrete n 0) (λ (mine : n ≡ 0). by_writer past n e rest mine g) (λ (other : n ≢ 0). reader_step past n e rest run other)) h)
