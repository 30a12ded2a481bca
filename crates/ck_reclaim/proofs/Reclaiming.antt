-- The law of pieces.
use Rattle.std.proofs.Common.{◌≡◌, ℕ, suc, ◌+◌, ◌<◌, ◌≤◌, ◌⊎◌, ⊎_elim, Bool, true, cond, ◌==◌, List, [], ◌∷◌, ◌++◌, refl, sym, ◌∙◌, subst, arith, eq-eqb}
use Rattle.std.proofs.lemmas.Bool.{cases_lt}
use Rattle.std.proofs.lemmas.List.Elements.{All-append, All-contains}
use Rattle.ck_run.specs.declared.account.Step.TheVariants.{Load}
use Rattle.ck_run.specs.declared.account.Entry.{Entry}
use Rattle.ck_run.specs.Run.{Run, account}
use Rattle.ck_run.specs.Rule.{IsRun}
use Rattle.ck_run.specs.Machine.{follows_of}
use Rattle.ck_run.proofs.Lists.{All-weaker}
use Rattle.ck_run.proofs.Law.{obeys_at}
use Rattle.ck_run.proofs.Runs.{account-append}
use Rattle.ck_run.proofs.Moments.{run_weaker, run_before}
use Rattle.ck_epoch.specs.declared.item.Item.{Item}
use Rattle.ck_epoch.specs.State.{Origin, Retirement, base_of, records_of, epochs}
use Rattle.ck_epoch.specs.Epochs.{IsOpen, IsOlder, Reclamation, writer_in}
use Rattle.ck_epoch.specs.Client.{program, IsGuarded}
use Rattle.ck_reclaim.specs.Pieces.{Pieces, AreApart, WasLinked, IsPendingSince, LinkedOrPending}
use Rattle.ck_reclaim.specs.Reclaim.{IsDomainRun, RetiresWhatItUnlinks, IsReusableIn, IsApartFromRetired, ReclaimsPieces}
use Rattle.ck_reclaim.proofs.Linking.{linked_or_pending}
use Rattle.ck_epoch.proofs.OpenSections.{still_open}

module _ {C : Type 0} (s : Pieces C) (law : Reclamation C) where
  as_epochs : (origin : Origin C) (run : Run) → IsDomainRun s origin run → IsRun (follows_of epochs) origin run
  as_epochs origin run r = run_weaker (program s.client) (follows_of epochs) origin run (λ n es f. f.0) r

  apart_from_retired : (origin : Origin C) (past rest : Run) (i : Item) → IsDomainRun s origin (past ++ rest) → IsReusableIn s origin past i
      → (r o : ℕ) → r < records_of origin → IsOpen past r o → IsApartFromRetired s origin past o i
  apart_from_retired origin past rest i run f r o low open_now =
      let w = writer_in origin past in
      let Apart : Retirement → Type 0 = λ k. IsOlder past o k.number → s.IsItem origin k.retired.item → AreApart k.retired.item i in
      All-append Apart w.pending w.dispatched
      (All-weaker (λ (k : Retirement). s.IsItem origin k.retired.item → AreApart k.retired.item i) Apart w.pending (λ k free _ own. free own) f.unused)
      (All-weaker (λ (k : Retirement). IsOlder past o k.number → ⊥) Apart w.dispatched (λ k safe older _. absurd (safe older))
      (law.safe origin (past ++ rest) (as_epochs origin (past ++ rest) run) past rest refl r o low open_now))

  -- the token of a step is one of the domain's
  module _ (origin : Origin C) (past rest : Run) (r : ℕ) (e : Entry) (run : IsDomainRun s origin (past ++ (suc r, e) ∷ rest)) where
    has_entry : (es fs : List Entry) (b : Bool) → b ≡ true → es ++ cond b (e ∷ fs) fs ≡ [] → ⊥
    has_entry es fs b is none = go es (subst (λ (c : Bool). es ++ cond c (e ∷ fs) fs ≡ []) is none)
      where
        go : (es : List Entry) → es ++ e ∷ fs ≡ [] → ⊥
        go [] z = cc
        go (x ∷ es) z = cc

    is_token : suc r < origin.tokens
    is_token = ⊎_elim (λ (below : suc r < origin.tokens). below)
        (λ (past_end : origin.tokens ≤ suc r). absurd (has_entry (account (suc r) past) (account (suc r) rest) (suc r == suc r) (eq-eqb (suc r) (suc r) refl)
        (sym (account-append (suc r) past ((suc r, e) ∷ rest)) ∙ run.none (suc r) past_end)))
        (cases_lt (suc r) origin.tokens)

    is_record : r < records_of origin
    is_record = let tokens = ((as_epochs origin (past ++ (suc r, e) ∷ rest) run).follow 0).0.tokens in let token = is_token in omega arith

    within_section : (at found : ℕ) → e.step ≡ Load (base_of origin + at) found → s.client.guarded origin.config.client at ≡ true → (r < records_of origin) × ((o : ℕ) × IsOpen past r o)
    within_section at found is guarded =
        let epochs_run = as_epochs origin (past ++ (suc r, e) ∷ rest) run in
        let deep = obeys_at (epochs.next origin) (IsGuarded s.client origin) (epochs.start origin (suc r)) (suc r) past rest e ((run.follow (suc r)).2 (omega arith)) at found is guarded in
        (is_record, law.opened origin past (run_before epochs origin past ((suc r, e) ∷ rest) epochs_run) r is_record deep)

  module _ (retires : RetiresWhatItUnlinks s) where
    linked : (origin : Origin C) (past rest : Run) → IsDomainRun s origin (past ++ rest) → LinkedOrPending s origin past
    linked origin past rest run = linked_or_pending law s origin (IsDomainRun s origin) (as_epochs origin) (λ before more e r. retires origin before more e r) past rest run

    apart : (origin : Origin C) (past rest : Run) (i : Item) → IsDomainRun s origin (past ++ rest) → IsReusableIn s origin past i
        → (r o : ℕ) (x : s.Piece) → r < records_of origin → IsOpen past r o → WasLinked s origin past o x → s.IsItem origin (s.item origin x) → AreApart (s.item origin x) i
    apart origin past rest i run f r o x low open_now w own = ⊎_elim
        (λ (l : s.IsLinked origin (account 0 past) x). f.unlinked x l)
        (λ (p : IsPendingSince s origin past o x). subst (λ (j : Item). AreApart j i) p.same
        (All-contains (λ (k : Retirement). s.IsItem origin k.retired.item → AreApart k.retired.item i) (writer_in origin past).pending p.by f.unused p.pending (subst (s.IsItem origin) (sym p.same) own)))
        (linked origin past rest run r o x low open_now w)

    pub reclaims : ReclaimsPieces s
    reclaims = record { linked = linked; apart = apart; retired = apart_from_retired; guarded = λ origin past rest r e at found run. within_section origin past rest r e run at found; lasts = still_open }
