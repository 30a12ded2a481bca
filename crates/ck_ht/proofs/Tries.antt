-- What the clauses of ck_htwrite's calls say of one try of an update.
use Rattle.std.proofs.Common.{◌≡◌, ℕ, ◌+◌, ◌<◌, ◌≤◌, ◌⊎◌, ⊎_elim, inl, inr, List, [], ◌∷◌, refl, sym, ap, ◌∙◌, subst}
use Rattle.std.specs.Prelude.{IfOk, IfErr, IsErr, MatchResult}
use Rattle.std.specs.declared.result.Result.{Result}
use Rattle.std.specs.declared.result.Result.TheVariants.{Ok, Err}
use Rattle.ck_run.specs.declared.account.Entry.{Entry}
use Rattle.ck_run.specs.Tokens.{adding}
use Rattle.ck_epoch.specs.State.{Origin, base_of}
use Rattle.ck_epoch.specs.Ends.{Writer}
use Rattle.ck_signal.specs.declared.signals.Signals.{Signals}
use Rattle.ck_history.specs.declared.update.Reply.{Reply}
use Rattle.ck_history.specs.declared.update.Update.TheVariants.{Tidy}
use Rattle.ck_htlaw.specs.declared.client.HtClient.{HtClient}
use Rattle.ck_htlaw.specs.Actions.{plan_now, tombstones_now}
use Rattle.ck_htlaw.specs.Calls.{tidy}
use Rattle.ck_htlaw.specs.Host.{first, inner, lies}
use Rattle.ck_htlaw.specs.Layout.{log_of}
use Rattle.ck_htlaw.specs.Reached.{with_signals}
use Rattle.ck_htlaw.specs.Table.{Layout, WriterState}
use Rattle.ck_htwrite.specs.declared.state.HtState.{HtState}
use Rattle.ck_htwrite.specs.declared.state.Need.{Need}
use Rattle.ck_arena.specs.Arena.{HasNoneFree}
use Rattle.ck_htwrite.specs.Rebuild.{AreTidying}
use Rattle.ck_htwrite.specs.State.{IsReady}
use Rattle.ck_htwrite.specs.Updates.{IsNeeded, IsRebuildDue, needed_log}
use Rattle.ck_htwrite.specs.Writes.{WriterIs, counters_in}
use Rattle.ck_htwrite.proofs.Agree.{tombstones_are}
use Rattle.ck_htwrite.proofs.Between.{same_writer}
use Rattle.ck_ht.specs.Updating.{AreUpdating, IsDue, due_log}
use Rattle.ck_ht.proofs.Settling.{is_within}

-- the same region is as long
pub log_kept : (Adds : Type 0) (root root' : ℕ) (r : Result Reply Need) → IfOk r (λ reply. (root' ≡ root) ⊎ Adds) → IfOk r (λ reply. (log_of root' ≡ log_of root) ⊎ Adds)
log_kept Adds root root' (Ok reply) h = ⊎_elim (λ e. inl (ap log_of e)) (λ a. inr a) h
log_kept Adds root root' (Err need) h = tt

module _ (o : Origin (Signals HtClient)) where
  abbrev l : Layout
  l = lies with_signals o

  -- what a fresh key needs
  pub of_need : (t : _) (s : HtState) (key : ℕ) (r : Result Reply Need) → IfErr r (λ need. (p : WriterState) → WriterIs with_signals o t p → IsNeeded with_signals o p (plan_now l p key) s need)
      → IfErr r (λ need. (p : WriterState) → WriterIs with_signals o t p → IsRebuildDue l p (plan_now l p key) × HasNoneFree s.arena (needed_log l p))
  of_need t s key (Ok reply) h = tt
  of_need t s key (Err need) h = λ p is. let n = h p is in (n.due, subst (HasNoneFree s.arena) n.log n.none)

  -- `tidy`, by the lists
  module _ {F : Type 0} (w w' : Writer (Signals HtClient) F) (s s' : HtState) (r : IsReady with_signals o w.token s) where
    abbrev Did : Type 0
    Did = (es : List Entry) × (k : ℕ) × (k ≤ 1) × AreTidying l (tidy ∷ []) s.tombstones s.root s'.root es × (w' ≡ record w { token = adding w.token es; calls = w.calls + k + 1; tally = w.tally + 1 })

    pub tidy_same : (x : Result Reply Need) → IfOk x (λ reply. Did) → IfErr x (λ need. (need ≡ record { shelf = 0; log = log_of s.root + 2 }) × (w' ≡ w) × (s' ≡ s))
        → MatchResult x (λ reply. w' ≡ record w { token = w'.token; calls = w'.calls; tally = w.tally + 1 }) (λ need. (w' ≡ w) × (s' ≡ s))
    tidy_same (Ok reply) d n = d.4 ∙ (λ i. record w { token = (sym d.4 i).token; calls = (sym d.4 i).calls; tally = w.tally + 1 })
    tidy_same (Err need) d n = (n.1, n.2)

    now : (p : WriterState) → WriterIs with_signals o w.token p → (s.tombstones ≡ tombstones_now l p) × (s.root ≡ p.root)
    now p is =
        let q = r.is_writer in
        let same = same_writer with_signals is_within o w.token s r p is in
        (tombstones_are (base_of (inner with_signals o)) (first with_signals o) (counters_in with_signals o) (inner with_signals o).config.client q s r.reflects ∙ ap (λ (x : WriterState). tombstones_now l x) same, sym r.reflects.root ∙ ap (λ (x : WriterState). x.root) same)

    pub tidy_steps : (x : Result Reply Need) → IfOk x (λ reply. Did) → IfOk x (λ reply. (p : WriterState) → WriterIs with_signals o w.token p → (es : List Entry) × AreUpdating l p Tidy es × (w'.token ≡ adding w.token es))
    tidy_steps (Ok reply) d = λ p is. let e = now p is in (d.0, (s'.root, subst (λ (y : ℕ × ℕ). AreTidying l (tidy ∷ []) y.0 y.1 s'.root d.0) (λ i. (e.0 i, e.1 i)) d.3), ap (λ (v : Writer (Signals HtClient) F). v.token) d.4)
    tidy_steps (Err need) d = tt

    pub tidy_need : (x : Result Reply Need) → (IsErr x → (0 < s.tombstones) × HasNoneFree s.arena (log_of s.root + 2)) → IfErr x (λ need. (p : WriterState) → WriterIs with_signals o w.token p → IsDue l p Tidy × HasNoneFree s.arena (due_log l p Tidy))
    tidy_need (Ok reply) n = tt
    tidy_need (Err need) n = λ p is. let e = now p is in let h = n refl in (subst (λ (k : ℕ). 0 < k) e.0 h.0, subst (λ (root : ℕ). HasNoneFree s.arena (log_of root + 2)) e.1 h.1)

  pub tidy_region : (Adds : Type 0) (s s' : HtState) (x : Result Reply Need) → IfOk x (λ reply. (s'.keys ≡ s.keys) × (s'.tombstones ≡ 0) × (log_of s'.root ≡ log_of s.root)) → IfOk x (λ reply. (log_of s'.root ≡ log_of s.root) ⊎ Adds)
  tidy_region Adds s s' (Ok reply) h = inl h.2
  tidy_region Adds s s' (Err need) h = tt
