-- The table's root is at each moment that of a region of its arena, and so a token that loads it has such a one.
use Rattle.std.proofs.Common.{◌≡◌, ℕ, List, [], ◌∷◌, ◌++◌, refl, sym, ap, ◌∙◌, subst}
use Rattle.std.specs.Prelude.{slice_index}
use Rattle.ck_run.specs.declared.account.Step.TheVariants.{Load}
use Rattle.ck_run.specs.declared.account.Entry.{Entry}
use Rattle.ck_run.specs.Run.{entry}
use Rattle.ck_run.specs.Tokens.{adding, did, number, origin}
use Rattle.ck_run.proofs.Runs.{split, true_parts}
use Rattle.ck_epoch.specs.State.{Origin, Token}
use Rattle.ck_epoch.specs.Epochs.{Reclamation}
use Rattle.ck_epoch.specs.Ends.{IsDomainToken}
use Rattle.ck_epoch.specs.Within.{IsWithin}
use Rattle.ck_reclaim.specs.Reclaim.{ReclaimsPieces}
use Rattle.ck_htlaw.specs.Actions.{action}
use Rattle.ck_htlaw.specs.Client.{table, table_next, table_may}
use Rattle.ck_htlaw.specs.Invariant.{SideCondition}
use Rattle.ck_htlaw.specs.Host.{Host, first, lies}
use Rattle.ck_htlaw.specs.Known.{IsRoot}
use Rattle.ck_htlaw.specs.Law.{IsTableRun, root_in}
use Rattle.ck_htlaw.specs.Layout.{counters_of}
use Rattle.ck_htlaw.specs.Regions.{regions}
use Rattle.ck_htlaw.specs.Table.{Layout, mark}
use Rattle.ck_htlaw.proofs.Always.{always_at}
use Rattle.ck_htlaw.proofs.AtOpening.{opening}
use Rattle.ck_htlaw.proofs.Reclaim.{l as layout_in}
use Rattle.ck_htlaw.proofs.Scenes.{after_words}
use Rattle.ck_htlaw.proofs.Soundness.{plan_right}
use Rattle.ck_htread.specs.Roots.{RootsLaw}

module _ {D : Type 0} (host : Host D) (within : IsWithin table host.client host.place host.part) (law : Reclamation D) (pieces : ReclaimsPieces (regions host)) (o : Origin D) where
  pub roots_hold : RootsLaw host o
  roots_hold past rest run =
      let h = always_at host within law pieces o (plan_right (layout_in host within law pieces o) (λ root. ((λ k. refl), (λ k. refl)))) past rest run in
      let b = h.allocation h.is_table.writer_state h.is_table.is_writer in
      let words = after_words (table_next (lies host o)) (table_may (lies host o)) mark (SideCondition (lies host o) (action (lies host o))) (opening (lies host o) o.words) past in
      let root : root_in host o past ≡ h.is_table.writer_state.root = ap (λ (ws : List ℕ). slice_index ws (first host o)) (sym words) ∙ h.is_table.holds.root in
      subst (IsRoot (counters_of (host.part o.config.client))) (sym root) (record { piece = b.piece; few = b.few })

module _ {D : Type 0} (host : Host D) (o : Origin D) where
  abbrev l : Layout
  l = lies host o

  -- what was loaded is a root
  pub root_loaded : RootsLaw host o → (t u : Token D) → origin t ≡ o → IsDomainToken host.client u → (opens : List ℕ) (x : ℕ) → u ≡ adding t (entry opens (Load l.base x) ∷ []) → IsRoot (counters_of (host.part o.config.client)) x
  root_loaded law t u same run opens x made =
      let e : Entry = entry opens (Load l.base x) in
      let v = subst (λ (w : Token D). IsDomainToken host.client w) made run in
      let m = split (number t) v.run (did t) e [] v.mine in
      let is_run : IsTableRun host o (m.past ++ (number t, e) ∷ m.rest) = subst (λ (q : Origin D). IsTableRun host q (m.past ++ (number t, e) ∷ m.rest)) same (subst (IsTableRun host (origin t)) m.parts v.is_run) in
      let fits : x ≡ root_in host o m.past = (true_parts o.words m.past ((number t, e) ∷ m.rest) is_run.is_true).1.0 in
      subst (IsRoot (counters_of (host.part o.config.client))) (sym fits) (law m.past ((number t, e) ∷ m.rest) is_run)
