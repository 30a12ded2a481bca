-- The writer unlinks no region without retiring it, or being about to.
use Rattle.std.proofs.Common.{◌≡◌, ℕ, ◌-◌, ◌⊎◌, ⊎_elim, inl, inr, Bool, true, false, cond, List, [], ◌∷◌, ◌++◌, sym, ap, ◌∙◌, subst}
use Rattle.ck_run.specs.declared.account.Entry.{Entry}
use Rattle.ck_run.specs.Run.{words_after, account}
use Rattle.ck_run.proofs.Law.{obeys_at, state-append}
use Rattle.ck_epoch.specs.State.{Origin, base_of}
use Rattle.ck_epoch.specs.Within.{IsWithin}
use Rattle.ck_reclaim.specs.Pieces.{HandsOver}
use Rattle.ck_reclaim.specs.Reclaim.{RetiresWhatItUnlinks}
use Rattle.ck_htlaw.specs.Calls.{key_of}
use Rattle.ck_htlaw.specs.Stages.{Stage, retiring, retiring_at_end}
use Rattle.ck_htlaw.specs.Table.{Layout, WriterState, LocalState, writer, is_table_word, is_table_item, released, released_log, second, after_own, after_other, MayRetire, MayOtherIf, MayIf}
use Rattle.ck_htlaw.specs.Actions.{action}
use Rattle.ck_htlaw.specs.Layout.{region_item}
use Rattle.ck_htlaw.specs.Client.{table_next, table_may, local_after, start, table}
use Rattle.ck_htlaw.specs.Host.{Host, first, lies}
use Rattle.ck_htlaw.specs.Regions.{IsReplaced, Stands, IsLinkedRegion, regions}
use Rattle.ck_htlaw.proofs.Replacing.{second_stands}

-- what is retired was replaced
retired_is : (l : Layout) (g : Stage) (item : List ℕ) (root : ℕ) → MayRetire l g item → IsReplaced g root → item ≡ l.item root
retired_is l (retiring old c) item root m e = m ∙ sym (ap l.item e)
retired_is l (retiring_at_end old) item root m e = m ∙ sym (ap l.item e)
retired_is l g item root m e = absurd e

module _ {D : Type 0} (host : Host D) (within : IsWithin table host.client host.place host.part) where
  module _ (origin : Origin D) (es : List Entry) (e : Entry) (root : ℕ) where
    abbrev l : Layout
    l = lies host origin

    abbrev Next : LocalState → Type 0
    Next h = local_after l origin.words 0 (es ++ e ∷ []) ≡ h

    module _ (p : WriterState) (stands : Stands p.root p.stage root) where
      by_item : (b : Bool) → MayOtherIf l b p.stage e → Stands p.root (cond b (released p.stage) p.stage) root ⊎ HandsOver e (region_item (first host origin - base_of origin) root)
      by_item true m = ⊎_elim (λ (a : root ≡ p.root). inl (inl a)) (λ (a : IsReplaced p.stage root). inr (retired_is l p.stage e.item root m.0 a)) stands
      by_item false m = inl stands

      -- on the table's words or on others
      by_word : (b : Bool) → MayIf l (action l) key_of b (writer p) e → Next (cond b (after_own l (action l) key_of (writer p) e) (after_other l (writer p) e))
          → IsLinkedRegion host origin (es ++ e ∷ []) root ⊎ HandsOver e (region_item (first host origin - base_of origin) root)
      by_word true m next = inl (record (second l e.opens p (action l p e) p.stage) { words = words_after p.words e.step }, next, second_stands l p root e.opens (action l p e) p.stage e.step m.0 stands)
      by_word false m next = ⊎_elim
          (λ (s : Stands p.root (cond (is_table_item l e.item) (released p.stage) p.stage) root).
          inl (record p { stage = cond (is_table_item l e.item) (released p.stage) p.stage; log = cond (is_table_item l e.item) (released_log p.stage p.log) p.log }, next, s))
          (λ h. inr h) (by_item (is_table_item l e.item) m)

  pub retires_regions : RetiresWhatItUnlinks (regions host)
  retires_regions origin past more e run root linked =
      let l : Layout = lies host origin in
      let p : WriterState = linked.0 in
      let shown = within.shows (base_of origin) origin 0 (account 0 (past ++ (0, e) ∷ more)) (run.follow 0).3 in
      let may : table_may l (writer p) e = subst (λ (h : LocalState). table_may l h e) linked.1 (obeys_at (table_next l) (table_may l) (start l origin.words 0) 0 past more e shown.0) in
      let next : local_after l origin.words 0 (account 0 past ++ e ∷ []) ≡ table_next l (writer p) e = state-append (table_next l) (start l origin.words 0) (account 0 past) (e ∷ []) ∙ ap (λ (h : LocalState). table_next l h e) linked.1 in
      by_word origin (account 0 past) e root p linked.2 (is_table_word l e.step) may next
