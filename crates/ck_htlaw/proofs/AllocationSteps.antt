-- A step of the writer on the table's words keeps its allocation in order.
use Rattle.std.proofs.Common.{◌≡◌, ℕ, suc, ◌⊎◌, ⊎_elim, inl, inr, Bool, true, false, cond, ◌==◌, List, All, Contains, refl, sym, subst, ◌≤◌}
use Rattle.ck_run.specs.declared.account.Step.{Step}
use Rattle.ck_epoch.specs.State.{Retirement}
use Rattle.ck_htlaw.specs.Stages.{Target, empty, reuse, move, Insertion, Stage, idle, with_bump, with_value, with_low, with_high, twice, before_tombstone, with_tombstone, clearing, copying, retiring, retiring_at_end, after_rebuild}
use Rattle.ck_htlaw.specs.Table.{Layout, Action, inserts, stands, deletes, nothing, begins_rebuild, copies, publishes, tidies, WriterState, after_first, filled, copied, copy, second, MayWriterStep, released}
use Rattle.ck_htlaw.specs.Invariant.{BeginsRebuild, IsTaking, IsUnpublishedBy}
use Rattle.ck_reclaim.specs.Pieces.{AreApart}
use Rattle.ck_htlaw.specs.Layout.{log_of, IsPiece, region_item, IsTableItem, IsFreeRegion}
use Rattle.ck_htlaw.specs.Allocation.{IsBuilding, AllocationInvariant}
use Rattle.std.proofs.lemmas.List.Elements.{All-contains}
use Rattle.ck_run.proofs.Lists.{All-weaker}

-- what the step speaks of is taken by it, or was being built
pub hiding_from : (a : Action) (g : Stage) (root : ℕ) → IsUnpublishedBy a g root → IsTaking a g root ⊎ IsBuilding g root
hiding_from a idle root h = inl h
hiding_from a (after_rebuild c) root h = inl h
hiding_from a (clearing c other i) root h = inr h
hiding_from a (copying c other j g) root h = inr h
hiding_from a g root h = absurd h

module _ (l : Layout) where
  -- of the action a at the stage g the state is p' after p
  pub record Builds (p : WriterState) (a : Action) (g : Stage) (p' : WriterState) : Type 0 where
    pub now : (root : ℕ) → IsBuilding p'.stage root → (p'.root ≡ p.root) × (IsTaking a g root ⊎ IsBuilding g root)
    pub present : (p'.root ≡ p.root) ⊎ IsBuilding g p'.root

  cleared_is : (b : Bool) (call : List ℕ) (other i root : ℕ) → IsBuilding (cond b (copying call other 0 idle) (clearing call other i)) root → other ≡ root
  cleared_is true call other i root h = h
  cleared_is false call other i root h = h

  -- of a writer between two updates
  first_builds : (call : List ℕ) (q : WriterState) → q.stage ≡ idle → (a : Action) → ((after_first l call q a).root ≡ q.root) × ((root : ℕ) → IsBuilding (after_first l call q a).stage root → BeginsRebuild a root)
  first_builds call q e (inserts empty w) = (refl, λ root h. absurd h)
  first_builds call q e (inserts reuse w) = (refl, λ root h. absurd h)
  first_builds call q e (inserts (move from) w) = (refl, λ root h. absurd h)
  first_builds call q e (stands k s v) = (refl, λ root h. absurd h)
  first_builds call q e (deletes k s) = (refl, λ root h. absurd h)
  first_builds call q e nothing = (refl, λ root h. absurd (subst (λ (g : Stage). IsBuilding g root) e h))
  first_builds call q e (begins_rebuild other) = (refl, λ root h. cleared_is (1 == (l.order other).slots) call other 1 root h)
  first_builds call q e a = (refl, λ root h. absurd (subst (λ (g : Stage). IsBuilding g root) e h))

  copied_is : (call : List ℕ) (other j : ℕ) (a : Action) (g : Stage) (root : ℕ) → IsBuilding (copied call other j a g) root → other ≡ root
  copied_is call other j (copies i w) idle root h = h
  copied_is call other j a (with_value c w) root h = h
  copied_is call other j a (with_low c w) root h = h
  copied_is call other j a (with_high c w) root h = h
  copied_is call other j a g root h = h

  module _ (p : WriterState) where
    filled_builds : (c : Target) (w : Insertion) (a : Action) → Builds p a (with_high c w) (filled p c w)
    filled_builds empty w a = record { now = λ root h. absurd h; present = inl refl }
    filled_builds reuse w a = record { now = λ root h. absurd h; present = inl refl }
    filled_builds (move from) w a = record { now = λ root h. absurd h; present = inl refl }

    copy_builds : (c : List ℕ) (other j : ℕ) (a : Action) (g : Stage) → Builds p a (copying c other j g) (copy p c other j a g)
    copy_builds c other j publishes idle = record { now = λ root h. absurd h; present = inr refl }
    copy_builds c other j tidies idle = record { now = λ root h. absurd h; present = inr refl }
    copy_builds c other j a g = record { now = λ root h. (refl, inr (copied_is c other j a g root h)); present = inl refl }

    pub second_builds : (call : List ℕ) (a : Action) (g : Stage) (s : Step) → p.stage ≡ g → MayWriterStep l p a g s → Builds p a g (second l call p a g)
    second_builds call a idle s e may = let f = first_builds call p e a in record { now = λ root h. (f.0, inl (f.1 root h)); present = inl f.0 }
    second_builds call a (after_rebuild c) s e may = let f = first_builds c record p { stage = idle } refl a in record { now = λ root h. (f.0, inl (f.1 root h)); present = inl f.0 }
    second_builds call a (with_high c w) s e may = filled_builds c w a
    second_builds call a (copying c other j g) s e may = copy_builds c other j a g
    second_builds call a (clearing c other i) s e may = record { now = λ root h. (refl, inr (cleared_is (suc i == (l.order other).slots) c other (suc i) root h)); present = inl refl }
    second_builds call a (with_bump c w) s e may = record { now = λ root h. absurd h; present = inl refl }
    second_builds call a (with_value c w) s e may = record { now = λ root h. absurd h; present = inl refl }
    second_builds call a (with_low c w) s e may = record { now = λ root h. absurd h; present = inl refl }
    second_builds call a (twice from w) s e may = record { now = λ root h. absurd h; present = inl refl }
    second_builds call a (before_tombstone from w) s e may = record { now = λ root h. absurd h; present = inl refl }
    second_builds call a with_tombstone s e may = record { now = λ root h. absurd h; present = inl refl }
    second_builds call a (retiring old c) s e may = absurd may
    second_builds call a (retiring_at_end old) s e may = absurd may

module _ (counters place : ℕ) where
  -- what is pending after a step was so before, or is no item of the table
  abbrev pub AddsNone : List Retirement → List Retirement → Type 0
  AddsNone before after = All (λ (k : Retirement). Contains before k ⊎ (IsTableItem counters place k.retired.item → ⊥)) after

  pub free_kept : (current root : ℕ) (before after : List Retirement) → AddsNone before after → IsFreeRegion counters place current root before → IsFreeRegion counters place current root after
  free_kept current root before after was f = let Apart : Retirement → Type 0 = λ k. IsTableItem counters place k.retired.item → AreApart k.retired.item (region_item place root) in record {
    piece = f.piece;
    apart = f.apart;
    unused = All-weaker (λ (k : Retirement). Contains before k ⊎ (IsTableItem counters place k.retired.item → ⊥)) Apart after (λ k was of. ⊎_elim
        (λ (old : Contains before k). All-contains Apart before k f.unused old of)
        (λ (no : IsTableItem counters place k.retired.item → ⊥). absurd (no of)) was) was;
  }

  module _ (l : Layout) (p : WriterState) (before after : List Retirement) (allocation : AllocationInvariant counters place p before) (was : AddsNone before after) where
    -- a step of the table's
    pub allocation_step : (a : Action) (p' : WriterState) → Builds l p a p.stage p' → ((root : ℕ) → IsTaking a p.stage root → IsFreeRegion counters place p.root root before × (log_of root ≤ 19)) → AllocationInvariant counters place p' after
    allocation_step a p' b free = record {
      few = ⊎_elim (λ (e : p'.root ≡ p.root). subst (λ (root : ℕ). log_of root ≤ 19) (sym e) allocation.few) (λ (e : IsBuilding p.stage p'.root). allocation.small p'.root e) b.present;
      small = λ root h. ⊎_elim (λ (t : IsTaking a p.stage root). (free root t).1) (λ (t : IsBuilding p.stage root). allocation.small root t) (b.now root h).1;
      piece = ⊎_elim (λ (e : p'.root ≡ p.root). subst (IsPiece counters) (sym e) allocation.piece) (λ (e : IsBuilding p.stage p'.root). (allocation.hidden p'.root e).piece) b.present;
      hidden = λ root h. let n = b.now root h in subst (λ (current : ℕ). IsFreeRegion counters place current root after) (sym n.0)
          (free_kept p.root root before after was (⊎_elim (λ (t : IsTaking a p.stage root). (free root t).0) (λ (t : IsBuilding p.stage root). allocation.hidden root t) n.1));
    }

    -- another step
    pub allocation_stays : AllocationInvariant counters place p after
    allocation_stays = record { piece = allocation.piece; few = allocation.few; small = allocation.small; hidden = λ root h. free_kept p.root root before after was (allocation.hidden root h) }

-- the retirement
pub released_builds : (g : Stage) (root : ℕ) → IsBuilding (released g) root → IsBuilding g root
released_builds (retiring old c) root h = absurd h
released_builds (retiring_at_end old) root h = absurd h
released_builds g root h = h
