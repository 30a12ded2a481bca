-- Where the region of a reader's root stands for the writer after a step: it is the present one, or was replaced and isn't retired yet.
use Rattle.std.proofs.Common.{◌≡◌, ℕ, ⊎_elim, inl, inr, List}
use Rattle.ck_run.specs.declared.account.Step.{Step}
use Rattle.ck_htlaw.specs.Stages.{Target, empty, reuse, move, Insertion, Stage, idle, with_high, copying, retiring, retiring_at_end, after_rebuild}
use Rattle.ck_htlaw.specs.Table.{Layout, Action, inserts, publishes, tidies, WriterState, filled, after_first, copy, second, MayWriterStep}
use Rattle.ck_htlaw.specs.Invariant.{IsUnpublishedBy}
use Rattle.ck_htlaw.specs.Regions.{IsReplaced, Stands}

pub not_both : (a : Action) (g : Stage) (root other : ℕ) → IsUnpublishedBy a g root → IsReplaced g other → ⊥
not_both a (retiring old c) root other h r = h
not_both a (retiring_at_end old) root other h r = h
not_both a g root other h r = r

module _ (l : Layout) (p : WriterState) (other : ℕ) where
  first_stands : (call : List ℕ) (q : WriterState) (a : Action) → other ≡ q.root → Stands (after_first l call q a).root (after_first l call q a).stage other
  first_stands call q (inserts empty w) e = inl e
  first_stands call q (inserts reuse w) e = inl e
  first_stands call q (inserts (move from) w) e = inl e
  first_stands call q a e = inl e

  copy_stands : (c : List ℕ) (root j : ℕ) (a : Action) (g : Stage) → other ≡ p.root → Stands (copy p c root j a g).root (copy p c root j a g).stage other
  copy_stands c root j publishes idle e = inr e
  copy_stands c root j tidies idle e = inr e
  copy_stands c root j a g e = inl e

  filled_stands : (c : Target) (w : Insertion) → other ≡ p.root → Stands (filled p c w).root (filled p c w).stage other
  filled_stands empty w e = inl e
  filled_stands reuse w e = inl e
  filled_stands (move from) w e = inl e

  pub second_stands : (call : List ℕ) (a : Action) (g : Stage) (s : Step) → MayWriterStep l p a g s → Stands p.root g other → Stands (second l call p a g).root (second l call p a g).stage other
  second_stands call a idle s may h = ⊎_elim (λ e. first_stands call p a e) (λ (e : ⊥). absurd e) h
  second_stands call a (with_high c w) s may h = ⊎_elim (λ e. filled_stands c w e) (λ (e : ⊥). absurd e) h
  second_stands call a (copying c root j g) s may h = ⊎_elim (λ e. copy_stands c root j a g e) (λ (e : ⊥). absurd e) h
  second_stands call a (after_rebuild c) s may h = ⊎_elim (λ e. first_stands c record p { stage = idle } a e) (λ (e : ⊥). absurd e) h
  second_stands call a (retiring old c) s may h = absurd may
  second_stands call a (retiring_at_end old) s may h = absurd may
  second_stands call a g s may h = ⊎_elim (λ (e : other ≡ p.root). inl e) (λ (e : ⊥). absurd e) h
