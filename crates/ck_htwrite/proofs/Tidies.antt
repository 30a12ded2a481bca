-- When a `tidy` rebuilds, and how much room there is then.
use Rattle.std.proofs.Common.{◌≡◌, ◌≢◌, ℕ, zero, suc, ◌+◌, ◌<◌, ◌≤◌, Bool, cond, ◌==◌, eq-eqb, ne_eqb, List, [], ◌∷◌, sym, ap, ◌∙◌, arith}
use mathlib.Core.Logic.{dite}
use native.Mathlib.Decide.{ℕ_discrete}
use Rattle.ck_run.specs.declared.account.Step.{Step}
use Rattle.ck_run.specs.Run.{entry}
use Rattle.ck_run.specs.Range.{word_of}
use Rattle.ck_history.specs.declared.update.Update.TheVariants.{Tidy}
use Rattle.ck_history.specs.declared.update.Reply.TheVariants.{Tidied}
use Rattle.ck_slots.specs.Counting.{count as how_many, used}
use Rattle.ck_slots.proofs.Counts.{count_here, count_else, used_below}
use Rattle.ck_htlaw.specs.Calls.{tidy, opening_of}
use Rattle.ck_htlaw.specs.Layout.{log_of}
use Rattle.ck_htlaw.specs.Stages.{idle}
use Rattle.ck_htlaw.specs.Table.{Layout, WriterState, Action, nothing, begins_rebuild}
use Rattle.ck_htlaw.specs.Actions.{action, answer_to, by_stage, root_at, tombstones_now, when_copied}
use Rattle.ck_htwrite.specs.Rebuild.{BeginsRebuildAt, EndsAfter}

module _ (l : Layout) (p : WriterState) (idles : p.stage ≡ idle) (opens : List ℕ) (name : opens ≡ tidy ∷ []) where
  abbrev due : ℕ → Action
  due word = cond (tombstones_now l p == 0) nothing (begins_rebuild (root_at l p word (log_of p.root)))

  about : (x : Step) → action l p (entry opens x) ≡ due (word_of x)
  about x i = by_stage l p (idles i) (entry (name i) x)

  pub nothing_due : tombstones_now l p ≡ 0 → (x : Step) → action l p (entry opens x) ≡ nothing
  nothing_due none x = about x ∙ ap (λ (b : Bool). cond b nothing (begins_rebuild (root_at l p (word_of x) (log_of p.root)))) (eq-eqb (tombstones_now l p) 0 none)

  pub rebuild_due : tombstones_now l p ≢ 0 → (root : ℕ) → log_of root ≡ log_of p.root → BeginsRebuildAt l p opens root
  rebuild_due some root same x = about x ∙ (ap (λ (b : Bool). cond b nothing (begins_rebuild (root_at l p (word_of x) (log_of p.root)))) (ne_eqb (tombstones_now l p) 0 some)
      ∙ ap (λ (c : ℕ). begins_rebuild (root_at l p (word_of x) c)) (sym same))

  pub answer_is : answer_to l p (opening_of opens) ≡ record { update = Tidy; reply = Tidied }
  answer_is = ap (λ (xs : List ℕ). answer_to l p (opening_of xs)) name

  pub ends : EndsAfter l opens
  ends q = ap (λ (xs : List ℕ). when_copied l q (opening_of xs)) name

-- full slots and tombstones are in use
counts_used : (f : ℕ → ℕ) (n : ℕ) → how_many f 1 n + how_many f 2 n ≤ used f n
counts_used f zero = omega arith
counts_used f (suc n) = let r = counts_used f n in dite (ℕ_discrete (f n) 1)
    (λ (e : f n ≡ 1). let a = count_here f 1 n e in let b = count_else f 2 n (λ z. absurd (omega arith)) in let u : used f (suc n) ≡ suc (used f n) = ap (λ (t : Bool). cond t (used f n) (suc (used f n))) (ne_eqb (f n) 0 (λ z. absurd (omega arith))) in omega arith)
    (λ (d : f n ≢ 1). dite (ℕ_discrete (f n) 2)
    (λ (e : f n ≡ 2). let a = count_here f 2 n e in let b = count_else f 1 n d in let u : used f (suc n) ≡ suc (used f n) = ap (λ (t : Bool). cond t (used f n) (suc (used f n))) (ne_eqb (f n) 0 (λ z. absurd (omega arith))) in omega arith)
    (λ (c : f n ≢ 2). let a = count_else f 2 n c in let b = count_else f 1 n d in let u = used_more f n in omega arith))
  where
    used_more : (f : ℕ → ℕ) (n : ℕ) → used f n ≤ used f (suc n)
    used_more f n = dite (ℕ_discrete (f n) 0)
        (λ (z : f n ≡ 0). let u : used f (suc n) ≡ used f n = ap (λ (t : Bool). cond t (used f n) (suc (used f n))) (eq-eqb (f n) 0 z) in omega arith)
        (λ (z : f n ≢ 0). let u : used f (suc n) ≡ suc (used f n) = ap (λ (t : Bool). cond t (used f n) (suc (used f n))) (ne_eqb (f n) 0 z) in omega arith)

-- where tombstones stand, a region of as many slots has room
pub tidy_fits : (f : ℕ → ℕ) (n keys tombstones : ℕ) → keys ≡ how_many f 1 n → tombstones ≡ how_many f 2 n → ((e : ℕ) × (e < n) × (f e ≡ 0)) → tombstones ≢ 0 → keys + 2 ≤ n
tidy_fits f n keys tombstones is are hole some = let a = counts_used f n in let b = used_below f hole.0 n hole.1 hole.2 in omega arith
