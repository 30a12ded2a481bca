-- The sections that are open as a run goes on.
use Rattle.std.proofs.Common.{◌≡◌, ◌≢◌, ℕ, suc, ◌<◌, ◌⊎◌, ⊎_elim, inl, inr, [], ◌∷◌, ◌++◌, length, refl, ap, ◌∙◌}
use mathlib.Core.Option.{some}
use lib.ListN.{get_elem?}
use Rattle.atomic_table.proofs.Lists.{at_longer, at_last}
use Rattle.ck_run.specs.declared.account.Step.TheVariants.{Store}
use Rattle.ck_run.specs.declared.account.Entry.{Entry}
use Rattle.ck_run.specs.Run.{Run}
use Rattle.ck_run.proofs.Lists.{inside, at_end, at_shorter}
use Rattle.ck_epoch.specs.State.{active_word, epoch_word}
use Rattle.ck_epoch.specs.Epochs.{IsOpen}

pub opened_before : (run : Run) (r o : ℕ) → IsOpen run r o → o < length run
opened_before run r o h = inside run o (suc r, h.opens.0) h.opens.2

module _ (past : Run) (n : ℕ) (e : Entry) (r o : ℕ) (h : IsOpen (past ++ (n, e) ∷ []) r o) where
  -- a section that is open was open before, or this very step opened it
  pub open_cases : IsOpen past r o ⊎ ((o ≡ length past) × (n ≡ suc r) × ((g : ℕ) × (e.step ≡ Store (epoch_word r) g)))
  open_cases = ⊎_elim
      (λ (old : get_elem? past o ≡ some (suc r, h.opens.0)). inl record {
        opens = (h.opens.0, h.opens.1, old, h.opens.3);
        lasts = λ c after ends. h.lasts c after (ends.0, at_longer past ((n, e) ∷ []) c (suc r, ends.0) ends.1, ends.2);
      })
      (λ (new : (o ≡ length past) × ((n, e) ≡ (suc r, h.opens.0))). inr (new.0, ap (λ (x : ℕ × Entry). x.0) new.1, (h.opens.1, ap (λ (x : ℕ × Entry). x.1.step) new.1 ∙ h.opens.3)))
      (at_end past (n, e) (suc r, h.opens.0) o h.opens.2)

  -- a step of another token
  pub open_else : n ≢ suc r → IsOpen past r o
  open_else other = ⊎_elim (λ old. old) (λ new. absurd (other new.1)) open_cases

  -- a step on other words
  pub open_stays : ((g : ℕ) → e.step ≢ Store (epoch_word r) g) → IsOpen past r o
  open_stays other = ⊎_elim (λ old. old) (λ new. absurd (other new.2.0 new.2.1)) open_cases

  -- it does not end at this step
  pub not_ended : IsOpen past r o → n ≡ suc r → e.step ≡ Store (active_word r) 0 → ⊥
  not_ended old mine ends = h.lasts (length past) (opened_before past r o old) (e, at_last past (n, e) (length past) refl ∙ ap (λ (k : ℕ). some (k, e)) mine, ends)

-- A section stays open at a step that doesn't end it
pub still_open : (past : Run) (n : ℕ) (e : Entry) (r o : ℕ) → IsOpen past r o → (n ≡ suc r → e.step ≡ Store (active_word r) 0 → ⊥) → IsOpen (past ++ (n, e) ∷ []) r o
still_open past n e r o h not_end = record {
  opens = (h.opens.0, h.opens.1, at_longer past ((n, e) ∷ []) o (suc r, h.opens.0) h.opens.2, h.opens.3);
  lasts = λ c after ends. ⊎_elim
      (λ (old : get_elem? past c ≡ some (suc r, ends.0)). h.lasts c after (ends.0, old, ends.2))
      (λ (new : (c ≡ length past) × ((n, e) ≡ (suc r, ends.0))). not_end (ap (λ (x : ℕ × Entry). x.0) new.1) (ap (λ (x : ℕ × Entry). x.1.step) new.1 ∙ ends.2))
      (at_end past (n, e) (suc r, ends.0) c ends.1);
}

-- a section that is open at the end was open at each moment since it opened
pub was_open : (run more : Run) (r o : ℕ) → o < length run → IsOpen (run ++ more) r o → IsOpen run r o
was_open run more r o low h = record {
  opens = (h.opens.0, h.opens.1, at_shorter run more o (suc r, h.opens.0) low h.opens.2, h.opens.3);
  lasts = λ c after ends. h.lasts c after (ends.0, at_longer run more c (suc r, ends.0) ends.1, ends.2);
}
