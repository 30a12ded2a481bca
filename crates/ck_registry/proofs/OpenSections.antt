-- The sections that are open as a run goes on, and the entries that have been made.
use Rattle.std.proofs.Common.{◌≡◌, ◌≢◌, ℕ, ◌+◌, ◌<◌, ◌≤◌, ◌⊎◌, ⊎_elim, inl, inr, List, [], ◌∷◌, ◌++◌, length, length-append, get_or, All, refl, ap, ◌∙◌, arith}
use Rattle.std.proofs.lemmas.List.Elements.{All-weaker}
use mathlib.Core.Option.{some}
use lib.ListN.{get_elem?}
use Rattle.atomic_table.proofs.Lists.{at_longer, at_last}
use Rattle.ck_run.specs.declared.account.Step.TheVariants.{Store}
use Rattle.ck_run.specs.declared.account.Entry.{Entry}
use Rattle.ck_run.specs.Run.{Run}
use Rattle.ck_run.proofs.Lists.{inside, at_end}
use Rattle.ck_epoch.specs.State.{active_word, epoch_word, Retirement}
use Rattle.ck_epoch.specs.Epochs.{IsRetired}
use Rattle.ck_registry.specs.Epochs.{IsSectionOpen}
use Rattle.ck_registry.specs.Held.{IsPendingItem}

opened_before : (run : Run) (r o : ℕ) → IsSectionOpen run r o → o < length run
opened_before run r o h = inside run o (h.opens.0, h.opens.1.0) h.opens.1.2

module _ (past : Run) (n : ℕ) (e : Entry) (r o : ℕ) (h : IsSectionOpen (past ++ (n, e) ∷ []) r o) where
  -- a section that is open was open before, or this very step opened it
  pub open_cases : IsSectionOpen past r o ⊎ ((o ≡ length past) × ((g : ℕ) × (e.step ≡ Store (epoch_word r) g)))
  open_cases = ⊎_elim
      (λ (old : get_elem? past o ≡ some (h.opens.0, h.opens.1.0)). inl record {
        opens = (h.opens.0, (h.opens.1.0, h.opens.1.1, old, h.opens.1.3));
        lasts = λ c after ends. h.lasts c after (ends.0, (ends.1.0, at_longer past ((n, e) ∷ []) c (ends.0, ends.1.0) ends.1.1, ends.1.2));
      })
      (λ (new : (o ≡ length past) × ((n, e) ≡ (h.opens.0, h.opens.1.0))). inr (new.0, (h.opens.1.1, ap (λ (x : ℕ × Entry). x.1.step) new.1 ∙ h.opens.1.3)))
      (at_end past (n, e) (h.opens.0, h.opens.1.0) o h.opens.1.2)

  -- a step that opens none
  pub open_stays : ((g : ℕ) → e.step ≢ Store (epoch_word r) g) → IsSectionOpen past r o
  open_stays other = ⊎_elim (λ old. old) (λ new. absurd (other new.1.0 new.1.1)) open_cases

  -- it does not end at this step
  pub not_ended : IsSectionOpen past r o → e.step ≡ Store (active_word r) 0 → ⊥
  not_ended old ends = h.lasts (length past) (opened_before past r o old) (n, (e, at_last past (n, e) (length past) refl, ends))

-- the entries of an account that is one longer
module _ (entries : List Entry) (e : Entry) where
  abbrev pub more : List Entry
  more = entries ++ e ∷ []

  pub one_longer : length more ≡ length entries + 1
  one_longer = length-append entries (e ∷ [])

  pub retired_more : (items : List Retirement) → All (IsRetired entries) items → All (IsRetired more) items
  retired_more items h = All-weaker (IsRetired entries) (IsRetired more) (λ k r. (r.0, at_longer entries (e ∷ []) k.number _ r.1)) items h

  pub pending_more : (global global' : ℕ) → global ≤ global' → (items : List Retirement) → All (IsPendingItem global entries) items → All (IsPendingItem global' more) items
  pending_more global global' up items h = All-weaker (IsPendingItem global entries) (IsPendingItem global' more) (λ k r. ((r.0.0, at_longer entries (e ∷ []) k.number _ r.0.1), let b = r.1 in omega arith)) items h

-- an item that is pending was retired
pub told : (global : ℕ) (entries : List Entry) (items : List Retirement) → All (IsPendingItem global entries) items → All (IsRetired entries) items
told global entries items h = All-weaker (IsPendingItem global entries) (IsRetired entries) (λ k r. r.0) items h

-- by an entry that has been made
pub are_made : (entries : List Entry) (items : List Retirement) → All (IsRetired entries) items → All (λ (k : Retirement). k.number < length entries) items
are_made entries items h k d l = let p = h k d l in inside entries (get_or items k d).number _ p.1
