-- The words at opening, as they are written one after the other.
use Rattle.std.proofs.Common.{◌≡◌, ◌≢◌, ℕ, ◌+◌, ◌<◌, ◌≤◌, List, length, replicate, set, get_or, length-set, get_or-set_other, get_or-set_same, sym, ap, ◌∙◌, subst, arith}
use Rattle.std.proofs.lemmas.List.{length-replicate, get_or-replicate}
use mathlib.Core.Logic.{dite}
use native.Mathlib.Decide.{ℕ_discrete}
use Rattle.ck_epoch.specs.State.{active_word, epoch_word}
use Rattle.ck_registry.specs.State.{state_word, IsOpening}
use Rattle.ck_registry.specs.Closing.{opened}

-- the epochs of the first `rec` records are written
pub record AreFirst (records rec : ℕ) (words : List ℕ) : Type 0 where
  pub long : length words ≡ state_word records records
  pub global : get_or words 0 0 ≡ 4
  pub active : (r : ℕ) → r < records → get_or words (active_word r) 0 ≡ 0
  pub epochs : (r : ℕ) → r < rec → get_or words (epoch_word r) 0 ≡ 4
  pub states : (r : ℕ) → r < records → get_or words (state_word records r) 0 ≡ 0

module _ (records : ℕ) where
  pub begin : (words : List ℕ) → words ≡ replicate (state_word records records) 0 → AreFirst records 0 (set words 0 4)
  begin words is = let n : length words ≡ state_word records records = ap length is ∙ length-replicate (state_word records records) 0 in record {
    long = length-set words 0 4 ∙ n;
    global = get_or-set_same words 0 4 0 (omega arith);
    active = λ r l. get_or-set_other words 0 (active_word r) 4 0 (omega arith) ∙ (ap (λ (ws : List ℕ). get_or ws (active_word r) 0) is ∙ get_or-replicate (state_word records records) (active_word r) 0 0 (omega arith));
    epochs = λ r l. absurd (omega arith);
    states = λ r l. get_or-set_other words 0 (state_word records r) 4 0 (omega arith) ∙ (ap (λ (ws : List ℕ). get_or ws (state_word records r) 0) is ∙ get_or-replicate (state_word records records) (state_word records r) 0 0 (omega arith));
  }

  pub epoch_more : (rec word : ℕ) (words : List ℕ) → word ≡ epoch_word rec → rec < records → AreFirst records rec words → AreFirst records (rec + 1) (set words word 4)
  epoch_more rec word words is low h = subst (λ (w : ℕ). AreFirst records (rec + 1) (set words w 4)) (sym is) (let n = h.long in record {
    long = length-set words (epoch_word rec) 4 ∙ n;
    global = get_or-set_other words (epoch_word rec) 0 4 0 (omega arith) ∙ h.global;
    active = λ r l. get_or-set_other words (epoch_word rec) (active_word r) 4 0 (omega arith) ∙ h.active r l;
    epochs = λ r l. dite (ℕ_discrete r rec)
        (λ (same : r ≡ rec). ap (λ (k : ℕ). get_or (set words (epoch_word rec) 4) (epoch_word k) 0) same ∙ get_or-set_same words (epoch_word rec) 4 0 (omega arith))
        (λ (other : r ≢ rec). get_or-set_other words (epoch_word rec) (epoch_word r) 4 0 (omega arith) ∙ h.epochs r (omega arith));
    states = λ r l. get_or-set_other words (epoch_word rec) (state_word records r) 4 0 (omega arith) ∙ h.states r l;
  })

  pub is_opening : (visitors : ℕ) (words : List ℕ) → 1 ≤ records → visitors ≤ 64 → AreFirst records records words → IsOpening (opened records visitors words)
  is_opening visitors words some few h = record { some_records = some; few = few; long = let n = h.long in omega arith; epoch = h.global; active = h.active; epochs = h.epochs; states = h.states }
