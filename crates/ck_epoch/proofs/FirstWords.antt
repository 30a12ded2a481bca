-- The words at opening, as they are written one after the other.
use Rattle.std.proofs.Common.{◌≡◌, ◌≢◌, ℕ, ◌+◌, ◌-◌, ◌<◌, ◌≤◌, List, [], ◌∷◌, ◌++◌, length, replicate, set, get_or, length-set, length-append, get_or-set_other, get_or-set_same, refl, sym, ap, ◌∙◌, subst, arith}
use Rattle.std.proofs.lemmas.List.{length-replicate, get_or-replicate, get_or_append_left, get_or-append_right}
use mathlib.Core.Logic.{dite}
use native.Mathlib.Decide.{ℕ_discrete}
use Rattle.ck_epoch.specs.State.{base, active_word, epoch_word}
use Rattle.ck_epoch.specs.Client.{Client}
use Rattle.ck_epoch.specs.Closing.{opened, AreOpening}

-- the epochs of the first `rec` records are written, and the first `at` words of the client
pub record AreFirst (records : ℕ) (first : ℕ → ℕ) (rec at : ℕ) (words : List ℕ) : Type 0 where
  pub long : length words ≡ base records + at
  pub global : get_or words 0 0 ≡ 4
  pub active : (r : ℕ) → r < records → get_or words (active_word r) 0 ≡ 0
  pub epochs : (r : ℕ) → r < rec → get_or words (epoch_word r) 0 ≡ 4
  pub client : (i : ℕ) → i < at → get_or words (base records + i) 0 ≡ first i

module _ (records : ℕ) (first : ℕ → ℕ) where
  pub begin : (words : List ℕ) → words ≡ replicate (base records) 0 → AreFirst records first 0 0 (set words 0 4)
  begin words is = let n : length words ≡ base records = ap length is ∙ length-replicate (base records) 0 in record {
    long = let m = length-set words 0 4 in omega arith;
    global = get_or-set_same words 0 4 0 (omega arith);
    active = λ r l. get_or-set_other words 0 (active_word r) 4 0 (omega arith) ∙ (ap (λ (ws : List ℕ). get_or ws (active_word r) 0) is ∙ get_or-replicate (base records) (active_word r) 0 0 (omega arith));
    epochs = λ r l. absurd (omega arith);
    client = λ i l. absurd (omega arith);
  }

  pub epoch_more : (rec word : ℕ) (words : List ℕ) → word ≡ epoch_word rec → rec < records → AreFirst records first rec 0 words → AreFirst records first (rec + 1) 0 (set words word 4)
  epoch_more rec word words is low h = subst (λ (w : ℕ). AreFirst records first (rec + 1) 0 (set words w 4)) (sym is) (let n = h.long in record {
    long = length-set words (epoch_word rec) 4 ∙ n;
    global = get_or-set_other words (epoch_word rec) 0 4 0 (omega arith) ∙ h.global;
    active = λ r l. get_or-set_other words (epoch_word rec) (active_word r) 4 0 (omega arith) ∙ h.active r l;
    epochs = λ r l. dite (ℕ_discrete r rec)
        (λ (same : r ≡ rec). ap (λ (k : ℕ). get_or (set words (epoch_word rec) 4) (epoch_word k) 0) same ∙ get_or-set_same words (epoch_word rec) 4 0 (omega arith))
        (λ (other : r ≢ rec). get_or-set_other words (epoch_word rec) (epoch_word r) 4 0 (omega arith) ∙ h.epochs r (omega arith));
    client = λ i l. absurd (omega arith);
  })

  pub client_more : (at x : ℕ) (words : List ℕ) → x ≡ first at → AreFirst records first records at words → AreFirst records first records (at + 1) (words ++ x ∷ [])
  client_more at x words gives h = let n = h.long in record {
    long = let m = length-append words (x ∷ []) in omega arith;
    global = get_or_append_left words (x ∷ []) 0 0 (omega arith) ∙ h.global;
    active = λ r l. get_or_append_left words (x ∷ []) 0 (active_word r) (omega arith) ∙ h.active r l;
    epochs = λ r l. get_or_append_left words (x ∷ []) 0 (epoch_word r) (omega arith) ∙ h.epochs r l;
    client = λ i l. dite (ℕ_discrete i at)
        (λ (same : i ≡ at). get_or-append_right words (x ∷ []) (base records + at) (base records + i) 0 n (omega arith)
        ∙ (ap (λ (k : ℕ). get_or (x ∷ []) k 0) (let zero_off : base records + i - (base records + at) ≡ 0 = omega arith in zero_off) ∙ (gives ∙ ap first (sym same))))
        (λ (other : i ≢ at). get_or_append_left words (x ∷ []) 0 (base records + i) (omega arith) ∙ h.client i (omega arith));
  }

pub are_opening : {C : Type 0} (client : Client C) (c : C) (records : ℕ) (words : List ℕ) → 1 ≤ records → AreFirst records (client.first c) records (client.size c) words → AreOpening client (opened c records words)
are_opening client c records words some h = (
  record { some_records = some; tokens = refl; long = let n = h.long in omega arith; epoch = h.global; active = h.active; epochs = h.epochs },
  record { long = h.long; words = h.client },
)
