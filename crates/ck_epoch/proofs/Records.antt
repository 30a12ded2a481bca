-- What a step keeps of one record, of its pass's stage and of the writer.
use Rattle.std.proofs.Common.{◌≡◌, ◌≢◌, ℕ, ◌<◌, ◌⊎◌, ⊎_elim, Some, [], ◌∷◌, ◌++◌, length, get_or, All, refl, arith}
use Rattle.ck_run.specs.declared.account.Entry.{Entry}
use Rattle.ck_run.specs.Run.{index_in, Run}
use Rattle.ck_epoch.specs.State.{Stage, outside, entering, holding, inside, Retirement, TokenState}
use Rattle.ck_epoch.specs.Epochs.{IsOpen}
use Rattle.ck_epoch.specs.Held.{halfway, GuardsSection, IsOpenAt, IsRecordHeld}
use Rattle.ck_run.proofs.Runs.{count, index_stays, index_below}

-- the entries that the writer's state names have been made
pub record AreMade (steps : ℕ) (w : TokenState) : Type 0 where
  pub pending : All (λ (k : Retirement). k.number < steps) w.pending
  pub dispatched : All (λ (k : Retirement). k.number < steps) w.dispatched
  pub half : (first : ℕ) → halfway w.stage ≡ Some first → first < steps
  pub waited : (first : ℕ) → w.waited ≡ Some first → first < steps

-- what guards a section depends on the places of entries that have been made
pub guarded_along : (global r g steps : ℕ) (older older' : ℕ → Type 0) (w : TokenState) → AreMade steps w → ((i : ℕ) → i < steps → older' i → older i)
    → GuardsSection global older r g w → GuardsSection global older' r g w
guarded_along global r g steps older older' w made back h = record {
  pending = λ k d l o. h.pending k d l (back (get_or w.pending k d).number (made.pending k d l) o);
  dispatched = λ k d l o. h.dispatched k d l (back (get_or w.dispatched k d).number (made.dispatched k d l) o);
  quiet = λ q k d l o. h.quiet q k d l (back (get_or w.pending k d).number (made.pending k d l) o);
  half = λ first is o. h.half first is (back first (made.half first is) o);
  waited = λ first is o. h.waited first is (back first (made.waited first is) o);
}

pub open_along : (global r steps : ℕ) (older older' : ℕ → Type 0) (w : TokenState) (g : Stage) → AreMade steps w → ((i : ℕ) → i < steps → older' i → older i)
    → IsOpenAt global older r w g → IsOpenAt global older' r w g
open_along global r steps older older' w (inside d g) made back h = guarded_along global r g steps older older' w made back h
open_along global r steps older older' w g made back h = h

-- a section that is older than nothing
young_guarded : (global r g steps : ℕ) (older : ℕ → Type 0) (w : TokenState) → AreMade steps w → ((i : ℕ) → i < steps → ¬ older i) → GuardsSection global older r g w
young_guarded global r g steps older w made young = record {
  pending = λ k d l o. absurd (young (get_or w.pending k d).number (made.pending k d l) o);
  dispatched = λ k d l o. young (get_or w.dispatched k d).number (made.dispatched k d l) o;
  quiet = λ q k d l o. young (get_or w.pending k d).number (made.pending k d l) o;
  half = λ first is o. absurd (young first (made.half first is) o);
  waited = λ first is o. young first (made.waited first is) o;
}

-- steps of a pass: the writer stays
module _ (past : Run) (n : ℕ) (e : Entry) (global r : ℕ) (w : TokenState) (made : AreMade (count past 0) w) (other : n ≢ 0) where
  abbrev now : Run
  now = past ++ (n, e) ∷ []

  back : (o i : ℕ) → i < count past 0 → o < index_in now 0 i → o < index_in past 0 i
  back o i l h = let s = index_stays past ((n, e) ∷ []) 0 i l in omega arith

  -- where no section opens
  kept_open : (active own : ℕ) (g : Stage) → IsRecordHeld past global active own r w g → (o : ℕ) → IsOpen past r o → IsOpenAt global (λ i. o < index_in now 0 i) r w g
  kept_open active own g h o is = open_along global r (count past 0) (λ i. o < index_in past 0 i) (λ i. o < index_in now 0 i) w g made (back o) (h.sections o is)

  -- a step that is none of this pass's, or on the client's words
  pub stays : (active own : ℕ) (g : Stage) → ((o : ℕ) → IsOpen now r o → IsOpen past r o) → IsRecordHeld past global active own r w g → IsRecordHeld now global active own r w g
  stays active own g was h = record {
    reading = h.reading;
    behind = h.behind;
    counted = h.counted;
    timely = h.timely;
    current = h.current;
    sections = λ o is. kept_open active own g h o (was o is);
  }

  module _ (active own : ℕ) (was : (o : ℕ) → IsOpen now r o → IsOpen past r o) where
    -- the active word becomes 1
    pub enters : IsRecordHeld past global active own r w outside → IsRecordHeld now global 1 own r w entering
    enters h = record { reading = tt; behind = h.behind; counted = refl; timely = tt; current = λ p. tt; sections = λ o is. h.sections o (was o is) }

    -- the global epoch is loaded
    pub loads : IsRecordHeld past global active own r w entering → IsRecordHeld now global active own r w (holding global)
    loads h = let b = h.behind in record {
      reading = tt;
      behind = h.behind;
      counted = h.counted;
      timely = (omega arith, omega arith, b);
      current = λ p. refl;
      sections = λ o is. h.sections o (was o is);
    }

    -- a section nests, or a nested one ends
    pub deepens : (d d' g : ℕ) → 0 < d' → IsRecordHeld past global active own r w (inside d g) → IsRecordHeld now global d' own r w (inside d' g)
    deepens d d' g some h = let t = h.timely in record {
      reading = tt;
      behind = h.behind;
      counted = refl;
      timely = (some, t.1, t.2, t.3);
      current = h.current;
      sections = λ o is. kept_open active own (inside d g) h o (was o is);
    }

  -- the record's epoch is stored: a section opens, and there was none
  pub opens : (active own g : ℕ) → ((o : ℕ) → IsOpen now r o → IsOpen past r o ⊎ (o ≡ length past)) → IsRecordHeld past global active own r w (holding g) → IsRecordHeld now global active g r w (inside 1 g)
  opens active own g cases h = let t = h.timely in record {
    reading = tt;
    behind = t.0;
    counted = h.counted;
    timely = (omega arith, refl, t.0, t.1);
    current = h.current;
    sections = λ o is. ⊎_elim
        (λ (old : IsOpen past r o). absurd (h.sections o old))
        (λ (new : o ≡ length past). young_guarded global r g (count past 0) (λ i. o < index_in now 0 i) w made
        (λ i l older. let b = index_below past 0 i l in let c = back o i l older in absurd (omega arith)))
        (cases o is);
  }

  -- the last section ends
  pub leaves : (active own d g : ℕ) → ((o : ℕ) → IsOpen now r o → ⊥) → IsRecordHeld past global active own r w (inside d g) → IsRecordHeld now global 0 own r w outside
  leaves active own d g none h = record { reading = tt; behind = h.behind; counted = refl; timely = tt; current = λ p. tt; sections = λ o is. none o is }
