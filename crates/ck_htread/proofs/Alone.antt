-- A look among whose steps no other token's step stands.
use Rattle.std.proofs.Common.{◌≡◌, ◌≢◌, ℕ, suc, Bool, true, false, cond, ◌==◌, eq-eqb, ne_eqb, List, [], ◌∷◌, ◌++◌, map, length, length-append, append-nil, append_assoc, refl, sym, ap, ◌∙◌, arith}
use Rattle.std.specs.Prelude.{Option}
use Rattle.std.specs.Ordering.{nat_cmp}
use Rattle.std.proofs.lemmas.List.{map-append, append_cancel_left}
use mathlib.Core.Option.{some}
use lib.ListN.{get_elem?}
use Rattle.atomic_table.proofs.Lists.{at_longer, at_last}
use Rattle.ck_run.specs.declared.account.Step.{Step}
use Rattle.ck_run.specs.declared.account.Step.TheVariants.{Load}
use Rattle.ck_run.specs.declared.account.Entry.{Entry}
use Rattle.ck_run.specs.Run.{Run, Fits, account, further, IsTrueRun}
use Rattle.ck_run.specs.Tokens.{adding, number, did}
use Rattle.ck_run.proofs.Runs.{account-append}
use Rattle.ck_run.proofs.Moments.{adding-append}
use Rattle.ck_run.proofs.Lists.{inside}
use Rattle.ck_history.specs.Map.{Map, find, after}
use Rattle.ck_epoch.specs.State.{Origin, Token}
use Rattle.ck_htlaw.specs.Actions.{most}
use Rattle.ck_htlaw.specs.Client.{answers_after}
use Rattle.ck_htlaw.specs.Host.{Host, lies}
use Rattle.ck_htlaw.specs.Law.{TableLaw, IsTableRun, updates_in, linearized, map_in}
use Rattle.ck_htlaw.specs.Linearized.{updates, linearized_updates}
use Rattle.ck_htlaw.specs.Table.{Layout}
use Rattle.ck_htread.specs.Answered.{looks_in, IsOut, PlacesLaw, steps_of, StandTogether}
use Rattle.ck_htread.specs.Reading.{look_entries}
use Rattle.ck_htread.specs.Scan.{SlotContent, has_key_words, slot_loads, scan_loads}
use Rattle.ck_htread.proofs.Placing.{map_then, looks_after}

-- no step stores
abbrev AreLoads : List Step → Type 0
AreLoads [] = Unit {0}
AreLoads (Load a x ∷ ss) = AreLoads ss
AreLoads ss = ⊥

either_loads : (b : Bool) (ss : List Step) → AreLoads ss → AreLoads (cond b ss [])
either_loads true ss h = h
either_loads false ss h = tt

loads_append : (xs ys : List Step) → AreLoads xs → AreLoads ys → AreLoads (xs ++ ys)
loads_append [] ys h g = g
loads_append (Load a x ∷ xs) ys h g = loads_append xs ys h g
loads_append xs ys h g = absurd h

scans_load : (l : Layout) (root key i : ℕ) (slots : List SlotContent) → AreLoads (scan_loads l root key i slots)
scans_load l root key i [] = tt
scans_load l root key i (s ∷ slots) = loads_append (slot_loads l root key i s) (scan_loads l root key (suc i) slots)
    (either_loads (s.state == 1) _ (either_loads (has_key_words (l.order root) key s) _ tt)) (scans_load l root key (suc i) slots)

-- a load after loads finds what stood before them
fits_after : (words : List ℕ) (n : ℕ) (ss : List Step) (s : Step) (rest : Run) → AreLoads ss → IsTrueRun words (steps_of n (map further (ss ++ s ∷ [])) ++ rest) → Fits words s
fits_after words n [] s rest h t = t.0
fits_after words n (Load a x ∷ ss) s rest h t = fits_after words n ss s rest h t.1
fits_after words n ss s rest h t = absurd h

-- the accounts of such steps
pub account_of : (n : ℕ) (es : List Entry) → account n (steps_of n es) ≡ es
account_of n [] = refl
account_of n (e ∷ es) = ap (λ (b : Bool). cond b (e ∷ account n (steps_of n es)) (account n (steps_of n es))) (eq-eqb n n refl) ∙ ap (λ (fs : List Entry). e ∷ fs) (account_of n es)

no_account_of : (n m : ℕ) (es : List Entry) → n ≢ m → account m (steps_of n es) ≡ []
no_account_of n m [] other = refl
no_account_of n m (e ∷ es) other = ap (λ (b : Bool). cond b (e ∷ account m (steps_of n es)) (account m (steps_of n es))) (ne_eqb n m other) ∙ no_account_of n m es other

-- of steps that stand together the first ones do
pub begin_together : {D : Type 0} (t u v : Token D) (es fs : List Entry) (past run : Run) → u ≡ adding t es → v ≡ adding u fs → StandTogether t v past run → StandTogether t u past run
begin_together t u v es fs past run a b s =
    let same : s.steps ≡ es ++ fs = append_cancel_left (did t) s.steps (es ++ fs) (ap did (sym s.made ∙ (b ∙ (ap (λ w. adding w fs) a ∙ adding-append t es fs)))) in
    record {
      steps = es;
      rest = steps_of (number t) fs ++ s.rest;
      made = a;
      before = s.before;
      splits = s.splits ∙ ap (λ (now : Run). past ++ now) ((λ j. steps_of (number t) (same j) ++ s.rest) ∙ ((λ j. map-append (λ e. (number t, e)) es fs j ++ s.rest) ∙ append_assoc (steps_of (number t) es) (steps_of (number t) fs) s.rest));
    }

module _ {D : Type 0} (host : Host D) (o : Origin D) where
  abbrev l : Layout
  l = lies host o

  -- the counter stands
  pub counter_stands : (words : List ℕ) (n key root before after : ℕ) (slots : List SlotContent) (rest : Run) → IsTrueRun words (steps_of n (look_entries host o key root before slots after) ++ rest) → before ≡ after
  counter_stands words n key root before after slots rest t = t.1.0 ∙ sym (fits_after words n (scan_loads l root key 0 slots) (Load (l.counter root) after) rest (scans_load l root key 0 slots) t.1.1)

  module _ (places : PlacesLaw host o) (law : TableLaw host o) (r : ℕ) (past rest : Run) (es : List Entry) (t : IsTableRun host o (past ++ (steps_of (suc r) es ++ rest))) (out : IsOut host o r past) where
    abbrev now : Run
    now = past ++ steps_of (suc r) es

    whole : past ++ (steps_of (suc r) es ++ rest) ≡ now ++ rest
    whole = sym (append_assoc past (steps_of (suc r) es) rest)

    -- the writer made none of these steps
    none_placed : account 0 now ≡ account 0 past
    none_placed = account-append 0 past (steps_of (suc r) es) ∙ (ap (λ (fs : List Entry). account 0 past ++ fs) (no_account_of (suc r) 0 es (λ e. absurd (omega arith))) ∙ append-nil (account 0 past))

    -- an answer that is given by these steps is the map's
    pub gives : (k : ℕ) (x : Option ℕ) → looks_in host o now r ≡ looks_in host o past r ++ (k, x) ∷ [] → find nat_cmp (map_in host o past) k ≡ x
    gives k x answered =
        let p = places (past ++ (steps_of (suc r) es ++ rest)) r t in
        let i : ℕ = length (looks_in host o past r) in
        let at : get_elem? (looks_in host o (past ++ (steps_of (suc r) es ++ rest)) r) i ≡ some (k, x) =
        ap (λ (run : Run). get_elem? (looks_in host o run r) i) whole
        ∙ (ap (λ (ls : List (ℕ × Option ℕ)). get_elem? ls i) (looks_after host o law r now rest).1 ∙ at_longer (looks_in host o now r) _ i (k, x) (ap (λ (ls : List (ℕ × Option ℕ)). get_elem? ls i) answered ∙ at_last (looks_in host o past r) (k, x) i refl)) in
        let one = ap length answered ∙ length-append (looks_in host o past r) ((k, x) ∷ []) in
        let least = p.1.are.since past (steps_of (suc r) es ++ rest) i refl out (omega arith) (inside _ i (k, x) at) in
        let highest = p.1.are.before now rest i whole (omega arith) in
        let none = ap (λ (fs : List Entry). length (linearized_updates (answers_after l o.words 0 fs))) none_placed in
        let place : p.0 i ≡ linearized host o past = omega arith in
        ap (λ (m : Map ℕ). find nat_cmp m k) (sym (map_then host o law past _ t)) ∙ (ap (λ (j : ℕ). find nat_cmp (after nat_cmp most (updates (updates_in host o (past ++ (steps_of (suc r) es ++ rest)))) j) k) (sym place) ∙ p.1.gave i k x at)
