-- A pass that is within a section has one that is open in the run.
use Rattle.std.proofs.Common.{◌≡◌, ◌≢◌, ℕ, suc, ◌+◌, ◌<◌, ◌⊎◌, ⊎_elim, inl, inr, Bool, true, false, cond, nat_lt, List, [], ◌∷◌, ◌++◌, length, append-nil, append_assoc, refl, sym, ap, ◌∙◌, subst, arith}
use Rattle.std.proofs.lemmas.Bool.Decides.{nat_tests}
use mathlib.Core.Logic.{dite}
use native.Mathlib.Decide.{ℕ_discrete}
use mathlib.Core.Option.{some}
use Rattle.atomic_table.proofs.Lists.{at_last}
use Rattle.ck_run.specs.declared.account.Step.{Step}
use Rattle.ck_run.specs.declared.account.Step.TheVariants.{Load, Store}
use Rattle.ck_run.specs.declared.account.Entry.{Entry}
use Rattle.ck_run.specs.Run.{Run, account}
use Rattle.ck_run.specs.Rule.{IsRun}
use Rattle.ck_run.specs.Machine.{follows_of}
use Rattle.ck_run.proofs.Runs.{account_here, account_else}
use Rattle.ck_run.proofs.Law.{state-append}
use Rattle.ck_run.proofs.Moments.{run_before, at_step}
use Rattle.ck_epoch.specs.State.{base, active_word, epoch_word, Stage, outside, entering, holding, inside, free, scanning, comparing, between, at_depth, depth_of, TokenState, after_step, next, MayStep, May, Origin, records_of, epochs, state_at}
use Rattle.ck_epoch.specs.Epochs.{IsOpen, stage_in, HasOpened}
use Rattle.ck_epoch.specs.Held.{IsOfPass}
use Rattle.ck_epoch.proofs.OpenSections.{still_open}
use Rattle.ck_epoch.proofs.EpochLaw.{held_after}
use Rattle.ck_run.proofs.Lists.{inside as index_below}

-- By induction along a run: what holds at its beginning and is kept by each of its steps holds at its end
pub along : (P : Run → Type 0) (run : Run) → ((past : Run) (n : ℕ) (e : Entry) (rest : Run) → run ≡ past ++ (n, e) ∷ rest → P past → P (past ++ (n, e) ∷ [])) → P [] → P run
along P run step first = go run [] refl first
  where
    go : (rest past : Run) → run ≡ past ++ rest → P past → P (past ++ rest)
    go [] past e p = subst P (sym (append-nil past)) p
    go (x ∷ rest) past e p = subst P (append_assoc past (x ∷ []) rest) (go rest (past ++ x ∷ []) (e ∙ sym (append_assoc past (x ∷ []) rest)) (step past x.0 x.1 rest e p))

-- a section that opens at the last step
pub opens_last : (past : Run) (n : ℕ) (e : Entry) (r g : ℕ) → n ≡ suc r → e.step ≡ Store (epoch_word r) g → IsOpen (past ++ (n, e) ∷ []) r (length past)
opens_last past n e r g mine is = record {
  opens = (e, g, at_last past (n, e) (length past) refl ∙ ap (λ (k : ℕ). some (k, e)) mine, is);
  lasts = λ c after ends. let b = index_below (past ++ (n, e) ∷ []) c (suc r, ends.0) ends.1 in let l = long past in absurd (omega arith);
}
  where
    long : (xs : Run) → length (xs ++ (n, e) ∷ []) ≡ length xs + 1
    long [] = refl
    long (x ∷ xs) = let h = long xs in omega arith

module _ (R : ℕ) (t : TokenState) (opens item : List ℕ) (low : t.rec < R) where
  abbrev Was : Step → Type 0
  Was s = ((g : ℕ) × (s ≡ Store (epoch_word t.rec) g)) ⊎ (((d : ℕ) × (g : ℕ) × (t.stage ≡ inside d g)) × (s ≡ Store (active_word t.rec) 0 → ⊥))

  lt_yes : (a b : ℕ) → a < b → nat_lt a b ≡ true
  lt_yes a b l = grind (arith, nat_tests)

  abbrev stored : Step → ℕ
  stored (Store a n) = n
  stored s = 1

  abbrev at_word : Step → ℕ
  at_word (Store a n) = a
  at_word s = 0

  not_inside : (b : Bool) (u v : TokenState) (d g : ℕ) → (u.stage ≡ inside d g → ⊥) → (v.stage ≡ inside d g → ⊥) → (cond b u v).stage ≡ inside d g → ⊥
  not_inside true u v d g a c e = a e
  not_inside false u v d g a c e = c e

  was : (g0 : Stage) → t.stage ≡ g0 → IsOfPass g0 → (s : Step) → MayStep R t opens item g0 s → (d g : ℕ) → (after_step R t opens item g0 s).stage ≡ inside d g → Was s
  was free is of s may d g e = absurd of
  was (scanning task x rec busy) is of s may d g e = absurd of
  was (comparing task x rec busy) is of s may d g e = absurd of
  was (between all started) is of s may d g e = absurd of
  was outside is of (Store a n) may d g e = absurd (not_inside (nat_lt a (base R)) (record t { stage = entering; calls = t.calls + 1 }) t d g (λ z. cc) (λ z. let y : outside ≡ inside d g = sym is ∙ z in cc) e)
  was outside is of (Load a n) may d g e = absurd (let y : outside ≡ inside d g = sym is ∙ e in cc)
  was entering is of (Load a n) may d g e = absurd (let y : holding n ≡ inside d g = e in cc)
  was (holding x) is of (Store a n) may d g e = inl (n, ap (λ (w : ℕ). Store w n) may.0)
  was (inside d0 g0) is of (Store a n) may d g e = inr ((d0, g0, is), λ z. absurd (ends z))
    where
      ends : Store a n ≡ Store (active_word t.rec) 0 → ⊥
      ends z = let w : a ≡ active_word t.rec = ap at_word z in let none : n ≡ 0 = ap stored z in
          let y : at_depth n g0 ≡ inside d g = subst (λ (b : Bool). (cond b (record t { stage = at_depth n g0; calls = t.calls + 1 }) t).stage ≡ inside d g) (lt_yes a (base R) (omega arith)) e in
          let v : at_depth 0 g0 ≡ inside d g = subst (λ (k : ℕ). at_depth k g0 ≡ inside d g) none y in cc
  was (inside d0 g0) is of (Load a n) may d g e = inr ((d0, g0, is), λ z. cc)
  was g0 is of s may d g e = absurd may

module _ {C : Type 0} (origin : Origin C) (r : ℕ) (low : r < records_of origin) where
  abbrev IsIn : Run → Type 0
  IsIn past = (d g : ℕ) → stage_in origin past r ≡ inside d g → (o : ℕ) × IsOpen past r o

  pub is_open : (run : Run) → IsRun (follows_of epochs) origin run → IsIn run
  is_open run is_run = along IsIn run step (λ d g e. absurd (let z : outside ≡ inside d g = e in cc))
    where
      step : (past : Run) (n : ℕ) (e : Entry) (rest : Run) → run ≡ past ++ (n, e) ∷ rest → IsIn past → IsIn (past ++ (n, e) ∷ [])
      step past n e rest whole h d g is = dite (ℕ_discrete n (suc r))
          (λ (mine : n ≡ suc r).
          let run' = subst (IsRun (follows_of epochs) origin) whole is_run in
          let t : TokenState = state_at origin (suc r) (account (suc r) past) in
          let before = held_after origin past (run_before epochs origin past ((n, e) ∷ rest) run') in
          let rec : t.rec ≡ r = before.numbered r in
          let may : May (records_of origin) t e = subst (λ (k : ℕ). May (records_of origin) (state_at origin k (account k past)) e) mine (at_step epochs origin past rest n e run').0 in
          let now : (next (records_of origin) t e).stage ≡ inside d g = sym (ap (λ (l : List Entry). (state_at origin (suc r) l).stage) (account_here past n (suc r) e mine) ∙ ap (λ (s : TokenState). s.stage) (state-append (epochs.next origin) (epochs.start origin (suc r)) (account (suc r) past) (e ∷ []))) ∙ is in
          ⊎_elim
          (λ (o : (g' : ℕ) × (e.step ≡ Store (epoch_word t.rec) g')). (length past, opens_last past n e r o.0 mine (o.1 ∙ ap (λ (k : ℕ). Store (epoch_word k) o.0) rec)))
          (λ (o : ((d' : ℕ) × (g' : ℕ) × (t.stage ≡ inside d' g')) × (e.step ≡ Store (active_word t.rec) 0 → ⊥)). let was_open = h o.0.0 o.0.1 o.0.2 in
          (was_open.0, still_open past n e r was_open.0 was_open.1 (λ _ ends. o.1 (ends ∙ ap (λ (k : ℕ). Store (active_word k) 0) (sym rec)))))
          (was (records_of origin) t e.opens e.item (subst (λ (k : ℕ). k < records_of origin) (sym rec) low) t.stage refl (before.each r low).reading e.step may d g now))
          (λ (other : n ≢ suc r).
          let was_open = h d g (sym (ap (λ (l : List Entry). (state_at origin (suc r) l).stage) (account_else past n (suc r) e other)) ∙ is) in
          (was_open.0, still_open past n e r was_open.0 was_open.1 (λ mine _. other mine)))

inside_is : (g : Stage) → 0 < depth_of g → (d : ℕ) × (n : ℕ) × (g ≡ inside d n)
inside_is (inside d n) h = (d, n, refl)
inside_is g h = absurd (omega arith)

pub has_opened : {C : Type 0} (origin : Origin C) (run : Run) → IsRun (follows_of epochs) origin run → HasOpened origin run
has_opened origin run is_run r low deep = let z = inside_is (stage_in origin run r) deep in is_open origin r low run is_run z.0 z.1 z.2
