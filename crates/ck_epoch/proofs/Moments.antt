-- What the law tells at a step of a token, in whatever true run it stands.
use Rattle.std.proofs.Common.{◌≡◌, ◌≢◌, ℕ, suc, ◌<◌, cond, eq-eqb, ne_eqb, List, [], ◌∷◌, ◌++◌, drop, get_or, refl, sym, ap, ◌∙◌, subst}
use mathlib.Core.Logic.{dite}
use native.Mathlib.Decide.{ℕ_discrete}
use Rattle.ck_run.specs.declared.account.Step.TheVariants.{Load, Exchange}
use Rattle.ck_run.specs.declared.account.Entry.{Entry}
use Rattle.ck_run.specs.Run.{Run, Fits, replay, account}
use Rattle.ck_run.specs.Rule.{Follows, IsRun}
use Rattle.ck_run.specs.Tokens.{origin, number, did, Makes}
use Rattle.ck_run.specs.Machine.{IsAt, follows_of}
use Rattle.ck_run.proofs.Moments.{run_weaker, run_before, at_step}
use Rattle.ck_epoch.specs.declared.about.About.{About}
use Rattle.ck_epoch.specs.State.{Token, TokenState, Origin, records_of, epochs, state_at, active_word, epoch_word}
use Rattle.ck_epoch.specs.Held.{IsRecordHeld, IsWriterHeld}
use Rattle.ck_epoch.proofs.EpochLaw.{Held, held_after}

abbrev first_or : Entry → List Entry → Entry
first_or e [] = e
first_or e (x ∷ xs) = x

-- where the last entry of an account stands in a run
record Last (n : ℕ) (run : Run) (es : List Entry) (e : Entry) : Type 0 where
  past : Run
  rest : Run
  whole : run ≡ past ++ (n, e) ∷ rest
  before : account n past ≡ es

after_other : (n : ℕ) (x : ℕ × Entry) (run : Run) (es : List Entry) (e : Entry) → x.0 ≢ n → Last n run es e → Last n (x ∷ run) es e
after_other n x run es e other l = record {
  past = x ∷ l.past;
  rest = l.rest;
  whole = ap (λ (r : Run). x ∷ r) l.whole;
  before = ap (λ b. cond b (x.1 ∷ account n l.past) (account n l.past)) (ne_eqb x.0 n other) ∙ l.before;
}

after_mine : (n : ℕ) (x : ℕ × Entry) (run : Run) (es : List Entry) (e : Entry) → x.0 ≡ n → Last n run es e → Last n (x ∷ run) (x.1 ∷ es) e
after_mine n x run es e same l = record {
  past = x ∷ l.past;
  rest = l.rest;
  whole = ap (λ (r : Run). x ∷ r) l.whole;
  before = ap (λ b. cond b (x.1 ∷ account n l.past) (account n l.past)) (eq-eqb x.0 n same) ∙ ap (λ (l : List Entry). x.1 ∷ l) l.before;
}

last_mine : (n : ℕ) (x : ℕ × Entry) (run : Run) (es : List Entry) (e : Entry) → x.0 ≡ n → x.1 ∷ account n run ≡ es ++ e ∷ [] → ((fs : List Entry) → account n run ≡ fs ++ e ∷ [] → Last n run fs e) → Last n (x ∷ run) es e
last_mine n x run [] e same h more = record { past = []; rest = run; whole = λ i. (same i, ap (λ (l : List Entry). first_or e l) h i) ∷ run; before = refl }
last_mine n x run (y ∷ es) e same h more = subst (λ (z : Entry). Last n (x ∷ run) (z ∷ es) e) (ap (λ (l : List Entry). first_or e l) h) (after_mine n x run es e same (more es (ap (λ (l : List Entry). drop 1 l) h)))

last : (n : ℕ) (run : Run) (es : List Entry) (e : Entry) → account n run ≡ es ++ e ∷ [] → Last n run es e
last n [] [] e h = absurd cc
last n [] (y ∷ es) e h = absurd cc
last n (x ∷ run) es e h = dite (ℕ_discrete x.0 n)
    (λ same. last_mine n x run es e same (sym (ap (λ b. cond b (x.1 ∷ account n run) (account n run)) (eq-eqb x.0 n same)) ∙ h) (λ fs g. last n run fs e g))
    (λ other. after_other n x run es e other (last n run es e (sym (ap (λ b. cond b (x.1 ∷ account n run) (account n run)) (ne_eqb x.0 n other)) ∙ h)))

-- A token's account in a true run: what holds at the end of that run, the state of the token being this
pub record Sees {C : Type 0} (t : Token C) (s : TokenState) : Type 0 where
  pub run : Run
  pub at : ℕ → TokenState
  pub held : Held (origin t) run (replay (origin t).words run) at
  pub state : at (number t) ≡ s
  pub mine : account (number t) run ≡ did t

module _ {C : Type 0} (t : Token C) (s : TokenState) (i : IsAt epochs t s) where
  pub sees : Sees t s
  sees = let p = i.part in record {
    run = p.run;
    at = λ n. state_at (origin t) n (account n p.run);
    held = held_after (origin t) p.run p.is_run;
    state = ap (state_at (origin t) (number t)) p.mine ∙ i.state;
    mine = p.mine;
  }

  -- what holds of the writer
  pub writer_knows : number t ≡ 0 → (global : ℕ) × IsWriterHeld (records_of (origin t)) global (did t) s
  writer_knows first = let v = sees in let global : ℕ = get_or (replay (origin t).words v.run) 0 0 in (
    global,
    subst (λ (x : List Entry × TokenState). IsWriterHeld (records_of (origin t)) global x.0 x.1)
        (λ j. ((ap (λ (n : ℕ). account n v.run) (sym first) ∙ v.mine) j, (ap v.at (sym first) ∙ v.state) j)) v.held.writer,
  )

  -- and of a pass
  pub pass_knows : (r : ℕ) → number t ≡ suc r → r < records_of (origin t)
      → (run : Run) × (global : ℕ) × (active : ℕ) × (own : ℕ) × (w : TokenState) × IsRecordHeld run global active own r w s.stage
  pass_knows r is low = let v = sees in let words : List ℕ = replay (origin t).words v.run in (
    v.run,
    get_or words 0 0,
    get_or words (active_word r) 0,
    get_or words (epoch_word r) 0,
    v.at 0,
    subst (λ (x : TokenState). IsRecordHeld v.run (get_or words 0 0) (get_or words (active_word r) 0) (get_or words (epoch_word r) 0) r (v.at 0) x.stage)
        (ap v.at (sym is) ∙ v.state) (v.held.each r low),
  )

  -- What the writer loads or finds in the first word is the global epoch as it knows it
  module _ (first : number t ≡ 0) (F : Follows (About C)) (weaker : (n : ℕ) (es : List Entry) → F (origin t) n es → follows_of epochs (origin t) n es) (u : Token C) (e : Entry) (made : Makes F t e u) where
    fits : (words : List ℕ) × (get_or words 0 0 ≡ s.epoch) × Fits words e.step
    fits = let o = origin t in let n = number t in let p = made.1 in
        let entries : account n p.run ≡ did t ++ e ∷ [] = ap (λ (k : ℕ). account k p.run) (sym (ap number made.0)) ∙ (p.mine ∙ ap did made.0) in
        let is_run : IsRun (follows_of epochs) o p.run = run_weaker F (follows_of epochs) o p.run weaker (subst (λ (x : Origin C). IsRun F x p.run) (ap origin made.0) p.is_run) in
        let l = last n p.run (did t) e entries in
        let whole : IsRun (follows_of epochs) o (l.past ++ (n, e) ∷ l.rest) = subst (IsRun (follows_of epochs) o) l.whole is_run in
        let words : List ℕ = replay o.words l.past in
        let held = held_after o l.past (run_before epochs o l.past ((n, e) ∷ l.rest) whole) in
        let state : state_at o 0 (account 0 l.past) ≡ s = ap (λ (k : ℕ). state_at o k (account k l.past)) (sym first) ∙ (ap (state_at o n) l.before ∙ i.state) in
        (words, sym held.writer.epoch ∙ ap (λ (x : TokenState). x.epoch) state, (at_step epochs o l.past l.rest n e whole).1)

    pub loads_global : (found : ℕ) → e.step ≡ Load 0 found → found ≡ s.epoch
    loads_global found is = let f = fits in subst (Fits f.0) is f.2 ∙ f.1

    pub finds_global : (expected new found : ℕ) → e.step ≡ Exchange 0 expected new found → found ≡ s.epoch
    finds_global expected new found is = let f = fits in subst (Fits f.0) is f.2 ∙ f.1
