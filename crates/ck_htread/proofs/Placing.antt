-- In every true run the answers of each reader have places that don't fall.
use Rattle.std.proofs.Common.{◌≡◌, ℕ, suc, ◌≤◌, List, [], ◌∷◌, ◌++◌, map, take, length, length-append, append-nil, append_assoc, refl, sym, ap, ◌∙◌, subst, arith}
use Rattle.std.specs.Prelude.{Option}
use Rattle.std.specs.Ordering.{nat_cmp}
use Rattle.std.proofs.Math.Seq.{take-append_seam}
use Rattle.std.proofs.lemmas.List.{map-append, length-map}
use mathlib.Core.Option.{some}
use lib.ListN.{get_elem?}
use Rattle.ck_run.specs.declared.account.Entry.{Entry}
use Rattle.ck_run.specs.Run.{Run, account}
use Rattle.ck_run.proofs.Runs.{account-append}
use Rattle.ck_run.proofs.Law.{state-append}
use Rattle.ck_history.specs.declared.log.LogEntry.{LogEntry}
use Rattle.ck_history.specs.declared.update.Update.{Update}
use Rattle.ck_history.specs.Map.{Map, find, after, after_from}
use Rattle.ck_epoch.specs.State.{Origin}
use Rattle.ck_events.specs.Answered.{IsAnsweredCall}
use Rattle.ck_events.proofs.Places.{IsPlaced, have_places}
use Rattle.ck_htlaw.specs.Actions.{most}
use Rattle.ck_htlaw.specs.Table.{Layout}
use Rattle.ck_htlaw.specs.Linearized.{updates}
use Rattle.ck_htlaw.specs.Client.{Answers, answers_next, answers_after}
use Rattle.ck_htlaw.specs.Host.{Host, lies}
use Rattle.ck_htlaw.specs.Law.{TableLaw, IsTableRun, updates_in, linearized, map_in, until}
use Rattle.ck_htread.specs.Answered.{looks_in, IsOut, HasPlace, PlacesLaw}
use Rattle.ck_htread.proofs.Answering.{answered_look}
use Rattle.ck_htread.proofs.Telling.{looks_more}

module _ {D : Type 0} (host : Host D) (origin : Origin D) (law : TableLaw host origin) where
  abbrev True : Run → Type 0
  True run = IsTableRun host origin run

  abbrev l : Layout
  l = lies host origin

  abbrev many : Run → ℕ
  many run = linearized host origin run

  -- as a run goes on, no update is taken back
  pub mono : (a b rest : Run) → True (a ++ (b ++ rest)) → many a ≤ many (a ++ b)
  mono a b rest t = let g = law.grows a b rest t in let n = ap length g.1 ∙ length-append (updates_in host origin a) g.0 in omega arith

  -- the map after as many updates as had taken place at a moment is the map of that moment
  pub map_then : (past rest : Run) → True (past ++ rest) → after nat_cmp most (updates (updates_in host origin (past ++ rest))) (many past) ≡ map_in host origin past
  map_then past rest t =
      let f : LogEntry ℕ → Update ℕ = λ e. e.update in
      let us = updates_in host origin past in
      let g = law.grows past rest [] (subst (λ (b : Run). True (past ++ b)) (sym (append-nil rest)) t) in
      let cut : take (many past) (updates (updates_in host origin (past ++ rest))) ≡ updates us =
      (λ j. take (sym (length-map us f) j) (map f (g.1 j))) ∙ (ap (take (length (map f us))) (map-append f us g.0) ∙ take-append_seam (map f us) (map f g.0)) in
      ap (after_from nat_cmp most []) cut

  module _ (r : ℕ) where
    abbrev looks : Run → List (ℕ × Option ℕ)
    looks run = looks_in host origin run r

    -- answers are only added
    pub looks_after : (a b : Run) → (more : List (ℕ × Option ℕ)) × (looks (a ++ b) ≡ looks a ++ more)
    looks_after a b = let m = looks_more l (answers_after l origin.words (suc r) (account (suc r) a)) (account (suc r) b) in (
      m.0,
      ap (λ (es : List Entry). (answers_after l origin.words (suc r) es).looks) (account-append (suc r) a b)
          ∙ (ap (λ (x : Answers). x.looks) (state-append (answers_next l) (answers_after l origin.words (suc r) []) (account (suc r) a) (account (suc r) b)) ∙ m.1),
    )

    rise : (a b : Run) → length (looks a) ≤ length (looks (a ++ b))
    rise a b = let m = looks_after a b in let n = ap length m.1 ∙ length-append (looks a) m.0 in omega arith

    module _ (run : Run) (t : True run) where
      -- the place of an answer with its key
      abbrev Has : ℕ → ℕ × Option ℕ → ℕ → Type 0
      Has i answer p = HasPlace host origin run r i answer.0 answer.1 p

      module _ (i : ℕ) (answer : ℕ × Option ℕ) (p : ℕ) (h : Has i answer p) where
        abbrev a : IsAnsweredCall (suc r) (IsOut host origin r) looks run i answer
        a = h.answered.call

        abbrev now : Run
        now = until a.past r a.first h.moment.before

        abbrev end : Run
        end = until a.past r a.first a.between

        end_is : end ≡ now ++ h.moment.behind
        end_is = ap (λ (b : Run). until a.past r a.first b) h.moment.splits ∙ sym (append_assoc a.past ((suc r, a.first) ∷ h.moment.before) h.moment.behind)

        abbrev after_now : Run
        after_now = h.moment.behind ++ (suc r, a.last) ∷ a.rest

        whole : run ≡ now ++ after_now
        whole = a.splits ∙ (ap (λ (b : Run). b ++ (suc r, a.last) ∷ a.rest) end_is ∙ append_assoc now h.moment.behind ((suc r, a.last) ∷ a.rest))

        placed : IsPlaced (suc r) (IsOut host origin r) looks many True run i answer p
        placed = record {
          call = a;
          least = subst (λ (n : ℕ). many a.past ≤ n) h.is h.moment.least;
          most = subst (λ (n : ℕ). n ≤ many end) h.is (subst (λ (b : Run). many now ≤ many b) (sym end_is) (mono now h.moment.behind ((suc r, a.last) ∷ a.rest) (subst True whole t)));
        }

        gave : find nat_cmp (after nat_cmp most (updates (updates_in host origin run)) p) answer.0 ≡ answer.1
        gave = (λ j. find nat_cmp (after nat_cmp most (updates (updates_in host origin (whole j))) (sym h.is j)) answer.0) ∙ (ap (λ (m : Map ℕ). find nat_cmp m answer.0) (map_then now after_now (subst True whole t)) ∙ h.moment.gave)

      -- each answer has a place
      a_place : (i : ℕ) (answer : ℕ × Option ℕ) → get_elem? (looks_in host origin run r) i ≡ some answer → (p : ℕ) × Has i answer p
      a_place i answer at =
          let a = answered_look host origin r run i answer.0 answer.1 at in let c = a.call in
          let w = law.answers c.past c.between c.rest r c.first c.last answer.0 answer.1 (subst True c.splits t) a.look a.answers in
          (linearized host origin (until c.past r c.first w.before), record { answered = a; moment = w; is = refl })

  pub places_law : PlacesLaw host origin
  places_law run r t =
      let h = have_places (suc r) (IsOut host origin r) (looks r) many True mono (rise r) run t (Has r run t) (placed r run t) (a_place r run t) in (
        h.0,
        record { are = h.1; gave = λ i k x at. gave r run t i (k, x) (h.0 i) (h.1.moments i (k, x) at) },
      )
