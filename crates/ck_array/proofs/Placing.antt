-- In every true run the answers of each reader have places that don't fall.
use Rattle.std.proofs.Common.{◌≡◌, ℕ, suc, ◌≤◌, List, [], ◌∷◌, ◌++◌, length, length-append, append-nil, append_assoc, refl, sym, ap, ◌∙◌, subst, arith}
use mathlib.Core.Option.{some}
use lib.ListN.{get_elem?}
use Rattle.ck_run.specs.declared.account.Entry.{Entry}
use Rattle.ck_run.specs.Run.{Run, account}
use Rattle.ck_run.specs.Machine.{state_after}
use Rattle.ck_run.proofs.Runs.{account-append}
use Rattle.ck_run.proofs.Law.{state-append}
use Rattle.ck_history.specs.declared.edit.Edit.{Edit}
use Rattle.ck_history.specs.Lists.{committed_after}
use Rattle.ck_epoch.specs.State.{Origin}
use Rattle.ck_events.proofs.Places.{IsPlaced, have_places}
use Rattle.ck_arraylaw.specs.Array.{LocalState, array_next}
use Rattle.ck_arraylaw.specs.Client.{array_start, local_after, answers_of}
use Rattle.ck_arraylaw.specs.Host.{Host, floor_word, base_word}
use Rattle.ck_arraylaw.specs.Law.{ArrayLaw, IsArrayRun, local_in, edits_in, linearized, until}
use Rattle.ck_arraylaw.specs.Laws.{answers_go_on}
use Rattle.ck_array.specs.Answered.{answers_in, IsOut, HasPlace, PlacesLaw}
use Rattle.ck_array.proofs.Answering.{answered_all}
use Rattle.ck_arraylaw.proofs.Reaching.{committed_then}

answers_grow : (f b : ℕ) (h : LocalState) (es : List Entry) → length (answers_of h) ≤ length (answers_of (state_after (array_next f b) h es))
answers_grow f b h [] = omega arith
answers_grow f b h (e ∷ es) = let rest = answers_grow f b (array_next f b h e) es in let g = answers_go_on f b h e in let n = ap (λ (l : List (List ℕ)). length l) g.1 ∙ length-append (answers_of h) g.0 in omega arith

module _ {D : Type 0} (host : Host D) (origin : Origin D) (law : ArrayLaw host origin) where
  abbrev True : Run → Type 0
  True run = IsArrayRun host origin run

  abbrev many : Run → ℕ
  many run = linearized host origin run

  -- as a run goes on, no edit is taken back, nor an answer
  pub mono : (a b rest : Run) → True (a ++ (b ++ rest)) → many a ≤ many (a ++ b)
  mono a b rest t = let g = law.grows a b rest t in let n = ap (λ (l : List Edit). length l) g.1 ∙ length-append (edits_in host origin a) g.0 in omega arith

  module _ (r : ℕ) where
    abbrev given : Run → List (List ℕ)
    given run = answers_in host origin run r

    rise : (a b : Run) → length (given a) ≤ length (given (a ++ b))
    rise a b = let f = floor_word host origin in let w = base_word host origin in subst (λ (n : ℕ). length (given a) ≤ n)
        (sym (ap (λ (es : List Entry). length (answers_of (local_after f w (suc r) es))) (account-append (suc r) a b)
        ∙ ap (λ (x : LocalState). length (answers_of x)) (state-append (array_next f w) (array_start (suc r)) (account (suc r) a) (account (suc r) b))))
        (answers_grow f w (local_in host origin a (suc r)) (account (suc r) b))

    module _ (run : Run) (t : True run) where
      abbrev Placed : ℕ → List ℕ → ℕ → Type 0
      Placed i members p = IsPlaced (suc r) (IsOut host origin r) given many True run i members p

      -- its first step is the moment
      placed : (i : ℕ) (members : List ℕ) (p : ℕ) → HasPlace host origin run r i members p → Placed i members p
      placed i members p h =
          let a = h.answered in
          let end = until a.past r a.first a.between in
          let to_first : run ≡ a.past ++ ((suc r, a.first) ∷ a.between ++ (suc r, a.last) ∷ a.rest) = a.splits ∙ append_assoc a.past ((suc r, a.first) ∷ a.between) ((suc r, a.last) ∷ a.rest) in
          record {
            call = a;
            least = subst (λ (n : ℕ). many a.past ≤ n) h.is (omega arith);
            most = subst (λ (n : ℕ). n ≤ many end) h.is (mono a.past ((suc r, a.first) ∷ a.between) ((suc r, a.last) ∷ a.rest) (subst True to_first t));
          }

      a_place : (i : ℕ) (members : List ℕ) → get_elem? (answers_in host origin run r) i ≡ some members → (p : ℕ) × HasPlace host origin run r i members p
      a_place i members at = let a = answered_all host origin r run i members at in (many a.past, record { answered = a; is = refl })

      -- the answer is the list that was committed then
      gave : (i : ℕ) (members : List ℕ) (p : ℕ) → HasPlace host origin run r i members p → members ≡ committed_after (edits_in host origin run) p
      gave i members p h =
          let a = h.answered in
          let ahead = (suc r, a.first) ∷ (a.between ++ (suc r, a.last) ∷ a.rest) in
          let to_first : run ≡ a.past ++ ahead = a.splits ∙ append_assoc a.past ((suc r, a.first) ∷ a.between) ((suc r, a.last) ∷ a.rest) in
          let us = edits_in host origin a.past in
          let g = law.grows a.past ahead [] (subst True (to_first ∙ ap (λ (m : Run). a.past ++ m) (sym (append-nil ahead))) t) in
          law.answers a.past a.between a.rest r a.first a.last members (subst True a.splits t) (record { starts = a.starts; goes = a.goes }) a.ends
          ∙ (committed_then us g.0 ∙ ((λ j. committed_after (sym g.1 j) (length us)) ∙ (λ j. committed_after (edits_in host origin (sym to_first j)) (h.is j))))

  pub places_law : PlacesLaw host origin
  places_law run r t =
      let h = have_places (suc r) (IsOut host origin r) (given r) many True mono (rise r) run t (HasPlace host origin run r) (placed r run t) (a_place r run t) in (
        h.0,
        record { are = h.1; gave = λ i members at. gave r run t i members (h.0 i) (h.1.moments i members at) },
      )
