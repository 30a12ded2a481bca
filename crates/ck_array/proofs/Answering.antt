-- Each answer of a reader, by its number, is that of an `all` of the run.
use Rattle.std.proofs.Common.{◌≡◌, ◌≢◌, ℕ, suc, ◌⊎◌, ⊎_elim, inl, inr, Bool, true, false, cond, List, [], ◌∷◌, ◌++◌, refl, sym, ap, ◌∙◌}
use mathlib.Core.Option.{some}
use lib.ListN.{get_elem?}
use Rattle.ck_run.specs.declared.account.Entry.{Entry}
use Rattle.ck_run.specs.Run.{Run, account}
use Rattle.ck_run.proofs.Runs.{account_here, account_else}
use Rattle.ck_run.proofs.Law.{state-append}
use Rattle.ck_epoch.specs.State.{Origin}
use Rattle.ck_events.proofs.Calls.{AddsAnswer, answered_call}
use Rattle.ck_arraylaw.specs.Array.{ReadStage, no_read, at_length, at_member, ReaderState, LocalState, reader, collected, read_next, given_up, after_read, after_own, after_other, found_by, is_array_word, is_section, array_next}
use Rattle.ck_arraylaw.specs.Calls.{is_single_load}
use Rattle.ck_arraylaw.specs.Client.{array_start, first_reader, local_after, answers_of}
use Rattle.ck_arraylaw.specs.Host.{Host, floor_word, base_word}
use Rattle.ck_arraylaw.specs.Layout.{members_at}
use Rattle.ck_arraylaw.specs.Law.{local_in, read_stage_of}
use Rattle.ck_arraylaw.proofs.Tokens.{reader_after}
use Rattle.ck_array.specs.Answered.{answers_in, IsOut, IsAnsweredAll}

pub is_out : (g : ReadStage) → (g ≡ no_read) ⊎ (g ≡ no_read → ⊥)
is_out no_read = inl refl
is_out (at_length at) = inr (λ e. cc)
is_out (at_member at n members) = inr (λ e. cc)

-- a step of a reader adds no answer, or it adds one, and then the reader is between two calls
abbrev pub Adds : ReaderState → LocalState → Type 0
Adds y after = (answers_of after ≡ y.answers) ⊎ ((members : List ℕ) × (answers_of after ≡ y.answers ++ members ∷ []) × (read_stage_of after ≡ no_read) × (y.stage ≡ no_read → ⊥))

collected_adds : (y : ReaderState) (at n : ℕ) (members : List ℕ) (c : Bool) → (y.stage ≡ no_read → ⊥) → Adds y (reader (collected y at n members c))
collected_adds y at n members true going = inr (members, refl, refl, going)
collected_adds y at n members false going = inl refl

next_adds : (y : ReaderState) (g : ReadStage) (found : ℕ) → y.stage ≡ g → Adds y (reader (read_next y g found))
next_adds y no_read found is = inl refl
next_adds y (at_length at) found is = collected_adds y at (members_at at found) [] _ (λ z. let w : at_length at ≡ no_read = sym is ∙ z in cc)
next_adds y (at_member at n members) found is = collected_adds y at n (members ++ found ∷ []) _ (λ z. let w : at_member at n members ≡ no_read = sym is ∙ z in cc)

pub step_adds : (f b : ℕ) (y : ReaderState) (e : Entry) → Adds y (array_next f b (reader y) e)
step_adds f b y e = by (is_array_word f b e.step)
  where
    reads : (s : Bool) → Adds y (reader (after_read f b s y e))
    reads true = inl refl
    reads false = next_adds y y.stage (found_by e.step) refl

    gives_up : (s : Bool) → Adds y (reader (given_up f b s y))
    gives_up true = inl refl
    gives_up false = inl refl

    by : (own : Bool) → Adds y (cond own (after_own f b (reader y) e) (after_other f b (reader y) e))
    by true = reads (is_single_load e.opens)
    by false = gives_up (is_section f b e.step)

module _ {D : Type 0} (host : Host D) (origin : Origin D) (r : ℕ) where
  abbrev f : ℕ
  f = floor_word host origin

  abbrev b : ℕ
  b = base_word host origin

  abbrev local : Run → LocalState
  local run = local_in host origin run (suc r)

  abbrev given : Run → List (List ℕ)
  given run = answers_in host origin run r

  local_else : (past : Run) (n : ℕ) (e : Entry) → n ≢ suc r → local (past ++ (n, e) ∷ []) ≡ local past
  local_else past n e h = ap (λ (es : List Entry). local_after f b (suc r) es) (account_else past n (suc r) e h)

  local_here : (past : Run) (e : Entry) → local (past ++ (suc r, e) ∷ []) ≡ array_next f b (local past) e
  local_here past e = ap (λ (es : List Entry). local_after f b (suc r) es) (account_here past (suc r) (suc r) e refl) ∙ state-append (array_next f b) (array_start (suc r)) (account (suc r) past) (e ∷ [])

  by_itself : (past : Run) (e : Entry) → AddsAnswer (suc r) (IsOut host origin r) given past e
  by_itself past e =
      let y = reader_after f b first_reader (account (suc r) past) in
      let next : local (past ++ (suc r, e) ∷ []) ≡ array_next f b (reader y.0) e = local_here past e ∙ ap (λ (x : LocalState). array_next f b x e) y.1 in
      let was : given past ≡ y.0.answers = ap answers_of y.1 in
      ⊎_elim (λ same. inl (ap answers_of next ∙ (same ∙ sym was)))
      (λ one. inr (one.0, ap answers_of next ∙ (one.1 ∙ ap (λ (l : List (List ℕ)). l ++ one.0 ∷ []) (sym was)), ap read_stage_of next ∙ one.2, λ z. one.3 (sym (ap read_stage_of y.1) ∙ z)))
      (step_adds f b y.0 e)

  -- the answer with the number i
  pub answered_all : (run : Run) (i : ℕ) (members : List ℕ) → get_elem? (answers_in host origin run r) i ≡ some members → IsAnsweredAll host origin run r i members
  answered_all run i members at = answered_call (suc r) (IsOut host origin r) given (λ past. is_out (read_stage_of (local past))) refl refl
      (λ past n e other. (λ z. ap read_stage_of (local_else past n e other) ∙ z, ap answers_of (local_else past n e other))) by_itself run i members at
