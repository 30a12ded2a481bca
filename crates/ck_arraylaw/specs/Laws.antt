-- An array keeps the laws of a client. These are proofs, and stand here because a ghost member of an `impl` cites only its own crate's specs.
use Rattle.std.proofs.Common.{◌≡◌, ℕ, ◌+◌, ◌<◌, ◌≤◌, ◌⊎◌, Bool, true, false, cond, ◌&&◌, leb, ltb, nat_lt, List, [], ◌∷◌, ◌++◌, length, refl, sym, ap, ◌∙◌, subst, append-nil, length-append, arith}
use Rattle.std.proofs.lemmas.Bool.Decides.{nat_tests}
use Rattle.ck_run.specs.declared.account.Step.{Step}
use Rattle.ck_run.specs.declared.account.Entry.{Entry}
use Rattle.ck_run.specs.Range.{word_of}
use Rattle.ck_run.specs.Rule.{unused}
use Rattle.ck_run.specs.Machine.{grow}
use Rattle.ck_run.proofs.Law.{obeys_append, state-append}
use Rattle.ck_history.specs.declared.edit.Edit.{Edit}
use Rattle.ck_history.specs.declared.edit.EditReply.{EditReply}
use Rattle.ck_history.specs.Lists.{ListState, list_step, empty_lists, lists_after_from}
use Rattle.ck_epoch.specs.State.{Origin, base_of}
use Rattle.ck_epoch.specs.Client.{IsOthers, Starts, Passes, LogGrows, AnsweredRises}
use Rattle.ck_arraylaw.specs.declared.client.ArrayClient.{ArrayClient}
use Rattle.ck_arraylaw.specs.Calls.{Opening, adding, dropping, opening_of, is_single_load}
use Rattle.ck_arraylaw.specs.Layout.{array_words, members_at}
use Rattle.ck_arraylaw.specs.Array.{CommitStage, between_calls, filling, replaced, WriterState, ReadStage, no_read, at_length, at_member, ReaderState, LocalState, writer, reader, lists_of, begun, filled, written, collected, read_next, released, released_if, given_up, is_array_word, is_array_item, is_section, MayOther, MayOtherIf, MayIf, after_read, after_own, after_other, array_next, array_may}
use Rattle.ck_arraylaw.specs.Client.{array_start, local_after, TakesFree, replied_from, logged, answers_of, array}

not_in : (a b c : ℕ) → (c < a) ⊎ (b ≤ c) → leb a c && ltb c b ≡ false
not_in a b c h = grind (arith, nat_tests)

module _ (base : ℕ) (origin : Origin ArrayClient) (e : Entry) (others : IsOthers array base origin e) where
  abbrev floor : ℕ
  floor = base_of origin

  not_own : is_array_word floor base e.step ≡ false
  not_own = not_in base (base + array_words) (word_of e.step) others.0

  not_mine : is_array_item floor base e.item ≡ false
  not_mine = go e.item refl
    where
      go : (item : List ℕ) → e.item ≡ item → is_array_item floor base item ≡ false
      go [] is = refl
      go (at ∷ []) is = refl
      go (at ∷ log ∷ []) is = not_in base (base + array_words) (floor + at) (others.1 at log is)
      go (at ∷ log ∷ x ∷ xs) is = refl

  may_other : (h : LocalState) → MayOther floor base h e
  may_other (writer p) = subst (λ (b : Bool). MayOtherIf floor base b p.stage e) (sym not_mine) tt
  may_other (reader y) = tt

  may : (h : LocalState) → array_may floor base h e
  may h = subst (λ (b : Bool). MayIf floor base b h e) (sym not_own) (may_other h)

pub starts : Starts array
starts base origin placed n = (tt, tt)

pub passes : Passes array
passes base origin n es e f others = let floor = base_of origin in (
  obeys_append (array_next floor base) (array_may floor base) (array_start n) es (e ∷ []) f.0 (may base origin e others (local_after floor base n es), tt),
  obeys_append grow (TakesFree base origin) (unused n) es (e ∷ []) f.1 ((λ p is own begins. absurd (let z : true ≡ false = sym own ∙ not_own base origin e others in cc)), tt),
)

-- more edits have replies behind those of the earlier ones
pub replied-append : (s : ListState) (es fs : List Edit) → replied_from s (es ++ fs) ≡ replied_from s es ++ replied_from (lists_after_from s es) fs
replied-append s [] fs = refl
replied-append s (e ∷ es) fs = ap (λ (l : List (Edit × EditReply)). (e, (list_step s e).1) ∷ l) (replied-append (list_step s e).0 es fs)

-- A list goes on with more
abbrev pub GoesOn : {A : Type 0} → List A → List A → Type 0
GoesOn {A} xs ys = (more : List A) × (ys ≡ xs ++ more)

pub same_on : {A : Type 0} (xs : List A) → GoesOn xs xs
same_on xs = ([], sym (append-nil xs))

module _ (floor base : ℕ) where
  begun_grows : (p : WriterState) (o : Opening) (s : Step) → GoesOn p.log (begun base p o s).log
  begun_grows p (adding v) s = (_, refl)
  begun_grows p (dropping v) s = (_, refl)
  begun_grows p o s = same_on p.log

  filled_grows : (p : WriterState) (b : Bool) (q : WriterState) (i : ℕ) → GoesOn p.log (filled base p q.region i b).log
  filled_grows p true q i = same_on p.log
  filled_grows p false q i = same_on p.log

  written_grows : (p : WriterState) (opens : List ℕ) (g : CommitStage) (s : Step) → GoesOn p.log (written base p opens g s).log
  written_grows p opens between_calls s = begun_grows p (opening_of opens) s
  written_grows p opens (filling region i) s = filled_grows p (nat_lt i (length (lists_of p).pending)) (record p { region = region }) i
  written_grows p opens (replaced old) s = same_on p.log

  released_grows : (p : WriterState) (g : CommitStage) → GoesOn p.log (released p g).log
  released_grows p (replaced old) = (_, refl)
  released_grows p between_calls = same_on p.log
  released_grows p (filling region i) = same_on p.log

  released_if_grows : (p : WriterState) (b : Bool) → GoesOn p.log (released_if floor base b p).log
  released_if_grows p true = released_grows p p.stage
  released_if_grows p false = same_on p.log

  -- the log goes on
  pub log_goes_on : (h : LocalState) (e : Entry) → GoesOn (logged h) (logged (array_next floor base h e))
  log_goes_on h e = go (is_array_word floor base e.step) h
    where
      go : (b : Bool) (h : LocalState) → GoesOn (logged h) (logged (cond b (after_own floor base h e) (after_other floor base h e)))
      go true (writer p) = written_grows p e.opens p.stage e.step
      go true (reader y) = same_on []
      go false (writer p) = released_if_grows p (is_array_item floor base e.item)
      go false (reader y) = same_on []

  collected_grows : (y : ReaderState) (at n : ℕ) (members : List ℕ) (b : Bool) → GoesOn y.answers (collected y at n members b).answers
  collected_grows y at n members true = (_, refl)
  collected_grows y at n members false = same_on y.answers

  read_grows : (y : ReaderState) (g : ReadStage) (found : ℕ) → GoesOn y.answers (read_next y g found).answers
  read_grows y no_read found = same_on y.answers
  read_grows y (at_length at) found = collected_grows y at (members_at at found) [] _
  read_grows y (at_member at n members) found = collected_grows y at n (members ++ found ∷ []) _

  after_read_grows : (y : ReaderState) (b : Bool) (e : Entry) → GoesOn y.answers (after_read floor base b y e).answers
  after_read_grows y true e = same_on y.answers
  after_read_grows y false e = read_grows y y.stage _

  given_up_grows : (y : ReaderState) (b : Bool) → GoesOn y.answers (given_up floor base b y).answers
  given_up_grows y true = same_on y.answers
  given_up_grows y false = same_on y.answers

  -- and so do the answers
  pub answers_go_on : (h : LocalState) (e : Entry) → GoesOn (answers_of h) (answers_of (array_next floor base h e))
  answers_go_on h e = go (is_array_word floor base e.step) h
    where
      go : (b : Bool) (h : LocalState) → GoesOn (answers_of h) (answers_of (cond b (after_own floor base h e) (after_other floor base h e)))
      go true (writer p) = same_on []
      go true (reader y) = after_read_grows y (is_single_load e.opens) e
      go false (writer p) = same_on []
      go false (reader y) = given_up_grows y (is_section floor base e.step)

  pub one_more : (n : ℕ) (es : List Entry) (e : Entry) → local_after floor base n (es ++ e ∷ []) ≡ array_next floor base (local_after floor base n es) e
  one_more n es e = state-append (array_next floor base) (array_start n) es (e ∷ [])

at_least : (m n : ℕ) → m ≤ m + n
at_least m n = omega arith

pub grows : LogGrows array
grows base origin es e = let floor = base_of origin in let h = local_after floor base 0 es in let g = log_goes_on floor base h e in (
  replied_from (lists_after_from empty_lists (logged h)) g.0,
  ap (λ (x : LocalState). replied_from empty_lists (logged x)) (one_more floor base 0 es e)
      ∙ (ap (λ (l : List Edit). replied_from empty_lists l) g.1 ∙ replied-append empty_lists (logged h) g.0),
)

pub rises : AnsweredRises array
rises base origin es e = let floor = base_of origin in let h = local_after floor base 1 es in let g = answers_go_on floor base h e in
    let longer : length (answers_of (local_after floor base 1 (es ++ e ∷ []))) ≡ length (answers_of h) + length g.0 = ap (λ (x : LocalState). length (answers_of x)) (one_more floor base 1 es e) ∙ (ap (λ (l : List (List ℕ)). length l) g.1 ∙ length-append (answers_of h) g.0) in
    subst (λ (n : ℕ). length (answers_of h) ≤ n) (sym longer) (at_least (length (answers_of h)) (length g.0))
