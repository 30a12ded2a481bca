-- The cases of an update, from the writer between two calls: their steps may be made, and with them the call is made.
use Rattle.std.proofs.Common.{◌≡◌, ℕ, ◌^◌, ◌<◌, Bool, true, false, cond, nat_lt, List, [], ◌∷◌, refl, sym, ap, ◌∙◌, subst, inr}
use Rattle.std.specs.Prelude.{MatchBool, MatchResult}
use Rattle.std.specs.declared.result.Result.{Result}
use Rattle.std.specs.declared.result.Result.TheVariants.{Ok, Err}
use Rattle.ck_run.specs.declared.account.Step.{Step}
use Rattle.ck_run.specs.declared.account.Step.TheVariants.{Store, Load}
use Rattle.ck_run.specs.declared.account.Entry.{Entry}
use Rattle.ck_run.specs.Machine.{state_after}
use Rattle.ck_run.specs.Run.{entry}
use Rattle.ck_history.specs.declared.log.LogEntry.{LogEntry}
use Rattle.ck_history.specs.declared.update.Reply.{Reply}
use Rattle.ck_history.specs.declared.update.Reply.TheVariants.{Fresh, Full}
use Rattle.ck_epoch.specs.State.{Origin, base_of}
use Rattle.ck_epoch.specs.Ends.{Writer}
use Rattle.ck_htplan.specs.Region.{view_of}
use Rattle.ck_htlaw.specs.declared.client.HtClient.{HtClient}
use Rattle.ck_htlaw.specs.Host.{Host, first, inner, lies}
use Rattle.ck_htlaw.specs.Calls.{opening_of}
use Rattle.ck_htlaw.specs.Stages.{Insertion, Stage, empty, reuse, move}
use Rattle.ck_htlaw.specs.Layout.{log_of}
use Rattle.ck_htlaw.specs.Table.{Layout, WriterState, inserts, stands, deletes, nothing}
use Rattle.ck_htlaw.specs.Actions.{action, added, answer_to, keys_now, most, slots_now}
use Rattle.ck_htlaw.specs.Client.{Answers, answers_next}
use Rattle.ck_htlaw.specs.Known.{knows}
use Rattle.ck_htwrite.specs.declared.state.HtState.{HtState}
use Rattle.ck_htwrite.specs.declared.state.Need.{Need}
use Rattle.ck_htplan.specs.declared.cases.Plan.TheVariants.{Empty}
use Rattle.ck_htwrite.specs.State.{IsReady, next_count}
use Rattle.ck_htwrite.specs.Updates.{Asks, IsDone, IsGrown, IsNeeded, IsRoomy, InsertSteps, ReuseSteps, IsMade, IsOver, MayBegin, settled_answer, bumped_count, insert_steps, reuse_steps, move_steps, remove_steps, inserted_lists, reused_lists, moved_lists, removed_lists, valued_lists}
use Rattle.ck_htwrite.specs.Writes.{MayMake, MayStep, Steps, WriterAt, counters_in, opened}
use Rattle.ck_htwrite.proofs.Making.{may_first}
use Rattle.ck_htwrite.proofs.Agree.{value_same}
use Rattle.ck_htwrite.proofs.Finishing.{can_insert, insert_over, can_reuse, reuse_over, some_tombstone, can_remove, remove_over, some_key, can_move, move_over, can_stand, stand_over, can_ask, ask_over, count_now}

module _ {D F : Type 0} (h : Host D) (o : Origin D) (w w' : Writer D F) (s s' : HtState) (r : IsReady h o w.token s) (opens : List ℕ) where
  abbrev l : Layout
  l = lies h o

  abbrev n : ℕ
  n = counters_in h o

  abbrev p : WriterState
  p = r.is_writer

  abbrev a : Answers
  a = knows h o w.token

  abbrev slots : ℕ
  slots = 2 ^ log_of s.root

  abbrev states : ℕ → ℕ
  states = (view_of s.words.items).state

  abbrev floor : ℕ
  floor = base_of (inner h o)

  abbrev client : HtClient
  client = (inner h o).config.client

  at0 : WriterAt a p a.due a.log
  at0 = record { local = r.is; answer = refl; log = refl }

  begins : MayBegin p.stage opens
  begins = subst (λ (g : Stage). MayBegin g opens) (sym r.idles) tt

  over_from : (es : List Entry) (s1 : HtState) → Steps h o w es w' → s' ≡ s1 → IsOver n l (state_after (answers_next l) a es) (settled_answer l p p.stage opens a.due) a.log s1 → IsOver n l (knows h o w'.token) (answer_to l p (opening_of opens)) a.log s'
  over_from es s1 steps is over = subst (λ (x : Answers). IsOver n l x (answer_to l p (opening_of opens)) a.log s') (sym steps.knows_now)
      (subst (λ (x : HtState). IsOver n l (state_after (answers_next l) a es) (answer_to l p (opening_of opens)) a.log x) (sym is)
      (subst (λ (x : LogEntry ℕ). IsOver n l (state_after (answers_next l) a es) x a.log s1) (ap (λ (g : Stage). settled_answer l p g opens a.due) r.idles) over))

  abbrev has_room : Bool
  has_room = nat_lt (keys_now l p) most

  module _ (key value at : ℕ) (few : at < slots) where
    abbrev pub fresh_pair : Insertion
    fresh_pair = record { key = key; number = value; to = at }

    -- a fresh key takes an empty slot
    module _ (does : (x : Step) → action l p (entry opens x) ≡ inserts empty fresh_pair) where
      pub may_insert : MayMake h o w.token (opened opens (insert_steps l s.root at key value))
      may_insert = (p, r.is, can_insert floor (first h o) client p s r.reflects opens begins key value at few does)

      pub made_insert : states at ≡ 0 → has_room ≡ true → IsRoomy l p → Steps h o w (opened opens (insert_steps l s.root at key value)) w' → s' ≡ inserted_lists s at key value → IsMade h o p (added l p) (InsertSteps l p key value at) opens w Fresh w' s'
      made_insert was fits roomy steps is = record {
        reply_is = sym (ap (λ (b : Bool). cond b Fresh Full) fits);
        steps = insert_steps l s.root at key value;
        are = subst (λ (b : Bool). MatchBool b (IsRoomy l p × (insert_steps l s.root at key value ≡ insert_steps l p.root at key value)) (Asks l (insert_steps l s.root at key value))) (sym fits) (roomy, ap (λ (x : ℕ). insert_steps l x at key value) (sym r.reflects.root));
        made = steps;
        over = over_from _ _ steps is (insert_over floor (first h o) client p s r.reflects opens begins key value at few does a a.due a.log at0 was);
      }

    -- a fresh key takes a tombstone
    module _ (does : (x : Step) → action l p (entry opens x) ≡ inserts reuse fresh_pair) where
      pub may_reuse : MayMake h o w.token (opened opens (reuse_steps l s.root at key value (next_count n s)))
      may_reuse = (p, r.is, can_reuse floor (first h o) client p s r.reflects opens begins key value at few does)

      pub tombstone_here : states at ≡ 2 → 0 < s.tombstones
      tombstone_here was = some_tombstone floor (first h o) client p s r.reflects opens begins key value at few does was

      pub made_reuse : states at ≡ 2 → has_room ≡ true → Steps h o w (opened opens (reuse_steps l s.root at key value (next_count n s))) w' → s' ≡ reused_lists n s at key value → IsMade h o p (added l p) (ReuseSteps l p key value at) opens w Fresh w' s'
      made_reuse was fits steps is = record {
        reply_is = sym (ap (λ (b : Bool). cond b Fresh Full) fits);
        steps = reuse_steps l s.root at key value (next_count n s);
        are = subst (λ (b : Bool). MatchBool b (reuse_steps l s.root at key value (next_count n s) ≡ reuse_steps l p.root at key value (bumped_count l p)) (Asks l (reuse_steps l s.root at key value (next_count n s)))) (sym fits)
            (λ i. reuse_steps l (sym r.reflects.root i) at key value (count_now floor (first h o) client p s r.reflects opens begins i));
        made = steps;
        over = over_from _ _ steps is (reuse_over floor (first h o) client p s r.reflects opens begins key value at few does was a a.due a.log at0);
      }

    -- a key gets another value where it stands
    module _ (does : (x : Step) → action l p (entry opens x) ≡ stands key at value) (was : states at ≡ 1) where
      pub may_stand : MayStep h o w.token (entry opens (Store (l.word s.root at 3) value))
      may_stand = may_first h o w.token _ [] (p, r.is, can_stand floor (first h o) client p s r.reflects opens begins key value at few does was)

      pub made_stand : (expected reply : Reply) → reply ≡ expected → Steps h o w (entry opens (Store (l.word s.root at 3) value) ∷ []) w' → s' ≡ valued_lists s at value → IsMade h o p expected (λ ss. ss ≡ Store (l.word p.root at 3) value ∷ []) opens w reply w' s'
      made_stand expected reply same steps is = record {
        reply_is = same;
        steps = Store (l.word s.root at 3) value ∷ [];
        are = ap (λ (x : ℕ). Store (l.word x at 3) value ∷ []) (sym r.reflects.root);
        made = steps;
        over = over_from _ _ steps is (stand_over floor (first h o) client p s r.reflects opens begins key value at few does was a a.due a.log at0);
      }

  -- a key moves to an earlier tombstone
  module _ (key value to from : ℕ) (few : to < slots) (low : from < slots) (does : (x : Step) → action l p (entry opens x) ≡ inserts (move from) (record { key = key; number = value; to = to })) (was : states to ≡ 2) (stood : states from ≡ 1) where
    pub may_move : MayMake h o w.token (opened opens (move_steps l s.root to from key value (next_count n s)))
    may_move = (p, r.is, can_move floor (first h o) client p s r.reflects opens begins key value to from few low does was stood)

    pub made_move : (expected reply : Reply) → reply ≡ expected → Steps h o w (opened opens (move_steps l s.root to from key value (next_count n s))) w' → s' ≡ moved_lists n s to from key value → IsMade h o p expected (λ ss. ss ≡ move_steps l p.root to from key value (bumped_count l p)) opens w reply w' s'
    made_move expected reply same steps is = record {
      reply_is = same;
      steps = move_steps l s.root to from key value (next_count n s);
      are = λ i. move_steps l (sym r.reflects.root i) to from key value (count_now floor (first h o) client p s r.reflects opens begins i);
      made = steps;
      over = over_from _ _ steps is (move_over floor (first h o) client p s r.reflects opens begins key value to from few low does was stood a a.due a.log at0);
    }

  -- a key is removed
  module _ (key at : ℕ) (few : at < slots) (does : (x : Step) → action l p (entry opens x) ≡ deletes key at) (was : states at ≡ 1) where
    pub may_remove : MayMake h o w.token (opened opens (remove_steps l s.root at (next_count n s)))
    may_remove = (p, r.is, can_remove floor (first h o) client p s r.reflects opens begins key at few does was)

    pub key_here : 0 < s.keys
    key_here = some_key floor (first h o) client p s r.reflects opens begins key at few does was

    pub made_remove : (expected reply : Reply) → reply ≡ expected → Steps h o w (opened opens (remove_steps l s.root at (next_count n s))) w' → s' ≡ removed_lists n s at → IsMade h o p expected (λ ss. ss ≡ remove_steps l p.root at (bumped_count l p)) opens w reply w' s'
    made_remove expected reply same steps is = record {
      reply_is = same;
      steps = remove_steps l s.root at (next_count n s);
      are = λ i. remove_steps l (sym r.reflects.root i) at (count_now floor (first h o) client p s r.reflects opens begins i);
      made = steps;
      over = over_from _ _ steps is (remove_over floor (first h o) client p s r.reflects opens begins key at few does was a a.due a.log at0);
    }

  -- nothing is stored
  module _ (does : (x : Step) → action l p (entry opens x) ≡ nothing) (found : ℕ) where
    pub may_ask : MayStep h o w.token (entry opens (Load l.base found))
    may_ask = may_first h o w.token _ [] (p, r.is, can_ask floor (first h o) client p s r.reflects opens begins does found)

    pub made_ask : (expected reply : Reply) → reply ≡ expected → (AreSteps : List Step → Type 0) → ((ss : List Step) → Asks l ss → AreSteps ss) → Steps h o w (entry opens (Load l.base found) ∷ []) w' → s' ≡ s → IsMade h o p expected AreSteps opens w reply w' s'
    made_ask expected reply same AreSteps asks steps is = record {
      reply_is = same;
      steps = Load l.base found ∷ [];
      are = asks (Load l.base found ∷ []) (found, refl);
      made = steps;
      over = over_from _ _ steps is (ask_over floor (first h o) client p s r.reflects opens begins does found a a.due a.log at0);
    }

  -- there is no room for a fresh key
  pub made_full : ((x : Step) → action l p (entry opens x) ≡ nothing) → has_room ≡ false → (found : ℕ) (IfRoom : List Step → Type 0) → Steps h o w (entry opens (Load l.base found) ∷ []) w' → s' ≡ s → IsMade h o p (added l p) (λ ss. MatchBool has_room (IfRoom ss) (Asks l ss)) opens w Full w' s'
  made_full does full found IfRoom steps is = made_ask does found (added l p) Full (sym (ap (λ (b : Bool). cond b Fresh Full) full)) (λ ss. MatchBool has_room (IfRoom ss) (Asks l ss))
      (λ ss asks. subst (λ (b : Bool). MatchBool b (IfRoom ss) (Asks l ss)) (sym full) asks) steps is

  -- the value of a full slot, as the law has it
  pub value_is : (at : ℕ) → at < slots → states at ≡ 1 → (x : ℕ) → x ≡ (view_of s.words.items).value at → x ≡ (slots_now l p).value at
  value_is at few full x is = is ∙ value_same floor (first h o) n client p s r.reflects at few full

-- a call that rebuilt first is done
module _ {D F : Type 0} (h : Host D) (o : Origin D) (p : WriterState) (w : Writer D F) (s : HtState) (key value at : ℕ) (opens : List ℕ) where
  pub done_grown : (result : Result Reply Need) (w' : Writer D F) (s' : HtState) → MatchResult result (λ reply. IsGrown h o p (added (lies h o) p) (Empty at) opens key value w reply w' s s') (λ need. IsNeeded h o p (Empty at) s need)
      → MatchResult result (λ reply. IsDone h o p (added (lies h o) p) (InsertSteps (lies h o) p key value at) (Empty at) opens key value w reply w' s s') (λ need. IsNeeded h o p (Empty at) s need)
  done_grown (Ok reply) w' s' x = inr x
  done_grown (Err need) w' s' x = x
