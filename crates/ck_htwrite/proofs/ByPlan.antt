-- What `set`, `put` and `remove` do by their plan, from the writer between two calls.
use Rattle.std.proofs.Common.{◌≡◌, ℕ, ◌+◌, ◌*◌, ◌^◌, ◌<◌, List, [], ◌∷◌, length, refl, ap, sym, ◌∙◌, subst, arith, inl, inr, ◌≤◌, Bool, true, false, nat_le}
use Rattle.std.specs.Prelude.{MatchResult}
use Rattle.std.specs.declared.result.Result.{Result}
use Rattle.ck_run.specs.declared.account.Step.{Step}
use Rattle.ck_run.specs.declared.account.Step.TheVariants.{Store, Load}
use Rattle.ck_run.specs.Range.{word_of}
use Rattle.ck_run.specs.Run.{entry}
use Rattle.ck_history.specs.declared.update.Reply.{Reply}
use Rattle.ck_history.specs.declared.update.Reply.TheVariants.{Was, Has, Missing, Fresh, Full}
use Rattle.ck_epoch.specs.State.{Origin, base_of}
use Rattle.ck_epoch.specs.Ends.{Writer}
use Rattle.ck_htplan.specs.declared.cases.Plan.{Plan}
use Rattle.ck_htplan.specs.declared.cases.Plan.TheVariants.{Stand, Move, Empty, Reuse}
use Rattle.ck_htplan.specs.Region.{view_of}
use Rattle.ck_htlaw.specs.declared.client.HtClient.{HtClient}
use Rattle.ck_htlaw.specs.Host.{Host, first, inner, lies}
use Rattle.ck_htlaw.specs.Calls.{set, put, remove}
use Rattle.ck_htlaw.specs.Stages.{move, Insertion, Target, empty, reuse}
use Rattle.ck_htlaw.specs.Layout.{log_of}
use Rattle.ck_htlaw.specs.Table.{Layout, WriterState, deletes, inserts, nothing, stands}
use Rattle.ck_htlaw.specs.Actions.{action, plan_now, put_reply, remove_reply, set_reply, slots_now, to_put, to_remove, added}
use Rattle.ck_htwrite.specs.declared.state.HtState.{HtState}
use Rattle.ck_htwrite.specs.declared.state.Need.{Need}
use Rattle.ck_htwrite.specs.State.{IsReady, next_count}
use Rattle.ck_htwrite.specs.Updates.{Asks, HasStates, IsDone, IsIn, IsMade, IsNeeded, IsRoomy, PutSteps, RemoveSteps, SetSteps, bumped_count, move_steps, moved_lists, remove_steps, removed_lists, valued_lists, AddsFresh, InsertSteps, IsAdding, ReuseSteps, insert_steps, inserted_lists, reuse_steps, reused_lists, StoreSteps, store_reply}
use Rattle.ck_htwrite.specs.Writes.{MayMake, MayStep, Steps, counters_in, opened}
use Rattle.ck_htwrite.proofs.Growing.{adding_idle, roomy_now}
use Rattle.ck_htwrite.proofs.Slots.{item_in}
use Rattle.ck_htwrite.proofs.Plans.{IsFound, IsMissing, by_found, by_missing, put_is, remove_is, set_is, tombstones_few, about_insert, about_nothing, about_reuse, keys_few, no_room, room}
use Rattle.ck_htwrite.proofs.Made.{key_here, made_ask, made_move, made_remove, made_stand, may_ask, may_move, may_remove, may_stand, value_is, made_full, made_insert, made_reuse, may_insert, may_reuse, tombstone_here}

module _ {D F : Type 0} (h : Host D) (o : Origin D) (w : Writer D F) (s : HtState) (r : IsReady h o w.token s) where
  abbrev l : Layout
  l = lies h o

  abbrev p : WriterState
  p = r.is_writer

  abbrev n : ℕ
  n = counters_in h o

  abbrev floor : ℕ
  floor = base_of (inner h o)

  abbrev client : HtClient
  client = (inner h o).config.client

  abbrev slots : ℕ
  slots = 2 ^ log_of s.root

  -- the value of a slot stands in the lists
  pub value_in : (at : ℕ) → at < slots → 4 * at + 3 < length s.words.items
  value_in at few = item_in n s r.reflects.mirrors.shape at 3 few (let low : 3 < 4 = omega arith in low)

  -- how many slots are full, and how many are tombstones
  pub few_keys : s.keys ≤ 524288
  few_keys = keys_few floor (first h o) client p s r.reflects

  pub few_tombstones : s.tombstones ≤ 524288
  few_tombstones = tombstones_few floor (first h o) client p s r.reflects

  -- and one more tombstone is counted in a word
  pub tombstones_fit : s.tombstones < 2 ^ 32
  tombstones_fit = let few = few_tombstones in omega arith

  -- A fresh key in a map that isn't rebuilt first: it goes into its slot, or there is no room
  module _ (opens : List ℕ) (key value at : ℕ) where
    abbrev pair : Insertion
    pair = record { key = key; number = value; to = at }

    -- there is no room
    module _ (c : Target) (adding_is : IsAdding l p opens c pair) (full : 262144 ≤ s.keys) where
      stores_nothing : (x : Step) → action l p (entry opens x) ≡ nothing
      stores_nothing = about_nothing floor (first h o) client p s r.reflects opens c pair adding_is (no_room floor (first h o) client p s r.reflects full)

      pub may_ask_full : (found : ℕ) → MayStep h o w.token (entry opens (Load l.base found))
      may_ask_full = may_ask h o w w s s r opens stores_nothing

    -- the key takes a tombstone
    module _ (adding_is : IsAdding l p opens reuse pair) where
      pub reuse_full : 262144 ≤ s.keys → (found : ℕ) (w' : Writer D F) → Steps h o w (entry opens (Load l.base found) ∷ []) w' → IsMade h o p (added l p) (ReuseSteps l p key value at) opens w Full w' s
      reuse_full full found w' steps = made_full h o w w' s s r opens (stores_nothing reuse adding_is full) (no_room floor (first h o) client p s r.reflects full) found (λ ss. ss ≡ reuse_steps l p.root at key value (bumped_count l p)) steps refl

      module _ (slot : at < 2 ^ log_of s.root) (few : s.keys < 262144) where
        reuses : (x : Step) → action l p (entry opens x) ≡ inserts reuse pair
        reuses = about_reuse floor (first h o) client p s r.reflects opens pair adding_is (room floor (first h o) client p s r.reflects few)

        pub may_reuse_now : MayMake h o w.token (opened opens (reuse_steps l s.root at key value (next_count n s)))
        may_reuse_now = may_reuse h o w w s s r opens key value at slot reuses

        pub some_tombstones : (view_of s.words.items).state at ≡ 2 → 0 < s.tombstones
        some_tombstones = tombstone_here h o w w s s r opens key value at slot reuses

        pub reused_now : (view_of s.words.items).state at ≡ 2 → (w' : Writer D F) (s' : HtState) → Steps h o w (opened opens (reuse_steps l s.root at key value (next_count n s))) w' → s' ≡ reused_lists n s at key value → IsMade h o p (added l p) (ReuseSteps l p key value at) opens w Fresh w' s'
        reused_now was w' s' = made_reuse h o w w' s s' r opens key value at slot reuses was (room floor (first h o) client p s r.reflects few)

    -- the key takes an empty slot
    module _ (adds : AddsFresh opens key value) (planned : plan_now l p key ≡ Empty at) where
      pub adds_empty : IsAdding l p opens empty pair
      adds_empty = adding_idle floor (first h o) client p s r.reflects opens key value at adds planned r.idles

      pub insert_full : 262144 ≤ s.keys → (found : ℕ) (w' : Writer D F) → Steps h o w (entry opens (Load l.base found) ∷ []) w' → IsDone h o p (added l p) (InsertSteps l p key value at) (Empty at) opens key value w Full w' s s
      insert_full full found w' steps = inl (made_full h o w w' s s r opens (stores_nothing empty adds_empty full) (no_room floor (first h o) client p s r.reflects full) found (λ ss. IsRoomy l p × (ss ≡ insert_steps l p.root at key value)) steps refl, refl, refl)

      module _ (slot : at < 2 ^ log_of s.root) (few : s.keys < 262144) (b : Bool) (is_roomy : b ≡ nat_le (4 * (s.keys + s.tombstones + 1)) (3 * 2 ^ log_of s.root)) (roomy : b ≡ true) where
        puts_in : (x : Step) → action l p (entry opens x) ≡ inserts empty pair
        puts_in = about_insert floor (first h o) client p s r.reflects opens pair adds_empty (room floor (first h o) client p s r.reflects few) b is_roomy roomy

        pub may_insert_now : MayMake h o w.token (opened opens (insert_steps l s.root at key value))
        may_insert_now = may_insert h o w w s s r opens key value at slot puts_in

        pub inserted_now : (view_of s.words.items).state at ≡ 0 → (w' : Writer D F) (s' : HtState) → Steps h o w (opened opens (insert_steps l s.root at key value)) w' → s' ≡ inserted_lists s at key value → IsDone h o p (added l p) (InsertSteps l p key value at) (Empty at) opens key value w Fresh w' s s'
        inserted_now was w' s' steps is = inl (
          made_insert h o w w' s s' r opens key value at slot puts_in was (room floor (first h o) client p s r.reflects few) (roomy_now floor (first h o) client p s r.reflects b is_roomy roomy) steps is,
          ap (λ (x : HtState). x.root) is,
          ap (λ (x : HtState). x.arena) is,
        )

  module _ (opens : List ℕ) (key value : ℕ) where
    -- The call's plan is of this case
    module _ (plan case : Plan) (is : plan ≡ case) (expected : Plan → Reply) (Are : Plan → List Step → Type 0) where
      made_by : (reply : Reply) (w' : Writer D F) (s' : HtState) → IsMade h o p (expected case) (Are case) opens w reply w' s' → IsMade h o p (expected plan) (Are plan) opens w reply w' s'
      made_by reply w' s' = subst (λ (z : Plan). IsMade h o p (expected z) (Are z) opens w reply w' s') (sym is)

      -- its steps are those of the case, and the lists name the same region
      pub done_by : (reply : Reply) (w' : Writer D F) (s' : HtState) → IsMade h o p (expected case) (Are case) opens w reply w' s' → (s'.root ≡ s.root) × (s'.arena ≡ s.arena) → IsDone h o p (expected plan) (Are plan) plan opens key value w reply w' s s'
      done_by reply w' s' made kept = inl (made_by reply w' s' made, kept.0, kept.1)

      -- it may have rebuilt
      pub done_or_needed : (result : Result Reply Need) (w' : Writer D F) (s' : HtState) → MatchResult result (λ reply. IsDone h o p (expected case) (Are case) case opens key value w reply w' s s') (λ need. IsNeeded h o p case s need)
          → MatchResult result (λ reply. IsDone h o p (expected plan) (Are plan) plan opens key value w reply w' s s') (λ need. IsNeeded h o p plan s need)
      done_or_needed result w' s' = subst (λ (z : Plan). MatchResult result (λ reply. IsDone h o p (expected z) (Are z) z opens key value w reply w' s s') (λ need. IsNeeded h o p z s need)) (sym is)

    -- A fresh key of `set` or `put` takes an empty slot, or a tombstone
    module _ (plan : Plan) (at : ℕ) where
      pub stored_empty : (keeps : Bool) → plan ≡ Empty at → (result : Result Reply Need) (w' : Writer D F) (s' : HtState) → MatchResult result (λ reply. IsDone h o p (added l p) (InsertSteps l p key value at) (Empty at) opens key value w reply w' s s') (λ need. IsNeeded h o p (Empty at) s need)
          → MatchResult result (λ reply. IsDone h o p (store_reply l p keeps plan) (StoreSteps l p keeps key value plan) plan opens key value w reply w' s s') (λ need. IsNeeded h o p plan s need)
      stored_empty true is = done_or_needed plan (Empty at) is (put_reply l p) (PutSteps l p key value)
      stored_empty false is = done_or_needed plan (Empty at) is (set_reply l p) (SetSteps l p key value)

      pub stored_reused : (keeps : Bool) → plan ≡ Reuse at → (reply : Reply) (w' : Writer D F) (s' : HtState) → IsMade h o p (added l p) (ReuseSteps l p key value at) opens w reply w' s' → (s'.root ≡ s.root) × (s'.arena ≡ s.arena)
          → IsDone h o p (store_reply l p keeps plan) (StoreSteps l p keeps key value plan) plan opens key value w reply w' s s'
      stored_reused true is = done_by plan (Reuse at) is (put_reply l p) (PutSteps l p key value)
      stored_reused false is = done_by plan (Reuse at) is (set_reply l p) (SetSteps l p key value)

    -- a key that is present, by its plan
    module _ (plan : Plan) (planned : plan_now l p key ≡ plan) (inside : IsIn slots plan) (states : HasStates (view_of s.words.items) plan) where
      -- It stands in this slot
      module _ (at : ℕ) (found : IsFound at plan) where
        stands_here : (at < slots) × ((view_of s.words.items).state at ≡ 1)
        stands_here = by_found (λ (z : Plan). IsIn slots z → HasStates (view_of s.words.items) z → (at < slots) × ((view_of s.words.items).state at ≡ 1)) at (λ i full. (i, full)) (λ to i full. (i.1, full.1)) plan found inside states

        pub value_here : 4 * at + 3 < length s.words.items
        value_here = value_in at stands_here.0

        had : (x : ℕ) → x ≡ (view_of s.words.items).value at → x ≡ (slots_now l p).value at
        had = value_is h o w w s s r opens at stands_here.0 stands_here.1

        -- `put` keeps its value
        module _ (named : opens ≡ put ∷ key ∷ value ∷ []) where
          asks_now : (x : Step) → action l p (entry opens x) ≡ nothing
          asks_now x = put_is l p r.idles key value plan planned opens named x ∙ by_found (λ (z : Plan). to_put l p z key value (word_of x) ≡ nothing) at refl (λ to. refl) plan found

          pub may_put_ask : (root : ℕ) → MayStep h o w.token (entry opens (Load l.base root))
          may_put_ask = may_ask h o w w s s r opens asks_now

          pub put_asks : (x : ℕ) → x ≡ (view_of s.words.items).value at → (root : ℕ) (w' : Writer D F) → Steps h o w (entry opens (Load l.base root) ∷ []) w' → IsDone h o p (put_reply l p plan) (PutSteps l p key value plan) plan opens key value w (Has x) w' s s
          put_asks x is root w' steps =
              let made = made_ask h o w w' s s r opens asks_now root (Has ((slots_now l p).value at)) (Has x) (ap Has (had x is)) (Asks l) (λ ss asks. asks) steps refl in
              inl (by_found (λ (z : Plan). IsMade h o p (put_reply l p z) (PutSteps l p key value z) opens w (Has x) w' s) at made (λ to. made) plan found, refl, refl)

        -- `remove` takes it out
        module _ (named : opens ≡ remove ∷ key ∷ []) where
          removes : (x : Step) → action l p (entry opens x) ≡ deletes key at
          removes x = remove_is l p r.idles key 0 plan planned opens named x ∙ by_found (λ (z : Plan). to_remove l p z key ≡ deletes key at) at refl (λ to. refl) plan found

          pub some_keys : 0 < s.keys
          some_keys = key_here h o w w s s r opens key at stands_here.0 removes stands_here.1

          pub may_delete : MayMake h o w.token (opened opens (remove_steps l s.root at (next_count n s)))
          may_delete = may_remove h o w w s s r opens key at stands_here.0 removes stands_here.1

          pub deleted_by : (x : ℕ) → x ≡ (view_of s.words.items).value at → (w' : Writer D F) (s' : HtState) → Steps h o w (opened opens (remove_steps l s.root at (next_count n s))) w' → s' ≡ removed_lists n s at → IsMade h o p (remove_reply l p plan) (RemoveSteps l p plan) opens w (Was x) w' s'
          deleted_by x is w' s' steps then =
              let made = made_remove h o w w' s s' r opens key at stands_here.0 removes stands_here.1 (Was ((slots_now l p).value at)) (Was x) (ap Was (had x is)) steps then in
              by_found (λ (z : Plan). IsMade h o p (remove_reply l p z) (RemoveSteps l p z) opens w (Was x) w' s') at made (λ to. made) plan found

      in_case : (case : Plan) → plan ≡ case → IsIn slots case
      in_case case is = subst (IsIn slots) is inside

      states_of : (case : Plan) → plan ≡ case → HasStates (view_of s.words.items) case
      states_of case is = subst (HasStates (view_of s.words.items)) is states

      -- `set` replaces its value, where it stands before every tombstone
      module _ (at : ℕ) (is : plan ≡ Stand at) (named : opens ≡ set ∷ key ∷ value ∷ []) where
        sets : (x : Step) → action l p (entry opens x) ≡ stands key at value
        sets = set_is l p r.idles key value (Stand at) (planned ∙ is) opens named

        pub may_set_stand : MayStep h o w.token (entry opens (Store (l.word s.root at 3) value))
        may_set_stand = may_stand h o w w s s r opens key value at (in_case (Stand at) is) sets (states_of (Stand at) is)

        pub set_stand : (x : ℕ) → x ≡ (view_of s.words.items).value at → (w' : Writer D F) (s' : HtState) → Steps h o w (entry opens (Store (l.word s.root at 3) value) ∷ []) w' → s' ≡ valued_lists s at value → IsDone h o p (set_reply l p plan) (SetSteps l p key value plan) plan opens key value w (Was x) w' s s'
        set_stand x was w' s' steps then = done_by plan (Stand at) is (set_reply l p) (SetSteps l p key value) (Was x) w' s'
            (made_stand h o w w' s s' r opens key value at (in_case (Stand at) is) sets (states_of (Stand at) is) _ _ (ap Was (had at (inl is) x was)) steps then)
            (ap (λ (z : HtState). z.root) then, ap (λ (z : HtState). z.arena) then)

      -- and where a tombstone comes before it
      module _ (to from : ℕ) (is : plan ≡ Move to from) (named : opens ≡ set ∷ key ∷ value ∷ []) where
        moves : (x : Step) → action l p (entry opens x) ≡ inserts (move from) (record { key = key; number = value; to = to })
        moves = set_is l p r.idles key value (Move to from) (planned ∙ is) opens named

        pub may_set_move : MayMake h o w.token (opened opens (move_steps l s.root to from key value (next_count n s)))
        may_set_move = may_move h o w w s s r opens key value to from (in_case (Move to from) is).0 (in_case (Move to from) is).1 moves (states_of (Move to from) is).0 (states_of (Move to from) is).1

        pub set_move : (x : ℕ) → x ≡ (view_of s.words.items).value from → (w' : Writer D F) (s' : HtState) → Steps h o w (opened opens (move_steps l s.root to from key value (next_count n s))) w' → s' ≡ moved_lists n s to from key value → IsDone h o p (set_reply l p plan) (SetSteps l p key value plan) plan opens key value w (Was x) w' s s'
        set_move x was w' s' steps then = done_by plan (Move to from) is (set_reply l p) (SetSteps l p key value) (Was x) w' s'
            (made_move h o w w' s s' r opens key value to from (in_case (Move to from) is).0 (in_case (Move to from) is).1 moves (states_of (Move to from) is).0 (states_of (Move to from) is).1 _ _ (ap Was (had from (inr (to, is)) x was)) steps then)
            (ap (λ (z : HtState). z.root) then, ap (λ (z : HtState). z.arena) then)

    -- `remove` stores nothing where its key is missing
    module _ (plan : Plan) (planned : plan_now l p key ≡ plan) (missing : IsMissing plan) (named : opens ≡ remove ∷ key ∷ []) where
      misses : (x : Step) → action l p (entry opens x) ≡ nothing
      misses x = remove_is l p r.idles key 0 plan planned opens named x ∙ by_missing (λ (z : Plan). to_remove l p z key ≡ nothing) (λ at. refl) (λ at. refl) plan missing

      pub may_remove_ask : (root : ℕ) → MayStep h o w.token (entry opens (Load l.base root))
      may_remove_ask = may_ask h o w w s s r opens misses

      pub remove_asks : (root : ℕ) (w' : Writer D F) → Steps h o w (entry opens (Load l.base root) ∷ []) w' → IsMade h o p (remove_reply l p plan) (RemoveSteps l p plan) opens w Missing w' s
      remove_asks root w' steps =
          let made = made_ask h o w w' s s r opens misses root Missing Missing refl (Asks l) (λ ss asks. asks) steps refl in
          by_missing (λ (z : Plan). IsMade h o p (remove_reply l p z) (RemoveSteps l p z) opens w Missing w' s) (λ at. made) (λ at. made) plan missing
