-- The stores of a case, one after the other: which may come next, and what they are together. Each names the root as the lists have it then.
use Rattle.std.proofs.Common.{◌≡◌, ℕ, ◌+◌, ◌*◌, ◌/◌, List, [], ◌∷◌, ◌++◌, map, sym, ap, ◌∙◌, subst}
use Rattle.ck_run.specs.declared.account.Step.TheVariants.{Store}
use Rattle.ck_run.specs.declared.account.Entry.{Entry}
use Rattle.ck_run.specs.Run.{entry, further}
use Rattle.ck_epoch.specs.State.{Origin}
use Rattle.ck_epoch.specs.Ends.{Writer}
use Rattle.ck_htlaw.specs.Host.{Host, lies}
use Rattle.ck_htlaw.specs.Table.{Layout}
use Rattle.ck_htwrite.specs.declared.state.HtState.{HtState}
use Rattle.ck_htwrite.specs.Rebuild.{pair_steps}
use Rattle.ck_htwrite.specs.State.{IsShaped, next_count}
use Rattle.ck_htwrite.specs.Updates.{buried_lists, bumped_lists, insert_steps, keyed_lists, move_steps, remove_steps, valued_lists}
use Rattle.ck_htwrite.specs.Writes.{MayMake, MayStep, Steps, counters_in, opened}
use Rattle.ck_htwrite.proofs.Copying.{new_word}
use Rattle.ck_htwrite.proofs.Making.{may_first, may_rest, may_rests, may_some, steps_then}
use Rattle.ck_htwrite.proofs.Shapes.{bumped_again}

module _ {D : Type 0} (h : Host D) (o : Origin D) where
  abbrev l : Layout
  l = lies h o

  abbrev n : ℕ
  n = counters_in h o

  -- A pair is stored in a slot
  module _ {F : Type 0} (opens : List ℕ) (root at low high value : ℕ) (w : Writer D F) (due : MayMake h o w.token (opened opens (pair_steps l root at low high value))) where
    -- a store as the code writes it, and as the law has it
    abbrev stored : List ℕ → ℕ → ℕ → Entry
    stored os j x = entry os (Store (l.base + (root / 32 + 4 * at + j)) x)

    abbrev in_word : List ℕ → ℕ → ℕ → Entry
    in_word os j x = entry os (Store (l.word root at j) x)

    stored_is : (os : List ℕ) (j x : ℕ) → stored os j x ≡ in_word os j x
    stored_is os j x = ap (λ (a : ℕ). entry os (Store a x)) (new_word l.base root at j)

    may_store : (v : Writer D F) (os : List ℕ) (j x : ℕ) (rest : List Entry) → MayMake h o v.token (in_word os j x ∷ rest) → MayStep h o v.token (stored os j x)
    may_store v os j x rest left = subst (MayStep h o v.token) (sym (stored_is os j x)) (may_first h o v.token (in_word os j x) rest left)

    step_is : (v v' : Writer D F) (os : List ℕ) (j x : ℕ) → Steps h o v (stored os j x ∷ []) v' → Steps h o v (in_word os j x ∷ []) v'
    step_is v v' os j x = subst (λ (e : Entry). Steps h o v (e ∷ []) v') (stored_is os j x)

    abbrev after_value : List Entry
    after_value = in_word [] 1 low ∷ in_word [] 2 high ∷ in_word [] 0 1 ∷ []

    abbrev after_low : List Entry
    after_low = in_word [] 2 high ∷ in_word [] 0 1 ∷ []

    pub may_pair_value : MayStep h o w.token (stored opens 3 value)
    may_pair_value = may_store w opens 3 value after_value due

    module _ (w1 : Writer D F) (step0 : Steps h o w (stored opens 3 value ∷ []) w1) where
      left1 : MayMake h o w1.token after_value
      left1 = may_rest h o w w1 (in_word opens 3 value) after_value due (step_is w w1 opens 3 value step0)

      pub may_pair_low : MayStep h o w1.token (stored [] 1 low)
      may_pair_low = may_store w1 [] 1 low after_low left1

      module _ (w2 : Writer D F) (step1 : Steps h o w1 (stored [] 1 low ∷ []) w2) where
        left2 : MayMake h o w2.token after_low
        left2 = may_rest h o w1 w2 (in_word [] 1 low) after_low left1 (step_is w1 w2 [] 1 low step1)

        pub may_pair_high : MayStep h o w2.token (stored [] 2 high)
        may_pair_high = may_store w2 [] 2 high (in_word [] 0 1 ∷ []) left2

        module _ (w3 : Writer D F) (step2 : Steps h o w2 (stored [] 2 high ∷ []) w3) where
          pub may_pair_state : MayStep h o w3.token (stored [] 0 1)
          may_pair_state = may_store w3 [] 0 1 [] (may_rest h o w2 w3 (in_word [] 2 high) (in_word [] 0 1 ∷ []) left2 (step_is w2 w3 [] 2 high step2))

          pub paired : (w4 : Writer D F) → Steps h o w3 (stored [] 0 1 ∷ []) w4 → Steps h o w (opened opens (pair_steps l root at low high value)) w4
          paired w4 step3 = steps_then h o w w1 w4 (in_word opens 3 value ∷ []) after_value (step_is w w1 opens 3 value step0) (steps_then h o w1 w2 w4 (in_word [] 1 low ∷ []) after_low (step_is w1 w2 [] 1 low step1)
              (steps_then h o w2 w3 w4 (in_word [] 2 high ∷ []) (in_word [] 0 1 ∷ []) (step_is w2 w3 [] 2 high step2) (step_is w3 w4 [] 0 1 step3)))

  -- A bump, the stores of a slot, and what comes then
  module _ {F : Type 0} (opens : List ℕ) (at key value : ℕ) (rest : List Entry) (w : Writer D F) (s : HtState) (due : MayMake h o w.token (entry opens (Store (l.counter s.root) (next_count n s)) ∷ map further (insert_steps l s.root at key value) ++ rest))
      (w1 : Writer D F) (s1 : HtState) (bump : Steps h o w (entry opens (Store (l.counter s.root) (next_count n s)) ∷ []) w1) (bumped : s1 ≡ bumped_lists n s) where
    root_after : s1.root ≡ s.root
    root_after = ap (λ (z : HtState). z.root) bumped

    left_bumped : MayMake h o w1.token (map further (insert_steps l s.root at key value) ++ rest)
    left_bumped = may_rest h o w w1 _ (map further (insert_steps l s.root at key value) ++ rest) due bump

    pub may_place : MayMake h o w1.token (map further (insert_steps l s1.root at key value))
    may_place = subst (λ (r : ℕ). MayMake h o w1.token (map further (insert_steps l r at key value))) (sym root_after) (may_some h o w1.token (map further (insert_steps l s.root at key value)) rest left_bumped)

    module _ (w2 : Writer D F) (placing : Steps h o w1 (map further (insert_steps l s1.root at key value)) w2) where
      place_steps : Steps h o w1 (map further (insert_steps l s.root at key value)) w2
      place_steps = subst (λ (r : ℕ). Steps h o w1 (map further (insert_steps l r at key value)) w2) root_after placing

      left_placed : MayMake h o w2.token rest
      left_placed = may_rests h o w1 w2 (map further (insert_steps l s.root at key value)) rest left_bumped place_steps

      pub reused : Steps h o w (entry opens (Store (l.counter s.root) (next_count n s)) ∷ map further (insert_steps l s.root at key value)) w2
      reused = steps_then h o w w1 w2 (entry opens (Store (l.counter s.root) (next_count n s)) ∷ []) (map further (insert_steps l s.root at key value)) bump place_steps

  -- A key moves: after them the second bump and the tombstone
  module _ {F : Type 0} (opens : List ℕ) (to from key value : ℕ) (w : Writer D F) (s : HtState) (shape : IsShaped n s) (due : MayMake h o w.token (opened opens (move_steps l s.root to from key value (next_count n s)))) where
    abbrev e5 : Entry
    e5 = further (Store (l.counter s.root) (next_count n s + 1))

    abbrev e6 : Entry
    e6 = further (Store (l.word s.root from 0) 2)

    module _ (w1 : Writer D F) (s1 : HtState) (bump : Steps h o w (entry opens (Store (l.counter s.root) (next_count n s)) ∷ []) w1) (bumped : s1 ≡ bumped_lists n s) where
      pub may_place_moved : MayMake h o w1.token (map further (insert_steps l s1.root to key value))
      may_place_moved = may_place opens to key value (e5 ∷ e6 ∷ []) w s due w1 s1 bump bumped

      module _ (w2 : Writer D F) (s2 : HtState) (placing : Steps h o w1 (map further (insert_steps l s1.root to key value)) w2) (lists : s2 ≡ keyed_lists (valued_lists s1 to value) to key) where
        lists_then : s2 ≡ keyed_lists (valued_lists (bumped_lists n s) to value) to key
        lists_then = lists ∙ ap (λ (z : HtState). keyed_lists (valued_lists z to value) to key) bumped

        left_moved : MayMake h o w2.token (e5 ∷ e6 ∷ [])
        left_moved = left_placed opens to key value (e5 ∷ e6 ∷ []) w s due w1 s1 bump bumped w2 placing

        same_bump : further (Store (l.counter s2.root) (next_count n s2)) ≡ e5
        same_bump = ap (λ (z : HtState). further (Store (l.counter z.root) (next_count n z))) lists_then ∙ ap (λ (x : ℕ). further (Store (l.counter s.root) x)) (bumped_again n s shape)

        pub may_bump_again : MayStep h o w2.token (further (Store (l.counter s2.root) (next_count n s2)))
        may_bump_again = subst (MayStep h o w2.token) (sym same_bump) (may_first h o w2.token e5 (e6 ∷ []) left_moved)

        module _ (w3 : Writer D F) (s3 : HtState) (again : Steps h o w2 (further (Store (l.counter s2.root) (next_count n s2)) ∷ []) w3) (lists3 : s3 ≡ bumped_lists n s2) where
          bump_step : Steps h o w2 (e5 ∷ []) w3
          bump_step = subst (λ (e : Entry). Steps h o w2 (e ∷ []) w3) same_bump again

          root_moved : s3.root ≡ s.root
          root_moved = ap (λ (z : HtState). z.root) lists3 ∙ ap (λ (z : HtState). z.root) lists_then

          pub may_bury : MayStep h o w3.token (further (Store (l.word s3.root from 0) 2))
          may_bury = subst (λ (r : ℕ). MayStep h o w3.token (further (Store (l.word r from 0) 2))) (sym root_moved) (may_first h o w3.token e6 [] (may_rest h o w2 w3 e5 (e6 ∷ []) left_moved bump_step))

          pub moved : (w4 : Writer D F) → Steps h o w3 (further (Store (l.word s3.root from 0) 2) ∷ []) w4 → Steps h o w (opened opens (move_steps l s.root to from key value (next_count n s))) w4
          moved w4 bury = steps_then h o w w2 w4 (entry opens (Store (l.counter s.root) (next_count n s)) ∷ map further (insert_steps l s.root to key value)) (e5 ∷ e6 ∷ []) (reused opens to key value (e5 ∷ e6 ∷ []) w s due w1 s1 bump bumped w2 placing)
              (steps_then h o w2 w3 w4 (e5 ∷ []) (e6 ∷ []) bump_step (subst (λ (r : ℕ). Steps h o w3 (further (Store (l.word r from 0) 2) ∷ []) w4) root_moved bury))

  -- A key is removed: a tombstone, and a bump
  module _ {F : Type 0} (opens : List ℕ) (at : ℕ) (w : Writer D F) (s : HtState) (w1 : Writer D F) (s1 : HtState) (bury : Steps h o w (entry opens (Store (l.word s.root at 0) 2) ∷ []) w1) (buried : s1 ≡ buried_lists s at) where
    pub may_bump_after : MayMake h o w.token (opened opens (remove_steps l s.root at (next_count n s))) → MayStep h o w1.token (further (Store (l.counter s1.root) (next_count n s1)))
    may_bump_after due = subst (λ (z : HtState). MayStep h o w1.token (further (Store (l.counter z.root) (next_count n z)))) (sym buried)
        (may_first h o w1.token _ [] (may_rest h o w w1 _ (further (Store (l.counter s.root) (next_count n s)) ∷ []) due bury))

    pub removed : (w2 : Writer D F) → Steps h o w1 (further (Store (l.counter s1.root) (next_count n s1)) ∷ []) w2 → Steps h o w (opened opens (remove_steps l s.root at (next_count n s))) w2
    removed w2 bump = steps_then h o w w1 w2 (entry opens (Store (l.word s.root at 0) 2) ∷ []) (further (Store (l.counter s.root) (next_count n s)) ∷ []) bury
        (subst (λ (z : HtState). Steps h o w1 (further (Store (l.counter z.root) (next_count n z)) ∷ []) w2) buried bump)
