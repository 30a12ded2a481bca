-- The cases of an update: that the writer may make their steps, and that the call is over after them.
use Rattle.std.proofs.Common.{◌≡◌, ◌≢◌, ℕ, suc, ◌+◌, ◌-◌, ◌*◌, ◌^◌, ◌<◌, le_refl, Bool, true, cond, List, [], ◌∷◌, ◌++◌, map, set, get_or, get_or-set_other, refl, sym, ap, ◌∙◌, subst, arith}
use Rattle.ck_run.specs.declared.account.Step.{Step}
use Rattle.ck_run.specs.declared.account.Step.TheVariants.{Store, Load}
use Rattle.ck_run.specs.declared.account.Entry.{Entry}
use Rattle.ck_run.specs.Machine.{state_after}
use Rattle.ck_run.specs.Run.{entry, further, words_after}
use Rattle.ck_history.specs.declared.log.LogEntry.{LogEntry}
use Rattle.ck_htplan.specs.Region.{view_of, low_of, high_of}
use Rattle.ck_htlaw.specs.declared.client.HtClient.{HtClient}
use Rattle.ck_htlaw.specs.Calls.{opening_of}
use Rattle.ck_htlaw.specs.Stages.{Insertion, Target, empty, reuse, move, Stage, idle, after_rebuild, with_bump, with_value, with_low, with_high, before_tombstone, with_tombstone}
use Rattle.ck_htlaw.specs.Layout.{log_of, counters_of, layout}
use Rattle.ck_htlaw.specs.Table.{Layout, WriterState, Action, inserts, stands, deletes, nothing, is_table_word, filled, after_first, second, MayDo, MayWriterStep, GoesOn, count, linearizing, repeated}
use Rattle.ck_htlaw.specs.Actions.{action, answer_to}
use Rattle.ck_htlaw.specs.Invariant.{IsTaking, BeginsRebuild}
use Rattle.ck_htlaw.specs.Client.{Answers, answers_next, due_at, orders_of}
use Rattle.ck_htlaw.proofs.Tokens.{is_inside}
use Rattle.ck_htwrite.specs.declared.state.HtState.{HtState}
use Rattle.ck_htwrite.specs.State.{Mirrors, Reflects, next_count}
use Rattle.ck_htwrite.specs.Rebuild.{key_steps}
use Rattle.ck_htwrite.specs.Updates.{keyed_words, insert_steps, reuse_steps, move_steps, remove_steps, bumped_lists, valued_lists, keyed_lists, buried_lists, inserted_lists, reused_lists, moved_lists, removed_lists, MayBegin, settled_answer, IsOver}
use Rattle.ck_htwrite.specs.Writes.{WriterAt, CanMake, IsPlainStep, opened, writer_after}
use Rattle.ck_htwrite.proofs.Slots.{word_in, counter_low}
use Rattle.ck_htwrite.proofs.Shapes.{bumped_again}
use Rattle.ck_htwrite.proofs.Writing.{goes_on, goes_over}
use Rattle.ck_htwrite.proofs.Fills.{mirrors_bump, counter_is, mirrors_value, buries, mirrors_inserted, mirrors_reused, bumped_more}

-- the stages at which an update may begin
begin_at : (opens : List ℕ) (P : Stage → Type 0) (g : Stage) → MayBegin g opens → P idle → ((c : List ℕ) → opens ≡ [] → P (after_rebuild c)) → P g
begin_at opens P idle b x y = x
begin_at opens P (after_rebuild c) b x y = y c b
begin_at opens P g b x y = absurd b

-- the first step of an update, which takes no region
module _ (l : Layout) (p : WriterState) (opens : List ℕ) (begins : MayBegin p.stage opens) (a : Action) (s : Step) (does : action l p (entry opens s) ≡ a) where
  abbrev e : Entry
  e = entry opens s

  pub plain_first : is_table_word l s ≡ true → MayDo l p a s → ((root : ℕ) → BeginsRebuild a root → ⊥) → IsPlainStep l p e
  plain_first own may none = record {
    own = own;
    may = subst (λ (z : Action). MayWriterStep l p z p.stage s) (sym does) (begin_at opens (λ (g : Stage). MayWriterStep l p a g s) p.stage begins may (λ c o. may));
    goes = begin_at opens (λ (g : Stage). GoesOn g opens) p.stage begins tt (λ c o. o);
    takes_none = subst (λ (z : Action). (root : ℕ) → IsTaking z p.stage root → ⊥) (sym does) (begin_at opens (λ (g : Stage). (root : ℕ) → IsTaking a g root → ⊥) p.stage begins none (λ c o. none));
  }

  pub next_first : (q : WriterState) → ((c : List ℕ) → after_first l c (record p { stage = idle }) a ≡ q) → writer_after l p e ≡ record q { words = words_after p.words s }
  next_first q is = begin_at opens (λ (g : Stage). p.stage ≡ g → writer_after l p e ≡ record q { words = words_after p.words s }) p.stage begins
      (λ at. (λ i. record (second l opens (record p { stage = at i }) (does i) (at i)) { words = words_after p.words s }) ∙ ap (λ (x : WriterState). record x { words = words_after p.words s }) (is opens))
      (λ c o at. (λ i. record (second l opens p (does i) (at i)) { words = words_after p.words s }) ∙ ap (λ (x : WriterState). record x { words = words_after p.words s }) (is c))
      refl

  pub due_first : (d : LogEntry ℕ) → is_table_word l s ≡ true → due_at l p p.stage e d ≡ settled_answer l p p.stage opens d
  due_first d own = begin_at opens (λ (g : Stage). due_at l p g e d ≡ settled_answer l p g opens d) p.stage begins (ap (λ (b : Bool). cond b (answer_to l p (opening_of opens)) d) own) (λ c o. refl)

-- the stores of a key
module _ (l : Layout) (p : WriterState) (c : Target) (w : Insertion) (root at key : ℕ) (is_root : p.root ≡ root) (is_key : w.key ≡ key) (is_at : w.to ≡ at) (own : (j v : ℕ) → j < 4 → is_table_word l (Store (l.word root at j) v) ≡ true) where
  abbrev p0 : WriterState
  p0 = record p { stage = with_value c w }

  abbrev pub k1 : Entry
  k1 = further (Store (l.word root at 1) (low_of key))

  abbrev pub k2 : Entry
  k2 = further (Store (l.word root at 2) (high_of key))

  abbrev pub k3 : Entry
  k3 = further (Store (l.word root at 0) 1)

  abbrev p1 : WriterState
  p1 = record p { stage = with_low c w; words = set p.words (l.word root at 1) (low_of key) }

  abbrev pub p2 : WriterState
  p2 = record p { stage = with_high c w; words = set (set p.words (l.word root at 1) (low_of key)) (l.word root at 2) (high_of key) }

  word_is : (j : ℕ) → l.word root at j ≡ l.word p.root w.to j
  word_is j i = l.word (sym is_root i) (sym is_at i) j

  pub can_key : ((x y : ℕ) → x ≡ y → (l.order x).low_of key ≡ low_of key) → ((x y : ℕ) → x ≡ y → (l.order x).high_of key ≡ high_of key) → (es : List Entry) → CanMake l (writer_after l p2 k3) es → CanMake l p0 (k1 ∷ k2 ∷ k3 ∷ es)
  can_key lows highs es more = (
    record { own = own 1 (low_of key) (omega arith); may = (word_is 1, sym (ap (λ (k : ℕ). (l.order p.root).low_of k) is_key ∙ lows p.root root is_root)); goes = refl; takes_none = λ r t. t },
    (
      record { own = own 2 (high_of key) (omega arith); may = (word_is 2, sym (ap (λ (k : ℕ). (l.order p.root).high_of k) is_key ∙ highs p.root root is_root)); goes = refl; takes_none = λ r t. t },
      (record { own = own 0 1 (omega arith); may = (word_is 0, refl); goes = refl; takes_none = λ r t. t }, more),
    ),
  )

  pub at_key : (a : Answers) (d : LogEntry ℕ) (log : List (LogEntry ℕ)) → WriterAt a p0 d log → WriterAt (answers_next l (answers_next l a k1) k2) p2 d log
  at_key a d log at0 = goes_on l (answers_next l a k1) p1 p2 d d log k2 (goes_on l a p0 p1 d d log k1 at0 (own 1 (low_of key) (omega arith)) refl refl refl) (own 2 (high_of key) (omega arith)) refl refl refl

module _ (floor base : ℕ) (client : HtClient) where
  abbrev n : ℕ
  n = counters_of client

  abbrev l : Layout
  l = layout floor base n (orders_of client)

  module _ (p : WriterState) (s : HtState) (h : Reflects n l p s) (opens : List ℕ) (begins : MayBegin p.stage opens) where
    abbrev m : Mirrors n l p.words s
    m = h.mirrors

    abbrev slots : ℕ
    slots = 2 ^ log_of s.root

    abbrev answer : LogEntry ℕ → LogEntry ℕ
    answer d = settled_answer l p p.stage opens d

    -- a word of a slot, and a counter, are the table's
    own_word : (at : ℕ) → at < slots → (j v : ℕ) → j < 4 → is_table_word l (Store (l.word s.root at j) v) ≡ true
    own_word at few j v low = let z = word_in n s m.shape at j few low in is_inside l (Store (l.word s.root at j) v) (omega arith) (omega arith)

    own_counter : (x : ℕ) → is_table_word l (Store (l.counter s.root) x) ≡ true
    own_counter x = let z = counter_low n s m.shape in is_inside l (Store (l.counter s.root) x) (omega arith) (omega arith)

    word_now : (at j : ℕ) → l.word s.root at j ≡ l.word p.root at j
    word_now at j = ap (λ (r : ℕ). l.word r at j) (sym h.root)

    counter_now : l.counter s.root ≡ l.counter p.root
    counter_now = ap l.counter (sym h.root)

    -- what the bump stores
    pub count_now : next_count n s ≡ suc (count l p.words p.root)
    count_now = let z = counter_is floor base client p.words s m in let y : get_or p.words (l.counter s.root) 0 ≡ get_or p.words (l.counter p.root) 0 = ap (λ (k : ℕ). get_or p.words k 0) counter_now in omega arith

    -- a fresh key takes an empty slot
    module _ (key value at : ℕ) (few : at < slots) (does : (x : Step) → action l p (entry opens x) ≡ inserts empty (record { key = key; number = value; to = at })) where
      abbrev w : Insertion
      w = record { key = key; number = value; to = at }

      abbrev e0 : Entry
      e0 = entry opens (Store (l.word s.root at 3) value)

      abbrev q : WriterState
      q = record p { words = set p.words (l.word s.root at 3) value }

      next0 : writer_after l p e0 ≡ record q { stage = with_value empty w }
      next0 = next_first l p opens begins (inserts empty w) (Store (l.word s.root at 3) value) (does _) (record p { stage = with_value empty w }) (λ c. refl)

      pub can_insert : CanMake l p (opened opens (insert_steps l s.root at key value))
      can_insert = (
        plain_first l p opens begins (inserts empty w) (Store (l.word s.root at 3) value) (does _) (own_word at few 3 value (omega arith)) (word_now at 3, refl) (λ r t. t),
        subst (λ (x : WriterState). CanMake l x (map further (key_steps l s.root at (low_of key) (high_of key)))) (sym next0)
            (can_key l q empty w s.root at key h.root refl refl (own_word at few) (λ x y e. refl) (λ x y e. refl) [] tt),
      )

      pub insert_over : (a : Answers) (d : LogEntry ℕ) (told : List (LogEntry ℕ)) → WriterAt a p d told → (view_of s.words.items).state at ≡ 0
          → IsOver n l (state_after (answers_next l) a (opened opens (insert_steps l s.root at key value))) (answer d) told (inserted_lists s at key value)
      insert_over a d told at0 was =
          let own3 = own_word at few 3 value (omega arith) in
          let at1 = goes_on l a p (record q { stage = with_value empty w }) d (answer d) told e0 at0 own3 next0 (due_first l p opens begins (inserts empty w) (Store (l.word s.root at 3) value) (does _) d own3) refl in
          let k3' : Entry = k3 l q empty w s.root at key h.root refl refl (own_word at few) in
          let q2 : WriterState = p2 l q empty w s.root at key h.root refl refl (own_word at few) in
          let q3 : WriterState = record (filled q empty w) { words = keyed_words l s.root at key q.words } in
          let at3 = at_key l q empty w s.root at key h.root refl refl (own_word at few) (answers_next l a e0) (answer d) told at1 in
          record {
            is_writer = q3;
            at = goes_over l _ q2 q3 (answer d) (answer d) told k3' at3 (own_word at few 0 1 (omega arith)) refl refl refl;
            idles = refl;
            root = h.root;
            mirrors = mirrors_inserted floor base client p.words s m at few key value was;
            bumped = h.bumped;
          }

    -- an update that begins with a bump, up to the store of the value
    module _ (c : Target) (key value at : ℕ) (few : at < slots) where
      abbrev pub v : Insertion
      v = record { key = key; number = value; to = at }

      abbrev r0 : Entry
      r0 = entry opens (Store (l.counter s.root) (next_count n s))

      abbrev r1 : Entry
      r1 = further (Store (l.word s.root at 3) value)

      abbrev bumped_state : WriterState
      bumped_state = record p { stage = with_bump c v; words = set p.words (l.counter s.root) (next_count n s); bumps = suc p.bumps }

      abbrev pub valued_state : WriterState
      valued_state = record p { words = set (set p.words (l.counter s.root) (next_count n s)) (l.word s.root at 3) value; bumps = suc p.bumps }

      module _ (does : (x : Step) → action l p (entry opens x) ≡ inserts c v) (may : MayDo l p (inserts c v) r0.step)
          (goes_first : (k : List ℕ) → after_first l k (record p { stage = idle }) (inserts c v) ≡ record p { stage = with_bump c v; bumps = suc p.bumps }) where
        next_bump : writer_after l p r0 ≡ bumped_state
        next_bump = next_first l p opens begins (inserts c v) r0.step (does _) (record p { stage = with_bump c v; bumps = suc p.bumps }) goes_first

        pub can_bump : (es : List Entry) → CanMake l (record valued_state { stage = with_value c v }) es → CanMake l p (r0 ∷ r1 ∷ es)
        can_bump es more = (
          plain_first l p opens begins (inserts c v) r0.step (does _) (own_counter (next_count n s)) may (λ r t. t),
          subst (λ (x : WriterState). CanMake l x (r1 ∷ es)) (sym next_bump)
              (record { own = own_word at few 3 value (omega arith); may = (word_now at 3, refl); goes = refl; takes_none = λ r t. t }, more),
        )

        pub at_bump : (a : Answers) (d : LogEntry ℕ) (told : List (LogEntry ℕ)) → WriterAt a p d told → WriterAt (answers_next l (answers_next l a r0) r1) (record valued_state { stage = with_value c v }) (answer d) told
        at_bump a d told at0 =
            let own = own_counter (next_count n s) in
            let at1 = goes_on l a p bumped_state d (answer d) told r0 at0 own next_bump (due_first l p opens begins (inserts c v) r0.step (does _) d own) refl in
            goes_on l (answers_next l a r0) bumped_state (record valued_state { stage = with_value c v }) (answer d) (answer d) told r1 at1 (own_word at few 3 value (omega arith)) refl refl refl

    abbrev s1 : HtState
    s1 = bumped_lists n s

    abbrev ws1 : List ℕ
    ws1 = set p.words (l.counter s.root) (next_count n s)

    m1 : Mirrors n l ws1 s1
    m1 = mirrors_bump floor base client p.words s m

    -- a fresh key takes a tombstone
    module _ (key value at : ℕ) (few : at < slots) (does : (x : Step) → action l p (entry opens x) ≡ inserts reuse (record { key = key; number = value; to = at })) where
      abbrev rq : WriterState
      rq = valued_state reuse key value at few

      abbrev rw : Insertion
      rw = v reuse key value at few

      pub can_reuse : CanMake l p (opened opens (reuse_steps l s.root at key value (next_count n s)))
      can_reuse = can_bump reuse key value at few does (counter_now, count_now) (λ k. refl) (map further (key_steps l s.root at (low_of key) (high_of key)))
          (can_key l rq reuse rw s.root at key h.root refl refl (own_word at few) (λ x y e. refl) (λ x y e. refl) [] tt)

      module _ (was : (view_of s.words.items).state at ≡ 2) where
        reused : (0 < s.tombstones) × Mirrors n l (keyed_words l s.root at key (set ws1 (l.word s.root at 3) value)) (reused_lists n s at key value)
        reused = mirrors_reused floor base client ws1 s1 m1 at few key value was

        pub some_tombstone : 0 < s.tombstones
        some_tombstone = reused.0

        pub reuse_over : (a : Answers) (d : LogEntry ℕ) (told : List (LogEntry ℕ)) → WriterAt a p d told
            → IsOver n l (state_after (answers_next l) a (opened opens (reuse_steps l s.root at key value (next_count n s)))) (answer d) told (reused_lists n s at key value)
        reuse_over a d told at0 =
            let at2 = at_bump reuse key value at few does (counter_now, count_now) (λ k. refl) a d told at0 in
            let q2 : WriterState = p2 l rq reuse rw s.root at key h.root refl refl (own_word at few) in
            let q3 : WriterState = record (filled rq reuse rw) { words = keyed_words l s.root at key rq.words } in
            let at3 = at_key l rq reuse rw s.root at key h.root refl refl (own_word at few) _ (answer d) told at2 in
            record {
              is_writer = q3;
              at = goes_over l _ q2 q3 (answer d) (answer d) told (further (Store (l.word s.root at 0) 1)) at3 (own_word at few 0 1 (omega arith)) refl refl refl;
              idles = refl;
              root = h.root;
              mirrors = reused.1;
              bumped = bumped_more floor base client s p.bumps h.bumped;
            }

    -- a key is removed
    module _ (key at : ℕ) (few : at < slots) (does : (x : Step) → action l p (entry opens x) ≡ deletes key at) (was : (view_of s.words.items).state at ≡ 1) where
      abbrev d0 : Entry
      d0 = entry opens (Store (l.word s.root at 0) 2)

      abbrev d1 : Entry
      d1 = further (Store (l.counter s.root) (next_count n s))

      abbrev removed_state : WriterState
      removed_state = record (linearizing p with_tombstone p.log key 0) { words = set p.words (l.word s.root at 0) 2 }

      abbrev over_state : WriterState
      over_state = record removed_state { stage = idle; bumps = suc p.bumps; log = suc p.log; words = set removed_state.words (l.counter s.root) (next_count n s) }

      abbrev s2 : HtState
      s2 = record (buried_lists s at) { keys = s.keys - 1; tombstones = s.tombstones + 1 }

      buried : (0 < s.keys) × Mirrors n l removed_state.words s2
      buried = buries floor base client p.words s m at few was

      pub some_key : 0 < s.keys
      some_key = buried.0

      next_removed : writer_after l p d0 ≡ removed_state
      next_removed = next_first l p opens begins (deletes key at) d0.step (does _) (linearizing p with_tombstone p.log key 0) (λ c. refl)

      count_then : next_count n s ≡ suc (count l removed_state.words p.root)
      count_then = let z = counter_is floor base client removed_state.words s2 buried.1 in
          let y : get_or removed_state.words (l.counter s.root) 0 ≡ get_or removed_state.words (l.counter p.root) 0 = ap (λ (k : ℕ). get_or removed_state.words k 0) counter_now in omega arith

      pub can_remove : CanMake l p (opened opens (remove_steps l s.root at (next_count n s)))
      can_remove = (
        plain_first l p opens begins (deletes key at) d0.step (does _) (own_word at few 0 2 (omega arith)) (word_now at 0, refl) (λ r t. t),
        subst (λ (x : WriterState). CanMake l x (d1 ∷ [])) (sym next_removed) (record { own = own_counter (next_count n s); may = (counter_now, count_then); goes = refl; takes_none = λ r t. t }, tt),
      )

      pub remove_over : (a : Answers) (d : LogEntry ℕ) (told : List (LogEntry ℕ)) → WriterAt a p d told
          → IsOver n l (state_after (answers_next l) a (opened opens (remove_steps l s.root at (next_count n s)))) (answer d) told (removed_lists n s at)
      remove_over a d told at0 =
          let own = own_word at few 0 2 (omega arith) in
          let at1 = goes_on l a p removed_state d (answer d) told d0 at0 own next_removed (due_first l p opens begins (deletes key at) d0.step (does _) d own) refl in
          record {
            is_writer = over_state;
            at = goes_over l (answers_next l a d0) removed_state over_state (answer d) (answer d) told d1 at1 (own_counter (next_count n s)) refl refl refl;
            idles = refl;
            root = h.root;
            mirrors = mirrors_bump floor base client removed_state.words s2 buried.1;
            bumped = bumped_more floor base client s p.bumps h.bumped;
          }

    -- a key moves to an earlier tombstone
    module _ (key value to from : ℕ) (few : to < slots) (low : from < slots) (does : (x : Step) → action l p (entry opens x) ≡ inserts (move from) (record { key = key; number = value; to = to }))
        (was : (view_of s.words.items).state to ≡ 2) (stood : (view_of s.words.items).state from ≡ 1) where
      abbrev mq : WriterState
      mq = valued_state (move from) key value to few

      abbrev mw : Insertion
      mw = v (move from) key value to few

      -- after the slot is full
      abbrev twice_state : WriterState
      twice_state = record (filled mq (move from) mw) { words = keyed_words l s.root to key mq.words }

      abbrev twice_lists : HtState
      twice_lists = keyed_lists (valued_lists s1 to value) to key

      abbrev counted_lists : HtState
      counted_lists = record twice_lists { keys = s.keys + 1; tombstones = s.tombstones - 1 }

      keyed_now : (0 < s.tombstones) × Mirrors n l twice_state.words counted_lists
      keyed_now = mirrors_reused floor base client ws1 s1 m1 to few key value was

      again : next_count n twice_lists ≡ next_count n s + 1
      again = bumped_again n s m.shape

      abbrev f1 : Entry
      f1 = further (Store (l.counter s.root) (next_count n s + 1))

      abbrev f2 : Entry
      f2 = further (Store (l.word s.root from 0) 2)

      abbrev second_state : WriterState
      second_state = record twice_state { stage = before_tombstone from mw; bumps = suc (suc p.bumps); words = set twice_state.words (l.counter s.root) (next_count n s + 1) }

      abbrev second_lists : HtState
      second_lists = bumped_lists n counted_lists

      twice_count : next_count n s + 1 ≡ suc (count l twice_state.words p.root)
      twice_count = let z = counter_is floor base client twice_state.words counted_lists keyed_now.1 in let e = again in
          let y : get_or twice_state.words (l.counter s.root) 0 ≡ get_or twice_state.words (l.counter p.root) 0 = ap (λ (k : ℕ). get_or twice_state.words k 0) counter_now in omega arith

      second_mirrors : Mirrors n l second_state.words second_lists
      second_mirrors = subst (λ (x : ℕ). Mirrors n l (set twice_state.words (l.counter s.root) x) second_lists) again (mirrors_bump floor base client twice_state.words counted_lists keyed_now.1)

      apart : from ≢ to
      apart e = absurd (let z : 1 ≡ 2 = sym stood ∙ (ap (view_of s.words.items).state e ∙ was) in cc)

      still_full : (view_of second_lists.words.items).state from ≡ 1
      still_full =
          get_or-set_other (set (set (set s.words.items (4 * to + 3) value) (4 * to + 1) (low_of key)) (4 * to + 2) (high_of key)) (4 * to + 0) (4 * from + 0) 1 0 (λ e. apart (omega arith))
          ∙ (get_or-set_other (set (set s.words.items (4 * to + 3) value) (4 * to + 1) (low_of key)) (4 * to + 2) (4 * from + 0) (high_of key) 0 (λ e. absurd (omega arith))
          ∙ (get_or-set_other (set s.words.items (4 * to + 3) value) (4 * to + 1) (4 * from + 0) (low_of key) 0 (λ e. absurd (omega arith))
          ∙ (get_or-set_other s.words.items (4 * to + 3) (4 * from + 0) value 0 (λ e. absurd (omega arith)) ∙ stood)))

      abbrev moved_state : WriterState
      moved_state = record second_state { stage = idle; log = suc p.log; words = set second_state.words (l.word s.root from 0) 2 }

      pub can_move : CanMake l p (opened opens (move_steps l s.root to from key value (next_count n s)))
      can_move = can_bump (move from) key value to few does (counter_now, count_now) (λ k. refl) (map further (key_steps l s.root to (low_of key) (high_of key)) ++ f1 ∷ f2 ∷ [])
          (can_key l mq (move from) mw s.root to key h.root refl refl (own_word to few) (λ x y e. refl) (λ x y e. refl) (f1 ∷ f2 ∷ []) (
            record { own = own_counter (next_count n s + 1); may = (counter_now, twice_count); goes = refl; takes_none = λ r t. t },
            (record { own = own_word from low 0 2 (omega arith); may = (word_now from 0, refl); goes = refl; takes_none = λ r t. t }, tt),
          ))

      keys_back : s.keys + 1 - 1 ≡ s.keys
      keys_back = omega arith

      tombstones_back : s.tombstones - 1 + 1 ≡ s.tombstones
      tombstones_back = let z = keyed_now.0 in omega arith

      pub move_over : (a : Answers) (d : LogEntry ℕ) (told : List (LogEntry ℕ)) → WriterAt a p d told
          → IsOver n l (state_after (answers_next l) a (opened opens (move_steps l s.root to from key value (next_count n s)))) (answer d) told (moved_lists n s to from key value)
      move_over a d told at0 =
          let at2 = at_bump (move from) key value to few does (counter_now, count_now) (λ k. refl) a d told at0 in
          let q2 : WriterState = p2 l mq (move from) mw s.root to key h.root refl refl (own_word to few) in
          let at3 = at_key l mq (move from) mw s.root to key h.root refl refl (own_word to few) _ (answer d) told at2 in
          let at4 = goes_on l _ q2 twice_state (answer d) (answer d) told (further (Store (l.word s.root to 0) 1)) at3 (own_word to few 0 1 (omega arith)) refl refl refl in
          let at5 = goes_on l _ twice_state second_state (answer d) (answer d) told f1 at4 (own_counter (next_count n s + 1)) refl refl refl in
          record {
            is_writer = moved_state;
            at = goes_over l _ second_state moved_state (answer d) (answer d) told f2 at5 (own_word from low 0 2 (omega arith)) refl refl refl;
            idles = refl;
            root = h.root;
            mirrors = subst (λ (z : ℕ × ℕ). Mirrors n l moved_state.words (record (buried_lists second_lists from) { keys = z.0; tombstones = z.1 })) (λ i. (keys_back i, tombstones_back i))
                (buries floor base client second_state.words second_lists second_mirrors from low still_full).1;
            bumped = bumped_more floor base client s1 (suc p.bumps) (bumped_more floor base client s p.bumps h.bumped);
          }

    -- a key gets another value where it stands
    module _ (key value at : ℕ) (few : at < slots) (does : (x : Step) → action l p (entry opens x) ≡ stands key at value) (was : (view_of s.words.items).state at ≡ 1) where
      abbrev z0 : Entry
      z0 = entry opens (Store (l.word s.root at 3) value)

      abbrev stood_state : WriterState
      stood_state = record (linearizing p idle (suc p.log) key (suc value)) { words = set p.words (l.word s.root at 3) value }

      pub can_stand : CanMake l p (z0 ∷ [])
      can_stand = (plain_first l p opens begins (stands key at value) z0.step (does _) (own_word at few 3 value (omega arith)) (word_now at 3, refl) (λ r t. t), tt)

      pub stand_over : (a : Answers) (d : LogEntry ℕ) (told : List (LogEntry ℕ)) → WriterAt a p d told → IsOver n l (answers_next l a z0) (answer d) told (valued_lists s at value)
      stand_over a d told at0 =
          let own = own_word at few 3 value (omega arith) in
          record {
            is_writer = stood_state;
            at = goes_over l a p stood_state d (answer d) told z0 at0 own (next_first l p opens begins (stands key at value) z0.step (does _) (linearizing p idle (suc p.log) key (suc value)) (λ c. refl)) (due_first l p opens begins (stands key at value) z0.step (does _) d own) refl;
            idles = refl;
            root = h.root;
            mirrors = mirrors_value floor base client p.words s m at few value was;
            bumped = h.bumped;
          }

    -- nothing is stored, and the root is loaded
    module _ (does : (x : Step) → action l p (entry opens x) ≡ nothing) (found : ℕ) where
      abbrev l0 : Entry
      l0 = entry opens (Load base found)

      abbrev asked_state : WriterState
      asked_state = record p { stage = idle; linearized = suc p.linearized; maps = repeated p.maps p.linearized; log = suc p.log }

      own_root : is_table_word l (Load base found) ≡ true
      own_root = is_inside l (Load base found) (le_refl base) (omega arith)

      pub can_ask : CanMake l p (l0 ∷ [])
      can_ask = (plain_first l p opens begins nothing l0.step (does _) own_root refl (λ r t. t), tt)

      pub ask_over : (a : Answers) (d : LogEntry ℕ) (told : List (LogEntry ℕ)) → WriterAt a p d told → IsOver n l (answers_next l a l0) (answer d) told s
      ask_over a d told at0 = record {
        is_writer = asked_state;
        at = goes_over l a p asked_state d (answer d) told l0 at0 own_root (next_first l p opens begins nothing l0.step (does _) asked_state (λ c. refl)) (due_first l p opens begins nothing l0.step (does _) d own_root) refl;
        idles = refl;
        root = h.root;
        mirrors = m;
        bumped = h.bumped;
      }
