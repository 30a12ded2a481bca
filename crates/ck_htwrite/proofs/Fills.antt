-- The writer's lists after the stores of an update have the words of the region still.
use Rattle.std.proofs.Common.{◌≡◌, ◌≢◌, ℕ, zero, suc, ◌+◌, ◌-◌, ◌*◌, ◌^◌, ◌<◌, ◌≤◌, List, [], ◌∷◌, length, set, length-set, get_or, get_or-set_same, get_or-set_other, refl, sym, ap, ◌∙◌, subst, arith}
use mathlib.Core.Logic.{dite}
use native.Mathlib.Decide.{ℕ_discrete}
use Rattle.ck_slots.specs.Counting.{count as how_many}
use Rattle.ck_htplan.specs.Region.{view_of, low_of, high_of}
use Rattle.ck_htplan.proofs.Orders.{four}
use Rattle.ck_htlaw.specs.declared.client.HtClient.{HtClient}
use Rattle.ck_htlaw.specs.Known.{IsRoot}
use Rattle.ck_htlaw.specs.Layout.{table_words, log_of, counters_of, layout}
use Rattle.ck_htlaw.specs.Table.{Layout}
use Rattle.ck_htlaw.specs.Client.{orders_of}
use Rattle.ck_htwrite.specs.declared.state.HtState.{HtState}
use Rattle.ck_htwrite.specs.State.{Mirrors, counter_at, next_count}
use Rattle.ck_htwrite.specs.Updates.{bumped_lists, valued_lists, keyed_lists, buried_lists, keyed_words}
use Rattle.ck_htwrite.proofs.Slots.{one_more, one_less, as_many, same_states, counter_low, counter_here}
use Rattle.ck_htwrite.proofs.Shapes.{shaped_word, shaped_bump, shaped_keyed}

module _ (floor base : ℕ) (client : HtClient) where
  abbrev n : ℕ
  n = counters_of client

  abbrev l : Layout
  l = layout floor base n (orders_of client)

  -- the list has this word of the region
  abbrev IsCopied : ℕ → List ℕ → List ℕ → ℕ → ℕ → Type 0
  IsCopied root items ws i k = get_or items (4 * i + k) 0 ≡ get_or ws (l.word root i k) 0

  -- one store
  module _ (root : ℕ) (is_root : IsRoot n root) (items ws : List ℕ) (long : length items ≡ 4 * 2 ^ log_of root) (fits : base + table_words n ≤ length ws) (at j v : ℕ) (few : at < 2 ^ log_of root) (low : j < 4) where
    here : IsCopied root (set items (4 * at + j) v) (set ws (l.word root at j) v) at j
    here = get_or-set_same items (4 * at + j) v 0 (omega arith) ∙ sym (get_or-set_same ws (l.word root at j) v 0 (let a = is_root.piece.high in omega arith))

    else : (i k : ℕ) → (4 * i + k ≡ 4 * at + j → ⊥) → IsCopied root items ws i k → IsCopied root (set items (4 * at + j) v) (set ws (l.word root at j) v) i k
    else i k apart is = get_or-set_other items (4 * at + j) (4 * i + k) v 0 apart ∙ (is ∙ sym (get_or-set_other ws (l.word root at j) (l.word root i k) v 0 (λ e. apart (omega arith))))

    counter_else : (c : ℕ) → c < n → get_or (set ws (l.word root at j) v) (base + 1 + c) 0 ≡ get_or ws (base + 1 + c) 0
    counter_else c b = get_or-set_other ws (l.word root at j) (base + 1 + c) v 0 (λ e. let p = is_root.piece.low in absurd (omega arith))

  module _ (ws : List ℕ) (s : HtState) (m : Mirrors n l ws s) where
    abbrev slots : ℕ
    slots = 2 ^ log_of s.root

    abbrev items : List ℕ
    items = s.words.items

    abbrev is_root : IsRoot n s.root
    is_root = m.shape.is_root

    long : length items ≡ 4 * slots
    long = let f = four (log_of s.root) in let e = m.shape.long in omega arith

    copied : (i k : ℕ) → i < slots → k < 4 → (view_of items).state i ≡ 1 → IsCopied s.root items ws i k
    copied = m.pairs

    -- the bump
    pub mirrors_bump : Mirrors n l (set ws (l.counter s.root) (next_count n s)) (bumped_lists n s)
    mirrors_bump =
        let at : ℕ = counter_at n s.root in let x : ℕ = next_count n s in
        let inside = counter_low n s m.shape in
        let p = is_root.piece.low in
        record {
          shape = shaped_bump n s m.shape;
          states = λ i b. m.states i b ∙ sym (get_or-set_other ws (l.counter s.root) (l.word s.root i 0) x 0 (λ e. absurd (omega arith)));
          pairs = λ i j b c full. m.pairs i j b c full ∙ sym (get_or-set_other ws (l.counter s.root) (l.word s.root i j) x 0 (λ e. absurd (omega arith)));
          fits = subst (λ (n : ℕ). l.base + l.size ≤ n) (sym (length-set ws (l.counter s.root) x)) m.fits;
          counts = λ k c. dite (ℕ_discrete k at)
              (λ (e : k ≡ at). ap (λ (y : ℕ). get_or (set s.counters.items at x) y 0) e ∙ (get_or-set_same s.counters.items at x 0 (counter_here n s m.shape)
              ∙ sym (ap (λ (y : ℕ). get_or (set ws (l.counter s.root) x) y 0) (let z : l.base + 1 + k ≡ l.counter s.root = omega arith in z) ∙ get_or-set_same ws (l.counter s.root) x 0 (let f = m.fits in omega arith))))
              (λ (d : k ≢ at). get_or-set_other s.counters.items at k x 0 d ∙ (m.counts k c ∙ sym (get_or-set_other ws (l.counter s.root) (l.base + 1 + k) x 0 (λ z. d (omega arith)))));
          keys = m.keys;
          tombstones = m.tombstones;
        }

    -- the counter that the account tells of
    pub counter_is : get_or s.counters.items (counter_at n s.root) 0 ≡ get_or ws (l.counter s.root) 0
    counter_is = m.counts (counter_at n s.root) (counter_low n s m.shape)

    module _ (at : ℕ) (few : at < slots) where
      -- a new value of a key
      pub mirrors_value : (value : ℕ) → (view_of items).state at ≡ 1 → Mirrors n l (set ws (l.word s.root at 3) value) (valued_lists s at value)
      mirrors_value value full =
          let same = same_states items at 3 value slots few long (omega arith) (omega arith) in
          let put = else s.root is_root items ws long m.fits at 3 value few (omega arith) in
          record {
            shape = shaped_word n s m.shape (4 * at + 3) value;
            states = λ i b. put i 0 (λ e. absurd (omega arith)) (m.states i b);
            pairs = λ i k b c f. let was : (view_of items).state i ≡ 1 = sym (ap (λ (g : ℕ → ℕ). g i) same) ∙ f in
                dite (ℕ_discrete (4 * i + k) (4 * at + 3))
                (λ (e : 4 * i + k ≡ 4 * at + 3). let is_i : at ≡ i = omega arith in let is_k : 3 ≡ k = omega arith in
                subst (λ (z : ℕ × ℕ). IsCopied s.root (set items (4 * at + 3) value) (set ws (l.word s.root at 3) value) z.0 z.1) (λ j. (is_i j, is_k j)) (here s.root is_root items ws long m.fits at 3 value few (omega arith)))
                (λ (d : 4 * i + k ≢ 4 * at + 3). put i k d (copied i k b c was));
            fits = subst (λ (n : ℕ). l.base + l.size ≤ n) (sym (length-set ws (l.word s.root at 3) value)) m.fits;
            counts = λ k c. m.counts k c ∙ sym (counter_else s.root is_root items ws long m.fits at 3 value few (omega arith) k c);
            keys = m.keys ∙ ap (λ (f : ℕ → ℕ). how_many f 1 slots) (sym same);
            tombstones = m.tombstones ∙ ap (λ (f : ℕ → ℕ). how_many f 2 slots) (sym same);
          }

      -- a slot that was full is a tombstone
      pub buries : (view_of items).state at ≡ 1 → (0 < s.keys) × Mirrors n l (set ws (l.word s.root at 0) 2) (record (buried_lists s at) { keys = s.keys - 1; tombstones = s.tombstones + 1 })
      buries was =
          let more = one_more items at 0 2 slots few long (omega arith) refl (λ (e : get_or items (4 * at + 0) 0 ≡ 2). absurd (let z : 1 ≡ 2 = sym was ∙ e in cc)) in
          let less = one_less items at 0 2 slots few long (omega arith) refl 1 was (λ e. cc) in
          let k = m.keys in let t = m.tombstones in
          let put = else s.root is_root items ws long m.fits at 0 2 few (omega arith) in
          let now : get_or (set items (4 * at + 0) 2) (4 * at + 0) 0 ≡ 2 = get_or-set_same items (4 * at + 0) 2 0 (let e = long in omega arith) in
          let shape = shaped_word n s m.shape (4 * at + 0) 2 in (
            omega arith,
            record {
              shape = record { is_root = shape.is_root; long = shape.long; many = shape.many; small = shape.small; room = shape.room; other_room = shape.other_room };
              states = λ i b. dite (ℕ_discrete at i)
                  (λ (e : at ≡ i). subst (λ (z : ℕ). IsCopied s.root (set items (4 * at + 0) 2) (set ws (l.word s.root at 0) 2) z 0) e (here s.root is_root items ws long m.fits at 0 2 few (omega arith)))
                  (λ (d : at ≢ i). put i 0 (λ e. d (omega arith)) (m.states i b));
              pairs = λ i k b c f. dite (ℕ_discrete at i)
                  (λ (e : at ≡ i). absurd (let z : 2 ≡ 1 = sym now ∙ (ap (λ (y : ℕ). get_or (set items (4 * at + 0) 2) (4 * y + 0) 0) e ∙ f) in cc))
                  (λ (d : at ≢ i). put i k (λ e. d (omega arith)) (copied i k b c (sym (get_or-set_other items (4 * at + 0) (4 * i + 0) 2 0 (λ e. d (omega arith))) ∙ f)));
              fits = subst (λ (n : ℕ). l.base + l.size ≤ n) (sym (length-set ws (l.word s.root at 0) 2)) m.fits;
              counts = λ k c. m.counts k c ∙ sym (counter_else s.root is_root items ws long m.fits at 0 2 few (omega arith) k c);
              keys = omega arith;
              tombstones = omega arith;
            },
          )

      -- a slot that wasn't full has a key and its value
      module _ (key value : ℕ) where
        abbrev items1 : List ℕ
        items1 = set items (4 * at + 3) value

        abbrev items2 : List ℕ
        items2 = set items1 (4 * at + 1) (low_of key)

        abbrev items3 : List ℕ
        items3 = set items2 (4 * at + 2) (high_of key)

        abbrev items4 : List ℕ
        items4 = set items3 (4 * at + 0) 1

        abbrev ws1 : List ℕ
        ws1 = set ws (l.word s.root at 3) value

        abbrev ws2 : List ℕ
        ws2 = set ws1 (l.word s.root at 1) (low_of key)

        abbrev ws3 : List ℕ
        ws3 = set ws2 (l.word s.root at 2) (high_of key)

        abbrev ws4 : List ℕ
        ws4 = keyed_words l s.root at key ws1

        long1 : length items1 ≡ 4 * slots
        long1 = length-set items (4 * at + 3) value ∙ long

        long2 : length items2 ≡ 4 * slots
        long2 = length-set items1 (4 * at + 1) (low_of key) ∙ long1

        long3 : length items3 ≡ 4 * slots
        long3 = length-set items2 (4 * at + 2) (high_of key) ∙ long2

        fits1 : base + table_words n ≤ length ws1
        fits1 = subst (λ (x : ℕ). base + table_words n ≤ x) (sym (length-set ws (l.word s.root at 3) value)) m.fits

        fits2 : base + table_words n ≤ length ws2
        fits2 = subst (λ (x : ℕ). base + table_words n ≤ x) (sym (length-set ws1 (l.word s.root at 1) (low_of key))) fits1

        fits3 : base + table_words n ≤ length ws3
        fits3 = subst (λ (x : ℕ). base + table_words n ≤ x) (sym (length-set ws2 (l.word s.root at 2) (high_of key))) fits2

        put1 : (i k : ℕ) → (4 * i + k ≡ 4 * at + 3 → ⊥) → IsCopied s.root items ws i k → IsCopied s.root items1 ws1 i k
        put1 = else s.root is_root items ws long m.fits at 3 value few (omega arith)

        put2 : (i k : ℕ) → (4 * i + k ≡ 4 * at + 1 → ⊥) → IsCopied s.root items1 ws1 i k → IsCopied s.root items2 ws2 i k
        put2 = else s.root is_root items1 ws1 long1 fits1 at 1 (low_of key) few (omega arith)

        put3 : (i k : ℕ) → (4 * i + k ≡ 4 * at + 2 → ⊥) → IsCopied s.root items2 ws2 i k → IsCopied s.root items3 ws3 i k
        put3 = else s.root is_root items2 ws2 long2 fits2 at 2 (high_of key) few (omega arith)

        put4 : (i k : ℕ) → (4 * i + k ≡ 4 * at + 0 → ⊥) → IsCopied s.root items3 ws3 i k → IsCopied s.root items4 ws4 i k
        put4 = else s.root is_root items3 ws3 long3 fits3 at 0 1 few (omega arith)

        all_here : (k : ℕ) → k < 4 → IsCopied s.root items4 ws4 at k
        all_here zero b = here s.root is_root items3 ws3 long3 fits3 at 0 1 few (omega arith)
        all_here (suc zero) b = put4 at 1 (λ e. absurd (omega arith)) (put3 at 1 (λ e. absurd (omega arith)) (here s.root is_root items1 ws1 long1 fits1 at 1 (low_of key) few (omega arith)))
        all_here (suc (suc zero)) b = put4 at 2 (λ e. absurd (omega arith)) (here s.root is_root items2 ws2 long2 fits2 at 2 (high_of key) few (omega arith))
        all_here (suc (suc (suc zero))) b = put4 at 3 (λ e. absurd (omega arith)) (put3 at 3 (λ e. absurd (omega arith)) (put2 at 3 (λ e. absurd (omega arith)) (here s.root is_root items ws long m.fits at 3 value few (omega arith))))
        all_here (suc (suc (suc (suc k)))) b = absurd (omega arith)

        others : (i k : ℕ) → at ≢ i → k < 4 → IsCopied s.root items ws i k → IsCopied s.root items4 ws4 i k
        others i k d b is = put4 i k (λ e. d (omega arith)) (put3 i k (λ e. d (omega arith)) (put2 i k (λ e. d (omega arith)) (put1 i k (λ e. d (omega arith)) is)))

        before : (view_of items3).state ≡ (view_of items).state
        before = same_states items2 at 2 (high_of key) slots few long2 (omega arith) (omega arith) ∙ (same_states items1 at 1 (low_of key) slots few long1 (omega arith) (omega arith) ∙ same_states items at 3 value slots few long (omega arith) (omega arith))

        counters_kept : (c : ℕ) → c < n → get_or ws4 (base + 1 + c) 0 ≡ get_or ws (base + 1 + c) 0
        counters_kept c b = counter_else s.root is_root items3 ws3 long3 fits3 at 0 1 few (omega arith) c b ∙ (counter_else s.root is_root items2 ws2 long2 fits2 at 2 (high_of key) few (omega arith) c b
            ∙ (counter_else s.root is_root items1 ws1 long1 fits1 at 1 (low_of key) few (omega arith) c b ∙ counter_else s.root is_root items ws long m.fits at 3 value few (omega arith) c b))

        mirrors_filled : (keys tombstones : ℕ) → keys ≡ how_many (view_of items4).state 1 slots → tombstones ≡ how_many (view_of items4).state 2 slots
            → Mirrors n l ws4 (record (keyed_lists (valued_lists s at value) at key) { keys = keys; tombstones = tombstones })
        mirrors_filled keys tombstones a b = let shape = shaped_keyed n _ (shaped_word n s m.shape (4 * at + 3) value) at key in record {
          shape = record { is_root = shape.is_root; long = shape.long; many = shape.many; small = shape.small; room = shape.room; other_room = shape.other_room };
          states = λ i c. dite (ℕ_discrete at i) (λ (e : at ≡ i). subst (λ (z : ℕ). IsCopied s.root items4 ws4 z 0) e (all_here 0 (omega arith))) (λ (d : at ≢ i). others i 0 d (omega arith) (m.states i c));
          pairs = λ i k c f full. dite (ℕ_discrete at i)
              (λ (e : at ≡ i). subst (λ (z : ℕ). IsCopied s.root items4 ws4 z k) e (all_here k f))
              (λ (d : at ≢ i). others i k d f (copied i k c f (sym (get_or-set_other items3 (4 * at + 0) (4 * i + 0) 1 0 (λ e. d (omega arith)) ∙ ap (λ (g : ℕ → ℕ). g i) before) ∙ full)));
          fits = subst (λ (x : ℕ). base + table_words n ≤ x) (sym (length-set ws3 (l.word s.root at 0) 1)) fits3;
          counts = λ k c. m.counts k c ∙ sym (counters_kept k c);
          keys = a;
          tombstones = b;
        }

        was_state : (x : ℕ) → (view_of items).state at ≡ x → (view_of items3).state at ≡ x
        was_state x was = ap (λ (g : ℕ → ℕ). g at) before ∙ was

        key_more : (view_of items).state at ≢ 1 → s.keys + 1 ≡ how_many (view_of items4).state 1 slots
        key_more other =
            let more = one_more items3 at 0 1 slots few long3 (omega arith) refl (λ (e : (view_of items3).state at ≡ 1). other (sym (ap (λ (g : ℕ → ℕ). g at) before) ∙ e)) in
            let k = m.keys in let same : how_many (view_of items3).state 1 slots ≡ how_many (view_of items).state 1 slots = ap (λ (g : ℕ → ℕ). how_many g 1 slots) before in
            omega arith

        -- one that was empty, and one that was a tombstone
        pub mirrors_inserted : (view_of items).state at ≡ 0 → Mirrors n l ws4 (record (keyed_lists (valued_lists s at value) at key) { keys = s.keys + 1; tombstones = s.tombstones })
        mirrors_inserted was =
            let still = as_many items3 at 0 1 slots few long3 (omega arith) refl 2 (λ (e : (view_of items3).state at ≡ 2). absurd (let z : 0 ≡ 2 = sym (was_state 0 was) ∙ e in cc)) (λ e. cc) in
            mirrors_filled (s.keys + 1) s.tombstones (key_more (λ (e : (view_of items).state at ≡ 1). absurd (let z : 0 ≡ 1 = sym was ∙ e in cc))) (m.tombstones ∙ (ap (λ (g : ℕ → ℕ). how_many g 2 slots) (sym before) ∙ sym still))

        pub mirrors_reused : (view_of items).state at ≡ 2 → (0 < s.tombstones) × Mirrors n l ws4 (record (keyed_lists (valued_lists s at value) at key) { keys = s.keys + 1; tombstones = s.tombstones - 1 })
        mirrors_reused was =
            let less = one_less items3 at 0 1 slots few long3 (omega arith) refl 2 (was_state 2 was) (λ e. cc) in
            let t = m.tombstones in let same : how_many (view_of items3).state 2 slots ≡ how_many (view_of items).state 2 slots = ap (λ (g : ℕ → ℕ). how_many g 2 slots) before in
            (omega arith, mirrors_filled (s.keys + 1) (s.tombstones - 1) (key_more (λ (e : (view_of items).state at ≡ 1). absurd (let z : 2 ≡ 1 = sym was ∙ e in cc))) (omega arith))

  -- no counter is above the number of bumps, after one more
  pub bumped_more : (s : HtState) (b : ℕ) → ((i : ℕ) → get_or s.counters.items i 0 ≤ b) → (i : ℕ) → get_or (set s.counters.items (counter_at n s.root) (next_count n s)) i 0 ≤ suc b
  bumped_more s b h i = dite (ℕ_discrete i (counter_at n s.root))
      (λ (e : i ≡ counter_at n s.root). subst (λ (k : ℕ). get_or (set s.counters.items (counter_at n s.root) (next_count n s)) k 0 ≤ suc b) (sym e) at_it)
      (λ (d : i ≢ counter_at n s.root). let z = get_or-set_other s.counters.items (counter_at n s.root) i (next_count n s) 0 d in let y = h i in omega arith)
    where
      past : (xs : List ℕ) (k x : ℕ) → get_or (set xs k x) k 0 ≤ x
      past [] k x = omega arith
      past (y ∷ ys) k x = dite (ℕ_discrete k 0) (λ (e : k ≡ 0). let z = get_or-set_same (y ∷ ys) k x 0 (omega arith) in omega arith)
          (λ (d : k ≢ 0). let r = past ys (k - 1) x in subst (λ (j : ℕ). get_or (set (y ∷ ys) j x) j 0 ≤ x) (let z : suc (k - 1) ≡ k = omega arith in z) r)

      at_it : get_or (set s.counters.items (counter_at n s.root) (next_count n s)) (counter_at n s.root) 0 ≤ suc b
      at_it = let a = past s.counters.items (counter_at n s.root) (next_count n s) in let c = h (counter_at n s.root) in omega arith
