-- A pair is copied into a region that is being built.
use Rattle.std.proofs.Common.{◌≡◌, ◌≢◌, ℕ, zero, suc, ◌+◌, ◌-◌, ◌*◌, ◌^◌, ◌<◌, ◌≤◌, ⊎_elim, Bool, true, cond, nat_le, List, [], ◌∷◌, map, length, set, length-set, get_or, get_or-set_same, get_or-set_other, refl, sym, ap, ◌∙◌, subst, arith}
use Rattle.std.specs.Prelude.{Some}
use mathlib.Core.Logic.{dite}
use native.Mathlib.Decide.{ℕ_discrete}
use Rattle.ck_run.specs.declared.account.Step.TheVariants.{Store}
use Rattle.ck_run.specs.declared.account.Entry.{Entry}
use Rattle.ck_run.specs.Run.{further}
use Rattle.ck_run.specs.Machine.{state_after}
use Rattle.ck_history.specs.declared.log.LogEntry.{LogEntry}
use Rattle.ck_slots.specs.Slots.{IsOrder, SlotsView, Holds, HasState, IsFirst}
use Rattle.ck_slots.specs.Counting.{count as how_many, used}
use Rattle.ck_slots.proofs.Counts.{count_here, count_else, count_more, count_mono, used_more}
use Rattle.ck_htplan.specs.declared.cases.Plan.TheVariants.{Empty}
use Rattle.ck_htplan.specs.Planning.{plan_of}
use Rattle.ck_htplan.specs.Region.{view_of}
use Rattle.ck_htplan.proofs.Orders.{four, order_is}
use Rattle.ck_htlaw.specs.declared.client.HtClient.{HtClient}
use Rattle.ck_htlaw.specs.Stages.{Insertion, empty, idle, copying, with_value, with_low, with_high}
use Rattle.ck_htlaw.specs.Calls.{opening_of}
use Rattle.ck_htlaw.specs.Layout.{at_of, log_of, counters_of, layout}
use Rattle.ck_htlaw.specs.Table.{Layout, WriterState, Action, copies, no_action, view, second, is_table_word, MayWriterStep}
use Rattle.ck_htlaw.specs.Actions.{action, slots_now, job, to_copy, copies_to, with_another}
use Rattle.ck_htplan.specs.Deciding.{next_full}
use Rattle.ck_htlaw.specs.Client.{Answers, answers_next, orders_of, hash_of}
use Rattle.ck_htlaw.proofs.Tokens.{is_inside}
use Rattle.ck_htwrite.specs.declared.state.HtState.{HtState}
use Rattle.ck_htwrite.specs.State.{Reflects}
use Rattle.ck_htwrite.specs.Writes.{WriterAt, CanMake, writer_after}
use Rattle.ck_htwrite.specs.Rebuild.{pair_steps, paired_lists, CanHoldAll, IsFrom, IsCopying, CopiesAt}
use Rattle.ck_htwrite.proofs.Agree.{Agree, agree_now, in_column, plan_agree, used_agree, next_agree}
use Rattle.ck_htwrite.proofs.Finding.{plan_empty, next_is, key_low, key_high, le_true}
use Rattle.ck_htwrite.proofs.Writing.{goes_on}

-- four words of a list, one after the other
module _ (xs : List ℕ) (b x1 x2 x3 : ℕ) (inside : b + 3 < length xs) where
  abbrev ys3 : List ℕ
  ys3 = set xs (b + 3) x3

  abbrev ys1 : List ℕ
  ys1 = set ys3 (b + 1) x1

  abbrev ys2 : List ℕ
  ys2 = set ys1 (b + 2) x2

  abbrev pub ys : List ℕ
  ys = set ys2 (b + 0) 1

  pub ys_long : length ys ≡ length xs
  ys_long = length-set ys2 (b + 0) 1 ∙ (length-set ys1 (b + 2) x2 ∙ (length-set ys3 (b + 1) x1 ∙ length-set xs (b + 3) x3))

  pub ys_else : (k : ℕ) → ((m : ℕ) → m < 4 → k ≢ b + m) → get_or ys k 0 ≡ get_or xs k 0
  ys_else k apart = get_or-set_other ys2 (b + 0) k 1 0 (apart 0 (omega arith)) ∙ (get_or-set_other ys1 (b + 2) k x2 0 (apart 2 (omega arith)) ∙ (get_or-set_other ys3 (b + 1) k x1 0 (apart 1 (omega arith)) ∙ get_or-set_other xs (b + 3) k x3 0 (apart 3 (omega arith))))

  long3 : length ys3 ≡ length xs
  long3 = length-set xs (b + 3) x3

  long1 : length ys1 ≡ length xs
  long1 = length-set ys3 (b + 1) x1 ∙ long3

  long2 : length ys2 ≡ length xs
  long2 = length-set ys1 (b + 2) x2 ∙ long1

  pub ys_0 : get_or ys (b + 0) 0 ≡ 1
  ys_0 = get_or-set_same ys2 (b + 0) 1 0 (let e = long2 in omega arith)

  pub ys_1 : get_or ys (b + 1) 0 ≡ x1
  ys_1 = get_or-set_other ys2 (b + 0) (b + 1) 1 0 (λ e. absurd (omega arith)) ∙ (get_or-set_other ys1 (b + 2) (b + 1) x2 0 (λ e. absurd (omega arith)) ∙ get_or-set_same ys3 (b + 1) x1 0 (let e = long3 in omega arith))

  pub ys_2 : get_or ys (b + 2) 0 ≡ x2
  ys_2 = get_or-set_other ys2 (b + 0) (b + 2) 1 0 (λ e. absurd (omega arith)) ∙ get_or-set_same ys1 (b + 2) x2 0 (let e = long1 in omega arith)

  pub ys_3 : get_or ys (b + 3) 0 ≡ x3
  ys_3 = get_or-set_other ys2 (b + 0) (b + 3) 1 0 (λ e. absurd (omega arith)) ∙ (get_or-set_other ys1 (b + 2) (b + 3) x2 0 (λ e. absurd (omega arith)) ∙ (get_or-set_other ys3 (b + 1) (b + 3) x1 0 (λ e. absurd (omega arith)) ∙ get_or-set_same xs (b + 3) x3 0 inside))

by_four : (P : ℕ → Type 0) → P 0 → P 1 → P 2 → P 3 → (k : ℕ) → k < 4 → P k
by_four P a b c d zero low = a
by_four P a b c d (suc zero) low = b
by_four P a b c d (suc (suc zero)) low = c
by_four P a b c d (suc (suc (suc zero))) low = d
by_four P a b c d (suc (suc (suc (suc k)))) low = absurd (omega arith)

-- the same four words are the same in two lists
same_four : (xs zs : List ℕ) (b c x1 x2 x3 : ℕ) (ib : b + 3 < length xs) (ic : c + 3 < length zs) (k : ℕ) → k < 4 → get_or (ys xs b x1 x2 x3 ib) (b + k) 0 ≡ get_or (ys zs c x1 x2 x3 ic) (c + k) 0
same_four xs zs b c x1 x2 x3 ib ic = by_four (λ k. get_or (ys xs b x1 x2 x3 ib) (b + k) 0 ≡ get_or (ys zs c x1 x2 x3 ic) (c + k) 0)
    (ys_0 xs b x1 x2 x3 ib ∙ sym (ys_0 zs c x1 x2 x3 ic)) (ys_1 xs b x1 x2 x3 ib ∙ sym (ys_1 zs c x1 x2 x3 ic)) (ys_2 xs b x1 x2 x3 ib ∙ sym (ys_2 zs c x1 x2 x3 ic)) (ys_3 xs b x1 x2 x3 ib ∙ sym (ys_3 zs c x1 x2 x3 ic))

module _ (floor base : ℕ) (client : HtClient) where
  abbrev n : ℕ
  n = counters_of client

  abbrev l : Layout
  l = layout floor base n (orders_of client)

  module _ (p : WriterState) (s : HtState) (root : ℕ) (can : CanHoldAll n s root) where
    abbrev N : ℕ
    N = 2 ^ log_of root

    abbrev M : ℕ
    M = 2 ^ log_of s.root

    abbrev v : SlotsView
    v = view_of s.words.items

    abbrev v' : SlotsView
    v' = view_of s.spare.items

    -- a word of the new region is none of the present one's, and no counter
    off_old : (at k t m : ℕ) → at < N → k < 4 → t < M → m < 4 → l.word s.root t m ≢ l.word root at k
    off_old at k t m a b c d e = let f = four (log_of root) in let g = four (log_of s.root) in
        ⊎_elim (λ (x : 0 + at_of s.root + 2 ^ (log_of s.root + 2) ≤ 0 + at_of root). omega arith) (λ (x : 0 + at_of root + 2 ^ (log_of root + 2) ≤ 0 + at_of s.root). omega arith) can.apart

    -- so the lists have the present one still, after a store in the new one
    pub lists_still : (ws : List ℕ) → Reflects n l (record p { words = ws }) s → (at k x : ℕ) → at < N → k < 4 → Reflects n l (record p { words = set ws (l.word root at k) x }) s
    lists_still ws r at k x few low = let m = r.mirrors in record {
      root = r.root;
      mirrors = record {
        shape = m.shape;
        states = λ t lt. m.states t lt ∙ sym (get_or-set_other ws (l.word root at k) (l.word s.root t 0) x 0 (off_old at k t 0 few low lt (omega arith)));
        pairs = λ t j lt lj full. m.pairs t j lt lj full ∙ sym (get_or-set_other ws (l.word root at k) (l.word s.root t j) x 0 (off_old at k t j few low lt lj));
        fits = subst (λ (z : ℕ). l.base + l.size ≤ z) (sym (length-set ws (l.word root at k) x)) m.fits;
        counts = λ c lt. m.counts c lt ∙ sym (get_or-set_other ws (l.word root at k) (l.base + 1 + c) x 0 (λ e. let a = can.is_root.piece.low in absurd (omega arith)));
        keys = m.keys;
        tombstones = m.tombstones;
      };
      bumped = r.bumped;
      hole = r.hole;
    }

    module _ (ws : List ℕ) (j i : ℕ) (c : IsCopying n l p s ws root j i) (few : i < M) where
      -- a slot that isn't full is passed
      pub passes : v.state i ≢ 1 → IsCopying n l p s ws root j (suc i)
      passes other = let d = c.passed in record {
        lists = c.lists;
        passed = omega arith;
        none = λ t a b. dite (ℕ_discrete t i) (λ (e : t ≡ i). λ z. other (ap v.state (sym e) ∙ z)) (λ (e : t ≢ i). c.none t a (omega arith));
        long = c.long;
        states = c.states;
        pairs = c.pairs;
        no_tombstone = c.no_tombstone;
        as_many = c.as_many ∙ sym (count_else v.state 1 i other);
        full = c.full ∙ sym (count_else v.state 1 i other);
        from = λ t lt full. let f = c.from t lt full in let g = f.past in record { slot = f.slot; past = omega arith; inside = f.inside; full = f.full; low = f.low; high = f.high };
      }

      module _ (call : List ℕ) (full : v.state i ≡ 1) (small : v.low i < 2 ^ 64) (at : ℕ) where
        abbrev key : ℕ
        key = v.low i + 2 ^ 64 * v.high i

        abbrev here : WriterState
        here = record p { stage = copying call root j idle; words = ws }

        abbrev w : Insertion
        w = record { key = key; number = v.value i; to = at }

        ok : IsOrder (l.order root)
        ok = order_is (log_of root) (hash_of client) can.is_root.piece.some_lines

        agree_old : Agree M v (slots_now l here)
        agree_old = agree_now floor base n client (record p { words = ws }) s c.lists

        agree_new : Agree N v' (view l ws root)
        agree_new = record {
          state = λ t lt. c.states t lt ∙ in_column floor base n client ws root 0 t lt;
          low = λ t lt z. c.pairs t 1 lt (omega arith) z ∙ in_column floor base n client ws root 1 t lt;
          high = λ t lt z. c.pairs t 2 lt (omega arith) z ∙ in_column floor base n client ws root 2 t lt;
          value = λ t lt z. c.pairs t 3 lt (omega arith) z ∙ in_column floor base n client ws root 3 t lt;
        }

        absent : (t : ℕ) → Holds (l.order root) v' key t → ⊥
        absent t x =
            let f = c.from t x.inside x.full in
            let same : f.slot ≡ i = can.once f.slot i f.inside few f.full full (f.low ∙ (x.is_low ∙ key_low (v.low i) (v.high i) small)) (f.high ∙ (x.is_high ∙ key_high (v.low i) (v.high i) small)) in
            let g = f.past in omega arith

        enough : nat_le (used (view l ws root).state N + 2) N ≡ true
        enough =
            let e : used (view l ws root).state N ≡ how_many v.state 1 i = sym (used_agree v'.state (view l ws root).state N agree_new.state) ∙ c.as_many in
            let a : how_many v.state 1 i ≤ how_many v.state 1 M = subst (λ (k : ℕ). how_many v.state 1 i ≤ how_many v.state 1 k) (let z : M - i + i ≡ M = omega arith in z) (count_mono v.state 1 (M - i) i) in
            let b = can.room in le_true (used (view l ws root).state N + 2) N (omega arith)

        module _ (first : IsFirst (l.order root) key (HasState v' 0) at) where
          plan_is : plan_of (l.order root) (view l ws root) key ≡ Empty at
          plan_is = sym (plan_agree (l.order root) v' (view l ws root) agree_new ok key) ∙ plan_empty (l.order root) ok v' key at first absent c.no_tombstone

          next_one : next_full (slots_now l here).state ((l.order p.root).slots - j) j ≡ Some i
          next_one = let d = c.passed in ap (λ (k : ℕ). next_full (slots_now l here).state (2 ^ log_of k - j) j) c.lists.root
              ∙ (sym (next_agree v.state (slots_now l here).state (M - j) j (λ t lt. agree_old.state t (omega arith))) ∙ next_is v.state (M - j) j i d (omega arith) c.none full)

          -- the writer is about to copy this pair to this slot
          pub about : (e : Entry) → action l here e ≡ copies i w
          about e =
              ap (to_copy l here (opening_of call) root j) next_one
              ∙ ((λ z. copies_to l here root i (sym (agree_old.low i few full) z + 2 ^ 64 * sym (agree_old.high i few full) z) (plan_of (l.order root) (view l ws root) (sym (agree_old.low i few full) z + 2 ^ 64 * sym (agree_old.high i few full) z)))
              ∙ (ap (copies_to l here root i key) plan_is
              ∙ ((λ z. with_another l here N (view l ws root) (copies i (job l here key (sym (agree_old.value i few full) z) at)))
              ∙ ap (λ (b : Bool). cond b (copies i w) no_action) enough)))

          abbrev e1 : Entry
          e1 = further (Store (l.word root at 3) (v.value i))

          abbrev e2 : Entry
          e2 = further (Store (l.word root at 1) (v.low i))

          abbrev e3 : Entry
          e3 = further (Store (l.word root at 2) (v.high i))

          abbrev e4 : Entry
          e4 = further (Store (l.word root at 0) 1)

          abbrev q1 : WriterState
          q1 = record p { stage = copying call root i (with_value empty w); words = set ws (l.word root at 3) (v.value i) }

          abbrev q2 : WriterState
          q2 = record p { stage = copying call root i (with_low empty w); words = set q1.words (l.word root at 1) (v.low i) }

          abbrev q3 : WriterState
          q3 = record p { stage = copying call root i (with_high empty w); words = set q2.words (l.word root at 2) (v.high i) }

          abbrev pub q4 : WriterState
          q4 = record p { stage = copying call root (suc i) idle; words = set q3.words (l.word root at 0) 1 }

          own : (k x : ℕ) → k < 4 → is_table_word l (Store (l.word root at k) x) ≡ true
          own k x low = let a = can.is_root.piece.low in let b = can.is_root.piece.high in let d = first.inside in is_inside l (Store (l.word root at k) x) (omega arith) (omega arith)

          next1 : writer_after l here e1 ≡ q1
          next1 z = record (second l [] here (about e1 z) (copying call root j idle)) { words = q1.words }

          pub can_copy : CanMake l here (map further (pair_steps l root at (v.low i) (v.high i) (v.value i)))
          can_copy = (
            record { own = own 3 (v.value i) (omega arith); may = subst (λ (a : Action). MayWriterStep l here a (copying call root j idle) e1.step) (sym (about e1)) (refl, refl); goes = refl; takes_none = λ r t. t },
            subst (λ (q : WriterState). CanMake l q (e2 ∷ e3 ∷ e4 ∷ [])) (sym next1) (
              record { own = own 1 (v.low i) (omega arith); may = (refl, sym (key_low (v.low i) (v.high i) small)); goes = refl; takes_none = λ r t. t },
              (
                record { own = own 2 (v.high i) (omega arith); may = (refl, sym (key_high (v.low i) (v.high i) small)); goes = refl; takes_none = λ r t. t },
                (record { own = own 0 1 (omega arith); may = (refl, refl); goes = refl; takes_none = λ r t. t }, tt),
              ),
            ),
          )

          pub at_copy : (a : Answers) (d : LogEntry ℕ) (told : List (LogEntry ℕ)) → WriterAt a here d told → WriterAt (state_after (answers_next l) a (map further (pair_steps l root at (v.low i) (v.high i) (v.value i)))) q4 d told
          at_copy a d told at0 =
              let a1 : Answers = answers_next l a e1 in let a2 : Answers = answers_next l a1 e2 in let a3 : Answers = answers_next l a2 e3 in
              let at1 : WriterAt a1 q1 d told = goes_on l a here q1 d d told e1 at0 (own 3 (v.value i) (omega arith)) next1 refl refl in
              let at2 : WriterAt a2 q2 d told = goes_on l a1 q1 q2 d d told e2 at1 (own 1 (v.low i) (omega arith)) refl refl refl in
              let at3 : WriterAt a3 q3 d told = goes_on l a2 q2 q3 d d told e3 at2 (own 2 (v.high i) (omega arith)) refl refl refl in
              goes_on l a3 q3 q4 d d told e4 at3 (own 0 1 (omega arith)) refl refl refl

          abbrev lists : HtState
          lists = paired_lists s at (v.low i) (v.high i) (v.value i)

          abbrev u : SlotsView
          u = view_of lists.spare.items

          inside_spare : 4 * at + 3 < length s.spare.items
          inside_spare = let a = first.inside in let b = c.long in omega arith

          inside_words : base + at_of root + 4 * at + 3 < length ws
          inside_words = let a = first.inside in let b = can.is_root.piece.high in let d = c.lists.mirrors.fits in omega arith

          -- all other slots are as they were
          else_spare : (t k : ℕ) → t ≢ at → k < 4 → get_or lists.spare.items (4 * t + k) 0 ≡ get_or s.spare.items (4 * t + k) 0
          else_spare t k other low = ys_else s.spare.items (4 * at) (v.low i) (v.high i) (v.value i) inside_spare (4 * t + k) (λ m lm e. absurd (let z = other in omega arith))

          else_words : (t k : ℕ) → t ≢ at → k < 4 → get_or q4.words (l.word root t k) 0 ≡ get_or ws (l.word root t k) 0
          else_words t k other low = ys_else ws (base + at_of root + 4 * at) (v.low i) (v.high i) (v.value i) inside_words (l.word root t k) (λ m lm e. absurd (let z = other in omega arith))

          both : (k : ℕ) → k < 4 → get_or lists.spare.items (4 * at + k) 0 ≡ get_or q4.words (l.word root at k) 0
          both = same_four s.spare.items ws (4 * at) (base + at_of root + 4 * at) (v.low i) (v.high i) (v.value i) inside_spare inside_words

          is_full : u.state at ≡ 1
          is_full = ys_0 s.spare.items (4 * at) (v.low i) (v.high i) (v.value i) inside_spare

          others : (t : ℕ) → t ≢ at → u.state t ≡ v'.state t
          others t other = else_spare t 0 other (omega arith)

          shaped : Reflects n l (record p { words = q4.words }) s → Reflects n l (record p { words = q4.words }) lists
          shaped r = let m = r.mirrors in record {
            root = r.root;
            mirrors = record { shape = record { is_root = m.shape.is_root; long = m.shape.long; many = m.shape.many; small = m.shape.small; room = m.shape.room; other_room = m.shape.other_room }; states = m.states; pairs = m.pairs; fits = m.fits; counts = m.counts; keys = m.keys; tombstones = m.tombstones };
            bumped = r.bumped;
            hole = r.hole;
          }

          pub copied : IsCopying n l p lists q4.words root (suc i) (suc i)
          copied = record {
            lists = shaped (lists_still q3.words (lists_still q2.words (lists_still q1.words (lists_still ws c.lists at 3 (v.value i) first.inside (omega arith)) at 1 (v.low i) first.inside (omega arith)) at 2 (v.high i) first.inside (omega arith)) at 0 1 first.inside (omega arith));
            passed = omega arith;
            none = λ t a b. absurd (omega arith);
            long = ys_long s.spare.items (4 * at) (v.low i) (v.high i) (v.value i) inside_spare ∙ c.long;
            states = λ t lt. dite (ℕ_discrete t at)
                (λ (e : t ≡ at). subst (λ (k : ℕ). u.state k ≡ get_or q4.words (l.word root k 0) 0) (sym e) (both 0 (omega arith)))
                (λ (e : t ≢ at). others t e ∙ (c.states t lt ∙ sym (else_words t 0 e (omega arith))));
            pairs = λ t k lt lk z. dite (ℕ_discrete t at)
                (λ (e : t ≡ at). subst (λ (m : ℕ). get_or lists.spare.items (4 * m + k) 0 ≡ get_or q4.words (l.word root m k) 0) (sym e) (both k lk))
                (λ (e : t ≢ at). else_spare t k e lk ∙ (c.pairs t k lt lk (sym (others t e) ∙ z) ∙ sym (else_words t k e lk)));
            no_tombstone = λ t lt z. dite (ℕ_discrete t at)
                (λ (e : t ≡ at). let y = is_full in let x : u.state at ≡ 2 = ap u.state (sym e) ∙ z in absurd (omega arith))
                (λ (e : t ≢ at). c.no_tombstone t lt (sym (others t e) ∙ z));
            as_many = used_more v'.state u.state at N others first.here (λ e. let y = is_full in absurd (omega arith)) first.inside ∙ (ap suc c.as_many ∙ sym (count_here v.state 1 i full));
            full = count_more v'.state u.state at 1 N others (λ e. let y = first.here in absurd (omega arith)) is_full first.inside ∙ (ap suc c.full ∙ sym (count_here v.state 1 i full));
            from = λ t lt z. dite (ℕ_discrete t at)
                (λ (e : t ≡ at). subst (λ (k : ℕ). IsFrom v u M (suc i) k) (sym e)
                record { slot = i; past = omega arith; inside = few; full = full; low = sym (ys_1 s.spare.items (4 * at) (v.low i) (v.high i) (v.value i) inside_spare); high = sym (ys_2 s.spare.items (4 * at) (v.low i) (v.high i) (v.value i) inside_spare) })
                (λ (e : t ≢ at). let f = c.from t lt (sym (others t e) ∙ z) in let g = f.past in
                record { slot = f.slot; past = omega arith; inside = f.inside; full = f.full; low = f.low ∙ sym (else_spare t 1 e (omega arith)); high = f.high ∙ sym (else_spare t 2 e (omega arith)) });
          }

    -- the same of the numbers that the code computes
    module _ (call : List ℕ) (due : LogEntry ℕ) (told : List (LogEntry ℕ)) (a : Answers) (i at : ℕ) (few : i < M) (full : v.state i ≡ 1) (c : CopiesAt n l a p call due told s root i) where
      abbrev Words : Type 0
      Words = ℕ × (ℕ × ℕ)

      abbrev own_words : Words
      own_words = (v.low i, (v.high i, v.value i))

      abbrev Found : Words → Type 0
      Found z = (z.0 < 2 ^ 64) × IsFirst (l.order root) (z.0 + 2 ^ 64 * z.1.0) (HasState v' 0) at

      abbrev steps : Words → List Entry
      steps z = map further (pair_steps l root at z.0 z.1.0 z.1.1)

      may_own : Found own_words → CanMake l (record p { stage = copying call root c.next idle; words = c.words }) (steps own_words)
      may_own f = can_copy c.words c.next i c.is_copying few call full f.0 at f.1

      pub slot_may : (z : Words) → own_words ≡ z → Found z → CanMake l (record p { stage = copying call root c.next idle; words = c.words }) (steps z)
      slot_may z is f = subst (λ (y : Words). Found y → CanMake l (record p { stage = copying call root c.next idle; words = c.words }) (steps y)) is may_own f

      abbrev Copied : Answers → Words → ℕ → Type 0
      Copied b z k = CopiesAt n l b p call due told (paired_lists s at z.0 z.1.0 z.1.1) root k

      then_own : Found own_words → Copied (state_after (answers_next l) a (steps own_words)) own_words (suc i)
      then_own f = record {
        words = (q4 c.words c.next i c.is_copying few call full f.0 at f.1).words;
        next = suc i;
        at = at_copy c.words c.next i c.is_copying few call full f.0 at f.1 a due told c.at;
        is_copying = copied c.words c.next i c.is_copying few call full f.0 at f.1;
      }

      pub slot_then : (z : Words) → own_words ≡ z → Found z → (b : Answers) → b ≡ state_after (answers_next l) a (steps z) → Copied b z (i + 1)
      slot_then z is f b made = subst (λ (y : Words). Found y → b ≡ state_after (answers_next l) a (steps y) → Copied b y (i + 1)) is
          (λ g e. subst (λ (k : ℕ). Copied b own_words k) (let y : suc i ≡ i + 1 = omega arith in y) (subst (λ (x : Answers). Copied x own_words (suc i)) (sym e) (then_own g))) f made

    -- a slot that isn't full
    pub slot_skipped : (call : List ℕ) (due : LogEntry ℕ) (told : List (LogEntry ℕ)) (a : Answers) (i : ℕ) → i < M → v.state i ≢ 1 → CopiesAt n l a p call due told s root i → CopiesAt n l a p call due told s root (i + 1)
    slot_skipped call due told a i few other c = record {
      words = c.words;
      next = c.next;
      at = c.at;
      is_copying = subst (λ (k : ℕ). IsCopying n l p s c.words root c.next k) (let y : suc i ≡ i + 1 = omega arith in y) (passes c.words c.next i c.is_copying few other);
    }
