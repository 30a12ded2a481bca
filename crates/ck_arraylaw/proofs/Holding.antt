-- What holds of an array's words and its writer holds at each moment of every true run of a domain whose client holds the array.
use Rattle.std.proofs.Common.{◌≡◌, ◌≢◌, ℕ, zero, suc, ◌+◌, ◌<◌, ◌≤◌, ◌⊎◌, ⊎_elim, inl, inr, Bool, true, false, cond, nat_eq, List, [], ◌∷◌, ◌++◌, length, Contains, get_or, refl, sym, ap, ◌∙◌, subst, arith, add-zero}
use Rattle.std.proofs.lemmas.List.Elements.{All-contains_itself}
use mathlib.Core.Logic.{dite}
use native.Mathlib.Decide.{ℕ_discrete}
use Rattle.ck_run.specs.declared.account.Entry.{Entry}
use Rattle.ck_run.specs.Run.{Run, Fits, words_after, replay, account}
use Rattle.ck_run.specs.Range.{word_of}
use Rattle.ck_run.specs.Rule.{IsRun, unused}
use Rattle.ck_run.specs.Machine.{follows_of, grow}
use Rattle.ck_run.proofs.Accounts.{account_grown}
use Rattle.ck_run.proofs.Law.{obeys_at, state-append}
use Rattle.ck_run.proofs.Lists.{All-weaker}
use Rattle.ck_run.proofs.Moments.{run_weaker, at_step}
use Rattle.ck_run.proofs.Runs.{account_here, account_else, replay-append}
use Rattle.ck_epoch.specs.declared.item.Item.{Item}
use Rattle.ck_epoch.specs.State.{Origin, base_of, Retirement, epochs, state_at}
use Rattle.ck_epoch.specs.Epochs.{IsRetiredBy, Reclamation, writer_in}
use Rattle.ck_epoch.specs.Client.{program, IsClientOpening}
use Rattle.ck_epoch.specs.Within.{IsWithin, item_from}
use Rattle.ck_reclaim.specs.Pieces.{AreApart}
use Rattle.ck_reclaim.specs.Reclaim.{IsReusableIn, ReclaimsPieces}
use Rattle.ck_reclaim.proofs.Along.{along}
use Rattle.ck_arraylaw.specs.declared.client.TheConstants.{ARENA}
use Rattle.ck_arraylaw.specs.Host.{Host, floor_word, base_word, inner}
use Rattle.ck_arraylaw.specs.Layout.{array_words, IsArrayItem, IsFreeRegion}
use Rattle.ck_arraylaw.specs.Array.{CommitStage, between_calls, filling, replaced, WriterState, LocalState, writer, lists_of, region_by, MayIf, written, released_if, is_array_word, is_array_item, MayRead, MayReadNext, no_read, at_length, at_member, ReadStage, ReaderState, reader, after_own, after_other, array_next, array_may}
use Rattle.ck_arraylaw.specs.Calls.{is_single_load}
use Rattle.ck_arraylaw.specs.Client.{array_start, first_writer, local_after, BeginsCommit, TakesFree, array}
use Rattle.ck_arraylaw.specs.Regions.{IsReplaced, IsStanding, place_in, regions}
use Rattle.ck_arraylaw.specs.Law.{local_in, Unpublished}
use Rattle.ck_arraylaw.proofs.Tokens.{reader_after}
use Rattle.ck_arraylaw.proofs.Words.{in_range, range_in, true_false, leaves, long_after, after_load, after_any_load}
use Rattle.ck_arraylaw.proofs.Writing.{AddsNone, Unfinished, WriterInvariant, words_stay, own_kept, other_kept}

-- what a reader's step on the array's words does: it loads
reads_load : (base : ℕ) (ws : List ℕ) (g : ReadStage) (opens : List ℕ) (e : Entry) → MayReadNext base g opens e.step → words_after ws e.step ≡ ws
reads_load base ws no_read opens e m = after_load base ws e.step m.0
reads_load base ws (at_length at) opens e m = after_load (base + at) ws e.step m.0
reads_load base ws (at_member at n members) opens e m = after_load (base + at + 1 + length members) ws e.step m.0

pub reader_loads : (floor base : ℕ) (ws : List ℕ) (y : ReaderState) (e : Entry) (b : Bool) → MayRead floor base b y e → words_after ws e.step ≡ ws
reader_loads floor base ws y e true m = after_any_load floor base ws e.step m
reader_loads floor base ws y e false m = reads_load base ws y.stage e.opens e m

-- An array in a domain: the host, what holds of it and of the domain, and how that began
pub record ArrayIn (D : Type 0) : Type 1 where
  pub host : Host D
  pub within : IsWithin array host.client host.place host.part
  pub law : Reclamation D
  pub pieces : ReclaimsPieces (regions host)
  pub origin : Origin D

module _ {D : Type 0} (a : ArrayIn D) where
  open a use {host, within, law, origin}

  abbrev pub floor : ℕ
  floor = floor_word host origin

  abbrev pub base : ℕ
  base = base_word host origin

  abbrev pub place : ℕ
  place = place_in host origin

  abbrev pub IsTrue : Run → Type 0
  IsTrue run = IsRun (program host.client) origin run

  abbrev pub words : Run → List ℕ
  words run = replay origin.words run

  abbrev pub local : Run → ℕ → LocalState
  local run n = local_in host origin run n

  abbrev pub pending : Run → List Retirement
  pending run = (writer_in origin run).pending

  pub record Holds (run : Run) : Type 0 where
    pub writer_state : WriterState
    pub at_writer : local run 0 ≡ writer writer_state
    pub long : base + array_words ≤ length (words run)
    pub invariant : WriterInvariant place base (words run) (pending run) writer_state

  pub epochs_run : (run : Run) → IsTrue run → IsRun (follows_of epochs) origin run
  epochs_run run r = run_weaker (program host.client) (follows_of epochs) origin run (λ n es f. f.0) r

  -- a step of a token
  module _ (past : Run) (n : ℕ) (e : Entry) (more : Run) (r : IsTrue (past ++ (n, e) ∷ more)) where
    abbrev now : Run
    now = past ++ (n, e) ∷ []

    shown : array.follows base (inner host origin) n (account n (past ++ (n, e) ∷ more))
    shown = within.shows (base_of origin) origin n (account n (past ++ (n, e) ∷ more)) (r.follow n).3

    pub may : array_may floor base (local past n) e
    may = obeys_at (array_next floor base) (array_may floor base) (array_start n) n past more e shown.0

    pub takes : TakesFree base (inner host origin) (record { number = n; entries = account n past }) e
    takes = subst (λ a. TakesFree base (inner host origin) a e) (account_grown (unused n) (account n past)) (obeys_at grow (TakesFree base (inner host origin)) (unused n) n past more e shown.1)

    pub fits : Fits (words past) e.step
    fits = (at_step epochs origin past more n e (epochs_run (past ++ (n, e) ∷ more) r)).1

    pub words_next : words now ≡ words_after (words past) e.step
    words_next = replay-append origin.words past ((n, e) ∷ [])

    pub local_next : local now n ≡ array_next floor base (local past n) e
    local_next = ap (λ (es : List Entry). local_after floor base n es) (account_here past n n e refl) ∙ state-append (array_next floor base) (array_start n) (account n past) (e ∷ [])

    pub local_else : (m : ℕ) → n ≢ m → local now m ≡ local past m
    local_else m other = ap (λ (es : List Entry). local_after floor base m es) (account_else past n m e other)

    pub long_next : base + array_words ≤ length (words past) → base + array_words ≤ length (words now)
    long_next long = let l = ap length words_next ∙ long_after (words past) e.step in omega arith

    -- a word of the array's that the step isn't on
    pub not_on : (i : ℕ) → base ≤ i → i < base + array_words → is_array_word floor base e.step ≡ false → get_or (words now) i 0 ≡ get_or (words past) i 0
    not_on i low high off = ap (λ (ws : List ℕ). get_or ws i 0) words_next ∙ leaves (words past) e.step i (λ is. true_false (is_array_word floor base e.step) (range_in base (base + array_words) (word_of e.step) (omega arith) (omega arith)) off)

  -- a step of the writer
  module _ (past : Run) (e : Entry) (more : Run) (r : IsTrue (past ++ (0, e) ∷ more)) (h : Holds past) where
    abbrev p : WriterState
    p = h.writer_state

    abbrev after_it : Run
    after_it = past ++ (0, e) ∷ []

    pub writer_may : array_may floor base (writer p) e
    writer_may = subst (λ (x : LocalState). array_may floor base x e) h.at_writer (may past 0 e more r)

    pub writer_next : local after_it 0 ≡ array_next floor base (writer p) e
    writer_next = local_next past 0 e more r ∙ ap (λ (x : LocalState). array_next floor base x e) h.at_writer

    -- what is pending now was so before, or is no item of the array's, but where one is retired
    was : (is_array_word floor base e.step ≡ true) ⊎ (is_array_item floor base e.item ≡ false) → AddsNone place (pending past) (pending after_it)
    was other = All-weaker (λ (k : Retirement). Contains (pending past) k ⊎ IsRetiredBy e (length (account 0 past)) k) (λ (k : Retirement). Contains (pending past) k ⊎ (IsArrayItem place k.retired.item → ⊥)) (pending after_it)
        (λ k c. ⊎_elim (λ (x : Contains (pending past) k). inl x) (λ (x : IsRetiredBy e (length (account 0 past)) k). inr (λ of. retired_not k x of other)) c)
        (law.changes origin past more e (epochs_run (past ++ (0, e) ∷ more) r)).came
      where
        retired_not : (k : Retirement) → IsRetiredBy e (length (account 0 past)) k → IsArrayItem place k.retired.item → (is_array_word floor base e.step ≡ true) ⊎ (is_array_item floor base e.item ≡ false) → ⊥
        retired_not k x of other = ⊎_elim
            (λ (on : is_array_word floor base e.step ≡ true). let i = (in_range base (base + array_words) (word_of e.step) on).0 in let zero_word : word_of e.step ≡ 0 = ap word_of x.1 in omega arith)
            (λ (not_mine : is_array_item floor base e.item ≡ false). true_false (is_array_item floor base e.item)
            (ap (is_array_item floor base) x.0 ∙ range_in base (base + array_words) (floor + k.retired.item.at) (let a = of.0 in omega arith) (let a = of.0 in let b = of.1 in omega arith)) not_mine) other

    -- a region that a commit takes is free
    pub takes_free : is_array_word floor base e.step ≡ true → BeginsCommit p.stage e.opens → IsFreeRegion place p.region (region_by base (length (lists_of p).pending) e.step) (pending past)
    takes_free on begins = takes past 0 e more r p h.at_writer on begins

    by_word : (b : Bool) → is_array_word floor base e.step ≡ b → MayIf floor base b (writer p) e → local after_it 0 ≡ cond b (after_own floor base (writer p) e) (after_other floor base (writer p) e) → Holds after_it
    by_word true on m next = record {
      writer_state = written base p e.opens p.stage e.step;
      at_writer = next;
      long = long_next past 0 e more r h.long;
      invariant = subst (λ (ws : List ℕ). WriterInvariant place base ws (pending after_it) (written base p e.opens p.stage e.step)) (sym (words_next past 0 e more r))
          (own_kept place base (words past) (pending past) (pending after_it) h.long (was (inl on)) p.log p.region e.opens p.stage e.step (in_range base (base + array_words) (word_of e.step) on).0 m (takes_free on) h.invariant);
    }
    by_word false off m next = record {
      writer_state = released_if floor base (is_array_item floor base e.item) p;
      at_writer = next;
      long = long_next past 0 e more r h.long;
      invariant = other_kept place base (words past) (pending past) (pending after_it) (words after_it) (λ i low high. not_on past 0 e more r i low high off) floor e p.log p.region p.stage (is_array_item floor base e.item) (λ no. was (inr no)) m h.invariant;
    }

    pub writer_holds : Holds after_it
    writer_holds = by_word (is_array_word floor base e.step) refl writer_may writer_next

    -- what is free is so by the writer's own account
    free_of : (g : CommitStage) → Unfinished place base (words past) (pending past) p.region (lists_of p).pending g → (BeginsCommit g e.opens → IsFreeRegion place p.region (region_by base (length (lists_of p).pending) e.step) (pending past))
        → (region : Item) → Unpublished base p e g region → IsFreeRegion place p.region region (pending past)
    free_of between_calls f free region u = subst (λ (x : Item). IsFreeRegion place p.region x (pending past)) (sym u.1) (free u.0)
    free_of (filling new i) f free region u = subst (λ (x : Item). IsFreeRegion place p.region x (pending past)) (sym u) f.free
    free_of (replaced old) f free region u = absurd u

    none_replaced : (g : CommitStage) (region other : Item) → Unpublished base p e g region → IsReplaced g other → ⊥
    none_replaced between_calls region other u s = s
    none_replaced (filling new i) region other u s = s
    none_replaced (replaced old) region other u s = u

    pub is_reusable : is_array_word floor base e.step ≡ true → (region : Item) → Unpublished base p e p.stage region → IsReusableIn (regions host) origin past (item_from place region)
    is_reusable on region u = let f = free_of p.stage h.invariant.unfinished (takes_free on) region u in record {
      unlinked = λ other x. let same : x.0 ≡ p = let z : writer x.0 ≡ writer p = sym x.1 ∙ h.at_writer in cc in stood f other (subst (λ (q : WriterState). IsStanding q other) same x.2);
      unused = f.unused;
    }
      where
        stood : IsFreeRegion place p.region region (pending past) → (other : Item) → IsStanding p other → AreApart (item_from place other) (item_from place region)
        stood f other s = ⊎_elim
            (λ (is : other ≡ p.region). subst (λ (x : Item). AreApart (item_from place x) (item_from place region)) (sym is) f.apart)
            (λ (is : IsReplaced p.stage other). absurd (none_replaced p.stage region other u is)) s

  -- a step of a reader
  module _ (past : Run) (n : ℕ) (e : Entry) (more : Run) (r : IsTrue (past ++ (n, e) ∷ more)) (other : n ≢ 0) where
    reader_of : (n : ℕ) → n ≢ 0 → (y : ReaderState) × (local past n ≡ reader y)
    reader_of zero other = absurd (other refl)
    reader_of (suc k) other = reader_after floor base _ (account (suc k) past)

    pub words_same : is_array_word floor base e.step ≡ true → words (past ++ (n, e) ∷ []) ≡ words past
    words_same on = let y = reader_of n other in words_next past n e more r ∙ reader_loads floor base (words past) y.0 e (is_single_load e.opens)
        (subst (λ (b : Bool). MayIf floor base b (reader y.0) e) on (subst (λ (x : LocalState). array_may floor base x e) y.1 (may past n e more r)))

    pub reader_leaves : (i : ℕ) → base ≤ i → i < base + array_words → get_or (words (past ++ (n, e) ∷ [])) i 0 ≡ get_or (words past) i 0
    reader_leaves i low high = by (is_array_word floor base e.step) refl
      where
        by : (b : Bool) → is_array_word floor base e.step ≡ b → get_or (words (past ++ (n, e) ∷ [])) i 0 ≡ get_or (words past) i 0
        by true on = ap (λ (ws : List ℕ). get_or ws i 0) (words_same on)
        by false off = not_on past n e more r i low high off

    pub reader_holds : Holds past → Holds (past ++ (n, e) ∷ [])
    reader_holds h = record {
      writer_state = h.writer_state;
      at_writer = local_else past n e more r 0 other ∙ h.at_writer;
      long = long_next past n e more r h.long;
      invariant = subst (λ (k : List Retirement). WriterInvariant place base (words (past ++ (n, e) ∷ [])) k h.writer_state) (sym same_pending)
          (words_stay place base (words past) (pending past) (pending past) (words (past ++ (n, e) ∷ [])) reader_leaves (same_none (pending past)) h.writer_state h.invariant);
    }
      where
        same_pending : pending (past ++ (n, e) ∷ []) ≡ pending past
        same_pending = ap (λ (es : List Entry). (state_at origin 0 es).pending) (account_else past n 0 e other)

        same_none : (ks : List Retirement) → AddsNone place ks ks
        same_none ks = All-weaker (λ (k : Retirement). Contains ks k) (λ (k : Retirement). Contains ks k ⊎ (IsArrayItem place k.retired.item → ⊥)) ks (λ k c. inl c) (All-contains_itself ks)

  holds_next : (past : Run) (n : ℕ) (e : Entry) (more : Run) → IsTrue (past ++ (n, e) ∷ more) → Holds past → Holds (past ++ (n, e) ∷ [])
  holds_next past n e more r h = dite (ℕ_discrete n 0)
      (λ (z : n ≡ 0). subst (λ (k : ℕ). IsTrue (past ++ (k, e) ∷ more) → Holds (past ++ (k, e) ∷ [])) (sym z) (λ r. writer_holds past e more r h) r)
      (λ (z : n ≢ 0). reader_holds past n e more r z h)

  module _ (o : IsClientOpening host.client origin) where
    -- the array's words at opening
    word : (at : ℕ) → at < array_words → get_or origin.words (base + at) 0 ≡ cond (nat_eq at 0) ARENA 0
    word at low = let d = origin.config.client in let fits = within.fits d in
        ap (λ (i : ℕ). get_or origin.words i 0) (assoc (base_of origin) (host.place d) at) ∙ (o.words (host.place d + at) (omega arith) ∙ within.first d at low)
      where
        assoc : (a b c : ℕ) → a + b + c ≡ a + (b + c)
        assoc a b c = omega arith

    holds_first : Holds []
    holds_first = record {
      writer_state = first_writer;
      at_writer = refl;
      long = let d = origin.config.client in let fits = within.fits d in let e = o.long in omega arith;
      invariant = record {
        root = ap (λ (i : ℕ). get_or origin.words i 0) (sym (add-zero base)) ∙ word 0 (omega arith);
        inside = record { low = omega arith; high = omega arith };
        list = record { all = record { count = word 1 (omega arith); member = λ j none. absurd (omega arith) }; room = omega arith };
        unfinished = tt;
      };
    }

  -- at each moment of such a run
  pub held : (past more : Run) → IsTrue (past ++ more) → Holds past
  held past more r = along origin IsTrue epochs_run Holds (holds_first (r.follow 0).1) (λ before n e since good h. holds_next before n e since good h) past more r
