-- The steps of a commit: that the array allows them, and where they leave the writer.
use Rattle.std.proofs.Common.{◌≡◌, ℕ, suc, ◌+◌, ◌-◌, ◌^◌, ◌<◌, ◌≤◌, ⊎_elim, Bool, true, false, cond, ◌&&◌, nat_le, nat_lt, inl, inr, List, [], ◌∷◌, ◌++◌, length, drop, append_assoc, get_or, refl, sym, ap, ◌∙◌, subst, arith}
use Rattle.std.specs.Prelude.{All}
use Rattle.std.specs.FinSet as set
use Rattle.std.proofs.lemmas.Bool.Decides.{nat_tests}
use Rattle.std.proofs.lemmas.List.Elements.{All-nil, All-cons, All-head, All-tail, All-weaker}
use Rattle.std.proofs.lemmas.Nat.{pow_pos}
use Rattle.ck_run.specs.declared.account.Step.TheVariants.{Load, Store}
use Rattle.ck_run.specs.declared.account.Entry.{Entry}
use Rattle.ck_run.specs.Run.{entry, further, handing}
use Rattle.ck_run.specs.Tokens.{adding, did, number, origin}
use Rattle.ck_history.specs.declared.edit.Edit.{Edit}
use Rattle.ck_history.specs.declared.edit.Edit.TheVariants.{Commit}
use Rattle.ck_history.specs.Lists.{empty_lists, lists_after_from, list_step}
use Rattle.ck_epoch.specs.declared.item.Item.{Item}
use Rattle.ck_epoch.specs.declared.item.Retired.{Retired}
use Rattle.ck_epoch.specs.State.{Origin, Token, Retirement, queue, state, state_at}
use Rattle.ck_words.specs.Buddies.{Arena, piece, piece_cmp, with_pieces_out, IsFree, IsPieceOut, AddsPiece}
use Rattle.ck_reclaim.specs.Pieces.{AreApart}
use Rattle.ck_arena.specs.Arena.{retired_piece, unreturned, IsKept, IsOutBeside}
use Rattle.ck_arena.proofs.Taking.{apart, kept_then}
use Rattle.ck_run.proofs.Moments.{adding-append}
use Rattle.ck_epoch.specs.Ends.{IsDomainToken, Writer}
use Rattle.ck_epoch.specs.Calls.{MayFollow, SameItemsAndEpoch}
use Rattle.ck_epoch.specs.Within.{IsWithin, item_from}
use Rattle.ck_arraylaw.specs.Calls.{commit}
use Rattle.ck_arraylaw.specs.Host.{Host, floor_word, base_word}
use Rattle.ck_arraylaw.specs.Layout.{array_words, log_for, IsArrayItem, IsFreeRegion, IsRegion}
use Rattle.ck_arraylaw.specs.Array.{CommitStage, between_calls, filling, replaced, WriterState, LocalState, writer, lists_of, region_by, MayFill, MayIf, MayOtherIf, after_own, after_other, filled, released, released_if, written, is_array_word, is_array_item, array_next}
use Rattle.ck_arraylaw.specs.Client.{BeginsCommit, array}
use Rattle.ck_arraylaw.specs.Known.{knows}
use Rattle.ck_arraylaw.specs.Regions.{place_in}
use Rattle.ck_arraylaw.proofs.Tokens.{knows_next, may_step}
use Rattle.ck_array.specs.declared.state.ArrayState.{ArrayState}
use Rattle.ck_array.specs.Writes.{commit_entries, filling_by, idle, largest_log, member_stores, region_piece, IsArenaOfArray, IsReady, IsStoreDue}
use Rattle.ck_array.proofs.EditSteps.{lists_next}
use Rattle.ck_array.proofs.Loading.{own_word}
use Rattle.ck_array.proofs.Elsewhere.{below}
use Rattle.ck_arraylaw.proofs.Words.{range_in}

less : (i n : ℕ) → i < n → nat_lt i n ≡ true
less i n h = grind (arith, nat_tests)

not_less : (n : ℕ) → nat_lt n n ≡ false
not_less n = grind (arith, nat_tests)

module _ {D : Type 0} (h : Host D) (o : Origin D) where
  abbrev f : ℕ
  f = floor_word h o

  abbrev b : ℕ
  b = base_word h o

  pub may_store : IsWithin array h.client h.place h.part → (t : Token D) → origin t ≡ o → IsDomainToken h.client t → (opens : List ℕ) (at x : ℕ) → at < array_words → IsStoreDue h o t opens at x → MayFollow h.client t (entry opens (Store (b + at) x))
  may_store within t same part opens at x low d =
      let e : Entry = entry opens (Store (b + at) x) in
      may_step h o within t same part e (inl (omega arith, omega arith))
      (subst (λ (y : LocalState). MayIf f b (is_array_word f b e.step) y e) (sym d.local) (subst (λ (own : Bool). MayIf f b own (writer d.stands) e) (sym (own_word h o at low)) d.due))
      (λ p is own begins.
      let is_p : d.stands ≡ p = let z : writer d.stands ≡ writer p = sym d.local ∙ is in cc in
      let free = subst (λ (q : WriterState). BeginsCommit q.stage opens → IsFreeRegion (place_in h o) q.region (region_by b (length (lists_of q).pending) e.step) (state t).pending) is_p d.free in
      subst (λ (ks : List Retirement). IsFreeRegion (place_in h o) p.region (region_by b (length (lists_of p).pending) e.step) ks) (ap (λ (q : Origin D). (state_at q (number t) (did t)).pending) same) (free begins))

  pub stored : (t u : Token D) (opens : List ℕ) (at x : ℕ) → at < array_words → u ≡ adding t (entry opens (Store (b + at) x) ∷ []) → (p : WriterState) → knows h o t ≡ writer p → knows h o u ≡ writer (written b p opens p.stage (Store (b + at) x))
  stored t u opens at x low made p local =
      let e : Entry = entry opens (Store (b + at) x) in
      knows_next h o t u e made ∙ (ap (λ (y : LocalState). array_next f b y e) local ∙ ap (λ (c : Bool). cond c (after_own f b (writer p) e) (after_other f b (writer p) e)) (own_word h o at low))

  module _ (log : List Edit) (present region : Item) (members : List ℕ) (pending : (lists_after_from empty_lists log).pending ≡ members) where
    region_is : (x : ℕ) → region.log ≡ log_for (length members) → region_by b (length (lists_after_from empty_lists log).pending) (Store (b + region.at) x) ≡ region
    region_is x long = λ i. record { at = (let z : b + region.at - b ≡ region.at = omega arith in z) i; log = (ap (λ (xs : List ℕ). log_for (length xs)) pending ∙ sym long) i }

    -- the first step
    pub begins_due : (t : Token D) → knows h o t ≡ writer (idle log present) → region.log ≡ log_for (length members) → IsFreeRegion (place_in h o) present region (state t).pending → IsStoreDue h o t (commit ∷ []) region.at (length members)
    begins_due t local long free = record {
      stands = idle log present;
      local = local;
      due = (refl, ap (λ (xs : List ℕ). length xs) (sym pending));
      free = λ begins. subst (λ (r : Item). IsFreeRegion (place_in h o) present r (state t).pending) (sym (region_is (length members) long)) free;
    }

    pub begun_is : (x : ℕ) → region.log ≡ log_for (length members) → written b (idle log present) (commit ∷ []) between_calls (Store (b + region.at) x) ≡ filling_by log present region 0
    begun_is x long = ap (λ (r : Item). filling_by log present r 0) (region_is x long)

    -- the store of a member
    pub fill_due : (t : Token D) (i : ℕ) → knows h o t ≡ writer (filling_by log present region i) → i < length members → IsStoreDue h o t [] (region.at + 1 + i) (get_or members i 0)
    fill_due t i local low = record {
      stands = filling_by log present region i;
      local = local;
      due = (subst (λ (c : Bool). MayFill b (lists_after_from empty_lists log).pending region i c (Store (b + (region.at + 1 + i)) (get_or members i 0))) (sym (less i (length (lists_after_from empty_lists log).pending) (subst (λ (xs : List ℕ). i < length xs) (sym pending) low))) ((let z : b + (region.at + 1 + i) ≡ b + region.at + 1 + i = omega arith in z), ap (λ (xs : List ℕ). get_or xs i 0) (sym pending)), refl);
      free = λ begins. absurd begins;
    }

    pub filled_next : (i x : ℕ) → i < length members → written b (filling_by log present region i) [] (filling region i) (Store (b + (region.at + 1 + i)) x) ≡ filling_by log present region (suc i)
    filled_next i x low = ap (λ (c : Bool). filled b (filling_by log present region i) region i c) (less i (length (lists_after_from empty_lists log).pending) (subst (λ (xs : List ℕ). i < length xs) (sym pending) low))

    -- the store of the root
    pub root_due : (t : Token D) → knows h o t ≡ writer (filling_by log present region (length members)) → IsStoreDue h o t [] 0 region.at
    root_due t local = record {
      stands = filling_by log present region (length members);
      local = local;
      due = (subst (λ (c : Bool). MayFill b (lists_after_from empty_lists log).pending region (length members) c (Store (b + 0) region.at)) (sym all) ((let z : b + 0 ≡ b = omega arith in z), refl), refl);
      free = λ begins. absurd begins;
    }
      where
        all : nat_lt (length members) (length (lists_after_from empty_lists log).pending) ≡ false
        all = ap (λ (xs : List ℕ). nat_lt (length members) (length xs)) pending ∙ not_less (length members)

    pub published : written b (filling_by log present region (length members)) [] (filling region (length members)) (Store (b + 0) region.at) ≡ record { log = log; region = region; stage = replaced present }
    published = ap (λ (c : Bool). filled b (filling_by log present region (length members)) region (length members) c) (ap (λ (xs : List ℕ). nat_lt (length members) (length xs)) pending ∙ not_less (length members))

  -- the old region is retired
  module _ (old : Item) (inside : IsRegion old) where
    abbrev pub retires_by : ℕ → Entry
    retires_by n = handing [] ((place_in h o + old.at) ∷ old.log ∷ []) (Load 0 n)

    off : (n : ℕ) → is_array_word f b (retires_by n).step ≡ false
    off n = below b (b + array_words) 0 (omega arith)

    is_mine : is_array_item f b ((place_in h o + old.at) ∷ old.log ∷ []) ≡ true
    is_mine = let high = inside.high in let some = pow_pos old.log in range_in b (b + array_words) (f + (place_in h o + old.at)) (omega arith) (omega arith)

    pub may_retire : IsWithin array h.client h.place h.part → (t : Token D) → origin t ≡ o → IsDomainToken h.client t → (p : WriterState) → knows h o t ≡ writer p → p.stage ≡ replaced old → (n : ℕ) → MayFollow h.client t (retires_by n)
    may_retire within t same part p local replaces n =
        let e : Entry = retires_by n in let high = inside.high in let some = pow_pos old.log in
        may_step h o within t same part e (inr (place_in h o + old.at, old.log, refl, omega arith, omega arith, omega arith))
        (subst (λ (y : LocalState). MayIf f b (is_array_word f b e.step) y e) (sym local) (subst (λ (own : Bool). MayIf f b own (writer p) e) (sym (off n)) (subst (λ (mine : Bool). MayOtherIf f b mine p.stage e) (sym is_mine) (subst (λ (g : CommitStage). MayOtherIf f b true g e) (sym replaces) (refl, refl)))))
        (λ q is own begins. absurd (let z : true ≡ false = sym own ∙ off n in cc))

    released_is : (p : WriterState) → p.stage ≡ replaced old → released_if f b true p ≡ record p { log = p.log ++ Commit ∷ []; stage = between_calls }
    released_is p replaces = released_by p.stage replaces
      where
        released_by : (g : CommitStage) → g ≡ replaced old → released p g ≡ record p { log = p.log ++ Commit ∷ []; stage = between_calls }
        released_by (replaced x) e = refl
        released_by between_calls e = absurd cc
        released_by (filling region i) e = absurd cc

    pub retired_is : (t u : Token D) (n : ℕ) → u ≡ adding t (retires_by n ∷ []) → (p : WriterState) → knows h o t ≡ writer p → p.stage ≡ replaced old → knows h o u ≡ writer (record p { log = p.log ++ Commit ∷ []; stage = between_calls })
    retired_is t u n made p local replaces =
        let e : Entry = retires_by n in
        knows_next h o t u e made ∙ (ap (λ (y : LocalState). array_next f b y e) local ∙ (ap (λ (c : Bool). cond c (after_own f b (writer p) e) (after_other f b (writer p) e)) (off n)
        ∙ (ap (λ (mine : Bool). writer (released_if f b mine p)) is_mine ∙ ap writer (released_is p replaces))))

    -- the item, as the code names it
    pub item_is : (base : ℕ) → base ≡ h.place o.config.client → ((base + old.at) ∷ old.log ∷ []) ≡ (place_in h o + old.at) ∷ old.log ∷ []
    item_is base is = ap (λ (k : ℕ). k ∷ old.log ∷ []) (let z : base + old.at ≡ place_in h o + old.at = omega arith in z)

    pub region_item : (base : ℕ) → base ≡ h.place o.config.client → record { at = base + old.at; log = old.log } ≡ item_from (place_in h o) old
    region_item base is = ap (λ (k : ℕ). record { at = k; log = old.log }) (let z : base + old.at ≡ place_in h o + old.at = omega arith in z)

    pub is_retired : IsWithin array h.client h.place h.part → (base : ℕ) → base ≡ h.place o.config.client → h.client.retires o.config.client (record { at = base + old.at; log = old.log }) ≡ true
    is_retired within base is =
        let high = inside.high in let low = inside.low in let some = pow_pos old.log in
        ap (λ (k : ℕ). h.client.retires o.config.client (record { at = k + old.at; log = old.log })) is ∙ within.retires o.config.client old (both 1 array_words old.at low (omega arith))
      where
        both : (low high n : ℕ) → low ≤ n → n < high → nat_le low n && nat_lt n high ≡ true
        both low high n l g = grind (arith, nat_tests)

-- a store of a member more
pub one_more_store : {D F : Type 0} (w v u : Writer D F) (word at i x : ℕ) (members : List ℕ) → v ≡ record w { token = adding w.token (member_stores word members i) } → u ≡ record v { token = adding v.token (further (Store at x) ∷ []) } → at ≡ word + i → x ≡ get_or members i 0
    → u ≡ record w { token = adding w.token (member_stores word members (i + 1)) }
one_more_store {D} {F} w v u word at i x members before made place value =
    made ∙ (ap (λ (y : Writer D F). record y { token = adding y.token (further (Store at x) ∷ []) }) before
    ∙ ap (λ (t : Token D). record w { token = t }) (adding-append w.token (member_stores word members i) (further (Store at x) ∷ [])
    ∙ ((λ k. adding w.token (member_stores word members i ++ further (Store (place k) (value k)) ∷ [])) ∙ ap (λ (n : ℕ). adding w.token (member_stores word members n)) (let z : suc i ≡ i + 1 = omega arith in z))))

pub same_twice : {D : Type 0} (t u v : Token D) → SameItemsAndEpoch t u → SameItemsAndEpoch u v → SameItemsAndEpoch t v
same_twice t u v a c = (c.0 ∙ a.0, c.1 ∙ a.1, c.2 ∙ a.2)

-- the steps of a commit, one part after the other
pub all_steps : {D F : Type 0} (h : Host D) (o : Origin D) (w a c d v : Writer D F) (members : List ℕ) (new old : Item) (epoch : ℕ) → a ≡ record w { token = adding w.token (entry (commit ∷ []) (Store (base_word h o + new.at) (length members)) ∷ []) }
    → c ≡ record a { token = adding a.token (member_stores (base_word h o + new.at + 1) members (length members)) } → d ≡ record c { token = adding c.token (entry [] (Store (base_word h o + 0) new.at) ∷ []) }
    → v ≡ record d { token = adding d.token (handing [] ((place_in h o + old.at) ∷ old.log ∷ []) (Load 0 epoch) ∷ []); calls = d.calls + 1 } → v ≡ record w { token = adding w.token (commit_entries h o members new old epoch); calls = w.calls + 1 }
all_steps {D} {F} h o w a c d v members new old epoch first fill root last =
    let e1 : List Entry = entry (commit ∷ []) (Store (base_word h o + new.at) (length members)) ∷ [] in
    let e2 : List Entry = member_stores (base_word h o + new.at + 1) members (length members) in
    let e3 : List Entry = further (Store (base_word h o) new.at) ∷ [] in
    let e4 : List Entry = handing [] ((place_in h o + old.at) ∷ old.log ∷ []) (Load 0 epoch) ∷ [] in
    let root' : d ≡ record c { token = adding c.token e3 } = root ∙ ap (λ (k : ℕ). record c { token = adding c.token (further (Store k new.at) ∷ []) }) (let z : base_word h o + 0 ≡ base_word h o = omega arith in z) in
    let two : c ≡ record w { token = adding w.token (e1 ++ e2) } = fill ∙ (ap (λ (y : Writer D F). record y { token = adding y.token e2 }) first ∙ ap (λ (t : Token D). record w { token = t }) (adding-append w.token e1 e2)) in
    let three : d ≡ record w { token = adding w.token ((e1 ++ e2) ++ e3) } = root' ∙ (ap (λ (y : Writer D F). record y { token = adding y.token e3 }) two ∙ ap (λ (t : Token D). record w { token = t }) (adding-append w.token (e1 ++ e2) e3)) in
    last ∙ (ap (λ (y : Writer D F). record y { token = adding y.token e4; calls = y.calls + 1 }) three ∙ ap (λ (t : Token D). record w { token = t; calls = w.calls + 1 }) (adding-append w.token ((e1 ++ e2) ++ e3) e4
    ∙ ap (λ (es : List Entry). adding w.token es) (append_assoc (e1 ++ e2) e3 e4 ∙ append_assoc e1 e2 (e3 ++ e4))))

-- A region that the arena hands out for the pending list is free by the account, and the arena is kept of what is out once it is published
module _ {D F : Type 0} (h : Host D) (o : Origin D) (w : Writer D F) (s : ArrayState) (r : IsReady h o w s) (region : Item) (free : IsFree s.arena (region_piece region)) where
  abbrev place : ℕ
  place = place_in h o

  apart_present : AreApart (item_from place s.region) (item_from place region)
  apart_present = ⊎_elim (λ (l : s.region.at + 2 ^ s.region.log ≤ region.at). inl (omega arith)) (λ (l : region.at + 2 ^ region.log ≤ s.region.at). inr (omega arith)) (apart s.arena (region_piece region) (region_piece s.region) free r.kept.current)

  abbrev IsApart : Retired → Type 0
  IsApart k = IsArrayItem place k.item → AreApart k.item (item_from place region)

  apart_items : All IsApart (unreturned (state w.token) w.waiting)
  apart_items = All-weaker (IsOutBeside (IsArrayItem place) place s.arena (region_piece s.region)) IsApart (λ k out mine. let from = mine.0 in
      ⊎_elim (λ (l : k.item.at - place + 2 ^ k.item.log ≤ region.at). inl (omega arith)) (λ (l : region.at + 2 ^ region.log ≤ k.item.at - place). inr (omega arith)) (apart s.arena (region_piece region) (retired_piece place k) free (out mine).0))
      (unreturned (state w.token) w.waiting) r.kept.retired

  behind : (xs ys : List Retired) → All IsApart (xs ++ ys) → All IsApart ys
  behind [] ys all = all
  behind (x ∷ xs) ys all = behind xs ys (All-tail IsApart x (xs ++ ys) all)

  of_queue : (ks : List Retirement) → All IsApart (queue ks) → All (λ (k : Retirement). IsArrayItem place k.retired.item → AreApart k.retired.item (item_from place region)) ks
  of_queue [] all = All-nil (λ (k : Retirement). IsArrayItem place k.retired.item → AreApart k.retired.item (item_from place region))
  of_queue (k ∷ ks) all = All-cons (λ (k : Retirement). IsArrayItem place k.retired.item → AreApart k.retired.item (item_from place region)) k ks (All-head IsApart k.retired (queue ks) all) (of_queue ks (All-tail IsApart k.retired (queue ks) all))

  pub is_free : IsRegion region → IsFreeRegion place s.region region (state w.token).pending
  is_free inside = record {
    inside = inside;
    apart = apart_present;
    unused = of_queue (state w.token).pending (behind (drop (length (state w.token).dispatched - length w.waiting) (queue (state w.token).dispatched)) (queue (state w.token).pending) apart_items);
  }

  -- the writer once it is published, and the old one retired
  pub ready_then : (v : Writer D F) (s' : ArrayState) (epoch : ℕ) → IsRegion region → region.log ≤ largest_log → ¬ IsPieceOut s.arena (region_piece region) → AddsPiece s.arena s'.arena (region_piece region) → IsArenaOfArray s'.arena → s'.region ≡ region
      → knows h o v.token ≡ writer (idle (r.log ++ Commit ∷ []) region) → s'.lists ≡ (list_step s.lists Commit).0
      → unreturned (state v.token) v.waiting ≡ unreturned (state w.token) w.waiting ++ record { item = item_from place s.region; epoch = epoch } ∷ [] → IsReady h o v s'
  ready_then v s' epoch inside short is_new adds shape is local lists items = record {
    log = r.log ++ Commit ∷ [];
    local = local ∙ ap (λ (x : Item). writer (idle (r.log ++ Commit ∷ []) x)) (sym is);
    lists = lists ∙ lists_next s.lists r.log Commit r.lists;
    inside = subst IsRegion (sym is) inside;
    short = subst (λ (x : Item). x.log ≤ largest_log) (sym is) short;
    arena = shape;
    kept = subst (λ (x : Item). IsKept (IsArrayItem place) place (region_piece x) (unreturned (state v.token) v.waiting) s'.arena) (sym is)
        (subst (λ (ks : List Retired). IsKept (IsArrayItem place) place (region_piece region) ks s'.arena) (sym items)
        (kept_then (IsArrayItem place) place (region_piece s.region) (region_piece region) (unreturned (state w.token) w.waiting) s.arena s'.arena (record { item = item_from place s.region; epoch = epoch }) back r.kept is_new adds));
  }
    where
      back : piece (place + s.region.at - place) s.region.log ≡ region_piece s.region
      back = ap (λ (k : ℕ). piece k s.region.log) (let z : place + s.region.at - place ≡ s.region.at = omega arith in z)

-- an arena of an array stays one, whichever pieces are out
pub still_of_array : (a c : Arena) (out : set.FinSet piece_cmp) → c ≡ with_pieces_out a out → IsArenaOfArray a → IsArenaOfArray c
still_of_array a c out is shape = subst IsArenaOfArray (sym is) record { first = shape.first; long = shape.long; least = shape.least }

-- what isn't given back, once an item more is pending
pub one_pending : {D F : Type 0} (w v : Writer D F) (k : Retired) → queue (state v.token).pending ≡ queue (state w.token).pending ++ k ∷ [] → (state v.token).dispatched ≡ (state w.token).dispatched → v.waiting ≡ w.waiting → unreturned (state v.token) v.waiting ≡ unreturned (state w.token) w.waiting ++ k ∷ []
one_pending w v k more same waits = (λ i. drop (length (same i) - length (waits i)) (queue (same i)) ++ more i) ∙ sym (append_assoc (drop (length (state w.token).dispatched - length w.waiting) (queue (state w.token).dispatched)) (queue (state w.token).pending) (k ∷ []))
