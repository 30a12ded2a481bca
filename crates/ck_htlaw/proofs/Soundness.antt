-- What the writer is about to do is right of the words as they stand.
use Rattle.std.proofs.Common.{◌≡◌, ◌≢◌, ℕ, ◌+◌, ◌-◌, ◌*◌, ◌/◌, ◌%◌, ◌^◌, ◌<◌, ◌≤◌, Bool, true, false, cond, nat_le, nat_lt, ◌==◌, List, length, get_or, refl, sym, ap, ◌∙◌, subst, arith}
use Rattle.std.proofs.lemmas.Bool.Decides.{nat_tests}
use Rattle.std.specs.Prelude.{Option, Some, None}
use Rattle.ck_run.specs.declared.account.Entry.{Entry}
use Rattle.ck_run.specs.Range.{word_of}
use Rattle.ck_slots.specs.Slots.{Order, SlotsView, Holds}
use Rattle.ck_slots.specs.Counting.{count as how_many, used}
use Rattle.ck_slots.proofs.Counts.{another_empty, used_parts}
use Rattle.ck_htplan.specs.declared.cases.Plan.{Plan}
use Rattle.ck_htplan.specs.declared.cases.Plan.TheVariants.{Empty, Reuse, Stand, Move}
use Rattle.ck_htlaw.specs.Calls.{Opening, setting, putting, removing, tidying, looking, other, opening_of}
use Rattle.ck_htlaw.specs.Stages.{empty, reuse, Stage, idle, copying, after_rebuild, Maps, IsMap, parts, NoneFull}
use Rattle.ck_htlaw.specs.Table.{Layout, column, view, Action, nothing, begins_rebuild, copies, no_action, WriterState}
use Rattle.ck_htlaw.specs.Actions.{most, job, slots_now, keys_now, tombstones_now, plan_now, root_at, adds, to_set, to_put, to_remove, by_call, key_at, when_copied, copies_to, to_copy, by_stage, action}
use Rattle.ck_htlaw.specs.Layout.{log_of}
use Rattle.ck_htplan.specs.Planning.{plan_of}
use Rattle.ck_htlaw.specs.Invariant.{IsOwn, IsRegion, IsNewRegion, IsSound, IsSoundAt, IsCopySound, IsUnpublished, WriterInvariant}
use Rattle.ck_htlaw.proofs.Words.{if_inside}
use Rattle.ck_htlaw.proofs.Maps.{remaps}
use Rattle.ck_htlaw.proofs.Parts.{parts_skip}
use Rattle.ck_htlaw.proofs.RebuildSteps.{calm_map}
use Rattle.ck_htplan.specs.Deciding.{next_full}
use Rattle.ck_htplan.proofs.Says.{Says, says}
use Rattle.ck_htplan.proofs.Decided.{IsNext, next_is, next_none}
use Rattle.ck_htlaw.proofs.Planning.{plans_empty, plans_reuse, plans_move}

yes_le : (a b : ℕ) → nat_le a b ≡ true → a ≤ b
yes_le a b h = grind (arith, nat_tests)

-- two lists of words with the same words of a region have the same slots
view_agree : (l : Layout) (ws ws' : List ℕ) (root size : ℕ) → IsRegion l size root → ((i : ℕ) → IsOwn l i → get_or ws i 0 ≡ get_or ws' i 0) → view l ws' root ≡ view l ws root
view_agree l ws ws' root size r same = λ z. record { state = col 0 (omega arith) z; low = col 1 (omega arith) z; high = col 2 (omega arith) z; value = col 3 (omega arith) z }
  where
    col : (j : ℕ) → j < 4 → column l ws' root j ≡ column l ws root j
    col j b = λ z s. if_inside s (l.order root).slots (get_or ws' (l.word root s j) 0) (get_or ws (l.word root s j) 0) (λ low. sym (same (l.word root s j) (r.own s j low b))) z

-- Of slots of which another is empty
module _ (o : Order) (v : SlotsView) (maps : Maps) (q : ℕ) where
  holes_in : (s : ℕ) → nat_le (used v.state o.slots + 2) o.slots ≡ true → (e : ℕ) × (e < o.slots) × (e ≢ s) × (v.state e ≡ 0)
  holes_in s h = another_empty v.state s o.slots (yes_le (used v.state o.slots + 2) o.slots h)

module _ (l : Layout) (ws : List ℕ) (p : WriterState) (h : WriterInvariant l ws p) where
  abbrev o : Order
  o = l.order p.root

  abbrev v : SlotsView
  v = view l ws p.root

  abbrev maps : Maps
  maps = p.maps

  abbrev q : ℕ
  q = p.linearized

  -- what the writer sees is what stands
  same : (root size : ℕ) → IsRegion l size root → view l p.words root ≡ view l ws root
  same root size r = view_agree l ws p.words root size r h.words

  pub now : slots_now l p ≡ v
  now = same p.root (length ws) h.region

  module _ (m : IsMap o v maps q idle) where
    abbrev Sound : Action → Type 0
    Sound a = IsSound l ws p.root (maps q) a

    pub plan_says : (k : ℕ) → Says o v k (plan_now l p k)
    plan_says k = subst (λ (u : SlotsView). Says o v k (plan_of o u k)) (sym now) (says o h.region.ok v k (m.way k) m.hole.0 m.hole.1 m.hole.2)

    if : (b : Bool) (a c : Action) → (b ≡ true → Sound a) → (b ≡ false → Sound c) → Sound (cond b a c)
    if true a c x y = x refl
    if false a c x y = y refl

    -- where no rebuild is due, another slot is empty
    room : (s : ℕ) → nat_le (4 * (how_many v.state 1 o.slots + how_many v.state 2 o.slots + 1)) (3 * o.slots) ≡ true → (e : ℕ) × (e < o.slots) × (e ≢ s) × (v.state e ≡ 0)
    room s rule = let r = yes_le (4 * (how_many v.state 1 o.slots + how_many v.state 2 o.slots + 1)) (3 * o.slots) rule in let u = used_parts v.state o.slots m.states in another_empty v.state s o.slots (omega arith)

    adds_empty : (k n s word : ℕ) → Says o v k (Empty s) → Sound (adds l p empty (job l p k n s) word)
    adds_empty k n s word x = if (nat_lt (keys_now l p) most) _ nothing
        (λ _. if (nat_le (4 * (keys_now l p + tombstones_now l p + 1)) (3 * o.slots)) _ _
        (λ rule. plans_empty o v maps q m k n s x (room s (subst (λ (u : SlotsView). nat_le (4 * (how_many u.state 1 o.slots + how_many u.state 2 o.slots + 1)) (3 * o.slots) ≡ true) now rule)))
        (λ _. tt))
        (λ _. tt)

    adds_reuse : (k n s word : ℕ) → Says o v k (Reuse s) → Sound (adds l p reuse (job l p k n s) word)
    adds_reuse k n s word x = if (nat_lt (keys_now l p) most) _ nothing (λ _. plans_reuse o v maps q m k n s x) (λ _. tt)

    set_sound : (k n word : ℕ) (plan : Plan) → Says o v k plan → Sound (to_set l p plan k n word)
    set_sound k n word (Empty s) x = adds_empty k n s word x
    set_sound k n word (Reuse s) x = adds_reuse k n s word x
    set_sound k n word (Stand s) x = x
    set_sound k n word (Move t s) x = plans_move o v maps q m k n t s x

    put_sound : (k n word : ℕ) (plan : Plan) → Says o v k plan → Sound (to_put l p plan k n word)
    put_sound k n word (Empty s) x = adds_empty k n s word x
    put_sound k n word (Reuse s) x = adds_reuse k n s word x
    put_sound k n word (Stand s) x = tt
    put_sound k n word (Move t s) x = tt

    remove_sound : (k : ℕ) (plan : Plan) → Says o v k plan → Sound (to_remove l p plan k)
    remove_sound k (Empty s) x = tt
    remove_sound k (Reuse s) x = tt
    remove_sound k (Stand s) x = x
    remove_sound k (Move t s) x = x.2

    call_sound : (c : Opening) (word : ℕ) → Sound (by_call l p c word)
    call_sound (setting k n) word = set_sound k n word (plan_now l p k) (plan_says k)
    call_sound (putting k n) word = put_sound k n word (plan_now l p k) (plan_says k)
    call_sound (removing k) word = remove_sound k (plan_now l p k) (plan_says k)
    call_sound tidying word = if (tombstones_now l p == 0) nothing (begins_rebuild (root_at l p word (log_of p.root))) (λ _. tt) (λ _. tt)
    call_sound c word = tt

  -- Between two pairs of a copy
  module _ (words : (root : ℕ) → ((k : ℕ) → (l.order root).low_of k ≡ k % 2 ^ 64) × ((k : ℕ) → (l.order root).high_of k ≡ k / 2 ^ 64))
      (root j : ℕ) (m : IsMap o v maps q idle) (new : IsNewRegion l ws p.root root) (hid : IsMap (l.order root) (view l ws root) (parts o v) j idle) where
    abbrev o' : Order
    o' = l.order root

    abbrev v' : SlotsView
    v' = view l ws root

    now' : view l p.words root ≡ v'
    now' = same root (length ws) new.region

    abbrev CopySound : Action → Type 0
    CopySound a = IsCopySound l ws p.root root j a

    if_copy : (b : Bool) (a c : Action) → (b ≡ true → CopySound a) → (b ≡ false → CopySound c) → CopySound (cond b a c)
    if_copy true a c x y = x refl
    if_copy false a c x y = y refl

    key_words : (low high k : ℕ) → low ≡ k % 2 ^ 64 → (low ≡ (low + 2 ^ 64 * high) % 2 ^ 64) × (high ≡ (low + 2 ^ 64 * high) / 2 ^ 64)
    key_words low high k e = (omega arith, omega arith)

    -- the key's slot, in the words as they stand
    stood : (s : ℕ) → s < o.slots → v.state s ≡ 1 → Holds o v (key_at l p s) s
    stood s low full = let y = m.keyed s low full in
        let w = key_words ((slots_now l p).low s) ((slots_now l p).high s) y.0 (ap (λ (u : SlotsView). u.low s) now ∙ (y.1.is_low ∙ (words p.root).0 y.0)) in record {
          inside = low;
          full = full;
          is_low = ap (λ (u : SlotsView). u.low s) (sym now) ∙ (w.0 ∙ sym ((words p.root).0 (key_at l p s)));
          is_high = ap (λ (u : SlotsView). u.high s) (sym now) ∙ (w.1 ∙ sym ((words p.root).1 (key_at l p s)));
        }

    copy_sound : (s key : ℕ) (plan : Plan) → IsNext v.state j s → s < o.slots → Says o' v' key plan → Holds o v key s → CopySound (copies_to l p root s key plan)
    copy_sound s key (Empty at) next low x stood = if_copy (nat_le (used (view l p.words root).state o'.slots + 2) o'.slots) (copies s (job l p key ((slots_now l p).value s) at)) no_action
        (λ z. record {
          from = next.from;
          none = next.none;
          stood = stood;
          number = ap (λ (u : SlotsView). u.value s) now;
          planned = plans_empty o' v' (parts o v) s (remaps o' v' (parts o v) j (parts o v) s (λ k. parts_skip o h.region.ok v j s k next.from (let a = low in omega arith) next.none) hid) key ((slots_now l p).value s) at x
              (holes_in o' v' maps q at (subst (λ (u : SlotsView). nat_le (used u.state o'.slots + 2) o'.slots ≡ true) now' z));
        })
        (λ _. tt)
    copy_sound s key (Reuse at) next low x stood = tt
    copy_sound s key (Stand at) next low x stood = tt
    copy_sound s key (Move to from) next low x stood = tt

    copied_sound : (c : Opening) → (j ≤ o.slots) × NoneFull v j o.slots → CopySound (when_copied l p c)
    copied_sound tidying x = x
    copied_sound (setting k n) x = x
    copied_sound (putting k n) x = x
    copied_sound (removing k) x = x
    copied_sound (looking k) x = x
    copied_sound other x = x

    pub to_copy_sound : (c : Opening) (r : Option ℕ) → next_full (slots_now l p).state (o.slots - j) j ≡ r → CopySound (to_copy l p c root j r)
    to_copy_sound c (Some s) e =
        let f = subst (λ (u : SlotsView). next_full u.state (o.slots - j) j ≡ Some s) now e in
        let next = next_is v.state (o.slots - j) j s f in
        let a = next.1 in let b = next.0.from in let low : s < o.slots = omega arith in
        copy_sound s (key_at l p s) (plan_of o' (view l p.words root) (key_at l p s)) next.0 low
        (subst (λ (u : SlotsView). Says o' v' (key_at l p s) (plan_of o' u (key_at l p s))) (sym now') (says o' new.region.ok v' (key_at l p s) (hid.way (key_at l p s)) hid.hole.0 hid.hole.1 hid.hole.2))
        (stood s low next.0.full)
    to_copy_sound c None e = if_copy (nat_le j o.slots) (when_copied l p c) no_action
        (λ y. let le = yes_le j o.slots y in copied_sound c (le, λ s a b. next_none v.state (o.slots - j) j (subst (λ (u : SlotsView). next_full u.state (o.slots - j) j ≡ None) now e) s a (omega arith)))
        (λ _. tt)

-- at every stage
module _ (l : Layout) (words : (root : ℕ) → ((k : ℕ) → (l.order root).low_of k ≡ k % 2 ^ 64) × ((k : ℕ) → (l.order root).high_of k ≡ k / 2 ^ 64)) where
  pub plan_right : (ws : List ℕ) (p : WriterState) (e : Entry) → WriterInvariant l ws p → IsSoundAt l ws p.root (p.maps p.linearized) (action l p e) p.stage
  plan_right ws p e h = go p.stage h.map h.hidden
    where
      go : (g : Stage) → IsMap (l.order p.root) (view l ws p.root) p.maps p.linearized g → IsUnpublished l ws p.root g → IsSoundAt l ws p.root (p.maps p.linearized) (by_stage l p g e) g
      go idle m hid = call_sound l ws p h m (opening_of e.opens) (word_of e.step)
      go (after_rebuild c) m hid = call_sound l ws p h (calm_map (l.order p.root) (view l ws p.root) p.maps p.linearized (after_rebuild c) idle tt tt m) (opening_of c) (word_of e.step)
      go (copying c root j idle) m hid = to_copy_sound l ws p h words root j (calm_map (l.order p.root) (view l ws p.root) p.maps p.linearized (copying c root j idle) idle tt tt m) hid.0 hid.1 (opening_of c) (next_full (slots_now l p).state ((l.order p.root).slots - j) j) refl
      go g m hid = tt
