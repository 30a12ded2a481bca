-- The copy of a region's words has the states of all its slots and the words of the full ones: what of it plans and counts is the same.
use Rattle.std.proofs.Common.{◌≡◌, ◌≢◌, ℕ, zero, suc, ◌+◌, ◌*◌, ◌^◌, ◌<◌, Bool, cond, ◌==◌, ◌&&◌, ne_eqb, List, slice_index, refl, sym, ap, ◌∙◌, subst, arith}
use Rattle.std.proofs.lemmas.Bool.{lt-ltb}
use Rattle.std.specs.Prelude.{Some}
use mathlib.Core.Logic.{dite}
use native.Mathlib.Decide.{ℕ_discrete}
use Rattle.ck_slots.specs.Slots.{Order, IsOrder, SlotsView, Holds}
use Rattle.ck_slots.specs.Keeping.{holds_test}
use Rattle.ck_slots.specs.Counting.{count as how_many, used}
use Rattle.ck_htplan.specs.Planning.{fresh_plan, met_plan, first_tombstone, walk, plan_of}
use Rattle.ck_htplan.specs.Region.{order_of, view_of}
use Rattle.ck_htplan.proofs.Orders.{order_is}
use Rattle.ck_htlaw.specs.declared.client.HtClient.{HtClient}
use Rattle.ck_htlaw.specs.Layout.{log_of, layout}
use Rattle.ck_htlaw.specs.Table.{Layout, WriterState, column, view}
use Rattle.ck_htlaw.specs.Actions.{slots_now, keys_now, tombstones_now, plan_now}
use Rattle.ck_htplan.specs.Deciding.{next_full}
use Rattle.ck_htlaw.specs.Client.{orders_of, hash_of}
use Rattle.ck_htwrite.specs.declared.state.HtState.{HtState}
use Rattle.ck_htwrite.specs.State.{Mirrors, Reflects}

-- of the first n slots all have the same states, and the full ones the same words
pub record Agree (n : ℕ) (v v' : SlotsView) : Type 0 where
  pub state : (s : ℕ) → s < n → v.state s ≡ v'.state s
  pub low : (s : ℕ) → s < n → v.state s ≡ 1 → v.low s ≡ v'.low s
  pub high : (s : ℕ) → s < n → v.state s ≡ 1 → v.high s ≡ v'.high s
  pub value : (s : ℕ) → s < n → v.state s ≡ 1 → v.value s ≡ v'.value s

pub count_agree : (f h : ℕ → ℕ) (x n : ℕ) → ((s : ℕ) → s < n → f s ≡ h s) → how_many f x n ≡ how_many h x n
count_agree f h x zero e = refl
count_agree f h x (suc n) e = let r = count_agree f h x n (λ s l. e s (omega arith)) in let z = e n (omega arith) in λ i. cond (z i == x) (suc (r i)) (r i)

pub used_agree : (f h : ℕ → ℕ) (n : ℕ) → ((s : ℕ) → s < n → f s ≡ h s) → used f n ≡ used h n
used_agree f h zero e = refl
used_agree f h (suc n) e = let r = used_agree f h n (λ s l. e s (omega arith)) in let z = e n (omega arith) in λ i. cond (z i == 0) (r i) (suc (r i))

pub next_agree : (f h : ℕ → ℕ) (n j : ℕ) → ((s : ℕ) → s < j + n → f s ≡ h s) → next_full f n j ≡ next_full h n j
next_agree f h zero j e = refl
next_agree f h (suc n) j e = let r = next_agree f h n (suc j) (λ s l. e s (omega arith)) in let z = e j (omega arith) in λ i. cond (z i == 1) (Some j) (r i)

module _ (o : Order) (v v' : SlotsView) (same : Agree o.slots v v') where
  pub holds_agree : (k s : ℕ) → Holds o v k s → Holds o v' k s
  holds_agree k s h = record {
    inside = h.inside;
    full = sym (same.state s h.inside) ∙ h.full;
    is_low = sym (same.low s h.inside h.full) ∙ h.is_low;
    is_high = sym (same.high s h.inside h.full) ∙ h.is_high;
  }

  pub holds_back : (k s : ℕ) → Holds o v' k s → Holds o v k s
  holds_back k s h = let full : v.state s ≡ 1 = same.state s h.inside ∙ h.full in record {
    inside = h.inside;
    full = full;
    is_low = same.low s h.inside full ∙ h.is_low;
    is_high = same.high s h.inside full ∙ h.is_high;
  }

  test_agree : (k s : ℕ) → s < o.slots → holds_test o v k s ≡ holds_test o v' k s
  test_agree k s few = dite (ℕ_discrete (v.state s) 1)
      (λ (e : v.state s ≡ 1). let a = same.state s few in let b = same.low s few e in let d = same.high s few e in λ i. (a i == 1) && ((b i == o.low_of k) && (d i == o.high_of k)))
      (λ (n : v.state s ≢ 1). ap (λ (z : Bool). z && ((v.low s == o.low_of k) && (v.high s == o.high_of k))) (ne_eqb (v.state s) 1 n)
      ∙ sym (ap (λ (z : Bool). z && ((v'.low s == o.low_of k) && (v'.high s == o.high_of k))) (ne_eqb (v'.state s) 1 (λ e. n (same.state s few ∙ e)))))

  walk_agree : IsOrder o → (k n i tomb : ℕ) → n + i ≡ o.slots → walk o v k n i tomb ≡ walk o v' k n i tomb
  walk_agree ok k zero i tomb sum = refl
  walk_agree ok k (suc n) i tomb sum =
      let s : ℕ = o.probe k i in
      let few : s < o.slots = ok.within k i (omega arith) in
      let e = same.state s few in
      let t = test_agree k s few in
      let later : walk o v k n (suc i) (cond (v.state s == 2) (first_tombstone tomb s) tomb) ≡ walk o v' k n (suc i) (cond (v'.state s == 2) (first_tombstone tomb s) tomb)
      = ap (λ (x : ℕ). walk o v k n (suc i) (cond (x == 2) (first_tombstone tomb s) tomb)) e ∙ walk_agree ok k n (suc i) (cond (v'.state s == 2) (first_tombstone tomb s) tomb) (omega arith) in
      λ z. cond (e z == 0) (fresh_plan tomb s) (cond (t z) (met_plan tomb s) (later z))

  pub plan_agree : IsOrder o → (k : ℕ) → plan_of o v k ≡ plan_of o v' k
  plan_agree ok k = walk_agree ok k o.slots 0 0 (omega arith)

module _ (floor base counters : ℕ) (client : HtClient) where
  abbrev l : Layout
  l = layout floor base counters (orders_of client)

  pub in_column : (ws : List ℕ) (root j i : ℕ) → i < 2 ^ log_of root → slice_index ws (l.word root i j) ≡ column l ws root j i
  in_column ws root j i few = sym (ap (λ (t : Bool). cond t (slice_index ws (l.word root i j)) 0) (lt-ltb i (2 ^ log_of root) few))

  -- the lists have the slots of the region that they name
  pub agree : (ws : List ℕ) (s : HtState) → Mirrors counters l ws s → Agree (2 ^ log_of s.root) (view_of s.words.items) (view l ws s.root)
  agree ws s m = record {
    state = λ i few. m.states i few ∙ in_column ws s.root 0 i few;
    low = λ i few full. m.pairs i 1 few (omega arith) full ∙ in_column ws s.root 1 i few;
    high = λ i few full. m.pairs i 2 few (omega arith) full ∙ in_column ws s.root 2 i few;
    value = λ i few full. m.pairs i 3 few (omega arith) full ∙ in_column ws s.root 3 i few;
  }

  -- those of the writer's present region
  module _ (p : WriterState) (s : HtState) (r : Reflects counters l p s) where
    pub agree_now : Agree (2 ^ log_of s.root) (view_of s.words.items) (slots_now l p)
    agree_now = subst (λ (root : ℕ). Agree (2 ^ log_of s.root) (view_of s.words.items) (view l p.words root)) (sym r.root) (agree p.words s r.mirrors)

    many : 2 ^ log_of p.root ≡ 2 ^ log_of s.root
    many = ap (λ (root : ℕ). 2 ^ log_of root) r.root

    pub keys_are : s.keys ≡ keys_now l p
    keys_are = r.mirrors.keys ∙ (count_agree _ (slots_now l p).state 1 (2 ^ log_of s.root) agree_now.state ∙ ap (how_many (slots_now l p).state 1) (sym many))

    pub tombstones_are : s.tombstones ≡ tombstones_now l p
    tombstones_are = r.mirrors.tombstones ∙ (count_agree _ (slots_now l p).state 2 (2 ^ log_of s.root) agree_now.state ∙ ap (how_many (slots_now l p).state 2) (sym many))

    -- the value of a full slot
    pub value_same : (at : ℕ) → at < 2 ^ log_of s.root → (view_of s.words.items).state at ≡ 1 → slice_index s.words.items (4 * at + 3) ≡ (slots_now l p).value at
    value_same at few full = agree_now.value at few full

    -- the plan on the lists is the one that the account tells of
    pub plan_same : (key : ℕ) → plan_now l p key ≡ plan_of (order_of (log_of s.root) (hash_of client)) (view_of s.words.items) key
    plan_same key = ap (λ (root : ℕ). plan_of (l.order root) (slots_now l p) key) r.root
        ∙ sym (plan_agree (l.order s.root) (view_of s.words.items) (slots_now l p) agree_now (order_is (log_of s.root) (hash_of client) r.mirrors.shape.is_root.piece.some_lines) key)
