-- The writer's lists after a store in a slot, and after a bump.
use Rattle.std.proofs.Common.{◌≡◌, ◌≢◌, ℕ, zero, suc, ◌+◌, ◌-◌, ◌*◌, ◌/◌, ◌^◌, ◌<◌, ◌≤◌, List, length, set, get_or, get_or-set_same, get_or-set_other, sym, ap, ◌∙◌, arith}
use Rattle.std.proofs.lemmas.List.{get_or_read}
use Rattle.std.proofs.lemmas.Nat.{pow_pos}
use Rattle.std.proofs.Math.Nat.{pow-le-pow_right}
use mathlib.Core.Logic.{dite}
use native.Mathlib.Decide.{ℕ_discrete}
use Rattle.ck_slots.specs.Counting.{count as how_many}
use Rattle.ck_slots.proofs.Counts.{count_more, count_kept, count_here, count_else}
use Rattle.ck_htplan.specs.Region.{view_of}
use Rattle.ck_htplan.proofs.Orders.{four}
use Rattle.ck_htlaw.specs.Layout.{table_words, log_of}
use Rattle.ck_htwrite.specs.declared.state.HtState.{HtState}
use Rattle.ck_htwrite.specs.State.{IsShaped, counter_at, next_count}

-- no more than all
pub count_most : (f : ℕ → ℕ) (x n : ℕ) → how_many f x n ≤ n
count_most f x zero = omega arith
count_most f x (suc n) = let r = count_most f x n in dite (ℕ_discrete (f n) x) (λ (e : f n ≡ x). let h = count_here f x n e in omega arith) (λ (e : f n ≢ x). let h = count_else f x n e in omega arith)

-- one more of either kind fits a word
pub slots_fit : (s : HtState) (x count n : ℕ) → n ≡ count → count ≡ how_many (view_of s.words.items).state x (2 ^ log_of s.root) → log_of s.root ≤ 19 → n + 1 < 2 ^ 64
slots_fit s x count n e is few = let m = count_most (view_of s.words.items).state x (2 ^ log_of s.root) in let p : 2 ^ log_of s.root ≤ 2 ^ 19 = pow-le-pow_right (let two : 0 < 2 = omega arith in two) few in omega arith

-- the states after one word of a slot is another
module _ (items : List ℕ) (at j value n : ℕ) (few : at < n) (long : length items ≡ 4 * n) (low : j < 4) where
  abbrev f : ℕ → ℕ
  f = (view_of items).state

  abbrev h : ℕ → ℕ
  h = (view_of (set items (4 * at + j) value)).state

  others : (t : ℕ) → t ≢ at → h t ≡ f t
  others t d = get_or-set_other items (4 * at + j) (4 * t + 0) value 0 (λ e. d (omega arith))

  pub same_states : 1 ≤ j → h ≡ f
  same_states some = λ z t. get_or-set_other items (4 * at + j) (4 * t + 0) value 0 (λ e. absurd (omega arith)) z

  here : j ≡ 0 → h at ≡ value
  here e = ap (λ (k : ℕ). get_or (set items (4 * at + j) value) k 0) (let z : 4 * at + 0 ≡ 4 * at + j = omega arith in z) ∙ get_or-set_same items (4 * at + j) value 0 (omega arith)

  pub one_more : j ≡ 0 → f at ≢ value → how_many h value n ≡ suc (how_many f value n)
  one_more e d = count_more f h at value n others d (here e) few

  pub one_less : j ≡ 0 → (x : ℕ) → f at ≡ x → x ≢ value → how_many f x n ≡ suc (how_many h x n)
  one_less e x is d = count_more h f at x n (λ t u. sym (others t u)) (λ z. d (sym z ∙ here e)) is few

  pub as_many : j ≡ 0 → (x : ℕ) → f at ≢ x → x ≢ value → how_many h x n ≡ how_many f x n
  as_many e x a b = count_kept f h at x n others a (λ z. b (sym z ∙ here e))

-- what the code computes, for lists of the right shape
module _ (n : ℕ) (s : HtState) (m : IsShaped n s) where
  pub item_in : (at j : ℕ) → at < 2 ^ log_of s.root → j < 4 → 4 * at + j < length s.words.items
  item_in at j few low = let f = four (log_of s.root) in let e = m.long in omega arith

  pub word_in : (at j : ℕ) → at < 2 ^ log_of s.root → j < 4 → s.root / 32 + (4 * at + j) < table_words n
  word_in at j few low = let f = four (log_of s.root) in let a = m.is_root.piece.high in omega arith

  pub counter_low : counter_at n s.root < n
  counter_low = let a = m.is_root.piece.low in let b = m.is_root.piece.high in let p = pow_pos (log_of s.root) in omega arith

  pub counter_here : counter_at n s.root < length s.counters.items
  counter_here = let a = counter_low in let e = m.many in omega arith

  -- the counter's place and the number that it gets, as the code computes them
  pub bump_is : (len x : ℕ) → len ≡ length s.counters.items → x ≡ get_or s.counters.items ((s.root / 32 - 1 - len) / 32) x → ((s.root / 32 - 1 - len) / 32 ≡ counter_at n s.root) × (x + 1 ≡ next_count n s)
  bump_is len x e is =
      let at : (s.root / 32 - 1 - len) / 32 ≡ counter_at n s.root = (let d = m.many in omega arith) in
      let found : x ≡ get_or s.counters.items (counter_at n s.root) x = is ∙ ap (λ (i : ℕ). get_or s.counters.items i x) at in
      (at, ap (λ (y : ℕ). y + 1) (get_or_read s.counters.items (counter_at n s.root) x counter_here found 0))

-- the words, as the code computes them
pub word_at : (base root at j : ℕ) → base + (root / 32 + (4 * at + j)) ≡ base + root / 32 + 4 * at + j
word_at base root at j = omega arith

pub counter_word : (base n root : ℕ) → base + (1 + (root / 32 - (1 + n)) / 32) ≡ base + 1 + (root / 32 - (1 + n)) / 32
counter_word base n root = omega arith
