-- What is known when a ring is closed.
use Rattle.std.proofs.Common.{◌≡◌, ℕ, zero, suc, ◌+◌, ◌-◌, ◌<◌, ◌≤◌, List, length, get_or, sym, ap, ◌∙◌, subst, lt_of_not-le, All, arith}
use mathlib.Core.Option.{some, some-ne-none}
use mathlib.Core.Logic.{dite}
use native.Mathlib.Decide.{dec_le}
use lib.ListN.{get_elem?}
use Rattle.ck_run.specs.declared.account.Entry.{Entry}
use Rattle.ck_run.specs.declared.account.View.{View}
use Rattle.ck_run.specs.Run.{replay, account}
use Rattle.ck_run.specs.Rule.{IsClosed}
use Rattle.ck_run.specs.Tokens.{Table, table, did, number, origin}
use Rattle.ck_run.specs.Machine.{follows_of}
use Rattle.ck_run.specs.Ends.{AreTied, joined_all}
use Rattle.ck_run.proofs.Lists.{all_at, All-weaker, All-both}
use Rattle.ck_run.proofs.Ends.{each_at, tied_same, are_closed}
use Rattle.ck_ring.specs.State.{Origin, Token, TokenState, start, ring, state, state_at, size_of}
use Rattle.ck_ring.specs.Ring.{TookPosition, Ascends, Rises, IsRingOf}
use Rattle.ck_ring.specs.Order.{IsRingOrder}
use Rattle.ck_ring.specs.Ends.{IsClosedRing, AreAll, AreNumberedFrom, IsClosedInOrder}
use Rattle.ck_ring.proofs.Moments.{ring_after}

-- the tokens that were taken in are those of the consumers
pub closed_ring : (R : Token → Token → Type 0) (p : Token) (cs ts : List Token) (w : Table (Unit {0})) (v : View (Unit {0})) (words : List ℕ) → ((x y : Token) → R x y → y ≡ x) → AreTied R cs ts → v ≡ joined_all p.view ts
    → table p ≡ w → All (λ (c : Token). table c ≡ w) cs → IsClosed (follows_of ring) v words → IsClosedRing p cs words
closed_ring R p cs ts w v words same tied e of all closed =
    let view : v ≡ joined_all p.view cs = e ∙ ap (joined_all p.view) (tied_same R cs ts same tied) in
    let c = are_closed (follows_of ring) p.view cs words (subst (λ (x : View (Unit {0})). IsClosed (follows_of ring) x words) view closed) in
    record {
      run = c.run;
      is_run = c.is_run;
      leaves = c.leaves;
      producer = c.mine.0;
      consumers = All-both (λ (d : Token). origin d ≡ origin p) (λ (d : Token). account (number d) c.run ≡ did d) cs
          (All-weaker (λ (d : Token). table d ≡ w) (λ (d : Token). origin d ≡ origin p) cs (λ d h. ap (λ (x : Table (Unit {0})). x.origin) (h ∙ sym of)) all) c.theirs;
    }

-- consumers in their order are all
pub all_numbered : (p : Token) (cs : List Token) → AreNumberedFrom 1 cs → (origin p).tokens ≡ length cs + 1 → AreAll p cs
all_numbered p cs h count n pos low = let r = each_at (λ (k : ℕ) (c : Token). number c ≡ k) 1 cs (n - 1) h (omega arith) in (n - 1, r.0, r.1, r.2 ∙ omega arith)

-- ring order, from what holds of a ring
pub in_ring_order : (size : ℕ) (words : List ℕ) (at : ℕ → TokenState) → IsRingOf size words at → IsRingOrder size words (at 0).sent at
in_ring_order size words at r = record {
  tail = r.tail;
  head = r.head;
  room = let p = r.producer in let a = p.room in let b = p.seen in let c = r.tail in omega arith;
  checked = let p = r.producer in let a = p.room in let c = r.tail in omega arith;
  seen_last = r.producer.seen;
  bounded = let p = r.producer in let a = p.counted in let b = p.bounded in let c = r.tail in omega arith;
  seen = λ n. seen_by n;
  left = r.items;
  placed = r.producer.placed;
  aims = λ n b. (r.consumer n b).at;
  taken = r.taken;
  once = r.once;
  values = λ n k i x b e. let q = r.consumer n b in let v = q.took k (i, x) e in let s = q.seen in let l = v.0 in (omega arith, v.1);
  ascends = λ n b. (r.consumer n b).ascends;
  rises = λ n. rises_in n;
}
  where
    seen_by : (n k x : ℕ) → get_elem? (at n).heads k ≡ some x → x ≤ get_or words 0 0
    seen_by zero k x e = let p = r.producer in let h = p.heads k x e in let s = p.seen in omega arith
    seen_by (suc n) k x e = let q = r.consumer (suc n) (omega arith) in let h = q.heads k x e in let s = q.seen in omega arith

    rises_in : (n : ℕ) → Rises (at n).heads
    rises_in zero = r.producer.rises
    rises_in (suc n) = (r.consumer (suc n) (omega arith)).rises

none_took : (n i : ℕ) → TookPosition (start n) i → ⊥
none_took zero i t = some-ne-none (i, t.1) (sym t.2)
none_took (suc n) i t = some-ne-none (i, t.1) (sym t.2)

-- what is served
pub served : (p : Token) (cs : List Token) (words : List ℕ) → number p ≡ 0 → All (λ (c : Token). 0 < number c) cs → IsClosedRing p cs words → AreAll p cs → IsClosedInOrder p cs words
served p cs words first positive closed all =
    let o = origin p in
    let at : ℕ → TokenState = λ n. state_at o n (account n closed.run) in
    let r : IsRingOrder (size_of o) words (at 0).sent at = subst (λ (ws : List ℕ). IsRingOrder (size_of o) ws (at 0).sent at) closed.leaves
    (in_ring_order (size_of o) (replay o.words closed.run) at (ring_after o closed.run closed.is_run)) in
    let same_p : at 0 ≡ state p = ap at (sym first) ∙ ap (state_at o (number p)) closed.producer in
    let same : (k : ℕ) (c : Token) → get_elem? cs k ≡ some c → at (number c) ≡ state c = λ k c e.
    let h = all_at (λ (d : Token). (origin d ≡ o) × (account (number d) closed.run ≡ did d)) cs k c closed.consumers e in
    ap (state_at o (number c)) h.1 ∙ ap (λ (x : Origin). state_at x (number c) (did c)) (sym h.0) in
    let pos : (k : ℕ) (c : Token) → get_elem? cs k ≡ some c → 0 < number c = λ k c e. all_at (λ (d : Token). 0 < number d) cs k c positive e in
    record {
      tail = r.tail ∙ ap (λ (h : TokenState). length h.sent) same_p;
      head = subst (λ (h : TokenState). get_or words 0 0 ≤ length h.sent) same_p r.head;
      left = λ i x low e. r.left i x low (subst (λ (h : TokenState). get_elem? h.sent i ≡ some x) (sym same_p) e);
      taken = λ i b. let t = r.taken i b in
          dite (dec_le o.tokens t.0)
          (λ (past : o.tokens ≤ t.0). absurd (none_took t.0 i (subst (λ (es : List Entry). TookPosition (state_at o t.0 es) i) (closed.is_run.none t.0 past) t.2)))
          (λ (low : ¬ (o.tokens ≤ t.0)). let g = all t.0 t.1 (lt_of_not-le low) in
          (g.0, g.1, g.2, subst (λ (h : TokenState). TookPosition h i) (subst (λ (n : ℕ). at n ≡ state g.1) g.3 (same g.0 g.1 g.2)) t.2));
      once = λ j k i c d ec ed tc td. r.once (number c) (number d) i (pos j c ec) (pos k d ed) (subst (λ (h : TokenState). TookPosition h i) (sym (same j c ec)) tc) (subst (λ (h : TokenState). TookPosition h i) (sym (same k d ed)) td);
      values = λ k j i x c ec e.
          let v = r.values (number c) j i x (pos k c ec) (subst (λ (h : TokenState). get_elem? h.took j ≡ some (i, x)) (sym (same k c ec)) e) in
          (v.0, subst (λ (h : TokenState). get_elem? h.sent i ≡ some x) same_p v.1);
      ascends = λ k c ec. subst (λ (h : TokenState). Ascends h.took) (same k c ec) (r.ascends (number c) (pos k c ec));
      rises = λ k c ec. subst (λ (h : TokenState). Rises h.heads) (same k c ec) (r.rises (number c));
    }
