-- A rebuild as a whole: the region that is taken is free by the account, and can hold all pairs.
use Rattle.std.proofs.Common.{◌≡◌, ℕ, ◌+◌, ◌-◌, ◌^◌, ◌≤◌, ⊎_elim, inl, inr, List, [], ◌∷◌, ◌++◌, append_assoc, length, sym, ap, ◌∙◌, subst, arith}
use Rattle.std.specs.Prelude.{All, drop}
use Rattle.std.specs.FinSet as set
use Rattle.std.proofs.lemmas.List.Elements.{All-nil, All-cons, All-head, All-tail}
use Rattle.ck_words.specs.declared.back.Back.{Back}
use Rattle.ck_words.specs.Buddies.{Arena, with_pieces_out, IsPieceOut, IsFree, AddsPiece}
use Rattle.ck_epoch.specs.declared.item.Retired.{Retired}
use Rattle.ck_epoch.specs.State.{Retirement, TokenState, queue}
use Rattle.ck_reclaim.specs.Pieces.{AreApart}
use Rattle.ck_slots.specs.Counting.{count as how_many}
use Rattle.ck_htplan.specs.Region.{view_of}
use Rattle.ck_htlaw.specs.Layout.{at_of, log_of, region_item, IsTableItem, IsFreeRegion}
use Rattle.ck_htlaw.specs.Known.{IsRoot}
use Rattle.ck_htlaw.specs.Table.{Layout, WriterState}
use Rattle.ck_htwrite.specs.declared.state.HtState.{HtState}
use Rattle.ck_htlaw.proofs.Arena.{item_inside}
use Rattle.ck_arena.specs.Arena.{unreturned}
use Rattle.ck_htwrite.specs.Arena.{region_piece, AddsRegion, IsKept}
use Rattle.ck_htwrite.specs.State.{Reflects}
use Rattle.ck_htwrite.specs.Rebuild.{HoldKeysOnce, CanHoldAll}
use Rattle.ck_words.proofs.Members.{adds as adds_piece}
use Rattle.ck_htwrite.proofs.Openings.{still_of_table}
use Rattle.ck_htwrite.proofs.Taking.{behind, apart_current, apart_items, table_kept_then}

-- of retirements, as of the items
of_queue : (P : Retired → Type 0) (ks : List Retirement) → All P (queue ks) → All (λ (k : Retirement). P k.retired) ks
of_queue P [] h = All-nil (λ (k : Retirement). P k.retired)
of_queue P (k ∷ ks) h = All-cons (λ (j : Retirement). P j.retired) k ks (All-head P k.retired (queue ks) h) (of_queue P ks (All-tail P k.retired (queue ks) h))

-- the region is free by what is pending
pub free_region : (n place current root : ℕ) (t : TokenState) (waiting : List Back) (a : Arena) → IsKept n place current (unreturned t waiting) a → IsRoot n root → IsFree a (region_piece root) → IsFreeRegion n place current root t.pending
free_region n place current root t waiting a kept ok free =
    let P : Retired → Type 0 = λ (k : Retired). IsTableItem n place k.item → AreApart k.item (region_item place root) in
    record {
      piece = ok.piece;
      apart = apart_current n place current root (unreturned t waiting) a kept free;
      unused = of_queue P t.pending (behind P (drop (length t.dispatched - length waiting) (queue t.dispatched)) (queue t.pending) (apart_items n place current root (unreturned t waiting) a kept free));
    }

-- and has room
pub can_hold : (n place root : ℕ) (s z : HtState) (items : List Retired) (a : Arena) → IsKept n place s.root items a → IsRoot n root → IsFree a (region_piece root) → s.keys ≡ how_many (view_of s.words.items).state 1 (2 ^ log_of s.root) → s.keys + 2 ≤ 2 ^ log_of root
    → HoldKeysOnce (view_of s.words.items) (2 ^ log_of s.root) → z ≡ record s { arena = z.arena } → CanHoldAll n z root
can_hold n place root s z items a kept ok free keys fits once is = subst (λ (y : HtState). CanHoldAll n y root) (sym is) record {
  is_root = ok;
  apart = ⊎_elim (λ (l : place + at_of s.root + 2 ^ (log_of s.root + 2) ≤ place + at_of root). inl (omega arith)) (λ (l : place + at_of root + 2 ^ (log_of root + 2) ≤ place + at_of s.root). inr (omega arith))
      (apart_current n place s.root root items a kept free);
  room = omega arith;
  once = once;
}

-- the arena isn't told of
pub with_arena : (n : ℕ) (l : Layout) (p : WriterState) (s z : HtState) → z ≡ record s { arena = z.arena } → Reflects n l p s → Reflects n l p z
with_arena n l p s z is r = let m = r.mirrors in subst (λ (y : HtState). Reflects n l p y) (sym is) record {
  root = r.root;
  mirrors = record { shape = record { is_root = m.shape.is_root; long = m.shape.long; many = m.shape.many; small = m.shape.small; room = m.shape.room; other_room = m.shape.other_room }; states = m.states; pairs = m.pairs; fits = m.fits; counts = m.counts; keys = m.keys; tombstones = m.tombstones };
  bumped = r.bumped;
  hole = r.hole;
}

-- one item more isn't given back
pub unreturned_more : (t u : TokenState) (waiting : List Back) (k : Retired) → queue u.pending ≡ queue t.pending ++ k ∷ [] → u.dispatched ≡ t.dispatched → unreturned u waiting ≡ unreturned t waiting ++ k ∷ []
unreturned_more t u waiting k pending dispatched =
    (λ i. drop (length (dispatched i) - length waiting) (queue (dispatched i)) ++ pending i) ∙ sym (append_assoc (drop (length t.dispatched - length waiting) (queue t.dispatched)) (queue t.pending) (k ∷ []))

-- which is a region of the table
pub adds_region : (n place old : ℕ) (t0 t2 t3 : TokenState) (waiting waiting' : List Back) (k : Retired) → IsRoot n old → k.item ≡ region_item place old → t2.pending ≡ t0.pending → t2.dispatched ≡ t0.dispatched → queue t3.pending ≡ queue t2.pending ++ k ∷ [] → t3.dispatched ≡ t2.dispatched → waiting' ≡ waiting
    → AddsRegion n place (unreturned t0 waiting) (unreturned t3 waiting')
adds_region n place old t0 t2 t3 waiting waiting' k ok item pending dispatched more still same = (
  k,
  subst (IsTableItem n place) (sym item) (item_inside n place old ok.piece),
  ap (unreturned t3) same ∙ (unreturned_more t2 t3 waiting k more still ∙ (λ i. drop (length (dispatched i) - length waiting) (queue (dispatched i)) ++ queue (pending i) ++ k ∷ [])),
)

-- the arena after it
pub kept_after : (n place old root : ℕ) (t0 t2 t3 : TokenState) (waiting waiting' : List Back) (a b : Arena) (k : Retired) → IsKept n place old (unreturned t0 waiting) a → ¬ IsPieceOut a (region_piece root) → b ≡ with_pieces_out a (set.insert a.out (region_piece root)) → k.item ≡ region_item place old
    → t2.pending ≡ t0.pending → t2.dispatched ≡ t0.dispatched → queue t3.pending ≡ queue t2.pending ++ k ∷ [] → t3.dispatched ≡ t2.dispatched → waiting' ≡ waiting → IsKept n place root (unreturned t3 waiting') b
kept_after n place old root t0 t2 t3 waiting waiting' a b k kept new is item pending dispatched more still same =
    let adds : AddsPiece a b (region_piece root) = subst (λ (x : Arena). AddsPiece a x (region_piece root)) (sym is) (adds_piece a (region_piece root)) in
    let list : unreturned t3 waiting' ≡ unreturned t0 waiting ++ k ∷ [] = ap (unreturned t3) same ∙ (unreturned_more t2 t3 waiting k more still
    ∙ (λ i. drop (length (dispatched i) - length waiting) (queue (dispatched i)) ++ queue (pending i) ++ k ∷ [])) in
    subst (λ (items : List Retired). IsKept n place root items b) (sym list) (table_kept_then n place old root (unreturned t0 waiting) a b k item kept new adds (still_of_table n a b (set.insert a.out (region_piece root)) is kept.of_table))

-- where what was retired is as before
pub same_unreturned : (t u : TokenState) (waiting waiting' : List Back) → u.pending ≡ t.pending → u.dispatched ≡ t.dispatched → waiting' ≡ waiting → unreturned u waiting' ≡ unreturned t waiting
same_unreturned t u waiting waiting' pending dispatched same i = drop (length (dispatched i) - length (same i)) (queue (dispatched i)) ++ queue (pending i)
