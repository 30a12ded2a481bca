-- A region is built: from the first step of a rebuild until all pairs are copied.
use Rattle.std.proofs.Common.{◌≡◌, ℕ, suc, ◌+◌, ◌-◌, ◌*◌, ◌^◌, ◌<◌, ◌≤◌, le_trans, ⊎_elim, List, map, length, set, length-set, get_or, get_or-set_same, sym, subst, arith}
use Rattle.std.specs.Prelude.{min, replicate, slice_index, vec_capacity}
use Rattle.std.proofs.lemmas.Bool.{cases_lt}
use Rattle.std.proofs.lemmas.List.{get_or-replicate, get_or_past, length-replicate}
use Rattle.std.proofs.lemmas.Nat.{pow_pos}
use Rattle.std.proofs.Math.Nat.{pow-le-pow_right}
use Rattle.ck_run.specs.Run.{further}
use Rattle.ck_run.specs.Machine.{state_after}
use Rattle.ck_history.specs.declared.log.LogEntry.{LogEntry}
use Rattle.ck_htlaw.specs.declared.client.HtClient.{HtClient}
use Rattle.ck_htlaw.specs.Stages.{idle}
use Rattle.ck_htlaw.specs.Calls.{opening_of}
use Rattle.ck_htlaw.specs.Layout.{at_of, log_of, counters_of, layout}
use Rattle.ck_htlaw.specs.Known.{IsRoot}
use Rattle.ck_htlaw.specs.Table.{Layout, WriterState}
use Rattle.ck_htlaw.specs.Actions.{answer_to}
use Rattle.ck_htlaw.specs.Client.{Answers, answers_next, orders_of}
use Rattle.ck_htwrite.specs.declared.state.HtState.{HtState}
use Rattle.ck_htwrite.specs.State.{Reflects, most_words}
use Rattle.ck_htwrite.specs.Writes.{WriterAt}
use Rattle.ck_htwrite.specs.Rebuild.{BeginsRebuildAt, clear_steps, CanHoldAll, CopiesAt}
use Rattle.ck_htwrite.proofs.Pairs.{lists_still}
use Rattle.ck_htwrite.proofs.Begun.{e0, begun, begin_at, cleared_at, cleared_words, at_clear, cleared_states, lists_kept, copying_none, eight_slots}

-- a list of zeros
pub zero_at : (n i : ℕ) → slice_index (replicate n 0) i ≡ 0
zero_at n i = ⊎_elim (λ (l : i < n). get_or-replicate n i 0 0 l) (λ (past : n ≤ i). get_or_past (replicate n 0) i 0 (let long = length-replicate n (let z : ℕ = 0 in z) in omega arith)) (cases_lt i n)

-- the words of a region have room
pub fits_room : (n root : ℕ) → IsRoot n root → 4 * 2 ^ log_of root ≤ most_words n
fits_room n root ok = let a = ok.piece.low in let b = ok.piece.high in let two : 0 < 2 = omega arith in let p : 2 ^ log_of root ≤ 2 ^ 19 = pow-le-pow_right two ok.few in
    let c : 4 * 2 ^ log_of root ≤ 32 * n = omega arith in let d : 4 * 2 ^ log_of root ≤ 2097152 = omega arith in both (4 * 2 ^ log_of root) (32 * n) c d
  where
    both : (x y : ℕ) → x ≤ y → x ≤ 2097152 → x ≤ min y 2097152
    both x y a b = omega arith

-- the other copy isn't told of
pub with_spare : (n : ℕ) (l : Layout) (p : WriterState) (s z : HtState) → vec_capacity s.spare ≤ vec_capacity z.spare → Reflects n l p s → Reflects n l p (record s { spare = z.spare })
with_spare n l p s z more r = let m = r.mirrors in let a = m.shape.other_room in record {
  root = r.root;
  mirrors = record { shape = record { is_root = m.shape.is_root; long = m.shape.long; many = m.shape.many; small = m.shape.small; room = m.shape.room; other_room = le_trans a more }; states = m.states; pairs = m.pairs; fits = m.fits; counts = m.counts; keys = m.keys; tombstones = m.tombstones };
  bumped = r.bumped;
  hole = r.hole;
}

module _ (floor base : ℕ) (client : HtClient) where
  abbrev n : ℕ
  n = counters_of client

  abbrev l : Layout
  l = layout floor base n (orders_of client)

  module _ (root : ℕ) (p : WriterState) (s : HtState) (can : CanHoldAll n s root) (r : Reflects n l p s) (idles : p.stage ≡ idle) (opens : List ℕ) (begins : BeginsRebuildAt l p opens root) where
    abbrev N : ℕ
    N = 2 ^ log_of root

    abbrev ok : IsRoot n root
    ok = can.is_root

    abbrev words1 : List ℕ
    words1 = set p.words (l.word root 0 0) 0

    many : suc (N - 2) ≡ N - 1
    many = let a = eight_slots (log_of root) ok.piece.some_lines in omega arith

    lists1 : Reflects n l (record p { words = words1 }) s
    lists1 = lists_still floor base client p s root can p.words r 0 0 0 (pow_pos (log_of root)) (omega arith)

    inside : base + at_of root + 4 * N ≤ length words1
    inside = let a = ok.piece.high in let b = r.mirrors.fits in let e = length-set p.words (l.word root 0 0) 0 in omega arith

    zeros : (t : ℕ) → t < N → get_or (cleared_words floor base client root ok words1 1 (N - 1)) (l.word root t 0) 0 ≡ 0
    zeros t low = let some = pow_pos (log_of root) in cleared_states floor base client root ok (N - 1) 1 words1 (omega arith) inside
        (λ k lk. let z : 0 ≡ k = omega arith in subst (λ (m : ℕ). get_or words1 (l.word root m 0) 0 ≡ 0) z (get_or-set_same p.words (l.word root 0 0) 0 0 (let a = ok.piece.high in let b = r.mirrors.fits in omega arith)))
        t (omega arith)

    module _ (a0 a1 a2 : Answers) (due : LogEntry ℕ) (told : List (LogEntry ℕ)) (at0 : WriterAt a0 p due told) (is1 : a1 ≡ answers_next l a0 (e0 floor base client root ok p idles opens begins)) where
      pub begun_at : WriterAt a1 (begun floor base client root ok p idles opens begins) (answer_to l p (opening_of opens)) told
      begun_at = subst (λ (a : Answers). WriterAt a (begun floor base client root ok p idles opens begins) (answer_to l p (opening_of opens)) told) (sym is1) (begin_at floor base client root ok p idles opens begins a0 due told at0)

      abbrev At2 : ℕ → Type 0
      At2 m = WriterAt (state_after (answers_next l) a1 (map further (clear_steps l root 1 m))) (cleared_at floor base client root ok p opens (cleared_words floor base client root ok words1 1 m)) (answer_to l p (opening_of opens)) told

      at2 : At2 (N - 1)
      at2 = subst At2 many (at_clear floor base client root ok p opens (N - 2) 1 words1 (let a = eight_slots (log_of root) ok.piece.some_lines in omega arith) a1 (answer_to l p (opening_of opens)) told begun_at)

      -- nothing is copied yet
      pub copies_start : a2 ≡ state_after (answers_next l) a1 (map further (clear_steps l root 1 (N - 1))) → length s.spare.items ≡ 4 * N → ((i : ℕ) → slice_index s.spare.items i ≡ 0) → CopiesAt n l a2 p opens (answer_to l p (opening_of opens)) told s root 0
      copies_start is2 long empty = record {
        words = cleared_words floor base client root ok words1 1 (N - 1);
        next = 0;
        at = subst (λ (a : Answers). WriterAt a (cleared_at floor base client root ok p opens (cleared_words floor base client root ok words1 1 (N - 1))) (answer_to l p (opening_of opens)) told) (sym is2) at2;
        is_copying = copying_none floor base client root ok p s can (cleared_words floor base client root ok words1 1 (N - 1)) (lists_kept floor base client root ok p s can (N - 1) 1 words1 (let some = pow_pos (log_of root) in omega arith) lists1) long (λ t. empty (4 * t + 0)) zeros;
      }
