-- The regions of a table, as pieces of its arena.
use Rattle.std.proofs.Common.{◌≡◌, ℕ, ◌+◌, ◌-◌, ◌*◌, ◌^◌, ◌<◌, ◌≤◌, le_refl, ⊎_elim, List, [], length, sym, ap, ◌∙◌, pow-add, arith}
use Rattle.std.proofs.lemmas.Bool.{cases_lt}
use Rattle.std.proofs.lemmas.Nat.{pow_pos}
use Rattle.std.proofs.Math.Nat.{pow-le-pow_right}
use Rattle.ck_words.specs.Buddies.{Arena, Piece, piece, IsPieceOut, ArePiecesApart}
use Rattle.ck_epoch.specs.declared.item.Retired.{Retired}
use Rattle.ck_arena.specs.Arena.{GoHome, HasNoneFree}
use Rattle.ck_arena.proofs.Few.{few_out}
use Rattle.ck_arena.proofs.Ranges.{in_use, one_free}
use Rattle.ck_htlaw.specs.Client.{home_of}
use Rattle.ck_htlaw.specs.Layout.{arena, arena_words, log_of, IsTableItem}
use Rattle.ck_htwrite.specs.Arena.{region_piece, AreTableItems, IsArenaOfTable, IsKept}
use Rattle.ck_htwrite.proofs.Taking.{log_le}
use Rattle.ck_ht.specs.Updating.{AreAllInUse}

-- each item goes back as its own piece
pub goes_home : GoHome home_of 0
goes_home k = ap (λ (a : ℕ). piece a k.item.log) (let z : k.item.at ≡ k.item.at - 0 = omega arith in z)

module _ (n root : ℕ) (a : Arena) (apart : ArePiecesApart a) where
  -- no more regions are out than the arena has pieces of 32 words
  pub few_regions : (items : List Retired) → AreTableItems n 0 items → IsKept n 0 root items a → length items + 1 ≤ n
  few_regions items own kept =
      let few = few_out (IsTableItem n 0) 0 (region_piece root) a apart items own kept.pieces in
      let long = kept.of_table.long in let some = pow_pos a.log_len in
      let least : 5 ≤ a.log_len = log_le 5 a.log_len (omega arith) in
      let split : 2 ^ a.log_len ≡ 2 ^ (a.log_len - 5) * 2 ^ 5 = ap (λ (k : ℕ). 2 ^ k) (let z : a.log_len ≡ a.log_len - 5 + 5 = omega arith in z) ∙ pow-add 2 (a.log_len - 5) 5 in
      let many : 2 ^ (a.log_len - a.log_min) ≡ 2 ^ (a.log_len - 5) = ap (λ (k : ℕ). 2 ^ (a.log_len - k)) kept.of_table.log_min in
      omega arith

  -- with nothing but the present region out, and room for two ranges of a length that is not less than its own, one is free
  pub one_region_free : (log : ℕ) → IsKept n 0 root [] a → log_of root + 2 ≤ log → 2 * 2 ^ log ≤ arena_words n → HasNoneFree a log → ⊥
  one_region_free log kept le two none =
      let long = kept.of_table.long in let twice = pow-add 2 log 1 in
      let more = log_le (log + 1) a.log_len (omega arith) in let less : log < a.log_len = omega arith in
      one_free (IsTableItem n 0) 0 (region_piece root) a log log apart kept.pieces (le_refl log) le less none

  -- where none is free each range has a word of the present region or of one that isn't given back
  pub all_in_use : (items : List Retired) (log : ℕ) → IsKept n 0 root items a → HasNoneFree a log → AreAllInUse n root items log
  all_in_use items log kept none = in_use (IsTableItem n 0) 0 (region_piece root) a (arena n) (arena_words n) items log kept.of_table.first kept.of_table.long kept.pieces none

  -- a region beside which another piece is out has at most half of the arena
  pub half_beside : (q : Piece) → IsArenaOfTable n a → IsPieceOut a (region_piece root) → IsPieceOut a q → (q ≡ region_piece root → ⊥) → 2 * 2 ^ (log_of root + 2) ≤ arena_words n
  half_beside q of_table present out other =
      let p = region_piece root in
      let x = apart.placed p present in let y = apart.placed q out in let long = of_table.long in
      ⊎_elim
      (λ (l : log_of root + 2 < a.log_len).
      let twice = pow-add 2 (log_of root + 2) 1 in let whole = pow-le-pow_right {n = 2} (omega arith) {i = log_of root + 2 + 1} {j = a.log_len} (omega arith) in omega arith)
      (λ (l : a.log_len ≤ log_of root + 2). absurd (
      let whole : 2 ^ (log_of root + 2) ≡ 2 ^ a.log_len = ap (λ (k : ℕ). 2 ^ k) (let le = x.1.0 in let z : log_of root + 2 ≡ a.log_len = omega arith in z) in
      let in_x = x.1.1 in let in_y = y.1.1 in let b : q.at ≡ a.first + in_y.0 * 2 ^ q.log = in_y.1.0 in let some = pow_pos q.log in
      other (sym (apart.one q.at p q present out (omega arith, omega arith) (omega arith, omega arith)))))
      (cases_lt (log_of root + 2) a.log_len)
