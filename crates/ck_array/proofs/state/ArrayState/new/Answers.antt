use Rattle.std.proofs.Common.{◌≡◌, ⊎_elim, true≢false, sym, ap, ◌∙◌}
use Rattle.std.specs.FinSet as set
use Rattle.ck_words.specs.Buddies.{Piece, piece, piece_cmp, IsPieceOut}
use Rattle.ck_array.proofs.Opened.{one_out}
use Rattle.ck_array.proofs.state.ArrayState.new.Goals as goal

pub returns-clause-kept : goal.returns-clause-kept
returns-clause-kept c place = one_out place (piece c.in-Some.at 3) c.take.new.self c.in-Some.ensures.is_out alone
  where
    alone : (p : Piece) → IsPieceOut c.take.new.self p → p ≡ piece c.in-Some.at 3
    alone p out = ⊎_elim (λ e. e) (λ (old : IsPieceOut c.in_ok-arena.arena p). absurd (true≢false (sym old ∙ (ap (λ a. set.contains a.out p) c.in_ok-arena.ensures ∙ set.contains-empty piece_cmp p)))) ((c.in-Some.ensures.adds p).0 out)
