use Rattle.std.proofs.Common.{◌≡◌, length}
use Rattle.ck_words.specs.Buddies.{Piece, with_pieces_out}
use Rattle.ck_epoch.specs.State.{state}
use Rattle.ck_arena.specs.Arena.{unreturned, AreBacks, KeepsAll}
use Rattle.ck_arena.proofs.returning.give_back.Given as goal

abbrev pub invariant-loop-back : goal.invariant-loop-back
invariant-loop-back g l = let o = l.domain.origin in let w = l.initial.writer in record {
  made : l.writer ≡ record w { waiting = l.writer.waiting };
  backs : AreBacks (g.C.Client.meaning.home o.config.client) (state w.token) l.writer.waiting;
  arena : l.arena ≡ with_pieces_out l.initial.arena l.arena.out;
  kept : (present : Piece) → KeepsAll (g.P.Pieces.is_item o) (g.P.Pieces.place o) present (unreturned (state w.token) w.waiting) l.initial.arena → KeepsAll (g.P.Pieces.is_item o) (g.P.Pieces.place o) present (unreturned (state w.token) l.writer.waiting) l.arena;
}

abbrev pub decreases-loop-back : goal.decreases-loop-back
decreases-loop-back g l = length l.writer.waiting
