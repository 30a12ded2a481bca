use Rattle.ck_epoch.specs.State.{queue, state}
use Rattle.ck_epoch.specs.Calls.{dispatched_items, pending_after}
use Rattle.ck_arena.proofs.Backs.{after_dispatch}
use Rattle.ck_arena.proofs.Giving.{polled}
use Rattle.ck_arena.proofs.returning.poll_all.Goals as goal

pub give_back-requires-clause-kept : goal.give_back-requires-clause-kept
give_back-requires-clause-kept g c =
    let o = c.args.domain.now.origin in let w = c.args.writer.now in let p = c.poll_from-epoch in let e = p.ensures in let n = (state w.token).epoch in let xs = queue (state w.token).pending in let kept = c.requires.kept in (
      kept.0,
      after_dispatch (g.C.Client.meaning.home o.config.client) (g.P.Pieces.is_item o) (g.P.Pieces.place o) kept.0 (state w.token) (state p.new.writer.token) (dispatched_items n p.result.1 xs) (pending_after n p.result.1 xs) w.waiting p.new.writer.waiting c.args.arena.now
          c.requires.given e.waiting e.dispatched e.pending (polled n p.result.1 xs) kept.1,
    )

pub returns-clause-kept : goal.returns-clause-kept
returns-clause-kept g c present kept =
    let o = c.args.domain.now.origin in let w = c.args.writer.now in let p = c.poll_from-epoch in let e = p.ensures in let n = (state w.token).epoch in let xs = queue (state w.token).pending in
    c.give_back.ensures.kept present (after_dispatch (g.C.Client.meaning.home o.config.client) (g.P.Pieces.is_item o) (g.P.Pieces.place o) present (state w.token) (state p.new.writer.token) (dispatched_items n p.result.1 xs) (pending_after n p.result.1 xs) w.waiting p.new.writer.waiting c.args.arena.now
    c.requires.given e.waiting e.dispatched e.pending (polled n p.result.1 xs) kept)
