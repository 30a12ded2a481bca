use Rattle.std.proofs.Common.{[], append-nil, sym, ap, subst}
use Rattle.std.specs.List.Sorted.{IsPermutation}
use Rattle.ck_epoch.specs.Lists.{by_list}
use Rattle.ck_epoch.specs.State.{queue, state}
use Rattle.ck_arena.proofs.Backs.{after_dispatch}
use Rattle.ck_arena.proofs.Giving.{listed}
use Rattle.ck_arena.proofs.returning.give_all.Goals as goal

pub give_back-requires-clause-kept : goal.give_back-requires-clause-kept
give_back-requires-clause-kept g c =
    let o = c.args.domain.now.origin in let w = c.args.writer.now in let v = c.barrier-retired.new.writer in let e = c.barrier-retired.ensures in let xs = queue (state w.token).pending in let kept = c.requires.kept in (
      kept.0,
      after_dispatch (g.C.Client.meaning.home o.config.client) (g.P.Pieces.is_item o) (g.P.Pieces.place o) kept.0 (state w.token) (state v.token) (by_list xs) [] w.waiting v.waiting c.args.arena.now
          c.requires.given e.waiting e.dispatched (ap queue e.pending) (subst (IsPermutation xs) (sym (append-nil (by_list xs))) (listed xs)) kept.1,
    )

pub returns-clause-kept : goal.returns-clause-kept
returns-clause-kept g c present kept =
    let o = c.args.domain.now.origin in let w = c.args.writer.now in let v = c.barrier-retired.new.writer in let e = c.barrier-retired.ensures in let xs = queue (state w.token).pending in
    c.give_back.ensures.kept present (after_dispatch (g.C.Client.meaning.home o.config.client) (g.P.Pieces.is_item o) (g.P.Pieces.place o) present (state w.token) (state v.token) (by_list xs) [] w.waiting v.waiting c.args.arena.now
    c.requires.given e.waiting e.dispatched (ap queue e.pending) (subst (IsPermutation xs) (sym (append-nil (by_list xs))) (listed xs)) kept)
