use Rattle.std.proofs.Common.{refl}
use Rattle.ck_htwrite.specs.Arena.{region_piece}
use Rattle.ck_ht.proofs.Polled.{has_polled}
use Rattle.ck_ht.proofs.Regions.{goes_home}
use Rattle.ck_ht.proofs.updating.poll_all.Goals as goal

pub poll_all-requires-clause-handler : goal.poll_all-requires-clause-handler
poll_all-requires-clause-handler g c = λ i retires. c.requires.handler i refl

pub poll_all-requires-clause-home : goal.poll_all-requires-clause-home
poll_all-requires-clause-home g c = goes_home

pub poll_all-requires-clause-kept : goal.poll_all-requires-clause-kept
poll_all-requires-clause-kept g c = let r = c.requires.ready in (region_piece c.args.state.now.root, (r.ready.arena.pieces, r.own))

pub returns : goal.returns
returns g c =
    let s = c.args.state.now in let r = c.requires.ready in let p = c.poll_all in let e = p.ensures in
    record { polled = has_polled c.args.domain.now.origin c.args.writer.now p.new.writer s p.new.arena r e.same e.arena (e.kept (region_piece s.root) (r.ready.arena.pieces, r.own)) p.result e.table e.polled }
