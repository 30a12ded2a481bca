use Rattle.ck_array.specs.Writes.{region_piece}
use Rattle.ck_array.proofs.Polled.{goes_home, has_polled}
use Rattle.ck_array.proofs.editing.poll_all.Goals as goal

pub poll_all-requires-clause-home : goal.poll_all-requires-clause-home
poll_all-requires-clause-home g c = goes_home c.args.domain.now.origin

pub poll_all-requires-clause-kept : goal.poll_all-requires-clause-kept
poll_all-requires-clause-kept g c = let r = c.requires.ready in (region_piece c.args.state.now.region, (r.ready.kept, r.own))

pub returns : goal.returns
returns g c =
    let o = c.args.domain.now.origin in let w = c.args.writer.now in let s = c.args.state.now in let r = c.requires.ready in let p = c.poll_all in let e = p.ensures in
    record { polled = has_polled o w p.new.writer s p.new.arena r e.same e.arena (e.kept (region_piece s.region) (r.ready.kept, r.own)) p.result e.table e.polled }
