use Rattle.std.proofs.Common.{arith, ◌∙◌, sym, map}
use Rattle.std.proofs.lemmas.List.{length-map}
use Rattle.ck_script.specs.Script.{said_of}
use Rattle.ck_script.proofs.Checking.{query_file_next}
use Rattle.ck_script.proofs.Shorts.{within_first, within_next, beyond_none, beyond_some, no_hold_none_beyond}
use Rattle.ck_script.proofs.check.find_hold.Goals as goal

pub returns-then-not-has_hold : goal.returns-then-not-has_hold
returns-then-not-has_hold g c = sym (no_hold_none_beyond (map said_of (map g.F.LineList.items c.args.asks.now)) (g.U.LineList.items c.args.ups.now) (sym c.has_hold.ensures ∙ c.if-not-has_hold.true))

pub loop-i-init : goal.loop-i-init
loop-i-init g c = record {
  first = within_first _ _ _ (g.U.LineList.items c.args.ups.now) (simp length-map) c.first_without_file-end.ensures.first;
  within = c.first_without_file-end.ensures.within;
}

-- one more file
pub loop-i-preserved : goal.loop-i-preserved
loop-i-preserved g c =
    let here = query_file_next g.F.LineList.items c.args.asks.now c.loop-i.i c.index-asks-i.result c.loop-i-test.true c.index-asks-i.is in
    record {
      first = c.first_short-end.ensures.first ∙ within_next _ c.loop-i.i c.count_queries.result c.loop-i.end _ (g.U.LineList.items c.args.ups.now) here c.count_queries.ensures c.loop-i.invariant.first;
      within = omega (arith, c.first_short-end.ensures.within);
    }

pub returns-then-end-len : goal.returns-then-end-len
returns-then-end-len g c = sym (beyond_none _ c.loop-i.i c.loop-i.end (g.U.LineList.items c.args.ups.now) (simp length-map (omega arith)) c.loop-i.invariant.first (omega arith))

pub returns : goal.returns
returns g c = beyond_some _ c.loop-i.i c.loop-i.end (g.U.LineList.items c.args.ups.now) c.get.result (simp length-map (omega arith)) c.loop-i.invariant.first c.get.ensures
