use Rattle.std.proofs.Common.{◌≤◌, ◌+◌, ◌++◌, drop, length, arith, sym, subst, ap}
use Rattle.ck_script.specs.Script.{said_of}
use Rattle.ck_report.specs.Pairing.{asked_lines}
use Rattle.ck_report.proofs.Answering.{paired_more}
use Rattle.ck_report.proofs.pairing.pair_block.Goals as goal

pub loop-i-init : goal.loop-i-init
loop-i-init g c = record {
  within = omega arith;
  count = subst (λ b. c.args.start + length b ≤ c.args.start) (sym c.requires.empty) (omega arith);
  paired = ap (λ b. b ++ asked_lines (said_of (drop c.args.start (g.F.LineList.items c.args.lines.now))) c.args.answers.now) c.requires.empty;
}

pub loop-i-preserved : goal.loop-i-preserved
loop-i-preserved g c =
    let inv = c.loop-i.invariant in
    record {
      within = c.in_ok-next.ensures.next;
      count = omega (arith, inv.count, c.in_ok-next.ensures.count);
      paired = paired_more (g.F.LineList.items c.args.lines.now) c.args.answers.now c.loop-i.i c.loop-i.next c.in_ok-next.next c.what.result c.loop-i.block.items c.push_pair.new.block.items _ c.what.ensures c.in_ok-next.ensures.paired inv.paired;
    }
