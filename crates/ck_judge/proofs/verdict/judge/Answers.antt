use Rattle.std.proofs.Common.{◌∙◌, ap, map}
use Rattle.ck_script.specs.Script.{said_of, script_of}
use Rattle.ck_report.specs.Reports.{parts_of}
use Rattle.ck_judge.specs.Files.{as_queries}
use Rattle.ck_judge.proofs.Deciding.{by_parts, legal_by}
use Rattle.ck_judge.proofs.verdict.judge.Goals as goal

pub returns-clause-verdict : goal.returns-clause-verdict
returns-clause-verdict g c =
    let script = script_of (said_of (g.U.LineList.items c.args.ups.now)) (map said_of (map g.F.LineList.items c.args.asks.now)) in
    by_parts g.K.Ord.cmp c.args.most script (parts_of c.args.report.now) c.judge_replies.result _ _ c.in_ok-updates.ensures (ap as_queries c.deref.ensures.value ∙ c.in_ok-files.ensures) c.judge_replies.ensures

pub returns-clause-legal : goal.returns-clause-legal
returns-clause-legal g c =
    let script = script_of (said_of (g.U.LineList.items c.args.ups.now)) (map said_of (map g.F.LineList.items c.args.asks.now)) in
    legal_by g.K.Ord.cmp c.args.most script (parts_of c.args.report.now) c.judge_replies.result
    (by_parts g.K.Ord.cmp c.args.most script (parts_of c.args.report.now) c.judge_replies.result _ _ c.in_ok-updates.ensures (ap as_queries c.deref.ensures.value ∙ c.in_ok-files.ensures) c.judge_replies.ensures)
