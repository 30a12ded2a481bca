use Rattle.std.proofs.Common.{◌++◌, OnOk, OnErr, subst}
use Rattle.ck_io.specs.Sink.{AppendsPrefix}
use Rattle.ck_report.specs.Streaming.{IsStreamed}
use Rattle.ck_report.proofs.Blocks.{reply_lines_are}
use Rattle.ck_report.proofs.put.put_replies.Goals as goal

pub returns-clause-ok : goal.returns-clause-ok
returns-clause-ok g c =
    subst (λ t. OnOk c.put_lines.result (IsStreamed (g.S.Sink.taken c.args.sink.now) (g.S.Sink.taken c.put_lines.new.sink) (c.args.buffer.now.items ++ t) c.put_lines.new.buffer.items)) (reply_lines_are 0 c.args.replies.now) c.put_lines.ensures.ok

pub returns-clause-err : goal.returns-clause-err
returns-clause-err g c =
    subst (λ t. OnErr c.put_lines.result (AppendsPrefix (g.S.Sink.taken c.args.sink.now) (g.S.Sink.taken c.put_lines.new.sink) (c.args.buffer.now.items ++ t))) (reply_lines_are 0 c.args.replies.now) c.put_lines.ensures.err
