use Rattle.std.proofs.Common.{◌≡◌, ◌+◌, ◌++◌, drop}
use Rattle.ck_report.specs.Text.{reply_lines}
use Rattle.ck_report.proofs.print.print_replies.Given as goal

-- with the lines of the other replies the text would be whole
abbrev pub invariant-loop-reply : goal.invariant-loop-reply
invariant-loop-reply l = record {
  count : l.i ≡ l.reply-index;
  whole : l.out.items ++ reply_lines (l.i + 1) (drop l.reply-index l.replies) ≡ l.initial.out.items ++ reply_lines 1 l.replies;
}
