use Rattle.std.proofs.Common.{decimal}
use Rattle.ck_report.specs.ListText.{members_words}
use Rattle.ck_report.proofs.ListLines.{three_end}
use Rattle.ck_report.proofs.print_list.print_view.Goals as goal

pub returns : goal.returns
returns c =
    three_end c.append-2.result 113 c.args.out.now.items (decimal c.args.f) (decimal c.args.i) c.append.new.out.items c.print_number.new.out.items c.append_word.new.out.items c.print_members.new.out.items c.append-2.new.out.items (members_words c.args.members.now)
    c.in_ok-append.ensures c.in_ok-print_number.ensures.ok c.in_ok-append_word.ensures c.in_ok-print_members.ensures c.append-2.ensures
