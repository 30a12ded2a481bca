use Rattle.std.proofs.Common.{◌++◌, ◌∙◌, ap, sym, map, decimal, arith}
use Rattle.ck_report.specs.Tails.{after_words}
use Rattle.ck_report.proofs.ListLines.{members_begin, members_end}
use Rattle.ck_report.proofs.print_list.print_members.Goals as goal

pub loop-member-init : goal.loop-member-init
loop-member-init c =
    ap (λ t. t ++ after_words (map decimal c.args.members.now)) c.in_ok-append.ensures ∙ members_begin c.args.members.now c.args.out.now.items (sym c.is_empty.ensures ∙ c.if-is_empty.false)

pub returns : goal.returns
returns c = members_end c.args.members.now c.loop-member.member-index c.loop-member.out.items _ (omega (arith, c.loop-member-test.false)) c.loop-member.invariant
