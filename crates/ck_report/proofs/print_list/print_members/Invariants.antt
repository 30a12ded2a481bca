use Rattle.std.proofs.Common.{◌≡◌, ◌++◌, drop, map, decimal}
use Rattle.ck_report.specs.ListText.{members_words}
use Rattle.ck_report.specs.Tails.{after_words}
use Rattle.ck_report.proofs.print_list.print_members.Given as goal

-- with the other members the words would be whole
abbrev pub invariant-loop-member : goal.invariant-loop-member
invariant-loop-member l = l.out.items ++ after_words (map decimal (drop l.member-index l.members)) ≡ l.fn.out.items ++ after_words (members_words l.members)
