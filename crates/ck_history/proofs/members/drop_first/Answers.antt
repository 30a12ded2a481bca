use Rattle.std.proofs.Common.{◌∙◌, sym, ap, rules}
use Rattle.ck_history.proofs.Dropping.{dropped_none, dropped_at}
use Rattle.ck_history.proofs.members.drop_first.Goals as goal

pub returns-in-Some-clause-reply : goal.returns-in-Some-clause-reply
returns-in-Some-clause-reply c = sym (ap (λ p. p.1) (dropped_at c.args.members.now.items c.args.v c.in-Some.at c.swap_remove.result (search rules) c.swap_remove.ensures.value))

pub returns-in-Some-clause-members : goal.returns-in-Some-clause-members
returns-in-Some-clause-members c = c.swap_remove.ensures.items ∙ sym (ap (λ p. p.0) (dropped_at c.args.members.now.items c.args.v c.in-Some.at c.swap_remove.result (search rules) c.swap_remove.ensures.value))

pub returns-in-None-clause-reply : goal.returns-in-None-clause-reply
returns-in-None-clause-reply c = sym (ap (λ p. p.1) (dropped_none c.args.members.now.items c.args.v (search rules)))

pub returns-in-None-clause-members : goal.returns-in-None-clause-members
returns-in-None-clause-members c = sym (ap (λ p. p.0) (dropped_none c.args.members.now.items c.args.v (search rules)))
