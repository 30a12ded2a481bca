use Rattle.std.proofs.Common.{rules, ◌≡◌, ◌≤◌, refl, ap, sym, subst}
use Rattle.ck_run.specs.Ends.{fresh}
use Rattle.ck_run.proofs.Ends.{first_keeps, each_weaker}
use Rattle.ck_epoch.specs.State.{Origin, records_of}
use Rattle.ck_epoch.specs.Closing.{AreOpening}
use Rattle.ck_epoch.proofs.Parting.{new_writer}
use Rattle.ck_epoch.proofs.domain.Domain.new.Goals as goal

pub part_all-requires-clause-token : goal.part_all-requires-clause-token
part_all-requires-clause-token g c = first_keeps _ _ c.args.records (ap (λ (o : Origin _). o.tokens) c.in_ok-words.ensures.origin) c.in_ok-words.ensures.token

pub part_all-requires-clause-make : goal.part_all-requires-clause-make
part_all-requires-clause-make g c n pos low =
    let opening = subst (λ (o : Origin _). AreOpening g.C.Client.meaning o) (sym c.in_ok-words.ensures.origin) c.in_ok-opening_words.ensures in
    (c.in_ok-words.words, refl, pos, subst (λ (o : Origin _). n ≤ records_of o) (sym c.in_ok-words.ensures.origin) low, opening)

pub returns-clause-passes : goal.returns-clause-passes
returns-clause-passes g c = (
  c.part_all.ensures.ends.0,
  each_weaker _ (λ n p. p ≡ record { token = fresh c.in_ok-words.words n; calls = 0; tally = 0 }) 1 c.part_all.new.ends.items (λ n p low q. search rules) c.part_all.ensures.ends.1,
)

pub invariant_of-writer : goal.invariant_of-writer
invariant_of-writer g c = new_writer g.C.Client.meaning g.met.C.Client.starts c.in_ok-words.words
    (subst (λ (o : Origin _). AreOpening g.C.Client.meaning o) (sym c.in_ok-words.ensures.origin) c.in_ok-opening_words.ensures)
    c.part_all.new.token c.in_ok-backlog.backlog c.part_all.ensures.token c.in_ok-backlog.ensures.lists
