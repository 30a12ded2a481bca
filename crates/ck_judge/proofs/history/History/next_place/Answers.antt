use Rattle.std.proofs.Common.{arith, sym, ◌∙◌, true≢false}
use Rattle.ck_judge.proofs.Recalling.{next_by_given}
use Rattle.ck_judge.proofs.history.History.next_place.Goals as goal

pub returns : goal.returns
returns g c =
    next_by_given g.met.K.Ord.total c.args.self.now c.requires c.args.key.now c.args.value c.args.from
    (omega (arith, c.if-from-len.false, c.len.ensures, c.args.self.now.updates.ok))
    (λ e. true≢false (sym (c.if-same_value.ensures.1 (c.value_at.ensures ∙ e))))
    c.next_given.result c.next_given.ensures
