use Rattle.std.proofs.Common.{◌≡◌, ℕ, suc, ◌+◌, get_or, ap, ◌∙◌, arith}
use Rattle.ck_arraylaw.specs.Host.{host, base_word}
use Rattle.ck_arraylaw.specs.Array.{writer}
use Rattle.ck_array.specs.Writes.{filling_by}
use Rattle.ck_array.proofs.CommitSteps.{fill_due, filled_next, one_more_store, same_twice}
use Rattle.ck_array.proofs.committing.fill.Goals as goal

pub store-requires-clause-due : goal.store-requires-clause-due
store-requires-clause-due g c =
    let h = host g.D.Client.meaning g.D.Within.place g.D.Within.part in let o = c.args.domain.now.origin in
    let due = c.requires.due in
    fill_due h o due.0 due.1 c.args.region c.args.members.now due.3 c.loop-i.writer.token c.loop-i.i (c.loop-i.invariant.local due.0 due.1 due.2 due.3) c.loop-i-test.true

pub loop-i-preserved : goal.loop-i-preserved
loop-i-preserved g c =
    let h = host g.D.Client.meaning g.D.Within.place g.D.Within.part in let o = c.args.domain.now.origin in
    let inv = c.loop-i.invariant in let at = c.args.region.at in let i = c.loop-i.i in let members = c.args.members.now in
    record {
      made = one_more_store c.args.writer.now c.loop-i.writer c.store.new.writer (base_word h o + at + 1) (base_word h o + (at + 1 + i)) i (get_or members i 0) members inv.made c.store.ensures.step (let z : base_word h o + (at + 1 + i) ≡ base_word h o + at + 1 + i = omega arith in z) (ap (λ (k : ℕ). get_or members k 0) (let z : i ≡ i = omega arith in z));
      local = λ log present first pending.
          c.store.ensures.local (filling_by log present c.args.region i) (inv.local log present first pending)
          ∙ ap writer (filled_next h o log present c.args.region members pending i (get_or members i 0) c.loop-i-test.true ∙ ap (λ (k : ℕ). filling_by log present c.args.region k) (let z : suc i ≡ i + 1 = omega arith in z));
      same = same_twice c.args.writer.now.token c.loop-i.writer.token c.store.new.writer.token inv.same c.store.ensures.same;
      part = c.store.ensures.part;
    }
