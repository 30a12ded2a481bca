use Rattle.std.proofs.Common.{◌≡◌, ℕ, ◌^◌, ◌<◌, [], ◌++◌, refl, sym, ap, ◌∙◌, subst, arith}
use Rattle.std.proofs.lemmas.Nat.{one_shl}
use Rattle.ck_run.specs.Tokens.{table}
use Rattle.ck_htlaw.specs.Host.{host, lies}
use Rattle.ck_htlaw.specs.Known.{knows}
use Rattle.ck_htlaw.specs.Layout.{log_of}
use Rattle.ck_htwrite.specs.declared.state.HtState.{HtState}
use Rattle.ck_htwrite.specs.Rebuild.{CopiesAt}
use Rattle.ck_htwrite.specs.Writes.{counters_in}
use Rattle.ck_htwrite.proofs.Chains.{no_steps, further_more, same_room}
use Rattle.ck_htwrite.proofs.copies.copy_all.Goals as goal

pub loop-i-init : goal.loop-i-init
loop-i-init g c = let h = host g.D.Client.meaning g.D.Within.place g.D.Within.part in record {
  table_same = refl;
  steps = ([], no_steps h c.args.domain.now.origin c.args.writer.now c.requires.token);
  lists = refl;
  at = λ p call due told copies. copies;
}

pub copy_slot-requires-clause-table : goal.copy_slot-requires-clause-table
copy_slot-requires-clause-table g c = c.loop-i.invariant.table_same ∙ c.requires.table

pub copy_slot-requires-clause-slot : goal.copy_slot-requires-clause-slot
copy_slot-requires-clause-slot g c =
    let few = c.requires.few in
    let low : c.loop-i.i < 2 ^ log_of c.args.state.now.root = (let t = c.loop-i-test.true in omega (arith, one_shl (log_of c.args.state.now.root) 64)) in
    subst (λ (z : HtState). c.loop-i.i < 2 ^ log_of z.root) (sym c.loop-i.invariant.lists) low

pub copy_slot-requires-clause-can : goal.copy_slot-requires-clause-can
copy_slot-requires-clause-can g c =
    let h = host g.D.Client.meaning g.D.Within.place g.D.Within.part in
    same_room (counters_in h c.args.domain.now.origin) c.args.state.now c.loop-i.state c.args.root c.loop-i.invariant.lists c.requires.can

pub copy_slot-requires-clause-due : goal.copy_slot-requires-clause-due
copy_slot-requires-clause-due g c = let d = c.requires.due in (d.0, d.1, d.2, d.3, c.loop-i.invariant.at d.0 d.1 d.2 d.3 d.4)

pub copy_slot-requires-clause-token : goal.copy_slot-requires-clause-token
copy_slot-requires-clause-token g c = c.loop-i.invariant.steps.1.is_token

pub loop-i-preserved : goal.loop-i-preserved
loop-i-preserved g c =
    let h = host g.D.Client.meaning g.D.Within.place g.D.Within.part in
    let one = c.copy_slot.ensures.steps in let had = c.loop-i.invariant.steps in
    record {
      table_same = ap (λ w. table w.token) one.1.made ∙ c.loop-i.invariant.table_same;
      steps = (had.0 ++ one.0, further_more h c.args.domain.now.origin c.args.writer.now c.loop-i.writer c.copy_slot.new.writer had.0 one.0 had.1 one.1);
      lists = c.copy_slot.ensures.state ∙ ap (λ (z : HtState). record z { spare = c.copy_slot.new.state.spare }) c.loop-i.invariant.lists;
      at = λ p call due told copies. c.copy_slot.ensures.at p call due told (c.loop-i.invariant.at p call due told copies);
    }

pub returns-clause-at : goal.returns-clause-at
returns-clause-at g c p call due told copies =
    let h = host g.D.Client.meaning g.D.Within.place g.D.Within.part in let o = c.args.domain.now.origin in let few = c.requires.few in
    let all : c.loop-i.i ≡ 2 ^ log_of c.args.state.now.root = (let t = c.loop-i-test.false in let e = c.loop-i.auto.i-end in omega (arith, one_shl (log_of c.args.state.now.root) 64)) in
    subst (λ (k : ℕ). CopiesAt (counters_in h o) (lies h o) (knows h o c.loop-i.writer.token) p call due told c.loop-i.state c.args.root k) all (c.loop-i.invariant.at p call due told copies)
