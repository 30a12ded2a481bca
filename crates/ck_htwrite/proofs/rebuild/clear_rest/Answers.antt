use Rattle.std.proofs.Common.{◌≡◌, ℕ, ◌+◌, ◌-◌, ◌^◌, ◌<◌, List, [], ◌∷◌, refl, sym, ap, ◌∙◌, subst, arith}
use Rattle.std.proofs.lemmas.Nat.{one_shl, pow_pos}
use Rattle.ck_run.specs.declared.account.Step.TheVariants.{Store}
use Rattle.ck_run.specs.Run.{further}
use Rattle.ck_run.specs.declared.account.Entry.{Entry}
use Rattle.ck_run.specs.Tokens.{table}
use Rattle.ck_htlaw.specs.Host.{host}
use Rattle.ck_htlaw.specs.Layout.{log_of}
use Rattle.ck_htwrite.specs.Writes.{MayStep, Steps}
use Rattle.ck_htwrite.proofs.Making.{may_first, may_rest, steps_then}
use Rattle.ck_htwrite.proofs.Chains.{no_steps}
use Rattle.ck_htwrite.proofs.Clearing.{clears, clear, clears_next, clear_word, clear_low, listed}
use Rattle.ck_htwrite.proofs.rebuild.clear_rest.Goals as goal

pub loop-i-init : goal.loop-i-init
loop-i-init g c = let h = host g.D.Client.meaning g.D.Within.place g.D.Within.part in record {
  from = omega arith;
  steps = no_steps h c.args.domain.now.origin c.args.writer.now c.requires.token;
  table_same = refl;
  due = c.requires.due;
}

pub store-requires-clause-word : goal.store-requires-clause-word
store-requires-clause-word g c =
    let h = host g.D.Client.meaning g.D.Within.place g.D.Within.part in let few = c.requires.root.few in
    clear_low h c.args.domain.now.origin c.args.root c.requires.root c.loop-i.i (let t = c.loop-i-test.true in omega (arith, one_shl (log_of c.args.root) 64))

pub store-requires-clause-due : goal.store-requires-clause-due
store-requires-clause-due g c =
    let h = host g.D.Client.meaning g.D.Within.place g.D.Within.part in let o = c.args.domain.now.origin in let root = c.args.root in let i = c.loop-i.i in let few = c.requires.root.few in
    let low : i < 2 ^ log_of root = (let t = c.loop-i-test.true in omega (arith, one_shl (log_of root) 64)) in
    subst (λ (w : ℕ). MayStep h o c.loop-i.writer.token (further (Store w 0))) (sym (clear_word h o root i))
    (may_first h o c.loop-i.writer.token (clear h o root i) (clears h o root (i + 1) (2 ^ log_of root - (i + 1))) (clears_next h o root c.loop-i.writer.token i (2 ^ log_of root) low c.loop-i.invariant.due))

pub loop-i-preserved : goal.loop-i-preserved
loop-i-preserved g c =
    let h = host g.D.Client.meaning g.D.Within.place g.D.Within.part in let o = c.args.domain.now.origin in let root = c.args.root in let i = c.loop-i.i in let few = c.requires.root.few in
    let low : i < 2 ^ log_of root = (let t = c.loop-i-test.true in omega (arith, one_shl (log_of root) 64)) in
    let step : Steps h o c.loop-i.writer (clear h o root i ∷ []) c.store.new.writer = subst (λ (w : ℕ). Steps h o c.loop-i.writer (further (Store w 0) ∷ []) c.store.new.writer) (clear_word h o root i) c.store.ensures.step in
    let from = c.loop-i.invariant.from in
    record {
      from = omega arith;
      steps = subst (λ (es : List Entry). Steps h o c.args.writer.now es c.store.new.writer) (listed h o root i from) (steps_then h o c.args.writer.now c.loop-i.writer c.store.new.writer (clears h o root 1 (i - 1)) (clear h o root i ∷ []) c.loop-i.invariant.steps step);
      table_same = ap (λ w. table w.token) step.made ∙ c.loop-i.invariant.table_same;
      due = may_rest h o c.loop-i.writer c.store.new.writer (clear h o root i) (clears h o root (i + 1) (2 ^ log_of root - (i + 1))) (clears_next h o root c.loop-i.writer.token i (2 ^ log_of root) low c.loop-i.invariant.due) step;
    }

pub returns : goal.returns
returns g c =
    let h = host g.D.Client.meaning g.D.Within.place g.D.Within.part in let o = c.args.domain.now.origin in let root = c.args.root in let few = c.requires.root.few in let from = c.loop-i.invariant.from in let some = pow_pos (log_of root) in
    let all : c.loop-i.i ≡ 2 ^ log_of root = (let t = c.loop-i-test.false in let e = c.loop-i.auto.i-end in omega (arith, one_shl (log_of root) 64)) in
    record { steps = subst (λ (k : ℕ). Steps h o c.args.writer.now (clears h o root 1 (k - 1)) c.loop-i.writer) all c.loop-i.invariant.steps }
