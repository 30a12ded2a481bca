use Rattle.std.proofs.Common.{ℕ, sym, ◌∙◌, arith}
use Rattle.ck_htlaw.specs.Host.{host}
use Rattle.ck_htlaw.specs.Stages.{empty}
use Rattle.ck_htwrite.proofs.ByPlan.{adds_empty, few_keys, few_tombstones, insert_full, inserted_now, may_ask_full, may_insert_now}
use Rattle.ck_htwrite.proofs.Made.{done_grown}
use Rattle.ck_htwrite.proofs.Plans.{over_full}
use Rattle.ck_htwrite.proofs.cases.add_empty.Goals as goal

pub ask_root-requires-clause-due : goal.ask_root-requires-clause-due
ask_root-requires-clause-due g c found =
    let o = c.args.domain.now.origin in let h = host g.D.Client.meaning g.D.Within.place g.D.Within.part in let w = c.args.writer.now in let s = c.args.state.now in
    let opens = g.O.Opens.opens in let key : ℕ = c.args.key in let value : ℕ = c.args.value in let at : ℕ = c.args.at in let r = c.requires.due.0 in
    may_ask_full h o w s r opens key value at empty (adds_empty h o w s r opens key value at c.requires.adds c.requires.due.1) c.if-state-ge-MOST.true found

pub returns-then-state-ge-MOST-clause-made : goal.returns-then-state-ge-MOST-clause-made
returns-then-state-ge-MOST-clause-made g c r planned = insert_full _ _ c.args.writer.now c.args.state.now r g.O.Opens.opens c.args.key c.args.value c.args.at c.requires.adds planned c.if-state-ge-MOST.true c.ask_root.result _ c.ask_root.ensures.step

pub is_roomy-requires-clause-tombstones : goal.is_roomy-requires-clause-tombstones
is_roomy-requires-clause-tombstones g c = few_tombstones _ _ c.args.writer.now _ c.requires.due.0

pub is_roomy-requires-clause-keys : goal.is_roomy-requires-clause-keys
is_roomy-requires-clause-keys g c = few_keys _ _ c.args.writer.now _ c.requires.due.0

pub add_grown-requires-clause-full : goal.add_grown-requires-clause-full
add_grown-requires-clause-full g c = over_full _ _ (sym c.is_roomy.ensures ∙ c.if-not-is_roomy.true)

pub add_grown-requires-clause-due : goal.add_grown-requires-clause-due
add_grown-requires-clause-due g c = (c.requires.due.0, c.args.at, c.requires.due.1)

pub returns-then-not-is_roomy-clause-made : goal.returns-then-not-is_roomy-clause-made
returns-then-not-is_roomy-clause-made g c r planned =
    let h = host g.D.Client.meaning g.D.Within.place g.D.Within.part in let made = c.add_grown in
    done_grown h c.args.domain.now.origin r.is_writer c.args.writer.now c.args.state.now c.args.key c.args.value c.args.at g.O.Opens.opens made.result made.new.writer made.new.state (made.ensures.made r c.args.at planned)

pub insert-requires-clause-due : goal.insert-requires-clause-due
insert-requires-clause-due g c =
    may_insert_now _ _ c.args.writer.now c.args.state.now c.requires.due.0 g.O.Opens.opens c.args.key c.args.value c.args.at c.requires.adds c.requires.due.1 c.requires.slot (let z = c.if-state-ge-MOST.false in omega arith) c.is_roomy.result c.is_roomy.ensures c.if-not-is_roomy.false

pub insert-requires-clause-shape : goal.insert-requires-clause-shape
insert-requires-clause-shape g c = c.requires.due.0.reflects.mirrors.shape

pub returns-clause-made : goal.returns-clause-made
returns-clause-made g c r planned =
    inserted_now _ _ c.args.writer.now c.args.state.now r g.O.Opens.opens c.args.key c.args.value c.args.at c.requires.adds planned c.requires.slot (let z = c.if-state-ge-MOST.false in omega arith) c.is_roomy.result c.is_roomy.ensures c.if-not-is_roomy.false
    c.requires.was c.insert.new.writer c.insert.new.state c.insert.ensures.steps c.insert.ensures.state
