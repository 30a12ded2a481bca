use Rattle.std.proofs.Common.{ℕ, ap, ◌∙◌, sym, subst, arith}
use Rattle.std.specs.Global.{Vec}
use Rattle.ck_htlaw.specs.Host.{host, lies}
use Rattle.ck_htwrite.specs.Rebuild.{pair_steps, with_pair}
use Rattle.ck_htwrite.specs.Writes.{MayMake, Steps, counters_in, opened}
use Rattle.ck_htwrite.proofs.Finding.{small_slot}
use Rattle.ck_htwrite.proofs.Slots.{item_in}
use Rattle.ck_htwrite.proofs.updates.place.Goals as goal

pub store_pair-requires-clause-root : goal.store_pair-requires-clause-root
store_pair-requires-clause-root g c = c.requires.shape.is_root

pub store_pair-requires-clause-due : goal.store_pair-requires-clause-due
store_pair-requires-clause-due g c =
    let h = host g.D.Client.meaning g.D.Within.place g.D.Within.part in let o = c.args.domain.now.origin in
    subst (λ (z : ℕ × ℕ). MayMake h o c.args.writer.now.token (opened g.O.Opens.opens (pair_steps (lies h o) c.args.state.now.root c.args.at z.0 z.1 c.args.value))) (λ i. (sym c.low_word-low.ensures i, sym c.high_word-high.ensures i)) c.requires.due

pub put_pair-requires : goal.put_pair-requires
put_pair-requires g c =
    let s = c.args.state.now in let shape = c.requires.shape in
    record { slot = item_in (counters_in (host g.D.Client.meaning g.D.Within.place g.D.Within.part) c.args.domain.now.origin) s shape c.args.at 3 c.requires.slot (omega arith); few = small_slot c.args.at _ c.requires.slot shape.is_root.few }

pub returns-clause-steps : goal.returns-clause-steps
returns-clause-steps g c =
    let h = host g.D.Client.meaning g.D.Within.place g.D.Within.part in let o = c.args.domain.now.origin in
    subst (λ (z : ℕ × ℕ). Steps h o c.args.writer.now (opened g.O.Opens.opens (pair_steps (lies h o) c.args.state.now.root c.args.at z.0 z.1 c.args.value)) c.store_pair.new.writer) (λ i. (c.low_word-low.ensures i, c.high_word-high.ensures i)) c.store_pair.ensures.steps

pub returns-clause-state : goal.returns-clause-state
returns-clause-state g c =
    let s = c.args.state.now in
    ap (λ (words : Vec ℕ). record s { words = words }) c.put_pair.ensures ∙ (λ i. record s { words = with_pair s.words c.args.at (c.low_word-low.ensures i) (c.high_word-high.ensures i) c.args.value })
