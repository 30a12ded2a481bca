use Rattle.std.proofs.Common.{◌≡◌, ℕ, ◌+◌, ◌≤◌, length, length-append, sym, ap, ◌∙◌, subst, arith}
use Rattle.ck_run.specs.Tokens.{table}
use Rattle.ck_htlaw.specs.Host.{host}
use Rattle.ck_htlaw.specs.Known.{knows}
use Rattle.ck_epoch.specs.State.{state}
use Rattle.ck_arena.specs.Arena.{unreturned}
use Rattle.ck_htwrite.specs.Arena.{MayAddRegion}
use Rattle.ck_htwrite.specs.State.{Ready}
use Rattle.ck_htwrite.specs.Writes.{counters_in}
use Rattle.ck_htwrite.proofs.Between.{once}
use Rattle.ck_htwrite.proofs.tidying.tidy.Goals as goal

pub tidy_map-requires-clause-calls : goal.tidy_map-requires-clause-calls
tidy_map-requires-clause-calls g c = let few = c.requires.calls in omega arith

pub tidy_map-requires-clause-once : goal.tidy_map-requires-clause-once
tidy_map-requires-clause-once g c =
    let h = host g.D.Client.meaning g.D.Within.place g.D.Within.part in let o = c.args.domain.now.origin in let n = counters_in h o in let place = h.place o.config.client in let w = c.args.writer.now in let s = c.args.state.now in let ready = c.requires.ready in let r = ready.lists in
    let same = ap (λ v. v.origin) c.requires.table in let writing = c.tally-updates.ensures.writing in
    once h g.met.D.Within.within o w.token same writing.part writing.first s r

pub tidy_map-requires-clause-arena : goal.tidy_map-requires-clause-arena
tidy_map-requires-clause-arena g c = c.requires.ready.arena

pub tidy_map-requires-clause-ready : goal.tidy_map-requires-clause-ready
tidy_map-requires-clause-ready g c = c.requires.ready.lists

pub returns-clause-log : goal.returns-clause-log
returns-clause-log g c =
    let h = host g.D.Client.meaning g.D.Within.place g.D.Within.part in let o = c.args.domain.now.origin in let n = counters_in h o in let place = h.place o.config.client in let w = c.args.writer.now in let s = c.args.state.now in let ready = c.requires.ready in let r = ready.lists in
    ap (λ v. (knows h o v.token).log) c.count_update.ensures ∙ c.in_ok-tidy_map.ensures.over.at.log

pub returns-clause-items : goal.returns-clause-items
returns-clause-items g c =
    let h = host g.D.Client.meaning g.D.Within.place g.D.Within.part in let o = c.args.domain.now.origin in let w = c.args.writer.now in
    subst (λ v. MayAddRegion (counters_in h o) (h.place o.config.client) (unreturned (state w.token) w.waiting) (unreturned (state v.token) v.waiting)) (sym c.count_update.ensures) c.in_ok-tidy_map.ensures.items

pub returns-clause-steps : goal.returns-clause-steps
returns-clause-steps g c =
    let steps = c.in_ok-tidy_map.ensures.steps in (steps.0, steps.1, steps.2, steps.3, c.count_update.ensures ∙ (λ i. record (steps.4 i) { calls = (steps.4 i).calls + 1; tally = (steps.4 i).tally + 1 }))

pub returns-clause-calls : goal.returns-clause-calls
returns-clause-calls g c =
    let steps = c.in_ok-tidy_map.ensures.steps in let k : ℕ = steps.1 in let le : k ≤ 1 = steps.2 in
    let one : c.count_update.new.writer.calls ≡ c.tidy_map.new.writer.calls + 1 = ap (λ v. v.calls) c.count_update.ensures in
    let two : c.tidy_map.new.writer.calls ≡ c.args.writer.now.calls + k = ap (λ v. v.calls) steps.4 in omega arith

pub returns-clause-table : goal.returns-clause-table
returns-clause-table g c = ap (λ v. table v.token) c.count_update.ensures ∙ ap (λ v. table v.token) c.in_ok-tidy_map.ensures.steps.4

pub returns-clause-ready : goal.returns-clause-ready
returns-clause-ready g c =
    let h = host g.D.Client.meaning g.D.Within.place g.D.Within.part in let o = c.args.domain.now.origin in let n = counters_in h o in let place = h.place o.config.client in let w = c.args.writer.now in let s = c.args.state.now in let ready = c.requires.ready in let r = ready.lists in
    let u = c.tidy_map.new.writer in let over = c.in_ok-tidy_map.ensures.over in let steps = c.in_ok-tidy_map.ensures.steps in
    let k : ℕ = steps.1 in
    let tally : u.tally ≡ w.tally = ap (λ v. v.tally) steps.4 in let calls : u.calls ≡ w.calls + k = ap (λ v. v.calls) steps.4 in
    let more : length (knows h o u.token).log ≡ length (knows h o w.token).log + 1 = ap length over.at.log ∙ length-append (knows h o w.token).log _ in
    let before : w.tally ≡ length (knows h o w.token).log = ready.tally in let few : w.tally ≤ w.calls = ready.few in
    subst (λ v. Ready h o v c.tidy_map.new.state) (sym c.count_update.ensures) record {
      lists = record { is_writer = over.is_writer; is = over.at.local; idles = over.stage_is; reflects = over.lists };
      arena = c.in_ok-tidy_map.ensures.arena;
      tally = omega arith;
      few = omega arith;
    }
