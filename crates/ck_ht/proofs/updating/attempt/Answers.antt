use Rattle.std.proofs.Common.{sym, subst}
use Rattle.std.specs.Prelude.{MatchResult}
use Rattle.ck_epoch.specs.State.{state}
use Rattle.ck_history.specs.declared.update.Update.{Update}
use Rattle.ck_history.specs.declared.update.Update.TheVariants.{Set, Put, Tidy}
use Rattle.ck_htlaw.specs.Reached.{with_signals}
use Rattle.ck_arena.specs.Arena.{unreturned}
use Rattle.ck_htwrite.specs.Arena.{AddsRegion}
use Rattle.ck_htwrite.specs.Writes.{counters_in}
use Rattle.ck_ht.specs.Updating.{IsMade, IsRefused}
use Rattle.ck_ht.proofs.Tries.{log_kept, of_need, tidy_need, tidy_region, tidy_same, tidy_steps}
use Rattle.ck_ht.proofs.Updates.{tried}
use Rattle.ck_ht.proofs.updating.attempt.Goals as goal

pub returns-in-Set : goal.returns-in-Set
returns-in-Set g c =
    let F = g.row.F.Denot in let o = c.args.domain.now.origin in let w = c.args.writer.now in let s = c.args.state.now in let w' = c.set.new.writer in let s' = c.set.new.state in let e = c.set.ensures in let r = c.set.result in
    let Adds : Type 0 = AddsRegion (counters_in with_signals o) 0 (unreturned (state w.token) w.waiting) (unreturned (state w'.token) w'.waiting) in
    let u = Set c.in-Set.key c.in-Set.value in
    record {
      made = subst (λ (v : Update _). MatchResult r (λ reply. IsMade o v w s reply w' s') (λ need. IsRefused o v w s w' s')) (sym c.in-Set.is)
          (tried F o u w w' s s' r e.same e.calls e.table e.reply e.log e.steps e.items (log_kept Adds s.root s'.root r e.root) (of_need o w.token s c.in-Set.key r e.need) e.ready);
    }

pub returns-in-Put : goal.returns-in-Put
returns-in-Put g c =
    let F = g.row.F.Denot in let o = c.args.domain.now.origin in let w = c.args.writer.now in let s = c.args.state.now in let w' = c.put.new.writer in let s' = c.put.new.state in let e = c.put.ensures in let r = c.put.result in
    let Adds : Type 0 = AddsRegion (counters_in with_signals o) 0 (unreturned (state w.token) w.waiting) (unreturned (state w'.token) w'.waiting) in
    let u = Put c.in-Put.key c.in-Put.value in
    record {
      made = subst (λ (v : Update _). MatchResult r (λ reply. IsMade o v w s reply w' s') (λ need. IsRefused o v w s w' s')) (sym c.in-Put.is)
          (tried F o u w w' s s' r e.same e.calls e.table e.reply e.log e.steps e.items (log_kept Adds s.root s'.root r e.root) (of_need o w.token s c.in-Put.key r e.need) e.ready);
    }

pub returns-in-Tidy : goal.returns-in-Tidy
returns-in-Tidy g c =
    let F = g.row.F.Denot in let o = c.args.domain.now.origin in let w = c.args.writer.now in let s = c.args.state.now in let w' = c.tidy.new.writer in let s' = c.tidy.new.state in let e = c.tidy.ensures in let r = c.tidy.result in
    let Adds : Type 0 = AddsRegion (counters_in with_signals o) 0 (unreturned (state w.token) w.waiting) (unreturned (state w'.token) w'.waiting) in
    let lists = c.requires.ready.lists in
    record {
      made = subst (λ (v : Update _). MatchResult r (λ reply. IsMade o v w s reply w' s') (λ need. IsRefused o v w s w' s')) (sym c.in-Tidy.is)
          (tried F o Tidy w w' s s' r (tidy_same o w w' s s' lists r e.steps e.need) e.calls e.table e.reply e.log (tidy_steps o w w' s s' lists r e.steps) e.items (tidy_region o Adds s s' r e.lists) (tidy_need o w w' s s' lists r e.none.0) e.ready);
    }
