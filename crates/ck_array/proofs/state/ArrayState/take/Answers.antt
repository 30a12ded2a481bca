use Rattle.std.proofs.Common.{◌≡◌, ◌↔◌, ℕ, List, length, ap, ◌∙◌, subst}
use Rattle.std.specs.Prelude.{Option, IsNone}
use Rattle.ck_arena.specs.Arena.{HasNoneFree}
use Rattle.ck_arraylaw.specs.Layout.{log_for}
use Rattle.ck_array.proofs.CommitSteps.{still_of_array}
use Rattle.ck_array.proofs.state.ArrayState.take.Goals as goal

pub returns-in-Some-clause-none : goal.returns-in-Some-clause-none
returns-in-Some-clause-none c =
    let a = c.args.self.now.arena in let n = length c.args.self.now.lists.pending in
    let log : c.region_log-log.result ≡ log_for n = c.region_log-log.ensures.log ∙ ap (λ (xs : List ℕ). log_for (length xs)) c.pending.ensures.all in
    subst (λ (x : Option ℕ). IsNone x ↔ HasNoneFree a (log_for n)) c.in-Some.is (subst (λ (l : ℕ). IsNone c.take.result ↔ HasNoneFree a l) log c.take.ensures.none)

pub returns-in-Some-clause-arena : goal.returns-in-Some-clause-arena
returns-in-Some-clause-arena c = still_of_array c.args.self.now.arena c.take.new.self _ c.in-Some.ensures.after c.requires.arena

pub returns-in-None-clause-none : goal.returns-in-None-clause-none
returns-in-None-clause-none c =
    let a = c.args.self.now.arena in let n = length c.args.self.now.lists.pending in
    let log : c.region_log-log.result ≡ log_for n = c.region_log-log.ensures.log ∙ ap (λ (xs : List ℕ). log_for (length xs)) c.pending.ensures.all in
    subst (λ (x : Option ℕ). IsNone x ↔ HasNoneFree a (log_for n)) c.in-None.is (subst (λ (l : ℕ). IsNone c.take.result ↔ HasNoneFree a l) log c.take.ensures.none)
