use Rattle.std.proofs.Common.{ℕ, length, sym, ap, ◌∙◌, arith}
use Rattle.ck_run.specs.Tokens.{table}
use Rattle.ck_registry.specs.State.{state, state_word}
use Rattle.ck_registry.specs.Ends.{Member, depth}
use Rattle.ck_registry.proofs.Stepping.{at_zero, none_of, records_are}
use Rattle.ck_registry.proofs.SectionSteps.{may_hand, is_away, away_calls}
use Rattle.ck_registry.proofs.registry.Registry.unregister.Goals as goal

pub store-requires-clause-may : goal.store-requires-clause-may
store-requires-clause-may c =
    let t = c.m.inside.token in
    let records = records_are t c.self.inside.words c.args.self.now c.self.inside.records (ap (λ (m : Member). table m.token) c.m.view_is ∙ c.requires.table) c.self.view_is c.self.invariant.told in
    may_hand t c.m.inside.rec (at_zero t c.m.inside.rec c.m.inside.depth c.m.invariant.0 (ap (λ (m : Member). depth m.token) c.m.view_is ∙ c.requires.depth))
    (none_of (state t).pending (ap (λ (m : Member). length (state m.token).pending) c.m.view_is ∙ c.requires.pending)) c.state_word.result (c.state_word.ensures ∙ ap (λ (k : ℕ). state_word k c.m.inside.rec) (sym records))

pub invariant_of-result : goal.invariant_of-result
invariant_of-result c =
    let t = c.m.inside.token in let u = c.store.new.token in
    let h = at_zero t c.m.inside.rec c.m.inside.depth c.m.invariant.0 (ap (λ (m : Member). depth m.token) c.m.view_is ∙ c.requires.depth) in
    let none = none_of (state t).pending (ap (λ (m : Member). length (state m.token).pending) c.m.view_is ∙ c.requires.pending) in
    let empty = none_of c.m.inside.deferred.waiting (ap (λ (m : Member). length m.waiting) c.m.view_is ∙ c.requires.waiting) in
    let counted = c.m.invariant.2 in
    let same = away_calls t c.m.inside.rec h none u c.state_word.result c.store.ensures.step in
    (is_away t c.m.inside.rec h none u c.state_word.result c.store.ensures.step c.m.inside.deferred c.m.invariant.1 empty, omega arith)
