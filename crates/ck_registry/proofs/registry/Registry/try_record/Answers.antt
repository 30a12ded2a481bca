use Rattle.std.proofs.Common.{◌≡◌, ℕ, sym, ap, ◌∙◌, List, subst}
use Rattle.ck_run.specs.Run.{entry}
use Rattle.ck_run.specs.declared.account.Step.TheVariants.{Exchange}
use Rattle.ck_run.specs.Machine.{follows_of}
use Rattle.ck_run.specs.Tokens.{origin, MayMake, Makes}
use Rattle.ck_registry.specs.State.{Token, state_word, records_of, registry}
use Rattle.ck_registry.specs.Scan.{IsTrying}
use Rattle.ck_registry.proofs.Stepping.{records_are}
use Rattle.ck_registry.proofs.Trying.{trying_low, may_try, tried}
use Rattle.ck_registry.proofs.registry.Registry.try_record.Goals as goal

-- the word is that of the record, by the records of the visitor that began the call
word_is : (t u : Token) (rec records w : ℕ) → IsTrying t u rec → records_of (origin u) ≡ records → w ≡ state_word records rec → w ≡ state_word (records_of (origin t)) rec
word_is t u rec records w at same is = is ∙ ap (λ (k : ℕ). state_word k rec) (sym same ∙ ap (λ (x : Token). records_of (origin x)) at.steps)

pub exchange-requires-clause-may : goal.exchange-requires-clause-may
exchange-requires-clause-may g c n fits =
    let t = c.requires.trying.0 in let u = c.args.token.now in let at = c.requires.trying.1 in
    let records = records_are u c.self.inside.words c.args.self.now c.self.inside.records c.requires.table c.self.view_is c.self.invariant.told in
    subst (λ (opens : List ℕ). MayMake (follows_of registry) u (entry opens (Exchange c.state_word.result 0 1 n))) (sym c.requires.name)
    (may_try t u c.args.rec at (trying_low t u c.args.rec c.args.self.now at c.requires.table c.requires.rec) c.state_word.result n (word_is t u c.args.rec c.self.inside.records c.state_word.result at records c.state_word.ensures))

pub returns-clause-outcome : goal.returns-clause-outcome
returns-clause-outcome g c t at =
    let u = c.args.token.now in
    let records = records_are u c.self.inside.words c.args.self.now c.self.inside.records c.requires.table c.self.view_is c.self.invariant.told in
    tried t u c.args.rec at (trying_low t u c.args.rec c.args.self.now at c.requires.table c.requires.rec) c.exchange.new.token c.state_word.result c.exchange.result
    (word_is t u c.args.rec c.self.inside.records c.state_word.result at records c.state_word.ensures)
    (subst (λ (opens : List ℕ). Makes (follows_of registry) u (entry opens (Exchange c.state_word.result 0 1 c.exchange.result)) c.exchange.new.token) c.requires.name c.exchange.ensures.step)
