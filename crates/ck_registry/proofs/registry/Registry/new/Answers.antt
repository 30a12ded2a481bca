use Rattle.std.proofs.Common.{rules, ◌≡◌, ap, sym, subst, arith}
use Rattle.ck_run.specs.Ends.{fresh}
use Rattle.ck_run.proofs.Ends.{each_weaker}
use Rattle.ck_registry.specs.State.{Origin, IsOpening}
use Rattle.ck_registry.proofs.Visitors.{all_made, all_visitors}
use Rattle.ck_registry.proofs.registry.Registry.new.Goals as goal

pub visitors_of-requires-clause-fresh : goal.visitors_of-requires-clause-fresh
visitors_of-requires-clause-fresh c =
    let words = c.in_ok-words.words in
    let same = c.in_ok-words.ensures.origin in
    let tokens = ap (λ (o : Origin). o.tokens) same in
    let count = c.part_all.ensures.ends.0 in
    let some = c.requires.visitors.0 in (
      words,
      c.part_all.ensures.token,
      each_weaker _ (λ n t. t ≡ fresh words n) 1 c.part_all.new.ends.items (λ n t low q. search rules) c.part_all.ensures.ends.1,
      omega arith,
      subst IsOpening (sym same) (c.in_ok-opening_words.ensures c.args.visitors c.requires.visitors.1),
    )

pub returns-clause-visitors : goal.returns-clause-visitors
returns-clause-visitors c =
    let words = c.in_ok-words.words in
    let count = c.part_all.ensures.ends.0 in
    let some = c.requires.visitors.0 in
    let r = c.in_ok-given.ensures words c.part_all.ensures.token (each_weaker _ (λ n t. t ≡ fresh words n) 1 c.part_all.new.ends.items (λ n t low q. search rules) c.part_all.ensures.ends.1) in
    let len = r.0 in
    (omega arith, r.1)

pub returns-clause-made : goal.returns-clause-made
returns-clause-made c = all_made c.in_ok-words.words c.args.room 0 c.in_ok-given.given.items (returns-clause-visitors c).1

pub returns-clause-all : goal.returns-clause-all
returns-clause-all c =
    let made = returns-clause-visitors c in
    let count = made.0 in let len = c.in_ok-given.given.ok.0 in
    let tokens = ap (λ (o : Origin). o.tokens) c.in_ok-words.ensures.origin in
    all_visitors c.in_ok-words.words c.args.room c.in_ok-given.given.items (omega arith) made.1
