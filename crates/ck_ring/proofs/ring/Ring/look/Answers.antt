use Rattle.std.proofs.Common.{ℕ, ◌+◌, ◌%◌, sym, ap, ◌∙◌}
use Rattle.ck_run.specs.Tokens.{Table}
use Rattle.ck_ring.specs.State.{state, size_of}
use Rattle.ck_ring.proofs.Sizes.{size_kept, size_seen}
use Rattle.ck_ring.proofs.Look.{may_head, may_tail, is_empty, may_item, is_at}
use Rattle.ck_ring.proofs.ring.Ring.look.Goals as goal

pub load-head-requires-clause-may : goal.load-head-requires-clause-may
load-head-requires-clause-may g c n _ = may_head c.args.token.now (state c.args.token.now).calls c.requires.idle g.O.Opens.opens c.requires.calls c.requires.name n

pub load-tail-requires-clause-may : goal.load-tail-requires-clause-may
load-tail-requires-clause-may g c n _ = may_tail c.args.token.now (state c.args.token.now).calls c.requires.idle g.O.Opens.opens c.load-head.new.token c.load-head.result c.load-head.ensures.step n

pub returns-then-tail-head-clause-looked : goal.returns-then-tail-head-clause-looked
returns-then-tail-head-clause-looked g c =
    is_empty c.args.token.now (state c.args.token.now).calls c.requires.idle g.O.Opens.opens c.load-head.new.token c.load-head.result c.load-head.ensures.step c.load-tail.new.token c.load-tail.result c.load-tail.ensures.step _ c.if-tail-head.true

pub load-item-requires-clause-may : goal.load-item-requires-clause-may
load-item-requires-clause-may g c n _ =
    let size = c.self.inside.size in
    let e = size_seen size c.args.token.now c.self.inside.words (c.requires.table ∙ sym c.self.view_is) c.self.invariant in
    may_item c.args.token.now (state c.args.token.now).calls c.requires.idle g.O.Opens.opens c.load-head.new.token c.load-head.result c.load-head.ensures.step c.load-tail.new.token c.load-tail.result c.load-tail.ensures.step c.if-tail-head.false
    (2 + c.load-head.result % size) n (ap (λ (k : ℕ). 2 + c.load-head.result % k) (sym e))

pub returns-clause-looked : goal.returns-clause-looked
returns-clause-looked g c =
    let size = c.self.inside.size in
    let e = ap (λ (x : Table (Unit {0})). size_of x.origin) (sym c.self.view_is) ∙ size_kept size c.self.inside.words.origin c.self.invariant in
    is_at c.args.token.now (state c.args.token.now).calls c.requires.idle g.O.Opens.opens c.load-head.new.token c.load-head.result c.load-head.ensures.step c.load-tail.new.token c.load-tail.result c.load-tail.ensures.step c.if-tail-head.false
    (2 + c.load-head.result % size) _ _ c.load-item.new.token c.load-item.ensures.step (ap (λ (k : ℕ). 2 + c.load-head.result % k) (sym e))
