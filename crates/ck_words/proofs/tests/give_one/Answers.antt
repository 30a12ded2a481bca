use Rattle.std.proofs.Common.{arith, ◌<◌, length, sym, subst}
use Rattle.ck_words.specs.Buddies.{IsPieceOut, DropsPiece}
use Rattle.ck_words.specs.Held.{HoldsPieces}
use Rattle.ck_words.proofs.HeldLemmas.{held_at_is, holds_less}
use Rattle.ck_words.proofs.tests.give_one.Goals as goal

pub give-requires : goal.give-requires
give-requires c =
    let long = c.args.held.now.ok.0 in
    let within : c.args.i < length c.args.held.now.items = omega (arith, long, c.requires.within) in
    subst (IsPieceOut c.args.pool.now) (held_at_is c.args.held.now.items c.args.i c.remove-at.result within c.remove-at.ensures.value) (c.requires.holds.out c.args.i within)

pub returns-clause-holds : goal.returns-clause-holds
returns-clause-holds c =
    let long = c.args.held.now.ok.0 in
    let within : c.args.i < length c.args.held.now.items = omega (arith, long, c.requires.within) in
    let same = held_at_is c.args.held.now.items c.args.i c.remove-at.result within c.remove-at.ensures.value in
    subst (HoldsPieces c.give.new.self) (sym c.remove-at.ensures.items)
    (holds_less c.args.pool.now c.give.new.self c.args.held.now.items c.requires.holds c.args.i within (subst (DropsPiece c.args.pool.now c.give.new.self) (sym same) c.give.ensures.drops))
