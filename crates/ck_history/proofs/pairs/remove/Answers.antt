use Rattle.std.proofs.Common.{ap, sym, subst, arith}
use Rattle.ck_history.specs.Index.{StandsAt, BelongsAt}
use Rattle.ck_history.proofs.Order.{IsMap-remove_entry}
use Rattle.ck_history.proofs.Index.{found}
use Rattle.ck_history.proofs.Made.{made-remove, made-remove_none}
use Rattle.ck_history.proofs.pairs.remove.Goals as goal

pub remove-requires : goal.remove-requires
remove-requires g c =
    let here = found g.met.K.Ord.total _ _ _ c.in-Ok.ensures in
    omega (arith, here.in_range, c.deref.ensures.len)

pub returns-in-Ok-clause-order : goal.returns-in-Ok-clause-order
returns-in-Ok-clause-order g c =
    let stands = subst (λ m. StandsAt g.K.Ord.cmp c.args.key.now m c.in-Ok.at) c.deref.ensures.value c.in-Ok.ensures in
    let here = found g.met.K.Ord.total _ _ _ stands in
    rw (c.remove.ensures.items, here.removes) (IsMap-remove_entry _ _ _ c.requires)

pub returns-in-Ok-clause-reply : goal.returns-in-Ok-clause-reply
returns-in-Ok-clause-reply g c =
    let stands = subst (λ m. StandsAt g.K.Ord.cmp c.args.key.now m c.in-Ok.at) c.deref.ensures.value c.in-Ok.ensures in
    let made = made-remove g.met.K.Ord.total 0 _ _ _ stands _ c.remove.ensures.value in
    ap (λ p. p.1) (sym made)

pub returns-in-Ok-clause-pairs : goal.returns-in-Ok-clause-pairs
returns-in-Ok-clause-pairs g c =
    let stands = subst (λ m. StandsAt g.K.Ord.cmp c.args.key.now m c.in-Ok.at) c.deref.ensures.value c.in-Ok.ensures in
    let made = made-remove g.met.K.Ord.total 0 _ _ _ stands _ c.remove.ensures.value in
    rw c.remove.ensures.items (ap (λ p. p.0) (sym made))

pub returns-in-Err-clause-reply : goal.returns-in-Err-clause-reply
returns-in-Err-clause-reply g c =
    let belongs = subst (λ m. BelongsAt g.K.Ord.cmp c.args.key.now m c.in-Err.field-0) c.deref.ensures.value c.in-Err.ensures in
    let made = made-remove_none g.met.K.Ord.total 0 _ _ _ c.requires belongs in
    ap (λ p. p.1) (sym made)

pub returns-in-Err-clause-pairs : goal.returns-in-Err-clause-pairs
returns-in-Err-clause-pairs g c =
    let belongs = subst (λ m. BelongsAt g.K.Ord.cmp c.args.key.now m c.in-Err.field-0) c.deref.ensures.value c.in-Err.ensures in
    let made = made-remove_none g.met.K.Ord.total 0 _ _ _ c.requires belongs in
    ap (λ p. p.0) (sym made)
