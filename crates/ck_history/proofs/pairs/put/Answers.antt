use Rattle.std.proofs.Common.{◌≡◌, IfOk, OnOk, OnErr, ap, sym, subst, arith}
use Rattle.ck_history.specs.declared.update.Reply.TheVariants.{Fresh}
use Rattle.ck_history.specs.Index.{StandsAt, BelongsAt}
use Rattle.ck_history.proofs.Index.{found}
use Rattle.ck_history.proofs.Made.{made-put_over, made-put_new}
use Rattle.ck_history.proofs.pairs.put.Goals as goal

pub index-requires : goal.index-requires
index-requires g c =
    let here = found g.met.K.Ord.total _ _ _ c.in-Ok.ensures in
    omega (arith, here.in_range, c.deref.ensures.len)

pub returns-in-Ok-clause-reply : goal.returns-in-Ok-clause-reply
returns-in-Ok-clause-reply g c =
    let stands = subst (λ m. StandsAt g.K.Ord.cmp c.args.key m c.in-Ok.at) c.deref.ensures.value c.in-Ok.ensures in
    let made = made-put_over g.met.K.Ord.total c.args.most _ _ _ stands _ c.index.ensures c.args.value in
    ap (λ p. p.1) (sym made)

pub returns-in-Ok-clause-ok : goal.returns-in-Ok-clause-ok
returns-in-Ok-clause-ok g c =
    let stands = subst (λ m. StandsAt g.K.Ord.cmp c.args.key m c.in-Ok.at) c.deref.ensures.value c.in-Ok.ensures in
    let made = made-put_over g.met.K.Ord.total c.args.most _ _ _ stands _ c.index.ensures c.args.value in
    ap (λ p. p.0) (sym made)

pub returns-in-Err-clause-reply : goal.returns-in-Err-clause-reply
returns-in-Err-clause-reply g c =
    let belongs = subst (λ m. BelongsAt g.K.Ord.cmp c.args.key m c.in-Err.at) c.deref.ensures.value c.in-Err.ensures in
    let made = made-put_new g.met.K.Ord.total c.args.most _ _ _ c.requires belongs c.args.value in
    subst (λ after. IfOk c.add.result (λ reply. reply ≡ after.1)) (sym made) c.add.ensures.reply

pub returns-in-Err-clause-ok : goal.returns-in-Err-clause-ok
returns-in-Err-clause-ok g c =
    let belongs = subst (λ m. BelongsAt g.K.Ord.cmp c.args.key m c.in-Err.at) c.deref.ensures.value c.in-Err.ensures in
    let made = made-put_new g.met.K.Ord.total c.args.most _ _ _ c.requires belongs c.args.value in
    subst (λ after. OnOk c.add.result (c.add.new.pairs.items ≡ after.0)) (sym made) c.add.ensures.ok

pub returns-in-Err-clause-memory : goal.returns-in-Err-clause-memory
returns-in-Err-clause-memory g c =
    let belongs = subst (λ m. BelongsAt g.K.Ord.cmp c.args.key m c.in-Err.at) c.deref.ensures.value c.in-Err.ensures in
    let made = made-put_new g.met.K.Ord.total c.args.most _ _ _ c.requires belongs c.args.value in
    subst (λ after. OnErr c.add.result (after.1 ≡ Fresh)) (sym made) c.add.ensures.memory
