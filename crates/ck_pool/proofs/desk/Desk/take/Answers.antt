use Rattle.std.proofs.Common.{◌<◌, ◌∷◌, ◌∙◌, length, Some, None, sym, ap, subst, arith}
use Rattle.ck_pool.specs.Desk.{DeskView}
use Rattle.ck_pool.proofs.Taking.{takes_slot, gives_slot_at, clerk_in, took_one, took_here, head_is, after_exchange}
use Rattle.ck_pool.proofs.desk.Desk.take.Goals as goal

pub compare_exchange-found-requires : goal.compare_exchange-found-requires
compare_exchange-found-requires g c =
    let eyes = c.self.inside.table.shared.key.value.items in
    let seat = c.clerk.inside.seat in
    let k = clerk_in c.self.inside.table.shared.table_id eyes seat.table_id seat.me.0 c.args.self.now c.args.clerk.now c.self.view_is c.clerk.view_is c.requires.clerk in
    let lt : c.args.file < length eyes = subst (λ (d : DeskView g.row.E.Denot). c.args.file < length d.eyes) (sym c.self.view_is) c.requires.file in
    (k.made, omega (arith, c.self.invariant.0, lt), takes_slot eyes c.self.inside.table.shared.table_id.slots seat.id c.args.file seat.me k.eyes k.some_part lt)

pub exchange-eye-requires : goal.exchange-eye-requires
exchange-eye-requires g c =
    let seat = c.clerk.inside.seat in
    let new = c.compare_exchange-found.new.seat in
    let k = clerk_in c.self.inside.table.shared.table_id c.self.inside.table.shared.key.value.items seat.table_id seat.me.0 c.args.self.now c.args.clerk.now c.self.view_is c.clerk.view_is c.requires.clerk in
    let t = took_one c.args.file c.compare_exchange-found.result seat.me new.me c.if-found-ne0.false c.compare_exchange-found.ensures.2 in
    (c.compare_exchange-found.ensures.0 ∙ k.made, (Some t.0, head_is new.me.1 (c.args.file, Some t.0) seat.me.1 (ap (λ w. w.1) t.2)))

pub load-requires : goal.load-requires
load-requires g c =
    let eyes = c.self.inside.table.shared.key.value.items in
    let f = c.args.file in
    let seat = c.clerk.inside.seat in
    let new = c.compare_exchange-found.new.seat in
    let last = c.exchange-eye.new.seat in
    let k = clerk_in c.self.inside.table.shared.table_id eyes seat.table_id seat.me.0 c.args.self.now c.args.clerk.now c.self.view_is c.clerk.view_is c.requires.clerk in
    let lt : f < length eyes = subst (λ (d : DeskView g.row.E.Denot). f < length d.eyes) (sym c.self.view_is) c.requires.file in
    let t = took_one f c.compare_exchange-found.result seat.me new.me c.if-found-ne0.false c.compare_exchange-found.ensures.2 in
    let is = after_exchange seat.me new.me last.me (record seat.me.0 { took = f ∷ seat.me.0.took }) f (Some t.0) None c.clerk.invariant t.2 c.exchange-eye.ensures.3 in (
      c.exchange-eye.ensures.0 ∙ (c.compare_exchange-found.ensures.0 ∙ k.made),
      omega (arith, c.self.invariant.0, lt),
      gives_slot_at eyes c.self.inside.table.shared.table_id.slots last.id f last.me (record seat.me.0 { took = f ∷ seat.me.0.took }) None is (took_here f seat.me.0.took),
    )
