use Rattle.std.proofs.Common.{◌≡◌, ◌<◌, ◌∙◌, length, ap, sym, refl, arith}
use Rattle.std.proofs.lemmas.Option.{slice_get_read}
use Rattle.ck_script.proofs.Columns.{rows_long, place_within, narrow_parts, wide_parts}
use Rattle.ck_script.proofs.rows.Rows.parts.Goals as goal

pub index-kind-requires : goal.index-kind-requires
index-kind-requires g c =
    let e : length c.self.inside.kinds.items ≡ length c.args.self.now = sym (rows_long c.self.inside.jumps.items c.self.inside.wides.items 0 c.self.inside.kinds.items c.self.inside.cells.items c.self.invariant.same) ∙ ap length c.self.view_is in
    omega (arith, e, c.requires)

pub index-requires : goal.index-requires
index-requires g c =
    let e : length c.self.inside.kinds.items ≡ length c.args.self.now = sym (rows_long c.self.inside.jumps.items c.self.inside.wides.items 0 c.self.inside.kinds.items c.self.inside.cells.items c.self.invariant.same) ∙ ap length c.self.view_is in
    omega (arith, e, c.requires, c.self.invariant.same)

pub index-requires-else-kind-lt-WIDE : goal.index-requires-else-kind-lt-WIDE
index-requires-else-kind-lt-WIDE g c =
    let e : length c.self.inside.kinds.items ≡ length c.args.self.now = sym (rows_long c.self.inside.jumps.items c.self.inside.wides.items 0 c.self.inside.kinds.items c.self.inside.cells.items c.self.invariant.same) ∙ ap length c.self.view_is in
    let kind = slice_get_read c.self.inside.kinds.items _ c.args.i c.index-kind.result.now refl (omega (arith, e, c.requires)) c.index-kind.ensures in
    let cell = slice_get_read c.self.inside.cells.items _ c.args.i c.index.result.now refl (omega (arith, e, c.requires, c.self.invariant.same)) c.index.ensures in
    let within : c.index.result.now.0 < length c.self.inside.wides.items = place_within _ _ _ _ _ c.self.invariant c.args.i _ _ kind cell c.if-kind-lt-WIDE.false in
    omega (arith, within)

pub returns-then-kind-lt-WIDE : goal.returns-then-kind-lt-WIDE
returns-then-kind-lt-WIDE g c row is =
    let e : length c.self.inside.kinds.items ≡ length c.args.self.now = sym (rows_long c.self.inside.jumps.items c.self.inside.wides.items 0 c.self.inside.kinds.items c.self.inside.cells.items c.self.invariant.same) ∙ ap length c.self.view_is in
    let kind = slice_get_read c.self.inside.kinds.items _ c.args.i c.index-kind.result.now refl (omega (arith, e, c.requires)) c.index-kind.ensures in
    let cell = slice_get_read c.self.inside.cells.items _ c.args.i c.index.result.now refl (omega (arith, e, c.requires, c.self.invariant.same)) c.index.ensures in
    narrow_parts _ _ _ _ _ c.self.invariant c.args.i _ _ kind cell row (rw c.self.view_is is) c.if-kind-lt-WIDE.true

pub returns-else-kind-lt-WIDE : goal.returns-else-kind-lt-WIDE
returns-else-kind-lt-WIDE g c row is =
    let e : length c.self.inside.kinds.items ≡ length c.args.self.now = sym (rows_long c.self.inside.jumps.items c.self.inside.wides.items 0 c.self.inside.kinds.items c.self.inside.cells.items c.self.invariant.same) ∙ ap length c.self.view_is in
    let kind = slice_get_read c.self.inside.kinds.items _ c.args.i c.index-kind.result.now refl (omega (arith, e, c.requires)) c.index-kind.ensures in
    let cell = slice_get_read c.self.inside.cells.items _ c.args.i c.index.result.now refl (omega (arith, e, c.requires, c.self.invariant.same)) c.index.ensures in
    wide_parts _ _ _ _ _ c.self.invariant c.args.i _ _ kind cell row c.index-else-kind-lt-WIDE.result.now (rw c.self.view_is is) c.if-kind-lt-WIDE.false c.index-else-kind-lt-WIDE.ensures
