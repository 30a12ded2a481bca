use Rattle.std.proofs.Common.{◌≡◌, ◌∙◌, ap, sym, take}
use Rattle.std.specs.Prelude.{map, if◌then◌else◌}
use Rattle.std.specs.Char.{to_ascii_lowercase}
use Rattle.ck_probe.specs.Names.{HoldsName}
use Rattle.ck_probe.specs.Canon.{canon_of}
use Rattle.ck_probe.proofs.NameBytes.{canon_of-canon_of, holds-canon_of}
use Rattle.ck_probe.proofs.names.canon.Goals as goal
use Rattle.ck_probe.proofs.names.canon.Goals.{then-style, else-style}

-- what the two branches make of the bytes
spelled : (c : goal.Joined-style) → c.if-style.bytes ≡ (if c.args.style.fold then map to_ascii_lowercase c.name.inside.bytes else c.name.inside.bytes)
spelled c =
    elim c.if-style.branch [
      | then-style w ↦ rw w.if-style.true (w.bytes-is ∙ w.fold_case.ensures)
      | else-style w ↦ rw w.if-style.false w.bytes-is
    ]

held : (c : goal.Joined-style) → HoldsName c.if-style.bytes c.name.inside.len × (take c.name.inside.len c.if-style.bytes ≡ canon_of c.args.style (take c.name.inside.len c.name.inside.bytes))
held c = holds-canon_of c.args.style c.name.inside.bytes c.if-style.bytes c.name.inside.len c.name.invariant (spelled c)

pub invariant_of-result : goal.invariant_of-result
invariant_of-result c = (held c).0

pub returns-clause-is_name : goal.returns-clause-is_name
returns-clause-is_name c = (held c).0.name

pub returns-clause-idempotent : goal.returns-clause-idempotent
returns-clause-idempotent c =
    ap (canon_of c.args.style) (held c).1 ∙ canon_of-canon_of c.args.style (take c.name.inside.len c.name.inside.bytes) ∙ sym (held c).1
