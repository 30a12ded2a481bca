use Rattle.std.proofs.Common.{◌++◌, ◌∙◌, ap, length, drop, refl, rules}
use Rattle.std.specs.Prelude.{replicate}
use Rattle.ck_probe.specs.Names.{IsName}
use Rattle.ck_probe.proofs.NameBytes.{holds_padded, written-padded}
use Rattle.ck_probe.proofs.names.Name.new.Goals as goal

is_name : (c : goal.After-padded-2-1) → IsName c.args.bytes.now
is_name c = record { not_empty = search rules; in_limit = search rules; graphic = search rules }

pub invariant_of-result : goal.invariant_of-result
invariant_of-result c =
    holds_padded c.args.bytes.now _ (is_name c)
    (ap (λ name. name ++ drop (length c.args.bytes.now) (replicate 48 0)) c.copy_from_slice.ensures.after ∙ written-padded c.args.bytes.now (replicate 48 0) refl)
