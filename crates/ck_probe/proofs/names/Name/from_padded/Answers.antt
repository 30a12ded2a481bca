use Rattle.std.proofs.Common.{◌≡◌, ℕ, List, ◌-◌, length, take, drop, rules, refl, subst, arith}
use Rattle.std.specs.Prelude.{All}
use Rattle.std.proofs.lemmas.List.{length-drop, take_all}
use Rattle.ck_probe.proofs.EntryBlocks.{holds_name}
use Rattle.ck_probe.proofs.names.Name.from_padded.Goals as goal

pub invariant_of-result : goal.invariant_of-result
invariant_of-result c =
    let long : length c.args.bytes ≡ 48 = search rules in
    let P : List ℕ → Type 0 = All (λ b. b ≡ 0) in
    let zeros : All (λ b. b ≡ 0) (take (48 - c.args.len) (drop c.args.len c.args.bytes)) = search rules in
    let whole : take (48 - c.args.len) (drop c.args.len c.args.bytes) ≡ drop c.args.len c.args.bytes =
    take_all (48 - c.args.len) (drop c.args.len c.args.bytes) (omega (arith, length-drop c.args.len c.args.bytes)) in
    holds_name c.args.bytes c.args.len long (search rules) (search rules) (search rules) (subst P whole zeros)

pub returns-clause-exactly : goal.returns-clause-exactly
returns-clause-exactly c = (λ _. invariant_of-result c, λ _. refl)
