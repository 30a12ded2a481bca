use Rattle.std.proofs.Common.{◌≡◌, ℕ, ap, ◌∙◌, rules}
use Rattle.std.specs.Prelude.{List, slice_index, replicate}
use Rattle.ck_htwrite.proofs.Building.{zero_at}
use Rattle.ck_htwrite.proofs.growth.blank.Goals as goal

pub returns-clause-zeros : goal.returns-clause-zeros
returns-clause-zeros c i =
    let is : c.resize.new.self.items ≡ replicate c.args.count 0 = search rules in
    ap (λ (xs : List ℕ). slice_index xs i) is ∙ zero_at c.args.count i
