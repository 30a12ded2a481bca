use Rattle.std.proofs.Common.{◌≡◌, ◌++◌, ℕ, Vec, Ok, ap, ◌∙◌}
use Rattle.std.specs.declared.alloc.Global.{Global}
use Rattle.ck_report.proofs.Blocks.{on_appended}
use Rattle.ck_report.proofs.tasks.append_text.Goals as goal

pub returns-in-Ok : goal.returns-in-Ok
returns-in-Ok c =
    let old = c.args.out.now.items in
    let new = c.extend_from_slice.new.self.items in
    on_appended c.extend_from_slice.result ((t : Vec ℕ Global) × (c.args.text.now ≡ Ok t) × (new ≡ old ++ t.items)) old c.deref.result.now new c.extend_from_slice.ensures.items
    (λ is. (c.in-Ok.text, c.in-Ok.is, is ∙ ap (λ t. old ++ t) c.deref.ensures.value))
