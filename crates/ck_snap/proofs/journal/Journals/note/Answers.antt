use Rattle.std.proofs.Common.{refl, ap, sym, ◌∙◌, arith}
use Rattle.atomic_table.specs.Table.{keeps}
use Rattle.ck_snap.specs.Journal.{JournalView}
use Rattle.ck_snap.proofs.journal.Journals.note.Goals as goal

pub load-requires : goal.load-requires
load-requires g c =
    let table = ap (λ (j : JournalView). j.journals) c.journal.view_is ∙ (c.requires ∙ sym c.self.view_is) in
    (table, omega (arith, c.self.invariant), λ s h len at lt. (_, keeps, tt, tt, refl))
