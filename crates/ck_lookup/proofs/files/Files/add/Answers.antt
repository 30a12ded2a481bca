use Rattle.std.proofs.Common.{refl, arith}
use Rattle.std.proofs.lemmas.Bool.{false≢true}
use Rattle.ck_lookup.proofs.Within.{fits_if_within}
use Rattle.ck_lookup.proofs.files.Files.add.Goals as goal

pub returns-then-not-is_within : goal.returns-then-not-is_within
returns-then-not-is_within c = (
  refl,
  λ within.
      let fits = fits_if_within _ c.self.inside.bytes c.self.inside.lines c.args.file.items c.self.invariant (rw (← c.self.view_is) at within) in
      let held = rw c.deref.ensures.value at c.count_lines-lines.ensures in
      false≢true (c.if-not-is_within.ensures.1 (omega (arith, fits.0), omega (arith, fits.1, held), omega (arith, fits.2), omega (arith, fits.3, held))),
)
