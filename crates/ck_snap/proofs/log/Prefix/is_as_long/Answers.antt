use Rattle.std.proofs.Common.{◌≡◌, ◌∙◌, List, ap, sym, subst, arith}
use mathlib.Core.List.{IsPrefix}
use Rattle.ck_snap.specs.declared.log.Link.{Link}
use Rattle.ck_snap.specs.Growing.{LogPart, entries}
use Rattle.ck_snap.proofs.Adding.{entries-prefix}
use Rattle.ck_snap.proofs.Prefixes.{prefix_same}
use Rattle.ck_snap.proofs.log.Prefix.is_as_long.Goals as goal

pub returns-clause-same : goal.returns-clause-same
returns-clause-same c both_as_long =
    let mine = c.self.inside.seen in
    let other = c.other.inside.seen in
    let both = c.learn.new.self.log in
    let this : IsPrefix mine.log both = subst (λ (l : List Link). IsPrefix l both) (ap (λ s. s.log) c.again-both.ensures) c.learn.ensures.2 in
    let logs : entries mine.log ≡ entries other.log = prefix_same (entries mine.log) (entries other.log) (entries both) (entries-prefix mine.log both this) (entries-prefix other.log both c.learn.ensures.3) (omega (arith, c.self.invariant.0, c.other.invariant.0)) in
    let books : mine.book ≡ other.book = ap (λ (r : LogPart). r.book) c.self.view_is ∙ (c.requires ∙ ap (λ (r : LogPart). r.book) (sym c.other.view_is)) in
    sym c.self.view_is ∙ (cc (books, logs) ∙ c.other.view_is)
