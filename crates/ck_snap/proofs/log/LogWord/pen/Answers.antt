use Rattle.std.proofs.Common.{sym, ◌∙◌, ap}
use Rattle.ck_snap.proofs.Adding.{make_moves}
use Rattle.ck_snap.proofs.log.LogWord.pen.Goals as goal

pub compare_exchange-requires : goal.compare_exchange-requires
compare_exchange-requires c =
    let word = c.self.invariant in
    let offer = c.plain-offer.ensures in
    let pen = c.no_pen-pen.ensures in
    let book = ap (λ s. s.book) c.again-known.ensures ∙ (c.requires ∙ sym c.self.view_is) in (
      ap (λ w. w.tracked) word,
      book,
      pen.0 ∙ book,
      offer.0,
      rw (ap (λ w. w.key) word, pen.1, offer.3) (make_moves c.again-known.result.log c.plain-offer.result.ask),
    )
