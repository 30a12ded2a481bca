use Rattle.std.proofs.Common.{subst, sym, ◌∙◌}
use Rattle.std.proofs.lemmas.Bool.{false≢true}
use Rattle.ck_report.specs.Lines.{Next}
use Rattle.ck_report.proofs.FirstLine.{not_next}
use Rattle.ck_report.proofs.read.next_line.Goals as goal

-- whatever has these words leads to the place that may not follow
pub returns-else-leads_to : goal.returns-else-leads_to
returns-else-leads_to g c =
    let read = c.in-Some.ensures in
    not_next g.K.KeyWord.is_key g.K.KeyWord.spelling g.K.Ord.cmp g.met.K.KeyWord.one_key g.met.K.KeyWord.one_word c.args.place.now c.args.bytes.now c.in-Some.said read.0.0 read.0.1 read.1
    (λ next. false≢true (sym c.if-leads_to.false ∙ c.leads_to.ensures.1 (subst (Next g.K.Ord.cmp c.args.place.now) (sym c.place.ensures) next)))
