use Rattle.std.proofs.Common.{◌≡◌, ◌∷◌, codes, sym, ◌∙◌, ap}
use Rattle.std.proofs.lemmas.Bool.Decides.{Decides-eqb}
use Rattle.std.proofs.lemmas.Slice.Eq.{slice_eq-Decides}
use Rattle.ck_report.specs.Lines.{IsTaken, IsShort, line_words}
use Rattle.ck_text.specs.Words.{words}
use Rattle.ck_report.proofs.Words.{none_read, update_only, answer_only, pair_only}
use Rattle.ck_report.proofs.read_line.read_line.Goals as goal

pub returns-in_err-number-in-Some : goal.returns-in_err-number-in-Some
returns-in_err-number-in-Some g c =
    let verb : c.in-Some.verb.now ≡ codes "u" = (slice_eq-Decides Decides-eqb _ _ _ c.eq-in-Some.ensures).0 c.if-eq-2.true ∙ c.as_slice-in-Some.ensures in
    none_read (λ said. IsTaken g.K.KeyWord.is_key said × IsShort said) (line_words g.K.KeyWord.spelling) c.args.line.now _ c.from_residual.ensures (λ said fits spelt.
    let found = update_only g.K.KeyWord.is_key g.K.KeyWord.spelling said _ (sym spelt ∙ (c.in-Some.ensures.0 ∙ ap (λ v. v ∷ words c.in-Some.rest.now) verb)) fits.0 fits.1 in
    c.in_err-number-in-Some.ensures (found.0, found.1) (found.2, found.3) found.4)

pub returns-in_err-file-in-Some : goal.returns-in_err-file-in-Some
returns-in_err-file-in-Some g c =
    let verb : c.in-Some.verb.now ≡ codes "q" = (slice_eq-Decides Decides-eqb _ _ _ c.eq-else-eq-2.ensures).0 c.if-eq-3.true ∙ c.as_slice-else-eq-2.ensures in
    none_read (λ said. IsTaken g.K.KeyWord.is_key said × IsShort said) (line_words g.K.KeyWord.spelling) c.args.line.now _ c.from_residual-in_err-file-in-Some.ensures (λ said fits spelt.
    let found = answer_only g.K.KeyWord.is_key g.K.KeyWord.spelling said _ (sym spelt ∙ (c.in-Some.ensures.0 ∙ ap (λ v. v ∷ words c.in-Some.rest.now) verb)) fits.0 fits.1 in
    c.in_err-file-in-Some.ensures (found.0, found.1, found.2) (found.3, found.4, found.5) found.6)

pub returns-in_err-key-in-Some : goal.returns-in_err-key-in-Some
returns-in_err-key-in-Some g c =
    let verb : c.in-Some.verb.now ≡ codes "t" = (slice_eq-Decides Decides-eqb _ _ _ c.eq-else-eq-3.ensures).0 c.if-eq-4.true ∙ c.as_slice-else-eq-3.ensures in
    none_read (λ said. IsTaken g.K.KeyWord.is_key said × IsShort said) (line_words g.K.KeyWord.spelling) c.args.line.now _ c.from_residual-in_err-key-in-Some.ensures (λ said fits spelt.
    let found = pair_only g.K.KeyWord.is_key g.K.KeyWord.spelling said _ (sym spelt ∙ (c.in-Some.ensures.0 ∙ ap (λ v. v ∷ words c.in-Some.rest.now) verb)) fits.0 fits.1 in
    c.in_err-key-in-Some.ensures (found.0, found.1) (found.2, found.3) found.4)
