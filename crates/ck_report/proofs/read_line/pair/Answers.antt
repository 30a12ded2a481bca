use Rattle.std.proofs.Common.{Some, ◌∷◌, [], codes, decimal}
use Rattle.ck_report.specs.Reports.{IsPair}
use Rattle.ck_report.proofs.Words.{none_read}
use Rattle.ck_report.proofs.read_line.pair.Goals as goal

-- a pair is read as an answer that found its value
pub returns-in_err-key : goal.returns-in_err-key
returns-in_err-key g c =
    none_read (IsPair g.K.KeyWord.is_key) (λ p. g.K.KeyWord.spelling p.0 ∷ codes "=" ∷ decimal p.1 ∷ []) c.args.text.now _ c.from_residual.ensures (λ p fits spelt. c.in_err-key.ensures (record { key = p.0; found = Some p.1 }) (fits.0, fits.1) spelt)
