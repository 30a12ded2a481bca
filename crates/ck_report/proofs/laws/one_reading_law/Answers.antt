use Rattle.ck_report.proofs.OneReading.{one_reading}
use Rattle.ck_report.proofs.laws.one_reading_law.Goals as goal

pub returns : goal.returns
returns g c = one_reading g.K.KeyWord.is_key g.K.KeyWord.spelling g.K.Ord.cmp g.met.K.KeyWord.one_key g.met.K.KeyWord.one_word
