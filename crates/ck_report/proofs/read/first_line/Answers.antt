use Rattle.std.proofs.Common.{◌∷◌, [], ap, ◌∙◌}
use Rattle.ck_report.proofs.FirstLine.{none_unfed, none_said, line_here}
use Rattle.ck_report.proofs.read.first_line.Goals as goal

-- the text has no line feed
pub returns-in-None : goal.returns-in-None
returns-in-None g c =
    let one = (rw c.in-None.is at c.cut.ensures.parts) ∙ ap (λ b. b ∷ []) (c.cut.ensures.whole c.in-None.is) in
    none_unfed g.K.KeyWord.is_key g.K.KeyWord.spelling g.K.Ord.cmp g.met.K.KeyWord.one_key g.met.K.KeyWord.one_word c.args.place.now c.args.text.now one c.requires

-- its first line says nothing that may stand there
pub returns-in-None-next_line : goal.returns-in-None-next_line
returns-in-None-next_line g c =
    none_said g.K.KeyWord.is_key g.K.KeyWord.spelling g.K.Ord.cmp g.met.K.KeyWord.one_key g.met.K.KeyWord.one_word c.args.place.now c.args.text.now c.cut.result.0.now c.in-Some.later.now (rw c.in-Some.is at c.cut.ensures.parts) c.in-None-next_line.ensures

pub returns-in-Some-next_line : goal.returns-in-Some-next_line
returns-in-Some-next_line g c =
    let read = c.in-Some-next_line.ensures in
    (read.0, line_here g.K.KeyWord.spelling c.args.text.now c.cut.result.0.now c.in-Some.later.now c.in-Some-next_line.said (rw c.in-Some.is at c.cut.ensures.parts) read.1, rw c.in-Some.is at c.cut.ensures.shorter)
