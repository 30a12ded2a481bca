use Rattle.std.proofs.Common.{arith, ◌∙◌, sym}
use Rattle.std.proofs.lemmas.Bool.{eqb-true}
use Rattle.ck_script.proofs.Saying.{read_more, read_all, says_one}
use Rattle.ck_script.proofs.read.read_lines.Goals as goal

-- the line is read, and it is one byte at least
pub loop-rest-preserved : goal.loop-rest-preserved
loop-rest-preserved g c = let taken = c.in_ok-rest.ensures.ok in record {
  read = read_more g.L.ScriptLine.is_taken g.L.ScriptLine.spelling _ _ _ _ _ _ _ c.loop-rest.invariant.read taken.cut taken.adds;
  waits = c.in_ok-rest.ensures.waits c.loop-rest.invariant.waits;
  room = omega (arith, taken.shorter);
}

-- the whole file is read, and it says only this
pub returns-clause-only : goal.returns-clause-only
returns-clause-only g c other says =
    let ends = eqb-true _ _ (sym c.is_empty.ensures ∙ c.loop-rest-test.false) in
    let read = read_all g.L.ScriptLine.is_taken g.L.ScriptLine.spelling _ _ _ _ c.loop-rest.invariant.read ends in
    says_one g.L.ScriptLine.is_taken g.L.ScriptLine.spelling g.met.L.ScriptLine.one_line g.met.L.ScriptLine.speaks c.args.bytes.now other c.loop-rest.said.items says read
