use Rattle.std.proofs.Common.{◌≡◌, ◌+◌, ◌<◌, ◌^◌, length, refl, rules, arith, sym, ◌∙◌}
use Rattle.std.proofs.lemmas.Bool.{false≢true}
use Rattle.std.proofs.lemmas.Grind.{common_steps}
use Rattle.ck_report.proofs.Faults.{read_none, read_more, whole, refused, first_fault, stops_early}
use Rattle.ck_report.proofs.read.read_map_report.Goals as goal

-- nothing is read yet
pub loop-rest-init : goal.loop-rest-init
loop-rest-init g c = record {
  read = read_none g.K.KeyWord.is_key g.K.KeyWord.spelling g.K.Ord.cmp c.args.bytes.now _ c.new.ensures.items (rw c.new-2.ensures.items refl) c.new-3.ensures.items;
  room = omega arith;
}

-- the line is read, and it is one byte at least
pub loop-rest-preserved : goal.loop-rest-preserved
loop-rest-preserved g c = record {
  read = rw c.place-place.ensures
      (read_more g.K.KeyWord.is_key g.K.KeyWord.spelling g.K.Ord.cmp g.met.K.Ord.total.trans c.args.bytes.now c.loop-rest.number c.loop-rest.rest.now c.loop-rest.place _ _ c.in-Some.said c.in-Some.later.now c.loop-rest.invariant.read c.in-Some.ensures.0 c.in-Some.ensures.1 c.in_ok-add-in-Some.ensures.ok);
  room = omega (arith, c.in-Some.ensures.2);
}

-- the line may not stand there
pub returns-in-None-clause-fault : goal.returns-in-None-clause-fault
returns-in-None-clause-fault g c =
    let some : 0 < length c.loop-rest.rest.now = first_of (search rules, grind (arith, common_steps)) in
    let small : c.loop-rest.number + 1 < 2 ^ 64 = omega arith in
    first_fault g.K.KeyWord.is_key g.K.KeyWord.spelling g.K.Ord.cmp g.met.K.KeyWord.one_key g.met.K.KeyWord.one_word c.args.bytes.now c.loop-rest.number c.loop-rest.rest.now c.loop-rest.place _ c.loop-rest.invariant.read small some c.in-None.ensures

pub returns-in-None-clause-refused : goal.returns-in-None-clause-refused
returns-in-None-clause-refused g c = refused g.K.KeyWord.is_key g.K.KeyWord.spelling g.K.Ord.cmp c.args.bytes.now _ (returns-in-None-clause-fault g c)

-- the text ends with the report
pub returns-then-is_end-clause-read : goal.returns-then-is_end-clause-read
returns-then-is_end-clause-read g c =
    let none : length c.loop-rest.rest.now ≡ 0 = first_of (search rules, grind (arith, common_steps)) in
    whole g.K.KeyWord.is_key g.K.KeyWord.spelling g.K.Ord.cmp c.args.bytes.now c.loop-rest.number c.loop-rest.rest.now c.loop-rest.place _ c.loop-rest.invariant.read none (c.is_end.ensures.0 c.if-is_end.true)

-- the text ends before it
pub returns-else-is_end-clause-fault : goal.returns-else-is_end-clause-fault
returns-else-is_end-clause-fault g c =
    let none : length c.loop-rest.rest.now ≡ 0 = first_of (search rules, grind (arith, common_steps)) in
    let small : c.loop-rest.number + 1 < 2 ^ 64 = omega arith in
    stops_early g.K.KeyWord.is_key g.K.KeyWord.spelling g.K.Ord.cmp g.met.K.KeyWord.one_key g.met.K.KeyWord.one_word c.args.bytes.now c.loop-rest.number c.loop-rest.rest.now c.loop-rest.place _ c.loop-rest.invariant.read none small
    (λ over. false≢true (sym c.if-is_end.false ∙ c.is_end.ensures.1 over))

pub returns-else-is_end-clause-refused : goal.returns-else-is_end-clause-refused
returns-else-is_end-clause-refused g c = refused g.K.KeyWord.is_key g.K.KeyWord.spelling g.K.Ord.cmp c.args.bytes.now _ (returns-else-is_end-clause-fault g c)
