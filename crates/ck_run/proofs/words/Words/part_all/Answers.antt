use Rattle.std.proofs.Common.{◌≡◌, ◌+◌, ◌-◌, ◌<◌, ℕ, length, sym, ap, ◌∙◌, subst, arith}
use Rattle.ck_run.specs.Tokens.{table}
use Rattle.ck_run.specs.Ends.{EachFrom, keeper, fresh}
use Rattle.ck_run.proofs.Ends.{parted, each_snoc}
use Rattle.ck_run.proofs.words.Words.part_all.Goals as goal

pub part-part-requires-clause-table : goal.part-part-requires-clause-table
part-part-requires-clause-table g c = ap table c.loop-i.invariant.keeps

pub part-part-requires-clause-kept : goal.part-part-requires-clause-kept
part-part-requires-clause-kept g c = (parted c.args.self.now (c.loop-i.i + 1) (c.args.count - c.loop-i.i) c.loop-i.token (let l = c.loop-i-test.true in omega arith) c.loop-i.invariant.keeps).kept

pub make-end-requires : goal.make-end-requires
make-end-requires g c =
    let i = c.loop-i.i in
    let low : i < c.args.count = c.loop-i-test.true in
    let p = parted c.args.self.now (i + 1) (c.args.count - i) c.loop-i.token (omega arith) c.loop-i.invariant.keeps in
    subst (λ t. goal.F-pre g c.args.make (i + 1) t) (sym (c.part-part.ensures.part ∙ p.right)) (c.requires.make (i + 1) (omega arith) (omega arith))

pub loop-i-preserved : goal.loop-i-preserved
loop-i-preserved g c =
    let w = c.args.self.now in
    let i = c.loop-i.i in
    let low : i < c.args.count = c.loop-i-test.true in
    let p = parted w (i + 1) (c.args.count - i) c.loop-i.token (omega arith) c.loop-i.invariant.keeps in
    let n : length c.loop-i.ends.items ≡ i = omega (arith, c.loop-i.ends.ok, c.loop-i.invariant.counted) in
    let number : i + 1 ≡ 1 + length c.loop-i.ends.items = omega arith in
    let left : c.args.count - i - 1 ≡ c.args.count - (i + 1) = omega arith in
    record {
      keeps = c.part-part.ensures.token ∙ (p.left ∙ ap (keeper w (i + 1 + 1)) left);
      counted = c.push_reserved.ensures.len ∙ ap (λ (k : ℕ). k + 1) c.loop-i.invariant.counted;
      room = omega (arith, c.push_reserved.ensures.capacity, c.loop-i.invariant.room);
      made = subst (λ l. EachFrom (λ n end. goal.F-post g c.args.make n (fresh w n) end) 1 l) (sym c.push_reserved.ensures.items)
          (each_snoc (λ n end. goal.F-post g c.args.make n (fresh w n) end) 1 c.loop-i.ends.items c.make-end.result c.loop-i.invariant.made
          (subst (λ n. goal.F-post g c.args.make n (fresh w n) c.make-end.result) number (subst (λ t. goal.F-post g c.args.make (i + 1) t c.make-end.result) (c.part-part.ensures.part ∙ p.right) c.make-end.ensures)));
    }
