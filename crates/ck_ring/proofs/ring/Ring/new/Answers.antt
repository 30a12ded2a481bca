use Rattle.std.proofs.Common.{rules, ◌≡◌, ℕ, ◌+◌, ◌*◌, ◌%◌, ◌^◌, replicate, length, refl, ap, sym, ◌∙◌, subst, arith}
use Rattle.ck_ring.specs.State.{Origin, IsOpening}
use Rattle.ck_run.specs.Ends.{fresh}
use Rattle.ck_run.proofs.Ends.{first_keeps, each_weaker}
use Rattle.ck_ring.proofs.Making.{zeros_open, size_is, size_low, size_high, new_ready}
use Rattle.ck_ring.proofs.ring.Ring.new.Goals as goal
use Rattle.ck_ring.proofs.ring.Ring.new.Goals.{In_ok-vec}

opened : (c : In_ok-vec) → IsOpening c.in_ok-vec.field-0.items
opened c = let a = size_is c.args.log_size c.requires.size.1 in let b = size_low c.args.log_size c.requires.size.0 in
    zeros_open c.in_ok-vec.field-0.items (1 * 2 ^ c.args.log_size % 2 ^ 64 + 2) (c.in_ok-vec.ensures.items_if_clones_equal (λ y e. e)) (omega arith)

pub new-requires-clause-starts : goal.new-requires-clause-starts
new-requires-clause-starts c n = (opened (goal.at.new-requires-clause-starts c).In_ok-vec, tt)

pub part_all-requires-clause-token : goal.part_all-requires-clause-token
part_all-requires-clause-token c = first_keeps _ _ c.args.consumers (ap (λ (o : Origin). o.tokens) c.in_ok-words.ensures.origin) c.in_ok-words.ensures.token

pub part_all-requires-clause-make : goal.part_all-requires-clause-make
part_all-requires-clause-make c n pos low = (c.in_ok-words.words, refl, pos, subst (λ (o : Origin). IsOpening o.words) (sym c.in_ok-words.ensures.origin) (opened (goal.at.part_all-requires-clause-make c).In_ok-vec))

pub invariant_of-producer : goal.invariant_of-producer
invariant_of-producer c = new_ready _ _ c.part_all.ensures.token (subst (λ (o : Origin). IsOpening o.words) (sym c.in_ok-words.ensures.origin) (opened (goal.at.invariant_of-producer c).In_ok-vec))

pub invariant_of-result : goal.invariant_of-result
invariant_of-result c =
    let a = size_is c.args.log_size c.requires.size.1 in
    let b = size_low c.args.log_size c.requires.size.0 in
    let d = size_high c.args.log_size c.requires.size.1 in
    let words : length c.in_ok-words.words.origin.words ≡ length c.in_ok-vec.field-0.items = ap (λ (o : Origin). length o.words) c.in_ok-words.ensures.origin in
    record {
      counted = omega (arith, c.in_ok-vec.ensures.len, c.in_ok-vec.field-0.ok);
      low = omega arith;
      high = omega arith;
    }

pub returns-clause-words : goal.returns-clause-words
returns-clause-words c =
    ap (λ (o : Origin). o.words) c.in_ok-words.ensures.origin ∙ (c.in_ok-vec.ensures.items_if_clones_equal (λ y e. e) ∙ ap (λ (n : ℕ). replicate (n + 2) 0) (size_is c.args.log_size c.requires.size.1))

pub returns-clause-consumers : goal.returns-clause-consumers
returns-clause-consumers c = (
  c.part_all.ensures.ends.0,
  each_weaker _ (λ n t. t ≡ fresh c.in_ok-words.words n) 1 c.part_all.new.ends.items (λ n t low q. search rules) c.part_all.ensures.ends.1,
)
