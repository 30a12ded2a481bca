use Rattle.std.proofs.Common.{◌≡◌, ℕ, ◌+◌, [], ◌∷◌, ◌++◌, length, length-append, append_assoc, sym, ap, ◌∙◌, subst, arith}
use Rattle.ck_run.specs.Ends.{EachFrom, fresh}
use Rattle.ck_run.proofs.Ends.{each_snoc}
use Rattle.ck_registry.specs.State.{Token}
use Rattle.ck_registry.specs.Ends.{Visitor}
use Rattle.ck_registry.proofs.Parting.{each_next, low_next}
use Rattle.ck_registry.proofs.opening.visitors_of.Goals as goal

pub new-requires-in-loop-token-clause-fresh : goal.new-requires-in-loop-token-clause-fresh
new-requires-in-loop-token-clause-fresh c =
    let f = c.requires.fresh in
    let xs = c.loop-token.yielded in let ys = c.next.new.self.rest.items in let x = c.in-Some.token in
    let all : xs ++ x ∷ ys ≡ c.args.others.items = ap (λ l. xs ++ l) (sym c.in-Some.ensures.steps.0) ∙ c.loop-token.invariant.left in
    let few = low_next xs ys c.args.others.items x all in
    let len = c.args.others.ok.0 in let tokens = f.3 in
    (f.0, 1 + length xs, each_next (λ n t. t ≡ fresh f.0 n) 1 xs ys c.args.others.items x all f.2, omega arith, f.4)

pub loop-token-preserved : goal.loop-token-preserved
loop-token-preserved c =
    let xs = c.loop-token.yielded in let ys = c.next.new.self.rest.items in let x = c.in-Some.token in
    let all : xs ++ x ∷ ys ≡ c.args.others.items = ap (λ l. xs ++ l) (sym c.in-Some.ensures.steps.0) ∙ c.loop-token.invariant.left in
    let counted = c.loop-token.invariant.counted in
    let len = c.loop-token.visitors.ok.0 in
    let more = c.push_reserved-in-loop-token.ensures.len in
    let cap = c.push_reserved-in-loop-token.ensures.capacity in
    let room = c.loop-token.invariant.room in
    let longer = length-append xs (x ∷ []) in
    record {
      can = tt;
      finite = tt;
      left = append_assoc xs (x ∷ []) ys ∙ all;
      counted = omega arith;
      room = omega arith;
      made = λ table is fresh_all.
          let P : ℕ → Visitor → Type 0 = λ n v. v ≡ record { token = fresh table n; calls = 0; room = c.args.room } in
          let number : 1 + length xs ≡ 0 + length c.loop-token.visitors.items = omega arith in
          let token : x ≡ fresh table (1 + length xs) = each_next (λ n t. t ≡ fresh table n) 1 xs ys c.args.others.items x all fresh_all in
          subst (EachFrom P 0) (sym c.push_reserved-in-loop-token.ensures.items)
          (each_snoc P 0 c.loop-token.visitors.items c.in_ok-new-2.field-0 (c.loop-token.invariant.made table is fresh_all)
          (subst (λ (n : ℕ). P n c.in_ok-new-2.field-0) number (c.in_ok-new-2.ensures ∙ ap (λ (t : Token). record { token = t; calls = 0; room = c.args.room }) token)));
    }
