use Rattle.std.proofs.Common.{rules, ◌≡◌, ◌∷◌, All, sym, ap, ◌∙◌, subst, arith}
use Rattle.ck_run.specs.Tokens.{Table, table}
use Rattle.ck_run.specs.Ends.{joined_all}
use Rattle.ck_run.proofs.Lists.{inside}
use Rattle.ck_registry.specs.State.{Token}
use Rattle.ck_registry.specs.Ends.{Visitor}
use Rattle.ck_registry.specs.Closing.{IsClosedRegistry}
use Rattle.ck_registry.proofs.Parting.{taken_out, closed_registry}
use Rattle.ck_registry.proofs.registry.Registry.close.Goals as goal

pub remove-requires : goal.remove-requires
remove-requires c =
    let some = c.self.invariant.some_tokens in
    let here = ap (λ (x : Table _). x.origin.tokens) c.self.view_is in
    let a = c.requires.all 0 (omega arith) in
    let low = inside c.args.visitors.items a.0 a.1 a.2 in
    let len = c.args.visitors.ok.0 in
    omega arith

pub returns : goal.returns
returns c =
    let some = c.self.invariant.some_tokens in
    let here = ap (λ (x : Table _). x.origin.tokens) c.self.view_is in
    let a = c.requires.all 0 (omega arith) in
    let low = inside c.args.visitors.items a.0 a.1 a.2 in
    let v = c.remove.result in
    let others = c.remove.new.self.items in
    let whole : v ∷ others ≡ c.args.visitors.items = taken_out c.args.visitors.items others v (omega arith) c.remove.ensures.value c.remove.ensures.by_index.2 in
    let taken = c.join_all.ensures.view in
    let run = c.close.ensures.run in
    record {
      run = subst (IsClosedRegistry c.args.self) whole
          (closed_registry _ v others taken.0 c.args.self c.join_all.new.token.view run.0 (λ p t q. search rules) taken.1
          (taken.2 ∙ ap (λ (t : Token). joined_all t.view taken.0) c.into_token-first.ensures)
          (subst (All (λ (p : Visitor). table p.token ≡ c.args.self)) (sym whole) c.requires.visitors) run.1);
    }
