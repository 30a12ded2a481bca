use Rattle.std.proofs.Common.{◌≡◌, List, [], ◌∷◌, ◌++◌, sym, ap, ◌∙◌, subst}
use Rattle.ck_run.specs.Tokens.{Table}
use Rattle.ck_ring.specs.State.{Token}
use Rattle.ck_ring.specs.Ends.{AreAll}
use Rattle.ck_ring.proofs.Closing.{all_numbered}
use Rattle.ck_ring.proofs.tests.close_both.Goals as goal

pub close-requires-clause-all : goal.close-requires-clause-all
close-requires-clause-all c =
    let a = c.args.a in
    let b = c.args.b in
    let is : c.push-2.new.self.items ≡ a ∷ b ∷ [] = c.in_ok-push-2.ensures.items
    ∙ ap (λ (l : List Token). l ++ b ∷ []) (c.in_ok-push.ensures.items ∙ ap (λ (l : List Token). l ++ a ∷ []) c.in_ok-given.ensures.items) in
    subst (AreAll c.args.p) (sym is)
    (all_numbered c.args.p (a ∷ b ∷ []) (c.requires.numbers.0, (c.requires.numbers.1, tt)) (ap (λ (w : Table (Unit {0})). w.origin.tokens) c.requires.tables.0 ∙ c.requires.numbers.2))
