use Rattle.std.proofs.Common.{ap, subst, ◌∙◌}
use Rattle.ck_words.specs.Buddies.{ArePiecesApart, free_words}
use Rattle.ck_words.proofs.Counting.{free_words-empty}
use Rattle.ck_words.proofs.Arenas.{arena_apart}
use Rattle.ck_words.proofs.buddies.Buddies.free.Goals as goal

pub returns-clause-all : goal.returns-clause-all
returns-clause-all c = λ empty. c.self.invariant.free_is ∙ ap free_words c.self.view_is ∙ free_words-empty c.args.self.now empty

pub returns-clause-apart : goal.returns-clause-apart
returns-clause-apart c =
    let inside = c.self.inside in
    subst ArePiecesApart c.self.view_is (arena_apart inside.first inside.log_len inside.log_min inside.free inside.halvings.items c.self.invariant)
