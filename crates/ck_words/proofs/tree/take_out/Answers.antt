use Rattle.ck_words.proofs.Changing.{taken, taken_path}
use Rattle.ck_words.proofs.tree.take_out.Goals as goal

pub rise-requires-clause-others : goal.rise-requires-clause-others
rise-requires-clause-others c =
    taken _ _ c.requires.positive c.requires.in_tree c.requires.consistent c.requires.whole

pub rise-requires-clause-path : goal.rise-requires-clause-path
rise-requires-clause-path c = taken_path _ _ c.requires.positive c.requires.path
