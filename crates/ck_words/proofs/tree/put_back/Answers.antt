use Rattle.ck_words.proofs.Changing.{put, put_path}
use Rattle.ck_words.proofs.tree.put_back.Goals as goal

pub rise-requires-clause-others : goal.rise-requires-clause-others
rise-requires-clause-others c =
    put _ _ c.requires.positive c.requires.in_tree c.requires.consistent c.requires.is_out

pub rise-requires-clause-path : goal.rise-requires-clause-path
rise-requires-clause-path c =
    put_path _ _ c.requires.positive c.requires.in_tree c.requires.consistent c.requires.even c.requires.is_out
