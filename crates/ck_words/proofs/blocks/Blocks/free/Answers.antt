use Rattle.std.proofs.Common.{◌≡◌, ◌+◌, subst}
use Rattle.std.specs.FinSet as set
use Rattle.ck_words.specs.Blocks.{AreBlocksApart, blocks_of}
use Rattle.ck_words.proofs.FreeBlocks.{blocks_apart}
use Rattle.ck_words.proofs.blocks.Blocks.free.Goals as goal

pub returns-clause-count : goal.returns-clause-count
unfolding blocks_of
returns-clause-count c = subst (λ a. c.self.inside.free + set.len a.out ≡ a.count) c.self.view_is c.self.invariant.counted

pub returns-clause-apart : goal.returns-clause-apart
returns-clause-apart c = subst AreBlocksApart c.self.view_is (blocks_apart c.self.inside.numbers.items c.self.inside.free c.self.inside.first)
