use Rattle.ck_words.proofs.FreeBlocks.{blocks_opening, blocks_opened}
use Rattle.ck_words.proofs.blocks.Blocks.new.Goals as goal

pub invariant_of-result : goal.invariant_of-result
invariant_of-result c =
    blocks_opening c.args.first c.args.count c.in_ok-numbers_below.field-0.items c.in_ok-numbers_below.ensures.length c.in_ok-numbers_below.ensures.falling c.requires

pub returns : goal.returns
returns c =
    blocks_opened c.args.first c.args.count c.in_ok-numbers_below.field-0.items c.in_ok-numbers_below.ensures.length c.in_ok-numbers_below.ensures.falling
