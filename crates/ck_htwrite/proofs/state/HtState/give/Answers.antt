use Rattle.ck_words.specs.Buddies.{piece}
use Rattle.ck_htwrite.proofs.Taking.{freed}
use Rattle.ck_htwrite.proofs.state.HtState.give.Goals as goal

pub returns-clause-free : goal.returns-clause-free
returns-clause-free c = freed c.args.self.now.arena c.give.new.self (piece c.args.back.at c.args.back.log) c.free-free.ensures.apart c.requires.out c.give.ensures.drops
