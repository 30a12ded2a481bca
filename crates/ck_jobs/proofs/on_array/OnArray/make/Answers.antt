use Rattle.std.proofs.Common.{ap}
use Rattle.ck_jobs.proofs.Ends.{kept_writer}
use Rattle.ck_jobs.proofs.on_array.OnArray.make.Goals as goal

pub returns-in-Add-clause-writer : goal.returns-in-Add-clause-writer
returns-in-Add-clause-writer g c = let e = c.add.ensures in kept_writer _ _ _ _ c.args.self.now.array c.args.hand.now.writer c.add.new.w.writer e.table (ap (λ w. w.handler) e.same) c.requires.writer

pub returns-in-Drop-clause-writer : goal.returns-in-Drop-clause-writer
returns-in-Drop-clause-writer g c = let e = c.drop_one.ensures in kept_writer _ _ _ _ c.args.self.now.array c.args.hand.now.writer c.drop_one.new.w.writer e.table (ap (λ w. w.handler) e.same) c.requires.writer

pub returns-in-Commit-clause-writer : goal.returns-in-Commit-clause-writer
returns-in-Commit-clause-writer g c = let e = c.commit.ensures in kept_writer _ _ _ _ c.args.self.now.array c.args.hand.now.writer c.commit.new.w.writer e.table (ap (λ w. w.handler) e.same) c.requires.writer
