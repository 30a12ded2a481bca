use Rattle.ck_report.proofs.Blocks.{texts_more}
use Rattle.ck_report.proofs.tasks.append_texts.Goals as goal

pub loop-text-preserved : goal.loop-text-preserved
loop-text-preserved c = record {
  so_far = texts_more c.args.texts.now c.loop-text.text-index c.text-item.result _ _ _ (c.loop-text-test.true) c.text-item.is c.loop-text.invariant.so_far c.in_ok-append_text.ensures;
}
