use Rattle.ck_ht.proofs.AtOpening.{none_entered}
use Rattle.ck_ht.proofs.thread_tests.each_answer_beside_the_writer_is_the_maps.Goals as goal

pub next_reader-c-requires-clause-new : goal.next_reader-c-requires-clause-new
next_reader-c-requires-clause-new g c = none_entered c.in_ok-ht.ht c.in_ok-ht.passes.items c.in_ok-ht.ensures.passes.1
