use Rattle.std.proofs.Common.{[], ◌∷◌, codes}
use Rattle.ck_text.specs.Words.{line}
use Rattle.ck_report.specs.Text.{pair_lines}
use Rattle.ck_report.proofs.Streaming.{streamed_first, streamed_stopped, err_always, on_err_map, on_ok_map, files_failing, pairs_failing, end_failing, end_put}
use Rattle.ck_report.proofs.put.put_report.Goals as goal

pub returns-in_err-buffer-clause-prefix : goal.returns-in_err-buffer-clause-prefix
returns-in_err-buffer-clause-prefix g c = err_always _ _ (streamed_stopped _ _ _ _ (streamed_first (g.S.Sink.taken c.args.sink.now) _))

pub returns-in_err-put_files-clause-prefix : goal.returns-in_err-put_files-clause-prefix
returns-in_err-put_files-clause-prefix g c =
    err_always _ _ (files_failing _ _ _ _ (pair_lines g.K.KeyWord.spelling c.args.pairs.now) (line (codes "end" ∷ [])) _ (rw c.in_ok-buffer.ensures.items at c.in_ok-put_replies.ensures.ok) _ c.in_err-put_files.ensures.err)

pub returns-in_err-put_pairs-clause-prefix : goal.returns-in_err-put_pairs-clause-prefix
returns-in_err-put_pairs-clause-prefix g c =
    err_always _ _ (pairs_failing _ _ _ _ _ _ _ (rw c.in_ok-buffer.ensures.items at c.in_ok-put_replies.ensures.ok) _ _ c.in_ok-put_files.ensures.ok _ c.in_err-put_pairs.ensures.err)

pub returns-clause-all : goal.returns-clause-all
returns-clause-all g c =
    on_ok_map _ _ _ (end_put _ _ _ _ _ _ _ (rw c.in_ok-buffer.ensures.items at c.in_ok-put_replies.ensures.ok) _ _ c.in_ok-put_files.ensures.ok _ _ c.in_ok-put_pairs.ensures.ok _) c.put_end.ensures.ok

pub returns-clause-prefix : goal.returns-clause-prefix
returns-clause-prefix g c =
    on_err_map _ _ _ (end_failing _ _ _ _ _ _ _ (rw c.in_ok-buffer.ensures.items at c.in_ok-put_replies.ensures.ok) _ _ c.in_ok-put_files.ensures.ok _ _ c.in_ok-put_pairs.ensures.ok _) c.put_end.ensures.err
