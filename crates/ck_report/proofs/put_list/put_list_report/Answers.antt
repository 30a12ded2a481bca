use Rattle.std.proofs.Common.{[], ◌∷◌, codes}
use Rattle.ck_text.specs.Words.{line}
use Rattle.ck_report.specs.Numbered.{numbered}
use Rattle.ck_report.specs.ListText.{member_line}
use Rattle.ck_report.proofs.Streaming.{err_always, on_err_map, on_ok_map, files_failing, pairs_failing, end_failing, end_put}
use Rattle.ck_report.proofs.put_list.put_list_report.Goals as goal

pub returns-in_err-put_views-clause-prefix : goal.returns-in_err-put_views-clause-prefix
returns-in_err-put_views-clause-prefix g c =
    err_always _ _ (files_failing _ _ _ _ (numbered member_line 0 c.args.members.now) (line (codes "end" ∷ [])) _ (rw c.in_ok-buffer.ensures.items at c.in_ok-put_lines.ensures.ok) _ c.in_err-put_views.ensures.err)

pub returns-in_err-put_lines-2-clause-prefix : goal.returns-in_err-put_lines-2-clause-prefix
returns-in_err-put_lines-2-clause-prefix g c =
    err_always _ _ (pairs_failing _ _ _ _ _ _ _ (rw c.in_ok-buffer.ensures.items at c.in_ok-put_lines.ensures.ok) _ _ c.in_ok-put_views.ensures.ok _ c.in_err-put_lines-2.ensures.err)

pub returns-clause-all : goal.returns-clause-all
returns-clause-all g c =
    on_ok_map _ _ _ (end_put _ _ _ _ _ _ _ (rw c.in_ok-buffer.ensures.items at c.in_ok-put_lines.ensures.ok) _ _ c.in_ok-put_views.ensures.ok _ _ c.in_ok-put_lines-2.ensures.ok _) c.put_end.ensures.ok

pub returns-clause-prefix : goal.returns-clause-prefix
returns-clause-prefix g c =
    on_err_map _ _ _ (end_failing _ _ _ _ _ _ _ (rw c.in_ok-buffer.ensures.items at c.in_ok-put_lines.ensures.ok) _ _ c.in_ok-put_views.ensures.ok _ _ c.in_ok-put_lines-2.ensures.ok _) c.put_end.ensures.err
