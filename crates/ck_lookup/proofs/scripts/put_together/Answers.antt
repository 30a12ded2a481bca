use Rattle.std.proofs.lemmas.Result.{err_from_is_err_and, MatchResult-at_ok, MatchResult-at_err}
use Rattle.ck_lookup.proofs.Scripting.{script_without_updates, script_without_queries, script_refused}
use Rattle.ck_lookup.proofs.scripts.put_together.Goals as goal

pub returns-in_err-ups-clause-refused : goal.returns-in_err-ups-clause-refused
returns-in_err-ups-clause-refused g c =
    let p = err_from_is_err_and c.from_residual.result c.from_residual.ensures.1 in
    rw (p.1, p.2) (script_without_updates g.T.RunKind.kind _ _ _ (MatchResult-at_err _ _ _ c.in_err-ups.was c.requires.updates))

pub returns-in_err-asks-clause-refused : goal.returns-in_err-asks-clause-refused
returns-in_err-asks-clause-refused g c =
    let p = err_from_is_err_and c.from_residual-in_err-asks.result c.from_residual-in_err-asks.ensures.1 in
    rw (p.1, p.2) (script_without_queries g.T.RunKind.kind _ _ (g.T.UpFile.LineList.items c.in_ok-ups.ups) _ (MatchResult-at_ok _ _ _ c.in_ok-ups.was c.requires.updates).0 (MatchResult-at_err _ _ _ c.in_err-asks.was c.requires.queries))

pub returns-in_err-check-clause-refused : goal.returns-in_err-check-clause-refused
returns-in_err-check-clause-refused g c =
    let p = err_from_is_err_and c.from_residual-in_err-check.result c.from_residual-in_err-check.ensures.1 in
    rw (p.1, p.2) (script_refused g.T.RunKind.kind _ _ _ _ _ (MatchResult-at_ok _ _ _ c.in_ok-ups.was c.requires.updates).0 (MatchResult-at_ok _ _ _ c.in_ok-asks.was c.requires.queries).0 (rw c.deref.ensures.value at c.in_err-check.ensures))
