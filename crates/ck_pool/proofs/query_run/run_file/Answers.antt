use Rattle.std.proofs.Common.{◌≡◌, [], rules}
use Rattle.ck_pool.proofs.Files.{first_run}
use Rattle.ck_pool.proofs.query_run.run_file.Goals as goal

pub returns-clause-run : goal.returns-clause-run
returns-clause-run g c =
    let u = c.in_ok-run.ensures in
    let none : c.in_ok-answers.answers.items ≡ [] = search rules in
    record {
      is_ready = u.ready;
      same = u.number;
      few = u.calls;
      events = u.ran.0;
      grown = u.ran.1;
      ran = first_run _ _ _ _ _ none u.ran.2;
    }
