-- A pass between two calls of the array's stays so at each step on other words.
use Rattle.std.proofs.Common.{◌≡◌, ℕ, suc, [], ap}
use Rattle.ck_run.specs.Tokens.{Table}
use Rattle.ck_run.specs.Ends.{fresh}
use Rattle.ck_epoch.specs.declared.about.About.{About}
use Rattle.ck_epoch.specs.State.{Origin, Token, base_of}
use Rattle.ck_epoch.specs.Calls.{StepsBelow}
use Rattle.ck_arraylaw.specs.Host.{Host}
use Rattle.ck_arraylaw.specs.Known.{knows}
use Rattle.ck_array.specs.Reads.{IsResting}
use Rattle.ck_array.proofs.Elsewhere.{below_all, pass_stays}

module _ {D : Type 0} (h : Host D) (o : Origin D) where
  pub rests_on : (t u : Token D) → IsResting h o t → StepsBelow (base_of o) t u → IsResting h o u
  rests_on t u was steps = (was.0, pass_stays h o t u steps.0 was.0 steps.1 (below_all h o steps.0 steps.2) was.1)

  -- and a pass that made no step is between two calls
  pub fresh_rests : (t : Token D) (table : Table (About D)) (r : ℕ) → t ≡ fresh table (suc r) → IsResting h o t
  fresh_rests t table r new = ([], ap (λ (x : Token D). knows h o x) new)
