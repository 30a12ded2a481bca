-- Where a visitor stands while `register` tries the records, and a member while a scan goes through them.
use Rattle.std.specs.Prelude.{◌≡◌, ℕ, zero, suc, ◌+◌, ◌-◌, ◌<◌, ◌==◌, Bool, true, false, cond, Option, List, [], ◌∷◌, length}
use Rattle.ck_run.specs.declared.account.Step.TheVariants.{Load}
use Rattle.ck_run.specs.Run.{call}
use Rattle.ck_run.specs.Machine.{IsAt}
use Rattle.ck_run.specs.Tokens.{adding, number, origin}
use Rattle.ck_epoch.specs.State.{outside}
use Rattle.ck_epoch.specs.Calls.{RecordLook, scan_steps}
use Rattle.ck_epoch.specs.Scan.{IsFirstFound}
use Rattle.ck_registry.specs.declared.answers.Finding.{Finding}
use Rattle.ck_registry.specs.declared.answers.Finding.TheVariants.{AllInactive, AllCurrent, OneBehind}
use Rattle.ck_registry.specs.State.{Token, TokenState, Activity, away, trying, resting, passing, ready, dispatch, dispatch_all, after_scan, register, scan, records_of, registry, state}
use Rattle.ck_registry.specs.Calls.{tries, AreTaken, Registers, FindsAllInactive, FindsAllCurrent, FindsOneBehind}

-- where `register` stands before it tries the record `rec`, and after the last one
abbrev pub activity_at : ℕ → ℕ → Activity
activity_at records zero = away
activity_at records (suc rec) = cond (suc rec == records) away (trying (suc rec))

-- the name of the call, which its first step puts down
abbrev pub opens_at : ℕ → List ℕ
opens_at zero = register ∷ []
opens_at (suc rec) = []

-- A visitor that began as t and is u now: each record below `rec` was held
pub record IsTrying (t u : Token) (rec : ℕ) : Type 0 where
  pub low : number u < (origin u).tokens
  pub made : ℕ
  pub at : IsAt registry u (record (state t) { activity = activity_at (records_of (origin t)) rec; steps = made })
  pub found : List ℕ
  pub count : length found ≡ rec
  pub taken : AreTaken found
  pub steps : u ≡ adding t (call register [] (tries (records_of (origin t)) 0 found))

-- it holds the record now
pub record HasTaken (t u : Token) (rec : ℕ) : Type 0 where
  pub low : number u < (origin u).tokens
  pub made : ℕ
  pub at : IsAt registry u (record (state t) { activity = resting; section = outside; rec = rec; steps = made })
  pub registers : Registers (records_of (origin t)) rec t u

-- after the record `rec` was tried: where true, it is held now
abbrev pub HasTried : Token → Token → ℕ → Bool → Type 0
HasTried t u rec true = HasTaken t u rec
HasTried t u rec false = IsTrying t u (rec + 1)

-- a member whose scan loaded the global epoch e
abbrev pub begun : ℕ → TokenState → TokenState
begun e s = record (dispatch (e - 2) s) { calls = s.calls + 1 }

-- and then passed the records below `rec`
abbrev pub scanned : ℕ → TokenState → ℕ → ℕ → Option ℕ → TokenState
scanned records s e rec busy = cond (rec == records) (after_scan s e busy) (record s { activity = passing e rec busy })

-- The member that began a scan as t and, as u, has looked at the records below `rec`
pub record HasLookedAt (t u : Token) (e rec : ℕ) (busy : Option ℕ) : Type 0 where
  pub low : number u < (origin u).tokens
  pub made : ℕ
  pub at : IsAt registry u (record (scanned (records_of (origin t)) (begun e (state t)) e rec busy) { steps = made })
  pub looked : List RecordLook
  pub count : length looked ≡ rec
  pub found : IsFirstFound e looked busy
  pub steps : u ≡ adding t (call scan [] (Load 0 e ∷ scan_steps 0 looked))

-- the state that a scan leaves, by what it found
abbrev pub after_finding : ℕ → TokenState → Finding → TokenState
after_finding e s AllInactive = record (dispatch_all (begun e s)) { activity = resting }
after_finding e s (AllCurrent rec) = record (begun e s) { activity = ready e }
after_finding e s (OneBehind rec epoch) = record (begun e s) { activity = resting }

-- and the steps that it made
abbrev pub Finds : ℕ → ℕ → Finding → Token → Token → Type 0
Finds records e AllInactive t u = FindsAllInactive records e t u
Finds records e (AllCurrent rec) t u = FindsAllCurrent records e rec t u
Finds records e (OneBehind rec epoch) t u = FindsOneBehind e rec epoch t u

-- The member that made a scan as t and is u now
pub record HasScanned (t u : Token) (e : ℕ) (f : Finding) : Type 0 where
  pub low : number u < (origin u).tokens
  pub made : ℕ
  pub at : IsAt registry u (record (after_finding e (state t) f) { steps = made })
  pub finds : Finds (records_of (origin t)) e f t u
