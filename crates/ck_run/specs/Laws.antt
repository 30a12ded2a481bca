-- What is true of runs, whatever the structure: the statements of the laws.
use Rattle.std.specs.Prelude.{ℕ, [], ◌∷◌, ◌++◌}
use Rattle.ck_run.specs.declared.account.Entry.{Entry}
use Rattle.ck_run.specs.declared.account.Origin.{Origin}
use Rattle.ck_run.specs.Run.{Run, Fits, replay, account}
use Rattle.ck_run.specs.Rule.{IsRun}
use Rattle.ck_run.specs.Machine.{Machine, Claim, IsInvariantAlong, follows_of, state_in}

-- what is claimed holds at the opening
abbrev pub HoldsFirst : {C : Type 0} → Claim C → Type 0
HoldsFirst {C} c = (origin : Origin C) → c.machine.IsOpening origin → c.Holds origin [] origin.words (c.machine.start origin)

-- each step that the program allows keeps it
abbrev pub IsKeptByEachStep : {C : Type 0} → Claim C → Type 0
IsKeptByEachStep {C} c = (origin : Origin C) → IsInvariantAlong (c.machine.next origin) (c.machine.Allows origin) (c.Holds origin)

-- it holds at each moment of each true run. A moment is the part of the run that is past
abbrev pub HoldsAlways : {C : Type 0} → Claim C → Type 0
HoldsAlways {C} c = (origin : Origin C) (past rest : Run) → IsRun (follows_of c.machine) origin (past ++ rest)
    → c.Holds origin past (replay origin.words past) (λ n. state_in c.machine origin n (account n past))

-- At each step of a true run, the state that the token's account so far leaves allows the step, and what it loads or finds is the number
-- that stands in its word
abbrev pub AllowsEachStep : {C T : Type 0} → Machine C T → Type 0
AllowsEachStep {C} m = (origin : Origin C) (past rest : Run) (n : ℕ) (e : Entry) → IsRun (follows_of m) origin (past ++ (n, e) ∷ rest)
    → m.Allows origin (state_in m origin n (account n past)) e × Fits (replay origin.words past) e.step

-- what is past at a moment of a true run is a true run
abbrev pub RunsBegin : {C T : Type 0} → Machine C T → Type 0
RunsBegin {C} m = (origin : Origin C) (past rest : Run) → IsRun (follows_of m) origin (past ++ rest) → IsRun (follows_of m) origin past
