-- What the writer's account alone keeps of the regions that it takes.
use Rattle.std.specs.Prelude.{◌≡◌, ℕ, ◌≤◌, List}
use Rattle.ck_epoch.specs.State.{Retirement}
use Rattle.ck_htlaw.specs.Stages.{Stage, clearing, copying}
use Rattle.ck_htlaw.specs.Table.{WriterState}
use Rattle.ck_htlaw.specs.Layout.{log_of, IsPiece, IsFreeRegion}

-- the region that is being built
abbrev pub IsBuilding : Stage → ℕ → Type 0
IsBuilding (clearing c other i) root = other ≡ root
IsBuilding (copying c other j g) root = other ≡ root
IsBuilding g root = ⊥

-- The present region is a piece of the arena, and one that is being built is free, by what is pending. No region has more than 2^19 slots
pub record AllocationInvariant (counters place : ℕ) (p : WriterState) (pending : List Retirement) : Type 0 where
  pub piece : IsPiece counters p.root
  pub few : log_of p.root ≤ 19
  pub hidden : (root : ℕ) → IsBuilding p.stage root → IsFreeRegion counters place p.root root pending
  pub small : (root : ℕ) → IsBuilding p.stage root → log_of root ≤ 19
