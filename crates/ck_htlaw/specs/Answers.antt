-- What is claimed of answers: moments of a run, and the map at each.
use Rattle.std.specs.Prelude.{◌≡◌, ℕ, ◌≤◌, List, [], ◌∷◌, ◌++◌}
use Rattle.ck_run.specs.declared.account.Entry.{Entry}
use Rattle.ck_htlaw.specs.Stages.{Maps}
use Rattle.ck_htlaw.specs.Law.{look_state_of}
use Rattle.ck_htlaw.specs.Look.{no_look}
use Rattle.ck_htlaw.specs.Table.{Layout, Action, WriterState, LocalState, writer, reader, next, May, mark, linearized_of}
use Rattle.ck_htlaw.specs.Invariant.{SideCondition}
use Rattle.ck_htlaw.specs.Trace.{Trace, Scene, goes, after, IsLegal}

abbrev pub maps_of : LocalState → Maps
maps_of (writer p) = p.maps
maps_of (reader y) = λ i k. 0

-- the map at a moment: 0 for an absent key, else 1 more than its value
abbrev pub map_at : Scene LocalState (ℕ → ℕ) → ℕ → ℕ
map_at w = maps_of (w.at 0) (linearized_of (w.at 0))

module _ (l : Layout) (action : WriterState → Entry → Action) (key_of : List ℕ → ℕ) where
  abbrev pub then : Scene LocalState (ℕ → ℕ) → Trace → Scene LocalState (ℕ → ℕ)
  then w run = after (next l action key_of) (May l action key_of) mark (SideCondition l action) w run

  abbrev pub IsRunFrom : Scene LocalState (ℕ → ℕ) → Trace → Type 0
  IsRunFrom w run = IsLegal (next l action key_of) (May l action key_of) mark (SideCondition l action) w run

  -- the token is within a look at each moment before a step of the run
  abbrev pub IsWithinLook : ℕ → Scene LocalState (ℕ → ℕ) → Trace → Type 0
  IsWithinLook n w [] = Unit {0}
  IsWithinLook n w (x ∷ run) = (look_state_of (w.at n) ≡ no_look → ⊥) × IsWithinLook n (goes (next l action key_of) (May l action key_of) mark (SideCondition l action) w x.0 x.1) run

  -- At some moment of the run the map gives x for k
  pub record IsGiven (w : Scene LocalState (ℕ → ℕ)) (run : Trace) (k x : ℕ) : Type 0 where
    pub before : Trace
    pub behind : Trace
    pub splits : run ≡ before ++ behind
    pub gives : map_at (then w before) k ≡ x
    -- and no fewer updates have taken place by then than at the first moment
    pub least : linearized_of (w.at 0) ≤ linearized_of ((then w before).at 0)
