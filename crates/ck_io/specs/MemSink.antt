-- A sink in memory.
use Rattle.std.specs.Prelude.{ℕ, List, Bool, ◌||◌, ◌&&◌, ◌==◌, nat_le, nat_lt, length, take, min, ◌-◌, ◌++◌, if◌then◌else◌}
use Rattle.std.specs.List.{list_any}
use Rattle.ck_io.specs.Faults.{next}

-- a sink in memory, as contracts see it
pub record SinkState : Type 0 where
  -- the bytes taken so far
  pub taken : List ℕ
  -- how many bytes it takes in all, and at most in one call
  pub room : ℕ
  pub most : ℕ
  -- the numbers of the calls that fail, from 1
  pub fails : List ℕ
  -- how many calls there were, and how many failed
  pub calls : ℕ
  pub faults : ℕ

-- the next call fails: its number is one of those that fail, or there is no room for a piece that isn't empty
abbrev pub put_fails : SinkState → List ℕ → Bool
put_fails sink piece =
    list_any (λ n. n == next sink.calls) sink.fails || (nat_le sink.room (length sink.taken) && nat_lt 0 (length piece))

-- how many bytes of a piece a call takes that doesn't fail
abbrev pub taken_of : SinkState → List ℕ → ℕ
taken_of sink piece = min (min (length piece) sink.most) (sink.room - length sink.taken)

-- the sink after a put of this piece
abbrev pub sink_after : SinkState → List ℕ → SinkState
sink_after sink piece =
    if put_fails sink piece
    then record sink { calls = next sink.calls; faults = next sink.faults }
    else record sink { calls = next sink.calls; taken = sink.taken ++ take (taken_of sink piece) piece }
