-- How the run of a seed ends, which puts a text that the seed and the number of lines alone determine.
use Rattle.std.specs.Prelude.{◌≡◌, ℕ, List, Option}
use Rattle.ck_io.specs.Faults.{Rose}
use Rattle.ck_io.specs.Sink.{appended, AppendsPrefix}
use Rattle.ck_gen.specs.Summaries.{generated_summary}
use Rattle.ck_lookup.specs.declared.outcome.Outcome.{Outcome}
use Rattle.ck_lookup.specs.declared.outcome.Outcome.TheVariants.{Done, WriteFault, NoMemory}
use Rattle.ck_lookup.specs.Tables.{capacity}

-- the summary of a seed and of so many lines
abbrev pub made_text : ℕ → ℕ → List ℕ
made_text seed lines = generated_summary capacity seed lines

-- the text was put whole; or the sink failed, and took a front of it; or nothing was put, since memory was wanting
module _ (text : List ℕ) (taken_before taken_after : Option (List ℕ)) (faults_before faults_after : ℕ) where
  abbrev pub PutsText : Outcome → Type 0
  PutsText Done = taken_after ≡ appended taken_before text
  PutsText WriteFault = Rose faults_before faults_after × AppendsPrefix taken_before taken_after text
  PutsText NoMemory = taken_after ≡ taken_before
  PutsText _ = ⊥
