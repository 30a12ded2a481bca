-- What a command of the code asks for, and what words ask for that are read by one form or the other.
use Rattle.std.specs.Prelude.{List, ℕ, map, None, Option, option_map}
use Rattle.ck_command.specs.declared.words.Kind.{Kind as ReadKind}
use Rattle.ck_command.specs.declared.words.Kind.TheVariants as read
use Rattle.ck_command.specs.declared.words.RunCommand.{RunCommand as ReadRun}
use Rattle.ck_command.specs.declared.words.JudgeCommand.{JudgeCommand as ReadJudgment}
use Rattle.ck_command.specs.declared.words.Command.{Command as Read}
use Rattle.ck_command.specs.declared.words.Command.TheVariants as code
use Rattle.ck_command.specs.declared.words.Form.{Form}
use Rattle.ck_command.specs.declared.words.Form.TheVariants as form
use Rattle.ck_command.specs.Words.{Kind, table, list, RunCommand, JudgeCommand, Command, Run, Make, Judge, Said, command_said, judgment_said, said_after, judged_after}

abbrev pub kind_value : ReadKind → Kind
kind_value read.Table = table
kind_value read.List = list

abbrev pub run_value : ReadRun → RunCommand
run_value c = record { kind = kind_value c.kind; seed = c.seed; workers = c.workers; updates = c.updates.now; queries = map (λ name. name.now) c.queries.items }

abbrev pub judgment_value : ReadJudgment → JudgeCommand
judgment_value c = record { updates = c.updates.now; others = map (λ name. name.now) c.others.items }

abbrev pub command_value : Read → Command
command_value (code.Run c) = Run (run_value c)
command_value (code.Make seed lines) = Make seed lines
command_value (code.Judge c) = Judge (judgment_value c)

-- what was said asks for, where it is of this form
abbrev pub said_by : Form → Said → Option Command
said_by (form.Run kind) said = option_map Run (command_said (kind_value kind) said)
said_by form.Judgment said = option_map Judge (judgment_said said)

-- what words after the kind ask for
abbrev pub asked_by : Form → List (List ℕ) → Option Command
asked_by (form.Run kind) words = option_map Run (said_after (kind_value kind) words)
asked_by form.Judgment words = option_map Judge (judged_after words)
