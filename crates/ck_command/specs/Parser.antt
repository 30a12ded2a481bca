-- The command that `clap` parses, as `clap`'s own definitions see it.
use Rattle.std.specs.Prelude.{Some, codes, true}
use Rattle.clap.specs.Simple.{App, new_app, new_rule, with_rule, on_top}
use Rattle.clap.specs.Walk.{Rule}
use Rattle.clap.specs.declared.builder.action.ArgAction.TheVariants.{Append}

-- `--seed N`
abbrev pub seed_option : Rule
seed_option = record (new_rule (codes "seed")) { long = Some (codes "seed") }

-- `--workers N`
abbrev pub workers_option : Rule
workers_option = record (new_rule (codes "workers")) { long = Some (codes "workers") }

-- the files, each a use of its own
abbrev pub file_names : Rule
file_names = record (new_rule (codes "file")) { action = Some Append }

-- `table`, with no flag of help
abbrev pub table_app : App
table_app = on_top (λ s. record s { disable_help_flag = true })
    (with_rule (with_rule (with_rule (new_app (codes "table")) seed_option) workers_option) file_names)
