use Rattle.std.proofs.Common.{rules, ap, ap₂, ◌≡◌, ◌∙◌, true}
use Rattle.clap.specs.Walk.{rule_of}
use Rattle.clap.specs.Simple.{app_of_fields, on_top, with_rule}
use Rattle.ck_command.specs.Parser.{seed_option, workers_option, file_names}
use Rattle.ck_command.proofs.words.table_parser.Goals as goal

pub returns : goal.returns
returns c =
    let seed_is : rule_of c.long-seed.result ≡ seed_option = search rules in
    let workers_is : rule_of c.long-workers.result ≡ workers_option = search rules in
    let files_is : rule_of c.action-files.result ≡ file_names = search rules in
    let made = c.in_ok-arg-3.ensures.shape (search rules)
    ∙ ap₂ with_rule (c.in_ok-arg-2.ensures.shape (search rules)
    ∙ ap₂ with_rule (c.in_ok-arg.ensures.shape (search rules) ∙ ap₂ with_rule c.new-4.ensures.app seed_is) workers_is) files_is in
    ap app_of_fields c.disable_help_flag.ensures ∙ ap (on_top (λ s. record s { disable_help_flag = true })) made
