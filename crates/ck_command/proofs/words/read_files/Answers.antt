use Rattle.std.proofs.Common.{rules, ap, subst, sym, map, ◌∙◌, List, [], ℕ, Bor, codes, string_bytes}
use Rattle.std.specs.Prelude.{unwrap_or}
use Rattle.clap.specs.Walk.{rows_of}
use Rattle.clap.specs.Simple.{is_simple, matches_of}
use Rattle.clap.specs.Faults.{fault_of, is_simple_and_free}
use Rattle.clap.specs.Kinds.{HasKind}
use Rattle.clap.specs.Matches.{found_of}
use Rattle.clap.proofs.WalkLemmas.{first_value-rows, raw_values-rows}
use Rattle.ck_command.specs.Asked.{said_by}
use Rattle.ck_command.proofs.Parsing.{refused_words, taken_words, files_given}
use Rattle.ck_command.proofs.words.read_files.Goals as goal

pub returns : goal.returns
returns c =
    let app = c.in_ok-table_parser.ensures in
    let why = c.in-Err.ensures.kinds (ap is_simple_and_free app) in
    refused_words c.args.form c.args.words.now c.in-Err.error.kind (search rules)
    (subst (λ a. HasKind (fault_of a (map string_bytes c.args.words.now)) c.in-Err.error) app why)

pub returns-in-Ok : goal.returns-in-Ok
returns-in-Ok c =
    let app = c.in_ok-table_parser.ensures in
    let none = c.in-Ok.ensures.kinds (ap is_simple_and_free app) in
    let fault = ap (λ a. fault_of a (map string_bytes c.args.words.now)) (sym app) ∙ none in
    let rows_are = (c.in-Ok.ensures.matches (ap is_simple app)).0 ∙ ap (λ a. matches_of a (map string_bytes c.args.words.now)) app in
    let rows = rows_of (found_of c.in-Ok.matches) in
    let seed_is = c.get_str.ensures ∙ first_value-rows (found_of c.in-Ok.matches) (codes "seed") in
    let workers_is = c.get_str-in-Ok.ensures ∙ first_value-rows (found_of c.in-Ok.matches) (codes "workers") in
    let files_are = ap (λ (r : Bor (List (Bor (List ℕ)))). map (λ (name : Bor (List ℕ)). name.now) r.now) c.unwrap_or.ensures ∙ files_given c.get_strs.result _ (search rules)
    ∙ ap (λ o. unwrap_or o []) (c.get_strs.ensures ∙ raw_values-rows (found_of c.in-Ok.matches) (codes "file")) in
    let asked = taken_words c.args.form c.args.words.now rows fault rows_are
    ∙ (λ i. said_by c.args.form (record { seed = sym seed_is i; workers = sym workers_is i; files = sym files_are i })) in
    rw asked c.said_by.ensures
