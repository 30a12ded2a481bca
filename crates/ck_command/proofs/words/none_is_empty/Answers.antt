use Rattle.std.proofs.Common.{arith, sym, ap, not, ◌∙◌, ◌≡◌, ◌==◌, length, take, List, [], ℕ, Bool, Bor}
use Rattle.std.specs.List.{list_all}
use Rattle.std.proofs.lemmas.List.{take_all}
use Rattle.std.proofs.lemmas.List.Folds.{list_all-map, list_all_at}
use Rattle.ck_command.proofs.words.none_is_empty.Goals as goal

abbrev is_said : Bor (List ℕ) → Bool
is_said name = not (length name.now == 0)

abbrev now_of : Bor (List ℕ) → List ℕ
now_of name = name.now

pub returns-then-is_empty : goal.returns-then-is_empty
returns-then-is_empty c =
    sym (list_all-map (λ (name : List ℕ). not (length name == 0)) now_of c.args.names.now
    ∙ list_all_at is_said c.args.names.now c.loop-name.name-index (record { ref_ptr = (0, 0); now = [] }) (omega arith) (ap not (sym (c.if-is_empty.ensures {u = tt}))))

pub returns : goal.returns
returns c =
    let whole : take c.loop-name.name-index c.args.names.now ≡ c.args.names.now = take_all c.loop-name.name-index c.args.names.now (omega arith) in
    sym (list_all-map (λ (name : List ℕ). not (length name == 0)) now_of c.args.names.now ∙ ap (list_all is_said) (sym whole) ∙ c.loop-name.invariant)
