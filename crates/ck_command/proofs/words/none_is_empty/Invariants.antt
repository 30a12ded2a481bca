use Rattle.std.proofs.Common.{◌≡◌, ◌==◌, true, not, take, length, List, ℕ, Bor}
use Rattle.std.specs.List.{list_all}
use Rattle.ck_command.proofs.words.none_is_empty.Given as goal

abbrev pub invariant-loop-name : goal.invariant-loop-name
invariant-loop-name l = list_all (λ (name : Bor (List ℕ)). not (length name.now == 0)) (take l.name-index l.names) ≡ true
