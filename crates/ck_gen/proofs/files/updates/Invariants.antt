use Rattle.std.proofs.Common.{◌≡◌, ◌≤◌, ◌++◌, ◌+◌, ◌-◌, map, flat_map}
use Rattle.std.specs.List.{range_with_len}
use Rattle.ck_probe.specs.Mixing.{mix_of}
use Rattle.ck_gen.specs.Generated.{drawn_update, update_line, update_text}
use Rattle.ck_gen.proofs.files.updates.Given as goal

-- with the other lines the file would be whole
abbrev pub invariant-loop-i : goal.invariant-loop-i
invariant-loop-i l = record {
  within : l.i ≤ l.lines;
  whole : l.out.items ++ flat_map update_line (map (λ i. drawn_update (mix_of i l.seed)) (range_with_len (l.i + 1) (l.lines - l.i))) ≡ update_text l.seed l.lines;
}
