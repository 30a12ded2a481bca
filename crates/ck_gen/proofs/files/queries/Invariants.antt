use Rattle.std.proofs.Common.{◌≡◌, ◌≤◌, ◌++◌, ◌+◌, ◌-◌, map, flat_map, bit_xor}
use Rattle.std.specs.List.{range_with_len}
use Rattle.ck_probe.specs.Mixing.{mix_of}
use Rattle.ck_gen.specs.Generated.{drawn_key, query_line, query_text}
use Rattle.ck_gen.proofs.files.queries.Given as goal

-- with the other lines the file would be whole
abbrev pub invariant-loop-i : goal.invariant-loop-i
invariant-loop-i l = record {
  within : l.i ≤ l.lines;
  whole : l.out.items ++ flat_map query_line (map (λ i. drawn_key (mix_of i (bit_xor l.seed 1))) (range_with_len (l.i + 1) (l.lines - l.i))) ≡ query_text l.seed l.lines;
}
