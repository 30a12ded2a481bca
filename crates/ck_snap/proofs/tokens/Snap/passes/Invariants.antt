use Rattle.std.proofs.Common.{◌≡◌, vec_len}
use Rattle.ck_snap.specs.Tokens.{AreFreshSnapPasses}
use Rattle.ck_snap.proofs.tokens.Snap.passes.Given as goal

abbrev pub invariant-loop-number : goal.invariant-loop-number
invariant-loop-number l = record {
  publisher : l.publisher ≡ l.fn.publisher;
  journal : l.journal ≡ l.fn.journal;
  count : vec_len l.passes ≡ l.number;
  fresh : AreFreshSnapPasses l.self 0 l.passes.items;
}
