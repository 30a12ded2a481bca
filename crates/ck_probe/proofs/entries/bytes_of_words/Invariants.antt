use Rattle.std.proofs.Common.{◌≡◌, ◌*◌, length, take}
use Rattle.ck_probe.specs.Words.{bytes_of}
use Rattle.ck_probe.proofs.entries.bytes_of_words.Given as goal

abbrev pub invariant-loop-k : goal.invariant-loop-k
invariant-loop-k l = record {
  long : length l.bytes ≡ 48;
  written : take (8 * l.k) l.bytes ≡ bytes_of (take l.k l.words);
}
