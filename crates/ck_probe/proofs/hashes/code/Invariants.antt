use Rattle.std.proofs.Common.{◌≡◌, length}
use Rattle.std.specs.Prelude.{fold}
use Rattle.ck_probe.specs.Mixing.{mix_of}
use Rattle.ck_probe.specs.Words.{words_of}
use Rattle.ck_probe.proofs.hashes.code.Given as goal

abbrev pub invariant-loop-k : goal.invariant-loop-k
invariant-loop-k l =
    l.state ≡ fold (λ state word. mix_of word state) (mix_of (length l.spelled) l.fn.style.seed) (words_of l.k l.spelled)
