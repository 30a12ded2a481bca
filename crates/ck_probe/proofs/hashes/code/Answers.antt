use Rattle.std.proofs.Common.{◌≡◌, ℕ, ◌+◌, suc, length, ap, sym, ◌∙◌, arith}
use Rattle.std.specs.Prelude.{fold}
use Rattle.std.specs.Int.{div_ceil}
use Rattle.std.proofs.lemmas.List.Sums.{fold_push}
use Rattle.ck_probe.specs.Codes.{bytes_code}
use Rattle.ck_probe.specs.Mixing.{mix_of}
use Rattle.ck_probe.specs.Words.{words_of}
use Rattle.ck_probe.proofs.WordBytes.{words_of-more}
use Rattle.ck_probe.proofs.hashes.code.Goals as goal

pub loop-k-init : goal.loop-k-init
unfolding words_of
loop-k-init c = c.mix-state.ensures ∙ ap (λ bytes. mix_of (length bytes) c.args.style.seed) c.bytes-len.ensures.value

pub loop-k-preserved : goal.loop-k-preserved
loop-k-preserved c =
    let step : ℕ → ℕ → ℕ = λ state word. mix_of word state in
    let start : ℕ = mix_of (length c.canon-spelled.result) c.args.style.seed in
    let next : c.loop-k.k + 1 ≡ suc c.loop-k.k = omega arith in
    c.mix-state-in-loop-k.ensures
    ∙ ap (λ word. mix_of word c.loop-k.state) c.word.ensures
    ∙ ap (mix_of _) c.loop-k.invariant
    ∙ sym (fold_push step start (words_of c.loop-k.k c.canon-spelled.result) _)
    ∙ ap (fold step start) (sym (words_of-more c.loop-k.k c.canon-spelled.result))
    ∙ ap (λ n. fold step start (words_of n c.canon-spelled.result)) (sym next)

pub returns-clause-value : goal.returns-clause-value
unfolding bytes_code
returns-clause-value c =
    let step : ℕ → ℕ → ℕ = λ state word. mix_of word state in
    let start : ℕ = mix_of (length c.canon-spelled.result) c.args.style.seed in
    let all : c.loop-k.k ≡ c.div_ceil-k-end.result = omega arith in
    let pieces : c.loop-k.k ≡ div_ceil (length c.canon-spelled.result) 8 =
    all ∙ c.div_ceil-k-end.ensures ∙ ap (λ bytes. div_ceil (length bytes) 8) c.bytes-len.ensures.value in
    c.loop-k.invariant
    ∙ ap (λ n. fold step start (words_of n c.canon-spelled.result)) pieces
    ∙ ap (bytes_code c.args.style.seed) c.canon-spelled.ensures.value

pub returns-clause-by_canon : goal.returns-clause-by_canon
returns-clause-by_canon c = λ other e. ap (bytes_code c.args.style.seed) e ∙ sym (returns-clause-value c)
