use Rattle.std.proofs.Common.{◌≡◌, ℕ, ◌+◌, ◌-◌, ◌*◌, ◌++◌, length, take, get_or, rules, ap, sym, ◌∙◌, refl, arith}
use Rattle.std.specs.Int.{w64, to_le_bytes}
use Rattle.std.proofs.lemmas.List.{take_all, take_more}
use Rattle.std.proofs.lemmas.Slice.{overwrites, take-put_mid}
use Rattle.ck_probe.specs.Words.{bytes_of}
use Rattle.ck_probe.proofs.WordBytes.{bytes_of-push}
use Rattle.ck_probe.proofs.entries.bytes_of_words.Goals as goal

pub loop-k-init : goal.loop-k-init
unfolding bytes_of
loop-k-init c = record { long = refl; written = refl }

pub loop-k-preserved : goal.loop-k-preserved
loop-k-preserved c =
    let at : ℕ = 8 * c.loop-k.k in
    let word : ℕ = get_or c.args.words.now c.loop-k.k 0 in
    let piece : c.copy_from_slice.new.self ≡ to_le_bytes w64 word = c.copy_from_slice.ensures.after ∙ c.to_le_bytes.ensures in
    let eight : length c.copy_from_slice.new.self ≡ 8 = ap length piece in
    record {
      long = search (rules, overwrites);
      written =
          take-put_mid at (at + 8 - at) c.loop-k.bytes c.copy_from_slice.new.self (8 * (c.loop-k.k + 1)) (omega arith) (omega arith)
          ∙ ap (λ done. done ++ c.copy_from_slice.new.self) c.loop-k.invariant.written
          ∙ ap (λ ys. bytes_of (take c.loop-k.k c.args.words.now) ++ ys) piece
          ∙ sym (bytes_of-push (take c.loop-k.k c.args.words.now) word)
          ∙ ap bytes_of (sym (take_more c.args.words.now c.loop-k.k 0 (omega arith)));
    }

pub returns : goal.returns
returns c =
    sym (take_all (8 * c.loop-k.k) c.loop-k.bytes (omega arith))
    ∙ c.loop-k.invariant.written
    ∙ ap bytes_of (take_all c.loop-k.k c.args.words.now (omega arith))
