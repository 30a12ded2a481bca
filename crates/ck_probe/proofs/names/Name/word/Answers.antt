use Rattle.std.proofs.Common.{◌≡◌, ℕ, ◌+◌, ◌*◌, ◌-◌, length, take, drop, get_or, sym, ◌∙◌, ap, arith}
use Rattle.std.specs.Int.{w64, from_le_bytes}
use Rattle.std.proofs.lemmas.List.{get_or-drop}
use Rattle.ck_probe.proofs.WordBytes.{get_or-filled, word_of-piece, word_of-same}
use Rattle.ck_probe.proofs.names.Name.word.Goals as goal

-- each byte that is held is the name's, or zero past its end
held : (c : goal.After-from_le_bytes) (i : ℕ) → get_or c.self.inside.bytes i 0 ≡ get_or c.args.self.now i 0
held c i =
    ap (λ bytes. get_or bytes i 0) c.self.invariant.filled
    ∙ get_or-filled (take c.self.inside.len c.self.inside.bytes) (48 - length (take c.self.inside.len c.self.inside.bytes)) i
    ∙ ap (λ name. get_or name i 0) c.self.view_is

pub returns : goal.returns
returns c =
    let m : ℕ = 8 * c.args.k in
    let eight : m + 8 - m ≡ 8 = omega arith in
    c.from_le_bytes.ensures
    ∙ ap (from_le_bytes w64) (c.copy_from_slice.ensures.after ∙ ap (λ n. take n (drop m c.self.inside.bytes)) eight)
    ∙ word_of-piece (drop m c.self.inside.bytes)
    ∙ word_of-same (drop m c.self.inside.bytes) (drop m c.args.self.now)
    (λ i. get_or-drop m c.self.inside.bytes i 0 ∙ held c (m + i) ∙ sym (get_or-drop m c.args.self.now i 0))
