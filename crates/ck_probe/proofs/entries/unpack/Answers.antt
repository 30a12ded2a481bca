use Rattle.std.proofs.Common.{◌≡◌, ℕ, ◌^◌, ◌<◌, List, length, take, drop, get_or, true, false, rules, refl, ap, sym, ◌∙◌, subst, arith}
use Rattle.std.specs.Prelude.{Option, Some, IsSome}
use Rattle.std.proofs.lemmas.List.{length-drop, take_all}
use Rattle.ck_probe.specs.Names.{IsName, HoldsName}
use Rattle.ck_probe.specs.Words.{bytes_of}
use Rattle.ck_probe.specs.Entries.{entry_of}
use Rattle.ck_probe.proofs.EntryBlocks.{packed_from_holds, holds_from_packed, holds-from_IsEntry}
use Rattle.ck_probe.proofs.entries.unpack.Goals as goal

never : {P : Type 0} → false ≡ true → P
never e = absurd (let bottom : ⊥ = cc in bottom)

-- the bytes that are unpacked are those of words 2 to 7
unpacked : (block bytes : List ℕ) → length block ≡ 8 → bytes ≡ bytes_of (take 6 (drop 2 block)) → bytes ≡ bytes_of (drop 2 block)
unpacked block bytes eight e = e ∙ ap bytes_of (take_all 6 (drop 2 block) (omega (arith, length-drop 2 block)))

-- what is known where a name was found
found : (c : goal.After-result-1) → HoldsName (bytes_of (drop 2 c.args.block.now)) (get_or c.args.block.now 0 0)
found c =
    let P : List ℕ → Type 0 = λ bytes. HoldsName bytes (get_or c.args.block.now 0 0) in
    subst P (unpacked c.args.block.now c.bytes_of_words.result c.told-block c.bytes_of_words.ensures) (c.in_ok-name.ensures.exactly.0 refl)

name_is : (c : goal.After-result-1) → c.in_ok-name.name ≡ take (get_or c.args.block.now 0 0) (bytes_of (drop 2 c.args.block.now))
name_is c =
    c.in_ok-name.ensures.value
    ∙ ap (take (get_or c.args.block.now 0 0)) (unpacked c.args.block.now c.bytes_of_words.result c.told-block c.bytes_of_words.ensures)

small : (c : goal.After-result-1) (i : ℕ) → get_or c.args.block.now i 0 < 2 ^ 64
small c i = search rules

packed : (c : goal.After-result-1) → IsName c.in_ok-name.name × (c.args.block.now ≡ entry_of c.in_ok-name.name (get_or c.args.block.now 1 0))
packed c =
    let P : List ℕ → Type 0 = IsName in (
      subst P (sym (name_is c)) (found c).name,
      packed_from_holds c.args.block.now c.told-block (small c) (found c)
          ∙ ap (λ name. entry_of name (get_or c.args.block.now 1 0)) (sym (name_is c)),
    )

pub returns-clause-exactly : goal.returns-clause-exactly
returns-clause-exactly c =
    (λ _. (c.in_ok-name.name, get_or c.args.block.now 1 0, (packed c).0, small c 1, (packed c).1), λ _. refl)

pub returns-clause-packed : goal.returns-clause-packed
returns-clause-packed c = packed c

pub returns-clause-undoes : goal.returns-clause-undoes
returns-clause-undoes c = λ name value is_name e.
    let own : HoldsName (bytes_of (drop 2 c.args.block.now)) (get_or c.args.block.now 0 0)
    × (take (get_or c.args.block.now 0 0) (bytes_of (drop 2 c.args.block.now)) ≡ name)
    × (get_or c.args.block.now 1 0 ≡ value) = holds_from_packed c.args.block.now name value is_name e in
    ap (λ n. Some (n, get_or c.args.block.now 1 0)) (name_is c ∙ own.1) ∙ ap (λ v. Some (name, v)) own.2

-- where no name was found the block packs none
none : (c : goal.After-from_residual) → HoldsName (bytes_of (drop 2 c.args.block.now)) (get_or c.args.block.now 0 0) → false ≡ true
none c h =
    let P : List ℕ → Type 0 = λ bytes. HoldsName bytes (get_or c.args.block.now 0 0) in
    c.in_err-name.ensures.exactly.1
    (subst P (sym (unpacked c.args.block.now c.bytes_of_words.result c.told-block c.bytes_of_words.ensures)) h)

-- and the answer is none
refused : (c : goal.After-from_residual) → IsSome c.from_residual.result → false ≡ true
refused c h = let P : Option (List ℕ × ℕ) → Type 0 = λ o. IsSome o in subst P c.from_residual.ensures h

pub returns-in_err-name-clause-exactly : goal.returns-in_err-name-clause-exactly
returns-in_err-name-clause-exactly c =
    (λ h. never (refused c h), λ p. never (none c (holds_from_packed c.args.block.now p.0 p.1 p.2 p.4).0))

pub returns-in_err-name-clause-layout : goal.returns-in_err-name-clause-layout
returns-in_err-name-clause-layout c =
    (λ h. never (refused c h), λ h. never (none c (holds-from_IsEntry c.args.block.now c.told-block h)))

pub returns-in_err-name-clause-undoes : goal.returns-in_err-name-clause-undoes
returns-in_err-name-clause-undoes c = λ name value is_name e.
    never (none c (holds_from_packed c.args.block.now name value is_name e).0)
