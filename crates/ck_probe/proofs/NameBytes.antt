-- Names and the 48 bytes that hold them.
use Rattle.std.proofs.Common.{◌≡◌, ℕ, ◌-◌, List, [], ◌∷◌, ◌++◌, length, take, drop, zero, suc, sym, ◌∙◌, ap, refl, subst, arith, true, false}
use Rattle.std.specs.Prelude.{map, replicate, if◌then◌else◌}
use Rattle.std.specs.Char.{to_ascii_lowercase, IsAsciiGraphic}
use Rattle.std.proofs.Math.Seq.{take-append_seam}
use Rattle.std.proofs.lemmas.List.{drop-replicate, map-append, length-map}
use Rattle.std.proofs.lemmas.Bool.Decides.{nat_tests}
use Rattle.std.proofs.lemmas.List.Elements.{All-map, All-weaker}
use Rattle.ck_probe.specs.declared.names.Style.{Style}
use Rattle.ck_probe.specs.Names.{IsName, HoldsName, padded}
use Rattle.ck_probe.specs.Canon.{canon_of}

-- 48 bytes that are a name's and then zero hold the name
pub holds_padded : (name bytes : List ℕ) → IsName name → bytes ≡ padded name → HoldsName bytes (length name)
holds_padded name bytes is_name e =
    let first : take (length name) bytes ≡ name = ap (take (length name)) e ∙ take-append_seam name (replicate (48 - length name) 0) in
    let P : List ℕ → Type 0 = IsName in
    record {
      name = subst P (sym first) is_name;
      len_is = ap length first;
      filled = e ∙ ap padded (sym first);
    }

-- a name written over the first of 48 zero bytes
pub written-padded : (name zeros : List ℕ) → zeros ≡ replicate 48 0 → name ++ drop (length name) zeros ≡ padded name
written-padded name zeros e = ap (λ zs. name ++ drop (length name) zs) e ∙ ap (λ zs. name ++ zs) (drop-replicate (length name) 48 0)

map-replicate : (f : ℕ → ℕ) (n x : ℕ) → map f (replicate n x) ≡ replicate n (f x)
map-replicate f zero x = refl
map-replicate f (suc n) x = ap (λ xs. f x ∷ xs) (map-replicate f n x)

graphic-lowercase : (b : ℕ) → IsAsciiGraphic b → IsAsciiGraphic (to_ascii_lowercase b)
graphic-lowercase b h = (grind (arith, nat_tests, h.0, h.1), grind (arith, nat_tests, h.0, h.1))

lowercase-twice : (b : ℕ) → to_ascii_lowercase (to_ascii_lowercase b) ≡ to_ascii_lowercase b
lowercase-twice b = grind (arith, nat_tests)

-- a name in lower case is a name
pub IsName-lowercase : (name : List ℕ) → IsName name → IsName (map to_ascii_lowercase name)
IsName-lowercase name h = record {
  not_empty = omega (arith, length-map name to_ascii_lowercase, h.not_empty);
  in_limit = omega (arith, length-map name to_ascii_lowercase, h.in_limit);
  graphic = All-map IsAsciiGraphic to_ascii_lowercase name (All-weaker IsAsciiGraphic (λ b. IsAsciiGraphic (to_ascii_lowercase b)) graphic-lowercase name h.graphic);
}

-- lower case leaves the zero bytes
pub map-padded : (name : List ℕ) → map to_ascii_lowercase (padded name) ≡ padded (map to_ascii_lowercase name)
map-padded name =
    map-append to_ascii_lowercase name (replicate (48 - length name) 0)
    ∙ ap (λ zs. map to_ascii_lowercase name ++ zs) (map-replicate to_ascii_lowercase (48 - length name) 0)
    ∙ ap (λ n. map to_ascii_lowercase name ++ replicate (48 - n) 0) (sym (length-map name to_ascii_lowercase))

lowercases-twice : (name : List ℕ) → map to_ascii_lowercase (map to_ascii_lowercase name) ≡ map to_ascii_lowercase name
lowercases-twice [] = refl
lowercases-twice (b ∷ bs) =
    ap (λ x. x ∷ map to_ascii_lowercase (map to_ascii_lowercase bs)) (lowercase-twice b)
    ∙ ap (λ xs. to_ascii_lowercase b ∷ xs) (lowercases-twice bs)

pub canon_of-canon_of : (style : Style) (name : List ℕ) → canon_of style (canon_of style name) ≡ canon_of style name
canon_of-canon_of style name =
    elim style.fold as (λ f. (if f then map to_ascii_lowercase (if f then map to_ascii_lowercase name else name) else (if f then map to_ascii_lowercase name else name)) ≡ (if f then map to_ascii_lowercase name else name)) [
      | true ↦ lowercases-twice name
      | false ↦ refl
    ]

pub IsName-canon_of : (style : Style) (name : List ℕ) → IsName name → IsName (canon_of style name)
IsName-canon_of style name h =
    elim style.fold as (λ f. IsName (if f then map to_ascii_lowercase name else name)) [
      | true ↦ IsName-lowercase name h
      | false ↦ h
    ]

length-canon_of : (style : Style) (name : List ℕ) → length (canon_of style name) ≡ length name
length-canon_of style name =
    elim style.fold as (λ f. length (if f then map to_ascii_lowercase name else name) ≡ length name) [
      | true ↦ length-map name to_ascii_lowercase
      | false ↦ refl
    ]

-- what holds a name holds its canon name once its bytes are spelled so
pub holds-canon_of : (style : Style) (bytes out : List ℕ) (len : ℕ) → HoldsName bytes len
    → out ≡ (if style.fold then map to_ascii_lowercase bytes else bytes)
    → HoldsName out len × (take len out ≡ canon_of style (take len bytes))
holds-canon_of style bytes out len h e =
    let name : List ℕ = take len bytes in
    let canon : List ℕ = canon_of style name in
    let spelled : out ≡ padded canon =
    e ∙ elim style.fold as (λ f. (if f then map to_ascii_lowercase bytes else bytes) ≡ padded (if f then map to_ascii_lowercase name else name)) [
      | true ↦ ap (map to_ascii_lowercase) h.filled ∙ map-padded name
      | false ↦ h.filled
    ] in
    let is_name : IsName canon = IsName-canon_of style name h.name in
    let len_is : length canon ≡ len = length-canon_of style name ∙ h.len_is in
    let P : ℕ → Type 0 = λ n. HoldsName out n in
    let holds : HoldsName out len = subst P len_is (holds_padded canon out is_name spelled) in
    (holds, ap (λ n. take n out) (sym len_is) ∙ ap (take (length canon)) spelled ∙ take-append_seam canon (replicate (48 - length canon) 0))
