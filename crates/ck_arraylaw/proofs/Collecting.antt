-- A reader that loads the members of a region which holds a list collects that list.
use Rattle.std.proofs.Common.{◌≡◌, ◌≢◌, ℕ, ◌+◌, ◌^◌, ◌<◌, ◌≤◌, ◌⊎◌, inl, inr, ◌==◌, Bool, true, false, List, [], ◌∷◌, ◌++◌, length, take, get_or, refl, sym, ap, ◌∙◌, length-append, arith}
use Rattle.std.proofs.lemmas.Bool.{eqb-true}
use Rattle.std.proofs.lemmas.Bool.Decides.{nat_tests}
use Rattle.std.proofs.lemmas.List.{take_more}
use Rattle.std.proofs.Math.Seq.{take-length}
use Rattle.ck_run.specs.declared.account.Step.{Step}
use Rattle.ck_run.specs.declared.account.Step.TheVariants.{Load}
use Rattle.ck_run.specs.Run.{Fits}
use Rattle.ck_history.specs.declared.edit.TheConstants.{MOST_MEMBERS}
use Rattle.ck_epoch.specs.declared.item.Item.{Item}
use Rattle.ck_arraylaw.specs.Layout.{IsRegion, HoldsList, region_at, members_at}
use Rattle.ck_arraylaw.specs.Array.{ReadStage, no_read, at_length, at_member, ReaderState, IsLoadOf, found_by, MayReadNext, collected, collects, read_next}

-- the load finds what stands in its word
pub loaded : (at : ℕ) (ws : List ℕ) (s : Step) → IsLoadOf at s → Fits ws s → found_by s ≡ get_or ws at 0
loaded at ws (Load a x) m f = f ∙ ap (λ (k : ℕ). get_or ws k 0) m
loaded at ws s m f = absurd m

-- a root that names a region isn't cut short, nor is the number of its members
pub region_at_is : (region : Item) (found : ℕ) → IsRegion region → 0 < 2 ^ region.log → found ≡ region.at → region_at found ≡ region.at
region_at_is region found inside some is = let high = inside.high in omega arith

members_at_is : (region : Item) (at n : ℕ) → IsRegion region → n < 2 ^ region.log → n ≤ MOST_MEMBERS → at ≡ region.at → members_at at n ≡ n
members_at_is region at n inside room few is = let high = inside.high in omega arith

module _ (region : Item) (members : List ℕ) where
  -- the reader is at this region, and has loaded the first of these members
  abbrev pub IsCollecting : ReadStage → Type 0
  IsCollecting no_read = Unit {0}
  IsCollecting (at_length at) = at ≡ region.at
  IsCollecting (at_member at n some) = (at ≡ region.at) × (n ≡ length members) × (some ≡ take (length some) members) × (length some < length members)

  -- it goes on, or has answered all of them
  abbrev pub GoesOnOrAnswers : ReaderState → ReaderState → Type 0
  GoesOnOrAnswers y y' = ((y'.answers ≡ y.answers) × IsCollecting y'.stage) ⊎ ((y'.answers ≡ y.answers ++ members ∷ []) × (y'.stage ≡ no_read))

  collects_next : (y : ReaderState) (at n : ℕ) (some : List ℕ) → at ≡ region.at → n ≡ length members → some ≡ take (length some) members → length some ≤ length members → GoesOnOrAnswers y (collects y at n some)
  collects_next y at n some here all first few = go (length some == n) refl
    where
      go : (b : Bool) → (length some == n) ≡ b → GoesOnOrAnswers y (collected y at n some b)
      go true e = let same : length some ≡ length members = eqb-true (length some) n e ∙ all in
          inr (ap (λ (l : List ℕ). y.answers ++ l ∷ []) (first ∙ (ap (λ (k : ℕ). take k members) same ∙ take-length members)), refl)
      go false e = inl (refl, (here, all, first, (let other : length some ≢ n = λ same. (let t : (length some == n) ≡ true = grind (arith, nat_tests) in let z : true ≡ false = sym t ∙ e in cc) in let apart : length some ≢ length members = λ same. other (same ∙ sym all) in omega arith)))

  pub collects_on : (base : ℕ) (ws : List ℕ) (y : ReaderState) (g : ReadStage) (opens : List ℕ) (s : Step) → IsRegion region → HoldsList base ws region members → length members ≤ MOST_MEMBERS → (g ≡ no_read → ⊥) → IsCollecting g → MayReadNext base g opens s → Fits ws s
      → GoesOnOrAnswers y (read_next y g (found_by s))
  collects_on base ws y no_read opens s inside holds few going h m f = absurd (going refl)
  collects_on base ws y (at_length at) opens s inside holds few going h m f =
      let found : found_by s ≡ length members = loaded (base + at) ws s m.0 f ∙ (ap (λ (k : ℕ). get_or ws (base + k) 0) h ∙ holds.all.count) in
      let n_is : members_at at (found_by s) ≡ length members = ap (λ (k : ℕ). members_at at k) found ∙ members_at_is region at (length members) inside holds.room few h in
      collects_next y at (members_at at (found_by s)) [] h n_is refl (omega arith)
  collects_on base ws y (at_member at n some) opens s inside holds few going h m f =
      let found : found_by s ≡ get_or members (length some) 0 = loaded (base + at + 1 + length some) ws s m.0 f ∙ (ap (λ (k : ℕ). get_or ws (base + k + 1 + length some) 0) h.0 ∙ holds.all.member (length some) h.3) in
      let longer : length (some ++ found_by s ∷ []) ≡ length some + 1 = length-append some (found_by s ∷ []) in
      let low = h.3 in
      let next : some ++ found_by s ∷ [] ≡ take (length some + 1) members = (λ i. (h.2 i) ++ found i ∷ []) ∙ sym (take_more members (length some) 0 h.3) in
      collects_next y at n (some ++ found_by s ∷ []) h.0 h.1 (next ∙ ap (λ (k : ℕ). take k members) (sym longer)) (omega arith)
