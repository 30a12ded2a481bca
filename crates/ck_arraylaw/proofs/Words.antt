-- What a step does to words, and to the members that a region's words stand for.
use Rattle.std.proofs.Common.{◌≡◌, ◌≢◌, ℕ, suc, ◌+◌, ◌^◌, ◌<◌, ◌≤◌, ◌⊎◌, ⊎_elim, inl, inr, Bool, true, false, cond, ◌==◌, ◌&&◌, leb, ltb, List, length, get_or, get_or-set_other, length-set, refl, sym, ap, ◌∙◌, subst, arith, add-zero}
use Rattle.std.proofs.lemmas.Bool.Decides.{nat_tests}
use Rattle.ck_run.specs.declared.account.Step.{Step}
use Rattle.ck_run.specs.declared.account.Step.TheVariants.{Load, Store, Exchange}
use Rattle.ck_run.specs.Run.{words_after}
use Rattle.ck_run.specs.Range.{word_of}
use Rattle.ck_epoch.specs.declared.item.Item.{Item}
use Rattle.ck_arraylaw.specs.Layout.{HoldsFirst, HoldsList}
use Rattle.ck_arraylaw.specs.Array.{IsLoadOf, IsStoreOf, IsLoad, found_by}

-- tests of words
pub in_range : (a b c : ℕ) → leb a c && ltb c b ≡ true → (a ≤ c) × (c < b)
in_range a b c h = (grind (arith, nat_tests), grind (arith, nat_tests))

pub range_in : (a b c : ℕ) → a ≤ c → c < b → leb a c && ltb c b ≡ true
range_in a b c h g = grind (arith, nat_tests)

pub true_false : {A : Type 0} (b : Bool) → b ≡ true → b ≡ false → A
true_false b e f = absurd (let z : true ≡ false = sym e ∙ f in cc)

-- steps
pub leaves : (ws : List ℕ) (s : Step) (i : ℕ) → word_of s ≢ i → get_or (words_after ws s) i 0 ≡ get_or ws i 0
leaves ws (Load at found) i other = refl
leaves ws (Store at x) i other = get_or-set_other ws at i x 0 (λ e. other (sym e))
leaves ws (Exchange at old new found) i other = get_or-set_other ws at i (cond (found == old) new found) 0 (λ e. other (sym e))

pub long_after : (ws : List ℕ) (s : Step) → length (words_after ws s) ≡ length ws
long_after ws (Load at found) = refl
long_after ws (Store at x) = length-set ws at x
long_after ws (Exchange at old new found) = length-set ws at (cond (found == old) new found)

pub load_is : (at : ℕ) (s : Step) → IsLoadOf at s → s ≡ Load at (found_by s)
load_is at (Load a x) m = ap (λ (b : ℕ). Load b x) m
load_is at s m = absurd m

pub store_is : (at x : ℕ) (s : Step) → IsStoreOf at x s → s ≡ Store at x
store_is at x (Store a y) m = λ i. Store (m.0 i) (m.1 i)
store_is at x s m = absurd m

pub after_load : (at : ℕ) (ws : List ℕ) (s : Step) → IsLoadOf at s → words_after ws s ≡ ws
after_load at ws (Load a x) m = refl
after_load at ws s m = absurd m

pub after_any_load : (floor base : ℕ) (ws : List ℕ) (s : Step) → IsLoad floor base s → words_after ws s ≡ ws
after_any_load floor base ws (Load a x) m = refl
after_any_load floor base ws s m = absurd m

-- the next place within a region
pub next_place : (a j : ℕ) → a + 1 + j ≡ a + suc j
next_place a j = omega arith

-- where the words at the first places stand as they did, so do the members
pub first_stays : (base : ℕ) (ws ws' : List ℕ) (region : Item) (members : List ℕ) (n : ℕ) → ((j : ℕ) → j ≤ n → get_or ws' (base + region.at + j) 0 ≡ get_or ws (base + region.at + j) 0) → HoldsFirst base ws region members n → HoldsFirst base ws' region members n
first_stays base ws ws' region members n same h = record {
  count = subst (λ (k : ℕ). get_or ws' k 0 ≡ get_or ws k 0) (add-zero (base + region.at)) (same 0 (omega arith)) ∙ h.count;
  member = λ j low. subst (λ (k : ℕ). get_or ws' k 0 ≡ get_or ws k 0) (sym (next_place (base + region.at) j)) (same (suc j) (omega arith)) ∙ h.member j low;
}

pub list_stays : (base : ℕ) (ws ws' : List ℕ) (region : Item) (members : List ℕ) → ((j : ℕ) → j < 2 ^ region.log → get_or ws' (base + region.at + j) 0 ≡ get_or ws (base + region.at + j) 0) → HoldsList base ws region members → HoldsList base ws' region members
list_stays base ws ws' region members same h = let room = h.room in record { all = first_stays base ws ws' region members (length members) (λ j low. same j (omega arith)) h.all; room = h.room }

-- one member more is stored
pub one_stored : (base : ℕ) (ws ws' : List ℕ) (region : Item) (members : List ℕ) (n : ℕ) → ((j : ℕ) → j ≤ n → get_or ws' (base + region.at + j) 0 ≡ get_or ws (base + region.at + j) 0) → get_or ws' (base + region.at + 1 + n) 0 ≡ get_or members n 0
    → HoldsFirst base ws region members n → HoldsFirst base ws' region members (suc n)
one_stored base ws ws' region members n same here h = let before = first_stays base ws ws' region members n same h in record {
  count = before.count;
  member = λ j low. ⊎_elim (λ (less : j < n). before.member j less) (λ (is : j ≡ n). subst (λ (k : ℕ). get_or ws' (base + region.at + 1 + k) 0 ≡ get_or members k 0) (sym is) here) (less_or_is j n low);
}
  where
    less_or_is : (j n : ℕ) → j < suc n → (j < n) ⊎ (j ≡ n)
    less_or_is j n low = by (ltb j n) refl
      where
        by : (b : Bool) → ltb j n ≡ b → (j < n) ⊎ (j ≡ n)
        by true e = inl (grind (arith, nat_tests))
        by false e = inr (let high : n ≤ j = grind (arith, nat_tests) in omega arith)
