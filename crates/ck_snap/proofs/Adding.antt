-- Each step on the shared word keeps the rule of the log, and who has the pen that the last link names adds the next one.
use Rattle.std.proofs.Common.{◌≡◌, ◌≢◌, ℕ, zero, suc, ◌<◌, ◌==◌, Bool, true, false, List, [], ◌∷◌, ◌++◌, length, set, refl, ap, sym, subst, ◌∙◌, arith, inl, append_assoc, length-set, get_or-set_same, get_or-set_other, None}
use Rattle.std.proofs.lemmas.List.{append-nil, get_or_append_left}
use Rattle.std.proofs.lemmas.Bool.Decides.{nat_tests}
use mathlib.Core.Logic.{dite}
use native.Mathlib.Decide.{ℕ_discrete}
use mathlib.Core.List.{IsPrefix}
use prog.Atomic.{either}
use Rattle.logbook.specs.Pages.{Cell, cell, keeps, gives, adds, Nib, no_nib, may_write, step, View, Moves, Goes}
use Rattle.ck_snap.specs.declared.log.Link.{Link}
use Rattle.ck_snap.specs.Log.{Log, last_of}
use Rattle.ck_snap.specs.Growing.{entries, is_home, AreHome, EndsWith, begun, IsLogKept, MakesCell, BeginsLog, Extends}

abbrev pub shown : List Link → List Link
shown links = []

abbrev pub moved : List Link → List Link → ℕ → Type 0
moved xs ys n = Unit {0}

-- what an exchange of n for n + 1, or of 1 for 1, writes where it finds x
abbrev pub written : ℕ → ℕ → ℕ
written n x = either (x == n) 1 x

not_both : (b : Bool) → b ≡ true → b ≡ false → ⊥
not_both true a c = absurd (cc (c))
not_both false a c = absurd (cc (a))

-- a cell that is home is there
home_within : (cs : List Cell) (k : ℕ) → is_home cs k ≡ true → k < length cs
home_within [] k h = absurd (not_both false h refl)
home_within (c ∷ cs) zero h = omega arith
home_within (c ∷ cs) (suc k) h = let r = home_within cs k h in omega arith

-- and stays home
home_set : (cs : List Cell) (i x k : ℕ) → is_home cs k ≡ true → is_home (set cs i (x, true)) k ≡ true
home_set cs i x k h = dite (ℕ_discrete k i)
    (λ (e : k ≡ i). ap (λ (j : ℕ). is_home (set cs i (x, true)) j) e ∙ ap (λ (c : Cell). c.1) (get_or-set_same cs i (x, true) (0, false) (subst (λ (j : ℕ). j < length cs) e (home_within cs k h))))
    (λ (n : k ≢ i). ap (λ (c : Cell). c.1) (get_or-set_other cs i k (x, true) (0, false) n) ∙ h)

home_more : (cs : List Cell) (c : Cell) (k : ℕ) → is_home cs k ≡ true → is_home (cs ++ c ∷ []) k ≡ true
home_more cs c k h = ap (λ (d : Cell). d.1) (get_or_append_left cs (c ∷ []) (0, false) k (home_within cs k h)) ∙ h

all_home : (cs cs' : List Cell) → ((k : ℕ) → is_home cs k ≡ true → is_home cs' k ≡ true) → (ls : List Link) → AreHome cs ls → AreHome cs' ls
all_home cs cs' stay [] h = tt
all_home cs cs' stay (l ∷ []) h = tt
all_home cs cs' stay (l ∷ m ∷ ls) h = (stay l.next h.0, all_home cs cs' stay (m ∷ ls) h.1)

-- where the cell of the last link's pen isn't home, nothing follows
whole : (cs : List Cell) (v log : List Link) (k : ℕ) → IsPrefix v log → EndsWith v k → AreHome cs log → is_home cs k ≡ false → log ≡ v
whole cs [] log k pre ends used away = absurd ends
whole cs (l ∷ []) log k ([], e) ends used away = sym e
whole cs (l ∷ []) log k (m ∷ more, e) ends used away =
    let all : AreHome cs (l ∷ m ∷ more) = subst (AreHome cs) (sym e) used in
    absurd (not_both (is_home cs l.next) all.0 (ap (is_home cs) ends ∙ away))
whole cs (l ∷ m ∷ ls) log k (more, e) ends used away =
    let all : AreHome cs (l ∷ m ∷ (ls ++ more)) = subst (AreHome cs) (sym e) used in
    sym e ∙ ap (λ (r : List Link). l ∷ r) (whole cs (m ∷ ls) (m ∷ (ls ++ more)) k (more, refl) ends all.1 away)

used_more : (cs : List Cell) (v : List Link) (t : Link) (k : ℕ) → EndsWith v k → AreHome cs v → is_home cs k ≡ true → AreHome cs (v ++ t ∷ [])
used_more cs [] t k ends used home = absurd ends
used_more cs (l ∷ []) t k ends used home = (ap (is_home cs) ends ∙ home, tt)
used_more cs (l ∷ m ∷ ls) t k ends used home = (used.0, used_more cs (m ∷ ls) t k ends used.1 home)

pub ends_more : (v : List Link) (t : Link) → EndsWith (v ++ t ∷ []) t.next
ends_more [] t = refl
ends_more (l ∷ []) t = refl
ends_more (l ∷ m ∷ ls) t = ends_more (m ∷ ls) t

begun_more : (v : List Link) (t : Link) → begun (v ++ t ∷ []) ≡ 1
begun_more [] t = refl
begun_more (l ∷ ls) t = refl

has_begun : (v : List Link) (k : ℕ) → EndsWith v k → begun v ≡ 1
has_begun [] k ends = absurd ends
has_begun (l ∷ ls) k ends = refl

not_begun : (v : List Link) → begun v ≡ 0 → v ≡ []
not_begun [] h = refl
not_begun (l ∷ ls) h = absurd (omega (arith, h))

-- an exchange of 1 for 1 writes nothing
same_number : (x : ℕ) → written 1 x ≡ x
same_number x = go (x == 1) refl
  where
    go : (b : Bool) → (x == 1) ≡ b → either b 1 x ≡ x
    go true e = let one : x ≡ 1 = grind (arith, nat_tests) in sym one
    go false e = refl

-- the shared word after an exchange that writes y
word_set : (cs : List Cell) (links : List Link) (y : ℕ) → IsLogKept cs links → cell (set cs 0 (y, true)) 0 ≡ (y, true)
word_set cs links y kept = get_or-set_same cs 0 (y, true) (0, false) (home_within cs 0 (ap (λ (c : Cell). c.1) kept.word))

module _ (v : List Link) (t : Link) where
  abbrev pub bare : View Link ℕ
  bare = (v, (no_nib, None))

  -- a cell is added at any time
  pub make_moves : Moves IsLogKept shown moved 0 bare (written 1) (MakesCell (step 0 1 1 t) bare)
  make_moves cs log kept pre away =
      let home = ap (λ (c : Cell). c.1) kept.word in
      let x = written 1 (cell cs 0).0 in
      let cs' = set cs 0 (x, true) in
      let there : 0 < length cs' = let z = home_within cs 0 home in let e = length-set cs 0 (x, true) in omega arith in
      let same : x ≡ begun log = same_number (cell cs 0).0 ∙ ap (λ (c : Cell). c.0) kept.word in
      let after : IsLogKept (cs' ++ (0, false) ∷ []) log = record {
        word = get_or_append_left cs' ((0, false) ∷ []) (0, false) 0 there ∙ (word_set cs log x kept ∙ ap (λ (y : ℕ). (y, true)) same);
        used = all_home cs (cs' ++ (0, false) ∷ []) (λ k h. home_more cs' (0, false) k (home_set cs 0 x k h)) log kept.used;
      } in
      let more : IsLogKept (cs' ++ (0, false) ∷ []) (log ++ []) = subst (λ (ls : List Link). IsLogKept (cs' ++ (0, false) ∷ []) ls) (sym (append-nil log)) after in
      let goes : Goes IsLogKept shown moved 0 bare (written 1) (MakesCell (step 0 1 1 t) bare) cs log = (adds, [], None, tt, more, inl (refl, refl), refl) in
      (home_within cs 0 home, home, goes)

  -- the first link is added where there is none
  pub begin_moves : Moves IsLogKept shown moved 0 bare (written 0) (BeginsLog (step 0 0 1 t) bare)
  begin_moves cs log kept pre away = (home_within cs 0 home, home, goes ((cell cs 0).0 == 0) refl)
    where
      home : is_home cs 0 ≡ true
      home = ap (λ (c : Cell). c.1) kept.word

      goes : (b : Bool) → ((cell cs 0).0 == 0) ≡ b → Goes IsLogKept shown moved 0 bare (written 0) (BeginsLog (step 0 0 1 t) bare) cs log
      goes true e =
          let none : (cell cs 0).0 ≡ 0 = grind (arith, nat_tests) in
          let empty : log ≡ [] = not_begun log (sym (ap (λ (c : Cell). c.0) kept.word) ∙ none) in
          let one : written 0 (cell cs 0).0 ≡ 1 = rw e refl in
          let all : log ++ t ∷ [] ≡ t ∷ [] = ap (λ (ls : List Link). ls ++ t ∷ []) empty in (
            keeps,
            t ∷ [],
            None,
            tt,
            record { word = word_set cs log _ kept ∙ (ap (λ (y : ℕ). (y, true)) one ∙ ap (λ (y : ℕ). (y, true)) (sym (begun_more log t))); used = subst (λ (ls : List Link). AreHome (set cs 0 (written 0 (cell cs 0).0, true)) ls) (sym all) tt },
            inl (refl, refl),
            rw e all,
          )
      goes false e =
          let same : written 0 (cell cs 0).0 ≡ begun log = rw e (ap (λ (c : Cell). c.0) kept.word) in
          let after : IsLogKept (set cs 0 (written 0 (cell cs 0).0, true)) log = record {
            word = word_set cs log _ kept ∙ ap (λ (y : ℕ). (y, true)) same;
            used = all_home cs _ (λ k h. home_set cs 0 _ k h) log kept.used;
          } in (
            keeps,
            [],
            None,
            tt,
            subst (λ (ls : List Link). IsLogKept (set cs 0 (written 0 (cell cs 0).0, true)) ls) (sym (append-nil log)) after,
            inl (refl, refl),
            rw e tt,
          )

-- who has the pen that the last link names knows the whole log, and adds the next link
module _ (v : List Link) (t : Link) (p : Nib) (right : p.right ≡ may_write) (ends : EndsWith v p.key) where
  abbrev pub holding : View Link ℕ
  holding = (v, (p, None))

  pub extend_moves : Moves IsLogKept shown moved 0 holding (written 1) (Extends (step 0 1 1 t) holding)
  extend_moves cs log kept pre away =
      let home = ap (λ (c : Cell). c.1) kept.word in
      let at = away right in
      let all : log ≡ v = whole cs v log p.key pre ends kept.used at.1 in
      let other : 0 ≢ p.key = λ e. not_both (is_home cs 0) home (ap (is_home cs) e ∙ at.1) in
      let x = written 1 (cell cs 0).0 in
      let cs' = set cs 0 (x, true) in
      let cs'' = set cs' p.key (p.value, true) in
      let here : is_home cs'' p.key ≡ true = let long = length-set cs 0 (x, true) in let l = at.0 in ap (λ (c : Cell). c.1) (get_or-set_same cs' p.key (p.value, true) (0, false) (omega arith)) in
      let last : EndsWith log p.key = subst (λ (ls : List Link). EndsWith ls p.key) (sym all) ends in
      let number : x ≡ 1 = same_number (cell cs 0).0 ∙ (ap (λ (c : Cell). c.0) kept.word ∙ has_begun log p.key last) in
      let after : IsLogKept cs'' (log ++ t ∷ []) = record {
        word = get_or-set_other cs' p.key 0 (p.value, true) (0, false) other ∙ (word_set cs log x kept ∙ (ap (λ (y : ℕ). (y, true)) number ∙ ap (λ (y : ℕ). (y, true)) (sym (begun_more log t))));
        used = used_more cs'' log t p.key last (all_home cs cs'' (λ j h. home_set cs' p.key p.value j (home_set cs 0 x j h)) log kept.used) here;
      } in
      let goes : Goes IsLogKept shown moved 0 holding (written 1) (Extends (step 0 1 1 t) holding) cs log = (gives, t ∷ [], None, right, after, inl (refl, refl), ap (λ (ls : List Link). ls ++ t ∷ []) all) in
      (home_within cs 0 home, home, goes)

-- the entries of more links
pub entries-append : (ls ms : List Link) → entries (ls ++ ms) ≡ entries ls ++ entries ms
entries-append [] ms = refl
entries-append (l ∷ ls) ms = ap (λ (log : Log). last_of l.entry ++ log) (entries-append ls ms) ∙ sym (append_assoc (last_of l.entry) (entries ls) (entries ms))

pub entries-prefix : (ls ms : List Link) → IsPrefix ls ms → IsPrefix (entries ls) (entries ms)
entries-prefix ls ms p = (entries p.0, sym (entries-append ls p.0) ∙ ap entries p.1)
