-- Which place each query is held to, by the `hold` lines in order.
use Rattle.std.proofs.Common.{◌≡◌, ◌≢◌, ℕ, zero, suc, ◌+◌, ◌-◌, ◌<◌, ◌≤◌, nat_le, ◌==◌, ◌&&◌, Bool, true, false, cond, min, List, [], ◌∷◌, ◌++◌, length, get_or, drop, refl, ap, sym, ◌∙◌, add-one, arith, append_assoc, append-nil, length-append, map, max, subst, Some}
use Rattle.std.specs.List.{slice_get, repeat}
use Rattle.std.specs.Option.{unwrap_or}
use Rattle.std.proofs.Math.Seq.{drop-cons}
use Rattle.std.proofs.lemmas.Bool.Decides.{nat_tests}
use Rattle.std.proofs.lemmas.List.{map-append, drop_all}
use Rattle.ck_script.specs.declared.line.UpLine.{UpLine}
use Rattle.ck_script.specs.declared.line.UpLine.TheVariants.{Call, Hold}
use Rattle.ck_script.specs.declared.line.Numbered.{Numbered}
use Rattle.ck_script.specs.declared.line.AskLine.{AskLine}
use Rattle.ck_script.specs.declared.line.AskLine.TheVariants.{Ask, Wait}
use Rattle.ck_script.specs.Script.{HoldLine, greatest, holds, updates, said_of, queries, bounded}
use Rattle.ck_history.specs.Legal.{Query}
use Rattle.ck_judge.specs.declared.bounds.Held.{Held}
use Rattle.ck_judge.specs.declared.bounds.Bounded.{Bounded}
use Rattle.ck_script.proofs.Standing.{said_there}
use Rattle.ck_judge.specs.Bounds.{RiseTo, hold_line, query_of}

-- the next element, and the others
pub drop_next : {A : Type 0} (xs : List A) (i : ℕ) (x : A) → i < length xs → x ≡ get_or xs i x → drop i xs ≡ x ∷ drop (i + 1) xs
drop_next xs i x lt is = drop-cons xs i x lt ∙ (ap (λ y. y ∷ drop (suc i) xs) (sym is) ∙ ap (λ k. x ∷ drop k xs) (sym (add-one i)))

-- an element of a list that was extended by n times x, or b, is one of the list, or a, where a is what stands beyond it
pub extended : (xs : List ℕ) (n x k a b : ℕ) → (length xs ≤ k → k < length xs + n → a ≡ x) → (length xs + n ≤ k → a ≡ b) → unwrap_or (slice_get (xs ++ repeat n (x ∷ [])) k) b ≡ unwrap_or (slice_get xs k) a
extended [] zero x k a b within beyond = sym (beyond (omega arith))
extended [] (suc n) x zero a b within beyond = sym (within (omega arith) (omega arith))
extended [] (suc n) x (suc k) a b within beyond = extended [] n x k a b (λ from to. within (omega arith) (omega arith)) (λ from. beyond (omega arith))
extended (y ∷ xs) n x zero a b within beyond = refl
extended (y ∷ xs) n x (suc k) a b within beyond = extended xs n x k a b (λ from to. within (omega arith) (omega arith)) (λ from. beyond (omega arith))

-- no `hold` line holds below where the lines begin
pub rises_below : (all m f i : ℕ) (hs : List HoldLine) → RiseTo all m hs → m ≤ greatest all f i hs
rises_below all m f i [] rise = rise
rises_below all m f i (h ∷ hs) rise =
    let later = rises_below all h.after f i hs rise.1 in
    elim ((h.file == f) && nat_le i h.count) as (λ b. m ≤ cond b (min h.after (greatest all f i hs)) (greatest all f i hs)) [
      | true ↦ omega (arith, rise.0, later)
      | false ↦ omega (arith, rise.0, later)
    ]

by_true : (b : Bool) (x y : ℕ) → b ≡ true → cond b x y ≡ x
by_true b x y e = ap (λ t. cond t x y) e

by_false : (b : Bool) (x y : ℕ) → b ≡ false → cond b x y ≡ y
by_false b x y e = ap (λ t. cond t x y) e

covers : (g f i n : ℕ) → g ≡ f → i ≤ n → ((g == f) && nat_le i n) ≡ true
covers g f i n same le = grind (arith, nat_tests)

passes_other : (g f i n : ℕ) → g ≢ f → ((g == f) && nat_le i n) ≡ false
passes_other g f i n apart = grind (arith, nat_tests)

passes_later : (g f i n : ℕ) → n < i → ((g == f) && nat_le i n) ≡ false
passes_later g f i n lt = grind (arith, nat_tests)

-- the first line that holds a query holds it to the least place
pub held_here : (all m f i : ℕ) (h : HoldLine) (hs : List HoldLine) → RiseTo all m (h ∷ hs) → h.file ≡ f → i ≤ h.count → greatest all f i (h ∷ hs) ≡ h.after
held_here all m f i h hs rise same le =
    let later = rises_below all h.after f i hs rise.1 in
    let least : min h.after (greatest all f i hs) ≡ h.after = omega (arith, later) in
    by_true ((h.file == f) && nat_le i h.count) (min h.after (greatest all f i hs)) (greatest all f i hs) (covers h.file f i h.count same le) ∙ least

pub held_later : (all f i : ℕ) (h : HoldLine) (hs : List HoldLine) → h.count < i → greatest all f i (h ∷ hs) ≡ greatest all f i hs
held_later all f i h hs lt = by_false ((h.file == f) && nat_le i h.count) (min h.after (greatest all f i hs)) (greatest all f i hs) (passes_later h.file f i h.count lt)

pub held_elsewhere : (all f i : ℕ) (h : HoldLine) (hs : List HoldLine) → h.file ≢ f → greatest all f i (h ∷ hs) ≡ greatest all f i hs
held_elsewhere all f i h hs apart = by_false ((h.file == f) && nat_le i h.count) (min h.after (greatest all f i hs)) (greatest all f i hs) (passes_other h.file f i h.count apart)

-- the limits, extended by a line for the file
pub limits_more : (all m f : ℕ) (h : HoldLine) (hs : List HoldLine) (xs : List ℕ) (i : ℕ) → RiseTo all m (h ∷ hs) → h.file ≡ f → unwrap_or (slice_get (xs ++ repeat (h.count - length xs) (h.after ∷ [])) i) (greatest all f (i + 1) hs) ≡ unwrap_or (slice_get xs i) (greatest all f (i + 1) (h ∷ hs))
limits_more all m f h hs xs i rise same = extended xs (h.count - length xs) h.after i (greatest all f (i + 1) (h ∷ hs)) (greatest all f (i + 1) hs)
    (λ from to. held_here all m f (i + 1) h hs rise same (omega arith))
    (λ beyond. held_later all f (i + 1) h hs (omega arith))

-- the `hold` lines of an update file stand after more and more of its updates
pub holds_rise : {C : Type 0} (all m n : ℕ) (lines : List (UpLine C)) → m ≤ n → n + length (updates lines) ≤ all → RiseTo all m (holds n lines)
holds_rise all m n [] le within = omega arith
holds_rise all m n (Call u ∷ more) le within = holds_rise all m (n + 1) more (omega arith) (omega arith)
holds_rise all m n (Hold file count ∷ more) le within = (le, holds_rise all n n more (omega arith) within)

-- one more element at the end, of those that are left to append
pub appended : (xs ys : List ℕ) (x count : ℕ) → ys ≡ xs ++ x ∷ [] → length xs < count → ys ++ repeat (count - length ys) (x ∷ []) ≡ xs ++ repeat (count - length xs) (x ∷ [])
appended xs ys x count e lt =
    let longer : length ys ≡ length xs + 1 = ap length e ∙ length-append xs (x ∷ []) in
    let left : count - length xs ≡ suc (count - length ys) = omega (arith, longer) in
    ap (λ l. l ++ repeat (count - length ys) (x ∷ [])) e ∙ (append_assoc xs (x ∷ []) (repeat (count - length ys) (x ∷ [])) ∙ sym (ap (λ k. xs ++ repeat k (x ∷ [])) left))

module _ {C : Type 0} (ups : List (Numbered (UpLine C))) (i : ℕ) (said : UpLine C) (is : slice_get (said_of ups) i ≡ Some said) (held held' : List Held) (after after' : ℕ) (whole : List HoldLine) (so_far : map hold_line held ++ holds after (said_of (drop i ups)) ≡ whole) where
  next_line : (what : UpLine C) → said ≡ what → holds after (said_of (drop i ups)) ≡ holds after (what ∷ said_of (drop (i + 1) ups))
  next_line what says = ap (holds after) (said_there ups i said is ∙ ap (λ w. w ∷ said_of (drop (i + 1) ups)) says)

  -- an update
  pub holds_call : (u : C) → said ≡ Call u → held' ≡ held → after' ≡ after + 1 → map hold_line held' ++ holds after' (said_of (drop (i + 1) ups)) ≡ whole
  holds_call u says same more =
      ap (λ hs. map hold_line hs ++ holds after' (said_of (drop (i + 1) ups))) same
      ∙ (ap (λ n. map hold_line held ++ holds n (said_of (drop (i + 1) ups))) more
      ∙ (ap (λ hs. map hold_line held ++ hs) (sym (next_line (Call u) says)) ∙ so_far))

  -- a `hold` line
  pub holds_hold : (file count : ℕ) → said ≡ Hold file count → held' ≡ held ++ record { file = file; count = count; after = after } ∷ [] → after' ≡ after → map hold_line held' ++ holds after' (said_of (drop (i + 1) ups)) ≡ whole
  holds_hold file count says pushed same =
      ap (λ hs. map hold_line hs ++ holds after' (said_of (drop (i + 1) ups))) pushed
      ∙ (ap (λ n. map hold_line (held ++ record { file = file; count = count; after = after } ∷ []) ++ holds n (said_of (drop (i + 1) ups))) same
      ∙ (ap (λ hs. hs ++ holds after (said_of (drop (i + 1) ups))) (map-append hold_line held (record { file = file; count = count; after = after } ∷ []))
      ∙ (append_assoc (map hold_line held) (record { file = file; count = count; after = after } ∷ []) (holds after (said_of (drop (i + 1) ups)))
      ∙ (ap (λ hs. map hold_line held ++ hs) (sym (next_line (Hold file count) says)) ∙ so_far))))

module _ {K : Type 0} (lines : List (Numbered (AskLine K))) (i : ℕ) (said : AskLine K) (is : slice_get (said_of lines) i ≡ Some said) (all f : ℕ) (hs : List HoldLine) (bounds bounds' : List (Bounded K)) (least least' : ℕ) (whole : List (Query K)) (so_far : map query_of bounds ++ bounded all hs f (length bounds + 1) (queries least (said_of (drop i lines))) ≡ whole) where
  next_query : (what : AskLine K) → said ≡ what → bounded all hs f (length bounds + 1) (queries least (said_of (drop i lines))) ≡ bounded all hs f (length bounds + 1) (queries least (what ∷ said_of (drop (i + 1) lines)))
  next_query what says = ap (λ ws. bounded all hs f (length bounds + 1) (queries least ws)) (said_there lines i said is ∙ ap (λ w. w ∷ said_of (drop (i + 1) lines)) says)

  -- a `wait` line
  pub bounds_wait : (n : ℕ) → said ≡ Wait n → bounds' ≡ bounds → least' ≡ max least n → map query_of bounds' ++ bounded all hs f (length bounds' + 1) (queries least' (said_of (drop (i + 1) lines))) ≡ whole
  bounds_wait n says same more =
      ap (λ bs. map query_of bs ++ bounded all hs f (length bs + 1) (queries least' (said_of (drop (i + 1) lines)))) same
      ∙ (ap (λ m. map query_of bounds ++ bounded all hs f (length bounds + 1) (queries m (said_of (drop (i + 1) lines)))) more
      ∙ (ap (λ qs. map query_of bounds ++ qs) (sym (next_query (Wait n) says)) ∙ so_far))

  -- a query
  pub bounds_ask : (k : K) (g : ℕ) → said ≡ Ask k → bounds' ≡ bounds ++ record { key = k; least = least; greatest = g } ∷ [] → least' ≡ least → greatest all f (length bounds + 1) hs ≡ g → map query_of bounds' ++ bounded all hs f (length bounds' + 1) (queries least' (said_of (drop (i + 1) lines))) ≡ whole
  bounds_ask k g says pushed same high =
      let b : Bounded K = record { key = k; least = least; greatest = g } in
      let rest : ℕ → List (Query K) = λ n. bounded all hs f (n + 1) (queries least (said_of (drop (i + 1) lines))) in
      ap (λ bs. map query_of bs ++ bounded all hs f (length bs + 1) (queries least' (said_of (drop (i + 1) lines)))) pushed
      ∙ (ap (λ m. map query_of (bounds ++ b ∷ []) ++ bounded all hs f (length (bounds ++ b ∷ []) + 1) (queries m (said_of (drop (i + 1) lines)))) same
      ∙ (ap (λ n. map query_of (bounds ++ b ∷ []) ++ rest n) (length-append bounds (b ∷ []))
      ∙ (ap (λ qs. qs ++ rest (length bounds + 1)) (map-append query_of bounds (b ∷ []))
      ∙ (append_assoc (map query_of bounds) (query_of b ∷ []) (rest (length bounds + 1))
      ∙ (ap (λ h. map query_of bounds ++ record { key = k; least = least; greatest = h } ∷ rest (length bounds + 1)) (sym high)
      ∙ (ap (λ qs. map query_of bounds ++ qs) (sym (next_query (Ask k) says)) ∙ so_far))))))

-- no line is left
pub bounds_end : {K : Type 0} (lines : List (Numbered (AskLine K))) (i all f : ℕ) (hs : List HoldLine) (bounds : List (Bounded K)) (least : ℕ) (whole : List (Query K)) → length lines ≤ i → map query_of bounds ++ bounded all hs f (length bounds + 1) (queries least (said_of (drop i lines))) ≡ whole → map query_of bounds ≡ whole
bounds_end lines i all f hs bounds least whole le so_far =
    sym (append-nil (map query_of bounds)) ∙ (ap (λ ls. map query_of bounds ++ bounded all hs f (length bounds + 1) (queries least (said_of ls))) (sym (drop_all i lines le)) ∙ so_far)

-- the limits with one more line, of those that are left
pub limits_next : (all m f : ℕ) (held : List Held) (i : ℕ) (d : Held) (limits limits' : List ℕ) → i < length held →
    ((n : ℕ) × RiseTo all n (map hold_line (drop i held))) × ((k : ℕ) → greatest all f (k + 1) (map hold_line held) ≡ unwrap_or (slice_get limits k) (greatest all f (k + 1) (map hold_line (drop i held)))) →
    ((all m k : ℕ) (hs : List HoldLine) → RiseTo all m (hold_line (get_or held i d) ∷ hs) → unwrap_or (slice_get limits' k) (greatest all f (k + 1) hs) ≡ unwrap_or (slice_get limits k) (greatest all f (k + 1) (hold_line (get_or held i d) ∷ hs))) →
    ((n : ℕ) × RiseTo all n (map hold_line (drop (i + 1) held))) × ((k : ℕ) → greatest all f (k + 1) (map hold_line held) ≡ unwrap_or (slice_get limits' k) (greatest all f (k + 1) (map hold_line (drop (i + 1) held))))
limits_next all m f held i d limits limits' lt so_far more =
    let next : drop i held ≡ get_or held i d ∷ drop (i + 1) held = drop-cons held i d lt ∙ ap (λ k. get_or held i d ∷ drop k held) (sym (add-one i)) in
    let rest : RiseTo all so_far.0.0 (hold_line (get_or held i d) ∷ map hold_line (drop (i + 1) held)) = subst (λ hs. RiseTo all so_far.0.0 (map hold_line hs)) next so_far.0.1 in (
      ((get_or held i d).after, rest.1),
      λ k. so_far.1 k
          ∙ (ap (λ hs. unwrap_or (slice_get limits k) (greatest all f (k + 1) (map hold_line hs))) next
          ∙ sym (more all so_far.0.0 k (map hold_line (drop (i + 1) held)) rest)),
    )
