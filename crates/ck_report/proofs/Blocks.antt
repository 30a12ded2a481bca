-- Lines that are printed in blocks.
use Rattle.std.proofs.Common.{◌≡◌, ℕ, zero, suc, ◌+◌, ◌*◌, ◌<◌, ◌≤◌, List, [], ◌∷◌, ◌++◌, length, get_or, take, drop, Vec, Result, Ok, Err, IfOk, refl, ap, arith, sym, ◌∙◌, subst, append_assoc, append-nil, length-drop, suc-mul, zero-mul, add-zero, add-one}
use Rattle.std.specs.Prelude.{if◌then◌else◌, is_ok, OnOk}
use Rattle.std.specs.declared.alloc.AllocError.{AllocError}
use Rattle.std.specs.declared.alloc.Global.{Global}
use Rattle.std.proofs.lemmas.List.{drop-drop}
use Rattle.std.proofs.Math.Seq.{take-suc}
use Rattle.ck_history.specs.declared.update.Reply.{Reply}
use Rattle.ck_report.specs.declared.asked.Asked.{Asked}
use Rattle.ck_report.specs.Text.{reply_lines, answer_lines, pair_lines}
use Rattle.ck_report.specs.Numbered.{numbered, reply_line, answer_line, pair_line, AreTexts}

-- the lines of the first k items, and those of the others
pub numbered_split : {X : Type 0} (line_of : ℕ → X → List ℕ) (before k : ℕ) (xs : List X) → numbered line_of before xs ≡ numbered line_of before (take k xs) ++ numbered line_of (before + k) (drop k xs)
numbered_split line_of before zero xs = ap (λ n. numbered line_of n xs) (sym (add-zero before))
numbered_split line_of before (suc k) [] = refl
numbered_split line_of before (suc k) (x ∷ xs) =
    let place : before + 1 + k ≡ before + suc k = omega arith in
    let more = numbered_split line_of (before + 1) k xs ∙ ap (λ n. numbered line_of (before + 1) (take k xs) ++ numbered line_of n (drop k xs)) place in
    ap (λ t. line_of (before + 1) x ++ t) more ∙ sym (append_assoc (line_of (before + 1) x) (numbered line_of (before + 1) (take k xs)) (numbered line_of (before + suc k) (drop k xs)))

-- a block was printed after a text
pub block_printed : {X : Type 0} (line_of : ℕ → X → List ℕ) (before k : ℕ) (xs front back : List X) (old new : List ℕ) → front ≡ take k xs → back ≡ drop k xs → new ≡ old ++ numbered line_of before front → old ++ numbered line_of before xs ≡ new ++ numbered line_of (before + k) back
block_printed line_of before k xs front back old new is_front is_back printed =
    let lines = numbered_split line_of before k xs ∙ (ap (λ f. numbered line_of before f ++ numbered line_of (before + k) (drop k xs)) (sym is_front) ∙ ap (λ b. numbered line_of before front ++ numbered line_of (before + k) b) (sym is_back)) in
    ap (λ t. old ++ t) lines ∙ (sym (append_assoc old (numbered line_of before front) (numbered line_of (before + k) back)) ∙ ap (λ t. t ++ numbered line_of (before + k) back) (sym printed))

module _ {X : Type 0} (line_of : ℕ → X → List ℕ) (size : ℕ) where
  -- the text of each block that isn't wanting has the lines of that block
  abbrev pub AreBlocks : ℕ → List X → List (Result (Vec ℕ Global) AllocError) → Type 0
  AreBlocks before xs texts = (n : ℕ) (d : Result (Vec ℕ Global) AllocError) → n < length texts → IfOk (get_or texts n d) (λ t. t.items ≡ numbered line_of (before + n * size) (take size (drop (n * size) xs)))

  first_block : (before : ℕ) (xs : List X) (t : Vec ℕ Global) (ts : List (Result (Vec ℕ Global) AllocError)) → AreBlocks before xs (Ok t ∷ ts) → t.items ≡ numbered line_of before (take size xs)
  first_block before xs t ts each =
      let at : before + 0 * size ≡ before = omega (arith, zero-mul size) in
      each 0 (Ok t) (omega arith) ∙ (ap (λ n. numbered line_of n (take size (drop (0 * size) xs))) at ∙ ap (λ k. numbered line_of before (take size (drop k xs))) (zero-mul size))

  later_blocks : (before : ℕ) (xs : List X) (t : Result (Vec ℕ Global) AllocError) (ts : List (Result (Vec ℕ Global) AllocError)) → AreBlocks before xs (t ∷ ts) → AreBlocks (before + size) (drop size xs) ts
  later_blocks before xs t ts each n d lt =
      let at : before + suc n * size ≡ before + size + n * size = omega (arith, suc-mul n size) in
      let cut : drop (suc n * size) xs ≡ drop (n * size) (drop size xs) = ap (λ k. drop k xs) (let e : suc n * size ≡ size + n * size = omega (arith, suc-mul n size) in e) ∙ sym (drop-drop (n * size) size xs) in
      let lines = ap (λ m. numbered line_of m (take size (drop (suc n * size) xs))) at ∙ ap (λ ys. numbered line_of (before + size + n * size) (take size ys)) cut in
      subst (λ l. IfOk (get_or ts n d) (λ t. t.items ≡ l)) lines (each (suc n) d (omega arith))

  -- blocks one after another
  pub blocks_whole : (before : ℕ) (xs : List X) (texts : List (Result (Vec ℕ Global) AllocError)) (text : List ℕ) → length xs ≤ length texts * size → AreBlocks before xs texts → AreTexts texts text → text ≡ numbered line_of before xs
  blocks_whole before [] [] text few each none = none
  blocks_whole before (x ∷ xs) [] text few each none = absurd (omega (arith, zero-mul size))
  blocks_whole before xs (Err e ∷ ts) text few each none = absurd none
  blocks_whole before xs (Ok t ∷ ts) text few each (later, is, texts) =
      let shorter : length (drop size xs) ≤ length ts * size = omega (arith, length-drop size xs, suc-mul (length ts) size) in
      let rest = blocks_whole (before + size) (drop size xs) ts later shorter (later_blocks before xs (Ok t) ts each) texts in
      is ∙ (ap (λ u. u ++ later) (first_block before xs t ts each) ∙ (ap (λ u. numbered line_of before (take size xs) ++ u) rest ∙ sym (numbered_split line_of before size xs)))

-- one text more
pub texts_push : (ts : List (Result (Vec ℕ Global) AllocError)) (text : List ℕ) (t : Vec ℕ Global) → AreTexts ts text → AreTexts (ts ++ Ok t ∷ []) (text ++ t.items)
texts_push [] text t is = ([], ap (λ u. u ++ t.items) is ∙ sym (append-nil t.items), refl)
texts_push (Ok s ∷ ts) text t (later, is, more) = (later ++ t.items, ap (λ u. u ++ t.items) is ∙ append_assoc s.items later t.items, texts_push ts later t more)
texts_push (Err e ∷ ts) text t none = none

-- one text more, where a loop goes over them
pub texts_more : (ts : List (Result (Vec ℕ Global) AllocError)) (i : ℕ) (r : Result (Vec ℕ Global) AllocError) (start old new : List ℕ) → i < length ts → r ≡ get_or ts i r → ((text : List ℕ) × AreTexts (take i ts) text × (old ≡ start ++ text)) → ((t : Vec ℕ Global) × (r ≡ Ok t) × (new ≡ old ++ t.items)) → (text : List ℕ) × AreTexts (take (i + 1) ts) text × (new ≡ start ++ text)
texts_more ts i r start old new lt at (text, are, is) (t, ok, added) =
    let here : take (i + 1) ts ≡ take i ts ++ Ok t ∷ [] = rw add-one (take-suc ts i r lt ∙ ap (λ x. take i ts ++ x ∷ []) (sym at ∙ ok)) in (
      text ++ t.items,
      subst (λ xs. AreTexts xs (text ++ t.items)) (sym here) (texts_push (take i ts) text t are),
      added ∙ (ap (λ o. o ++ t.items) is ∙ append_assoc start text t.items),
    )

-- what follows where a text was appended
pub on_appended : {T E : Type 0} (r : Result T E) (P : Type 0) (old text new : List ℕ) → new ≡ (if is_ok r then old ++ text else old) → (new ≡ old ++ text → P) → OnOk r P
on_appended (Ok x) P old text new is f = f is
on_appended (Err e) P old text new is f = tt

-- the lines of each part
pub reply_lines_are : (before : ℕ) (rs : List Reply) → numbered reply_line before rs ≡ reply_lines (before + 1) rs
reply_lines_are before [] = refl
reply_lines_are before (r ∷ rs) = ap (λ t. reply_line (before + 1) r ++ t) (reply_lines_are (before + 1) rs)

module _ {K : Type 0} (spelling : K → List ℕ) where
  pub answer_lines_are : (f before : ℕ) (answers : List (Asked K)) → numbered (answer_line spelling f) before answers ≡ answer_lines spelling f (before + 1) answers
  answer_lines_are f before [] = refl
  answer_lines_are f before (a ∷ answers) = ap (λ t. answer_line spelling f (before + 1) a ++ t) (answer_lines_are f (before + 1) answers)

  pub pair_lines_are : (before : ℕ) (pairs : List (K × ℕ)) → numbered (pair_line spelling) before pairs ≡ pair_lines spelling pairs
  pair_lines_are before [] = refl
  pair_lines_are before (p ∷ pairs) = ap (λ t. pair_line spelling (before + 1) p ++ t) (pair_lines_are (before + 1) pairs)
