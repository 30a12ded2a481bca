-- What a text begins with.
use Rattle.std.proofs.Common.{◌≡◌, ℕ, suc, ◌+◌, ◌<◌, ◌≤◌, List, [], ◌∷◌, ◌++◌, length, get_or, take, drop, drop-cons, add-one, refl, ap, arith, ◌∙◌, sym, length-drop, decimal, codes, append_assoc}
use Rattle.std.proofs.lemmas.List.{take-append-drop, drop-drop}
use Rattle.ck_history.specs.declared.update.Update.TheVariants.{Set, Put, Del}
use Rattle.ck_text.specs.Lines.{lines}
use Rattle.ck_text.specs.Words.{words, IsWord}
use Rattle.ck_text.specs.Laws.{number_one_word}
use Rattle.ck_text.proofs.Cutting.{line_first}
use Rattle.ck_text.proofs.Words.{words_joined, joined_lacks_feed, word_from}
use Rattle.ck_script.specs.declared.line.UpLine.TheVariants.{Call}
use Rattle.ck_script.specs.declared.line.AskLine.TheVariants.{Ask}
use Rattle.ck_script.specs.Grammar.{IsUpdateLine, update_words, IsQueryLine, query_words}
use Rattle.ck_script.specs.Reading.{HasKeyPrefix, HasPairPrefix, HasLinePrefix}

-- a prefix, the byte after it, and the rest
pub cut_prefix : (text word : List ℕ) (m c : ℕ) → m < length text → take m text ≡ word → get_or text m 0 ≡ c → text ≡ word ++ c ∷ drop (m + 1) text
cut_prefix text word m c lt prefix here =
    let rest : drop m text ≡ c ∷ drop (m + 1) text = rw add-one (drop-cons text m 0 lt ∙ ap (λ b. b ∷ drop (suc m) text) here) in
    sym (take-append-drop m text) ∙ (ap (λ w. w ++ drop m text) prefix ∙ ap (λ r. word ++ r) rest)

-- two of them
pub cut_two : (text a b : List ℕ) (m n c d : ℕ) → m < length text → take m text ≡ a → get_or text m 0 ≡ c → n < length (drop (m + 1) text) → take n (drop (m + 1) text) ≡ b → get_or (drop (m + 1) text) n 0 ≡ d → text ≡ a ++ c ∷ (b ++ d ∷ drop (m + 1 + (n + 1)) text)
cut_two text a b m n c d lt prefix here below next there =
    let rest : drop (m + 1) text ≡ b ++ d ∷ drop (m + 1 + (n + 1)) text = cut_prefix (drop (m + 1) text) b n d below next there ∙ ap (λ r. b ++ d ∷ r) (drop-drop (n + 1) (m + 1) text) in
    cut_prefix text a m c lt prefix here ∙ ap (λ r. a ++ c ∷ r) rest

-- a line of two words
two_line : (text verb w rest : List ℕ) → IsWord verb → IsWord w → text ≡ verb ++ 32 ∷ (w ++ 10 ∷ rest) → lines text ≡ (verb ++ 32 ∷ w) ∷ lines rest
two_line text verb w rest is_verb is_w prefix =
    ap lines (prefix ∙ sym (append_assoc verb (32 ∷ w) (10 ∷ rest))) ∙ line_first (verb ++ 32 ∷ w) rest (joined_lacks_feed (verb ∷ w ∷ []) (is_verb, (is_w, tt)))

two_words : (verb w : List ℕ) → IsWord verb → IsWord w → words (verb ++ 32 ∷ w) ≡ verb ∷ w ∷ []
two_words verb w is_verb is_w = words_joined (verb ∷ w ∷ []) (is_verb, (is_w, tt)) (omega arith)

-- a line of three words
three_line : (text verb v w rest : List ℕ) → IsWord verb → IsWord v → IsWord w → text ≡ verb ++ 32 ∷ (v ++ 32 ∷ (w ++ 10 ∷ rest)) → lines text ≡ (verb ++ 32 ∷ (v ++ 32 ∷ w)) ∷ lines rest
three_line text verb v w rest is_verb is_v is_w prefix =
    let inner : v ++ 32 ∷ (w ++ 10 ∷ rest) ≡ (v ++ 32 ∷ w) ++ 10 ∷ rest = sym (append_assoc v (32 ∷ w) (10 ∷ rest)) in
    let whole : verb ++ 32 ∷ (v ++ 32 ∷ (w ++ 10 ∷ rest)) ≡ (verb ++ 32 ∷ (v ++ 32 ∷ w)) ++ 10 ∷ rest = ap (λ r. verb ++ 32 ∷ r) inner ∙ sym (append_assoc verb (32 ∷ (v ++ 32 ∷ w)) (10 ∷ rest)) in
    ap lines (prefix ∙ whole) ∙ line_first (verb ++ 32 ∷ (v ++ 32 ∷ w)) rest (joined_lacks_feed (verb ∷ v ∷ w ∷ []) (is_verb, (is_v, (is_w, tt))))

three_words : (verb v w : List ℕ) → IsWord verb → IsWord v → IsWord w → words (verb ++ 32 ∷ (v ++ 32 ∷ w)) ≡ verb ∷ v ∷ w ∷ []
three_words verb v w is_verb is_v is_w = words_joined (verb ∷ v ∷ w ∷ []) (is_verb, (is_v, (is_w, tt))) (omega arith)

-- after a verb of three letters and a space
pub after_verb : (text verb : List ℕ) (prefix rest : List ℕ) (n : ℕ) → take 4 text ≡ verb ++ 32 ∷ [] → drop 4 text ≡ prefix ++ 10 ∷ drop n (drop 4 text) → text ≡ verb ++ 32 ∷ (prefix ++ 10 ∷ drop (4 + n) text)
after_verb text verb prefix rest n head tail =
    let later : drop 4 text ≡ prefix ++ 10 ∷ drop (4 + n) text = tail ∙ ap (λ r. prefix ++ 10 ∷ r) (drop-drop n 4 text) in
    sym (take-append-drop 4 text) ∙ (ap (λ h. h ++ drop 4 text) head ∙ (append_assoc verb (32 ∷ []) (drop 4 text) ∙ ap (λ r. verb ++ 32 ∷ r) later))

module _ {K : Type 0} (IsKey : K → Type 0) (spelling : K → List ℕ) (one_word : (k : K) → IsKey k → IsWord (spelling k)) (text : List ℕ) (n : ℕ) (le : 4 ≤ length text) where
  room : n ≤ length (drop 4 text) → 4 + n ≤ length text
  room h = omega (arith, length-drop 4 text)

  -- a verb, a key and a line feed
  key_line : (verb : List ℕ) (k : K) → IsWord verb → take 4 text ≡ verb ++ 32 ∷ [] → HasKeyPrefix IsKey spelling (drop 4 text) k n → lines text ≡ (verb ++ 32 ∷ spelling k) ∷ lines (drop (4 + n) text)
  key_line verb k is head prefix = two_line text verb (spelling k) (drop (4 + n) text) is (one_word k prefix.key) (after_verb text verb (spelling k) (drop 4 text) n head prefix.begins)

  pub ask_prefix : (k : K) → take 4 text ≡ codes "get " → HasKeyPrefix IsKey spelling (drop 4 text) k n → HasLinePrefix (IsQueryLine IsKey) (query_words spelling) text (Ask k) (4 + n)
  ask_prefix k head prefix =
      let is = word_from (codes "get") refl in record {
        within = room prefix.within;
        some = omega arith;
        line = codes "get" ++ 32 ∷ spelling k;
        cut = key_line (codes "get") k is head prefix;
        says = record { taken = prefix.key; spelt = two_words (codes "get") (spelling k) is (one_word k prefix.key) };
      }

  pub del_prefix : (k : K) → take 4 text ≡ codes "del " → HasKeyPrefix IsKey spelling (drop 4 text) k n → HasLinePrefix (IsUpdateLine IsKey) (update_words spelling) text (Call (Del k)) (4 + n)
  del_prefix k head prefix =
      let is = word_from (codes "del") refl in record {
        within = room prefix.within;
        some = omega arith;
        line = codes "del" ++ 32 ∷ spelling k;
        cut = key_line (codes "del") k is head prefix;
        says = record { taken = prefix.key; spelt = two_words (codes "del") (spelling k) is (one_word k prefix.key) };
      }

  -- a verb, a key, a number and a line feed
  pair_line : (verb : List ℕ) (k : K) (v : ℕ) → IsWord verb → take 4 text ≡ verb ++ 32 ∷ [] → HasPairPrefix IsKey spelling (drop 4 text) k v n → lines text ≡ (verb ++ 32 ∷ (spelling k ++ 32 ∷ decimal v)) ∷ lines (drop (4 + n) text)
  pair_line verb k v is head prefix =
      let word = number_one_word v prefix.number in
      let prefix_is : drop 4 text ≡ (spelling k ++ 32 ∷ decimal v) ++ 10 ∷ drop n (drop 4 text) = prefix.begins ∙ sym (append_assoc (spelling k) (32 ∷ decimal v) (10 ∷ drop n (drop 4 text))) in
      let whole = after_verb text verb (spelling k ++ 32 ∷ decimal v) (drop 4 text) n head prefix_is in
      three_line text verb (spelling k) (decimal v) (drop (4 + n) text) is (one_word k prefix.key) word (whole ∙ ap (λ r. verb ++ 32 ∷ r) (append_assoc (spelling k) (32 ∷ decimal v) (10 ∷ drop (4 + n) text)))

  pub set_prefix : (k : K) (v : ℕ) → take 4 text ≡ codes "set " → HasPairPrefix IsKey spelling (drop 4 text) k v n → HasLinePrefix (IsUpdateLine IsKey) (update_words spelling) text (Call (Set k v)) (4 + n)
  set_prefix k v head prefix =
      let is = word_from (codes "set") refl in record {
        within = room prefix.within;
        some = omega arith;
        line = codes "set" ++ 32 ∷ (spelling k ++ 32 ∷ decimal v);
        cut = pair_line (codes "set") k v is head prefix;
        says = record { taken = (prefix.key, prefix.number); spelt = three_words (codes "set") (spelling k) (decimal v) is (one_word k prefix.key) (number_one_word v prefix.number) };
      }

  pub put_prefix : (k : K) (v : ℕ) → take 4 text ≡ codes "put " → HasPairPrefix IsKey spelling (drop 4 text) k v n → HasLinePrefix (IsUpdateLine IsKey) (update_words spelling) text (Call (Put k v)) (4 + n)
  put_prefix k v head prefix =
      let is = word_from (codes "put") refl in record {
        within = room prefix.within;
        some = omega arith;
        line = codes "put" ++ 32 ∷ (spelling k ++ 32 ∷ decimal v);
        cut = pair_line (codes "put") k v is head prefix;
        says = record { taken = (prefix.key, prefix.number); spelt = three_words (codes "put") (spelling k) (decimal v) is (one_word k prefix.key) (number_one_word v prefix.number) };
      }
