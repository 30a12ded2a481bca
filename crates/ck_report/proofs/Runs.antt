-- Lists of lines, each of which may follow the one before it.
use Rattle.std.proofs.Common.{◌≡◌, ℕ, ◌+◌, ◌<◌, ◌≤◌, ◌^◌, inl, inr, Option, Some, None, List, [], ◌∷◌, ◌++◌, length, map, refl, ap, arith, sym, ◌∙◌, subst, append_assoc, codes, bytes_eq, if◌then◌else◌}
use Rattle.std.specs.declared.cmp.Ordering.{Ordering}
use Rattle.std.specs.List.{AllByRecursion, join_with_byte}
use Rattle.std.specs.Str.Parse.{digits_value}
use Rattle.std.proofs.lemmas.Fmt.{decimal_injective, decimal_is_IsNumeral}
use Rattle.ck_history.specs.declared.update.Reply.{Reply}
use Rattle.ck_history.specs.declared.update.Reply.TheVariants.{Fresh, Was, Has, Missing, Tidied, Full}
use Rattle.ck_text.specs.Words.{line, words, IsWord, first_byte}
use Rattle.ck_text.specs.Lines.{lines_with_feeds}
use Rattle.ck_text.specs.Laws.{number_one_word}
use Rattle.ck_report.specs.declared.line.ReportLine.{ReportLine}
use Rattle.ck_report.specs.declared.line.ReportLine.TheVariants.{Update, Answer, Pair, End}
use Rattle.ck_report.specs.declared.place.Place.{Place}
use Rattle.ck_report.specs.declared.place.Place.TheVariants.{AfterUpdate, AfterAnswer, AfterPair, AfterEnd}
use Rattle.ck_report.specs.Text.{reply_words, found_words}
use Rattle.ck_report.specs.Reports.{IsReply, IsFound}
use Rattle.ck_report.specs.Lines.{place_of, IsShort, IsTaken, Next, line_words, CanFollow}
use Rattle.ck_text.proofs.Words.{words_joined, joined_lacks_feed, word_from}
use Rattle.ck_text.proofs.Feeds.{lines_with_feeds_first, same_before}

-- the bytes of a line
abbrev pub chunk : {K : Type 0} → (K → List ℕ) → ReportLine K → List ℕ
chunk spelling said = line (line_words spelling said)

-- the text of lines
abbrev pub text_of : {K : Type 0} → (K → List ℕ) → List (ReportLine K) → List ℕ
text_of spelling [] = []
text_of spelling (said ∷ more) = chunk spelling said ++ text_of spelling more

-- the place after lines that begin at a place
abbrev pub last_place : {K : Type 0} → Place K → List (ReportLine K) → Place K
last_place p [] = p
last_place p (said ∷ more) = last_place (place_of said) more

-- each line may stand where it stands
abbrev pub Runs : {K : Type 0} → (K → Type 0) → (K → K → Ordering) → Place K → List (ReportLine K) → Type 0
Runs IsKey cmp p [] = Unit {0}
Runs IsKey cmp p (said ∷ more) = Next cmp p (place_of said) × IsTaken IsKey said × Runs IsKey cmp (place_of said) more

-- the numbers of a place are at most n
abbrev pub IsNear : {K : Type 0} → ℕ → Place K → Type 0
IsNear n (AfterUpdate i) = i ≤ n
IsNear n (AfterAnswer f i) = (f ≤ 64) × (i ≤ n)
IsNear n (AfterPair key) = Unit {0}
IsNear n AfterEnd = Unit {0}

near_next : {K : Type 0} (cmp : K → K → Ordering) (n : ℕ) (p q : Place K) → IsNear n p → Next cmp p q → IsNear (n + 1) q
near_next cmp n (AfterUpdate i) (AfterUpdate j) near next = omega arith
near_next cmp n (AfterUpdate i) (AfterAnswer f j) near next = (next.1, omega arith)
near_next cmp n (AfterAnswer g i) (AfterUpdate j) near next = absurd next
near_next cmp n (AfterAnswer g i) (AfterAnswer f j) near (inl next) = (omega arith, omega arith)
near_next cmp n (AfterAnswer g i) (AfterAnswer f j) near (inr next) = (next.1, omega arith)
near_next cmp n (AfterPair key) (AfterUpdate j) near next = absurd next
near_next cmp n (AfterPair key) (AfterAnswer f j) near next = absurd next
near_next cmp n AfterEnd (AfterUpdate j) near next = absurd next
near_next cmp n AfterEnd (AfterAnswer f j) near next = absurd next
near_next cmp n p (AfterPair key) near next = tt
near_next cmp n p AfterEnd near next = tt

near_short : {K : Type 0} (n : ℕ) (said : ReportLine K) → IsNear n (place_of said) → n < 2 ^ 64 → IsShort said
near_short n (Update i reply) near small = omega arith
near_short n (Answer f i asked) near small = (omega arith, omega arith)
near_short n (Pair key v) near small = tt
near_short n End near small = tt

reply_are_words : (r : Reply) → IsReply r → AllByRecursion IsWord (reply_words r)
reply_are_words Fresh fits = (word_from (codes "fresh") refl, tt)
reply_are_words (Was v) fits = (word_from (codes "was") refl, (number_one_word v fits, tt))
reply_are_words (Has v) fits = (word_from (codes "has") refl, (number_one_word v fits, tt))
reply_are_words Missing fits = (word_from (codes "missing") refl, tt)
reply_are_words Tidied fits = (word_from (codes "tidied") refl, tt)
reply_are_words Full fits = (word_from (codes "full") refl, tt)

found_are_words : (f : Option ℕ) → IsFound f → AllByRecursion IsWord (found_words f)
found_are_words (Some v) fits = (word_from (codes "=") refl, (number_one_word v fits, tt))
found_are_words None fits = (word_from (codes "absent") refl, tt)

-- the number that the first word is
abbrev number_of : List (List ℕ) → ℕ
number_of [] = 0
number_of (w ∷ ws) = digits_value 10 w

-- the reply that these words call
abbrev reply_of : List (List ℕ) → Reply
reply_of [] = Fresh
reply_of (name ∷ more) =
    if bytes_eq name (codes "was") then Was (number_of more)
    else (if bytes_eq name (codes "has") then Has (number_of more)
    else (if bytes_eq name (codes "missing") then Missing
    else (if bytes_eq name (codes "tidied") then Tidied
    else (if bytes_eq name (codes "full") then Full else Fresh))))

reply_of_words : (r : Reply) → IsReply r → reply_of (reply_words r) ≡ r
reply_of_words Fresh fits = refl
reply_of_words (Was v) fits = ap Was (decimal_is_IsNumeral v fits).1
reply_of_words (Has v) fits = ap Has (decimal_is_IsNumeral v fits).1
reply_of_words Missing fits = refl
reply_of_words Tidied fits = refl
reply_of_words Full fits = refl

one_found : (f g : Option ℕ) → IsFound f → IsFound g → found_words f ≡ found_words g → f ≡ g
one_found (Some v) (Some w) hv hw e = ap Some (decimal_injective v w hv hw (cc))
one_found (Some v) None hv hw e = absurd (omega (arith, ap length e))
one_found None (Some w) hv hw e = absurd (omega (arith, ap length e))
one_found None None hv hw e = refl

module _ {K : Type 0} (IsKey : K → Type 0) (spelling : K → List ℕ) (cmp : K → K → Ordering) (one_key : (j k : K) → IsKey j → IsKey k → spelling j ≡ spelling k → j ≡ k) (one_word : (k : K) → IsKey k → IsWord (spelling k)) where
  pub line_are_words : (said : ReportLine K) → IsTaken IsKey said → IsShort said → AllByRecursion IsWord (line_words spelling said)
  line_are_words (Update i reply) taken short = (word_from (codes "u") refl, (number_one_word i short, reply_are_words reply taken))
  line_are_words (Answer f i asked) taken short = (word_from (codes "q") refl, (number_one_word f short.0, (number_one_word i short.1, (one_word asked.key taken.0, found_are_words asked.found taken.1))))
  line_are_words (Pair key v) taken short = (word_from (codes "t") refl, (one_word key taken.0, (word_from (codes "=") refl, (number_one_word v taken.1, tt))))
  line_are_words End taken short = (word_from (codes "end") refl, tt)

  some_words : (said : ReportLine K) → 0 < length (line_words spelling said)
  some_words (Update i reply) = omega arith
  some_words (Answer f i asked) = omega arith
  some_words (Pair key v) = omega arith
  some_words End = omega arith

  -- lines of the same words say the same
  pub same_line : (said other : ReportLine K) → IsTaken IsKey said → IsTaken IsKey other → IsShort said → IsShort other → line_words spelling said ≡ line_words spelling other → said ≡ other
  same_line (Update i r) (Update j s) ti tj si sj e =
      let numbers : i ≡ j = decimal_injective i j si sj (cc) in
      let words : reply_words r ≡ reply_words s = cc in
      let replies : r ≡ s = sym (reply_of_words r ti) ∙ (ap reply_of words ∙ reply_of_words s tj) in
      cc
  same_line (Update i r) (Answer g j b) ti tj si sj e = absurd (omega (arith, ap first_byte e))
  same_line (Update i r) (Pair l w) ti tj si sj e = absurd (omega (arith, ap first_byte e))
  same_line (Update i r) End ti tj si sj e = absurd (omega (arith, ap first_byte e))
  same_line (Answer f i a) (Update j s) ti tj si sj e = absurd (omega (arith, ap first_byte e))
  same_line (Answer f i a) (Answer g j b) ti tj si sj e =
      let files : f ≡ g = decimal_injective f g si.0 sj.0 (cc) in
      let numbers : i ≡ j = decimal_injective i j si.1 sj.1 (cc) in
      let keys : a.key ≡ b.key = one_key a.key b.key ti.0 tj.0 (cc) in
      let found : a.found ≡ b.found = one_found a.found b.found ti.1 tj.1 (cc) in
      λ t. Answer (files t) (numbers t) (record { key = keys t; found = found t })
  same_line (Answer f i a) (Pair l w) ti tj si sj e = absurd (omega (arith, ap first_byte e))
  same_line (Answer f i a) End ti tj si sj e = absurd (omega (arith, ap first_byte e))
  same_line (Pair k v) (Update j s) ti tj si sj e = absurd (omega (arith, ap first_byte e))
  same_line (Pair k v) (Answer g j b) ti tj si sj e = absurd (omega (arith, ap first_byte e))
  same_line (Pair k v) (Pair l w) ti tj si sj e =
      let keys : k ≡ l = one_key k l ti.0 tj.0 (cc) in
      let values : v ≡ w = decimal_injective v w ti.1 tj.1 (cc) in
      cc
  same_line (Pair k v) End ti tj si sj e = absurd (omega (arith, ap first_byte e))
  same_line End (Update j s) ti tj si sj e = absurd (omega (arith, ap first_byte e))
  same_line End (Answer g j b) ti tj si sj e = absurd (omega (arith, ap first_byte e))
  same_line End (Pair l w) ti tj si sj e = absurd (omega (arith, ap first_byte e))
  same_line End End ti tj si sj e = refl

  -- a line is cut at its line feed
  pub first_line : (said : ReportLine K) (rest : List ℕ) → IsTaken IsKey said → IsShort said → lines_with_feeds (chunk spelling said ++ rest) ≡ chunk spelling said ∷ lines_with_feeds rest
  first_line said rest taken short =
      let ws = line_words spelling said in
      let joined = join_with_byte 32 ws in
      let apart : (joined ++ 10 ∷ []) ++ rest ≡ joined ++ 10 ∷ rest = append_assoc joined (10 ∷ []) rest in
      ap lines_with_feeds apart ∙ lines_with_feeds_first joined rest (joined_lacks_feed ws (line_are_words said taken short))

  -- the words of a line that is taken
  pub taken_words : (said : ReportLine K) (bytes : List ℕ) → IsTaken IsKey said → IsShort said → bytes ++ 10 ∷ [] ≡ chunk spelling said → words bytes ≡ line_words spelling said
  taken_words said bytes taken short e =
      let ws = line_words spelling said in
      ap words (same_before bytes (join_with_byte 32 ws) 10 e) ∙ words_joined ws (line_are_words said taken short) (some_words said)

  same_words : (said other : ReportLine K) → IsTaken IsKey said → IsTaken IsKey other → IsShort said → IsShort other → chunk spelling said ≡ chunk spelling other → line_words spelling said ≡ line_words spelling other
  same_words said other ti tj si sj e =
      let ws = line_words spelling said in
      sym (words_joined ws (line_are_words said ti si) (some_words said)) ∙ taken_words other (join_with_byte 32 ws) tj sj e

  -- what stands after lines that two lists share
  pub record After (p : Place K) (ls ms : List (ReportLine K)) (tail : List (List ℕ)) : Type 0 where
    pub rest : List (ReportLine K)
    pub runs : Runs IsKey cmp (last_place p ls) rest
    pub lines : lines_with_feeds (text_of spelling rest) ≡ tail
    pub whole : ms ≡ ls ++ rest

  pub after : (n : ℕ) (p : Place K) (ls ms : List (ReportLine K)) (tail : List (List ℕ)) → IsNear n p → n + length ls < 2 ^ 64 → Runs IsKey cmp p ls → Runs IsKey cmp p ms → lines_with_feeds (text_of spelling ms) ≡ map (chunk spelling) ls ++ tail → After p ls ms tail
  after n p [] ms tail near small hl hm e = record { rest = ms; runs = hm; lines = e; whole = refl }
  after n p (l ∷ ls) [] tail near small hl hm e = absurd (cc)
  after n p (l ∷ ls) (m ∷ ms) tail near small hl hm e =
      let near_l = near_next cmp n p (place_of l) near hl.0 in
      let near_m = near_next cmp n p (place_of m) near hm.0 in
      let short_l = near_short (n + 1) l near_l (omega arith) in
      let short_m = near_short (n + 1) m near_m (omega arith) in
      let both : chunk spelling m ∷ lines_with_feeds (text_of spelling ms) ≡ chunk spelling l ∷ (map (chunk spelling) ls ++ tail) = sym (first_line m (text_of spelling ms) hm.1 short_m) ∙ e in
      let heads : chunk spelling m ≡ chunk spelling l = cc in
      let tails : lines_with_feeds (text_of spelling ms) ≡ map (chunk spelling) ls ++ tail = cc in
      let same : m ≡ l = same_line m l hm.1 hl.1 short_m short_l (same_words m l hm.1 hl.1 short_m short_l heads) in
      let later = after (n + 1) (place_of l) ls ms tail near_l (omega arith) hl.2 (subst (λ said. Runs IsKey cmp (place_of said) ms) same hm.2) tails in
      record { rest = later.rest; runs = later.runs; lines = later.lines; whole = λ t. same t ∷ later.whole t }

  pub near_last : (n : ℕ) (p : Place K) (ls : List (ReportLine K)) → IsNear n p → Runs IsKey cmp p ls → IsNear (n + length ls) (last_place p ls)
  near_last n p [] near runs = subst (λ m. IsNear m p) (omega arith) near
  near_last n p (l ∷ ls) near runs =
      let later = near_last (n + 1) (place_of l) ls (near_next cmp n p (place_of l) near runs.0) runs.2 in
      subst (λ m. IsNear m (last_place (place_of l) ls)) (omega arith) later

  -- the first line of a list, by its bytes
  pub first_of : (n : ℕ) (p : Place K) (ms : List (ReportLine K)) (x : List ℕ) (later : List (List ℕ)) → IsNear n p → n + 1 < 2 ^ 64 → Runs IsKey cmp p ms → lines_with_feeds (text_of spelling ms) ≡ x ∷ later → (said : ReportLine K) × CanFollow IsKey cmp p said × (x ≡ chunk spelling said)
  first_of n p [] x later near small runs e = absurd (cc)
  first_of n p (m ∷ ms) x later near small runs e =
      let short = near_short (n + 1) m (near_next cmp n p (place_of m) near runs.0) small in
      let same : chunk spelling m ∷ lines_with_feeds (text_of spelling ms) ≡ x ∷ later = sym (first_line m (text_of spelling ms) runs.1 short) ∙ e in
      (m, record { taken = runs.1; short = short; next = runs.0 }, cc)

  -- lines are cut as they are
  pub lines_of_runs : (n : ℕ) (p : Place K) (ls : List (ReportLine K)) (rest : List ℕ) → IsNear n p → n + length ls < 2 ^ 64 → Runs IsKey cmp p ls → lines_with_feeds (text_of spelling ls ++ rest) ≡ map (chunk spelling) ls ++ lines_with_feeds rest
  lines_of_runs n p [] rest near small runs = refl
  lines_of_runs n p (l ∷ ls) rest near small runs =
      let near_l = near_next cmp n p (place_of l) near runs.0 in
      let short = near_short (n + 1) l near_l (omega arith) in
      ap lines_with_feeds (append_assoc (chunk spelling l) (text_of spelling ls) rest)
      ∙ (first_line l (text_of spelling ls ++ rest) runs.1 short
      ∙ ap (λ more. chunk spelling l ∷ more) (lines_of_runs (n + 1) (place_of l) ls rest near_l (omega arith) runs.2))

  -- a list with no bytes is empty
  pub nothing_left : (n : ℕ) (p : Place K) (ms : List (ReportLine K)) → IsNear n p → n + 1 < 2 ^ 64 → Runs IsKey cmp p ms → lines_with_feeds (text_of spelling ms) ≡ [] → last_place p ms ≡ p
  nothing_left n p [] near small runs e = refl
  nothing_left n p (m ∷ ms) near small runs e =
      let short = near_short (n + 1) m (near_next cmp n p (place_of m) near runs.0) small in
      let same : chunk spelling m ∷ lines_with_feeds (text_of spelling ms) ≡ [] = sym (first_line m (text_of spelling ms) runs.1 short) ∙ e in
      absurd (cc)
