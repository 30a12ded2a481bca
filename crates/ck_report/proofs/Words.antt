-- The words of a line.
use Rattle.std.proofs.Common.{◌≡◌, ℕ, ◌<◌, ◌^◌, ◌⊎◌, Option, Some, None, List, [], ◌∷◌, length, arith, ap, inl, inr, codes, decimal}
use Rattle.ck_history.specs.declared.update.Reply.{Reply}
use Rattle.ck_history.specs.declared.update.Reply.TheVariants.{Fresh, Was, Has, Missing, Tidied, Full}
use Rattle.ck_report.specs.Text.{reply_words, found_words}
use Rattle.ck_report.specs.Reports.{IsReply, IsFound, IsAnswer}
use Rattle.ck_text.specs.Words.{words, first_byte}
use Rattle.ck_report.specs.declared.asked.Asked.{Asked}
use Rattle.ck_report.specs.declared.line.ReportLine.{ReportLine}
use Rattle.ck_report.specs.declared.line.ReportLine.TheVariants.{Update, Answer, Pair, End}
use Rattle.ck_report.specs.Lines.{IsRead, IsTaken, IsShort, line_words}

-- nothing is read
pub none_read : {A : Type 0} (Fits : A → Type 0) (spelling : A → List (List ℕ)) (text : List ℕ) (read : Option A) → read ≡ None → ((a : A) → Fits a → words text ≡ spelling a → ⊥) → IsRead Fits spelling text read
none_read Fits spelling text read is none = rw is none

module _ {K : Type 0} (IsKey : K → Type 0) (spelling : K → List ℕ) where
  -- the line of an update, by its first word
  pub update_only : (said : ReportLine K) (more : List (List ℕ)) → line_words spelling said ≡ codes "u" ∷ more → IsTaken IsKey said → IsShort said → (i : ℕ) × (r : Reply) × (i < 2 ^ 64) × IsReply r × (more ≡ decimal i ∷ reply_words r)
  update_only (Update i r) more e taken short = (i, r, short, taken, cc)
  update_only (Answer f i a) more e taken short = absurd (omega (arith, ap first_byte e))
  update_only (Pair k v) more e taken short = absurd (omega (arith, ap first_byte e))
  update_only End more e taken short = absurd (omega (arith, ap first_byte e))

  -- that of an answer
  pub answer_only : (said : ReportLine K) (more : List (List ℕ)) → line_words spelling said ≡ codes "q" ∷ more → IsTaken IsKey said → IsShort said → (f i : ℕ) × (a : Asked K) × (f < 2 ^ 64) × (i < 2 ^ 64) × IsAnswer IsKey a × (more ≡ decimal f ∷ decimal i ∷ spelling a.key ∷ found_words a.found)
  answer_only (Update i r) more e taken short = absurd (omega (arith, ap first_byte e))
  answer_only (Answer f i a) more e taken short = (f, i, a, short.0, short.1, taken, cc)
  answer_only (Pair k v) more e taken short = absurd (omega (arith, ap first_byte e))
  answer_only End more e taken short = absurd (omega (arith, ap first_byte e))

  -- that of a pair
  pub pair_only : (said : ReportLine K) (more : List (List ℕ)) → line_words spelling said ≡ codes "t" ∷ more → IsTaken IsKey said → IsShort said → (k : K) × (v : ℕ) × IsKey k × (v < 2 ^ 64) × (more ≡ spelling k ∷ codes "=" ∷ decimal v ∷ [])
  pair_only (Update i r) more e taken short = absurd (omega (arith, ap first_byte e))
  pair_only (Answer f i a) more e taken short = absurd (omega (arith, ap first_byte e))
  pair_only (Pair k v) more e taken short = (k, v, taken.0, taken.1, cc)
  pair_only End more e taken short = absurd (omega (arith, ap first_byte e))

-- a reply of more than one word has a number
pub numbered_reply_words : (r : Reply) (name : List ℕ) (rest : List (List ℕ)) → IsReply r → 0 < length rest → reply_words r ≡ name ∷ rest → (n : ℕ) × (n < 2 ^ 64) × (rest ≡ decimal n ∷ []) × ((name ≡ codes "was") ⊎ (name ≡ codes "has"))
numbered_reply_words Fresh name rest fits some e = absurd (omega (arith, ap length e))
numbered_reply_words (Was v) name rest fits some e = (v, fits, cc, inl (cc))
numbered_reply_words (Has v) name rest fits some e = (v, fits, cc, inr (cc))
numbered_reply_words Missing name rest fits some e = absurd (omega (arith, ap length e))
numbered_reply_words Tidied name rest fits some e = absurd (omega (arith, ap length e))
numbered_reply_words Full name rest fits some e = absurd (omega (arith, ap length e))

-- and so has what was found
pub numbered_found_words : (f : Option ℕ) (sign : List ℕ) (rest : List (List ℕ)) → IsFound f → 0 < length rest → found_words f ≡ sign ∷ rest → (n : ℕ) × (n < 2 ^ 64) × (rest ≡ decimal n ∷ []) × (sign ≡ codes "=")
numbered_found_words (Some v) sign rest fits some e = (v, fits, cc, cc)
numbered_found_words None sign rest fits some e = absurd (omega (arith, ap length e))

-- a reply has a word
pub some_reply_words : (r : Reply) → 0 < length (reply_words r)
some_reply_words Fresh = omega arith
some_reply_words (Was v) = omega arith
some_reply_words (Has v) = omega arith
some_reply_words Missing = omega arith
some_reply_words Tidied = omega arith
some_reply_words Full = omega arith

-- and so has what was found
pub some_found_words : (f : Option ℕ) → 0 < length (found_words f)
some_found_words (Some v) = omega arith
some_found_words None = omega arith
