-- One line of a report, and which line may follow which.
use Rattle.std.specs.Prelude.{◌≡◌, ◌≢◌, ℕ, ◌+◌, ◌<◌, ◌≤◌, ◌^◌, ◌⊎◌, List, [], ◌∷◌, ◌++◌, Option, MatchOption, codes, decimal}
use Rattle.std.specs.declared.cmp.Ordering.{Ordering}
use Rattle.std.specs.declared.cmp.Ordering.TheVariants.{Less}
use Rattle.ck_text.specs.Lines.{lines_with_feeds}
use Rattle.ck_text.specs.Words.{line, words}
use Rattle.ck_report.specs.declared.asked.Asked.{Asked}
use Rattle.ck_report.specs.declared.line.ReportLine.{ReportLine}
use Rattle.ck_report.specs.declared.line.ReportLine.TheVariants.{Update, Answer, Pair, End}
use Rattle.ck_report.specs.declared.place.Place.{Place}
use Rattle.ck_report.specs.declared.place.Place.TheVariants.{AfterUpdate, AfterAnswer, AfterPair, AfterEnd}
use Rattle.ck_report.specs.Text.{reply_words, found_words}
use Rattle.ck_report.specs.Reports.{IsReply, IsAnswer, Parts}

-- where a report stands after a line
abbrev pub place_of : {K : Type 0} → ReportLine K → Place K
place_of (Update i reply) = AfterUpdate i
place_of (Answer f i asked) = AfterAnswer f i
place_of (Pair key v) = AfterPair key
place_of End = AfterEnd

-- its numbers have 64 bits
abbrev pub IsShort : {K : Type 0} → ReportLine K → Type 0
IsShort (Update i reply) = i < 2 ^ 64
IsShort (Answer f i asked) = (f < 2 ^ 64) × (i < 2 ^ 64)
IsShort (Pair key v) = Unit {0}
IsShort End = Unit {0}

module _ {K : Type 0} (cmp : K → K → Ordering) where
  -- a line that leads to the second place may follow at the first
  abbrev pub Next : Place K → Place K → Type 0
  Next (AfterUpdate i) (AfterUpdate j) = j ≡ i + 1
  Next (AfterUpdate i) (AfterAnswer f j) = (1 ≤ f) × (f ≤ 64) × (j ≡ 1)
  Next (AfterUpdate i) _ = Unit {0}
  Next (AfterAnswer g i) (AfterUpdate j) = ⊥
  Next (AfterAnswer g i) (AfterAnswer f j) = ((f ≡ g) × (j ≡ i + 1)) ⊎ ((g < f) × (f ≤ 64) × (j ≡ 1))
  Next (AfterAnswer g i) _ = Unit {0}
  Next (AfterPair key) (AfterPair next) = cmp key next ≡ Less
  Next (AfterPair key) AfterEnd = Unit {0}
  Next (AfterPair key) _ = ⊥
  Next AfterEnd _ = ⊥

-- the words of a line, where `spelling` spells keys
abbrev pub line_words : {K : Type 0} → (K → List ℕ) → ReportLine K → List (List ℕ)
line_words spelling (Update i reply) = codes "u" ∷ decimal i ∷ reply_words reply
line_words spelling (Answer f i asked) = codes "q" ∷ decimal f ∷ decimal i ∷ spelling asked.key ∷ found_words asked.found
line_words spelling (Pair key v) = codes "t" ∷ spelling key ∷ codes "=" ∷ decimal v ∷ []
line_words spelling End = codes "end" ∷ []

-- its key is a key and its values have 64 bits
abbrev pub IsTaken : {K : Type 0} → (K → Type 0) → ReportLine K → Type 0
IsTaken IsKey (Update i reply) = IsReply reply
IsTaken IsKey (Answer f i asked) = IsAnswer IsKey asked
IsTaken IsKey (Pair key v) = IsKey key × (v < 2 ^ 64)
IsTaken IsKey End = Unit {0}

module _ {K : Type 0} (IsKey : K → Type 0) (cmp : K → K → Ordering) where
  -- a line that may stand there says this
  pub record CanFollow (place : Place K) (said : ReportLine K) : Type 0 where
    pub taken : IsTaken IsKey said
    pub short : IsShort said
    pub next : Next cmp place (place_of said)

-- the first answer of a file begins a list of its own, and each later one goes to the end of the last list
pub record AddsAnswer {K : Type 0} (f i : ℕ) (asked : Asked K) (old new : List (ℕ × List (Asked K))) : Type 0 where
  pub first : i ≡ 1 → new ≡ old ++ (f, asked ∷ []) ∷ []
  pub later : i ≢ 1 → (front : List (ℕ × List (Asked K))) (g : ℕ) (answers : List (Asked K)) → old ≡ front ++ (g, answers) ∷ [] → new ≡ front ++ (g, answers ++ asked ∷ []) ∷ []

-- the parts with what the line says
abbrev pub AddsLine : {K : Type 0} → ReportLine K → Parts K → Parts K → Type 0
AddsLine (Update i reply) old new = (new.replies ≡ old.replies ++ reply ∷ []) × (new.files ≡ old.files) × (new.pairs ≡ old.pairs)
AddsLine (Answer f i asked) old new = (new.replies ≡ old.replies) × AddsAnswer f i asked old.files new.files × (new.pairs ≡ old.pairs)
AddsLine (Pair key v) old new = (new.replies ≡ old.replies) × (new.files ≡ old.files) × (new.pairs ≡ old.pairs ++ (key, v) ∷ [])
AddsLine End old new = (new.replies ≡ old.replies) × (new.files ≡ old.files) × (new.pairs ≡ old.pairs)

-- no line that may stand at this place begins the text
abbrev pub NoneBegins : {K : Type 0} → (K → Type 0) → (K → List ℕ) → (K → K → Ordering) → Place K → List ℕ → Type 0
NoneBegins {K} IsKey spelling cmp place text = (said : ReportLine K) (later : List (List ℕ)) → CanFollow IsKey cmp place said → lines_with_feeds text ≡ line (line_words spelling said) ∷ later → ⊥

-- what was read of the text's words: what spells them, and nothing only where nothing that fits does
abbrev pub IsRead : {A : Type 0} → (A → Type 0) → (A → List (List ℕ)) → List ℕ → Option A → Type 0
IsRead {A} Fits spelling text read = MatchOption read ((a : A) → Fits a → words text ≡ spelling a → ⊥) (λ a. Fits a × (words text ≡ spelling a))
