-- What is said by a file that is read line by line.
use Rattle.std.proofs.Common.{◌≡◌, ℕ, suc, ◌+◌, ◌⊎◌, List, [], ◌∷◌, ◌++◌, length, refl, ap, arith, ◌∙◌, sym, subst, inl, inr, append_assoc, append-nil, add-zero}
use Rattle.std.proofs.lemmas.List.{length_push}
use Rattle.std.specs.List.{AllByRecursion}
use Rattle.ck_script.specs.declared.line.Numbered.{Numbered}
use Rattle.ck_script.specs.declared.fault.Why.{Why}
use Rattle.ck_script.specs.declared.fault.ScriptFault.{ScriptFault}
use Rattle.ck_text.specs.Lines.{lines}
use Rattle.ck_text.specs.Words.{words}
use Rattle.ck_script.specs.Grammar.{IsSilent, Says, Say, FileSays, Adds, IsFirstFault}
use Rattle.ck_script.specs.Reading.{IsFaultyLine}

module _ {L : Type 0} (IsTaken : L → Type 0) (spelling : L → List (List ℕ)) where
  moved : (n k : ℕ) → n + suc k ≡ n + 1 + k
  moved n k = omega arith

  -- of a file's lines the first `number` say this, and the rest has the others
  pub record Read (bytes : List ℕ) (number : ℕ) (rest : List ℕ) (said : List (Numbered L)) : Type 0 where
    pub front : List (List ℕ)
    pub here : lines bytes ≡ front ++ lines rest
    pub count : length front ≡ number
    pub says : Say IsTaken spelling 1 front said

  -- a further line adds what it says
  Say-snoc : (n : ℕ) (front : List (List ℕ)) (line : List ℕ) (old new : List (Numbered L)) → Say IsTaken spelling n front old → Adds IsTaken spelling (n + length front) line old new → Say IsTaken spelling n (front ++ line ∷ []) new
  Say-snoc n [] line old new none (inl (silent, same)) = inl (silent, same ∙ none)
  Say-snoc n [] line old new none (inr (what, says, added)) =
      let here : new ≡ record { line = n; what = what } ∷ [] = rw (none, add-zero) at added in
      inr (what, [], here, says, refl)
  Say-snoc n (x ∷ front) line old new (inl (silent, later)) adds =
      inl (silent, Say-snoc (n + 1) front line old new later (subst (λ m. Adds IsTaken spelling m line old new) (moved n (length front)) adds))
  Say-snoc n (x ∷ front) line old new (inr (what, more, is, says, later)) (inl (silent, same)) =
      inr (what, more, same ∙ is, says, Say-snoc (n + 1) front line more more later (inl (silent, refl)))
  Say-snoc n (x ∷ front) line old new (inr (what, more, is, says, later)) (inr (last, says_last, added)) =
      let end = more ++ record { line = n + 1 + length front; what = last } ∷ [] in
      let whole : new ≡ record { line = n; what = what } ∷ end = rw (is, moved n (length front)) at added in
      inr (what, end, whole, says, Say-snoc (n + 1) front line more end later (inr (last, says_last, refl)))

  pub read_none : (bytes : List ℕ) → Read bytes 0 bytes []
  read_none bytes = record { front = []; here = refl; count = refl; says = refl }

  pub read_more : (bytes : List ℕ) (number : ℕ) (rest line later : List ℕ) (old new : List (Numbered L)) → Read bytes number rest old → lines rest ≡ line ∷ lines later → Adds IsTaken spelling (number + 1) line old new → Read bytes (number + 1) later new
  read_more bytes number rest line later old new read cut adds = record {
    front = read.front ++ line ∷ [];
    here = read.here ∙ (ap (λ ls. read.front ++ ls) cut ∙ sym (append_assoc read.front (line ∷ []) (lines later)));
    count = length_push read.front line ∙ ap (λ n. n + 1) read.count;
    says = Say-snoc 1 read.front line old new read.says (subst (λ m. Adds IsTaken spelling m line old new) (omega (arith, read.count)) adds);
  }

  pub read_all : (bytes : List ℕ) (number : ℕ) (rest : List ℕ) (said : List (Numbered L)) → Read bytes number rest said → length rest ≡ 0 → FileSays IsTaken spelling bytes said
  read_all bytes number (b ∷ rest) said read none = absurd (omega arith)
  read_all bytes number [] said read none =
      let whole : lines bytes ≡ read.front = read.here ∙ append-nil read.front in
      subst (λ ls. Say IsTaken spelling 1 ls said) (sym whole) read.says

  -- a line that is refused is the first that is outside the grammar
  pub first_fault : (HasFault : List (List ℕ) → Why → Type 0) → ((what : L) (why : Why) → IsTaken what → HasFault (spelling what) why → ⊥) → (bytes : List ℕ) (number : ℕ) (rest line later : List ℕ) (said : List (Numbered L)) (fault : ScriptFault) → Read bytes number rest said → lines rest ≡ line ∷ lines later → IsFaultyLine HasFault (number + 1) line fault → IsFirstFault IsTaken spelling HasFault bytes fault
  first_fault HasFault faultless bytes number rest line later said fault read cut faulty = record {
    before = read.front;
    faulty = line;
    after = lines later;
    here = read.here ∙ ap (λ ls. read.front ++ ls) cut;
    number = omega (arith, faulty.number, read.count);
    earlier = (said, read.says);
    speaks = faulty.speaks;
    outside = λ what says. faultless what fault.why says.taken (subst (λ ws. HasFault ws fault.why) says.spelt faulty.why);
    why = faulty.why;
  }

  -- what is said is taken
  pub Say-taken : (n : ℕ) (ls : List (List ℕ)) (said : List (Numbered L)) → Say IsTaken spelling n ls said → AllByRecursion (λ l. IsTaken l.what) said
  Say-taken n [] [] says = tt
  Say-taken n [] (s ∷ said) says = absurd (cc)
  Say-taken n (line ∷ ls) said (inl (silent, later)) = Say-taken (n + 1) ls said later
  Say-taken n (line ∷ ls) said (inr (what, more, is, says, later)) =
      subst (AllByRecursion (λ l. IsTaken l.what)) (sym is) (says.taken, Say-taken (n + 1) ls more later)

  -- a line among lines that are said is silent or says something
  Say-line : (n : ℕ) (before : List (List ℕ)) (line : List ℕ) (after : List (List ℕ)) (said : List (Numbered L)) → Say IsTaken spelling n (before ++ line ∷ after) said → IsSilent line ⊎ ((what : L) × Says IsTaken spelling line what)
  Say-line n [] line after said (inl (silent, later)) = inl silent
  Say-line n [] line after said (inr (what, more, is, says, later)) = inr (what, says)
  Say-line n (x ∷ before) line after said (inl (silent, later)) = Say-line (n + 1) before line after said later
  Say-line n (x ∷ before) line after said (inr (what, more, is, says, later)) = Say-line (n + 1) before line after more later

  -- a file in the grammar has no first fault
  pub no_first_fault : (HasFault : List (List ℕ) → Why → Type 0) (bytes : List ℕ) (said : List (Numbered L)) (fault : ScriptFault) → FileSays IsTaken spelling bytes said → IsFirstFault IsTaken spelling HasFault bytes fault → ⊥
  no_first_fault HasFault bytes said fault says faulty =
      let lines_say = subst (λ ls. Say IsTaken spelling 1 ls said) faulty.here says in
      elim (Say-line 1 faulty.before faulty.faulty faulty.after said lines_say) [
        | inl silent ↦ faulty.speaks silent
        | inr (what, spoken) ↦ faulty.outside what spoken
      ]

  -- a file says at most one thing
  module _ (one_line : (a b : L) → IsTaken a → IsTaken b → spelling a ≡ spelling b → a ≡ b) (speaks : (what : L) (line : List ℕ) → IsTaken what → words line ≡ spelling what → IsSilent line → ⊥) where
    Say-one : (n : ℕ) (ls : List (List ℕ)) (a b : List (Numbered L)) → Say IsTaken spelling n ls a → Say IsTaken spelling n ls b → a ≡ b
    Say-one n [] a b says_a says_b = says_a ∙ sym says_b
    Say-one n (line ∷ ls) a b (inl (silent, later)) (inl (quiet, other)) = Say-one (n + 1) ls a b later other
    Say-one n (line ∷ ls) a b (inl (silent, later)) (inr (what, more, is, says, other)) = absurd (speaks what line says.taken says.spelt silent)
    Say-one n (line ∷ ls) a b (inr (what, more, is, says, later)) (inl (silent, other)) = absurd (speaks what line says.taken says.spelt silent)
    Say-one n (line ∷ ls) a b (inr (x, xs, is_a, says_a, later)) (inr (y, ys, is_b, says_b, other)) =
        let same = one_line x y says_a.taken says_b.taken (sym says_a.spelt ∙ says_b.spelt) in
        let rest = Say-one (n + 1) ls xs ys later other in
        is_a ∙ (ap (λ w. record { line = n; what = w } ∷ xs) same ∙ (ap (λ ms. record { line = n; what = y } ∷ ms) rest ∙ sym is_b))

    pub says_one : (bytes : List ℕ) (a b : List (Numbered L)) → FileSays IsTaken spelling bytes a → FileSays IsTaken spelling bytes b → a ≡ b
    says_one bytes a b says_a says_b = Say-one 1 (lines bytes) a b says_a says_b
