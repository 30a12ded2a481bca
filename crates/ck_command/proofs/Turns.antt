-- What one word does to `clap`'s walk.
use Rattle.std.proofs.Common.{◌≡◌, ℕ, Bool, true, false, ◌==◌, List, [], ◌∷◌, ◌++◌, ◌⊎◌, get_or, arith, Option, Some, None, refl, ap, sym, ◌∙◌, subst, codes, eqb-true}
use Rattle.std.specs.Prelude.{MatchOption, option_map, slice_get}
use Rattle.std.specs.List.{fold}
use Rattle.std.specs.Str.{IsUtf8, bytes_eq, chars, encode_utf8_all}
use Rattle.std.proofs.lemmas.Str.{IsUtf8-past_char, encodes-chars, encode_ascii}
use Rattle.clap.specs.Lexer.{long_of, short_of}
use Rattle.clap.specs.Walk.{Held, Row, Text, Waiting, Walk, idle, option as waits_for, positional, settled, settled_rows, used, is_pending, walked, arg_by_long}
use Rattle.clap.specs.Kinds.{Kinds, or_else}
use Rattle.clap.specs.Faults.{settle_fault, turn_fault, walk_fault, use_fault, flags_fault}
use Rattle.clap.specs.declared.error.kind.ErrorKind.{ErrorKind}
use Rattle.clap.specs.declared.error.kind.ErrorKind.TheVariants.{UnknownArgument, InvalidValue}
use Rattle.ck_command.specs.Words.{Said, Word, file, option, end, other, long_word, word_of}
use Rattle.ck_command.proofs.Rows.{nonempty, or_nil, and_false, top, rules, files, option_at, value_at, which, arg_is, Tells}

-- ---- what a word looks like

-- the word begins with `-`
abbrev pub IsDashed : Text → Type 0
IsDashed word = get_or word 0 0 ≡ 45

abbrev pub Looks : Word → Text → Type 0
Looks file word = (bytes_eq word (45 ∷ 45 ∷ []) ≡ false) × (long_of word ≡ None) × (short_of word ≡ None)
Looks (option name value) word = (bytes_eq word (45 ∷ 45 ∷ []) ≡ false) × (long_of word ≡ Some (name, value)) × IsDashed word
Looks end word = (bytes_eq word (45 ∷ 45 ∷ []) ≡ true) × IsDashed word
Looks other word = (bytes_eq word (45 ∷ 45 ∷ []) ≡ false) × (long_of word ≡ None) × IsDashed word
    × ((b : ℕ) × (bs : Text) × (x : ℕ) × (short_of word ≡ Some (b ∷ bs)) × (slice_get (chars (b ∷ bs)) 0 ≡ Some x))

-- a text that isn't empty has a first character
has_first : (b : ℕ) (bs : Text) → IsUtf8 (b ∷ bs) → (x : ℕ) × (slice_get (chars (b ∷ bs)) 0 ≡ Some x)
has_first b bs u = go (chars (b ∷ bs)) (encodes-chars (b ∷ bs) u)
  where
    go : (cs : List ℕ) → encode_utf8_all cs ≡ b ∷ bs → (x : ℕ) × (slice_get cs 0 ≡ Some x)
    go [] e = absurd (nonempty (sym e))
    go (c ∷ cs) e = (c, refl)

pub looks : (word : Text) → IsUtf8 word → Looks (word_of word) word
looks [] u = (refl, refl, refl)
looks (a ∷ []) u = go (a == 45) refl
  where
    go : (p : Bool) → (a == 45) ≡ p → Looks file (a ∷ [])
    go true e = rw e (refl, refl, refl)
    go false e = rw e (refl, refl, refl)
looks (a ∷ b ∷ rest) u = go (a == 45) (b == 45) refl refl
  where
    long : (bs : Text) → bs ≡ rest → (a == 45) ≡ true → (b == 45) ≡ true → Looks (long_word bs) (a ∷ b ∷ bs)
    long [] is e f = rw (e, f) (refl, eqb-true a 45 e)
    long (x ∷ xs) is e f = rw (e, f) (refl, refl, eqb-true a 45 e)

    go : (p q : Bool) → (a == 45) ≡ p → (b == 45) ≡ q → Looks (word_of (a ∷ b ∷ rest)) (a ∷ b ∷ rest)
    go false q e f =
        let seen : Looks file (a ∷ b ∷ rest) = rw e (refl, refl, refl) in
        rw e seen
    go true true e f = rw (e, f) (long rest refl e f)
    go true false e f =
        let dash : a ≡ 45 = eqb-true a 45 e in
        let after : IsUtf8 (b ∷ rest) = IsUtf8-past_char (a ∷ b ∷ rest) (b ∷ rest) 45 u (ap (λ x. x ∷ b ∷ rest) dash ∙ ap (λ e. e ++ b ∷ rest) (sym (encode_ascii 45 (omega arith)))) in
        let first = has_first b rest after in
        let seen : Looks other (a ∷ b ∷ rest) = (rw (e, f) refl, rw (e, f) refl, dash, (b, rest, first.0, rw (e, f) refl, first.1)) in
        rw (e, f) seen

-- ---- the walk

abbrev pub Pending : Type 0
Pending = Option (Text × List Text)

-- a walk between two words
abbrev pub at : Bool → List Row → Pending → Waiting → Walk
at trailing rows pending waiting = record {
  held = record { rows = rows; pending = pending; skip = 0 };
  waiting = waiting;
  position = 1;
  is_trailing = trailing;
  stopped = None;
}

-- what stands against the option or file that is held
abbrev pub held_fault : List Row → Pending → Kinds
held_fault rows pending = settle_fault rules false (record { rows = rows; pending = pending; skip = 0 })

-- an option was said to have a value that begins with `-`
abbrev pub IsWrong : Said → Type 0
IsWrong said = (k : Bool) × (word : Text) × (value_at k said ≡ Some word) × IsDashed word

abbrev pub end_of : Walk → List Text → Held
end_of w words = (fold (walked rules []) w words).held

abbrev pub Passes : Kinds → Held → Type 0
Passes faults last = (faults ≡ []) × (settle_fault rules false last ≡ [])

-- the answer, of a walk that met these faults and ended so
abbrev pub Answers : Option Said → Kinds → Held → Type 0
Answers answer faults last = MatchOption answer (Passes faults last → ⊥)
    (λ said. (Passes faults last × Tells said (settled rules last).rows) ⊎ ((Passes faults last → ⊥) × IsWrong said))

abbrev pub Reads : Option Said → Walk → List Text → Type 0
Reads answer w words = Answers answer (walk_fault top [] w words) (end_of w words)

-- a word with no fault
pub step : (answer : Option Said) (w : Walk) (word : Text) (words : List Text) (next : Walk) → turn_fault top [] w word ≡ [] → walked rules [] w word ≡ next
    → Reads answer next words → Reads answer w (word ∷ words)
unfolding walk_fault
step answer w word words next turn walk reads =
    subst (λ ks. Answers answer (or_else ks (walk_fault top [] (walked rules [] w word) words)) (end_of (walked rules [] w word) words)) (sym turn)
    (subst (λ v. Reads answer v words) (sym walk) reads)

-- a word with a fault
pub stop : (w : Walk) (word : Text) (words : List Text) (k : ErrorKind) (ks : Kinds) → turn_fault top [] w word ≡ k ∷ ks → Reads None w (word ∷ words)
unfolding walk_fault
stop w word words k ks turn =
    λ p. nonempty (subst (λ faults. or_else faults (walk_fault top [] (walked rules [] w word) words) ≡ []) turn p.0)

-- no option waits
abbrev pub IsFree : Waiting → Type 0
IsFree idle = Unit {0}
IsFree positional = Unit {0}
IsFree (waits_for id) = ⊥

abbrev pub after_file : Bool → List Row → Pending → Text → Walk
after_file trailing rows pending word = at trailing (settled_rows rules pending rows) (Some (codes "file", word ∷ [])) positional

module _ (rows : List Row) (pending : Pending) (word : Text) where
  is_held : Bool
  is_held = is_pending files pending

  -- past a `--`
  pub trailing_turn : (z : Waiting) → turn_fault top [] (at true rows pending z) word ≡ held_fault rows pending
  trailing_turn z = rw (and_false (is_pending files pending)) refl

  pub trailing_walk : (z : Waiting) → walked rules [] (at true rows pending z) word ≡ after_file true rows pending word
  unfolding walked
  trailing_walk z = rw (and_false (is_pending files pending)) refl

  pub file_turn : (z : Waiting) → IsFree z → Looks file word → turn_fault top [] (at false rows pending z) word ≡ held_fault rows pending
  file_turn idle free l = rw (l.0, l.1, l.2, and_false (is_pending files pending)) refl
  file_turn positional free l = rw (l.0, l.1, l.2, and_false (is_pending files pending)) refl
  file_turn (waits_for id) free l = absurd free

  pub file_walk : (z : Waiting) → IsFree z → Looks file word → walked rules [] (at false rows pending z) word ≡ after_file false rows pending word
  unfolding walked
  file_walk idle free l = rw (l.0, l.1, l.2, and_false (is_pending files pending)) refl
  file_walk positional free l = rw (l.0, l.1, l.2, and_false (is_pending files pending)) refl
  file_walk (waits_for id) free l = absurd free

  pub end_turn : (z : Waiting) → Looks end word → turn_fault top [] (at false rows pending z) word ≡ []
  end_turn idle l = rw l.0 refl
  end_turn positional l = rw l.0 refl
  end_turn (waits_for id) l = rw l.0 refl

  pub end_walk : (z : Waiting) → Looks end word → walked rules [] (at false rows pending z) word ≡ at true rows pending z
  unfolding walked
  end_walk idle l = rw l.0 refl
  end_walk positional l = rw l.0 refl
  end_walk (waits_for id) l = rw l.0 refl

  pub other_turn : (z : Waiting) → Looks other word → turn_fault top [] (at false rows pending z) word ≡ UnknownArgument ∷ []
  unfolding flags_fault
  other_turn idle l = rw (l.0, l.1, l.3.3, l.3.4) refl
  other_turn positional l = rw (l.0, l.1, l.3.3, l.3.4) refl
  other_turn (waits_for id) l = rw (l.0, l.1, l.3.3, l.3.4) refl

  module _ (name : Text) where
    pub unknown_turn : (z : Waiting) (value : Option Text) → Looks (option name value) word → which name ≡ None → turn_fault top [] (at false rows pending z) word ≡ UnknownArgument ∷ []
    unknown_turn z value l none =
        let missing : arg_by_long rules name ≡ None = arg_is name ∙ ap (option_map option_at) none in
        go z missing
      where
        go : (z : Waiting) → arg_by_long rules name ≡ None → turn_fault top [] (at false rows pending z) word ≡ UnknownArgument ∷ []
        go idle missing = rw (l.0, l.1, missing) refl
        go positional missing = rw (l.0, l.1, missing) refl
        go (waits_for id) missing = rw (l.0, l.1, missing) refl

    module _ (k : Bool) (known : which name ≡ Some k) where
      found : arg_by_long rules name ≡ Some (option_at k)
      found = arg_is name ∙ ap (option_map option_at) known

      pub given_turn : (z : Waiting) (value : Text) → Looks (option name (Some value)) word
          → turn_fault top [] (at false rows pending z) word ≡ or_else (held_fault rows pending) (use_fault false (option_at k) (value ∷ []) (settled_rows rules pending rows))
      given_turn z value l = go k z found
        where
          go : (k : Bool) (z : Waiting) → arg_by_long rules name ≡ Some (option_at k)
              → turn_fault top [] (at false rows pending z) word ≡ or_else (held_fault rows pending) (use_fault false (option_at k) (value ∷ []) (settled_rows rules pending rows))
          go true idle is = rw (l.0, l.1, is) (or_nil (or_else (held_fault rows pending) (use_fault false (option_at true) (value ∷ []) (settled_rows rules pending rows))))
          go true positional is = rw (l.0, l.1, is) (or_nil (or_else (held_fault rows pending) (use_fault false (option_at true) (value ∷ []) (settled_rows rules pending rows))))
          go true (waits_for id) is = rw (l.0, l.1, is) (or_nil (or_else (held_fault rows pending) (use_fault false (option_at true) (value ∷ []) (settled_rows rules pending rows))))
          go false idle is = rw (l.0, l.1, is) (or_nil (or_else (held_fault rows pending) (use_fault false (option_at false) (value ∷ []) (settled_rows rules pending rows))))
          go false positional is = rw (l.0, l.1, is) (or_nil (or_else (held_fault rows pending) (use_fault false (option_at false) (value ∷ []) (settled_rows rules pending rows))))
          go false (waits_for id) is = rw (l.0, l.1, is) (or_nil (or_else (held_fault rows pending) (use_fault false (option_at false) (value ∷ []) (settled_rows rules pending rows))))

      pub given_walk : (z : Waiting) (value : Text) → Looks (option name (Some value)) word
          → walked rules [] (at false rows pending z) word ≡ at false (used (option_at k) (value ∷ []) (settled_rows rules pending rows)) None idle
      unfolding walked
      given_walk z value l = go k z found
        where
          go : (k : Bool) (z : Waiting) → arg_by_long rules name ≡ Some (option_at k)
              → walked rules [] (at false rows pending z) word ≡ at false (used (option_at k) (value ∷ []) (settled_rows rules pending rows)) None idle
          go true idle is = rw (l.0, l.1, is) refl
          go true positional is = rw (l.0, l.1, is) refl
          go true (waits_for id) is = rw (l.0, l.1, is) refl
          go false idle is = rw (l.0, l.1, is) refl
          go false positional is = rw (l.0, l.1, is) refl
          go false (waits_for id) is = rw (l.0, l.1, is) refl

      pub waits_turn : (z : Waiting) → Looks (option name None) word → turn_fault top [] (at false rows pending z) word ≡ held_fault rows pending
      waits_turn z l = go k z found
        where
          go : (k : Bool) (z : Waiting) → arg_by_long rules name ≡ Some (option_at k) → turn_fault top [] (at false rows pending z) word ≡ held_fault rows pending
          go true idle is = rw (l.0, l.1, is) (or_nil (held_fault rows pending))
          go true positional is = rw (l.0, l.1, is) (or_nil (held_fault rows pending))
          go true (waits_for id) is = rw (l.0, l.1, is) (or_nil (held_fault rows pending))
          go false idle is = rw (l.0, l.1, is) (or_nil (held_fault rows pending))
          go false positional is = rw (l.0, l.1, is) (or_nil (held_fault rows pending))
          go false (waits_for id) is = rw (l.0, l.1, is) (or_nil (held_fault rows pending))

      pub waits_walk : (z : Waiting) → Looks (option name None) word
          → walked rules [] (at false rows pending z) word ≡ at false (settled_rows rules pending rows) (Some ((option_at k).id, [])) (waits_for (option_at k).id)
      unfolding walked
      waits_walk z l = go k z found
        where
          go : (k : Bool) (z : Waiting) → arg_by_long rules name ≡ Some (option_at k)
              → walked rules [] (at false rows pending z) word ≡ at false (settled_rows rules pending rows) (Some ((option_at k).id, [])) (waits_for (option_at k).id)
          go true idle is = rw (l.0, l.1, is) refl
          go true positional is = rw (l.0, l.1, is) refl
          go true (waits_for id) is = rw (l.0, l.1, is) refl
          go false idle is = rw (l.0, l.1, is) refl
          go false positional is = rw (l.0, l.1, is) refl
          go false (waits_for id) is = rw (l.0, l.1, is) refl

-- the walk just after an option that waits for its value
abbrev pub waiting_at : List Row → Bool → Walk
waiting_at rows k = at false rows (Some ((option_at k).id, [])) (waits_for (option_at k).id)

pub value_turn : (rows : List Row) (k : Bool) (word : Text) → Looks file word → turn_fault top [] (waiting_at rows k) word ≡ []
value_turn rows true word l = rw (l.0, l.1, l.2) refl
value_turn rows false word l = rw (l.0, l.1, l.2) refl

pub value_walk : (rows : List Row) (k : Bool) (word : Text) → Looks file word → walked rules [] (waiting_at rows k) word ≡ at false rows (Some ((option_at k).id, word ∷ [])) idle
unfolding walked
value_walk rows true word l = rw (l.0, l.1, l.2) refl
value_walk rows false word l = rw (l.0, l.1, l.2) refl

pub no_value : (rows : List Row) (k : Bool) → held_fault rows (Some ((option_at k).id, [])) ≡ InvalidValue ∷ []
no_value rows true = refl
no_value rows false = refl

pub one_value : (rows : List Row) (k : Bool) (value : Text) → held_fault rows (Some ((option_at k).id, value ∷ [])) ≡ use_fault false (option_at k) (value ∷ []) rows
one_value rows true value = refl
one_value rows false value = refl
