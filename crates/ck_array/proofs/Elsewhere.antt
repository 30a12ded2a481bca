-- Steps elsewhere leave an array's tokens where they stand.
use Rattle.std.proofs.Common.{◌≡◌, ℕ, zero, suc, ◌+◌, ◌<◌, ◌≤◌, Bool, true, false, cond, ◌&&◌, leb, ltb, List, [], ◌∷◌, refl, sym, ap, ◌∙◌, arith}
use Rattle.std.specs.Prelude.{All}
use Rattle.std.proofs.lemmas.Bool.Decides.{nat_tests}
use Rattle.std.proofs.lemmas.List.Elements.{All-head, All-tail}
use Rattle.ck_run.specs.declared.account.Entry.{Entry}
use Rattle.ck_run.specs.Range.{word_of}
use Rattle.ck_run.specs.Machine.{state_after}
use Rattle.ck_run.specs.Tokens.{adding, did, number}
use Rattle.ck_run.proofs.Law.{state-append}
use Rattle.ck_epoch.specs.State.{Origin, Token, base_of}
use Rattle.ck_arraylaw.specs.Host.{Host, floor_word, base_word}
use Rattle.ck_arraylaw.specs.Layout.{array_words}
use Rattle.ck_arraylaw.specs.Array.{WriterState, ReaderState, LocalState, writer, reader, given_up, released_if, is_section, is_array_word, is_array_item, after_own, after_other, array_next}
use Rattle.ck_arraylaw.specs.Client.{array_start, first_reader, first_writer, local_after}
use Rattle.ck_arraylaw.specs.Known.{knows}
use Rattle.ck_arraylaw.proofs.Tokens.{reader_after, writer_after}
use Rattle.ck_array.specs.Reads.{resting}

pub below : (a b c : ℕ) → c < a → leb a c && ltb c b ≡ false
below a b c h = grind (arith, nat_tests)

pub beyond : (a b c : ℕ) → b ≤ c → leb a c && ltb c b ≡ false
beyond a b c h = grind (arith, nat_tests)

-- the writer's token has number 0, and a reader's another
pub writer_number : (f b n : ℕ) (es : List Entry) (p : WriterState) → local_after f b n es ≡ writer p → n ≡ 0
writer_number f b zero es p is = refl
writer_number f b (suc r) es p is = absurd (let w = reader_after f b first_reader es in let z : writer p ≡ reader w.0 = sym is ∙ w.1 in cc)

pub reader_number : (f b n : ℕ) (es : List Entry) (y : ReaderState) → local_after f b n es ≡ reader y → (r : ℕ) × (n ≡ suc r)
reader_number f b zero es y is = absurd (let w = writer_after f b first_writer es in let z : reader y ≡ writer w.0 = sym is ∙ w.1 in cc)
reader_number f b (suc r) es y is = (r, refl)

module _ {D : Type 0} (h : Host D) (o : Origin D) where
  abbrev f : ℕ
  f = floor_word h o

  abbrev b : ℕ
  b = base_word h o

  -- none of these steps is on a word of the array's, and none hands an item over
  abbrev pub AreElsewhere : List Entry → Type 0
  AreElsewhere [] = Unit {0}
  AreElsewhere (e ∷ es) = (is_array_word f b e.step ≡ false) × (e.item ≡ []) × AreElsewhere es

  pub reader_still : (answers : List (List ℕ)) (e : Entry) → is_array_word f b e.step ≡ false → array_next f b (reader (resting answers)) e ≡ reader (resting answers)
  reader_still answers e off = ap (λ (own : Bool). cond own (after_own f b (reader (resting answers)) e) (after_other f b (reader (resting answers)) e)) off ∙ go (is_section f b e.step)
    where
      go : (s : Bool) → reader (given_up f b s (resting answers)) ≡ reader (resting answers)
      go true = refl
      go false = refl

  pub writer_still : (p : WriterState) (e : Entry) → is_array_word f b e.step ≡ false → e.item ≡ [] → array_next f b (writer p) e ≡ writer p
  writer_still p e off none = ap (λ (own : Bool). cond own (after_own f b (writer p) e) (after_other f b (writer p) e)) off ∙ ap (λ (item : List ℕ). writer (released_if f b (is_array_item f b item) p)) none

  -- what each such step leaves as it is, a token that made such steps has still
  stays : (x : LocalState) → ((e : Entry) → is_array_word f b e.step ≡ false → e.item ≡ [] → array_next f b x e ≡ x) → (es : List Entry) → AreElsewhere es → state_after (array_next f b) x es ≡ x
  stays x still [] off = refl
  stays x still (e ∷ es) off = ap (λ (z : LocalState). state_after (array_next f b) z es) (still e off.0 off.1) ∙ stays x still es off.2

  token_stays : (x : LocalState) → ((e : Entry) → is_array_word f b e.step ≡ false → e.item ≡ [] → array_next f b x e ≡ x) → (t u : Token D) (es : List Entry) → u ≡ adding t es → AreElsewhere es → knows h o t ≡ x → knows h o u ≡ x
  token_stays x still t u es made off local = ap (λ (v : Token D). knows h o v) made ∙ (state-append (array_next f b) (array_start (number t)) (did t) es ∙ (ap (λ (z : LocalState). state_after (array_next f b) z es) local ∙ stays x still es off))

  pub pass_stays : (t u : Token D) (es : List Entry) (answers : List (List ℕ)) → u ≡ adding t es → AreElsewhere es → knows h o t ≡ reader (resting answers) → knows h o u ≡ reader (resting answers)
  pass_stays t u es answers = token_stays (reader (resting answers)) (λ e off none. reader_still answers e off) t u es

  pub hand_stays : (t u : Token D) (es : List Entry) (p : WriterState) → u ≡ adding t es → AreElsewhere es → knows h o t ≡ writer p → knows h o u ≡ writer p
  hand_stays t u es p = token_stays (writer p) (writer_still p) t u es

  abbrev pub IsBelow : Entry → Type 0
  IsBelow e = (word_of e.step < base_of o) × (e.item ≡ [])

  -- steps on the words of the epochs are such
  pub below_all : (es : List Entry) → All IsBelow es → AreElsewhere es
  below_all [] low = tt
  below_all (e ∷ es) low = let l = All-head IsBelow e es low in (below b (b + array_words) (word_of e.step) (let m = l.0 in omega arith), l.1, below_all es (All-tail IsBelow e es low))
