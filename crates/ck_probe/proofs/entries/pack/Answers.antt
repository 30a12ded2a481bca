use Rattle.std.proofs.Common.{◌≡◌, ℕ, List, [], ◌∷◌, length, drop, ap, sym, subst}
use Rattle.ck_probe.specs.Words.{word_of, words_of}
use Rattle.ck_probe.specs.Entries.{entry_of, IsEntry}
use Rattle.ck_probe.proofs.EntryBlocks.{six_words, entry_of-IsEntry}
use Rattle.ck_probe.proofs.entries.pack.Goals as goal

-- eight words that are an entry's, one by one
together : (name : List ℕ) (value n a b d e f g : ℕ) → n ≡ length name
    → a ≡ word_of (drop 0 name) → b ≡ word_of (drop 8 name) → d ≡ word_of (drop 16 name)
    → e ≡ word_of (drop 24 name) → f ≡ word_of (drop 32 name) → g ≡ word_of (drop 40 name)
    → n ∷ value ∷ a ∷ b ∷ d ∷ e ∷ f ∷ g ∷ [] ≡ entry_of name value
unfolding entry_of
together name value n a b d e f g n-is a-is b-is d-is e-is f-is g-is =
    let six : words_of 6 name ≡ word_of (drop 0 name) ∷ word_of (drop 8 name) ∷ word_of (drop 16 name) ∷ word_of (drop 24 name) ∷ word_of (drop 32 name) ∷ word_of (drop 40 name) ∷ [] = six_words name in
    cc

pub returns-clause-value : goal.returns-clause-value
returns-clause-value c =
    together c.args.name.now c.args.value _ _ _ _ _ _ _ (ap length c.bytes.ensures.value)
    c.word.ensures c.word-2.ensures c.word-3.ensures c.word-4.ensures c.word-5.ensures c.word-6.ensures

pub returns-clause-is_entry : goal.returns-clause-is_entry
returns-clause-is_entry c =
    let P : List ℕ → Type 0 = IsEntry in
    subst P (sym (returns-clause-value c)) (entry_of-IsEntry c.args.name.now c.args.value c.bytes.ensures.is_name)
