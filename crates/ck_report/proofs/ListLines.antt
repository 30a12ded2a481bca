-- The lines of a list's report, as they are printed.
use Rattle.std.proofs.Common.{◌≡◌, ℕ, ◌==◌, false, Result, OnOk, ◌+◌, ◌<◌, ◌≤◌, List, [], ◌∷◌, ◌++◌, length, map, drop, get_or, Vec, codes, decimal, refl, sym, ap, ◌∙◌, append-nil, append_assoc}
use Rattle.std.specs.List.{join_with_byte}
use Rattle.std.specs.declared.alloc.Global.{Global}
use Rattle.std.proofs.lemmas.List.{at_drop_more, drop_all}
use Rattle.ck_text.specs.Words.{line}
use Rattle.ck_report.specs.Numbered.{numbered, files_text}
use Rattle.ck_report.specs.ListText.{members_words}
use Rattle.ck_report.specs.Tails.{after_words}
use Rattle.ck_report.proofs.Streaming.{on_ok_map}

-- words that are joined: the first, and each other after a space
joined : (w : List ℕ) (ws : List (List ℕ)) → join_with_byte 32 (w ∷ ws) ≡ w ++ after_words ws
joined w [] = sym (append-nil w)
joined w (x ∷ ws) = ap (λ t. w ++ 32 ∷ t) (joined x ws)

-- a line of two words, and more
line_of_two : (letter : ℕ) (a : List ℕ) (ws : List (List ℕ)) → line ((letter ∷ []) ∷ a ∷ ws) ≡ (letter ∷ 32 ∷ []) ++ (a ++ (after_words ws ++ 10 ∷ []))
line_of_two letter a ws =
    ap (λ t. t ++ 10 ∷ []) (joined (letter ∷ []) (a ∷ ws)) ∙ ap (λ t. letter ∷ 32 ∷ t) (append_assoc a (after_words ws) (10 ∷ []))

pub two_printed : (letter : ℕ) (old a : List ℕ) (ws : List (List ℕ)) → ((old ++ letter ∷ 32 ∷ []) ++ a) ++ (after_words ws ++ 10 ∷ []) ≡ old ++ line ((letter ∷ []) ∷ a ∷ ws)
two_printed letter old a ws =
    append_assoc (old ++ letter ∷ 32 ∷ []) a (after_words ws ++ 10 ∷ []) ∙ (append_assoc old (letter ∷ 32 ∷ []) (a ++ (after_words ws ++ 10 ∷ [])) ∙ ap (λ t. old ++ t) (sym (line_of_two letter a ws)))

-- .. of three, of which the last is printed after a space
pub three_printed : (letter : ℕ) (old a b : List ℕ) (ws : List (List ℕ)) → ((((old ++ letter ∷ 32 ∷ []) ++ a) ++ 32 ∷ b) ++ after_words ws) ++ 10 ∷ [] ≡ old ++ line ((letter ∷ []) ∷ a ∷ b ∷ ws)
three_printed letter old a b ws =
    let rest : (32 ∷ b) ++ (after_words ws ++ 10 ∷ []) ≡ after_words (b ∷ ws) ++ 10 ∷ [] = ap (λ t. 32 ∷ t) (sym (append_assoc b (after_words ws) (10 ∷ []))) in
    append_assoc (((old ++ letter ∷ 32 ∷ []) ++ a) ++ 32 ∷ b) (after_words ws) (10 ∷ []) ∙ append_assoc ((old ++ letter ∷ 32 ∷ []) ++ a) (32 ∷ b) (after_words ws ++ 10 ∷ []) ∙ (ap (λ t. ((old ++ letter ∷ 32 ∷ []) ++ a) ++ t) rest ∙ two_printed letter old a (b ∷ ws))

-- where the words were printed one after another at the end of a text
pub three_end : {T E : Type 0} (r : Result T E) (letter : ℕ) (old a b first second third fourth new : List ℕ) (ws : List (List ℕ)) → first ≡ old ++ letter ∷ 32 ∷ [] → second ≡ first ++ a → third ≡ second ++ 32 ∷ b → fourth ≡ third ++ after_words ws → OnOk r (new ≡ fourth ++ 10 ∷ []) → OnOk r (new ≡ old ++ line ((letter ∷ []) ∷ a ∷ b ∷ ws))
three_end r letter old a b first second third fourth new ws one two three four last =
    let so_far : fourth ≡ (((old ++ letter ∷ 32 ∷ []) ++ a) ++ 32 ∷ b) ++ after_words ws =
    four ∙ ap (λ t. t ++ after_words ws) (three ∙ ap (λ t. t ++ 32 ∷ b) (two ∙ ap (λ t. t ++ a) one)) in
    on_ok_map r (new ≡ fourth ++ 10 ∷ []) (new ≡ old ++ line ((letter ∷ []) ∷ a ∷ b ∷ ws)) (λ is. is ∙ (ap (λ t. t ++ 10 ∷ []) so_far ∙ three_printed letter old a b ws)) last

pub member_printed : (old v : List ℕ) → ((old ++ 116 ∷ []) ++ 32 ∷ v) ++ 10 ∷ [] ≡ old ++ line (codes "t" ∷ v ∷ [])
member_printed old v =
    let rest : (116 ∷ []) ++ ((32 ∷ v) ++ 10 ∷ []) ≡ line (codes "t" ∷ v ∷ []) = refl in
    append_assoc (old ++ 116 ∷ []) (32 ∷ v) (10 ∷ []) ∙ (append_assoc old (116 ∷ []) ((32 ∷ v) ++ 10 ∷ []) ∙ ap (λ t. old ++ t) rest)

-- members that there are
pub members_begin : (members : List ℕ) (old : List ℕ) → (length members == 0) ≡ false → (old ++ codes " =") ++ after_words (map decimal members) ≡ old ++ after_words (members_words members)
members_begin [] old some = absurd (cc)
members_begin (v ∷ members) old some = append_assoc old (codes " =") (after_words (map decimal (v ∷ members)))

-- one member more
pub members_more : (members : List ℕ) (i v : ℕ) (out : List ℕ) → i < length members → v ≡ get_or members i v → (out ++ 32 ∷ decimal v) ++ after_words (map decimal (drop (i + 1) members)) ≡ out ++ after_words (map decimal (drop i members))
members_more members i v out lt is =
    let next : after_words (map decimal (drop i members)) ≡ 32 ∷ (decimal v ++ after_words (map decimal (drop (i + 1) members))) =
    at_drop_more (λ ms. after_words (map decimal ms)) members i v lt ∙ ap (λ n. 32 ∷ (decimal n ++ after_words (map decimal (drop (i + 1) members)))) (sym is) in
    append_assoc out (32 ∷ decimal v) (after_words (map decimal (drop (i + 1) members))) ∙ ap (λ t. out ++ t) (sym next)

-- the lines of the answers of one file more
pub next_views : {A : Type 0} (answer_line : ℕ → ℕ → A → List ℕ) (files : List (Vec A Global)) (i : ℕ) (file : Vec A Global) (buffer : List ℕ) → i < length files → file ≡ get_or files i file
    → buffer ++ files_text answer_line (i + 1) (map (λ file. file.items) (drop i files)) ≡ (buffer ++ numbered (answer_line (i + 1)) 0 file.items) ++ files_text answer_line (i + 1 + 1) (map (λ file. file.items) (drop (i + 1) files))
next_views {A} answer_line files i file buffer lt is =
    at_drop_more (λ (fs : List (Vec A Global)). buffer ++ files_text answer_line (i + 1) (map (λ file. file.items) fs)) files i file lt
    ∙ (ap (λ (f : Vec A Global). buffer ++ files_text answer_line (i + 1) (map (λ file. file.items) (f ∷ drop (i + 1) files))) (sym is)
    ∙ sym (append_assoc buffer (numbered (answer_line (i + 1)) 0 file.items) (files_text answer_line (i + 1 + 1) (map (λ file. file.items) (drop (i + 1) files)))))

-- after the last member
pub members_end : (members : List ℕ) (i : ℕ) (out whole : List ℕ) → length members ≤ i → out ++ after_words (map decimal (drop i members)) ≡ whole → out ≡ whole
members_end members i out whole le is =
    sym (append-nil out) ∙ (sym (ap (λ ms. out ++ after_words (map decimal ms)) (drop_all i members le)) ∙ is)
