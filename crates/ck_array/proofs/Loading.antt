-- A reader's loads within an `all`: that the array allows them, and where they leave the pass.
use Rattle.std.proofs.Common.{◌≡◌, ℕ, suc, ◌+◌, ◌<◌, ◌==◌, Bool, true, false, cond, ◌&&◌, leb, ltb, inl, List, [], ◌∷◌, ◌++◌, length, refl, sym, ap, ◌∙◌, subst, arith, add-zero}
use Rattle.std.proofs.lemmas.Bool.Decides.{nat_tests}
use Rattle.ck_run.specs.declared.account.Step.TheVariants.{Load}
use Rattle.ck_run.specs.declared.account.Entry.{Entry}
use Rattle.ck_run.specs.Run.{entry, further}
use Rattle.ck_run.specs.Tokens.{adding, origin}
use Rattle.ck_run.proofs.Moments.{adding-append}
use Rattle.ck_epoch.specs.State.{Origin, Token}
use Rattle.ck_epoch.specs.Ends.{Pass, IsDomainToken}
use Rattle.ck_epoch.specs.Calls.{MayFollow}
use Rattle.ck_epoch.specs.Within.{IsWithin}
use Rattle.ck_arraylaw.specs.Calls.{all, is_single_load}
use Rattle.ck_arraylaw.specs.Host.{Host, floor_word, base_word}
use Rattle.ck_arraylaw.specs.Layout.{array_words, members_at, region_at}
use Rattle.ck_arraylaw.specs.Array.{at_length, at_member, ReaderState, LocalState, writer, reader, MayRead, MayIf, after_read, after_own, after_other, collected, collects, read_next, is_array_word, array_next}
use Rattle.ck_arraylaw.specs.Client.{array}
use Rattle.ck_arraylaw.specs.Known.{knows}
use Rattle.ck_arraylaw.proofs.Tokens.{knows_next, may_step}
use Rattle.ck_arraylaw.proofs.Words.{range_in}
use Rattle.ck_array.specs.Reads.{resting, member_loads, IsDueAt}

module _ {D : Type 0} (h : Host D) (o : Origin D) where
  abbrev f : ℕ
  f = floor_word h o

  abbrev b : ℕ
  b = base_word h o

  pub own_word : (at : ℕ) → at < array_words → leb b (b + at) && ltb (b + at) (b + array_words) ≡ true
  own_word at low = range_in b (b + array_words) (b + at) (omega arith) (omega arith)

  pub may_load : IsWithin array h.client h.place h.part → (t : Token D) → origin t ≡ o → IsDomainToken h.client t → (opens : List ℕ) (at n : ℕ) → at < array_words → IsDueAt h o t opens at → MayFollow h.client t (entry opens (Load (b + at) n))
  may_load within t same part opens at n low d =
      let e : Entry = entry opens (Load (b + at) n) in
      may_step h o within t same part e (inl (omega arith, omega arith))
      (subst (λ (x : LocalState). MayIf f b (is_array_word f b e.step) x e) (sym d.local) (subst (λ (own : Bool). MayIf f b own (reader d.state) e) (sym (own_word at low)) (subst (λ (s : Bool). MayRead f b s d.state e) (sym d.own) (d.due n))))
      (λ p is own begins. absurd (let z : reader d.state ≡ writer p = sym d.local ∙ is in cc))

  -- where the load leaves the reader
  pub loads : (t u : Token D) (opens : List ℕ) (at n : ℕ) → at < array_words → is_single_load opens ≡ false → u ≡ adding t (entry opens (Load (b + at) n) ∷ []) → (y : ReaderState) → knows h o t ≡ reader y → knows h o u ≡ reader (read_next y y.stage n)
  loads t u opens at n low own made y local =
      let e : Entry = entry opens (Load (b + at) n) in
      knows_next h o t u e made ∙ (ap (λ (x : LocalState). array_next f b x e) local
      ∙ (ap (λ (c : Bool). cond c (after_own f b (reader y) e) (after_other f b (reader y) e)) (own_word at low) ∙ ap (λ (s : Bool). reader (after_read f b s y e)) own))

-- the loads of one member more
pub member_loads-push : (word x : ℕ) (members : List ℕ) → member_loads word (members ++ x ∷ []) ≡ member_loads word members ++ further (Load (word + length members) x) ∷ []
member_loads-push word x [] = ap (λ (k : ℕ). further (Load k x) ∷ []) (sym (add-zero word))
member_loads-push word x (m ∷ members) = ap (λ (l : List Entry). further (Load word m) ∷ l) (member_loads-push (suc word) x members ∙ ap (λ (k : ℕ). member_loads (suc word) members ++ further (Load k x) ∷ []) (along word (length members)))
  where
    along : (w n : ℕ) → suc w + n ≡ w + suc n
    along w n = omega arith

-- a reader with some of the members, of which there are n
abbrev pub reading : List (List ℕ) → ℕ → ℕ → List ℕ → ReaderState
reading answers at n members = collects (resting answers) at n members

-- it is to load one more
pub reading_more : (answers : List (List ℕ)) (at n : ℕ) (members : List ℕ) → length members < n → reading answers at n members ≡ record { stage = at_member at n members; answers = answers }
reading_more answers at n members less = ap (λ (b : Bool). collected (resting answers) at n members b) (let e : (length members == n) ≡ false = grind (arith, nat_tests) in e)

pub reading_next : (answers : List (List ℕ)) (at n : ℕ) (members : List ℕ) (x : ℕ) → read_next (record { stage = at_member at n members; answers = answers }) (at_member at n members) x ≡ reading answers at n (members ++ x ∷ [])
reading_next answers at n members x = go (length (members ++ x ∷ []) == n)
  where
    go : (b : Bool) → collected (record { stage = at_member at n members; answers = answers }) at n (members ++ x ∷ []) b ≡ collected (resting answers) at n (members ++ x ∷ []) b
    go true = refl
    go false = refl

reading_first : (answers : List (List ℕ)) (at count : ℕ) → read_next (record { stage = at_length at; answers = answers }) (at_length at) count ≡ reading answers at (members_at at count) []
reading_first answers at count = go (0 == members_at at count)
  where
    go : (b : Bool) → collected (record { stage = at_length at; answers = answers }) at (members_at at count) [] b ≡ collected (resting answers) at (members_at at count) [] b
    go true = refl
    go false = refl

-- it has loaded the root and this number, and cut both as the code does
pub reading_begun : (h : LocalState) (answers : List (List ℕ)) (root at count most : ℕ) → h ≡ reader (read_next (record { stage = at_length (region_at root); answers = answers }) (at_length (region_at root)) count) → at ≡ region_at root → most ≡ members_at at count
    → h ≡ reader (reading answers at most [])
reading_begun h answers root at count most local at_is most_is =
    local ∙ (ap reader (reading_first answers (region_at root) count) ∙ (λ i. reader (reading answers (sym at_is i) ((ap (λ (k : ℕ). members_at k count) (sym at_is) ∙ sym most_is) i) [])))

-- or has them all
pub reading_done : (answers : List (List ℕ)) (at n : ℕ) (members : List ℕ) → length members ≡ n → reading answers at n members ≡ resting (answers ++ members ∷ [])
reading_done answers at n members all = ap (λ (b : Bool). collected (resting answers) at n members b) (let e : (length members == n) ≡ true = grind (arith, nat_tests) in e)

-- a pass that changed in its token alone, twice
pub same_pass : {D : Type 0} (p q r : Pass D) (t : Token D) → q ≡ record p { token = q.token } → r ≡ record q { token = t } → r ≡ record p { token = r.token }
same_pass p q r t first second = second ∙ (ap (λ (x : Pass _). record x { token = t }) first ∙ ap (λ (k : Token _). record p { token = k }) (sym (ap (λ (x : Pass _). x.token) second)))

-- the next load is of the next member
pub next_member : (base at i n : ℕ) → n ≡ i → base + (at + 1 + i) ≡ base + at + 1 + n
next_member base at i n same = omega arith

-- a load more
pub one_more_load : {D : Type 0} (s t u : Token D) (word w x : ℕ) (members : List ℕ) → t ≡ adding s (member_loads word members) → u ≡ adding t (further (Load w x) ∷ []) → w ≡ word + length members → u ≡ adding s (member_loads word (members ++ x ∷ []))
one_more_load s t u word w x members before made at = made ∙ (ap (λ (k : Token _). adding k (further (Load w x) ∷ [])) before ∙ (adding-append s (member_loads word members) (further (Load w x) ∷ [])
    ∙ ap (λ (es : List Entry). adding s es) (ap (λ (k : ℕ). member_loads word members ++ further (Load k x) ∷ []) at ∙ sym (member_loads-push word x members))))
