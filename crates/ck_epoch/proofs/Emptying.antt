-- The four lists of pending items: an item is put on one of them, one of them is emptied, and what was on it waits.
use Rattle.std.proofs.Common.{◌≡◌, ◌≢◌, ℕ, zero, suc, ◌+◌, ◌%◌, ◌<◌, ◌≤◌, ◌==◌, Bool, true, false, cond, List, [], ◌∷◌, ◌++◌, map, vec_len, length, All, get_or, set, take, drop, slice_set, refl, sym, ap, ◌∙◌, subst, arith, eq-eqb, ne_eqb}
use Rattle.std.specs.declared.vec.Vec.{Vec}
use Rattle.std.specs.Vec.{with_item}
use Rattle.std.proofs.lemmas.List.{drop_more, take_more, append_assoc, append-nil, length-append, map-append, map-set, length-map, get_or-set_same, get_or-set_other}
use Rattle.std.proofs.lemmas.List.Elements.{All-nil, All-cons, All-set, All-get_or, All-filter, filter-append, filter_passes}
use mathlib.Core.Logic.{dite}
use native.Mathlib.Decide.{ℕ_discrete}
use Rattle.ck_epoch.specs.declared.item.Item.{Item}
use Rattle.ck_epoch.specs.declared.item.Retired.{Retired}
use Rattle.ck_epoch.specs.State.{Retirement, queue}
use Rattle.ck_epoch.specs.Lists.{is_on, on, off, by_list, items_on, in_a_row, AreListsOf, RetiredList, lists_view, ListsHaveRoom, AreRetired, IsDispatched, AreDispatched}
use Rattle.ck_epoch.proofs.FourLists.{on-off, on_gone, length_by_list}

-- the lists after one of them is set to these items
set_list : (lists : List (List Retired)) (at : ℕ) (items : List Retired) (list : ℕ) → at < length lists → items_on (slice_set lists at items) list ≡ cond (list == at) items (items_on lists list)
set_list lists at items list low = dite (ℕ_discrete list at)
    (λ (e : list ≡ at). ap (λ (k : ℕ). get_or (set lists at items) k []) e ∙ (get_or-set_same lists at items [] low ∙ sym (ap (λ (b : Bool). cond b items (items_on lists list)) (eq-eqb list at e))))
    (λ (n : list ≢ at). get_or-set_other lists at list items [] n ∙ sym (ap (λ (b : Bool). cond b items (items_on lists list)) (ne_eqb list at n)))

view_set : (ls : List RetiredList) (at : ℕ) (l : RetiredList) (list : ℕ) → at < length ls → items_on (lists_view (slice_set ls at l)) list ≡ cond (list == at) l.items (items_on (lists_view ls) list)
view_set ls at l list low = ap (λ (xs : List (List Retired)). items_on xs list) (map-set (λ (x : RetiredList). x.items) ls at l)
    ∙ set_list (lists_view ls) at l.items list (let z = length-map ls (λ (x : RetiredList). x.items) in omega arith)

view_at : (ls : List RetiredList) (at : ℕ) (l : RetiredList) → at < length ls → l ≡ get_or ls at l → items_on (lists_view ls) at ≡ l.items
view_at [] at l low e = absurd (omega arith)
view_at (x ∷ ls) zero l low e = ap (λ (k : RetiredList). k.items) (sym e)
view_at (x ∷ ls) (suc at) l low e = view_at ls at l (omega arith) e

lengths : (lists : List (List Retired)) → length (in_a_row lists) ≡ length (items_on lists 0) + (length (items_on lists 1) + (length (items_on lists 2) + length (items_on lists 3)))
lengths lists =
    let a = length-append (items_on lists 0) (items_on lists 1 ++ (items_on lists 2 ++ items_on lists 3)) in
    let b = length-append (items_on lists 1) (items_on lists 2 ++ items_on lists 3) in
    let c = length-append (items_on lists 2) (items_on lists 3) in
    omega arith

-- the items of one list are no more than those of all four
one_of_four : (lists : List (List Retired)) (list : ℕ) → list < 4 → length (items_on lists list) ≤ length (in_a_row lists)
one_of_four lists zero low = let z = lengths lists in omega arith
one_of_four lists (suc zero) low = let z = lengths lists in omega arith
one_of_four lists (suc (suc zero)) low = let z = lengths lists in omega arith
one_of_four lists (suc (suc (suc zero))) low = let z = lengths lists in omega arith
one_of_four lists (suc (suc (suc (suc n)))) low = absurd (omega arith)

-- one list was emptied
abbrev pub IsEmptied : ℕ → List (List Retired) → List (List Retired) → Type 0
IsEmptied list lists after = (other : ℕ) → other < 4 → items_on after other ≡ cond (other == list) [] (items_on lists other)

emptied_length : (list : ℕ) (lists after : List (List Retired)) → list < 4 → IsEmptied list lists after → length (items_on lists list) + length (in_a_row after) ≡ length (in_a_row lists)
emptied_length list lists after low is = cases list low is
  where
    each : (list : ℕ) → IsEmptied list lists after → (other : ℕ) → other < 4 → length (items_on after other) ≡ length (cond (other == list) [] (items_on lists other))
    each list is other low = ap length (is other low)

    cases : (list : ℕ) → list < 4 → IsEmptied list lists after → length (items_on lists list) + length (in_a_row after) ≡ length (in_a_row lists)
    cases zero low is = let x = lengths lists in let y = lengths after in
        let a : length (items_on after 0) ≡ 0 = each 0 is 0 (omega arith) in let b : length (items_on after 1) ≡ length (items_on lists 1) = each 0 is 1 (omega arith) in
        let c : length (items_on after 2) ≡ length (items_on lists 2) = each 0 is 2 (omega arith) in let d : length (items_on after 3) ≡ length (items_on lists 3) = each 0 is 3 (omega arith) in omega arith
    cases (suc zero) low is = let x = lengths lists in let y = lengths after in
        let a : length (items_on after 0) ≡ length (items_on lists 0) = each 1 is 0 (omega arith) in let b : length (items_on after 1) ≡ 0 = each 1 is 1 (omega arith) in
        let c : length (items_on after 2) ≡ length (items_on lists 2) = each 1 is 2 (omega arith) in let d : length (items_on after 3) ≡ length (items_on lists 3) = each 1 is 3 (omega arith) in omega arith
    cases (suc (suc zero)) low is = let x = lengths lists in let y = lengths after in
        let a : length (items_on after 0) ≡ length (items_on lists 0) = each 2 is 0 (omega arith) in let b : length (items_on after 1) ≡ length (items_on lists 1) = each 2 is 1 (omega arith) in
        let c : length (items_on after 2) ≡ 0 = each 2 is 2 (omega arith) in let d : length (items_on after 3) ≡ length (items_on lists 3) = each 2 is 3 (omega arith) in omega arith
    cases (suc (suc (suc zero))) low is = let x = lengths lists in let y = lengths after in
        let a : length (items_on after 0) ≡ length (items_on lists 0) = each 3 is 0 (omega arith) in let b : length (items_on after 1) ≡ length (items_on lists 1) = each 3 is 1 (omega arith) in
        let c : length (items_on after 2) ≡ length (items_on lists 2) = each 3 is 2 (omega arith) in let d : length (items_on after 3) ≡ 0 = each 3 is 3 (omega arith) in omega arith
    cases (suc (suc (suc (suc n)))) low is = absurd (omega arith)

-- the items of a list are dispatched one by one
module _ (xs : List Retired) (i : ℕ) (low : i < length xs) (r : Retired) (rest ps : List Retired) (left : ps ≡ drop i xs) (popped : ps ≡ r ∷ rest) where
  same : r ∷ rest ≡ get_or xs i r ∷ drop (i + 1) xs
  same = sym popped ∙ (left ∙ drop_more xs i r low)

  is_next : r ≡ get_or xs i r
  is_next = ap (λ (ys : List Retired). get_or ys 0 r) same

  pub rest_is : rest ≡ drop (i + 1) xs
  rest_is = ap (drop 1) same

  pub next_may : (retires : Item → Bool) (pending : List Retired) → AreDispatched retires pending xs → IsDispatched retires pending r
  next_may retires pending may = subst (IsDispatched retires pending) (sym is_next) (All-get_or (IsDispatched retires pending) xs i r low may)

  pub next_waits : {W : Type 0} (f : Retired → W) (ws us vs : List W) (w : W) → us ≡ ws ++ map f (take i xs) → vs ≡ us ++ w ∷ [] → w ≡ f r → vs ≡ ws ++ map f (take (i + 1) xs)
  next_waits {W} f ws us vs w before pushed is = pushed
      ∙ ((λ j. before j ++ is j ∷ [])
      ∙ (append_assoc ws (map f (take i xs)) (f r ∷ [])
      ∙ ap (λ (ys : List W). ws ++ ys) (sym (ap (map f) (take_more xs i r low ∙ ap (λ (x : Retired). take i xs ++ x ∷ []) (sym is_next)) ∙ map-append f (take i xs) (r ∷ [])))))

-- an item was put behind those of its list
abbrev pub IsPut : Retired → List (List Retired) → List (List Retired) → Type 0
IsPut r lists after = (list : ℕ) → list < 4 → items_on after list ≡ items_on lists list ++ on list (r ∷ [])

put_length : (r : Retired) (lists after : List (List Retired)) → IsPut r lists after → length (in_a_row after) ≡ length (in_a_row lists) + 1
put_length r lists after is =
    let x = lengths lists in let y = lengths after in
    let more = λ (list : ℕ) (low : list < 4). ap length (is list low) ∙ length-append (items_on lists list) (on list (r ∷ [])) in
    let a = more 0 (omega arith) in let b = more 1 (omega arith) in let c = more 2 (omega arith) in let d = more 3 (omega arith) in
    let one = length_by_list (r ∷ []) in
    let p = length-append (on 0 (r ∷ [])) (on 1 (r ∷ []) ++ (on 2 (r ∷ []) ++ on 3 (r ∷ []))) in
    let q = length-append (on 1 (r ∷ [])) (on 2 (r ∷ []) ++ on 3 (r ∷ [])) in
    let s = length-append (on 2 (r ∷ [])) (on 3 (r ∷ [])) in
    omega arith

module _ {Z : Type 0} (lists : Vec RetiredList Z) (waiting room : ℕ) (has : ListsHaveRoom lists waiting room) where
  is_low : (at : ℕ) → at < 4 → at < length lists.items
  is_low at low = let a = has.four in let b = lists.ok.0 in omega arith

  -- a list of the four
  room_at : (at : ℕ) (l : RetiredList) → at < 4 → l ≡ get_or lists.items at l → l.room ≡ room
  room_at at l low e = subst (λ (k : RetiredList). k.room ≡ room) (sym e) (All-get_or (λ (k : RetiredList). k.room ≡ room) lists.items at l (is_low at low) has.roomy)

  items_at : (at : ℕ) (l : RetiredList) → at < 4 → l ≡ get_or lists.items at l → items_on (lists_view lists.items) at ≡ l.items
  items_at at l low e = view_at lists.items at l (is_low at low) e

  room_after : (at : ℕ) (l k : RetiredList) (waiting' room' : ℕ) → at < 4 → l ≡ get_or lists.items at l → k.room ≡ l.room → room' ≡ room
      → length (in_a_row (lists_view (slice_set lists.items at k))) + waiting' ≤ room' → ListsHaveRoom (with_item lists at k) waiting' room'
  room_after at l k waiting' room' low e same is fits = record {
    four = has.four;
    roomy = subst (λ (r : ℕ). All (λ (x : RetiredList). x.room ≡ r) (slice_set lists.items at k)) (sym is)
        (All-set (λ (x : RetiredList). x.room ≡ room) lists.items at k (same ∙ room_at at l low e) has.roomy);
    fits = fits;
  }

  pub is_put : (r : Retired) (at : ℕ) (l k : RetiredList) → at ≡ r.epoch % 4 → at < 4 → l ≡ get_or lists.items at l → k.items ≡ l.items ++ r ∷ [] → IsPut r (lists_view lists.items) (lists_view (slice_set lists.items at k))
  is_put r at l k which low e pushed list few = view_set lists.items at k list (is_low at low) ∙ dite (ℕ_discrete list at)
      (λ (same : list ≡ at). ap (λ (b : Bool). cond b k.items (items_on (lists_view lists.items) list)) (eq-eqb list at same)
      ∙ (pushed ∙ (ap (λ (xs : List Retired). xs ++ r ∷ []) (sym (items_at at l low e) ∙ ap (items_on (lists_view lists.items)) (sym same))
      ∙ ap (λ (b : Bool). items_on (lists_view lists.items) list ++ cond b (r ∷ []) []) (sym (eq-eqb (r.epoch % 4) list (sym which ∙ sym same))))))
      (λ (other : list ≢ at). ap (λ (b : Bool). cond b k.items (items_on (lists_view lists.items) list)) (ne_eqb list at other)
      ∙ (sym (append-nil (items_on (lists_view lists.items) list))
      ∙ ap (λ (b : Bool). items_on (lists_view lists.items) list ++ cond b (r ∷ []) []) (sym (ne_eqb (r.epoch % 4) list (λ z. other (sym z ∙ sym which))))))

  pub is_emptied : (at : ℕ) (k : RetiredList) → at < 4 → k.items ≡ [] → IsEmptied at (lists_view lists.items) (lists_view (slice_set lists.items at k))
  is_emptied at k low empty other few = view_set lists.items at k other (is_low at low) ∙ ap (λ (xs : List Retired). cond (other == at) xs (items_on (lists_view lists.items) other)) empty

  -- a list has room for an item more where all pending items and some more are fewer than there is room for
  pub has_room : (at : ℕ) (l : RetiredList) (more : ℕ) → at < 4 → l ≡ get_or lists.items at l → length (in_a_row (lists_view lists.items)) + more < room → length l.items < l.room
  has_room at l more low e few = let a = room_at at l low e in let b = ap length (items_at at l low e) in let c = one_of_four (lists_view lists.items) at low in omega arith

  pub put_fits : (r : Retired) (at : ℕ) (l k : RetiredList) → at ≡ r.epoch % 4 → at < 4 → l ≡ get_or lists.items at l → k ≡ record l { items = l.items ++ r ∷ [] } → length (in_a_row (lists_view lists.items)) + waiting < room
      → ListsHaveRoom (with_item lists at k) waiting room
  put_fits r at l k which low e pushed few = let more = put_length r (lists_view lists.items) (lists_view (slice_set lists.items at k)) (is_put r at l k which low e (ap (λ (x : RetiredList). x.items) pushed)) in
      room_after at l k waiting room low e (ap (λ (x : RetiredList). x.room) pushed) refl (omega arith)

  -- the items of one list wait
  module _ (at : ℕ) (l k : RetiredList) (low : at < 4) (e : l ≡ get_or lists.items at l) (emptied : k ≡ record l { items = [] }) where
    pub emptied_total : length l.items + length (in_a_row (lists_view (slice_set lists.items at k))) ≡ length (in_a_row (lists_view lists.items))
    emptied_total = let a = emptied_length at (lists_view lists.items) (lists_view (slice_set lists.items at k)) low (is_emptied at k low (ap (λ (x : RetiredList). x.items) emptied)) in let b = ap length (items_at at l low e) in omega arith

    pub emptied_fits : (waiting' room' : ℕ) → waiting' ≡ waiting + length l.items → room' ≡ room → ListsHaveRoom (with_item lists at k) waiting' room'
    emptied_fits waiting' room' more same = let total = emptied_total in let fits = has.fits in room_after at l k waiting' room' low e (ap (λ (x : RetiredList). x.room) emptied) same (omega arith)

-- lists of which each is empty
all_empty : (ls : List RetiredList) → All (λ (l : RetiredList). l.items ≡ []) ls → (list : ℕ) → list < length ls → items_on (lists_view ls) list ≡ []
all_empty [] empty list low = absurd (omega arith)
all_empty (l ∷ ls) empty zero low = empty 0 l (omega arith)
all_empty (l ∷ ls) empty (suc list) low = all_empty ls (λ k d m. empty (suc k) d (omega arith)) list (omega arith)

none_in_a_row : (lists : List (List Retired)) → ((list : ℕ) → list < 4 → items_on lists list ≡ []) → in_a_row lists ≡ []
none_in_a_row lists none =
    ap (λ (xs : List Retired). xs ++ (items_on lists 1 ++ (items_on lists 2 ++ items_on lists 3))) (none 0 (omega arith))
    ∙ (ap (λ (xs : List Retired). xs ++ (items_on lists 2 ++ items_on lists 3)) (none 1 (omega arith))
    ∙ (ap (λ (xs : List Retired). xs ++ items_on lists 3) (none 2 (omega arith)) ∙ none 3 (omega arith)))

-- four new lists
module _ {Z : Type 0} (lists : Vec RetiredList Z) (room : ℕ) (four : vec_len lists ≡ 4) (each : All (λ (l : RetiredList). (l.room ≡ room) × (l.items ≡ [])) lists.items) where
  pub none_pending : (list : ℕ) → list < 4 → items_on (lists_view lists.items) list ≡ []
  none_pending list low = all_empty lists.items (λ k d l. (each k d l).1) list (let a = lists.ok.0 in omega arith)

  pub new_fits : (waiting room' : ℕ) → waiting ≡ 0 → room' ≡ room → ListsHaveRoom lists waiting room'
  new_fits waiting room' none same = let zero_long = ap length (none_in_a_row (lists_view lists.items) none_pending) in record {
    four = four;
    roomy = λ k d l. (each k d l).0 ∙ sym same;
    fits = omega arith;
  }

-- the four lists were dispatched one after the other
module _ {W : Type 0} (f : Retired → W) (w0 w1 w2 w3 w4 : List W) (l0 l1 l2 l3 : List (List Retired)) where
  pub all_wait : w1 ≡ w0 ++ map f (items_on l0 0) → w2 ≡ w1 ++ map f (items_on l1 1) → w3 ≡ w2 ++ map f (items_on l2 2) → w4 ≡ w3 ++ map f (items_on l3 3)
      → IsEmptied 0 l0 l1 → IsEmptied 1 l1 l2 → IsEmptied 2 l2 l3 → w4 ≡ w0 ++ map f (in_a_row l0)
  all_wait e1 e2 e3 e4 g1 g2 g3 =
      let h = λ (xs : List Retired). map f xs in
      let a = items_on l0 0 in let b = items_on l0 1 in let c = items_on l0 2 in let d = items_on l0 3 in
      let is1 : items_on l1 1 ≡ b = g1 1 (omega arith) in
      let is2 : items_on l2 2 ≡ c = g2 2 (omega arith) ∙ g1 2 (omega arith) in
      let is3 : items_on l3 3 ≡ d = g3 3 (omega arith) ∙ (g2 3 (omega arith) ∙ g1 3 (omega arith)) in
      e4 ∙ ((λ i. e3 i ++ h (is3 i)) ∙ ((λ i. (e2 i ++ h (is2 i)) ++ h d) ∙ ((λ i. ((e1 i ++ h (is1 i)) ++ h c) ++ h d)
      ∙ (append_assoc ((w0 ++ h a) ++ h b) (h c) (h d) ∙ (append_assoc (w0 ++ h a) (h b) (h c ++ h d) ∙ (append_assoc w0 (h a) (h b ++ (h c ++ h d))
      ∙ ap (λ (ws : List W). w0 ++ ws) (sym (map-append f a (b ++ (c ++ d)) ∙ ap (λ (ws : List W). h a ++ ws) (map-append f b (c ++ d) ∙ ap (λ (ws : List W). h b ++ ws) (map-append f c d))))))))))

-- The lists as those of the pending items
pub lists_more : (r : Retired) (lists after : List (List Retired)) (pending : List Retired) → AreListsOf lists pending → IsPut r lists after → AreListsOf after (pending ++ r ∷ [])
lists_more r lists after pending are is list low = is list low ∙ (ap (λ (xs : List Retired). xs ++ on list (r ∷ [])) (are list low) ∙ sym (filter-append (is_on list) pending (r ∷ [])))

pub lists_off : (list : ℕ) (lists after : List (List Retired)) (pending : List Retired) → AreListsOf lists pending → IsEmptied list lists after → AreListsOf after (off list pending)
lists_off list lists after pending are is other low = is other low ∙ (ap (cond (other == list) []) (are other low) ∙ dite (ℕ_discrete other list)
    (λ (e : other ≡ list). ap (λ (b : Bool). cond b [] (on other pending)) (eq-eqb other list e) ∙ sym (ap (λ (k : ℕ). on k (off list pending)) e ∙ on_gone list pending))
    (λ (n : other ≢ list). ap (λ (b : Bool). cond b [] (on other pending)) (ne_eqb other list n) ∙ sym (on-off other list n pending)))

pub row_is : (lists : List (List Retired)) (pending : List Retired) → AreListsOf lists pending → in_a_row lists ≡ by_list pending
row_is lists pending are = λ i. are 0 (omega arith) i ++ (are 1 (omega arith) i ++ (are 2 (omega arith) i ++ are 3 (omega arith) i))

-- how many items are pending
pub row_length : (lists : List (List Retired)) (ks : List Retirement) → AreListsOf lists (queue ks) → length (in_a_row lists) ≡ length ks
row_length lists ks are = ap length (row_is lists (queue ks) are) ∙ (length_by_list (queue ks) ∙ length-map ks (λ (k : Retirement). k.retired))

-- What waits, and how many items were dispatched: the list of this number, and then another or all others
module _ (lists lists' : List (List Retired)) (pending : List Retired) (are : AreListsOf lists pending) (list : ℕ) (low : list < 4) (is : IsEmptied list lists lists') where
  left_are : AreListsOf lists' (off list pending)
  left_are = lists_off list lists lists' pending are is

  module _ {W : Type 0} (f : Retired → W) (before after : List W) (first : after ≡ before ++ map f (items_on lists list)) where
    pub waits_one : after ≡ before ++ map f (on list pending)
    waits_one = first ∙ ap (λ (xs : List Retired). before ++ map f xs) (are list low)

    waits_more : (last : List W) (xs ys : List Retired) → last ≡ after ++ map f xs → xs ≡ ys → last ≡ before ++ map f (on list pending ++ ys)
    waits_more last xs ys more same = more ∙ ((λ i. waits_one i ++ map f (same i)) ∙ (append_assoc before (map f (on list pending)) (map f ys) ∙ ap (λ (ws : List W). before ++ ws) (sym (map-append f (on list pending) ys))))

    pub waits_two : (last : List W) (list' : ℕ) → list' < 4 → last ≡ after ++ map f (items_on lists' list') → last ≡ before ++ map f (on list pending ++ on list' (off list pending))
    waits_two last list' low' more = waits_more last (items_on lists' list') (on list' (off list pending)) more (left_are list' low')

    pub waits_all : (last : List W) → last ≡ after ++ map f (in_a_row lists') → last ≡ before ++ map f (on list pending ++ by_list (off list pending))
    waits_all last more = waits_more last (in_a_row lists') (by_list (off list pending)) more (row_is lists' (off list pending) left_are)

  module _ (n : ℕ) (first : n ≡ length (items_on lists list)) where
    pub count_one : n ≡ length (on list pending)
    count_one = first ∙ ap length (are list low)

    pub count_two : (m list' : ℕ) → list' < 4 → m ≡ length (items_on lists' list') → n + m ≡ length (on list pending ++ on list' (off list pending))
    count_two m list' low' more = let a = count_one in let b = more ∙ ap length (left_are list' low') in let c = length-append (on list pending) (on list' (off list pending)) in omega arith

    pub count_all : (m : ℕ) → m ≡ length (in_a_row lists') → n + m ≡ length (on list pending ++ by_list (off list pending))
    count_all m more = let a = count_one in let b = more ∙ ap length (row_is lists' (off list pending) left_are) in let c = length-append (on list pending) (by_list (off list pending)) in omega arith

-- no item of a list is pending where none of that list is
not_on_more : (list : ℕ) (p : Retired) (ps : List Retired) (b : Bool) → is_on list p ≡ b → on list (p ∷ ps) ≡ [] → (on list ps ≡ [] → All (λ (x : Retired). is_on list x ≡ false) ps) → All (λ (x : Retired). is_on list x ≡ false) (p ∷ ps)
not_on_more list p ps true is none rest = absurd (let z : p ∷ on list ps ≡ [] = sym (ap (λ (b : Bool). cond b (p ∷ on list ps) (on list ps)) is) ∙ none in cc)
not_on_more list p ps false is none rest = All-cons (λ (x : Retired). is_on list x ≡ false) p ps is (rest (sym (ap (λ (b : Bool). cond b (p ∷ on list ps) (on list ps)) is) ∙ none))

not_on : (list : ℕ) (pending : List Retired) → on list pending ≡ [] → All (λ (p : Retired). is_on list p ≡ false) pending
not_on list [] none = All-nil (λ (p : Retired). is_on list p ≡ false)
not_on list (p ∷ ps) none = not_on_more list p ps (is_on list p) refl none (not_on list ps)

pub are_dispatched : (retires : Item → Bool) (list : ℕ) (lists : List (List Retired)) (were pending : List Retired) → AreListsOf lists were → list < 4 → AreRetired retires were → on list pending ≡ []
    → AreDispatched retires pending (items_on lists list)
are_dispatched retires list lists were pending are low may none = subst (AreDispatched retires pending) (sym (are list low))
    (λ k d few. (
      All-filter (is_on list) (λ (r : Retired). retires r.item ≡ true) were may k d few,
      λ j e short same. let here = filter_passes (is_on list) were k d few in let there = not_on list pending none j e short in let both = ap (is_on list) same in cc,
    ))
