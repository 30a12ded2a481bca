-- What each kind of step adds to the events of a token.
use Rattle.std.proofs.Common.{◌≡◌, ℕ, ◌<◌, ◌≤◌, ◌⊎◌, ⊎_elim, inl, inr, Bool, true, false, cond, nat_le, nat_lt, ◌==◌, ◌&&◌, eq-eqb, List, [], ◌∷◌, ◌++◌, drop, length, map, append-nil, append_assoc, eqb-true, refl, sym, ap, ◌∙◌, arith}
use Rattle.std.specs.Prelude.{Result, Ok, Err, MatchResult, All}
use Rattle.std.proofs.lemmas.Bool.Decides.{nat_tests}
use Rattle.std.proofs.lemmas.List.{append_cancel_left}
use Rattle.std.proofs.lemmas.List.Elements.{All-head, All-tail}
use Rattle.ck_run.specs.declared.account.Step.{Step}
use Rattle.ck_run.specs.declared.account.Step.TheVariants.{Load}
use Rattle.ck_run.specs.declared.account.Entry.{Entry}
use Rattle.ck_run.specs.Machine.{state_after}
use Rattle.ck_run.specs.Range.{word_of}
use Rattle.ck_run.specs.Run.{call, further}
use Rattle.ck_run.specs.Tokens.{adding, did, number}
use Rattle.ck_run.proofs.Law.{state-append}
use Rattle.ck_run.proofs.Lists.{first_is}
use Rattle.ck_history.specs.declared.event.ReaderEvent.{ReaderEvent}
use Rattle.ck_history.specs.declared.event.ReaderEvent.TheVariants.{Answered, Reached}
use Rattle.ck_history.specs.declared.event.WriterEvent.{WriterEvent}
use Rattle.ck_history.specs.declared.event.WriterEvent.TheVariants.{Updated, Told}
use Rattle.ck_epoch.specs.State.{Origin, Token, base_of}
use Rattle.ck_epoch.specs.Client.{Client}
use Rattle.ck_epoch.specs.Ends.{Pass}
use Rattle.ck_signal.specs.declared.signals.Signals.{Signals}
use Rattle.ck_signal.specs.Signals.{readers}
use Rattle.ck_signal.specs.Words.{reached, answered, reaches, marks, asks}
use Rattle.ck_signal.specs.Told.{applied_word_of, answered_word_of}
use Rattle.ck_events.specs.Events.{Structure, reached_result, answer_events, update_events, gained, reached_event, answered_event, events_of_pass, events_of_hand}

both_true : (a b : Bool) → (a && b) ≡ true → (a ≡ true) × (b ≡ true)
both_true true true e = (refl, refl)
both_true true false e = absurd cc
both_true false b e = absurd cc

both : (x y : ℕ) → (x == x) && (y == y) ≡ true
both x y = (λ i. eq-eqb x x refl i && eq-eqb y y refl i)

pub gained_is : {A : Type 0} (xs ys zs : List A) → zs ≡ xs ++ ys → gained xs zs ≡ ys
gained_is {A} xs ys zs is = ap (λ (l : List A). drop (length xs) l) is ∙ past xs
  where
    past : (xs : List A) → drop (length xs) (xs ++ ys) ≡ ys
    past [] = refl
    past (x ∷ xs) = past xs

pub gained_none : {A : Type 0} (xs zs : List A) → zs ≡ xs → gained xs zs ≡ []
gained_none xs zs is = gained_is xs [] zs (is ∙ sym (append-nil xs))

-- each of the entries is of this kind
abbrev pub Each : (Entry → Type 0) → List Entry → Type 0
Each Is [] = Unit {0}
Each Is (e ∷ es) = Is e × Each Is es

-- One side of a structure: the items that a token's steps bring, as events, and the event that a step is by itself
record Side (S I E : Type 0) : Type 0 where
  start : ℕ → S
  next : S → Entry → S
  items : S → List I
  event : I → E
  own : S → Entry → List E

module _ {S I E : Type 0} (side : Side S I E) where
  abbrev item_events : List I → List E
  item_events [] = []
  item_events (x ∷ xs) = side.event x ∷ item_events xs

  abbrev step_events : S → Entry → List E
  step_events s e = item_events (gained (side.items s) (side.items (side.next s e))) ++ side.own s e

  abbrev side_events : S → List Entry → List E
  side_events s [] = []
  side_events s (e ∷ es) = step_events s e ++ side_events (side.next s e) es

  item_events-append : (xs ys : List I) → item_events (xs ++ ys) ≡ item_events xs ++ item_events ys
  item_events-append [] ys = refl
  item_events-append (x ∷ xs) ys = ap (λ (es : List E). side.event x ∷ es) (item_events-append xs ys)

  side_events-append : (s : S) (es fs : List Entry) → side_events s (es ++ fs) ≡ side_events s es ++ side_events (state_after side.next s es) fs
  side_events-append s [] fs = refl
  side_events-append s (e ∷ es) fs = ap (λ (xs : List E). step_events s e ++ xs) (side_events-append (side.next s e) es fs)
      ∙ sym (append_assoc (step_events s e) (side_events (side.next s e) es) (side_events (state_after side.next (side.next s e) es) fs))

  abbrev known_of : {C : Type 0} → Token C → S
  known_of t = state_after side.next (side.start (number t)) (did t)

  abbrev events_of : {C : Type 0} → Token C → List E
  events_of t = side_events (side.start (number t)) (did t)

  -- the events after some entries more
  events_grow : {C : Type 0} (t u : Token C) (es : List Entry) → u ≡ adding t es → events_of u ≡ events_of t ++ side_events (known_of t) es
  events_grow t u es made = ap events_of made ∙ side_events-append (side.start (number t)) (did t) es

  -- a step that brings no item
  step_event : {C : Type 0} (t u : Token C) (e : Entry) → u ≡ adding t (e ∷ []) → side.items (side.next (known_of t) e) ≡ side.items (known_of t) → events_of u ≡ events_of t ++ side.own (known_of t) e
  step_event t u e made none =
      events_grow t u (e ∷ []) made ∙ ap (λ (xs : List E). events_of t ++ xs)
      (append-nil (step_events (known_of t) e) ∙ (λ i. item_events (gained_none (side.items (known_of t)) (side.items (side.next (known_of t) e)) none i) ++ side.own (known_of t) e))

  -- entries that are no event by themselves add the items that they bring, where the items only grow
  module _ (grows : (s : S) (e : Entry) → (more : List I) × (side.items (side.next s e) ≡ side.items s ++ more)) (IsBare : Entry → Type 0) (bare : (s : S) (e : Entry) → IsBare e → side.own s e ≡ []) where
    bare_events : (s : S) (es : List Entry) → Each IsBare es → (more : List I) × (side.items (state_after side.next s es) ≡ side.items s ++ more) × (side_events s es ≡ item_events more)
    bare_events s [] are = ([], sym (append-nil (side.items s)), refl)
    bare_events s (e ∷ es) are =
        let g = grows s e in let rest = bare_events (side.next s e) es are.1 in (
          g.0 ++ rest.0,
          rest.1 ∙ (ap (λ (l : List I). l ++ rest.0) g.1 ∙ append_assoc (side.items s) g.0 rest.0),
          (λ i. ((λ j. item_events (gained_is (side.items s) g.0 (side.items (side.next s e)) g.1 j) ++ bare s e are.0 j) ∙ append-nil (item_events g.0)) i ++ rest.2 i) ∙ sym (item_events-append g.0 rest.0),
        )

    items_are_events : {C : Type 0} (t u : Token C) (es : List Entry) (new : List I) → u ≡ adding t es → Each IsBare es → side.items (known_of u) ≡ side.items (known_of t) ++ new → events_of u ≡ events_of t ++ item_events new
    items_are_events {C} t u es new made are items =
        let b = bare_events (known_of t) es are in
        let after : side.items (known_of u) ≡ side.items (known_of t) ++ b.0 = ap (λ (v : Token C). side.items (known_of v)) made ∙ (ap side.items (state-append side.next (side.start (number t)) (did t) es) ∙ b.1) in
        let same : b.0 ≡ new = append_cancel_left (side.items (known_of t)) b.0 new (sym after ∙ items) in
        events_grow t u es made ∙ ap (λ (xs : List E). events_of t ++ xs) (b.2 ∙ ap item_events same)

-- what `reached` answers, by whether it found enough
pub result_ok : (n found : ℕ) → n ≤ found → reached_result n found ≡ Ok tt
result_ok n found low = let test : nat_le n found ≡ true = grind (arith, nat_tests) in ap (λ (c : Bool). cond {A = Result (Unit {0}) ℕ} c (Ok tt) (Err found)) test

pub result_err : (n found : ℕ) → found < n → reached_result n found ≡ Err found
result_err n found low = let test : nat_le n found ≡ false = grind (arith, nat_tests) in ap (λ (c : Bool). cond {A = Result (Unit {0}) ℕ} c (Ok tt) (Err found)) test

-- a step that opens so isn't that of `answered`, and none of these is
abbrev pub OpensNone : List ℕ → Type 0
OpensNone opens = (r : ℕ) → opens ≡ answered ∷ r ∷ [] → ⊥

abbrev pub AreQuiet : List Entry → Type 0
AreQuiet = Each (λ (e : Entry). OpensNone e.opens)

pub AreQuiet-append : (xs ys : List Entry) → AreQuiet xs → AreQuiet ys → AreQuiet (xs ++ ys)
AreQuiet-append [] ys a c = c
AreQuiet-append (x ∷ xs) ys a c = (a.0, AreQuiet-append xs ys a.1 c)

pub none_named : (name : ℕ) (rest : List ℕ) → (name ≡ answered → ⊥) → OpensNone (name ∷ rest)
none_named name rest other r e = other (first_is name answered rest (r ∷ []) e)

pub further_quiet : (ss : List Step) → AreQuiet (map further ss)
further_quiet [] = tt
further_quiet (s ∷ ss) = ((λ r e. cc), further_quiet ss)

pub call_quiet : (name : ℕ) (ss : List Step) → (name ≡ answered → ⊥) → AreQuiet (call name [] ss)
call_quiet name [] other = tt
call_quiet name (s ∷ ss) other = (none_named name [] other, further_quiet ss)

module _ {C : Type 0} (client : Client C) (o : Origin (Signals C)) where
  -- a step that is none of `reached`, or one
  pub reached_is : {Q A : Type 0} (g : Bool) (opens : List ℕ) (s : Step) → (reached_event client o {Q = Q} {A = A} g opens s ≡ [])
      ⊎ ((wanted : ℕ) × (found : ℕ) × (g ≡ true) × (opens ≡ reached ∷ wanted ∷ []) × (s ≡ Load (applied_word_of client o) found) × (reached_event client o {Q = Q} {A = A} g opens s ≡ Reached wanted (reached_result wanted found) ∷ []))
  reached_is {Q} {A} true (name ∷ wanted ∷ []) (Load at found) = by ((name == reached) && (at == applied_word_of client o)) refl
    where
      by : (c : Bool) → ((name == reached) && (at == applied_word_of client o)) ≡ c → (cond {A = List (ReaderEvent Q A)} ((name == reached) && (at == applied_word_of client o)) (Reached wanted (reached_result wanted found) ∷ []) [] ≡ [])
          ⊎ ((w : ℕ) × (k : ℕ) × (true ≡ true) × (name ∷ wanted ∷ [] ≡ reached ∷ w ∷ []) × (Load at found ≡ Load (applied_word_of client o) k) × (cond {A = List (ReaderEvent Q A)} ((name == reached) && (at == applied_word_of client o)) (Reached wanted (reached_result wanted found) ∷ []) [] ≡ Reached w (reached_result w k) ∷ []))
      by false test = inl (ap (λ (c : Bool). cond {A = List (ReaderEvent Q A)} c (Reached wanted (reached_result wanted found) ∷ []) []) test)
      by true test = let t = both_true (name == reached) (at == applied_word_of client o) test in
          inr (wanted, found, refl, ap (λ (n : ℕ). n ∷ wanted ∷ []) (eqb-true name reached t.0), ap (λ (a : ℕ). Load a found) (eqb-true at (applied_word_of client o) t.1), ap (λ (c : Bool). cond {A = List (ReaderEvent Q A)} c (Reached wanted (reached_result wanted found) ∷ []) []) test)
  reached_is g opens s = inl refl

  -- a step that is none of `answered`, or one
  pub told_is : {U R : Type 0} (g : Bool) (opens : List ℕ) (s : Step) → (answered_event client o {U = U} {R = R} g opens s ≡ [])
      ⊎ ((r : ℕ) × (found : ℕ) × (g ≡ true) × (r < readers o) × (s ≡ Load (answered_word_of client o r) found) × (answered_event client o {U = U} {R = R} g opens s ≡ Told r found ∷ []))
  told_is {U} {R} true (name ∷ r ∷ []) (Load at found) = by ((name == answered) && ((at == answered_word_of client o r) && nat_lt r (readers o))) refl
    where
      by : (c : Bool) → ((name == answered) && ((at == answered_word_of client o r) && nat_lt r (readers o))) ≡ c
          → (cond {A = List (WriterEvent U R)} ((name == answered) && ((at == answered_word_of client o r) && nat_lt r (readers o))) (Told r found ∷ []) [] ≡ [])
          ⊎ ((q : ℕ) × (k : ℕ) × (true ≡ true) × (q < readers o) × (Load at found ≡ Load (answered_word_of client o q) k) × (cond {A = List (WriterEvent U R)} ((name == answered) && ((at == answered_word_of client o r) && nat_lt r (readers o))) (Told r found ∷ []) [] ≡ Told q k ∷ []))
      by false test = inl (ap (λ (c : Bool). cond {A = List (WriterEvent U R)} c (Told r found ∷ []) []) test)
      by true test = let t = both_true (name == answered) ((at == answered_word_of client o r) && nat_lt r (readers o)) test in let u = both_true (at == answered_word_of client o r) (nat_lt r (readers o)) t.1 in
          inr (r, found, refl, (let z = u.1 in grind (arith, nat_tests)), ap (λ (a : ℕ). Load a found) (eqb-true at (answered_word_of client o r) u.0), ap (λ (c : Bool). cond {A = List (WriterEvent U R)} c (Told r found ∷ []) []) test)
  told_is g opens s = inl refl

  -- the entry isn't that of `reached`, and none of these is
  abbrev pub IsSilent : Entry → Type 0
  IsSilent e = (wanted found : ℕ) → e.opens ≡ reached ∷ wanted ∷ [] → e.step ≡ Load (applied_word_of client o) found → ⊥

  abbrev pub AreSilent : List Entry → Type 0
  AreSilent = Each IsSilent

  -- steps on the words of the epochs are no events
  pub silent_below : (es : List Entry) → All (λ (e : Entry). (word_of e.step < base_of o) × (e.item ≡ [])) es → AreSilent es
  silent_below [] h = tt
  silent_below (e ∷ es) h = let low = (All-head (λ (e : Entry). (word_of e.step < base_of o) × (e.item ≡ [])) e es h).0 in
      ((λ wanted found opens step. let same : word_of e.step ≡ applied_word_of client o = ap word_of step in absurd (omega arith)), silent_below es (All-tail (λ (e : Entry). (word_of e.step < base_of o) × (e.item ≡ [])) e es h))

  -- what `reached` did with a pass
  abbrev pub Reaches : Pass (Signals C) → Pass (Signals C) → ℕ → Result (Unit {0}) ℕ → Type 0
  Reaches p q n result = MatchResult result
      (λ _. (found : ℕ) × (n ≤ found) × (q ≡ record p { token = adding p.token (reaches (applied_word_of client o) n found ∷ []) }))
      (λ found. (found < n) × (q ≡ record p { token = adding p.token (reaches (applied_word_of client o) n found ∷ []) }))

  -- by one step
  pub reaches_once : (p q : Pass (Signals C)) (n : ℕ) (result : Result (Unit {0}) ℕ) → Reaches p q n result → (found : ℕ) × (q ≡ record p { token = adding p.token (reaches (applied_word_of client o) n found ∷ []) })
  reaches_once p q n (Ok met) step = (step.0, step.2)
  reaches_once p q n (Err found) step = (found, step.1)

  no_event : {Q A : Type 0} (g : Bool) (e : Entry) → IsSilent e → reached_event client o {Q = Q} {A = A} g e.opens e.step ≡ []
  no_event {Q} {A} g e silent = ⊎_elim (λ h. h) (λ h. absurd (silent h.0 h.1 h.3 h.4)) (reached_is g e.opens e.step)

  no_answer : {U R : Type 0} (g : Bool) (opens : List ℕ) (s : Step) → OpensNone opens → answered_event client o {U = U} {R = R} g opens s ≡ []
  no_answer {U} {R} true (name ∷ r ∷ []) (Load at found) quiet = ap (λ (c : Bool). cond {A = List (WriterEvent U R)} (c && ((at == answered_word_of client o r) && nat_lt r (readers o))) (Told r found ∷ []) []) (other (name == answered) refl)
    where
      other : (c : Bool) → (name == answered) ≡ c → (name == answered) ≡ false
      other true test = absurd (quiet r (ap (λ (n : ℕ). n ∷ r ∷ []) (eqb-true name answered test)))
      other false test = test
  no_answer g opens s quiet = refl

  module _ {S Q A U R : Type 0} (known : Structure S Q A U R) where
    -- what is known of a token
    abbrev pub knows : Token (Signals C) → S
    knows t = state_after known.next (known.start (number t)) (did t)

    abbrev pass : Side S (Q × A) (ReaderEvent Q A)
    pass = record { start = known.start; next = known.next; items = known.answers; event = λ x. Answered x.0 x.1; own = λ s e. reached_event client o (known.is_out s) e.opens e.step }

    abbrev hand : Side S (U × R) (WriterEvent U R)
    hand = record { start = known.start; next = known.next; items = known.log; event = λ x. Updated x.0 x.1; own = λ s e. answered_event client o (known.is_idle s) e.opens e.step }

    -- a step of `reached` by a reader between two queries, which answers nothing
    pub reach_event : (t u : Token (Signals C)) (n found : ℕ) → u ≡ adding t (reaches (applied_word_of client o) n found ∷ []) → known.is_out (knows t) ≡ true
        → known.answers (known.next (knows t) (reaches (applied_word_of client o) n found)) ≡ known.answers (knows t) → events_of_pass client o known u ≡ events_of_pass client o known t ++ Reached n (reached_result n found) ∷ []
    reach_event t u n found made out none =
        let e : Entry = reaches (applied_word_of client o) n found in
        step_event pass t u e made none
        ∙ ap (λ (xs : List (ReaderEvent Q A)). events_of_pass client o known t ++ xs)
        (ap (λ (g : Bool). reached_event client o {Q = Q} {A = A} g e.opens e.step) out ∙ ap (λ (c : Bool). cond {A = List (ReaderEvent Q A)} c (Reached n (reached_result n found) ∷ []) []) (both 12 (applied_word_of client o)))

    pub reached_event_is : (p q : Pass (Signals C)) (n : ℕ) (result : Result (Unit {0}) ℕ) → Reaches p q n result → known.is_out (knows p.token) ≡ true
        → ((found : ℕ) → known.answers (known.next (knows p.token) (reaches (applied_word_of client o) n found)) ≡ known.answers (knows p.token))
        → events_of_pass client o known q.token ≡ events_of_pass client o known p.token ++ Reached n result ∷ []
    reached_event_is p q n (Ok met) step out none =
        reach_event p.token q.token n step.0 (ap (λ (x : Pass (Signals C)). x.token) step.2) out (none step.0)
        ∙ ap (λ (r : Result (Unit {0}) ℕ). events_of_pass client o known p.token ++ Reached n r ∷ []) (result_ok n step.0 step.1)
    reached_event_is p q n (Err found) step out none =
        reach_event p.token q.token n found (ap (λ (x : Pass (Signals C)). x.token) step.1) out (none found)
        ∙ ap (λ (r : Result (Unit {0}) ℕ). events_of_pass client o known p.token ++ Reached n r ∷ []) (result_err n found step.0)

    -- a step of `mark`, which answers nothing
    pub mark_event : (t u : Token (Signals C)) (n : ℕ) → u ≡ adding t (marks (applied_word_of client o) n ∷ []) → known.log (known.next (knows t) (marks (applied_word_of client o) n)) ≡ known.log (knows t)
        → events_of_hand client o known u ≡ events_of_hand client o known t
    mark_event t u n made none =
        let e : Entry = marks (applied_word_of client o) n in
        step_event hand t u e made none
        ∙ (ap (λ (es : List (WriterEvent U R)). events_of_hand client o known t ++ es) (no_answer {U = U} {R = R} (known.is_idle (knows t)) e.opens e.step (λ r z. cc)) ∙ append-nil (events_of_hand client o known t))

    -- a step of `answered` by the writer between two updates, which answers nothing
    pub asked_event : (t u : Token (Signals C)) (r n : ℕ) → r < readers o → u ≡ adding t (asks (answered_word_of client o r) r n ∷ []) → known.is_idle (knows t) ≡ true
        → known.log (known.next (knows t) (asks (answered_word_of client o r) r n)) ≡ known.log (knows t) → events_of_hand client o known u ≡ events_of_hand client o known t ++ Told r n ∷ []
    asked_event t u r n low made idle none =
        let e : Entry = asks (answered_word_of client o r) r n in
        let test : (14 == 14) && ((answered_word_of client o r == answered_word_of client o r) && nat_lt r (readers o)) ≡ true = (λ i. eq-eqb 14 14 refl i && (eq-eqb (answered_word_of client o r) (answered_word_of client o r) refl i && less r (readers o) low i)) in
        step_event hand t u e made none ∙ (ap (λ (g : Bool). events_of_hand client o known t ++ answered_event client o g e.opens e.step) idle ∙ ap (λ (c : Bool). events_of_hand client o known t ++ cond {A = List (WriterEvent U R)} c (Told r n ∷ []) []) test)
      where
        less : (a c : ℕ) → a < c → nat_lt a c ≡ true
        less a c h = grind (arith, nat_tests)

    -- where the answers and the log only grow
    module _ (grows : (s : S) (e : Entry) → (more : List (Q × A)) × (known.answers (known.next s e) ≡ known.answers s ++ more)) where
      -- entries that are none of `reached` add what they answer
      pub answers_are_events : (t u : Token (Signals C)) (es : List Entry) (new : List (Q × A)) → u ≡ adding t es → AreSilent es → known.answers (knows u) ≡ known.answers (knows t) ++ new
          → events_of_pass client o known u ≡ events_of_pass client o known t ++ answer_events new
      answers_are_events = items_are_events pass grows IsSilent (λ s. no_event (known.is_out s))

      -- and where they answer nothing, nothing
      pub no_events : (t u : Token (Signals C)) (es : List Entry) → u ≡ adding t es → AreSilent es → known.answers (knows u) ≡ known.answers (knows t) → events_of_pass client o known u ≡ events_of_pass client o known t
      no_events t u es made silent same = answers_are_events t u es [] made silent (same ∙ sym (append-nil (known.answers (knows t)))) ∙ append-nil (events_of_pass client o known t)

    module _ (grows : (s : S) (e : Entry) → (more : List (U × R)) × (known.log (known.next s e) ≡ known.log s ++ more)) where
      -- entries that are none of `answered` add the updates that they answer
      pub updates_are_events : (t u : Token (Signals C)) (es : List Entry) (new : List (U × R)) → u ≡ adding t es → AreQuiet es → known.log (knows u) ≡ known.log (knows t) ++ new
          → events_of_hand client o known u ≡ events_of_hand client o known t ++ update_events new
      updates_are_events = items_are_events hand grows (λ (e : Entry). OpensNone e.opens) (λ s e. no_answer (known.is_idle s) e.opens e.step)
