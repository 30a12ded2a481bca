-- Placed answers of the lines of a script are legal.
use Rattle.std.proofs.Common.{◌≡◌, ℕ, zero, suc, ◌+◌, ◌-◌, ◌<◌, ◌≤◌, ◌==◌, ◌&&◌, nat_le, min, max, Bool, true, false, List, [], ◌∷◌, ◌++◌, length, map, get_or, Some, refl, sym, ap, subst, ◌∙◌, append_assoc, zero-add, arith}
use Rattle.std.specs.Prelude.{slice_get, if◌then◌else◌}
use Rattle.std.proofs.lemmas.Bool.Decides.{nat_tests}
use Rattle.ck_history.specs.Events.{updates_in, replies_in}
use Rattle.ck_history.specs.Places.{ArePlacedAt, AreUpTo, AreBoundedFrom}
use Rattle.ck_history.specs.Legal.{ArePlaced, AreLegal, AllLegal}
use Rattle.ck_script.specs.declared.line.Numbered.{Numbered}
use Rattle.ck_script.specs.declared.line.UpLine.{UpLine}
use Rattle.ck_script.specs.declared.line.UpLine.TheVariants.{Call, Hold}
use Rattle.ck_script.specs.declared.line.AskLine.{AskLine}
use Rattle.ck_script.specs.declared.line.AskLine.TheVariants.{Ask, Wait}
use Rattle.ck_script.specs.Script.{said_of, updates, holds, HoldLine, queries, greatest, bounded, bounded_files}
use Rattle.ck_history.specs.declared.event.WriterEvent.{WriterEvent}
use Rattle.ck_history.specs.declared.event.WriterEvent.TheVariants.{Updated, Told}
use Rattle.ck_history.specs.declared.event.ReaderEvent.{ReaderEvent}
use Rattle.ck_history.specs.declared.event.ReaderEvent.TheVariants.{Answered}
use Rattle.ck_pool.specs.Runs.{short_loads, final_load, QueryLineRan, QueriesRan, answer_loads, UpdateLineRan, UpdatesRan}
use Rattle.ck_pool.specs.Meaning.{EyeMeaning}
use Rattle.ck_pool.specs.Places.{AreUnused, AllPlaced}
use Rattle.ck_pool.specs.Served.{AreServed}

-- what each `hold` line asks for: the places of the first answers of its file are at most the number of updates before it
abbrev pub HoldsKept : (ℕ → List ℕ) → List HoldLine → Type 0
HoldsKept places [] = Unit {0}
HoldsKept places (h ∷ hs) = AreUpTo h.count h.after (places (h.file - 1)) × HoldsKept places hs

-- numbers that don't fall, none below the first
abbrev Climbs : ℕ → List ℕ → Type 0
Climbs least [] = Unit {0}
Climbs least (p ∷ ps) = (least ≤ p) × Climbs p ps

climbs_above : (least : ℕ) (ps : List ℕ) (i d : ℕ) → Climbs least ps → i < length ps → least ≤ get_or ps i d
climbs_above least [] i d h lt = absurd (omega arith)
climbs_above least (p ∷ ps) zero d h lt = h.0
climbs_above least (p ∷ ps) (suc i) d h lt = let a = climbs_above p ps i d h.1 (omega arith) in let b = h.0 in omega arith

climbs_rise : (least : ℕ) (ps : List ℕ) (i j d : ℕ) → Climbs least ps → i ≤ j → j < length ps → get_or ps i d ≤ get_or ps j d
climbs_rise least [] i j d h le lt = absurd (omega arith)
climbs_rise least (p ∷ ps) zero zero d h le lt = omega arith
climbs_rise least (p ∷ ps) zero (suc j) d h le lt = climbs_above p ps j d h.1 (omega arith)
climbs_rise least (p ∷ ps) (suc i) zero d h le lt = absurd (omega arith)
climbs_rise least (p ∷ ps) (suc i) (suc j) d h le lt = climbs_rise p ps i j d h.1 (omega arith) (omega arith)

climbs_lower : (least more : ℕ) (ps : List ℕ) → least ≤ more → Climbs more ps → Climbs least ps
climbs_lower least more [] le h = tt
climbs_lower least more (p ∷ ps) le h = (let a = h.0 in omega arith, h.1)

-- the least of the bounds that the `hold` lines set is kept, where each is
bound_kept : (places : ℕ → List ℕ) (f i p : ℕ) (h : HoldLine) (rest : ℕ) (b : Bool) → ((h.file == f + 1) && nat_le (i + 1) h.count) ≡ b → AreUpTo h.count h.after (places (h.file - 1)) → slice_get (places f) i ≡ Some p → p ≤ rest
    → p ≤ (if b then min h.after rest else rest)
bound_kept places f i p h rest true is kept here le =
    let file : h.file ≡ f + 1 = grind (arith, nat_tests) in
    let count : i + 1 ≤ h.count = grind (arith, nat_tests) in
    let same : h.file - 1 ≡ f = omega arith in
    let there : slice_get (places (h.file - 1)) i ≡ Some p = ap (λ (k : ℕ). slice_get (places k) i) same ∙ here in
    let under : p ≤ h.after = kept i p (omega arith) there in
    omega arith
bound_kept places f i p h rest false is kept here le = le

greatest_kept : (places : ℕ → List ℕ) (all f i p : ℕ) (hs : List HoldLine) → HoldsKept places hs → slice_get (places f) i ≡ Some p → p ≤ all → p ≤ greatest all (f + 1) (i + 1) hs
greatest_kept places all f i p [] kept here le = le
greatest_kept places all f i p (h ∷ hs) kept here le = bound_kept places f i p h (greatest all (f + 1) (i + 1) hs) ((h.file == f + 1) && nat_le (i + 1) h.count) refl kept.0 here (greatest_kept places all f i p hs kept.1 here le)

-- the lines of a query file without their numbers
module _ {A B : Type 0} where
  abbrev QueriesSaid : List (AskLine A) → List (ReaderEvent A B) → List B → Type 0
  QueriesSaid [] ds bs = (ds ≡ []) × (bs ≡ [])
  QueriesSaid (l ∷ ls) ds bs = (d : List (ReaderEvent A B)) × (rest : List (ReaderEvent A B)) × (b : List B) × (more : List B) × (ds ≡ d ++ rest) × (bs ≡ b ++ more) × QueryLineRan l d b × QueriesSaid ls rest more

  asks_said : (ls : List (Numbered (AskLine A))) (ds : List (ReaderEvent A B)) (bs : List B) → QueriesRan ls ds bs → QueriesSaid (said_of ls) ds bs
  asks_said [] ds bs h = h
  asks_said (l ∷ ls) ds bs (d, rest, b, more, p, q, line, later) = (d, rest, b, more, p, q, line, asks_said ls rest more later)

-- of a list of places, those from the i-th on
abbrev Rest : List ℕ → ℕ → List ℕ → Type 0
Rest all i ps = (j p : ℕ) → slice_get ps j ≡ Some p → slice_get all (i + j) ≡ Some p

rest_next : (all : List ℕ) (i p : ℕ) (ps : List ℕ) → Rest all i (p ∷ ps) → Rest all (i + 1) ps
rest_next all i p ps h j q here = let same : i + suc j ≡ i + 1 + j = omega arith in ap (λ (k : ℕ). slice_get all k) (sym same) ∙ h (suc j) q here

rest_first : (all : List ℕ) (i p : ℕ) (ps : List ℕ) → Rest all i (p ∷ ps) → slice_get all i ≡ Some p
rest_first all i p ps h = let same : i + 0 ≡ i = omega arith in ap (λ (k : ℕ). slice_get all k) (sym same) ∙ h 0 p refl

rest_all : (ps : List ℕ) → Rest ps 0 ps
rest_all ps j p here = let same : 0 + j ≡ j = omega arith in ap (λ (k : ℕ). slice_get ps k) same ∙ here

module _ {A B : Type 0} (count : ℕ) (gives : ℕ → A → B) where
  -- loads that weren't met leave the places, and may raise the least
  past_short_loads : (least n : ℕ) (ms : List ℕ) (ds : List (ReaderEvent A B)) (ps : List ℕ) → ArePlacedAt count gives least (short_loads n ms ++ ds) ps → (raised : ℕ) × (least ≤ raised) × ArePlacedAt count gives raised ds ps
  past_short_loads least n [] ds ps h = (least, omega arith, h)
  past_short_loads least n (m ∷ ms) ds ps h = let r = past_short_loads (max least m) n ms ds ps h in let le = r.1 in (r.0, omega arith, r.2)

  module _ (places : ℕ → List ℕ) (hs : List HoldLine) (kept : HoldsKept places hs) (f : ℕ) where
    abbrev Placed : List (AskLine A) → List B → List ℕ → ℕ → ℕ → ℕ → Type 0
    Placed ls bs ps low least i = ArePlaced count gives (bounded count hs (f + 1) (i + 1) (queries low ls)) bs ps × Climbs least ps

    -- the lines of file f + 1 from its query i + 1 on
    lines_placed : (ls : List (AskLine A)) (ds : List (ReaderEvent A B)) (bs : List B) (ps : List ℕ) (low least i : ℕ) → low ≤ least → QueriesSaid ls ds bs → ArePlacedAt count gives least ds ps → Rest (places f) i ps → Placed ls bs ps low least i
    lines_placed [] ds bs [] low least i le (no_ds, no_bs) h rest = (rw no_bs tt, tt)
    lines_placed [] ds bs (p ∷ ps) low least i le (no_ds, no_bs) h rest = absurd (subst (λ (x : List (ReaderEvent A B)). ArePlacedAt count gives least x (p ∷ ps)) no_ds h)
    lines_placed (Ask key ∷ ls) ds bs [] low least i le (d, later, b, more, p, q, line, ran) h rest =
        absurd (subst (λ (x : List (ReaderEvent A B)). ArePlacedAt count gives least x []) (p ∙ ap (λ (x : List (ReaderEvent A B)). x ++ later) line.1) h)
    lines_placed (Ask key ∷ ls) ds bs (at ∷ ps) low least i le (d, later, b, more, p, q, line, ran) h rest =
        let now : ArePlacedAt count gives least (Answered key line.0 ∷ later) (at ∷ ps) = subst (λ (x : List (ReaderEvent A B)). ArePlacedAt count gives least x (at ∷ ps)) (p ∙ ap (λ (x : List (ReaderEvent A B)). x ++ later) line.1) h in
        let from : least ≤ at = now.0 in
        let within : at ≤ count = now.1.within in
        let next = lines_placed ls later more ps low at (i + 1) (omega arith) ran now.2 (rest_next (places f) i at ps rest) in
        let answers : bs ≡ line.0 ∷ more = q ∙ ap (λ (x : List B). x ++ more) line.2 in (
          rw answers (
            record {
              from = omega arith;
              to = greatest_kept places count f i at hs kept (rest_first (places f) i at ps rest) within;
              given = now.1;
            },
            next.0,
          ),
          (from, next.1),
        )
    lines_placed (Wait n ∷ ls) ds bs ps low least i le (d, later, b, more, p, q, line, ran) h rest =
        let ms = line.0 in
        let whole : ds ≡ short_loads n ms ++ (final_load n ∷ later) = p ∙ (ap (λ (x : List (ReaderEvent A B)). x ++ later) line.1 ∙ append_assoc (short_loads n ms) (final_load n ∷ []) later) in
        let past = past_short_loads least n ms (final_load n ∷ later) ps (subst (λ (x : List (ReaderEvent A B)). ArePlacedAt count gives least x ps) whole h) in
        let raised = past.0 in
        let up : least ≤ raised = past.1 in
        let next = lines_placed ls later more ps (max low n) (max raised n) i (omega arith) ran past.2 rest in
        let answers : bs ≡ more = q ∙ ap (λ (x : List B). x ++ more) line.2 in (
          rw answers next.0,
          climbs_lower least (max raised n) ps (omega arith) next.1,
        )

    -- the answers of file f + 1 are legal
    pub file_legal : (ls : List (Numbered (AskLine A))) (ds : List (ReaderEvent A B)) (bs : List B) → QueriesRan ls ds bs → ArePlacedAt count gives 0 ds (places f)
        → AreLegal count gives (bounded count hs (f + 1) 1 (queries 0 (said_of ls))) bs
    file_legal ls ds bs ran h =
        let placed = lines_placed (said_of ls) ds bs (places f) 0 0 0 (omega arith) (asks_said ls ds bs ran) h (rest_all (places f)) in
        record {
          places = places f;
          never_fall = λ i j d le lt. climbs_rise 0 (places f) i j d placed.1 le lt;
          placed = subst (λ (k : ℕ). ArePlaced count gives (bounded count hs (f + 1) k (queries 0 (said_of ls))) bs (places f)) (zero-add 1) placed.0;
        }

up_to_fewer : (n k m : ℕ) (ps : List ℕ) → n ≤ k → AreUpTo k m ps → AreUpTo n m ps
up_to_fewer n k m ps le h i p lt here = h i p (omega arith) here

-- the update file
module _ {C R : Type 0} where
  abbrev UpdatesSaid : List (UpLine C) → List (WriterEvent C R) → List R → Type 0
  UpdatesSaid [] ds rs = (ds ≡ []) × (rs ≡ [])
  UpdatesSaid (l ∷ ls) ds rs = (d : List (WriterEvent C R)) × (rest : List (WriterEvent C R)) × (r : List R) × (more : List R) × (ds ≡ d ++ rest) × (rs ≡ r ++ more) × UpdateLineRan l d r × UpdatesSaid ls rest more

  updates_said : (ls : List (Numbered (UpLine C))) (ds : List (WriterEvent C R)) (rs : List R) → UpdatesRan ls ds rs → UpdatesSaid (said_of ls) ds rs
  updates_said [] ds rs h = h
  updates_said (l ∷ ls) ds rs (d, rest, r, more, p, q, line, later) = (d, rest, r, more, p, q, line, updates_said ls rest more later)

  answer_loads_calls : (reader : ℕ) (ms : List ℕ) (ds : List (WriterEvent C R)) → updates_in (answer_loads reader ms ++ ds) ≡ updates_in ds
  answer_loads_calls reader [] ds = refl
  answer_loads_calls reader (m ∷ ms) ds = answer_loads_calls reader ms ds

  answer_loads_replies : (reader : ℕ) (ms : List ℕ) (ds : List (WriterEvent C R)) → replies_in (answer_loads reader ms ++ ds) ≡ replies_in ds
  answer_loads_replies reader [] ds = refl
  answer_loads_replies reader (m ∷ ms) ds = answer_loads_replies reader ms ds

  answer_loads_kept : (places : ℕ → List ℕ) (m reader : ℕ) (ms : List ℕ) (ds : List (WriterEvent C R)) → AreBoundedFrom places m (answer_loads reader ms ++ ds) → AreBoundedFrom places m ds
  answer_loads_kept places m reader [] ds h = h
  answer_loads_kept places m reader (k ∷ ms) ds h = answer_loads_kept places m reader ms ds h.1

  -- the calls that were made are those of the lines, in order, and the replies are theirs
  calls_said : (ls : List (UpLine C)) (ds : List (WriterEvent C R)) (rs : List R) → UpdatesSaid ls ds rs → (updates ls ≡ updates_in ds) × (rs ≡ replies_in ds)
  calls_said [] ds rs (no_ds, no_rs) = (ap updates_in (sym no_ds), no_rs ∙ ap replies_in (sym no_ds))
  calls_said (Call c ∷ ls) ds rs (d, rest, r, more, p, q, line, later) =
      let next = calls_said ls rest more later in
      let whole : ds ≡ Updated c line.0 ∷ rest = p ∙ ap (λ (x : List (WriterEvent C R)). x ++ rest) line.1 in
      let replies : rs ≡ line.0 ∷ more = q ∙ ap (λ (x : List R). x ++ more) line.2 in (
        ap (λ (x : List C). c ∷ x) next.0 ∙ ap updates_in (sym whole),
        replies ∙ (ap (λ (x : List R). line.0 ∷ x) next.1 ∙ ap replies_in (sym whole)),
      )
  calls_said (Hold file n ∷ ls) ds rs (d, rest, r, more, p, q, line, later) =
      let next = calls_said ls rest more later in
      let reader = file - 1 in
      let whole : ds ≡ answer_loads reader line.0 ++ (answer_loads reader (line.1 ∷ []) ++ rest) = p ∙ (ap (λ (x : List (WriterEvent C R)). x ++ rest) line.2 ∙ append_assoc (answer_loads reader line.0) (answer_loads reader (line.1 ∷ [])) rest) in
      let replies : rs ≡ more = q ∙ ap (λ (x : List R). x ++ more) line.5 in (
        next.0 ∙ sym (ap updates_in whole ∙ answer_loads_calls reader line.0 (answer_loads reader (line.1 ∷ []) ++ rest)),
        replies ∙ (next.1 ∙ sym (ap replies_in whole ∙ answer_loads_replies reader line.0 (answer_loads reader (line.1 ∷ []) ++ rest))),
      )

  -- each `hold` line is kept
  holds_said : (places : ℕ → List ℕ) (m : ℕ) (ls : List (UpLine C)) (ds : List (WriterEvent C R)) (rs : List R) → UpdatesSaid ls ds rs → AreBoundedFrom places m ds → HoldsKept places (holds m ls)
  holds_said places m [] ds rs ran kept = tt
  holds_said places m (Call c ∷ ls) ds rs (d, rest, r, more, p, q, line, later) kept =
      let whole : ds ≡ Updated c line.0 ∷ rest = p ∙ ap (λ (x : List (WriterEvent C R)). x ++ rest) line.1 in
      holds_said places (m + 1) ls rest more later (subst (λ (x : List (WriterEvent C R)). AreBoundedFrom places m x) whole kept)
  holds_said places m (Hold file n ∷ ls) ds rs (d, rest, r, more, p, q, line, later) kept =
      let reader = file - 1 in
      let whole : ds ≡ answer_loads reader line.0 ++ (answer_loads reader (line.1 ∷ []) ++ rest) = p ∙ (ap (λ (x : List (WriterEvent C R)). x ++ rest) line.2 ∙ append_assoc (answer_loads reader line.0) (answer_loads reader (line.1 ∷ [])) rest) in
      let now : AreBoundedFrom places m (Told reader line.1 ∷ rest) = answer_loads_kept places m reader line.0 (Told reader line.1 ∷ rest) (subst (λ (x : List (WriterEvent C R)). AreBoundedFrom places m x) whole kept) in
      (up_to_fewer n line.1 m (places reader) line.4 now.0, holds_said places m ls rest more later now.1)

  pub calls_ran : (ls : List (Numbered (UpLine C))) (ds : List (WriterEvent C R)) (rs : List R) → UpdatesRan ls ds rs → (updates (said_of ls) ≡ updates_in ds) × (rs ≡ replies_in ds)
  calls_ran ls ds rs ran = calls_said (said_of ls) ds rs (updates_said ls ds rs ran)

  pub holds_ran : (places : ℕ → List ℕ) (ls : List (Numbered (UpLine C))) (ds : List (WriterEvent C R)) (rs : List R) → UpdatesRan ls ds rs → AreBoundedFrom places 0 ds → HoldsKept places (holds 0 (said_of ls))
  holds_ran places ls ds rs ran kept = holds_said places 0 (said_of ls) ds rs (updates_said ls ds rs ran) kept

-- all files
module _ {E A B : Type 0} (meaning : EyeMeaning E A B) (count : ℕ) (gives : ℕ → A → B) (places : ℕ → List ℕ) (hs : List HoldLine) (kept : HoldsKept places hs) where
  pub files_legal : (f : ℕ) (es : List E) (asks : List (List (Numbered (AskLine A)))) (es' : List E) (bss : List (List B)) → AreUnused meaning es → AreServed meaning es asks es' bss → AllPlaced meaning count gives places f es'
      → AllLegal count gives (bounded_files count hs (f + 1) (map said_of asks)) bss
  files_legal f [] [] [] [] unused served placed = tt
  files_legal f [] [] [] (bs ∷ bss) unused served placed = absurd served
  files_legal f [] [] (e' ∷ es') bss unused served placed = absurd served
  files_legal f [] (a ∷ asks) es' bss unused served placed = absurd served
  files_legal f (e ∷ es) [] es' bss unused served placed = absurd served
  files_legal f (e ∷ es) (a ∷ asks) [] bss unused served placed = absurd served
  files_legal f (e ∷ es) (a ∷ asks) (e' ∷ es') [] unused served placed = absurd served
  files_legal f (e ∷ es) (a ∷ asks) (e' ∷ es') (bs ∷ bss) unused served placed =
      let one = served.0 in
      let all : meaning.done e' ≡ one.events = one.grown ∙ ap (λ (x : List (ReaderEvent A B)). x ++ one.events) unused.0 in
      let here : ArePlacedAt count gives 0 one.events (places f) = subst (λ (x : List (ReaderEvent A B)). ArePlacedAt count gives 0 x (places f)) all placed.0 in (
        file_legal count gives places hs kept f a one.events bs one.ran here,
        files_legal (f + 1) es asks es' bss unused.1 served.1 placed.1,
      )
