-- The stores in a region that isn't published yet, and the store of its root.
use Rattle.std.proofs.Common.{◌≡◌, ◌≢◌, ℕ, suc, ◌+◌, ◌<◌, ◌≤◌, ◌⊎◌, ⊎_elim, inl, inr, refl, sym, ap, ◌∙◌, subst, arith, Bool, cond, eq-eqb, ne_eqb, List, length, set, get_or-set_other, get_or-set_same, length-set}
use mathlib.Core.Logic.{dite}
use native.Mathlib.Decide.{ℕ_discrete}
use Rattle.ck_slots.specs.Slots.{Order, SlotsView, Holds}
use Rattle.ck_htlaw.specs.Stages.{Stage, idle, clearing, copying, retiring, retiring_at_end, after_rebuild, Maps, IsMap, IsOld, IsApart, IsPut, Knows, parts, NoneFull}
use Rattle.ck_htlaw.specs.Look.{LookState, counted, IsSince, IsHalf, LookInvariant}
use Rattle.ck_htlaw.specs.Table.{Layout, column, view, count, WriterState, cleared}
use Rattle.ck_htlaw.specs.Invariant.{IsDisjoint, IsRegion, IsNewRegion, IsUnpublished, IsPair, owed, SeesPresent, SeesReplaced, WriterInvariant}
use Rattle.ck_htlaw.proofs.Maps.{remaps}
use Rattle.ck_htlaw.proofs.Readers.{IsKept, reader_kept}
use Rattle.ck_htlaw.proofs.Words.{column_put, view_far, count_stays, root_stays, view_apart, agree_set, long_set}
use Rattle.ck_htlaw.proofs.WriterSteps.{Preserves, kept_maps, writer_step}
use Rattle.ck_htlaw.proofs.UpdateSteps.{map_at, bumps_at}
use Rattle.ck_htlaw.proofs.Parts.{parts_skip, parts_all, blank}

-- no update of the present region is in progress
abbrev pub IsCalm : Stage → Type 0
IsCalm idle = Unit {0}
IsCalm (clearing c root i) = Unit {0}
IsCalm (copying c root j g) = Unit {0}
IsCalm (retiring a c) = Unit {0}
IsCalm (retiring_at_end a) = Unit {0}
IsCalm (after_rebuild c) = Unit {0}
IsCalm g = ⊥

-- then no key stands twice, no slot is being filled, there is nothing else to know, and no rise is owed
abbrev IsAtRest : Stage → Type 0
IsAtRest g = ((k s : ℕ) → IsOld g k s → ⊥) × ((o : Order) (r q k i : ℕ) → IsHalf o g r q k i → ⊥) × ((s : ℕ) → IsApart g s) × ((o : Order) (v : SlotsView) (maps : Maps) (q : ℕ) → Knows o v maps q g) × (owed g ≡ 0)

idle_rests : IsAtRest idle
idle_rests = ((λ k s z. z), (λ o r q k i z. z), (λ s. tt), (λ o v maps q. tt), refl)

at_rest : (g : Stage) → IsCalm g → IsAtRest g
at_rest idle c = idle_rests
at_rest (clearing a b i) c = idle_rests
at_rest (copying a b j s) c = idle_rests
at_rest (retiring a b) c = idle_rests
at_rest (retiring_at_end a) c = idle_rests
at_rest (after_rebuild a) c = idle_rests
at_rest g c = absurd c

-- so what holds of the words and of a reader at one such stage holds at another
module _ (o : Order) (v : SlotsView) (maps : Maps) (q : ℕ) (g g' : Stage) (c : IsCalm g) (c' : IsCalm g') where
  pub calm_map : IsMap o v maps q g → IsMap o v maps q g'
  calm_map h = let old = (at_rest g c).0 in record {
    hole = h.hole;
    way = h.way;
    present = λ k s x. ⊎_elim (λ (z : IsOld g k s). absurd (old k s z)) (λ (is : maps q k ≡ suc (v.value s)). inr is) (h.present k s x);
    some_slot = λ k x is. let f = h.some_slot k x is in (f.0, f.1, (at_rest g' c').0 k f.0);
    once = λ k s t x y. ⊎_elim (λ (is : s ≡ t). inl is) (λ (two : IsOld g k s ⊎ IsOld g k t). absurd (⊎_elim (old k s) (old k t) two)) (h.once k s t x y);
    keyed = h.keyed;
    states = h.states;
    knows = (at_rest g' c').3 o v maps q;
  }

  calm_kept : (r : ℕ) → IsKept o v v maps maps q q g g' r
  calm_kept r = record {
    since = λ k x s. s;
    ahead = λ k i. ⊎_elim (λ (a : IsSince maps r q k 0). inl a) (λ (a : ((s : ℕ) → Holds o v k s → i ≤ o.step k s) ⊎ IsHalf o g r q k i).
        ⊎_elim (λ (b : (s : ℕ) → Holds o v k s → i ≤ o.step k s). inr (inl b)) (λ (b : IsHalf o g r q k i). absurd ((at_rest g c).1 o r q k i b)) a);
    stable = λ s x. record { state = x.state; apart = (at_rest g' c').2 s };
    low = λ s x. refl;
    high = λ s x. refl;
    justified = λ k s x law. law;
  }

  calm_reader : (r now : ℕ) (look_state : LookState) → LookInvariant o v maps q g now r look_state → LookInvariant o v maps q g' now r look_state
  calm_reader r = reader_kept o v v maps maps q q g g' r (calm_kept r) (omega arith)

module _ (l : Layout) (ws : List ℕ) (p : WriterState) (h : WriterInvariant l ws p) where
  abbrev o : Order
  o = l.order p.root

  abbrev v : SlotsView
  v = view l ws p.root

  -- one calm stage for another
  pub turns_calm_log : (Free : ℕ → Type 0) (g g' : Stage) (log' : ℕ) → p.log ≤ log' → p.stage ≡ g → IsCalm g → IsCalm g' → IsUnpublished l ws p.root g' → Preserves l Free ws p ws record p { stage = g'; log = log' }
  turns_calm_log Free g g' log' up e c c' hid = let z = bumps_at l Free ws p h g e in let a = (at_rest g c).4 in let a' = (at_rest g' c').4 in
      writer_step l Free ws p h ws p.words g' p.maps p.linearized log' p.bumps refl h.root h.words h.long (calm_map o v p.maps p.linearized g g' c c' (map_at l Free ws p h g e)) (omega arith) hid (omega arith) (λ j k b. refl)
      (λ r look_state x. calm_reader o v p.maps p.linearized g g' c c' r (count l ws p.root) look_state (subst (λ (s : Stage). LookInvariant o v p.maps p.linearized s (count l ws p.root) r look_state) e x))
      (λ a look_state x. x) (omega arith) (λ root x d _. (refl, refl))

  pub turns_calm : (Free : ℕ → Type 0) (g g' : Stage) → p.stage ≡ g → IsCalm g → IsCalm g' → IsUnpublished l ws p.root g' → Preserves l Free ws p ws record p { stage = g' }
  turns_calm Free g g' e c c' hid = turns_calm_log Free g g' p.log (omega arith) e c c' hid

  -- the region that is being built
  module _ (root : ℕ) (fresh : IsNewRegion l ws p.root root) where
    abbrev o' : Order
    o' = l.order root

    abbrev v' : SlotsView
    v' = view l ws root

    abbrev Free : ℕ → Type 0
    Free = λ other. IsDisjoint l other root

    pub hidden_step : (s j x : ℕ) (g g' : Stage) → p.stage ≡ g → IsCalm g → IsCalm g' → s < o'.slots → j < 4 → IsUnpublished l (set ws (l.word root s j) x) p.root g'
        → Preserves l Free ws p (set ws (l.word root s j) x) record p { stage = g'; words = set p.words (l.word root s j) x }
    hidden_step s j x g g' e c c' inside b hid = let ws' : List ℕ = set ws (l.word root s j) x in let z = bumps_at l Free ws p h g e in let a = (at_rest g c).4 in let a' = (at_rest g' c').4 in
        let n : (other : ℕ) → l.counter other < l.slots_from → count l ws' other ≡ count l ws other = λ other low. count_stays l ws root fresh.region s x inside j other b low in
        let same : view l ws' p.root ≡ v = view_apart l ws p.root root s j x fresh.before inside b in
        writer_step l Free ws p h ws' (set p.words (l.word root s j) x) g' p.maps p.linearized p.log p.bumps (length-set ws (l.word root s j) x) (root_stays l ws root fresh.region s x inside j b ∙ h.root) (agree_set l ws p.words h.words h.long h.fits (l.word root s j) x) (long_set ws p.words (l.word root s j) x h.long)
        (subst (λ (u : SlotsView). IsMap o u p.maps p.linearized g') (sym same) (calm_map o v p.maps p.linearized g g' c c' (map_at l Free ws p h g e))) (omega arith) hid (omega arith) (λ j k b. refl)
        (λ r look_state y. subst (λ (u : SlotsView × ℕ). LookInvariant o u.0 p.maps p.linearized g' u.1 r look_state) (λ i. (sym same i, sym (n p.root h.region.counter_low) i))
        (calm_reader o v p.maps p.linearized g g' c c' r (count l ws p.root) look_state (subst (λ (s : Stage). LookInvariant o v p.maps p.linearized s (count l ws p.root) r look_state) e y)))
        (λ a look_state y. subst (λ (u : ℕ). a + u ≤ p.bumps + counted u look_state) (sym (n p.root h.region.counter_low)) y) (omega arith)
        (λ other y d free. (view_apart l ws other root s j x free inside b, n other y.counter_low))

    new_stays : (s j x : ℕ) → IsNewRegion l (set ws (l.word root s j) x) p.root root
    new_stays s j x = record { region = subst (λ (n : ℕ). IsRegion l n root) (sym (length-set ws (l.word root s j) x)) fresh.region; before = fresh.before; after = fresh.after }

    -- a slot is cleared
    pub clear_step : (call : List ℕ) (i : ℕ) (g : Stage) → p.stage ≡ g → IsCalm g → i < o'.slots → ((s : ℕ) → s < i → v'.state s ≡ 0)
        → Preserves l Free ws p (set ws (l.word root i 0) 0) record p { stage = cleared l call root (suc i); words = set p.words (l.word root i 0) 0 }
    clear_step call i g e c inside clear = let ws' : List ℕ = set ws (l.word root i 0) 0 in
        let put : IsPut v'.state (column l ws' root 0) i 0 = column_put l ws root fresh.region i 0 inside 0 (omega arith) in
        let clear' : (s : ℕ) → s < suc i → (view l ws' root).state s ≡ 0 = λ s b. dite (ℕ_discrete s i) (λ (z : s ≡ i). ap (column l ws' root 0) z ∙ put.here) (λ (n : s ≢ i). put.others s n ∙ clear s (omega arith)) in
        let P : Bool → Type 0 = λ b. Preserves l Free ws p ws' record p { stage = cond b (copying call root 0 idle) (clearing call root (suc i)); words = set p.words (l.word root i 0) 0 } in
        dite (ℕ_discrete (suc i) o'.slots)
        (λ (z : suc i ≡ o'.slots). subst P (sym (eq-eqb (suc i) o'.slots z)) (hidden_step i 0 0 g (copying call root 0 idle) e c tt inside (omega arith)
        (new_stays i 0 0, blank o' (view l ws' root) (parts (l.order p.root) (view l ws' p.root)) fresh.region.some_slot (λ s b. clear' s (omega arith)) (λ k. refl), tt)))
        (λ (n : suc i ≢ o'.slots). subst P (sym (ne_eqb (suc i) o'.slots n)) (hidden_step i 0 0 g (clearing call root (suc i)) e c tt inside (omega arith) (new_stays i 0 0, omega arith, clear')))

    -- a word of a pair is copied
    pub copy_step : (call : List ℕ) (s j x i : ℕ) (g t : Stage) (u : SlotsView) → p.stage ≡ g → IsCalm g → s < o'.slots → j < 4 → u ≡ view l (set ws (l.word root s j) x) root → IsMap o' u (parts o v) i t → IsPair o v i t
        → Preserves l Free ws p (set ws (l.word root s j) x) record p { stage = copying call root i t; words = set p.words (l.word root s j) x }
    copy_step call s j x i g t u e c inside b is map pair = let ws' : List ℕ = set ws (l.word root s j) x in
        let same : view l ws' p.root ≡ v = view_apart l ws p.root root s j x fresh.before inside b in
        hidden_step s j x g (copying call root i t) e c tt inside b
        (new_stays s j x, subst (λ (z : SlotsView × SlotsView). IsMap o' z.0 (parts o z.1) i t) (λ y. (is y, sym same y)) map, subst (λ (z : SlotsView). IsPair o z i t) (sym same) pair)

    -- the store of the root
    pub publish_step : (g g' : Stage) (maps' : Maps) (placed' log' j : ℕ) → p.stage ≡ g → IsCalm g → IsCalm g' → IsUnpublished l (set ws l.base root) root g' → IsMap o' v' (parts o v) j idle → j ≤ o.slots → NoneFull v j o.slots
        → p.linearized ≤ placed' → ((i k : ℕ) → i ≤ p.linearized → maps' i k ≡ p.maps i k) → ((k : ℕ) → maps' placed' k ≡ p.maps p.linearized k) → p.log ≤ log'
        → Preserves l Free ws p (set ws l.base root) record p { root = root; stage = g'; words = set p.words l.base root; maps = maps'; linearized = placed'; log = log' }
    publish_step g g' maps' placed' log' j e c c' hid map le none more same here up =
        let ws' : List ℕ = set ws l.base root in
        let long : length ws' ≡ length ws = length-set ws l.base root in
        let views : (other : ℕ) → IsRegion l (length ws) other → view l ws' other ≡ view l ws other = λ other y. view_far l ws other l.base root (λ t i b bi. y.off_root t i b bi) in
        let counts : (other : ℕ) → IsRegion l (length ws) other → count l ws' other ≡ count l ws other = λ other y. get_or-set_other ws l.base (l.counter other) root 0 y.counter_off_root in
        let old : IsMap o v p.maps p.linearized idle = calm_map o v p.maps p.linearized g idle c tt (map_at l Free ws p h g e) in
        let z = bumps_at l Free ws p h g e in let a = (at_rest g c).4 in let a' = (at_rest g' c').4 in
        let whole : (k : ℕ) → maps' placed' k ≡ parts o v j k = λ k. here k ∙ (sym (parts_all o h.region.ok v p.maps p.linearized old k) ∙ parts_skip o h.region.ok v j o.slots k le (omega arith) none) in
        let new : IsMap o' v' maps' placed' idle = remaps o' v' (parts o v) j maps' placed' whole map in
        record {
          writer_state = record {
            words = agree_set l ws p.words h.words h.long h.fits l.base root;
            long = long_set ws p.words l.base root h.long;
            fits = let b = h.fits in omega arith;
            some_word = h.some_word;
            root = get_or-set_same ws l.base root 0 (let b = h.fits in let d = h.some_word in omega arith);
            region = subst (λ (n : ℕ). IsRegion l n root) (sym long) fresh.region;
            map = subst (λ (u : SlotsView). IsMap o' u maps' placed' g') (sym (views root fresh.region)) (calm_map o' v' maps' placed' idle g' tt c' new);
            bumps = omega arith;
            hidden = hid;
          };
          readers = λ r y free reader_state. record {
            retries = reader_state.retries;
            looks = λ not_out. ⊎_elim
                (λ (cur : SeesPresent l ws p r y). inr (subst (λ (n : ℕ). SeesReplaced l ws' record p { root = root; stage = g'; words = set p.words l.base root; maps = maps'; linearized = placed'; log = log' } r record y { root = n }) (sym cur.root) record {
                  region = subst (λ (n : ℕ). IsRegion l n p.root) (sym long) h.region;
                  apart = fresh.before;
                  place = p.linearized;
                  past = more;
                  map = subst (λ (u : SlotsView). IsMap o u maps' p.linearized idle) (sym (views p.root h.region)) (remaps o v p.maps p.linearized maps' p.linearized (λ k. same p.linearized k (omega arith)) old);
                  is_reader = subst (λ (u : SlotsView × ℕ). LookInvariant o u.0 maps' p.linearized idle u.1 r y.look_state) (λ i. (sym (views p.root h.region) i, sym (counts p.root h.region) i))
                      (reader_kept o v v p.maps maps' p.linearized p.linearized idle idle r (kept_maps o v p.maps maps' p.linearized p.linearized r same (omega arith)) (omega arith) (count l ws p.root) y.look_state
                      (calm_reader o v p.maps p.linearized g idle c tt r (count l ws p.root) y.look_state (subst (λ (s : Stage). LookInvariant o v p.maps p.linearized s (count l ws p.root) r y.look_state) e cur.is_reader)));
                  retries = subst (λ (n : ℕ). y.retries + n ≤ p.bumps + counted n y.look_state) (sym (counts p.root h.region)) cur.retries;
                }))
                (λ (f : SeesReplaced l ws p r y). let past = f.past in let same' : (i k : ℕ) → i ≤ f.place → maps' i k ≡ p.maps i k = λ i k b. same i k (omega arith) in inr record {
                  region = subst (λ (n : ℕ). IsRegion l n y.root) (sym long) f.region;
                  apart = free not_out;
                  place = f.place;
                  past = omega arith;
                  map = subst (λ (u : SlotsView). IsMap (l.order y.root) u maps' f.place idle) (sym (views y.root f.region)) (remaps (l.order y.root) (view l ws y.root) p.maps f.place maps' f.place (λ k. same' f.place k (omega arith)) f.map);
                  is_reader = subst (λ (u : SlotsView × ℕ). LookInvariant (l.order y.root) u.0 maps' f.place idle u.1 r y.look_state) (λ i. (sym (views y.root f.region) i, sym (counts y.root f.region) i))
                      (reader_kept (l.order y.root) (view l ws y.root) (view l ws y.root) p.maps maps' f.place f.place idle idle r (kept_maps (l.order y.root) (view l ws y.root) p.maps maps' f.place f.place r same' (omega arith)) (omega arith) (count l ws y.root) y.look_state f.is_reader);
                  retries = subst (λ (n : ℕ). y.retries + n ≤ p.bumps + counted n y.look_state) (sym (counts y.root f.region)) f.retries;
                }) (reader_state.looks not_out);
          };
        }
