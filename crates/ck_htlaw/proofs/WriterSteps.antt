-- The writer's steps on the present region keep what holds of the table.
use Rattle.std.proofs.Common.{◌≡◌, ℕ, suc, ◌+◌, ◌*◌, ◌<◌, ◌≤◌, ◌⊎◌, ⊎_elim, inl, inr, refl, sym, ap, ◌∙◌, subst, arith, List, length, set, get_or, get_or-set_other, get_or-set_same, length-set}
use Rattle.ck_slots.specs.Slots.{Order, SlotsView, Holds}
use Rattle.ck_htlaw.specs.Stages.{Stage, idle, Maps, IsMap}
use Rattle.ck_htlaw.specs.Look.{LookState, no_look, at_version, at_state, at_low, at_high, at_value, checking_value, checking_absence, IsSince, counted, LookInvariant}
use Rattle.ck_htlaw.specs.Table.{Layout, view, count, WriterState, ReaderState}
use Rattle.ck_htlaw.specs.Invariant.{IsDisjoint, IsRegion, IsOwn, IsUnpublished, owed, SeesPresent, SeesReplaced, ReaderInvariant, WriterInvariant}
use Rattle.ck_htlaw.proofs.Maps.{remaps}
use Rattle.ck_htlaw.proofs.Readers.{IsKept, since_more, reader_kept, look_bumped}
use Rattle.ck_htlaw.proofs.Words.{count_stays, root_stays, view_apart, view_counter, agree_set, long_set}

-- what a step of the writer takes to what
-- `Free` is known of the roots that readers look at
pub record Preserves (l : Layout) (Free : ℕ → Type 0) (ws : List ℕ) (p : WriterState) (ws' : List ℕ) (p' : WriterState) : Type 0 where
  pub writer_state : WriterInvariant l ws' p'
  pub readers : (r : ℕ) (y : ReaderState) → ((y.look_state ≡ no_look → ⊥) → Free y.root) → ReaderInvariant l ws p r y → ReaderInvariant l ws' p' r y

pub kept_maps : (o : Order) (v : SlotsView) (maps maps' : Maps) (q q' r : ℕ) → ((j k : ℕ) → j ≤ q → maps' j k ≡ maps j k) → q ≤ q' → IsKept o v v maps maps' q q' idle idle r
kept_maps o v maps maps' q q' r same le = let since : (k x : ℕ) → IsSince maps r q k x → IsSince maps' r q' k x = λ k x s. since_more maps maps' r q q' k x (λ p b. same p k b) le s in record {
  since = since;
  ahead = λ k i. ⊎_elim (λ (a : IsSince maps r q k 0). inl (since k 0 a)) (λ (a : ((s : ℕ) → Holds o v k s → i ≤ o.step k s) ⊎ ⊥). inr a);
  stable = λ s x. x;
  low = λ s x. refl;
  high = λ s x. refl;
  justified = λ k s x law a b. since k (suc (v.value s)) (law a b);
}

module _ (l : Layout) (Free : ℕ → Type 0) (ws : List ℕ) (p : WriterState) (h : WriterInvariant l ws p) where
  abbrev o : Order
  o = l.order p.root

  abbrev v : SlotsView
  v = view l ws p.root

  abbrev now : ℕ
  now = count l ws p.root

  pub writer_step : (ws' words' : List ℕ) (g' : Stage) (maps' : Maps) (placed' log' raises' : ℕ) → length ws' ≡ length ws → get_or ws' l.base 0 ≡ p.root → ((i : ℕ) → IsOwn l i → get_or ws' i 0 ≡ get_or words' i 0) → length words' ≡ length ws' → IsMap o (view l ws' p.root) maps' placed' g'
      → raises' ≤ 2 * log' + owed g' → IsUnpublished l ws' p.root g' → p.linearized ≤ placed' → ((j k : ℕ) → j ≤ p.linearized → maps' j k ≡ p.maps j k)
      → ((r : ℕ) (look_state : LookState) → LookInvariant o v p.maps p.linearized p.stage now r look_state → LookInvariant o (view l ws' p.root) maps' placed' g' (count l ws' p.root) r look_state)
      → ((a : ℕ) (look_state : LookState) → a + now ≤ p.bumps + counted now look_state → a + count l ws' p.root ≤ raises' + counted (count l ws' p.root) look_state) → p.bumps ≤ raises'
      → ((root : ℕ) → IsRegion l (length ws) root → IsDisjoint l root p.root → Free root → (view l ws' root ≡ view l ws root) × (count l ws' root ≡ count l ws root))
      → Preserves l Free ws p ws' record { root = p.root; stage = g'; words = words'; maps = maps'; linearized = placed'; log = log'; bumps = raises' }
  writer_step ws' words' g' maps' placed' log' raises' long root words long' map bumps hid le same turn again more far =
      let p' : WriterState = record { root = p.root; stage = g'; words = words'; maps = maps'; linearized = placed'; log = log'; bumps = raises' } in
      record {
        writer_state = record { words = words; long = long'; fits = let a = h.fits in omega arith; root = root; some_word = h.some_word; region = subst (λ (n : ℕ). IsRegion l n p.root) (sym long) h.region; map = map; bumps = bumps; hidden = hid };
        readers = λ r y free e. record {
          retries = let a = e.retries in omega arith;
          looks = λ not_out. ⊎_elim
              (λ (c : SeesPresent l ws p r y). inl record { root = c.root; is_reader = turn r y.look_state c.is_reader; retries = again y.retries y.look_state c.retries })
              (λ (f : SeesReplaced l ws p r y). let z = far y.root f.region f.apart (free not_out) in let past = f.past in
              let same' : (j k : ℕ) → j ≤ f.place → maps' j k ≡ p.maps j k = λ j k b. same j k (omega arith) in inr record {
                region = subst (λ (n : ℕ). IsRegion l n y.root) (sym long) f.region;
                apart = f.apart;
                place = f.place;
                past = omega arith;
                map = subst (λ (u : SlotsView). IsMap (l.order y.root) u maps' f.place idle) (sym z.0) (remaps (l.order y.root) (view l ws y.root) p.maps f.place maps' f.place (λ k. same' f.place k (omega arith)) f.map);
                is_reader = subst (λ (u : SlotsView × ℕ). LookInvariant (l.order y.root) u.0 maps' f.place idle u.1 r y.look_state) (λ i. (sym z.0 i, sym z.1 i))
                    (reader_kept (l.order y.root) (view l ws y.root) (view l ws y.root) p.maps maps' f.place f.place idle idle r (kept_maps (l.order y.root) (view l ws y.root) p.maps maps' f.place f.place r same' (omega arith)) (omega arith) (count l ws y.root) y.look_state f.is_reader);
                retries = subst (λ (n : ℕ). y.retries + n ≤ raises' + counted n y.look_state) (sym z.1) (let a = f.retries in omega arith);
              }) (e.looks not_out);
        };
      }

  -- a store in a slot of the present region
  pub slot_step : (s j x : ℕ) (g' : Stage) (maps' : Maps) (placed' log' : ℕ) (v' : SlotsView) → s < o.slots → j < 4 → v' ≡ view l (set ws (l.word p.root s j) x) p.root → IsMap o v' maps' placed' g' → p.bumps ≤ 2 * log' + owed g' → IsUnpublished l (set ws (l.word p.root s j) x) p.root g'
      → p.linearized ≤ placed' → ((i k : ℕ) → i ≤ p.linearized → maps' i k ≡ p.maps i k) → ((r : ℕ) → r ≤ p.linearized → IsKept o v v' p.maps maps' p.linearized placed' p.stage g' r)
      → Preserves l Free ws p (set ws (l.word p.root s j) x) record p { stage = g'; words = set p.words (l.word p.root s j) x; maps = maps'; linearized = placed'; log = log' }
  slot_step s j x g' maps' placed' log' v' inside b is map bumps hid le same kept = let ws' : List ℕ = set ws (l.word p.root s j) x in
      let n : (root : ℕ) → l.counter root < l.slots_from → count l ws' root ≡ count l ws root = λ root low. count_stays l ws p.root h.region s x inside j root b low in
      writer_step ws' (set p.words (l.word p.root s j) x) g' maps' placed' log' p.bumps (length-set ws (l.word p.root s j) x) (root_stays l ws p.root h.region s x inside j b ∙ h.root) (agree_set l ws p.words h.words h.long h.fits (l.word p.root s j) x) (long_set ws p.words (l.word p.root s j) x h.long)
      (subst (λ (u : SlotsView). IsMap o u maps' placed' g') is map) bumps hid le same
      (λ r look_state z. subst (λ (u : SlotsView × ℕ). LookInvariant o u.0 maps' placed' g' u.1 r look_state) (λ i. (is i, sym (n p.root h.region.counter_low) i)) (reader_kept o v v' p.maps maps' p.linearized placed' p.stage g' r (kept r z.since) le now look_state z))
      (λ a look_state z. subst (λ (u : ℕ). a + u ≤ p.bumps + counted u look_state) (sym (n p.root h.region.counter_low)) z) (omega arith)
      (λ root z d _. (view_apart l ws root p.root s j x d inside b, n root z.counter_low))

  counted_more : (m : ℕ) (look_state : LookState) → counted m look_state ≤ counted (suc m) look_state
  counted_more m no_look = omega arith
  counted_more m (at_version k) = omega arith
  counted_more m (at_state k c i) = omega arith
  counted_more m (at_low k c i) = omega arith
  counted_more m (at_high k c i z) = omega arith
  counted_more m (at_value k c i) = omega arith
  counted_more m (checking_value k c z) = omega arith
  counted_more m (checking_absence k c) = omega arith

  out_of : (m a b : ℕ) (look_state : LookState) → a + m ≤ b + counted m look_state → a + suc m ≤ suc b + counted (suc m) look_state
  out_of m a b look_state e = let c = counted_more m look_state in omega arith

  -- a raise of the present counter
  pub bump_step : (x : ℕ) (g' : Stage) (log' : ℕ) → x ≡ suc (count l p.words p.root) → IsMap o v p.maps p.linearized g' → suc p.bumps ≤ 2 * log' + owed g' → IsUnpublished l (set ws (l.counter p.root) x) p.root g'
      → Preserves l Free ws p (set ws (l.counter p.root) x) record p { stage = g'; words = set p.words (l.counter p.root) x; log = log'; bumps = suc p.bumps }
  bump_step x g' log' is map bumps hid = let ws' : List ℕ = set ws (l.counter p.root) x in
      let next_one : x ≡ suc now = is ∙ ap suc (sym (h.words (l.counter p.root) h.region.counter_own)) in
      let here : count l ws' p.root ≡ suc now = get_or-set_same ws (l.counter p.root) x 0 h.region.counter_inside ∙ next_one in
      let same : view l ws' p.root ≡ v = view_counter l ws p.root p.root x h.region.counter_low h.region in
      writer_step ws' (set p.words (l.counter p.root) x) g' p.maps p.linearized log' (suc p.bumps) (length-set ws (l.counter p.root) x) (get_or-set_other ws (l.counter p.root) l.base x 0 (λ e. h.region.counter_off_root (sym e)) ∙ h.root) (agree_set l ws p.words h.words h.long h.fits (l.counter p.root) x) (long_set ws p.words (l.counter p.root) x h.long)
      (subst (λ (u : SlotsView). IsMap o u p.maps p.linearized g') (sym same) map) bumps hid (omega arith) (λ j k b. refl)
      (λ r look_state z. subst (λ (u : SlotsView × ℕ). LookInvariant o u.0 p.maps p.linearized g' u.1 r look_state) (λ i. (sym same i, sym here i)) (look_bumped o v v p.maps p.linearized p.stage g' now r look_state z))
      (λ a look_state z. subst (λ (u : ℕ). a + u ≤ suc p.bumps + counted u look_state) (sym here) (out_of now a p.bumps look_state z)) (omega arith)
      (λ root z d _. (view_counter l ws root p.root x h.region.counter_low z, get_or-set_other ws (l.counter p.root) (l.counter root) x 0 d.counters))
