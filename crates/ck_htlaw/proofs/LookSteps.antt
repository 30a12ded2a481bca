-- The steps of a reader keep what holds of it.
use Rattle.std.proofs.Common.{◌≡◌, ◌≢◌, ℕ, suc, ◌+◌, ◌<◌, ◌≤◌, ⊎_elim, inl, inr, refl, sym, ap, ◌∙◌, subst, arith, Bool, true, false, cond, ◌==◌, eq-eqb, ne_eqb, List, length, get_or}
use mathlib.Core.Logic.{dite}
use native.Mathlib.Decide.{ℕ_discrete}
use Rattle.ck_run.specs.declared.account.Step.{Step}
use Rattle.ck_run.specs.declared.account.Step.TheVariants.{Load}
use Rattle.ck_run.specs.Run.{words_after, Fits}
use Rattle.ck_slots.specs.Slots.{Order, SlotsView}
use Rattle.ck_htlaw.specs.Stages.{Stage, idle, Maps, IsMap}
use Rattle.ck_htlaw.specs.Look.{LookState, no_look, at_version, at_state, at_low, at_high, at_value, checking_value, checking_absence, counted, LookInvariant, passed, after_state, after_high}
use Rattle.ck_htlaw.specs.Table.{Layout, column, view, count, WriterState, ReaderState, MayLookStep, after_look_step, ended, since_look}
use Rattle.ck_htlaw.specs.Invariant.{IsDisjoint, IsRegion, SeesPresent, SeesReplaced, ReaderInvariant, WriterInvariant}
use Rattle.ck_htlaw.proofs.Looks.{root_step, count_step, state_step, low_step, high_step, value_step}
use Rattle.ck_htlaw.proofs.Words.{column_is}

-- the counter that a state of a look knows, where it knows one
same_count : (now : ℕ) (o : Order) (k c i : ℕ) → counted now (passed o k c i) ≡ c
same_count now o k c i = go (suc i == o.slots)
  where
    go : (b : Bool) → counted now (cond b (checking_absence k c) (at_state k c (suc i))) ≡ c
    go true = refl
    go false = refl

state_count : (now : ℕ) (o : Order) (k c i x : ℕ) → counted now (after_state o k c i x) ≡ c
state_count now o k c i x = go (x == 0) (x == 1)
  where
    go : (a b : Bool) → counted now (cond a (checking_absence k c) (cond b (at_low k c i) (passed o k c i))) ≡ c
    go true b = refl
    go false true = refl
    go false false = same_count now o k c i

high_count : (now : ℕ) (o : Order) (k c i z x : ℕ) → counted now (after_high o k c i z x) ≡ c
high_count now o k c i z x = go (z == o.low_of k) (x == o.high_of k)
  where
    go : (a b : Bool) → counted now (cond a (cond b (at_value k c i) (passed o k c i)) (passed o k c i)) ≡ c
    go true true = refl
    go true false = same_count now o k c i
    go false b = same_count now o k c i

-- A look's steps on the region of its root, whose words stand for the map after q updates
module _ (l : Layout) (ws : List ℕ) (y : ReaderState) (ok : IsRegion l (length ws) y.root) (maps : Maps) (q : ℕ) (g : Stage) (h : IsMap (l.order y.root) (view l ws y.root) maps q g) (r bumps : ℕ) where
  abbrev o : Order
  o = l.order y.root

  abbrev v : SlotsView
  v = view l ws y.root

  abbrev now : ℕ
  now = count l ws y.root

  -- what is known of the reader
  abbrev Known : ReaderState → Type 0
  Known z = LookInvariant o v maps q g now r z.look_state × (z.retries + now ≤ bumps + counted now z.look_state)

  at_slot : (k i j a x : ℕ) → i < o.slots → a ≡ l.word y.root (o.probe k i) j → x ≡ get_or ws a 0 → x ≡ column l ws y.root j (o.probe k i)
  at_slot k i j a x b e f = f ∙ (ap (λ (z : ℕ). get_or ws z 0) e ∙ sym (column_is l ws y.root (o.probe k i) j (ok.ok.within k i b)))

  ends_look : (c a x : ℕ) → c ≤ now → y.retries + now ≤ bumps + c → a ≡ l.counter y.root → x ≡ get_or ws a 0 → r ≤ q → Known (ended y c x)
  ends_look c a x le bound e f since = (record { since = since; risen = omega arith; within = tt; facts = λ z. tt }, bounds)
    where
      x_is : x ≡ now
      x_is = f ∙ ap (λ (z : ℕ). get_or ws z 0) e

      bounds : cond (c == x) y.retries (suc y.retries) + now ≤ bumps + now
      bounds = let d = x_is in dite (ℕ_discrete c x)
          (λ (s : c ≡ x). subst (λ (b : Bool). cond b y.retries (suc y.retries) + now ≤ bumps + now) (sym (eq-eqb c x s)) (omega arith))
          (λ (n : c ≢ x). subst (λ (b : Bool). cond b y.retries (suc y.retries) + now ≤ bumps + now) (sym (ne_eqb c x n)) (omega arith))

  pub look_step : (key : ℕ) (look_state : LookState) (s : Step) → (look_state ≡ no_look → ⊥) → LookInvariant o v maps q g now r look_state → y.retries + now ≤ bumps + counted now look_state → MayLookStep l y.root look_state s → Fits ws s → Known (after_look_step l y key look_state s)
  look_step key no_look (Load a x) not_out z b may fits = absurd (not_out refl)
  look_step key (at_version k) (Load a x) not_out z b may fits = let e : x ≡ now = fits ∙ ap (λ (i : ℕ). get_or ws i 0) may in
      (subst (λ (c : ℕ). LookInvariant o v maps q g now r (at_state k c 0)) (sym e) (count_step o ok.ok v maps q g h r now k ok.some_slot z), omega arith)
  look_step key (at_state k c i) (Load a x) not_out z b may fits = (
    state_step o ok.ok v maps q g h r now k c i x (at_slot k i 0 a x z.within may fits) z,
    subst (λ (n : ℕ). y.retries + now ≤ bumps + n) (sym (state_count now o k c i x)) b,
  )
  look_step key (at_low k c i) (Load a x) not_out z b may fits = (low_step o ok.ok v maps q g h r now k c i x (at_slot k i 1 a x z.within may fits) z, b)
  look_step key (at_high k c i w) (Load a x) not_out z b may fits = (
    high_step o ok.ok v maps q g h r now k c i w x (at_slot k i 2 a x z.within may fits) z,
    subst (λ (n : ℕ). y.retries + now ≤ bumps + n) (sym (high_count now o k c i w x)) b,
  )
  look_step key (at_value k c i) (Load a x) not_out z b may fits = (value_step o ok.ok v maps q g h r now k c i x (at_slot k i 3 a x z.within may fits) z, b)
  look_step key (checking_value k c w) (Load a x) not_out z b may fits = ends_look c a x z.risen b may fits z.since
  look_step key (checking_absence k c) (Load a x) not_out z b may fits = ends_look c a x z.risen b may fits z.since
  look_step key look_state s not_out z b may fits = absurd may

module _ (l : Layout) (ws : List ℕ) (p : WriterState) (h : WriterInvariant l ws p) (r : ℕ) (y : ReaderState) (e : ReaderInvariant l ws p r y) where
  pub loads : (look_state : LookState) (s : Step) → MayLookStep l y.root look_state s → words_after ws s ≡ ws
  loads no_look (Load a x) may = refl
  loads (at_version k) (Load a x) may = refl
  loads (at_state k c i) (Load a x) may = refl
  loads (at_low k c i) (Load a x) may = refl
  loads (at_high k c i w) (Load a x) may = refl
  loads (at_value k c i) (Load a x) may = refl
  loads (checking_value k c w) (Load a x) may = refl
  loads (checking_absence k c) (Load a x) may = refl
  loads look_state s may = absurd may

  -- a step within a look
  within_look : (key : ℕ) (s : Step) → (y.look_state ≡ no_look → ⊥) → MayLookStep l y.root y.look_state s → Fits ws s → (after_look_step l y key y.look_state s).root ≡ y.root → ReaderInvariant l ws p r (after_look_step l y key y.look_state s)
  within_look key s not_out may fits same = let y' : ReaderState = after_look_step l y key y.look_state s in ⊎_elim
      (λ (c : SeesPresent l ws p r y).
      let P : ℕ → Type 0 = λ root. LookInvariant (l.order root) (view l ws root) p.maps p.linearized p.stage (count l ws root) r y.look_state × (y.retries + count l ws root ≤ p.bumps + counted (count l ws root) y.look_state) in
      let Q : ℕ → Type 0 = λ root. LookInvariant (l.order root) (view l ws root) p.maps p.linearized p.stage (count l ws root) r y'.look_state × (y'.retries + count l ws root ≤ p.bumps + counted (count l ws root) y'.look_state) in
      let a : P y.root = subst P (sym c.root) (c.is_reader, c.retries) in
      let b : Q y.root = look_step l ws y (subst (IsRegion l (length ws)) (sym c.root) h.region) p.maps p.linearized p.stage (subst (λ (root : ℕ). IsMap (l.order root) (view l ws root) p.maps p.linearized p.stage) (sym c.root) h.map) r p.bumps key y.look_state s not_out a.0 a.1 may fits in
      let d : Q p.root = subst Q c.root b in
      record { retries = let u = b.1 in let t = b.0.risen in omega arith; looks = λ _. inl record { root = same ∙ c.root; is_reader = d.0; retries = d.1 } })
      (λ (f : SeesReplaced l ws p r y).
      let b = look_step l ws y f.region p.maps f.place idle f.map r p.bumps key y.look_state s not_out f.is_reader f.retries may fits in
      let P : ℕ → Type 0 = λ root. IsRegion l (length ws) root × IsDisjoint l root p.root × IsMap (l.order root) (view l ws root) p.maps f.place idle × LookInvariant (l.order root) (view l ws root) p.maps f.place idle (count l ws root) r y'.look_state × (y'.retries + count l ws root ≤ p.bumps + counted (count l ws root) y'.look_state) in
      let d : P y'.root = subst P (sym same) (f.region, f.apart, f.map, b.0, b.1) in
      record { retries = let u = b.1 in let t = b.0.risen in omega arith; looks = λ _. inr record { region = d.0; apart = d.1; place = f.place; past = f.past; map = d.2; is_reader = d.3; retries = d.4 } })
      (e.looks not_out)

  pub same_root : (key : ℕ) (look_state : LookState) (s : Step) → (look_state ≡ no_look → ⊥) → (after_look_step l y key look_state s).root ≡ y.root
  same_root key no_look s not_out = absurd (not_out refl)
  same_root key (at_version k) (Load a x) not_out = refl
  same_root key (at_state k c i) (Load a x) not_out = refl
  same_root key (at_low k c i) (Load a x) not_out = refl
  same_root key (at_high k c i w) (Load a x) not_out = refl
  same_root key (at_value k c i) (Load a x) not_out = refl
  same_root key (checking_value k c w) (Load a x) not_out = refl
  same_root key (checking_absence k c) (Load a x) not_out = refl
  same_root key look_state s not_out = refl

  -- the load of the root
  begins_look : (key : ℕ) (s : Step) → MayLookStep l y.root no_look s → Fits ws s → ReaderInvariant l ws p p.linearized (after_look_step l y key no_look s)
  begins_look key (Load a x) may fits = record {
    retries = e.retries;
    looks = λ _. inl record {
      root = fits ∙ (ap (λ (i : ℕ). get_or ws i 0) may ∙ h.root);
      is_reader = root_step (l.order p.root) h.region.ok (view l ws p.root) p.maps p.linearized p.stage h.map p.linearized (count l ws p.root) key refl;
      retries = let b = e.retries in omega arith;
    };
  }
  begins_look key s may fits = absurd may

  pub look_preserves : (key : ℕ) (look_state : LookState) (s : Step) → y.look_state ≡ look_state → MayLookStep l y.root look_state s → Fits ws s → ReaderInvariant l ws p (since_look look_state r p.linearized) (after_look_step l y key look_state s)
  look_preserves key no_look s is may fits = begins_look key s may fits
  look_preserves key look_state s is may fits = let not_out : y.look_state ≡ no_look → ⊥ = λ d. let z : no_look ≡ look_state = sym d ∙ is in cc in
      subst (λ (z : LookState). ReaderInvariant l ws p r (after_look_step l y key z s)) is
      (within_look key s not_out (subst (λ (z : LookState). MayLookStep l y.root z s) (sym is) may) fits (same_root key y.look_state s not_out))
