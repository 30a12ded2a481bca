-- A step on other words than the table's changes nothing of what holds of it.
use Rattle.std.proofs.Common.{◌≡◌, ℕ, ◌+◌, ◌<◌, ◌≤◌, refl, sym, ◌∙◌, subst, arith, true, false, leb, ltb, ◌&&◌, ◌==◌, List, length, get_or, get_or-set_other, length-set}
use Rattle.std.proofs.lemmas.Bool.Decides.{nat_tests}
use prog.Atomic.{either}
use Rattle.ck_run.specs.declared.account.Step.{Step}
use Rattle.ck_run.specs.declared.account.Step.TheVariants.{Load, Store, Exchange}
use Rattle.ck_run.specs.Run.{words_after}
use Rattle.ck_slots.specs.Slots.{SlotsView}
use Rattle.ck_htlaw.specs.Stages.{Stage, clearing, copying, IsMap, parts}
use Rattle.ck_htlaw.specs.Look.{counted, LookInvariant}
use Rattle.ck_htlaw.specs.Table.{Layout, column, view, count, WriterState, is_table_word}
use Rattle.ck_htlaw.specs.Invariant.{IsOwn, IsRegion, IsNewRegion, IsUnpublished, IsPair, WriterInvariant}
use Rattle.ck_htlaw.proofs.Words.{if_inside}
use Rattle.ck_htlaw.proofs.WriterSteps.{Preserves, writer_step}

not_own : (l : Layout) (a b c : ℕ) → leb b a && ltb a c ≡ false → b ≤ a → a < c → ⊥
not_own l a b c e le lt = let d : leb b a && ltb a c ≡ true = grind (arith, nat_tests) in let z : true ≡ false = sym d ∙ e in cc

pub long_after : (ws : List ℕ) (s : Step) → length (words_after ws s) ≡ length ws
long_after ws (Load a x) = refl
long_after ws (Store a x) = length-set ws a x
long_after ws (Exchange a x y z) = length-set ws a (either (z == x) y z)

pub else_same : (l : Layout) (ws : List ℕ) (s : Step) → is_table_word l s ≡ false → (i : ℕ) → IsOwn l i → get_or (words_after ws s) i 0 ≡ get_or ws i 0
else_same l ws (Load a x) e i own = refl
else_same l ws (Store a x) e i own = get_or-set_other ws a i x 0 (λ z. not_own l a l.base (l.base + l.size) e (subst (λ (j : ℕ). l.base ≤ j) z own.0) (subst (λ (j : ℕ). j < l.base + l.size) z own.1))
else_same l ws (Exchange a x y w) e i own = get_or-set_other ws a i (either (w == x) y w) 0 (λ z. not_own l a l.base (l.base + l.size) e (subst (λ (j : ℕ). l.base ≤ j) z own.0) (subst (λ (j : ℕ). j < l.base + l.size) z own.1))

module _ (l : Layout) (ws ws' : List ℕ) (same : (i : ℕ) → IsOwn l i → get_or ws' i 0 ≡ get_or ws i 0) (long : length ws' ≡ length ws) where
  views : (root : ℕ) → IsRegion l (length ws) root → view l ws' root ≡ view l ws root
  views root r = let each : (j s : ℕ) → j < 4 → column l ws' root j s ≡ column l ws root j s = λ j s b. if_inside s (l.order root).slots (get_or ws' (l.word root s j) 0) (get_or ws (l.word root s j) 0) (λ c. same (l.word root s j) (r.own s j c b)) in
      λ z. record { state = λ s. each 0 s (omega arith) z; low = λ s. each 1 s (omega arith) z; high = λ s. each 2 s (omega arith) z; value = λ s. each 3 s (omega arith) z }

  new_else : (old root : ℕ) → IsNewRegion l ws old root → IsNewRegion l ws' old root
  new_else old root n = record { region = subst (λ (k : ℕ). IsRegion l k root) (sym long) n.region; before = n.before; after = n.after }

  hidden_else : (old : ℕ) → IsRegion l (length ws) old → (g : Stage) → IsUnpublished l ws old g → IsUnpublished l ws' old g
  hidden_else old r (clearing c root i) h = (new_else old root h.0, h.1, subst (λ (u : SlotsView). (s : ℕ) → s < i → u.state s ≡ 0) (sym (views root h.0.region)) h.2)
  hidden_else old r (copying c root j g) h = (new_else old root h.0, subst (λ (u : SlotsView × SlotsView). IsMap (l.order root) u.0 (parts (l.order old) u.1) j g) (λ z. (sym (views root h.0.region) z, sym (views old r) z)) h.1, subst (λ (u : SlotsView). IsPair (l.order old) u j g) (sym (views old r)) h.2)
  hidden_else old r g h = tt

  pub goes_else : (Free : ℕ → Type 0) (p : WriterState) → WriterInvariant l ws p → Preserves l Free ws p ws' p
  goes_else Free p h = let n : count l ws' p.root ≡ count l ws p.root = same (l.counter p.root) h.region.counter_own in let v = views p.root h.region in
      writer_step l Free ws p h ws' p.words p.stage p.maps p.linearized p.log p.bumps long (same l.base (omega arith, let a = h.some_word in omega arith) ∙ h.root) (λ i own. same i own ∙ h.words i own) (h.long ∙ sym long)
      (subst (λ (u : SlotsView). IsMap (l.order p.root) u p.maps p.linearized p.stage) (sym v) h.map) h.bumps (hidden_else p.root h.region p.stage h.hidden) (omega arith) (λ j k b. refl)
      (λ r look_state z. subst (λ (u : SlotsView × ℕ). LookInvariant (l.order p.root) u.0 p.maps p.linearized p.stage u.1 r look_state) (λ i. (sym v i, sym n i)) z)
      (λ a look_state z. subst (λ (u : ℕ). a + u ≤ p.bumps + counted u look_state) (sym n) z) (omega arith)
      (λ root z d _. (views root z, same (l.counter root) z.counter_own))
