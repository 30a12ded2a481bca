-- The writer of a table at its opening.
use Rattle.std.proofs.Common.{◌≡◌, ℕ, ◌+◌, ◌*◌, ◌/◌, ◌^◌, ◌<◌, ◌≤◌, ⊎_elim, Bool, false, cond, nat_eq, List, [], length, replicate, get_or, refl, sym, ap, ◌∙◌, subst, arith}
use Rattle.std.proofs.lemmas.Bool.{cases_lt}
use Rattle.std.proofs.lemmas.Bool.Decides.{nat_tests}
use Rattle.std.proofs.lemmas.List.{get_or-replicate, get_or_past, length-replicate}
use Rattle.ck_run.specs.Tokens.{Table}
use Rattle.ck_run.specs.Ends.{fresh}
use Rattle.ck_slots.specs.Counting.{count as how_many}
use Rattle.ck_epoch.specs.declared.about.About.{About}
use Rattle.ck_epoch.specs.State.{Origin, Token, base_of, state}
use Rattle.ck_epoch.specs.Ends.{Writer}
use Rattle.ck_epoch.specs.Client.{IsClientOpening}
use Rattle.ck_epoch.specs.Within.{IsWithin}
use Rattle.ck_htplan.specs.Region.{view_of}
use Rattle.ck_htlaw.specs.Host.{Host, lies}
use Rattle.ck_htlaw.specs.Layout.{arena, table_words, log_of}
use Rattle.ck_htlaw.specs.Table.{Layout, WriterState}
use Rattle.ck_htlaw.specs.Client.{first_writer, table}
use Rattle.ck_htlaw.specs.Known.{knows}
use Rattle.ck_htwrite.specs.declared.state.HtState.{HtState}
use Rattle.ck_arena.specs.Arena.{unreturned}
use Rattle.ck_htwrite.specs.Arena.{IsKept}
use Rattle.ck_htwrite.specs.State.{IsShaped, Reflects, Ready}
use Rattle.ck_htwrite.specs.Writes.{counters_in}

-- eight empty slots
zero_at : (i : ℕ) → ◌≡◌ {A = ℕ} (get_or (replicate 32 0) i 0) 0
zero_at i = ⊎_elim (λ (low : i < 32). get_or-replicate {A = ℕ} 32 i 0 0 low) (λ (high : 32 ≤ i). get_or_past (replicate {A = ℕ} 32 0) i 0 (let n = length-replicate {A = ℕ} 32 0 in omega arith)) (cases_lt i 32)

module _ {D : Type 0} (h : Host D) (within : IsWithin table h.client h.place h.part) (o : Origin D) (opening : IsClientOpening h.client o) where
  abbrev l : Layout
  l = lies h o

  abbrev n : ℕ
  n = counters_in h o

  abbrev root0 : ℕ
  root0 = 32 * arena n + 3

  log0 : log_of root0 ≡ 3
  log0 = omega arith

  -- the table's words
  word : (at : ℕ) → at < table_words n → get_or o.words (l.base + at) 0 ≡ cond (nat_eq at 0) root0 0
  word at low = let d = o.config.client in let fits = within.fits d in
      ap (λ (i : ℕ). get_or o.words i 0) (let z : base_of o + h.place d + at ≡ base_of o + (h.place d + at) = omega arith in z) ∙ (opening.words (h.place d + at) (omega arith) ∙ within.first d at low)

  not_zero : (x : ℕ) → 0 < x → nat_eq x 0 ≡ false
  not_zero x e = grind (arith, nat_tests)

  zeros : (at : ℕ) → 0 < at → at < table_words n → get_or o.words (l.base + at) 0 ≡ 0
  zeros at some low = word at low ∙ ap (λ (b : Bool). cond b root0 0) (not_zero at some)

  root_is : 0 < table_words n → get_or o.words l.base 0 ≡ root0
  root_is some = ap (λ (i : ℕ). get_or o.words i 0) (let z : l.base ≡ l.base + 0 = omega arith in z) ∙ word 0 some

  abbrev p : WriterState
  p = first_writer l o.words

  module _ (s : HtState) (shape : IsShaped n s) (root : s.root ≡ root0) (no_keys : s.keys ≡ 0) (no_tombstones : s.tombstones ≡ 0) (items : s.words.items ≡ replicate 32 0) (counted : s.counters.items ≡ replicate n 0) where
    eight : 2 ^ log_of s.root ≡ 8
    eight = ap (λ (r : ℕ). 2 ^ log_of r) root ∙ ap (λ (c : ℕ). 2 ^ c) log0

    no_state : (i : ℕ) → (view_of s.words.items).state i ≡ 0
    no_state i = ap (λ (xs : List ℕ). get_or xs (4 * i + 0) 0) items ∙ zero_at (4 * i + 0)

    none : (x : ℕ) → how_many (view_of (replicate 32 0)).state x 8 ≡ 0 → how_many (view_of s.words.items).state x (2 ^ log_of s.root) ≡ 0
    none x is = (λ i. how_many (view_of (items i)).state x (eight i)) ∙ is

    no_count : (i : ℕ) → get_or s.counters.items i 0 ≡ 0
    no_count i = ap (λ (xs : List ℕ). get_or xs i 0) counted ∙ ⊎_elim (λ (low : i < n). get_or-replicate n i 0 0 low) (λ (high : n ≤ i). get_or_past (replicate n 0) i 0 (let m = length-replicate {A = ℕ} n 0 in omega arith)) (cases_lt i n)

    pub opened_lists : Reflects n l p s
    opened_lists =
        let low = shape.is_root.piece.low in let high = shape.is_root.piece.high in
        record {
          root = root_is (omega arith) ∙ sym root;
          mirrors = record {
            shape = shape;
            states = λ i b. no_state i ∙ sym (ap (λ (k : ℕ). get_or o.words k 0) (let z : l.word s.root i 0 ≡ l.base + (s.root / 32 + 4 * i + 0) = omega arith in z) ∙ zeros (s.root / 32 + 4 * i + 0) (omega arith) (omega arith));
            pairs = λ i j b c full. absurd (let z : 0 ≡ 1 = sym (no_state i) ∙ full in cc);
            fits = let fits = within.fits o.config.client in let long = opening.long in omega arith;
            counts = λ i b. no_count i ∙ sym (ap (λ (k : ℕ). get_or o.words k 0) (let z : l.base + 1 + i ≡ l.base + (1 + i) = omega arith in z) ∙ zeros (1 + i) (omega arith) (omega arith));
            keys = no_keys ∙ sym (none 1 refl);
            tombstones = no_tombstones ∙ sym (none 2 refl);
          };
          bumped = λ i. let z = no_count i in omega arith;
          hole = (0, (let e = eight in omega arith), no_state 0);
        }

-- the writer's end with the lists as they are then
module _ {D F : Type 0} (h : Host D) (within : IsWithin table h.client h.place h.part) (t : Table (About D)) (opening : IsClientOpening h.client t.origin) where
  pub opened_ready : (w : Writer D F) → w.token ≡ fresh t 0 → w.waiting ≡ [] → w.tally ≡ 0 → (s : HtState) → IsShaped (counters_in h t.origin) s → s.root ≡ 32 * arena (counters_in h t.origin) + 3 → s.keys ≡ 0 → s.tombstones ≡ 0 → s.words.items ≡ replicate 32 0 → s.counters.items ≡ replicate (counters_in h t.origin) 0
      → ((place : ℕ) → IsKept (counters_in h t.origin) place s.root [] s.arena) → Ready h t.origin w s
  opened_ready w is no_answers none s shape root keys tombstones items counted kept = record {
    lists = record {
      is_writer = first_writer (lies h t.origin) t.origin.words;
      is = ap (λ (x : Token D). (knows h t.origin x).local) is;
      idles = refl;
      reflects = opened_lists h within t.origin opening s shape root keys tombstones items counted;
    };
    arena = subst (λ ks. IsKept (counters_in h t.origin) (h.place t.origin.config.client) s.root ks s.arena) (λ i. unreturned (state (sym is i)) (sym no_answers i)) (kept (h.place t.origin.config.client));
    tally = none ∙ sym (ap (λ (x : Token D). length (knows h t.origin x).log) is);
    few = omega arith;
  }
