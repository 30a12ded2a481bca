-- What holds of a table holds at every moment of every true run of a domain whose client holds it.
use Rattle.std.proofs.Common.{◌≡◌, ℕ, ◌+◌, ◌-◌, ◌*◌, ◌%◌, ◌^◌, ◌<◌, ◌≤◌, Bool, true, false, cond, nat_eq, List, [], ◌++◌, length, get_or, refl, sym, ap, ◌∙◌, subst, arith}
use Rattle.std.proofs.lemmas.Bool.Decides.{nat_tests}
use Rattle.ck_run.specs.declared.account.Entry.{Entry}
use Rattle.ck_run.specs.Run.{Run}
use Rattle.ck_epoch.specs.State.{Origin, base_of}
use Rattle.ck_epoch.specs.Epochs.{Reclamation}
use Rattle.ck_epoch.specs.Client.{IsClientOpening}
use Rattle.ck_epoch.specs.Within.{IsWithin}
use Rattle.ck_reclaim.specs.Reclaim.{ReclaimsPieces}
use Rattle.ck_htlaw.specs.Host.{Host}
use Rattle.ck_htlaw.specs.Regions.{regions}
use Rattle.ck_htlaw.specs.Table.{Layout, view, WriterState, ReaderState, writer, reader}
use Rattle.ck_htlaw.specs.Actions.{action}
use Rattle.ck_htlaw.specs.Layout.{counters_of, arena, table_words, at_of, log_of, IsPiece}
use Rattle.ck_htlaw.specs.Client.{hash_of, first_writer, first_reader, table}
use Rattle.ck_htlaw.specs.Invariant.{IsRegion, WriterInvariant, IsSoundAt}
use Rattle.ck_htlaw.specs.Allocation.{IsBuilding}
use Rattle.ck_reclaim.proofs.Along.{along}
use Rattle.ck_htlaw.proofs.Arena.{some_power, region}
use Rattle.ck_htlaw.proofs.AtOpening.{starts}
use Rattle.ck_htlaw.proofs.Reclaim.{l as layout_in, IsTrue, epochs_run, Holds, holds_next}

module _ {D : Type 0} (host : Host D) (within : IsWithin table host.client host.place host.part) (law : Reclamation D) (pieces : ReclaimsPieces (regions host)) (origin : Origin D)
    (plan_ok : (ws : List ℕ) (p : WriterState) (e : Entry) → let l = layout_in host within law pieces origin in WriterInvariant l ws p → IsSoundAt l ws p.root (p.maps p.linearized) (action l p e) p.stage) where
  abbrev l : Layout
  l = layout_in host within law pieces origin

  abbrev pub Held : Run → Type 0
  Held run = Holds host within law pieces origin run

  abbrev n : ℕ
  n = counters_of (host.part origin.config.client)

  abbrev root0 : ℕ
  root0 = 32 * arena n + 3

  eight : (x : ℕ) → (32 * x + 3) % 32 ≡ 3
  eight x = omega arith

  -- the opening region has eight slots
  log0 : log_of root0 ≡ 3
  log0 = eight (arena n)

  slots0 : 2 ^ log_of root0 ≡ 8
  slots0 = ap (λ (c : ℕ). 2 ^ c) log0

  some : 0 < n
  some = some_power ((host.part origin.config.client).arena_log - 5)

  module _ (o : IsClientOpening host.client origin) where
    -- the table's words at opening
    word : (at : ℕ) → at < table_words n → get_or origin.words (base_of origin + host.place origin.config.client + at) 0 ≡ cond (nat_eq at 0) root0 0
    word at low = let d = origin.config.client in let fits = within.fits d in
        ap (λ (i : ℕ). get_or origin.words i 0) (assoc (base_of origin) (host.place d) at) ∙ (o.words (host.place d + at) (omega arith) ∙ within.first d at low)
      where
        assoc : (a b c : ℕ) → a + b + c ≡ a + (b + c)
        assoc a b c = omega arith

    root_is : get_or origin.words l.base 0 ≡ root0
    root_is = ap (λ (i : ℕ). get_or origin.words i 0) (plus_none (base_of origin + host.place origin.config.client)) ∙ word 0 (omega arith)
      where
        plus_none : (a : ℕ) → a ≡ a + 0
        plus_none a = omega arith

    piece : IsPiece n root0
    piece = let c = log0 in let e = slots0 in let s = some in record { some_lines = omega arith; low = omega arith; high = omega arith; aligned = omega arith }

    long : base_of origin + host.place origin.config.client + table_words n ≤ length origin.words
    long = let d = origin.config.client in let fits = within.fits d in let e = o.long in omega arith

    no_state : (s : ℕ) → s < 8 → (view l origin.words root0).state s ≡ 0
    no_state s low = let e = some in if _ _ (ap (λ (i : ℕ). get_or origin.words i 0) (place_is (base_of origin + host.place origin.config.client) s) ∙ (word (arena n + 4 * s) (omega arith) ∙ none s))
      where
        if : (b : Bool) (x : ℕ) → x ≡ 0 → cond b x 0 ≡ 0
        if true x e = e
        if false x e = refl

        place_is : (a s : ℕ) → a + at_of root0 + 4 * s + 0 ≡ a + (arena n + 4 * s)
        place_is a s = omega arith

        none : (s : ℕ) → cond (nat_eq (arena n + 4 * s) 0) root0 0 ≡ 0
        none s = ap (λ (b : Bool). cond b root0 0) (not_zero (arena n + 4 * s) (omega arith))
          where
            not_zero : (n : ℕ) → 0 < n → nat_eq n 0 ≡ false
            not_zero n h = grind (arith, nat_tests)

    pub held_first : Held []
    held_first = record {
      is_table = starts l origin.words (omega arith) long (subst (IsRegion l (length origin.words)) (sym root_is) (region (base_of origin) (base_of origin + host.place origin.config.client) n (hash_of (host.part origin.config.client)) (length origin.words) root0 piece long))
          (subst (λ (root : ℕ). (s : ℕ) → s < (l.order root).slots → (view l origin.words root).state s ≡ 0) (sym root_is) (λ s low. no_state s (subst (λ (k : ℕ). s < k) slots0 low)));
      allocation = λ p at. let same : first_writer l origin.words ≡ p = let z : writer (first_writer l origin.words) ≡ writer p = at in cc in
          record { piece = subst (IsPiece n) (sym root_is ∙ ap (λ (q : WriterState). q.root) same) piece; few = subst (λ (root : ℕ). log_of root ≤ 19) (sym root_is ∙ ap (λ (q : WriterState). q.root) same) (let c = log0 in omega arith); small = λ root b. absurd (subst (λ (q : WriterState). IsBuilding q.stage root) (sym same) b); hidden = λ root b. absurd (subst (λ (q : WriterState). IsBuilding q.stage root) (sym same) b) };
      looks = λ i y at_y looking. absurd (looking (let z : reader first_reader ≡ reader y = at_y in let same : first_reader ≡ y = cc in sym (ap (λ (u : ReaderState). u.look_state) same)));
    }

  -- at each moment of such a run
  pub always_at : (past more : Run) → IsTrue host within law pieces origin (past ++ more) → Held past
  always_at past more r = along origin (IsTrue host within law pieces origin) (epochs_run host within law pieces origin) Held (held_first (r.follow 0).1)
      (λ before n e since good h. holds_next host within law pieces origin plan_ok before n e since good h) past more r
