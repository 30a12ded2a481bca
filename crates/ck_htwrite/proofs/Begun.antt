-- A rebuild begins: the region that is taken is cleared.
use Rattle.std.proofs.Common.{◌≡◌, ◌≢◌, ℕ, zero, suc, ◌+◌, ◌*◌, ◌^◌, ◌<◌, ◌≤◌, Bool, true, cond, eq-eqb, ne_eqb, List, map, length, set, length-set, get_or, get_or-set_same, get_or-set_other, refl, sym, ap, ◌∙◌, subst, arith}
use mathlib.Core.Logic.{dite}
use native.Mathlib.Decide.{ℕ_discrete}
use Rattle.std.proofs.lemmas.Nat.{pow_pos}
use Rattle.std.proofs.Math.Nat.{pow-le-pow_right}
use Rattle.ck_run.specs.declared.account.Step.TheVariants.{Store}
use Rattle.ck_run.specs.declared.account.Entry.{Entry}
use Rattle.ck_run.specs.Run.{entry, further}
use Rattle.ck_run.specs.Machine.{state_after}
use Rattle.ck_history.specs.declared.log.LogEntry.{LogEntry}
use Rattle.ck_slots.specs.Counting.{count as how_many}
use Rattle.ck_slots.proofs.Counts.{used_none, count_else}
use Rattle.ck_htplan.specs.Region.{view_of}
use Rattle.ck_htlaw.specs.declared.client.HtClient.{HtClient}
use Rattle.ck_htlaw.specs.Stages.{Stage, idle, clearing, copying}
use Rattle.ck_htlaw.specs.Calls.{opening_of}
use Rattle.ck_htlaw.specs.Layout.{at_of, log_of, counters_of, layout}
use Rattle.ck_htlaw.specs.Known.{IsRoot}
use Rattle.ck_htlaw.specs.Table.{Layout, WriterState, Action, begins_rebuild, second, cleared, is_table_word, MayWriterStep, GoesOn}
use Rattle.ck_htlaw.specs.Actions.{action, answer_to, root_at}
use Rattle.ck_htlaw.specs.Invariant.{IsTaking}
use Rattle.ck_htlaw.specs.Client.{Answers, answers_next, due_at, orders_of}
use Rattle.ck_htlaw.proofs.Tokens.{is_inside}
use Rattle.ck_htwrite.specs.declared.state.HtState.{HtState}
use Rattle.ck_htwrite.specs.State.{Reflects}
use Rattle.ck_htwrite.specs.Writes.{WriterAt, IsNextStep, CanMake, writer_after}
use Rattle.ck_htwrite.specs.Rebuild.{BeginsRebuildAt, clear_steps, CanHoldAll, IsCopying}
use Rattle.ck_htwrite.proofs.Pairs.{lists_still}
use Rattle.ck_htwrite.proofs.Writing.{goes_on}

-- no slot has a state where all have another
pub count_none : (f : ℕ → ℕ) (x n : ℕ) → ((s : ℕ) → s < n → f s ≢ x) → how_many f x n ≡ 0
count_none f x zero none = refl
count_none f x (suc n) none = count_else f x n (none n (omega arith)) ∙ count_none f x n (λ s low. none s (omega arith))

pub eight_slots : (c : ℕ) → 3 ≤ c → 8 ≤ 2 ^ c
eight_slots c h = let two : 0 < 2 = omega arith in let p : 2 ^ 3 ≤ 2 ^ c = pow-le-pow_right two h in omega arith

module _ (floor base : ℕ) (client : HtClient) where
  abbrev n : ℕ
  n = counters_of client

  abbrev l : Layout
  l = layout floor base n (orders_of client)

  module _ (root : ℕ) (ok : IsRoot n root) where
    abbrev N : ℕ
    N = 2 ^ log_of root

    own : (i x : ℕ) → i < N → is_table_word l (Store (l.word root i 0) x) ≡ true
    own i x few = let a = ok.piece.low in let b = ok.piece.high in is_inside l (Store (l.word root i 0) x) (omega arith) (omega arith)

    -- the first step
    module _ (p : WriterState) (idles : p.stage ≡ idle) (opens : List ℕ) (begins : BeginsRebuildAt l p opens root) where
      abbrev pub e0 : Entry
      e0 = entry opens (Store (l.word root 0 0) 0)

      named : root_at l p (l.word root 0 0) (log_of root) ≡ root
      named = omega arith

      about : action l p e0 ≡ begins_rebuild root
      about = begins (Store (l.word root 0 0) 0) ∙ ap begins_rebuild named

      abbrev pub begun : WriterState
      begun = record p { stage = clearing opens root 1; words = set p.words (l.word root 0 0) 0 }

      pub begin_step : (Free : ℕ → Type 0) → Free root → IsNextStep l Free p e0
      begin_step Free free = record {
        may = subst (λ (z : Action × Stage). MayWriterStep l p z.0 z.1 e0.step) (λ i. (sym about i, sym idles i)) (refl, refl);
        goes = subst (λ (g : Stage). GoesOn g opens) (sym idles) tt;
        takes = subst (λ (z : Action × Stage). (r : ℕ) → IsTaking z.0 z.1 r → Free r) (λ i. (sym about i, sym idles i)) (λ r is. subst Free is free);
      }

      some_more : 1 ≢ N
      some_more e = let a = eight_slots (log_of root) ok.piece.some_lines in absurd (omega arith)

      next_begin : writer_after l p e0 ≡ begun
      next_begin = (λ i. record (second l opens p (about i) (idles i)) { words = set p.words (l.word root 0 0) 0 })
          ∙ ap (λ (b : Bool). record p { stage = cond b (copying opens root 0 idle) (clearing opens root 1); words = set p.words (l.word root 0 0) 0 }) (ne_eqb 1 N some_more)

      answered : (d : LogEntry ℕ) → due_at l p p.stage e0 d ≡ answer_to l p (opening_of opens)
      answered d = ap (λ (g : Stage). due_at l p g e0 d) idles ∙ ap (λ (b : Bool). cond b (answer_to l p (opening_of opens)) d) (own 0 0 (pow_pos (log_of root)))

      pub begin_at : (a : Answers) (d : LogEntry ℕ) (told : List (LogEntry ℕ)) → WriterAt a p d told → WriterAt (answers_next l a e0) begun (answer_to l p (opening_of opens)) told
      begin_at a d told at = goes_on l a p begun d (answer_to l p (opening_of opens)) told e0 at (own 0 0 (pow_pos (log_of root))) next_begin (answered d) refl

    -- the others
    abbrev pub cleared_words : List ℕ → ℕ → ℕ → List ℕ
    cleared_words ws i zero = ws
    cleared_words ws i (suc m) = cleared_words (set ws (l.word root i 0) 0) (suc i) m

    module _ (p : WriterState) (call : List ℕ) where
      abbrev pub clears_at : List ℕ → ℕ → WriterState
      clears_at ws i = record p { stage = clearing call root i; words = ws }

      abbrev pub cleared_at : List ℕ → WriterState
      cleared_at ws = record p { stage = copying call root 0 idle; words = ws }

      then_clears : (ws : List ℕ) (i : ℕ) → suc i < N → record p { stage = cleared l call root (suc i); words = ws } ≡ clears_at ws (suc i)
      then_clears ws i more = ap (λ (b : Bool). record p { stage = cond b (copying call root 0 idle) (clearing call root (suc i)); words = ws }) (ne_eqb (suc i) N (λ e. omega arith))

      then_cleared : (ws : List ℕ) (i : ℕ) → suc i ≡ N → record p { stage = cleared l call root (suc i); words = ws } ≡ cleared_at ws
      then_cleared ws i all = ap (λ (b : Bool). record p { stage = cond b (copying call root 0 idle) (clearing call root (suc i)); words = ws }) (eq-eqb (suc i) N all)

      pub can_clear : (m i : ℕ) (ws : List ℕ) → i + m ≡ N → CanMake l (clears_at ws i) (map further (clear_steps l root i m))
      can_clear zero i ws sum = tt
      can_clear (suc zero) i ws sum = (record { own = own i 0 (omega arith); may = (refl, refl); goes = refl; takes_none = λ r t. t }, tt)
      can_clear (suc (suc m)) i ws sum = (
        record { own = own i 0 (omega arith); may = (refl, refl); goes = refl; takes_none = λ r t. t },
        subst (λ (q : WriterState). CanMake l q (map further (clear_steps l root (suc i) (suc m)))) (sym (then_clears (set ws (l.word root i 0) 0) i (omega arith))) (can_clear (suc m) (suc i) (set ws (l.word root i 0) 0) (omega arith)),
      )

      pub at_clear : (m i : ℕ) (ws : List ℕ) → i + suc m ≡ N → (a : Answers) (d : LogEntry ℕ) (told : List (LogEntry ℕ)) → WriterAt a (clears_at ws i) d told
          → WriterAt (state_after (answers_next l) a (map further (clear_steps l root i (suc m)))) (cleared_at (cleared_words ws i (suc m))) d told
      at_clear zero i ws sum a d told at = goes_on l a (clears_at ws i) (cleared_at (set ws (l.word root i 0) 0)) d d told (further (Store (l.word root i 0) 0)) at (own i 0 (omega arith)) (then_cleared (set ws (l.word root i 0) 0) i (omega arith)) refl refl
      at_clear (suc m) i ws sum a d told at = at_clear m (suc i) (set ws (l.word root i 0) 0) (omega arith) (answers_next l a (further (Store (l.word root i 0) 0))) d told
          (goes_on l a (clears_at ws i) (clears_at (set ws (l.word root i 0) 0) (suc i)) d d told (further (Store (l.word root i 0) 0)) at (own i 0 (omega arith)) (then_clears (set ws (l.word root i 0) 0) i (omega arith)) refl refl)

    -- the states are 0 then
    pub cleared_states : (m i : ℕ) (ws : List ℕ) → i + m ≤ N → base + at_of root + 4 * N ≤ length ws → ((t : ℕ) → t < i → get_or ws (l.word root t 0) 0 ≡ 0) → (t : ℕ) → t < i + m → get_or (cleared_words ws i m) (l.word root t 0) 0 ≡ 0
    cleared_states zero i ws sum fits zeros t low = zeros t (omega arith)
    cleared_states (suc m) i ws sum fits zeros t low = cleared_states m (suc i) (set ws (l.word root i 0) 0) (omega arith) (let e = length-set ws (l.word root i 0) 0 in omega arith)
        (λ k lk. dite (ℕ_discrete k i)
        (λ (e : k ≡ i). subst (λ (z : ℕ). get_or (set ws (l.word root i 0) 0) (l.word root z 0) 0 ≡ 0) (sym e) (get_or-set_same ws (l.word root i 0) 0 0 (omega arith)))
        (λ (e : k ≢ i). get_or-set_other ws (l.word root i 0) (l.word root k 0) 0 0 (λ z. e (omega arith)) ∙ zeros k (omega arith)))
        t (omega arith)

    module _ (p : WriterState) (s : HtState) (can : CanHoldAll n s root) where
      pub lists_kept : (m i : ℕ) (ws : List ℕ) → i + m ≤ N → Reflects n l (record p { words = ws }) s → Reflects n l (record p { words = cleared_words ws i m }) s
      lists_kept zero i ws sum r = r
      lists_kept (suc m) i ws sum r = lists_kept m (suc i) (set ws (l.word root i 0) 0) (omega arith) (lists_still floor base client p s root can ws r i 0 0 (omega arith) (omega arith))

      -- nothing is copied yet, where the other copy is empty
      pub copying_none : (ws : List ℕ) → Reflects n l (record p { words = ws }) s → length s.spare.items ≡ 4 * N → ((t : ℕ) → (view_of s.spare.items).state t ≡ 0) → ((t : ℕ) → t < N → get_or ws (l.word root t 0) 0 ≡ 0) → IsCopying n l p s ws root 0 0
      copying_none ws r long empty zeros = record {
        lists = r;
        passed = omega arith;
        none = λ t a b. absurd (omega arith);
        long = long;
        states = λ t lt. empty t ∙ sym (zeros t lt);
        pairs = λ t k lt lk full. absurd (let e = empty t in omega arith);
        no_tombstone = λ t lt z. absurd (let e = empty t in omega arith);
        as_many = used_none (view_of s.spare.items).state N (λ t lt. empty t);
        full = count_none (view_of s.spare.items).state 1 N (λ t lt z. absurd (let e = empty t in omega arith));
        from = λ t lt full. absurd (let e = empty t in omega arith);
      }
