-- The clearing of a new region.
use Rattle.std.proofs.Common.{◌≡◌, ℕ, zero, suc, ◌+◌, ◌-◌, ◌*◌, ◌/◌, ◌^◌, ◌<◌, ◌≤◌, List, [], ◌∷◌, ◌++◌, map, sym, ap, ◌∙◌, subst, arith}
use Rattle.std.proofs.lemmas.List.{map-append}
use Rattle.ck_run.specs.declared.account.Step.{Step}
use Rattle.ck_run.specs.declared.account.Step.TheVariants.{Store}
use Rattle.ck_run.specs.declared.account.Entry.{Entry}
use Rattle.ck_run.specs.Run.{further}
use Rattle.ck_epoch.specs.State.{Origin, Token}
use Rattle.ck_htlaw.specs.Host.{Host, lies}
use Rattle.ck_htlaw.specs.Layout.{log_of, table_words}
use Rattle.ck_htlaw.specs.Known.{IsRoot}
use Rattle.ck_htlaw.specs.Table.{Layout}
use Rattle.ck_htwrite.specs.Rebuild.{clear_steps}
use Rattle.ck_htwrite.specs.Writes.{counters_in, MayMake}

-- one slot more
more_clear : (l : Layout) (root i n : ℕ) → clear_steps l root i (suc n) ≡ clear_steps l root i n ++ Store (l.word root (i + n) 0) 0 ∷ []
more_clear l root i zero = ap (λ (k : ℕ). Store (l.word root k 0) 0 ∷ []) (let z : i ≡ i + 0 = omega arith in z)
more_clear l root i (suc n) = ap (λ (ss : List Step). Store (l.word root i 0) 0 ∷ ss) (more_clear l root (suc i) n
    ∙ ap (λ (k : ℕ). clear_steps l root (suc i) n ++ Store (l.word root k 0) 0 ∷ []) (let z : suc i + n ≡ i + suc n = omega arith in z))

module _ {D : Type 0} (h : Host D) (o : Origin D) (root : ℕ) where
  abbrev l : Layout
  l = lies h o

  -- the clearing of n slots from slot i on
  abbrev pub clears : ℕ → ℕ → List Entry
  clears i n = map further (clear_steps l root i n)

  abbrev pub clear : ℕ → Entry
  clear i = further (Store (l.word root i 0) 0)

  -- the next one
  pub clears_next : (t : Token D) (i n : ℕ) → i < n → MayMake h o t (clears i (n - i)) → MayMake h o t (clear i ∷ clears (i + 1) (n - (i + 1)))
  clears_next t i n low due = subst (λ (es : List Entry). MayMake h o t es) (ap (clears i) (let z : n - i ≡ suc (n - (i + 1)) = omega arith in z)
      ∙ ap (λ (k : ℕ). clear i ∷ clears k (n - (i + 1))) (let z : suc i ≡ i + 1 = omega arith in z)) due

  pub clear_word : (i : ℕ) → l.base + (root / 32 + 4 * i + 0) ≡ l.word root i 0
  clear_word i = omega arith

  pub clear_low : IsRoot (counters_in h o) root → (i : ℕ) → i < 2 ^ log_of root → root / 32 + 4 * i + 0 < table_words (counters_in h o)
  clear_low ok i low = let a = ok.piece.high in omega arith

  pub listed : (i : ℕ) → 1 ≤ i → clears 1 (i - 1) ++ clear i ∷ [] ≡ clears 1 (i + 1 - 1)
  listed i some = sym (map-append further (clear_steps l root 1 (i - 1)) (Store (l.word root i 0) 0 ∷ []))
      ∙ (ap (λ (k : ℕ). map further (clear_steps l root 1 (i - 1) ++ Store (l.word root k 0) 0 ∷ [])) (let z : i ≡ 1 + (i - 1) = omega arith in z)
      ∙ (ap (map further) (sym (more_clear l root 1 (i - 1))) ∙ ap (clears 1) (let z : suc (i - 1) ≡ i + 1 - 1 = omega arith in z)))
