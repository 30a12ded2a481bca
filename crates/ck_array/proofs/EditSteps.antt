-- An edit of the pending list: that the array allows its load, and where it leaves the writer.
use Rattle.std.proofs.Common.{◌≡◌, ℕ, ◌+◌, Bool, true, cond, ◌&&◌, leb, ltb, inl, List, [], ◌∷◌, ◌++◌, refl, sym, ap, ◌∙◌, subst, arith}
use Rattle.ck_run.specs.declared.account.Step.TheVariants.{Load}
use Rattle.ck_run.specs.declared.account.Entry.{Entry}
use Rattle.ck_run.specs.Run.{entry}
use Rattle.ck_run.specs.Tokens.{adding, origin}
use Rattle.ck_history.specs.declared.edit.Edit.{Edit}
use Rattle.ck_history.specs.declared.edit.Edit.TheVariants.{Add, Drop, Commit}
use Rattle.ck_history.specs.Lists.{ListState, list_step, empty_lists, lists_after_from}
use Rattle.ck_epoch.specs.declared.item.Item.{Item}
use Rattle.ck_epoch.specs.declared.item.Retired.{Retired}
use Rattle.ck_epoch.specs.State.{Origin, Token, state}
use Rattle.ck_epoch.specs.Ends.{IsDomainToken, Writer}
use Rattle.ck_epoch.specs.Calls.{MayFollow, SameItemsAndEpoch}
use Rattle.ck_arena.specs.Arena.{IsKept, unreturned}
use Rattle.ck_epoch.specs.Within.{IsWithin}
use Rattle.ck_arraylaw.specs.Calls.{committing, opening_of}
use Rattle.ck_arraylaw.specs.Host.{Host, floor_word, base_word}
use Rattle.ck_arraylaw.specs.Layout.{array_words, IsArrayItem}
use Rattle.ck_arraylaw.specs.Array.{WriterState, LocalState, writer, MayBegin, MayIf, begun, after_own, after_other, is_array_word, array_next}
use Rattle.ck_arraylaw.specs.Regions.{place_in}
use Rattle.ck_arraylaw.specs.Client.{BeginsCommit, array}
use Rattle.ck_arraylaw.specs.Known.{knows}
use Rattle.ck_arraylaw.proofs.Members.{after-append}
use Rattle.ck_arraylaw.proofs.Tokens.{knows_next, may_step}
use Rattle.ck_arraylaw.proofs.Words.{range_in}
use Rattle.ck_array.specs.declared.state.ArrayState.{ArrayState}
use Rattle.ck_array.specs.Writes.{opens_of, idle, region_piece, IsReady}

-- an edit of the pending list begins no commit
begins_none : (e : Edit) → (e ≡ Commit → ⊥) → opening_of (opens_of e) ≡ committing → ⊥
begins_none (Add v) not_commit is = cc
begins_none (Drop v) not_commit is = cc
begins_none Commit not_commit is = not_commit refl

module _ {D : Type 0} (h : Host D) (o : Origin D) (log : List Edit) (region : Item) where
  abbrev f : ℕ
  f = floor_word h o

  abbrev b : ℕ
  b = base_word h o

  own_root : leb b b && ltb b (b + array_words) ≡ true
  own_root = range_in b (b + array_words) b (omega arith) (omega arith)

  may_begin : (e : Edit) → (e ≡ Commit → ⊥) → (n : ℕ) → MayBegin b (idle log region) (opening_of (opens_of e)) (Load b n)
  may_begin (Add v) not_commit n = refl
  may_begin (Drop v) not_commit n = refl
  may_begin Commit not_commit n = absurd (not_commit refl)

  begun_is : (e : Edit) → (e ≡ Commit → ⊥) → (n : ℕ) → begun b (idle log region) (opening_of (opens_of e)) (Load b n) ≡ idle (log ++ e ∷ []) region
  begun_is (Add v) not_commit n = refl
  begun_is (Drop v) not_commit n = refl
  begun_is Commit not_commit n = absurd (not_commit refl)

  pub may_edit : IsWithin array h.client h.place h.part → (t : Token D) → origin t ≡ o → IsDomainToken h.client t → knows h o t ≡ writer (idle log region) → (e : Edit) → (e ≡ Commit → ⊥) → (n : ℕ) → MayFollow h.client t (entry (opens_of e) (Load b n))
  may_edit within t same part local e not_commit n =
      let d : Entry = entry (opens_of e) (Load b n) in
      may_step h o within t same part d (inl (omega arith, omega arith))
      (subst (λ (x : LocalState). MayIf f b (is_array_word f b d.step) x d) (sym local) (subst (λ (own : Bool). MayIf f b own (writer (idle log region)) d) (sym own_root) (may_begin e not_commit n)))
      (λ p is own begins. absurd (begins_none e not_commit (let same : p ≡ idle log region = let z : writer p ≡ writer (idle log region) = sym is ∙ local in cc in subst (λ (q : WriterState). BeginsCommit q.stage (opens_of e)) same begins)))

  pub edited : (t u : Token D) (e : Edit) (n : ℕ) → (e ≡ Commit → ⊥) → knows h o t ≡ writer (idle log region) → u ≡ adding t (entry (opens_of e) (Load b n) ∷ []) → knows h o u ≡ writer (idle (log ++ e ∷ []) region)
  edited t u e n not_commit local made =
      let d : Entry = entry (opens_of e) (Load b n) in
      knows_next h o t u d made ∙ (ap (λ (x : LocalState). array_next f b x d) local
      ∙ (ap (λ (c : Bool). cond c (after_own f b (writer (idle log region)) d) (after_other f b (writer (idle log region)) d)) own_root ∙ ap writer (begun_is e not_commit n)))

-- the lists go on with the edit
pub lists_next : (s : ListState) (log : List Edit) (e : Edit) → s ≡ lists_after_from empty_lists log → (list_step s e).0 ≡ lists_after_from empty_lists (log ++ e ∷ [])
lists_next s log e is = ap (λ (x : ListState). (list_step x e).0) is ∙ sym (after-append empty_lists log (e ∷ []))

-- what isn't given back stays where nothing is retired nor dispatched
pub same_items : {D F : Type 0} (w v : Writer D F) → SameItemsAndEpoch w.token v.token → v.waiting ≡ w.waiting → unreturned (state v.token) v.waiting ≡ unreturned (state w.token) w.waiting
same_items w v same waits i = unreturned (record (state v.token) { pending = same.0 i; dispatched = same.1 i }) (waits i)

-- a writer that made one step on the array's words is ready as before, but for its lists
pub ready_next : {D F : Type 0} (h : Host D) (o : Origin D) (w v : Writer D F) (s s' : ArrayState) (log : List Edit) (e : Entry) (r : IsReady h o w s) → v ≡ record w { token = adding w.token (e ∷ []) } → SameItemsAndEpoch w.token v.token
    → knows h o v.token ≡ writer (idle log s.region) → s'.lists ≡ lists_after_from empty_lists log → s' ≡ record s { lists = s'.lists } → IsReady h o v s'
ready_next {D} {F} h o w v s s' log e r made same local lists is = subst (IsReady h o v) (sym is) record {
  log = log;
  local = local;
  lists = lists;
  inside = r.inside;
  short = r.short;
  arena = r.arena;
  kept = subst (λ (ks : List Retired). IsKept (IsArrayItem (place_in h o)) (place_in h o) (region_piece s.region) ks s.arena) (sym (same_items w v same (ap (λ (x : Writer D F). x.waiting) made))) r.kept;
}
