-- From what contracts see of a table and a token to their fields.
use Rattle.std.proofs.Common.{◌≡◌, ℕ, ◌<◌, ◌++◌, ◌∷◌, [], length, sym, ap, ◌∙◌, subst}
use Rattle.atomic_table.specs.Seated.{TableId}
use Rattle.ck_run.specs.declared.account.Entry.{Entry}
use Rattle.ck_run.specs.declared.account.View.{View}
use Rattle.ck_run.specs.declared.account.Origin.{Origin}
use Rattle.ck_run.specs.Rule.{Follows}
use Rattle.ck_run.specs.Tokens.{Table, Seat, table, MayMake}

module _ {C : Type 0} where
  abbrev pub seat : TableId → View C → Seat C
  seat id v = record { id = id; view = v }

  abbrev pub whole : TableId → Origin C → Table C
  whole id o = record { id = id; origin = o }

  pub same_id : (id id' : TableId) (v : View C) (o : Origin C) (t : Seat C) (w : Table C) → seat id v ≡ t → whole id' o ≡ w → table t ≡ w → id ≡ id'
  same_id id id' v o t w s z e = ap (λ (x : Seat C). x.id) s ∙ (ap (λ (x : Table C). x.id) e ∙ sym (ap (λ (x : Table C). x.id) z))

  pub word_below : (id : TableId) (o : Origin C) (w : Table C) (word : ℕ) → whole id o ≡ w → id.words ≡ length o.words → word < length w.origin.words → word < id.words
  word_below id o w word z count low = subst (λ (n : ℕ). word < n) (sym (count ∙ ap (λ (x : Table C). length x.origin.words) z)) low

  pub may_then : (follows : Follows C) (id : TableId) (v : View C) (t : Seat C) (e : Entry) → seat id v ≡ t → MayMake follows t e → follows v.origin v.own.number (v.own.entries ++ e ∷ [])
  may_then follows id v t e s may = subst (λ (x : Seat C). MayMake follows x e) (sym s) may
