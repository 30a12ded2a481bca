-- The items that wait: those that were dispatched, of which the first were handed out.
use Rattle.std.proofs.Common.{◌≡◌, Option, Some, None, List, [], ◌∷◌, ◌++◌, sym, ap, ◌∙◌, subst}
use Rattle.std.specs.Option.{MatchOption}
use Rattle.std.proofs.lemmas.List.{append_assoc, map-append}
use Rattle.ck_epoch.specs.declared.item.Item.{Item}
use Rattle.ck_epoch.specs.declared.item.Retired.{Retired}
use Rattle.ck_registry.specs.Deferred.{items_of, IsLeftOf}

-- items go behind those that wait
pub waits_more : (waiting : List Item) (dispatched more : List Retired) → IsLeftOf waiting dispatched → IsLeftOf (waiting ++ items_of more) (dispatched ++ more)
waits_more waiting dispatched more h = (h.0, sym (append_assoc h.0 waiting (items_of more)) ∙ (ap (λ (ys : List Item). ys ++ items_of more) h.1 ∙ sym (map-append (λ (r : Retired). r.item) dispatched more)))

-- the first of them is handed out
pub waits_less : (i : Item) (waiting left : List Item) (dispatched : List Retired) → waiting ≡ i ∷ left → IsLeftOf waiting dispatched → IsLeftOf left dispatched
waits_less i waiting left dispatched e h = (h.0 ++ i ∷ [], append_assoc h.0 (i ∷ []) left ∙ (ap (λ (ys : List Item). h.0 ++ ys) (sym e) ∙ h.1))

-- where one is left, it is the first of those that wait
pub next_left : (waiting left : List Item) (dispatched : List Retired) (next : Option Item) → MatchOption next ((waiting ≡ []) × (left ≡ [])) (λ (i : Item). waiting ≡ i ∷ left) → IsLeftOf waiting dispatched → IsLeftOf left dispatched
next_left waiting left dispatched None m h = subst (λ (ws : List Item). IsLeftOf ws dispatched) (m.0 ∙ sym m.1) h
next_left waiting left dispatched (Some i) m h = waits_less i waiting left dispatched m h

pub next_was : (waiting left : List Item) (dispatched : List Retired) (next : Option Item) → MatchOption next ((waiting ≡ []) × (left ≡ [])) (λ (i : Item). waiting ≡ i ∷ left) → IsLeftOf waiting dispatched
    → MatchOption next (Unit {0}) (λ (i : Item). IsLeftOf (i ∷ left) dispatched)
next_was waiting left dispatched None m h = tt
next_was waiting left dispatched (Some i) m h = subst (λ (ws : List Item). IsLeftOf ws dispatched) m h
