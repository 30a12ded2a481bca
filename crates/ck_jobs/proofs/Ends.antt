-- The ends of a structure in a domain with signals.
use Rattle.std.proofs.Common.{Bool, ◌≡◌, ℕ, zero, suc, ◌+◌, ◌-◌, ◌<◌, ◌≤◌, List, [], ◌∷◌, length, sym, ap, subst, ◌∙◌, arith}
use Rattle.std.specs.Prelude.{All}
use Rattle.std.proofs.lemmas.List.Elements.{All-head, All-tail}
use Rattle.ck_words.specs.declared.back.Back.{Back}
use Rattle.ck_run.specs.Tokens.{table, number}
use Rattle.ck_run.specs.Ends.{fresh}
use Rattle.ck_epoch.specs.declared.item.Item.{Item}
use Rattle.ck_epoch.specs.State.{Origin, Token, depth}
use Rattle.ck_epoch.specs.Calls.{rec_of, Begins}
use Rattle.ck_epoch.specs.Closing.{AreFreshPasses}
use Rattle.ck_epoch.specs.Ends.{Writer, Pass}
use Rattle.ck_epoch.specs.Lists.{Answers}
use Rattle.ck_signal.specs.declared.signals.Signals.{Signals}
use Rattle.ck_signal.specs.Signals.{readers}
use Rattle.ck_history.specs.declared.event.ReaderEvent.{ReaderEvent}
use Rattle.ck_script.specs.declared.line.Numbered.{Numbered}
use Rattle.ck_script.specs.declared.line.AskLine.{AskLine}
use Rattle.ck_pool.specs.Places.{AreUnused}
use Rattle.ck_pool.specs.Served.{AreReady, AreInOrder, AreServed}
use Rattle.ck_pool.proofs.Files.{each_all, served_each}
use Rattle.ck_jobs.specs.Ends.{Structure, IsWriterOf, IsPassOf, eye_of}

module _ {C : Type 0} where
  -- a section is opened by the same pass
  pub begins_number : (t u : Token (Signals C)) → depth t ≡ 0 → Begins t u → number u ≡ number t
  begins_number t u closed h = ap (λ (v : Token (Signals C)). number v) (h.0 closed).1

  -- a writer whose structure and handler are as before
  pub kept_writer : {F : Type 0} (retires : Item → Bool) (home : Item → Back) (pre : F → Item → Type 0) (post : F → Item → Back → Type 0) (s : Structure C) (w v : Writer (Signals C) F)
      → table v.token ≡ table w.token → v.handler ≡ w.handler → IsWriterOf retires home pre post s w → IsWriterOf retires home pre post s v
  kept_writer {F} retires home pre post s w v same handler is = record {
    made = same ∙ is.made;
    handler = subst (λ (f : F). Answers retires home (pre f) (post f)) (sym handler) is.handler;
  }

  -- the passes of a job: as they are made, and as they come back
  module _ {A B : Type 0} (IsReady : Origin (Signals C) → Pass (Signals C) → Type 0) (done : Pass (Signals C) → List (ReaderEvent A B)) (s : Structure C) where
    next_fresh : (n : ℕ) (ps : List (Pass (Signals C))) → AreFreshPasses s (suc n + 1) ps → AreFreshPasses s (suc (suc n)) ps
    next_fresh n ps each = subst (λ (k : ℕ). AreFreshPasses s k ps) (let z : suc n + 1 ≡ suc (suc n) = omega arith in z) each

    fresh_is_ready : (n : ℕ) (p : Pass (Signals C)) → n < readers s.origin → p ≡ record { token = fresh s (suc n); calls = 0; tally = 0 } → IsReady s.origin p → IsPassOf IsReady s p
    fresh_is_ready n p lt new between = record {
      made = ap (λ (q : Pass (Signals C)). table q.token) new;
      is_ready = between;
      closed = ap (λ (q : Pass (Signals C)). depth q.token) new;
      reader = let number : rec_of p.token ≡ suc n - 1 = ap (λ (q : Pass (Signals C)). rec_of q.token) new in omega arith;
    }

    pub fresh_ready : (n : ℕ) (ps : List (Pass (Signals C))) → n + length ps ≤ readers s.origin → AreFreshPasses s (suc n) ps → All (IsReady s.origin) ps → AreReady (eye_of IsReady done s) ps
    fresh_ready n [] le each between f e is = cc
    fresh_ready n (p ∷ ps) le each between zero e is =
        let same : p ≡ e = cc in
        let new = sym same ∙ each.0 in
        let here : IsReady s.origin e = subst (IsReady s.origin) same (All-head (IsReady s.origin) p ps between) in
        (fresh_is_ready n e (omega arith) new here, let none : e.calls ≡ 0 = ap (λ (q : Pass (Signals C)). q.calls) new in omega arith)
    fresh_ready n (p ∷ ps) le each between (suc f) e is = fresh_ready (suc n) ps (omega arith) (next_fresh n ps each.1) (All-tail (IsReady s.origin) p ps between) f e is

    pub fresh_in_order : (n : ℕ) (ps : List (Pass (Signals C))) → AreFreshPasses s (suc n) ps → AreInOrder (eye_of IsReady done s) n ps
    fresh_in_order n [] each = tt
    fresh_in_order n (p ∷ ps) each = (
      ap (λ (q : Pass (Signals C)). rec_of q.token) each.0 ∙ (let z : suc n - 1 ≡ n = omega arith in z),
      subst (λ (k : ℕ). AreInOrder (eye_of IsReady done s) k ps) (let z : suc n ≡ n + 1 = omega arith in z) (fresh_in_order (suc n) ps (next_fresh n ps each.1)),
    )

    pub none_done : (ps : List (Pass (Signals C))) → All (λ (p : Pass (Signals C)). done p ≡ []) ps → AreUnused (eye_of IsReady done s) ps
    none_done [] none = tt
    none_done (p ∷ ps) none = (
      All-head (λ (q : Pass (Signals C)). done q ≡ []) p ps none,
      none_done ps (All-tail (λ (q : Pass (Signals C)). done q ≡ []) p ps none),
    )

    module _ (given : List (Pass (Signals C))) (asks : List (List (Numbered (AskLine A)))) (backs : List (Pass (Signals C))) (bss : List (List B)) (served : AreServed (eye_of IsReady done s) given asks backs bss) where
      pub backs_made : All (λ (p : Pass (Signals C)). table p.token ≡ s) backs
      backs_made = each_all (λ (p : Pass (Signals C)). table p.token ≡ s) backs (λ k e is. (served_each (eye_of IsReady done s) given asks backs bss served k e is).0.made)

      pub backs_ready : All (IsReady s.origin) backs
      backs_ready = each_all (IsReady s.origin) backs (λ k e is. (served_each (eye_of IsReady done s) given asks backs bss served k e is).0.is_ready)
