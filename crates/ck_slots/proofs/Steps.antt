-- The steps of an update on slots: each is one change of one slot, whatever its words are.
use Rattle.std.proofs.Common.{◌≡◌, ℕ, suc, ◌<◌, ◌≤◌, refl, sym, ap, ◌∙◌, arith}
use Rattle.std.specs.Prelude.{Some, None}
use Rattle.ck_slots.specs.Slots.{Order, IsOrder, SlotsView, Holds}
use Rattle.ck_slots.specs.Keeping.{IsSameBut, MayTakeKey}
use Rattle.ck_slots.specs.Looks.{History, GrowsBy, Moving, unmoved, half, raised, StandAt, Steps}
use Rattle.ck_slots.proofs.Stores.{in_map, same_map, removes, ends, replaces}
use Rattle.ck_slots.proofs.Fills.{fills_fresh, fills_move}
use Rattle.ck_slots.proofs.Keeping.{keeps_fewer, keeps_fresh, keeps_move, keeps_value, keeps_removal, keeps_end}

module _ (o : Order) (ok : IsOrder o) (v v' : SlotsView) (h h' : History) (q : ℕ) (st : StandAt o v h q unmoved) where
  -- a slot takes a key
  module _ (k to : ℕ) (room : MayTakeKey o v k to) (but : IsSameBut to v v') (new : Holds o v' k to) (m : GrowsBy h h' q k (Some (v'.value to))) where
    pub fresh_step : h q k ≡ None → Steps o v v' h h' q (suc q) unmoved unmoved
    fresh_step absent = record {
      stand = record { held = fills_fresh o ok v v' (h q) (h' (suc q)) k to st.held room but new m.update absent; knows = tt };
      keeps = λ r j le. keeps_fresh o ok v v' h h' q r le to k but new (Some (v'.value to)) m absent j;
    }

    pub move_step : (from : ℕ) → Holds o v k from → o.step k to < o.step k from → v'.value from ≡ v.value from → Steps o v v' h h' q (suc q) unmoved (half k to from)
    move_step from stood before same = record {
      stand = record {
        held = fills_move o ok v v' (h q) (h' (suc q)) k to st.held room but new m.update from stood before;
        knows = record { last = q; is_last = refl; had = m.same q k (omega arith) ∙ (in_map o v (h q) st.held k from stood ∙ ap Some (sym same)) };
      };
      keeps = λ r j le. keeps_move o ok v v' h h' q r le to k but new (Some (v'.value to)) m from stood before j;
    }

  -- another value in a key's slot
  pub value_step : (k s : ℕ) → IsSameBut s v v' → Holds o v k s → Holds o v' k s → GrowsBy h h' q k (Some (v'.value s)) → Steps o v v' h h' q (suc q) unmoved unmoved
  value_step k s but stood stands m = record {
    stand = record { held = replaces o v v' s but ok k (h q) (h' (suc q)) st.held stood stands m.update; knows = tt };
    keeps = λ r j le. keeps_value o ok v v' h h' q r le s k but stands (Some (v'.value s)) m stood j;
  }

  -- a removal
  pub removal_step : (k s : ℕ) → IsSameBut s v v' → Holds o v k s → v'.state s ≡ 2 → GrowsBy h h' q k None → Steps o v v' h h' q (suc q) unmoved unmoved
  removal_step k s but stood tomb m = record {
    stand = record { held = removes o v v' s but ok k stood tomb (h q) (h' (suc q)) st.held m.update; knows = tt };
    keeps = λ r j le. keeps_removal o ok v v' h h' q r le s but tomb k None m j;
  }

-- the tombstone of a move
pub end_step : (o : Order) (ok : IsOrder o) (v v' : SlotsView) (h : History) (q k to from : ℕ) → StandAt o v h q (raised k to from) → IsSameBut from v v' → v'.state from ≡ 2 → Steps o v v' h h q q (raised k to from) unmoved
end_step o ok v v' h q k to from st but tomb = record {
  stand = record { held = ends o v v' from but ok k st.held.copied.1 tomb to (h q) st.held; knows = tt };
  keeps = λ r j le. keeps_end o ok v v' h h q r le from but tomb k to from j;
}

-- nothing of the map changes
module _ (o : Order) (v : SlotsView) (h h' : History) (q : ℕ) (st : StandAt o v h q unmoved) where
  pub repeat_step : ((p j : ℕ) → p ≤ q → h' p j ≡ h p j) → ((j : ℕ) → h' (suc q) j ≡ h q j) → Steps o v v h h' q (suc q) unmoved unmoved
  repeat_step same now = record {
    stand = record { held = same_map o v (h q) (h' (suc q)) now st.held; knows = tt };
    keeps = λ r j le. keeps_fewer o v v h h' q (suc q) r j (λ p b. same p j b) (omega arith) unmoved unmoved (λ t x. x) (λ i z. z);
  }

pub idle_step : (o : Order) (v : SlotsView) (h : History) (q : ℕ) (g : Moving) → StandAt o v h q g → Steps o v v h h q q g g
idle_step o v h q g st = record { stand = st; keeps = λ r j le. keeps_fewer o v v h h q q r j (λ p b. refl) (omega arith) g g (λ t x. x) (λ i z. z) }

-- the raise of a move
pub raised_stands : (o : Order) (v : SlotsView) (h : History) (q k to from : ℕ) → StandAt o v h q (half k to from) → StandAt o v h q (raised k to from)
raised_stands o v h q k to from st = record { held = st.held; knows = st.knows }
