use Rattle.std.proofs.Common.{◌≡◌, ◌≢◌, ℕ, ◌^◌, ◌<◌, sym, subst, arith}
use mathlib.Core.Logic.{dite}
use native.Mathlib.Decide.{ℕ_discrete}
use Rattle.ck_history.specs.Map.{Map}
use Rattle.ck_htplan.proofs.Orders.{four}
use Rattle.ck_htplan.specs.Region.{view_of}
use Rattle.ck_htlaw.specs.Layout.{log_of}
use Rattle.ck_htwrite.specs.Entries.{AreGathered, key_in}
use Rattle.ck_htwrite.proofs.Gathering.{none_gathered, gathers_full, gathers_none}
use Rattle.ck_htwrite.proofs.entries.gather.Goals as goal

pub loop-slot-init : goal.loop-slot-init
loop-slot-init c m h = subst (λ (some : Map ℕ). AreGathered (view_of c.args.state.now.words.items) m 0 some) (sym c.new-pairs.ensures.empty) (none_gathered (view_of c.args.state.now.words.items) m)

pub add_slot-requires-clause-inside : goal.add_slot-requires-clause-inside
add_slot-requires-clause-inside c = let low = c.loop-slot-test.true in let is = c.slots-slot-end.ensures in let long = c.requires.long in let words = four (log_of c.args.state.now.root) in omega arith

pub add_slot-requires-clause-key : goal.add_slot-requires-clause-key
add_slot-requires-clause-key c full =
    let v = view_of c.args.state.now.words.items in let h = c.requires.map.1 in let low : c.loop-slot.slot < 2 ^ log_of c.args.state.now.root = subst (λ (n : ℕ). c.loop-slot.slot < n) c.slots-slot-end.ensures c.loop-slot-test.true in
    h.keys (key_in v c.loop-slot.slot) (v.value c.loop-slot.slot) (h.full c.loop-slot.slot low full)

pub loop-slot-preserved : goal.loop-slot-preserved
loop-slot-preserved c m h =
    let v = view_of c.args.state.now.words.items in let n = 2 ^ log_of c.args.state.now.root in let slot : ℕ = c.loop-slot.slot in let low : slot < n = subst (λ (k : ℕ). slot < k) c.slots-slot-end.ensures c.loop-slot-test.true in
    let some = c.loop-slot.pairs.entries in let more = c.add_slot.new.pairs.entries in let g = c.loop-slot.invariant m h in
    dite (ℕ_discrete (v.state slot) 1)
    (λ (is : v.state slot ≡ 1). gathers_full v m n h slot low some g is more (c.in_ok-add_slot.ensures.full is))
    (λ (not : v.state slot ≢ 1). gathers_none v m n h slot low some g not more (c.in_ok-add_slot.ensures.other not))

pub returns : goal.returns
returns c = record { pairs = λ m h. subst (λ (k : ℕ). AreGathered (view_of c.args.state.now.words.items) m k c.loop-slot.pairs.entries) (let end = c.loop-slot-test.false in let auto = c.loop-slot.auto.slot-end in let is = c.slots-slot-end.ensures in let z : c.loop-slot.slot ≡ 2 ^ log_of c.args.state.now.root = omega arith in z) (c.loop-slot.invariant m h) }
