use Rattle.std.proofs.Common.{ℕ, ap, subst}
use Rattle.ck_history.specs.declared.update.Update.{Update}
use Rattle.ck_history.specs.declared.update.Update.TheVariants.{Set, Put}
use Rattle.ck_ht.specs.Events.{hand_events}
use Rattle.ck_jobs.specs.OnHt.{HasRoomAfter}
use Rattle.ck_jobs.proofs.Ends.{kept_writer}
use Rattle.ck_jobs.proofs.Tables.{room_for}
use Rattle.ck_jobs.proofs.on_ht.OnHt.make.Goals as goal

pub set-requires-clause-room : goal.set-requires-clause-room
set-requires-clause-room g c =
    let h = c.args.self.now.table in let t = c.args.hand.now.writer.token in
    room_for h t (Set c.in-Set.key c.in-Set.value) (subst (λ (u : Update ℕ). HasRoomAfter h (hand_events h.origin t) u) c.in-Set.is c.requires.room)

pub put-requires-clause-room : goal.put-requires-clause-room
put-requires-clause-room g c =
    let h = c.args.self.now.table in let t = c.args.hand.now.writer.token in
    room_for h t (Put c.in-Put.key c.in-Put.value) (subst (λ (u : Update ℕ). HasRoomAfter h (hand_events h.origin t) u) c.in-Put.is c.requires.room)

pub returns-in-Set-clause-writer : goal.returns-in-Set-clause-writer
returns-in-Set-clause-writer g c = let e = c.set.ensures in kept_writer _ _ _ _ c.args.self.now.table c.args.hand.now.writer c.set.new.w.writer e.table (ap (λ w. w.handler) e.same) c.requires.writer

pub returns-in-Put-clause-writer : goal.returns-in-Put-clause-writer
returns-in-Put-clause-writer g c = let e = c.put.ensures in kept_writer _ _ _ _ c.args.self.now.table c.args.hand.now.writer c.put.new.w.writer e.table (ap (λ w. w.handler) e.same) c.requires.writer

pub returns-in-Tidy-clause-writer : goal.returns-in-Tidy-clause-writer
returns-in-Tidy-clause-writer g c = let e = c.tidy.ensures in kept_writer _ _ _ _ c.args.self.now.table c.args.hand.now.writer c.tidy.new.w.writer e.table (ap (λ w. w.handler) e.same) c.requires.writer

pub returns-in-Del-clause-writer : goal.returns-in-Del-clause-writer
returns-in-Del-clause-writer g c = let e = c.remove.ensures in kept_writer _ _ _ _ c.args.self.now.table c.args.hand.now.writer c.remove.new.w.writer e.table (ap (λ w. w.handler) e.same) c.requires.writer
