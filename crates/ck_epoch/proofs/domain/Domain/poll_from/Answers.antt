use Rattle.std.proofs.Common.{◌-◌, ◌%◌, List, ◌∙◌, ap, arith}
use Rattle.ck_run.specs.Tokens.{origin}
use Rattle.ck_epoch.specs.State.{Token, Retirement, queue, off_list, state}
use Rattle.ck_epoch.specs.Lists.{on}
use Rattle.ck_epoch.specs.declared.item.Retired.{Retired}
use Rattle.ck_epoch.specs.declared.answers.Poll.TheVariants.{Clear, Moved, Blocked}
use Rattle.ck_epoch.proofs.Polled.{config_is, were_retired, none_on, none_on_yet, left_retired, left_queue, rest_retired, rest_queue, writer_after, calls_after, kept_one, kept_two, gone_one, gone_two, gone_all, told_pending, told_dispatched, told_count, told_waiting}
use Rattle.ck_epoch.proofs.Emptying.{are_dispatched, waits_two, waits_all, count_two, count_all}
use Rattle.ck_epoch.proofs.domain.Domain.poll_from.Goals as goal

pub dispatch_list-before-requires-clause-items : goal.dispatch_list-before-requires-clause-items
dispatch_list-before-requires-clause-items g c =
    let meaning = g.C.Client.meaning in
    let t = c.writer.inside.token in let b = c.writer.inside.backlog in let about = c.self.inside.about in
    let config = config_is c.writer.view_is c.requires.table c.self.view_is c.self.invariant.told in
    let scanning = c.start_poll-epoch.ensures.scanning in
    let list = (c.start_poll-epoch.result - 2) % 4 in
    are_dispatched (meaning.retires about.client) list b.lists (queue (state t).pending) _ c.writer.invariant.0.pending (omega arith) (were_retired meaning t b c.writer.invariant.0 about config)
    (ap (λ (ks : List Retirement). on list (queue ks)) scanning.pending ∙ none_on_yet _ list (state t).pending)

pub dispatch_list-rest-requires-clause-items : goal.dispatch_list-rest-requires-clause-items
dispatch_list-rest-requires-clause-items g c =
    let meaning = g.C.Client.meaning in
    let t = c.writer.inside.token in let b = c.writer.inside.backlog in let about = c.self.inside.about in
    let config = config_is c.writer.view_is c.requires.table c.self.view_is c.self.invariant.told in
    let did = c.in-Current.ensures.outcome t c.start_poll-epoch.ensures.scanning in
    let first = (c.start_poll-epoch.result - 2) % 4 in
    let list = (c.start_poll-epoch.result - 1) % 4 in
    are_dispatched (meaning.retires about.client) list _ (queue (off_list first (state t).pending)) _
    (left_queue meaning t b c.writer.invariant.0 about config first _ c.dispatch_list-before.ensures.lists) (omega arith) (left_retired meaning t b c.writer.invariant.0 about config first)
    (ap (λ (ks : List Retirement). on list (queue ks)) did.1.pending_is ∙ none_on list (off_list first (state t).pending))

pub dispatch_all-rest-requires-clause-items : goal.dispatch_all-rest-requires-clause-items
dispatch_all-rest-requires-clause-items g c list low =
    let meaning = g.C.Client.meaning in
    let t = c.writer.inside.token in let b = c.writer.inside.backlog in let about = c.self.inside.about in
    let config = config_is c.writer.view_is c.requires.table c.self.view_is c.self.invariant.told in
    let did = c.in-Clear.ensures.outcome t c.start_poll-epoch.ensures.scanning in
    let first = (c.start_poll-epoch.result - 2) % 4 in
    are_dispatched (meaning.retires about.client) list _ (queue (off_list first (state t).pending)) _
    (left_queue meaning t b c.writer.invariant.0 about config first _ c.dispatch_list-before.ensures.lists) low (left_retired meaning t b c.writer.invariant.0 about config first)
    (ap (λ (ks : List Retirement). on list (queue ks)) did.1.pending_is)

pub invariant_of-writer-in-Current : goal.invariant_of-writer-in-Current
invariant_of-writer-in-Current g c =
    let meaning = g.C.Client.meaning in
    let t = c.writer.inside.token in let b = c.writer.inside.backlog in let inv = c.writer.invariant.0 in let about = c.self.inside.about in
    let config = config_is c.writer.view_is c.requires.table c.self.view_is c.self.invariant.told in
    let did = c.in-Current.ensures.outcome t c.start_poll-epoch.ensures.scanning in
    let left = c.dispatch_list-before.ensures.lists in let rest = c.dispatch_list-rest.ensures.lists in (
      writer_after meaning t b inv about config c.scan.new.token _ _ _ c.dispatch_list-rest.new.self did.1 (ap (λ (x : Token g.row.C.Denot). (origin x).config) did.0.steps ∙ config)
          (rest_queue meaning t b inv about config _ _ left _ _ rest)
          (rest_retired meaning t b inv about config _ _ left _),
      calls_after meaning t b inv about config c.scan.new.token _ c.writer.inside.calls _ _ did.1 c.writer.invariant.1,
    )

pub invariant_of-writer-in-Behind : goal.invariant_of-writer-in-Behind
invariant_of-writer-in-Behind g c =
    let meaning = g.C.Client.meaning in
    let t = c.writer.inside.token in let b = c.writer.inside.backlog in let inv = c.writer.invariant.0 in let about = c.self.inside.about in
    let config = config_is c.writer.view_is c.requires.table c.self.view_is c.self.invariant.told in
    let did = c.in-Behind.ensures.outcome t c.start_poll-epoch.ensures.scanning in
    let left = c.dispatch_list-before.ensures.lists in (
      writer_after meaning t b inv about config c.scan.new.token _ _ _ c.dispatch_list-before.new.self did.1 (ap (λ (x : Token g.row.C.Denot). (origin x).config) did.0.steps ∙ config)
          (left_queue meaning t b inv about config _ _ left)
          (left_retired meaning t b inv about config _),
      calls_after meaning t b inv about config c.scan.new.token _ c.writer.inside.calls _ _ did.1 c.writer.invariant.1,
    )

pub returns-in-Clear-clause-waiting : goal.returns-in-Clear-clause-waiting
returns-in-Clear-clause-waiting g c =
    let home = g.C.Client.meaning.home c.self.inside.about.client in let w = c.writer.inside in let first = c.dispatch_list-before in
    told_waiting c.writer.view_is c.start_poll-epoch.ensures.scanning.epoch.0 (Clear 0) g.C.Client.meaning c.self.inside.about c.self.inside.words c.args.self.now c.self.view_is c.self.invariant.told _
    (waits_all w.backlog.lists first.new.self.lists (queue (state w.token).pending) c.writer.invariant.0.pending ((c.start_poll-epoch.result - 2) % 4) (omega arith) first.ensures.lists (λ (r : Retired). home r.item) w.backlog.waiting first.new.self.waiting first.ensures.waiting _ c.dispatch_all-rest.ensures.waiting)

pub returns-in-Clear-clause-count : goal.returns-in-Clear-clause-count
returns-in-Clear-clause-count g c =
    let w = c.writer.inside in let first = c.dispatch_list-before in
    told_count c.writer.view_is c.start_poll-epoch.ensures.scanning.epoch.0 (Clear 0) _
    (count_all w.backlog.lists first.new.self.lists (queue (state w.token).pending) c.writer.invariant.0.pending ((c.start_poll-epoch.result - 2) % 4) (omega arith) first.ensures.lists first.result first.ensures.count c.dispatch_all-rest.result c.dispatch_all-rest.ensures.count)

pub returns-in-Current-clause-waiting : goal.returns-in-Current-clause-waiting
returns-in-Current-clause-waiting g c =
    let home = g.C.Client.meaning.home c.self.inside.about.client in let w = c.writer.inside in let first = c.dispatch_list-before in
    told_waiting c.writer.view_is c.start_poll-epoch.ensures.scanning.epoch.0 (Moved 0 0) g.C.Client.meaning c.self.inside.about c.self.inside.words c.args.self.now c.self.view_is c.self.invariant.told _
    (waits_two w.backlog.lists first.new.self.lists (queue (state w.token).pending) c.writer.invariant.0.pending ((c.start_poll-epoch.result - 2) % 4) (omega arith) first.ensures.lists (λ (r : Retired). home r.item) w.backlog.waiting first.new.self.waiting first.ensures.waiting _ ((c.start_poll-epoch.result - 1) % 4) (omega arith) c.dispatch_list-rest.ensures.waiting)

pub returns-in-Current-clause-count : goal.returns-in-Current-clause-count
returns-in-Current-clause-count g c =
    let w = c.writer.inside in let first = c.dispatch_list-before in
    told_count c.writer.view_is c.start_poll-epoch.ensures.scanning.epoch.0 (Moved 0 0) _
    (count_two w.backlog.lists first.new.self.lists (queue (state w.token).pending) c.writer.invariant.0.pending ((c.start_poll-epoch.result - 2) % 4) (omega arith) first.ensures.lists first.result first.ensures.count c.dispatch_list-rest.result ((c.start_poll-epoch.result - 1) % 4) (omega arith) c.dispatch_list-rest.ensures.count)

pub returns-in-Current-clause-pending : goal.returns-in-Current-clause-pending
returns-in-Current-clause-pending g c =
    let t = c.writer.inside.token in let scanning = c.start_poll-epoch.ensures.scanning in let did = c.in-Current.ensures.outcome t scanning in
    told_pending c.writer.view_is scanning.epoch.0 (Moved 0 0) _ (ap queue did.1.pending_is ∙ kept_two c.start_poll-epoch.result (state t).pending)

pub returns-in-Behind-clause-pending : goal.returns-in-Behind-clause-pending
returns-in-Behind-clause-pending g c =
    let t = c.writer.inside.token in let scanning = c.start_poll-epoch.ensures.scanning in let did = c.in-Behind.ensures.outcome t scanning in
    told_pending c.writer.view_is scanning.epoch.0 (Blocked 0 0 0) _ (ap queue did.1.pending_is ∙ kept_one c.start_poll-epoch.result (state t).pending)

pub returns-in-Clear-clause-dispatched : goal.returns-in-Clear-clause-dispatched
returns-in-Clear-clause-dispatched g c =
    let t = c.writer.inside.token in let scanning = c.start_poll-epoch.ensures.scanning in let did = c.in-Clear.ensures.outcome t scanning in
    told_dispatched c.writer.view_is scanning.epoch.0 (Clear 0) _ (ap queue did.1.dispatched_is ∙ gone_all c.start_poll-epoch.result (state t))

pub returns-in-Current-clause-dispatched : goal.returns-in-Current-clause-dispatched
returns-in-Current-clause-dispatched g c =
    let t = c.writer.inside.token in let scanning = c.start_poll-epoch.ensures.scanning in let did = c.in-Current.ensures.outcome t scanning in
    told_dispatched c.writer.view_is scanning.epoch.0 (Moved 0 0) _ (ap queue did.1.dispatched_is ∙ gone_two c.start_poll-epoch.result (state t))

pub returns-in-Behind-clause-dispatched : goal.returns-in-Behind-clause-dispatched
returns-in-Behind-clause-dispatched g c =
    let t = c.writer.inside.token in let scanning = c.start_poll-epoch.ensures.scanning in let did = c.in-Behind.ensures.outcome t scanning in
    told_dispatched c.writer.view_is scanning.epoch.0 (Blocked 0 0 0) _ (ap queue did.1.dispatched_is ∙ gone_one c.start_poll-epoch.result (state t))
