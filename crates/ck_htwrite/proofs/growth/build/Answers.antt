use Rattle.std.proofs.Common.{◌≡◌, ℕ, ◌-◌, ◌*◌, ◌^◌, ◌<◌, ◌≤◌, List, [], ◌∷◌, ◌++◌, map, length, refl, sym, ap, ◌∙◌, subst, arith}
use Rattle.std.proofs.lemmas.List.{map-append}
use Rattle.std.proofs.lemmas.Nat.{pow_pos}
use Rattle.std.proofs.Math.Nat.{pow-le-pow_right}
use Rattle.ck_run.specs.declared.account.Step.{Step}
use Rattle.ck_run.specs.declared.account.Step.TheVariants.{Store}
use Rattle.ck_run.specs.declared.account.Entry.{Entry}
use Rattle.ck_run.specs.Run.{entry, further}
use Rattle.ck_run.specs.Tokens.{table}
use Rattle.ck_epoch.specs.State.{base_of}
use Rattle.ck_htlaw.specs.Actions.{answer_to}
use Rattle.ck_htlaw.specs.Calls.{opening_of}
use Rattle.ck_htlaw.specs.Host.{host, first, inner, lies}
use Rattle.ck_htlaw.specs.Known.{knows}
use Rattle.ck_htlaw.specs.Layout.{log_of}
use Rattle.ck_htwrite.specs.declared.state.HtState.{HtState}
use Rattle.ck_htwrite.specs.Rebuild.{clear_steps}
use Rattle.ck_htwrite.specs.Writes.{counters_in, IsFreeBy, Steps, WriterAt}
use Rattle.ck_htwrite.proofs.Making.{steps_then}
use Rattle.ck_htwrite.proofs.Begun.{begin_step, can_clear, begun}
use Rattle.ck_htwrite.proofs.Building.{begun_at, copies_start, fits_room, with_spare}
use Rattle.ck_htwrite.proofs.growth.build.Goals as goal

pub begin-requires-clause-root : goal.begin-requires-clause-root
begin-requires-clause-root g c = c.requires.can.is_root

pub begin-requires-clause-due : goal.begin-requires-clause-due
begin-requires-clause-due g c =
    let h = host g.D.Client.meaning g.D.Within.place g.D.Within.part in let o = c.args.domain.now.origin in let client = (inner h o).config.client in let w0 = c.args.writer.now in let root : ℕ = c.args.root in let d = c.requires.due in
    (d.0, d.1, begin_step (base_of (inner h o)) (first h o) client root c.requires.can.is_root d.0 d.2 g.O.Opens.opens d.4 (IsFreeBy h o w0.token d.0) d.5)

pub clear_rest-requires-clause-root : goal.clear_rest-requires-clause-root
clear_rest-requires-clause-root g c = c.requires.can.is_root

pub clear_rest-requires-clause-token : goal.clear_rest-requires-clause-token
clear_rest-requires-clause-token g c = c.begin.ensures.step.is_token

pub clear_rest-requires-clause-table : goal.clear_rest-requires-clause-table
clear_rest-requires-clause-table g c = ap (λ w. table w.token) c.begin.ensures.step.made ∙ c.requires.table

pub clear_rest-requires-clause-due : goal.clear_rest-requires-clause-due
clear_rest-requires-clause-due g c =
    let h = host g.D.Client.meaning g.D.Within.place g.D.Within.part in let o = c.args.domain.now.origin in let client = (inner h o).config.client in let w0 = c.args.writer.now in let root : ℕ = c.args.root in let d = c.requires.due in let fl = base_of (inner h o) in let ba = first h o in let ok = c.requires.can.is_root in
    let at1 = begun_at fl ba client root d.0 c.args.state.now c.requires.can d.3 d.2 g.O.Opens.opens d.4 (knows h o w0.token) (knows h o c.begin.new.writer.token) (knows h o c.begin.new.writer.token) (knows h o w0.token).due (knows h o w0.token).log (record { local = d.1; answer = refl; log = refl }) c.begin.ensures.step.knows_now in
    let some = pow_pos (log_of root) in
    (begun fl ba client root ok d.0 d.2 g.O.Opens.opens d.4, at1.local, can_clear fl ba client root ok d.0 g.O.Opens.opens (2 ^ log_of root - 1) 1 (begun fl ba client root ok d.0 d.2 g.O.Opens.opens d.4).words (omega arith))

pub blank-requires : goal.blank-requires
blank-requires g c =
    let h = host g.D.Client.meaning g.D.Within.place g.D.Within.part in let o = c.args.domain.now.origin in let root : ℕ = c.args.root in let d = c.requires.due in
    let two : 0 < 2 = omega arith in let p : 2 ^ log_of root ≤ 2 ^ 19 = pow-le-pow_right two c.requires.can.is_root.few in
    let a = fits_room (counters_in h o) root c.requires.can.is_root in let b = d.3.mirrors.shape.other_room in omega arith

pub copy_all-requires-clause-token : goal.copy_all-requires-clause-token
copy_all-requires-clause-token g c = c.clear_rest.ensures.steps.is_token

pub copy_all-requires-clause-table : goal.copy_all-requires-clause-table
copy_all-requires-clause-table g c = ap (λ w. table w.token) c.clear_rest.ensures.steps.made ∙ (ap (λ w. table w.token) c.begin.ensures.step.made ∙ c.requires.table)

pub copy_all-requires-clause-can : goal.copy_all-requires-clause-can
copy_all-requires-clause-can g c = let can = c.requires.can in record { is_root = can.is_root; apart = can.apart; room = can.room; once = can.once }

pub copy_all-requires-clause-few : goal.copy_all-requires-clause-few
copy_all-requires-clause-few g c = c.requires.due.3.mirrors.shape.is_root.few

pub copy_all-requires-clause-due : goal.copy_all-requires-clause-due
copy_all-requires-clause-due g c =
    let d = c.requires.due in let p = d.0 in let idles = d.2 in let r = d.3 in let begins = d.4 in
    let h = host g.D.Client.meaning g.D.Within.place g.D.Within.part in let o = c.args.domain.now.origin in let client = (inner h o).config.client in let w0 = c.args.writer.now in let root : ℕ = c.args.root in let fl = base_of (inner h o) in let ba = first h o in let can = c.requires.can in
    let s : HtState = record c.args.state.now { spare = c.blank.new.words } in
    let two : 0 < 2 = omega arith in let q : 2 ^ log_of root ≤ 2 ^ 19 = pow-le-pow_right two can.is_root.few in
    let long : length c.blank.new.words.items ≡ 4 * 2 ^ log_of root = (let e = c.blank.ensures.length in omega arith) in
    let due = (knows h o w0.token).due in let told = (knows h o w0.token).log in let at : WriterAt (knows h o w0.token) p due told = record { local = d.1; answer = refl; log = refl } in (
      p,
      g.O.Opens.opens,
      answer_to (lies h o) p (opening_of g.O.Opens.opens),
      told,
      copies_start fl ba client root p s (record { is_root = can.is_root; apart = can.apart; room = can.room; once = can.once }) (with_spare (counters_in h o) (lies h o) p c.args.state.now s c.blank.ensures.room r) idles g.O.Opens.opens begins (knows h o w0.token) (knows h o c.begin.new.writer.token) (knows h o c.clear_rest.new.writer.token) due told at c.begin.ensures.step.knows_now c.clear_rest.ensures.steps.knows_now long c.blank.ensures.zeros,
    )

pub returns-clause-steps : goal.returns-clause-steps
returns-clause-steps g c =
    let h = host g.D.Client.meaning g.D.Within.place g.D.Within.part in let o = c.args.domain.now.origin in let l = lies h o in let w0 = c.args.writer.now in let root : ℕ = c.args.root in
    let rest : List Step = clear_steps l root 1 (2 ^ log_of root - 1) in let copied = c.copy_all.ensures.steps in
    let e : Entry = entry g.O.Opens.opens (Store (l.word root 0 0) 0) in
    let both = steps_then h o c.begin.new.writer c.clear_rest.new.writer c.copy_all.new.writer (map further rest) (map further copied.0) c.clear_rest.ensures.steps copied.1 in
    (rest ++ copied.0, subst (λ (es : List Entry). Steps h o w0 (e ∷ es) c.copy_all.new.writer) (sym (map-append further rest copied.0)) (steps_then h o w0 c.begin.new.writer c.copy_all.new.writer (e ∷ []) (map further rest ++ map further copied.0) c.begin.ensures.step both))

pub returns-clause-state : goal.returns-clause-state
returns-clause-state g c = c.copy_all.ensures.state

pub returns-clause-at : goal.returns-clause-at
returns-clause-at g c p due told at idles r begins =
    let h = host g.D.Client.meaning g.D.Within.place g.D.Within.part in let o = c.args.domain.now.origin in let client = (inner h o).config.client in let w0 = c.args.writer.now in let root : ℕ = c.args.root in let fl = base_of (inner h o) in let ba = first h o in let can = c.requires.can in
    let s : HtState = record c.args.state.now { spare = c.blank.new.words } in
    let two : 0 < 2 = omega arith in let q : 2 ^ log_of root ≤ 2 ^ 19 = pow-le-pow_right two can.is_root.few in
    let long : length c.blank.new.words.items ≡ 4 * 2 ^ log_of root = (let e = c.blank.ensures.length in omega arith) in
    c.copy_all.ensures.at p g.O.Opens.opens (answer_to (lies h o) p (opening_of g.O.Opens.opens)) told
    (copies_start fl ba client root p s (record { is_root = can.is_root; apart = can.apart; room = can.room; once = can.once }) (with_spare (counters_in h o) (lies h o) p c.args.state.now s c.blank.ensures.room r) idles g.O.Opens.opens begins (knows h o w0.token) (knows h o c.begin.new.writer.token) (knows h o c.clear_rest.new.writer.token) due told at c.begin.ensures.step.knows_now c.clear_rest.ensures.steps.knows_now long c.blank.ensures.zeros)
