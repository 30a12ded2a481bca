use Rattle.std.proofs.Common.{◌≡◌, ℕ, ◌+◌, ◌<◌, min, List, [], ◌∷◌, ◌++◌, length, length-append, ap, ◌∙◌, sym, refl, arith, ◌-◌, Result, is_ok, if◌then◌else◌}
use Rattle.std.specs.declared.alloc.AllocFailed.{AllocFailed}
use Rattle.ck_run.specs.Tokens.{adding}
use Rattle.ck_arraylaw.specs.Host.{host, base_word}
use Rattle.ck_arraylaw.specs.Layout.{region_at}
use Rattle.ck_arraylaw.specs.Array.{at_length, at_member, reader}
use Rattle.ck_array.specs.Reads.{member_loads}
use Rattle.ck_array.proofs.Loading.{reading, reading_more, reading_next, reading_done, same_pass, next_member, one_more_load, reading_begun}
use Rattle.ck_array.proofs.part.all.Goals as goal

pub load-member-requires-clause-due : goal.load-member-requires-clause-due
load-member-requires-clause-due g c =
    let inv = c.loop-i.invariant in
    let answers : List (List ℕ) = c.requires.resting.0 in
    let count_is = c.load-count.ensures.local (record { stage = at_length (region_at c.load_root-root.result); answers = answers }) (c.load_root-root.ensures.local answers c.requires.resting.1) in
    let first = reading_begun _ answers c.load_root-root.result c.min-at.result c.load-count.result c.min-most.result count_is c.min-at.ensures (c.min-most.ensures ∙ ap (λ (k : ℕ). min k (32768 - c.min-at.result)) c.min.ensures) in
    let less : length c.loop-i.out.items < c.min-most.result = let filled = inv.filled in let test = c.loop-i-test.true in omega arith in
    record {
      state = record { stage = at_member c.min-at.result c.min-most.result c.loop-i.out.items; answers = answers };
      local = inv.local answers first ∙ ap reader (reading_more answers c.min-at.result c.min-most.result c.loop-i.out.items less);
      own = refl;
      due = λ n. (next_member _ c.min-at.result c.loop-i.i (length c.loop-i.out.items) inv.filled, refl);
    }

pub loop-i-preserved : goal.loop-i-preserved
loop-i-preserved g c =
    let inv = c.loop-i.invariant in
    let pushed : c.push.new.self.items ≡ c.loop-i.out.items ++ c.load-member.result ∷ [] = c.push.ensures.items ∙ ap (λ (r : Result (Unit {0}) (AllocFailed ℕ)). (if is_ok r then c.loop-i.out.items ++ c.load-member.result ∷ [] else c.loop-i.out.items)) c.unwrap.ensures in
    let longer = length-append c.loop-i.out.items (c.load-member.result ∷ []) in
    let capacity = c.push.ensures.capacity in
    let room = inv.room in
    let filled = inv.filled in
    let at = c.min-at.result in
    let most = c.min-most.result in
    let members = c.loop-i.out.items in
    let base : ℕ = base_word (host g.D.Client.meaning g.D.Within.place g.D.Within.part) c.args.domain.now.origin in
    let less : length c.loop-i.out.items < c.min-most.result = let test = c.loop-i-test.true in omega arith in
    record {
      same = same_pass c.load-count.new.pass c.loop-i.pass c.load-member.new.pass _ inv.same c.load-member.ensures.step;
      loaded = one_more_load c.load-count.new.pass.token c.loop-i.pass.token c.load-member.new.pass.token (base + at + 1) _ c.load-member.result members inv.loaded (ap (λ p. p.token) c.load-member.ensures.step) (next_member base at c.loop-i.i (length members) filled) ∙ ap (λ (xs : List ℕ). adding c.load-count.new.pass.token (member_loads (base + at + 1) xs)) (sym pushed);
      local = λ answers first. c.load-member.ensures.local (record { stage = at_member at most members; answers = answers }) (inv.local answers first ∙ ap reader (reading_more answers at most members less))
          ∙ (ap reader (reading_next answers at most members c.load-member.result) ∙ ap (λ (xs : List ℕ). reader (reading answers at most xs)) (sym pushed));
      depth_same = c.load-member.ensures.depth ∙ inv.depth_same;
      part = c.load-member.ensures.part;
      filled = ap (λ (xs : List ℕ). length xs) pushed ∙ (longer ∙ ap (λ (k : ℕ). k + 1) filled);
      room = omega arith;
    }

pub returns-clause-answers : goal.returns-clause-answers
returns-clause-answers g c answers local =
    let inv = c.loop-i.invariant in
    let count_is = c.load-count.ensures.local (record { stage = at_length (region_at c.load_root-root.result); answers = answers }) (c.load_root-root.ensures.local answers local) in
    let first = reading_begun _ answers c.load_root-root.result c.min-at.result c.load-count.result c.min-most.result count_is c.min-at.ensures (c.min-most.ensures ∙ ap (λ (k : ℕ). min k (32768 - c.min-at.result)) c.min.ensures) in
    let full : length c.loop-i.out.items ≡ c.min-most.result = let filled = inv.filled in let test = c.loop-i-test.false in let end = c.loop-i.auto.i-end in omega arith in
    inv.local answers first ∙ ap reader (reading_done answers c.min-at.result c.min-most.result c.loop-i.out.items full)
