use Rattle.std.proofs.Common.{◌≡◌, ℕ, ◌+◌, ◌≤◌, List, [], ◌∷◌, length, vec_capacity}
use Rattle.ck_run.specs.Tokens.{adding}
use Rattle.ck_epoch.specs.State.{depth}
use Rattle.ck_epoch.specs.Ends.{IsDomainToken}
use Rattle.ck_history.specs.declared.edit.TheConstants.{MOST_MEMBERS}
use Rattle.ck_arraylaw.specs.Calls.{all}
use Rattle.ck_arraylaw.specs.Host.{host, base_word}
use Rattle.ck_arraylaw.specs.Array.{reader}
use Rattle.ck_arraylaw.specs.Known.{knows}
use Rattle.ck_array.specs.Reads.{member_loads}
use Rattle.ck_array.proofs.Loading.{reading}
use Rattle.ck_array.proofs.part.all.Given as goal

abbrev pub ghosts-load_root : goal.ghosts-load_root
ghosts-load_root g a = record { opens = all ∷ [] }

abbrev pub invariant-loop-i : goal.invariant-loop-i
invariant-loop-i g l = let h = host g.D.Client.meaning g.D.Within.place g.D.Within.part in let o = l.domain.origin in record {
  same : l.pass ≡ record l.initial.pass { token = l.pass.token };
  loaded : l.pass.token ≡ adding l.initial.pass.token (member_loads (base_word h o + l.at + 1) l.out.items);
  local : (answers : List (List ℕ)) → knows h o l.initial.pass.token ≡ reader (reading answers l.at l.most []) → knows h o l.pass.token ≡ reader (reading answers l.at l.most l.out.items);
  depth_same : depth l.pass.token ≡ depth l.initial.pass.token;
  part : IsDomainToken g.D.Client.meaning l.pass.token;
  filled : length l.out.items ≡ l.i;
  room : MOST_MEMBERS ≤ vec_capacity l.out;
}
