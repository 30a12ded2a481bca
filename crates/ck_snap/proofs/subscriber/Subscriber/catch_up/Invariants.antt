use Rattle.std.proofs.Common.{◌≡◌, ◌≤◌}
use mathlib.Core.List.{IsPrefix}
use Rattle.ck_snap.proofs.subscriber.Subscriber.catch_up.Given as goal

abbrev pub invariant-loop : goal.invariant-loop
invariant-loop g l = record {
  end : l.self ≡ record l.fn.self { log = l.self.log; enters = l.self.enters };
  later : IsPrefix l.fn.self.log l.self.log;
  enters : l.fn.self.enters ≤ l.self.enters;
}
