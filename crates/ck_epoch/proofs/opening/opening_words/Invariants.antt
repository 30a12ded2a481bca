use Rattle.std.proofs.Common.{◌≡◌, ◌+◌, ◌≤◌, replicate, vec_capacity}
use Rattle.ck_epoch.proofs.FirstWords.{AreFirst}
use Rattle.ck_epoch.proofs.opening.opening_words.Given as goal

abbrev pub invariant-loop-i : goal.invariant-loop-i
invariant-loop-i g l = record {
  zeros : l.words.items ≡ replicate l._i 0;
  room : l.base + l.size ≤ vec_capacity l.words;
}

abbrev pub invariant-loop-rec : goal.invariant-loop-rec
invariant-loop-rec g l = record {
  first : AreFirst l.records (g.C.Client.meaning.first l.client) l.rec 0 l.words.items;
  room : l.base + l.size ≤ vec_capacity l.words;
}

abbrev pub invariant-loop-at : goal.invariant-loop-at
invariant-loop-at g l = record {
  first : AreFirst l.records (g.C.Client.meaning.first l.client) l.records l.at l.words.items;
  room : l.base + l.size ≤ vec_capacity l.words;
}
