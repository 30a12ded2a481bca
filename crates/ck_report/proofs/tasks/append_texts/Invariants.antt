use Rattle.std.proofs.Common.{◌≡◌, ◌++◌, List, ℕ, take}
use Rattle.ck_report.specs.Numbered.{AreTexts}
use Rattle.ck_report.proofs.tasks.append_texts.Given as goal

-- the texts so far are appended
abbrev pub invariant-loop-text : goal.invariant-loop-text
invariant-loop-text l = record {
  so_far : (text : List ℕ) × AreTexts (take l.text-index l.texts) text × (l.out.items ≡ l.initial.out.items ++ text);
}
