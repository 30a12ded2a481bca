use Rattle.ck_probe.proofs.EntryBlocks.{length-entry_of, entry_of-fits, entry_of-IsEntry, entry_of-injective}
use Rattle.ck_probe.proofs.entries.entry_law.Goals as goal

pub returns-clause-eight_words : goal.returns-clause-eight_words
returns-clause-eight_words c = length-entry_of

pub returns-clause-fits : goal.returns-clause-fits
returns-clause-fits c = entry_of-fits

pub returns-clause-is_entry : goal.returns-clause-is_entry
returns-clause-is_entry c = entry_of-IsEntry

pub returns-clause-injective : goal.returns-clause-injective
returns-clause-injective c = entry_of-injective
