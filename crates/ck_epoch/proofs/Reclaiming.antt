-- The law of epochs, whole.
use Rattle.ck_epoch.specs.Epochs.{Reclamation}
use Rattle.ck_epoch.proofs.EpochLaw.{safe, keeps_epochs, has_waited}
use Rattle.ck_epoch.proofs.Insides.{has_opened}
use Rattle.ck_epoch.proofs.Changes.{changes_pending}

pub reclamation : (C : Type 0) → Reclamation C
reclamation C = record { safe = safe; keeps = keeps_epochs; waits = has_waited; opened = has_opened; changes = changes_pending }
