use Rattle.ck_registry.proofs.RegistryLaw.{registry_law}
use Rattle.ck_registry.proofs.laws.registry_law.Goals as goal

pub returns : goal.returns
returns c = registry_law
