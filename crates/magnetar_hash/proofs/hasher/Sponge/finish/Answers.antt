use Rattle.std.proofs.Common.{ap, ◌∙◌}
use Rattle.magnetar_hash.specs.Sha3.{squeezed}
use Rattle.magnetar_hash.specs.Sponge.{finished}
use Rattle.magnetar_hash.proofs.hasher.Sponge.finish.Goals as goal

pub returns : goal.returns
unfolding finished
returns c = c.squeeze.ensures ∙ ap squeezed c.pad.ensures
