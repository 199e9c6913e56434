use Rattle.magnetar_hash.specs.Sha3.{squeezed}
use Rattle.magnetar_keccak.proofs.Written.{Written}
use Rattle.magnetar_hash.proofs.hasher.Sponge.squeeze.Given as goal

abbrev pub invariant-loop-j : goal.invariant-loop-j
invariant-loop-j l = Written (squeezed l.self.lanes) l.out l.j
