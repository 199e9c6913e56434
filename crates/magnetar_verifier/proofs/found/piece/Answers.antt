use mathlib.Core.Path.{refl}
use Rattle.magnetar_verifier.proofs.Pieces.{elements-part}
use Rattle.magnetar_verifier.proofs.found.piece.Goals as goal

pub returns-clause-part : goal.returns-clause-part
returns-clause-part c = let x = c.args in elements-part x.i x.n _ _ x.s.now refl refl
