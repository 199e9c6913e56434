use native.Mathlib.Omega.{arith}
use Rattle.magnetar_prover.proofs.Spelling.{spelt-start, spelt-more, spelt-end}
use borrow.Author.Rules.{rules}
use Rattle.magnetar_prover.proofs.events.put_digits.Goals as goal

pub loop-rest-init : goal.loop-rest-init
loop-rest-init c = spelt-start _ _ (search rules) (search rules)

pub loop-rest-preserved : goal.loop-rest-preserved
loop-rest-preserved c = spelt-more c.loop-rest.invariant (omega arith)

pub returns : goal.returns
returns c = spelt-end c.loop-rest.invariant (omega arith)
