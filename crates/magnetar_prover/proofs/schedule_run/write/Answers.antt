use Rattle.magnetar_prover.proofs.Staging.{written-more, written-full}
use borrow.Author.Rules.{rules}
use Rattle.magnetar_prover.proofs.schedule_run.write.Goals as goal

pub returns-then-n-out : goal.returns-then-n-out
returns-then-n-out c = λ v was h. written-more _ h (search rules)

pub returns-else-n-out : goal.returns-else-n-out
returns-else-n-out c = λ v was h. written-full _ h (search rules)
