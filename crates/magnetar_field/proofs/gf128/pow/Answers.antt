use Rattle.magnetar_field.proofs.Power.{power-words}
use Rattle.magnetar_field.proofs.gf128.pow.Goals as goal

pub returns : goal.returns
returns c = rw (c.pow_word-2.ensures.result, c.pow_word.ensures.result, c.pow_word.ensures.base) (power-words _ _ _)
