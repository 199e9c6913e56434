use Rattle.std.proofs.Common.{◌∙◌, arith, take_all, ap, fold, get_or}
use Rattle.magnetar_replay.specs.Words.{spelled_number, base_of, with_letter}
use Rattle.magnetar_replay.proofs.WordLaws.{letter-more, letter-x, letter-hex, letter-decimal}
use Rattle.magnetar_replay.proofs.line.number.Goals as goal
use Rattle.magnetar_replay.proofs.line.number.Goals.{in-120-default, in_default-true, in_default-false}

pub loop-c-preserved : goal.loop-c-preserved
loop-c-preserved c =
    let word = c.args.word.now in
    let letter = get_or word c.loop-c.c-index 0 in
    let digit = c.from-d.ensures ∙ c.digit.ensures.value in
    letter-more (base_of word) word c.loop-c.c-index c.loop-c.value c.match-c.value (omega arith) c.loop-c.invariant
    (elim c.match-c.branch [
      | in-120-default w ↦ w.value-is ∙ letter-x (base_of word) c.loop-c.value letter w.in-120-default.is-0
      | in_default-true w ↦
          letter-hex word c.loop-c.value letter c.from-d.result _ w.in_default-true.ensures w.in_default-true.is-0.1 digit (omega arith) w.value-is
      | in_default-false w ↦
          letter-decimal word c.loop-c.value letter c.from-d.result _ w.in_default-false.ensures w.in_default-false.is-0.1 digit w.value-is
    ])

pub returns : goal.returns
unfolding spelled_number
returns c = c.loop-c.invariant ∙ ap (fold (with_letter (base_of c.args.word.now)) 0) (take_all c.loop-c.c-index c.args.word.now (omega arith))
