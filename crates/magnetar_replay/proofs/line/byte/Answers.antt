use Rattle.std.proofs.Common.{arith}
use Rattle.magnetar_replay.proofs.WordLaws.{byte-none, byte-one}
use Rattle.magnetar_replay.proofs.line.byte.Goals as goal

pub returns-in_default : goal.returns-in_default
returns-in_default c = byte-none c.args.letters.now (omega arith)

pub returns-in-len1 : goal.returns-in-len1
returns-in-len1 c = byte-one c.args.letters.now c.digit.result (omega arith) c.digit.ensures.value c.digit.ensures.small
