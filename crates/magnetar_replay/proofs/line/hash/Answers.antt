use Rattle.std.proofs.Common.{◌+◌, ◌*◌, ◌∙◌, ap, length, drop, get_or, ℕ, List, arith}
use Rattle.magnetar_field.specs.Tabulate.{tabulate}
use Rattle.magnetar_field.proofs.Tabulation.{tabulate-of}
use Rattle.magnetar_replay.specs.Words.{byte_value}
use Rattle.magnetar_replay.proofs.line.hash.Goals as goal

pub returns : goal.returns
returns c =
    let spelled : List ℕ → ℕ → ℕ = λ l i. byte_value (get_or l (2 * i) 0) (get_or l (2 * i + 1) 0) in
    tabulate-of c.loop-i.bytes (spelled c.behind-letters.result.now) 32 0 c.loop-i.invariant.whole (λ i l. c.loop-i.invariant.so_far i (omega arith))
    ∙ ap (λ l. tabulate (spelled l) 32)
    (c.behind-letters.ensures ∙ ap (drop 1) (c.behind.ensures ∙ ap (λ w. drop (length w) c.args.line.now) c.first_word.ensures))
