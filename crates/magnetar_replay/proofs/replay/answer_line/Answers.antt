use Rattle.std.proofs.Common.{sym, ◌∙◌}
use Rattle.std.proofs.lemmas.Result.{on_ok_weaker}
use Rattle.magnetar_replay.proofs.ReplayLaws.{copied, unknown}
use Rattle.magnetar_replay.proofs.replay.answer_line.Goals as goal

pub returns-then-is_copied : goal.returns-then-is_copied
returns-then-is_copied g c =
    on_ok_weaker c.write_all-then-is_copied.result
    (copied g.Q.Queries.answers _ _ _ _ _ (sym c.is_copied.ensures ∙ c.if-is_copied.true) c.in_ok-write_all.ensures.bytes)
    c.write_all-then-is_copied.ensures.bytes

pub returns : goal.returns
returns g c =
    on_ok_weaker c.writeln.result
    (λ written. unknown g.Q.Queries.answers c.args.queries.now c.args.line.now c.in_ok-answer.field-0 c.answer.new.self _ _ _
    (sym c.is_copied.ensures ∙ c.if-is_copied.false) c.if-branch.false c.in_ok-answer.ensures (rw c.if-branch.false written))
    c.writeln.ensures.bytes
