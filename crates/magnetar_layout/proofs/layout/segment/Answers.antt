use Rattle.std.proofs.Common.{sym, ◌∙◌, arith}
use Rattle.magnetar_layout.proofs.Laid.{fits}
use Rattle.magnetar_layout.proofs.Refused.{clear, failed}
use Rattle.magnetar_layout.proofs.Readings.{part-refused, part-other, part-missing, part-is}
use Rattle.magnetar_layout.proofs.layout.segment.Goals.{
  then-is_err-via-then-is_err,
  then-is_err-via-else-is_err+then-folded-w,
  then-is_err-via-else-is_err+else-folded-w+then-i-lens,
}
use Rattle.magnetar_layout.proofs.layout.segment.Goals as goal

pub overflow_mul-w : goal.overflow_mul-w
overflow_mul-w c =
    let o = fits _ _ (clear _ c.refusal.ensures (sym c.is_err.ensures.value ∙ c.if-is_err.false)) in omega (arith, o)

pub returns-then-is_err : goal.returns-then-is_err
returns-then-is_err c =
    elim c.then-is_err.branch [
      | then-is_err-via-then-is_err w ↦ part-refused _ _ _ _ (failed _ c.refusal.ensures (sym c.is_err.ensures.value ∙ w.if-is_err.true))
      | then-is_err-via-else-is_err+then-folded-w w ↦
          part-other _ _ _ _ (clear _ c.refusal.ensures (sym c.is_err.ensures.value ∙ w.if-is_err.false)) w.if-folded-w.true
      | then-is_err-via-else-is_err+else-folded-w+then-i-lens w ↦
          part-missing _ _ _ _ (clear _ c.refusal.ensures (sym c.is_err.ensures.value ∙ w.if-is_err.false)) w.if-folded-w.false (omega arith)
    ]

pub part-requires-clause-layout_fits : goal.part-requires-clause-layout_fits
part-requires-clause-layout_fits c = fits _ _ (clear _ c.refusal.ensures (sym c.is_err.ensures.value ∙ c.if-is_err.false))

pub returns : goal.returns
returns c =
    c.part.ensures
    ∙ part-is _ _ _ _ (clear _ c.refusal.ensures (sym c.is_err.ensures.value ∙ c.if-is_err.false)) c.if-folded-w.false c.if-i-lens.false
