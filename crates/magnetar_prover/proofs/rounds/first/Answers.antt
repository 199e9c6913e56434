use mathlib.Core.Path.{refl, ◌∙◌}
use native.Mathlib.Omega.{arith}
use Rattle.magnetar_prover.proofs.OuterParts.{shared-left}
use Rattle.magnetar_prover.proofs.rounds.first.Goals as goal

pub returns : goal.returns
returns c = shared-left c.args.z.l c.args.z.b c.args.z.f c.args.z.wb c.args.z.wf (omega (arith, c.requires.bin_few)) (omega (
  arith,
  c.requires.fld_few,
)) _ _ 1 1 c.args.t c.taus-u.result c.shared_rounds.result.transcript c.args.proof.now c.taus-u.new.draws c.args.s.now c.begin_tables.new.s
    c.shared_rounds.new.proof c.shared_rounds.new.draws c.shared_rounds.new.s refl refl c.requires.blocks (c.begin_tables.auto.s
    ∙ c.requires.blocks) c.taus-u.ensures c.begin_tables.ensures.bin c.begin_tables.ensures.fld c.shared_rounds.ensures
