use Prim.Native.Nat.{◌+◌, ◌-◌, ◌*◌}
use native.Mathlib.Omega.{arith}
use lib.ListN.{length, drop, length-drop}
use lib.Seq.{take_all}
use Rattle.magnetar_prover.proofs.OuterParts.{end-left}
use Rattle.magnetar_prover.proofs.rounds.end.Goals as goal

pub returns : goal.returns
returns c = end-left c.args.z.l c.args.z.b c.args.z.f c.args.z.wb c.args.z.wf (omega (arith, c.requires.bin_few)) (omega (
  arith,
  c.requires.fld_few,
)) (8 * c.args.z.l +
    4 * c.args.z.b + 4 * c.args.z.f) (c.args.z.l + c.args.z.b + (c.args.z.l + c.args.z.f) +
    c.args.z.l + c.args.z.b + c.args.z.f) 1 1 c.args.t c.terminals-u.result c.draw_alphas.result c.args.proof.now c.args.draws.now c.args.s.now
    c.terminals-u.new.proof c.draw_alphas.new.draws _ (take_all (length c.args.s.now - 4 * c.args.z.wb) (drop (4 * c.args.z.wb) c.args.s.now) (omega (
      arith,
      length-drop (4 * c.args.z.wb) c.args.s.now,
    ))) c.terminals-u.ensures c.draw_alphas.ensures
