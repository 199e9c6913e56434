use mathlib.Core.Path.{ap, ◌∙◌}
use Prim.Native.Nat.{ℕ, ◌+◌, ◌*◌}
use native.Mathlib.Omega.{arith}
use lib.ListN.{take, drop, replicate}
use Rattle.magnetar_field.specs.Gf128.{value}
use Rattle.magnetar_prover.specs.Entries.{tables_in}
use Rattle.magnetar_prover.proofs.OuterParts.{all_left}
use Rattle.magnetar_prover.proofs.rounds.run.Goals as goal

pub returns : goal.returns
returns c = record {
  run = all_left c.args.z.l c.args.z.b c.args.z.f c.args.z.wb c.args.z.wf (omega (arith, c.requires.bin_few)) (omega (
    arith,
    c.requires.fld_few,
  )) _ (8 * c.args.z.l + 4 * c.args.z.b + 4 * c.args.z.f) (c.args.z.l + c.args.z.b + (c.args.z.l
      + c.args.z.f) + c.args.z.l + c.args.z.b + c.args.z.f) (value c.rows-v.result.kb) (value c.rows-v.result.kf) 1 1 (tables_in c.args.z.wb
      c.args.z.wf (take (4 * c.args.z.wb) c.args.s.now) (drop (4 * c.args.z.wb) c.args.s.now)) c.args.t
      c.rows-v.result.transcript c.rows-v.new.proof c.rows-v.new.draws
      c.rows-v.new.s _ c.first-u.ensures c.rows-v.ensures c.end-r.ensures;
  cleared = c.clear.ensures ∙ ap (λ (n : ℕ). replicate n 0) (c.rows-v.auto.s
      ∙ c.first-u.auto.s);
}
