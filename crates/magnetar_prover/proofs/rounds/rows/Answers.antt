use mathlib.Core.Path.{◌≡◌, ap, ◌∙◌}
use Prim.Native.Nat.{◌+◌, ◌*◌}
use native.Mathlib.Omega.{arith}
use lib.ListN.{length}
use lib.Seq.{length-take-le}
use lib.Pow.{pow_mono}
use Rattle.magnetar_field.specs.Gf128.{value}
use Rattle.magnetar_field.proofs.Elements.{elements-length}
use Rattle.magnetar_prover.proofs.Blocks.{lent-behind, rest-length}
use Rattle.magnetar_prover.proofs.OuterParts.{rows_left}
use Rattle.magnetar_prover.proofs.rounds.rows.Goals as goal

pub rows-u-requires : goal.rows-u-requires
rows-u-requires c = let p = c.requires in record {
  s_len = (
    length-take-le _ _ (omega (arith, p.blocks)),
    p.bin_most,
    omega (arith, c.power_words.ensures, p.bin_words, pow_mono {i = c.args.z.b} {j = c.args.z.l + c.args.z.b} (omega arith)),
    omega (arith, p.bin_few),
    omega (arith, p.bin_few),
    omega (arith, p.bin_few, p.fld_few),
    omega arith,
    omega (arith, p.proof),
    omega (arith, p.draws),
  );
  n_value = c.power_words.ensures;
}

pub rows-v-requires : goal.rows-v-requires
rows-v-requires c = let p = c.requires in let one : length c.rows-u.new.s ≡ 4 * c.args.z.wb = c.rows-u.auto.s ∙ length-take-le _ _ (omega (
  arith,
  c.requires.blocks,
)) in record {
  s_len = (
    ap length
        (lent-behind c.args.s.now c.rows-u.new.s (4 * c.args.z.wb) (4 * c.args.z.wf) p.blocks one)
        ∙ rest-length c.args.s.now c.rows-u.new.s (4 * c.args.z.wb) (4 * c.args.z.wf) p.blocks one,
    p.fld_most,
    omega (arith, c.power_words-2.ensures, p.fld_words, pow_mono {i = c.args.z.f} {j = c.args.z.l + c.args.z.f} (omega arith)),
    omega (arith, p.fld_few),
    omega (arith, p.bin_few),
    omega (arith, p.bin_few, p.fld_few),
    omega arith,
    omega (arith, p.proof, c.rows-u.auto.proof),
    omega (arith, p.draws, c.rows-u.auto.draws),
  );
  n_value = c.power_words-2.ensures;
}

pub returns : goal.returns
returns c = let p = c.requires in let one : length c.rows-u.new.s ≡ 4 * c.args.z.wb = c.rows-u.auto.s ∙ length-take-le _ _ (omega (
  arith,
  c.requires.blocks,
)) in let two : length c.rows-v.new.s ≡ 4 * c.args.z.wf = c.rows-v.auto.s
    ∙ (ap length (lent-behind c.args.s.now c.rows-u.new.s (4 * c.args.z.wb) (4 * c.args.z.wf) p.blocks
    one) ∙ rest-length c.args.s.now c.rows-u.new.s (4 * c.args.z.wb) (4 * c.args.z.wf) p.blocks one) in rows_left
    c.args.z.l c.args.z.b c.args.z.f c.args.z.wb c.args.z.wf (omega (arith, c.requires.bin_few)) (omega (
      arith,
      c.requires.fld_few,
    )) _ _ (value c.args.kb) (value c.args.kf) _ _ c.args.t c.rows-u.result.transcript c.rows-v.result.transcript c.args.proof.now c.args.draws.now
    c.args.s.now c.rows-u.new.proof c.rows-u.new.draws c.rows-u.new.s c.rows-v.new.proof c.rows-v.new.draws c.rows-v.new.s c.power_words.ensures
    c.power_words-2.ensures p.blocks one two (rw elements-length (omega (arith, p.draws))) c.rows-u.ensures c.rows-v.ensures
