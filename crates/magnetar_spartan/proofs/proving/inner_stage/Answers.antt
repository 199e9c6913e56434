use native.Mathlib.Omega.{arith}
use lib.ListN.{length}
use Rattle.magnetar_spartan.specs.Proving.{sizes_only_rules}
use Rattle.magnetar_spartan.proofs.InnerPartLaws.{fold-sizes, end-sizes, later-ends}
use Rattle.magnetar_spartan.proofs.proving.inner_stage.Goals as goal

pub returns : goal.returns
returns c =
    let x = c.args in
    let r = sizes_only_rules x.m x.q x.sh.bin.a.rows x.sh.fld.a.rows x.lens.now in
    let d = x.draws.now in
    let g = c.fold_behind in
    let n = c.min-n in
    let ws = x.packed.now in
    let p = x.x.now in
    let w = x.proof.now in
    let k = x.claims.now in
    let s = x.s.now in (
      λ i. omega (arith, c.type_inv.x i),
      λ ld ok.
          let F = g.ensures (fold-sizes r ws p w d k s x.t ok ld) in
          let E = c.end-u.ensures (length ws) (length p) (end-sizes r ws p w d k s x.t ok ld _ F g.auto.s) ld in
          later-ends r ws p w d k s x.t ok ld _ F g.auto.s _ _ _ _ E n.result c.prover_scratch.result
          (rw (← c.unwrap_or.ensures) n.ensures) c.prover_scratch.ensures _ c.clear.ensures,
    )
