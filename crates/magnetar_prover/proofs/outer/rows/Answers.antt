use Rattle.magnetar_field.specs.Gf128.{value}
use Rattle.magnetar_prover.proofs.RowSteps.{rowing-end, rowing-next, rowing-rows}
use Rattle.magnetar_prover.specs.Labels.{row_label}
use native.Mathlib.Omega.{arith}
use Rattle.magnetar_prover.proofs.outer.rows.Goals as goal

pub row-r-requires : goal.row-r-requires
row-r-requires c = let x = c.args in let p = c.requires.s_len in let l = c.loop-i in record {
  s_len = (
    omega arith,
    p.1,
    l.invariant.0,
    omega arith,
    omega
        arith,
    omega arith,
  );
  rows = rowing-rows x.o x.d l.invariant.1 (omega arith) p.3 p.6;
}

pub loop-i-preserved : goal.loop-i-preserved
loop-i-preserved c = let l = c.loop-i in
    let x = c.args in (
      omega arith,
      rowing-next x.p x.d x.o (value c.row-r.result.k) x.at.w c.row-r.result.transcript c.row-r.new.proof c.row-r.new.draws c.row-r.new.s
          l.invariant.1 (omega arith) c.row-r.ensures,
    )

pub returns : goal.returns
returns c = let x = c.args in let l = c.loop-i in rowing-end (row_label x.of) x.x l.i l.n
    x.p x.d x.o (value l.k) x.at.w _ l.u l.proof l.draws l.s l.invariant.1 (omega arith)
