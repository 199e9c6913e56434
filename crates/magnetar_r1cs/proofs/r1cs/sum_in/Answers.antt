use Rattle.magnetar_r1cs.proofs.Parts.{both-length}
use Rattle.magnetar_r1cs.proofs.Parts.{behind, both-parts}
use Rattle.magnetar_matrix.proofs.TableLaws.{elements-append}
use Prim.Native.Nat.{ℕ, ◌*◌}
use lib.Seq.{length-take-le}
use mathlib.Core.Path.{sym, ap, ◌∙◌}
use mathlib.Core.List.{List}
use Rattle.magnetar_multilinear.specs.Entries.{eq_out}
use Rattle.magnetar_r1cs.proofs.Points.{eq-built}
use Rattle.magnetar_r1cs.proofs.r1cs.sum_in.Goals as goal

pub slice_bounds-build-end-2 : goal.slice_bounds-build-end-2
slice_bounds-build-end-2 g c = sym (length-take-le _ _ c.requires.n_bound.2)

pub returns : goal.returns
returns g c =
    let x = c.args in
    let room = c.requires.n_bound.2 in
    let front = c.build-rows.auto.out ∙ length-take-le _ _ room in
    let first = c.build-rows.ensures.table ∙ eq-built _ _ c.requires.point in
    let second = c.build-cols.ensures.table
    ∙ ap (λ (l : List ℕ). eq_out x.c.now 1 l) (behind c.build-rows.new.out x.s.now (2 * x.n) room front) ∙ eq-built _ _ c.requires.point_2 in
    let p = both-parts c.build-rows.new.out x.s.now (2 * x.n) room front c.build-cols.new.out in record {
      result_value = rw (c.sum_products-v.ensures, p, first, second, elements-append);
      s_after = rw (
        c.clear.ensures,
        both-length c.build-rows.new.out x.s.now (2 * x.n) room front c.build-cols.new.out c.build-cols.auto.out,
      );
    }
