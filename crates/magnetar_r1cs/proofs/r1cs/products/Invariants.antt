use Prim.Native.Nat.{◌*◌}
use Rattle.magnetar_matrix.specs.Numbers.{entries_by}
use Rattle.magnetar_matrix.specs.Table.{login_block}
use Rattle.magnetar_matrix.proofs.Carried.{Filling, public_block}
use Rattle.magnetar_r1cs.proofs.r1cs.products.Given as goal

abbrev pub invariant-loop-u : goal.invariant-loop-u
invariant-loop-u g l =
    let es = entries_by (g.E.Entries.numbers l.es) in
    Filling (login_block l.w l.x l.packed es l.n) (public_block l.w l.x es l.n) l.q (2 * l.n) l.out l.u
