use Rattle.std.proofs.Common.{◌^◌, ◌<◌}
use Rattle.magnetar_field.specs.Residue.{wide, pair_at, Multiples}
use Rattle.magnetar_field.proofs.Comb.{Combed}
use Rattle.magnetar_field.proofs.gf128.clmul128.Given as goal

abbrev pub invariant-loop-i : goal.invariant-loop-i
invariant-loop-i l = record {
  multiples : Multiples (pair_at l.lo l.hi 1) l.lo l.hi 16;
  w0 : l.acc.w0 < 2 ^ 64;
  w1 : l.acc.w1 < 2 ^ 64;
  w2 : l.acc.w2 < 2 ^ 64;
  combed : Combed (pair_at l.lo l.hi 1) l.b.lo l.b.hi (wide l.acc) l.acc.w3 l.i;
}
