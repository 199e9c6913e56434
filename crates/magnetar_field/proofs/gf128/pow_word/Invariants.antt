use Rattle.std.proofs.Common.{◌^◌, ◌<◌}
use Rattle.magnetar_field.specs.Gf128.{value}
use Rattle.magnetar_field.proofs.Power.{Powering}
use Rattle.magnetar_field.proofs.gf128.pow_word.Given as goal

abbrev pub invariant-loop : goal.invariant-loop
invariant-loop l = record {
  result : value l.q.result < 2 ^ 128;
  base : value l.q.base < 2 ^ 128;
  powering :
      Powering (value l.initial.q.result) (value l.initial.q.base) l.k (value l.q.result) (value l.q.base) l.rest l.counter;
}
