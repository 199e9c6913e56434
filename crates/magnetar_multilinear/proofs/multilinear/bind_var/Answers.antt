use mathlib.Core.Path.{◌≡◌}
use native.Mathlib.Omega.{arith}
use Prim.Native.Nat.{◌*◌, ◌/◌, ◌^◌, ◌<◌}
use lib.ListN.{length, take}
use Rattle.magnetar_field.specs.Sizes.{log₂}
use Rattle.magnetar_field.proofs.Log2.{log₂-half}
use Rattle.magnetar_multilinear.proofs.Bound.{power-fits, quarter}
use Rattle.magnetar_field.specs.Gf128.{value}
use Rattle.magnetar_multilinear.specs.Multilinear.{bind_var}
use Rattle.magnetar_multilinear.proofs.Refusals.{bind-none}
use Rattle.magnetar_field.specs.Words.{elements}
use Rattle.magnetar_field.proofs.Elements.{elements-length, rejoin}
use lib.Seq.{take_all}
use borrow.Author.Rules.{rules}
use Rattle.magnetar_multilinear.proofs.multilinear.bind_var.Goals as goal

pub table_words-requires : goal.table_words-requires
table_words-requires c = omega (arith, log₂-half (length c.args.table.now) (search rules))

pub bind-requires : goal.bind-requires
bind-requires c =
    let small = log₂-half (length c.args.table.now) (search rules) in
    let size : length c.args.table.now ≡ 2 * 2 ^ c.log2-n.result = grind (arith) in
    let there : c.args.var < c.log2-n.result = grind (arith) in
    power-fits _ c.log2-n.result _ (omega (arith, c.log2-n.ensures.0, small)) there size

pub returns-clause-bound : goal.returns-clause-bound
returns-clause-bound c =
    let x = c.args in
    let t = x.table.now in
    let s : length t ≡ 2 * 2 ^ log₂ (length t / 2) = grind (arith) in
    let there : x.var < log₂ (length t / 2) = grind (arith) in
    let e = bind-none t x.var s there in
    let h : 2 * (length t / 4) ≡ length t / 2 = quarter (length t) (log₂ (length t / 2)) x.var there s in
    let all : take (2 * (length t / 4)) (elements t) ≡ elements t = take_all (2 * (length t / 4)) (elements t) (rw elements-length (omega arith)) in
    let j =
    rejoin t c.bind.new.t (bind_var x.var (value x.r) (take (2 * (length t / 4)) (elements t))) (length t / 4) (omega arith) c.bind.auto.t
    (λ i. search rules) (λ i. omega (arith, c.type_inv.table i)) c.bind.ensures in
    rw e (rw (all, h) at j)
