use Rattle.std.specs.Prelude.{◌≡◌, ◌*◌, ◌%◌, ◌^◌}
use native.Mathlib.Omega.{arith}
use lib.Dec.{lit<}
use lib.Pow.{shl_exact}
use borrow.Author.Tests.{lt-ltb, le-ltb}
use Rattle.magnetar_batch.specs.Fold.{word_select}
use Rattle.magnetar_batch.proofs.fold.kept.Goals as goal

pub returns-then-n-lt64 : goal.returns-then-n-lt64
unfolding word_select
returns-then-n-lt64 c =
    let n = c.args.n in
    let e : 1 * 2 ^ n % 2 ^ 64 ≡ 1 * 2 ^ n = shl_exact 1 n 64 (lit< tt) (omega arith) in
    let o : 1 * 2 ^ n ≡ 2 ^ n = omega arith in
    rw (e, o, lt-ltb n 64 (omega arith))

pub returns-else-n-lt64 : goal.returns-else-n-lt64
unfolding word_select
returns-else-n-lt64 c = rw (le-ltb c.args.n 64 (omega arith))
