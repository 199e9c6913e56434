-- The public words of one login, lent once for each login, hold equal columns.
-- Assumes nothing.
use mathlib.Core.Path.{◌≡◌, sym, ap, ◌∙◌}
use mathlib.Core.List.{List, []}
use Prim.Native.Nat.{ℕ, zero, suc, ◌+◌, ◌*◌, ◌<◌}
use native.Mathlib.Nat.{zero-mul, suc-mul}
use native.Mathlib.Omega.{arith}
use lib.ListN.{length, take, drop, replicate, length-replicate, get_or-replicate}
use lib.Seq.{take_at, drop-append-add}
use Rattle.magnetar_field.specs.Words.{elements}
use Rattle.magnetar_field.proofs.Tabulation.{tabulate-of}
use Rattle.magnetar_matrix.specs.Packed.{public_words, public_part, public_of}
use Rattle.magnetar_protocol.specs.Prover.{joined}
use Rattle.magnetar_protocol.specs.EqualColumns.{equal_columns}
use Rattle.magnetar_spartan.specs.Theorems.{EqualWords}

part-again : (l : ℕ) (x : List ℕ) → length x ≡ l → (q u : ℕ) → u < q → take l (drop (u * l) (joined (replicate q x))) ≡ x
unfolding joined
part-again l x e zero u h = absurd (omega arith)
part-again l x e (suc q) zero h = rw (zero-mul l) (take_at x (joined (replicate q x)) l e)
part-again l x e (suc q) (suc u) h =
    let k : suc u * l ≡ length x + u * l = suc-mul u l ∙ omega (arith, e) in
    rw (k, drop-append-add x (joined (replicate q x)) (u * l)) (part-again l x e q u (omega arith))

pub equal_words : EqualWords
unfolding public_of public_part
equal_words q w x e =
    sym (tabulate-of (equal_columns q (elements x)) (λ u. elements (public_part w (joined (replicate q x)) u)) q [] (length-replicate q (elements x))
    (λ u h. get_or-replicate {A = List ℕ} q u (elements x) [] h ∙ sym (ap elements (part-again (public_words w) x e q u h))))
