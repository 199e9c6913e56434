-- A verifying run writes at most its formula's words of the scratch.
-- Assumes nothing.
use mathlib.Core.Path.{◌≡◌, refl, sym, subst}
use mathlib.Core.List.{List}
use Prim.Native.Nat.{ℕ, zero, suc}
use native.Mathlib.Omega.{arith}
use lib.ListN.{length, drop, replicate, length-append, length-drop, length-replicate}
use lib.Seq.{drop_at}
use borrow.Author.Tests.{eq-eqb, ne_eqb}
use Rattle.magnetar_hash.specs.declared.transcript.Transcript.{Transcript}
use Rattle.magnetar_relation.specs.Rules.{Rules}
use Rattle.magnetar_spartan.specs.Refusals.{verifier_scratch_of}
use Rattle.magnetar_spartan.specs.Outcome.{Verified, verify_refusal, verify_outcome}
use Rattle.magnetar_spartan.specs.Theorems.{WritesAtMost, ScratchBound}
use Rattle.magnetar_spartan.proofs.Ended.{verifiable}

pub scratch-bound : ScratchBound
unfolding verify_outcome
scratch-bound R x w t c s = go (verify_refusal R x w t c s) refl
  where
    n : ℕ
    n = verifier_scratch_of R

    z : List ℕ
    z = replicate n 0

    l : length z ≡ n
    l = length-replicate n 0

    go : (k : ℕ) → verify_refusal R x w t c s ≡ k → WritesAtMost n s (verify_outcome R x w t c s).scratch
    go zero e =
        let h = (verifiable R x w t.squeeze_ctr (length c) (length s) (unfold verify_refusal in e)).scratch in
        rw (eq-eqb (verify_refusal R x w t c s) 0 e) (rw (length-append, l, length-drop) (omega (arith, h)), drop_at z (drop n s) n l)
    go (suc k) e = rw (ne_eqb (verify_refusal R x w t c s) 0 (λ i. omega (arith, e, i))) (refl, refl)

-- the same of what the function leaves
pub writes-at-most : (R : Rules) (x w : List ℕ) (t : Transcript) (c s : List ℕ) (o : Verified) → o ≡ verify_outcome R x w t c s
    → WritesAtMost (verifier_scratch_of R) s o.scratch
writes-at-most R x w t c s o e = subst (λ (v : Verified). WritesAtMost (verifier_scratch_of R) s v.scratch) (sym e) (scratch-bound R x w t c s)
