-- Tests that are not bad.
-- Assumes nothing.
use mathlib.Core.Path.{◌≡◌, refl}
use mathlib.Core.Bool.{Bool, true, false, not}
use mathlib.Core.List.{[], ◌∷◌, ◌++◌}
use Prim.Native.Nat.{ℕ, ◌^◌, ◌≤◌}
use lib.Dec.{eqb, ltb}
use borrow.Author.Tests.{le-leb, le-ltb, eq-eqb}
use native.Mathlib.Omega.{arith}
use Rattle.magnetar_field.specs.declared.refusal.Refusal.{Refusal}
use Rattle.magnetar_field.specs.Number.{number}
use Rattle.magnetar_field.specs.Sizes.{log₂}
use Rattle.magnetar_layout.proofs.Refused.{number-positive}
use Rattle.magnetar_layout.specs.Tests.{Tests, or_refuse, first_refusal, is_size, Sized}
use Rattle.magnetar_layout.proofs.FirstRefusal.{Clear, numbered}
use Rattle.magnetar_layout.proofs.EveryLaws.{both}

pub first-refusal-none : (l : Tests) → Clear l → first_refusal 0 l ≡ 0
unfolding or_refuse
first-refusal-none [] c = refl
first-refusal-none (t ∷ l) c = rw c.0 (first-refusal-none l c.1)

pub clear-front : (a b : Tests) → Clear (a ++ b) → Clear a
clear-front [] b c = tt
clear-front (t ∷ a) b c = (c.0, clear-front a b c.1)

pub clear-back : (a b : Tests) → Clear (a ++ b) → Clear b
clear-back [] b c = c
clear-back (t ∷ a) b c = clear-back a b c.1

pub clear-join : (a b : Tests) → Clear a → Clear b → Clear (a ++ b)
clear-join [] b p q = q
clear-join (t ∷ a) b p q = (p.0, clear-join a b p.1 q)

-- every number of two groups is one
pub numbered-join : (a b : Tests) → numbered a ≡ true → numbered b ≡ true → numbered (a ++ b) ≡ true
numbered-join [] b p q = q
numbered-join (t ∷ a) b p q =
    let h = both (ltb 0 t.0) (numbered a) p in
    rw (h.0, numbered-join a b h.1 q)

pub size-passes : (least most n : ℕ) → Sized least most n → not (is_size least most n) ≡ false
unfolding is_size
size-passes least most n z = rw (le-leb least n z.low, le-leb n most z.high, eq-eqb n (2 ^ log₂ n) z.power)

pub same-passes : (a b : ℕ) → a ≡ b → not (eqb a b) ≡ false
same-passes a b e = rw (eq-eqb a b e)

pub most-passes : (n a : ℕ) → a ≤ n → ltb n a ≡ false
most-passes n a h = le-ltb n a h

pub true-passes : (b : Bool) → b ≡ true → not b ≡ false
true-passes b e = rw e

-- a refusal has a number
pub some : (r : Refusal) → number r ≡ 0 → ⊥
some r e = let p = number-positive r in omega arith
