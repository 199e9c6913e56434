-- An earlier number stays, and where there is none no test was bad.
-- Assumes nothing.
use mathlib.Core.Path.{◌≡◌, refl, sym, ap, ◌∙◌}
use mathlib.Core.Bool.{Bool, true, false, ◌&&◌}
use mathlib.Core.List.{[], ◌∷◌, ◌++◌}
use Prim.Native.Nat.{ℕ, zero, suc}
use native.Mathlib.Omega.{arith}
use borrow.Author.Tests.{ne_eqb, ltb-true}
use lib.Dec.{ltb}
use Rattle.std.specs.Prelude.{Ok, Err}
use Rattle.magnetar_field.specs.Refusal.{unless_refused}
use Rattle.magnetar_field.specs.declared.gf128.Gf128.{Gf128}
use Rattle.magnetar_field.specs.declared.refusal.Refusal.{Refusal}
use Rattle.magnetar_field.specs.Number.{number}
use Rattle.magnetar_field.specs.Gf128.{value}
use Rattle.magnetar_multilinear.specs.Entries.{answer, answered}
use Rattle.magnetar_layout.proofs.EveryLaws.{both}
use Rattle.magnetar_layout.proofs.Refused.{number-positive}
use Rattle.magnetar_layout.specs.Tests.{Tests, or_refuse, first_refusal}

pub note-kept : (n : ℕ) (b : Bool) (z : ℕ) → (z ≡ 0 → ⊥) → or_refuse n b z ≡ z
unfolding or_refuse
note-kept n b z h = simp (ne_eqb z 0 h)

pub first-refusal-kept : (z : ℕ) (l : Tests) → (z ≡ 0 → ⊥) → first_refusal z l ≡ z
first-refusal-kept z [] h = refl
first-refusal-kept z (t ∷ l) h = rw (note-kept t.0 t.1 z h) (first-refusal-kept z l h)

pub first-refusal-append : (z : ℕ) (l k : Tests) → first_refusal z (l ++ k) ≡ first_refusal (first_refusal z l) k
first-refusal-append z [] k = refl
first-refusal-append z (t ∷ l) k = first-refusal-append (or_refuse t.0 t.1 z) l k

-- a number that the front of the tests gave is that of them all
pub first-refusal-front : (l k : Tests) (z : ℕ) → z ≡ first_refusal 0 l → (z ≡ 0 → ⊥) → z ≡ first_refusal 0 (l ++ k)
first-refusal-front l k z e h = sym (first-refusal-append 0 l k ∙ rw (← e) (first-refusal-kept z k h))

-- where the front gave none, the rest decides
pub first-refusal-rest : (l k : Tests) (z : ℕ) → z ≡ first_refusal 0 l → z ≡ 0 → first_refusal 0 (l ++ k) ≡ first_refusal 0 k
first-refusal-rest l k z e h = first-refusal-append 0 l k ∙ rw (← e, h)

-- no test is bad
abbrev pub Clear : Tests → Type 0
Clear [] = Unit {0}
Clear (t ∷ l) = (t.1 ≡ false) × Clear l

-- every number is one
abbrev pub numbered : Tests → Bool
numbered [] = true
numbered (t ∷ l) = ltb 0 t.0 && numbered l

pub note-clear : (n : ℕ) (b : Bool) (z : ℕ) → ltb 0 n ≡ true → or_refuse n b z ≡ 0 → (z ≡ 0) × (b ≡ false)
unfolding or_refuse
note-clear n false zero p e = (refl, refl)
note-clear n true zero p e = absurd (omega (arith, ltb-true 0 n p))
note-clear n b (suc z) p e = absurd (omega (arith, rw (note-kept n b (suc z) (λ h. omega arith)) at e))

pub first-refusal-clear : (z : ℕ) (l : Tests) → numbered l ≡ true → first_refusal z l ≡ 0 → (z ≡ 0) × Clear l
first-refusal-clear z [] p e = (e, tt)
first-refusal-clear z (t ∷ l) p e =
    let q = both (ltb 0 t.0) (numbered l) p in
    let r = first-refusal-clear (or_refuse t.0 t.1 z) l q.1 e in
    let s = note-clear t.0 t.1 z q.0 r.0 in
    (s.0, (s.1, r.1))

-- where the front gave none, the rest decides
pub first-refusal-late : (l k : Tests) (z y : ℕ) → z ≡ first_refusal 0 l → z ≡ 0 → y ≡ first_refusal 0 k → y ≡ first_refusal 0 (l ++ k)
first-refusal-late l k z y e h f = f ∙ sym (first-refusal-rest l k z e h)

-- ---- what a call leaves
module _ {A : Type 0} {n m : ℕ} (new old : A) (e : n ≡ m) where
  pub turned : (n ≡ 0 → ⊥) → old ≡ unless_refused m new old
  turned h = rw (← e, ne_eqb n 0 h)

  pub done : n ≡ 0 → new ≡ unless_refused m new old
  done h = rw (← e, h)

-- an answer that is an element
pub refused : {m : ℕ} (r : Refusal) (v : ℕ) → number r ≡ m → answer (Err r) ≡ answered m v
refused r v e = let p = number-positive r in rw (← e, ne_eqb (number r) 0 (λ h. omega arith))

pub found : {m : ℕ} (r : Gf128) (v : ℕ) → 0 ≡ m → value r ≡ v → answer (Ok r) ≡ answered m v
found r v e f = rw (← e, f)

-- ---- groups of tests: where all are passed, so are the first and the last of them
pub front-none : (l k : Tests) → first_refusal 0 (l ++ k) ≡ 0 → first_refusal 0 l ≡ 0
front-none l k e = go (first_refusal 0 l) refl
  where
    go : (z : ℕ) → first_refusal 0 l ≡ z → first_refusal 0 l ≡ 0
    go zero h = h
    go (suc z) h =
        let b : suc z ≡ 0 = sym (first-refusal-kept (suc z) k (λ i. omega arith)) ∙ (ap (λ (y : ℕ). first_refusal y k) (sym h) ∙ (sym (first-refusal-append 0 l k) ∙ e)) in
        absurd (omega (arith, b))

pub rest-none : (l k : Tests) → first_refusal 0 (l ++ k) ≡ 0 → first_refusal 0 k ≡ 0
rest-none l k e = sym (first-refusal-rest l k (first_refusal 0 l) refl (front-none l k e)) ∙ e
