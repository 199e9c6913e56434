-- Chains of tests: a body of `require(..)?;` and of `callee(..)?;`, one after the other, whose clause is
-- `number_of result ≡ first_refusal 0 TESTS`.
-- For a chain of a few `require`, name on the function
--     #[tactic(auto, using(magnetar_layout::proofs::Passing::passing), unfolding(magnetar_layout::specs::Tests::or_refuse))]
-- and each definition of specs/ that holds the tests; with no line `unfolding or_refuse` where there are more than about eight.
-- For a chain over callees, whose tests are L and then K, answer
--     returns-in_err-f c = out-front L K _ _ c.from_residual.ensures.1 c.in_err-f.ensures
--     returns-in_err-g c = late L K c.in_ok-f.ensures (out K _ _ c.from_residual.ensures.1 c.in_err-g.ensures)
--     returns c = late L K c.in_ok-f.ensures c.g.ensures
-- where `f` is the callee of L, and `g` that of K. Where what was lent stays or is changed (`unless_refused`), answer both clauses:
--     let a = out-front .. in record { refusal = a; written = unchanged _ c.from_residual.result c.from_residual.ensures.0 a }
-- `cleared` says of a callee that passed that each of its tests did.
-- Assumes nothing.
use Rattle.std.specs.Prelude.{Result, Ok, Err}
use Rattle.std.specs.Result.{IsErr, IsErrAnd}
use Rattle.std.proofs.Common.{◌≡◌, refl, sym, ◌∙◌, ℕ, ◌<◌, Bool, true, false, not, if◌then◌else◌, [], ◌∷◌, ◌++◌, arith}
use borrow.Author.Tests.{ne_eqb}
use Rattle.magnetar_field.specs.declared.refusal.Refusal.{Refusal}
use Rattle.magnetar_field.specs.Number.{number, number_of}
use Rattle.magnetar_field.specs.Refusal.{unless_refused}
use Rattle.magnetar_field.proofs.Handed.{handed}
use Rattle.magnetar_layout.specs.Tests.{Tests, or_refuse, first_refusal}
use Rattle.magnetar_layout.proofs.FirstRefusal.{Clear, numbered, first-refusal-clear, first-refusal-front, first-refusal-late}
use Rattle.magnetar_layout.proofs.Refused.{number-positive, failed}
use Rattle.magnetar_layout.proofs.SizeLaws.{sized}
use Rattle.magnetar_layout.proofs.Laid.{half-size}

-- ---- what one test does to the number that the tests before it gave
pub or-kept : (n : ℕ) (b : Bool) (z : ℕ) → 0 < z → or_refuse n b z ≡ z
unfolding or_refuse
or-kept n b z h = rw (ne_eqb z 0 (λ e. omega arith))

pub or-passed : (n : ℕ) (b : Bool) (z : ℕ) → b ≡ false → or_refuse n b z ≡ z
unfolding or_refuse
or-passed n b z e = rw e (same z)
  where
    same : (z : ℕ) → or_refuse n false z ≡ z
    same z = grind arith

pub or-first : (n : ℕ) (b : Bool) → b ≡ true → or_refuse n b 0 ≡ n
unfolding or_refuse
or-first n b e = rw e

pub ruleset passing = (handed, number-positive, or-kept, or-passed, or-first, half-size, sized)

-- ---- the outcome of a chain
module _ {A : Type 0} (l k : Tests) (r : Result A Refusal) (e : Refusal) (h : IsErrAnd r (λ y. y ≡ e)) where
  -- a `?` that met a refusal of the tests l
  pub out : number e ≡ first_refusal 0 l → number_of r ≡ first_refusal 0 l
  out f = handed r e h ∙ f

  -- where the tests k would have come after them
  pub out-front : number e ≡ first_refusal 0 l → number_of r ≡ first_refusal 0 (l ++ k)
  out-front f = handed r e h ∙ first-refusal-front l k (number e) f (λ z. let p = number-positive e in omega arith)

-- where l were passed, the rest decides
pub late : (l k : Tests) {z : ℕ} → 0 ≡ first_refusal 0 l → z ≡ first_refusal 0 k → z ≡ first_refusal 0 (l ++ k)
late l k {z} e f = first-refusal-late l k 0 z e refl f

-- and each of them was
pub cleared : (l : Tests) → numbered l ≡ true → 0 ≡ first_refusal 0 l → Clear l
cleared l n e = (first-refusal-clear 0 l n (sym e)).1

-- what a refused call leaves, by its answer, and what another one leaves
pub unchanged : {A B : Type 0} {z : ℕ} (new : B) {old : B} (r : Result A Refusal) → IsErr r → number_of r ≡ z → old ≡ unless_refused z new old
unchanged {z = z} new r h e = rw (ne_eqb z 0 (failed r e h))

pub changed : {B : Type 0} {z : ℕ} {left new : B} (old : B) → 0 ≡ z → left ≡ new → left ≡ unless_refused z new old
changed old e h = rw (← e, h)

-- a `require` that was passed: its test holds
pub held : (b : Bool) (e : Refusal) (u : Unit {0}) → Ok u ≡ (if b then Ok tt else Err e) → b ≡ true
held true e u h = refl
held false e u h = cc

-- a `require` alone: a test with its number
pub required : (r : Result Unit Refusal) (holds : Bool) (e : Refusal) → r ≡ (if holds then Ok tt else Err e)
    → number_of r ≡ first_refusal 0 ((number e, not holds) ∷ [])
unfolding or_refuse
required r true e h = rw h
required r false e h = rw h
