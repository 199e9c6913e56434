-- What the tests of a run leave, and what they answer.
-- Assumes nothing.
use mathlib.Core.Path.{◌≡◌, ◌∙◌}
use mathlib.Core.List.{List, ◌++◌}
use Prim.Native.Nat.{ℕ, ◌*◌}
use native.Mathlib.Omega.{arith}
use lib.ListN.{length}
use borrow.Author.Tests.{ne_eqb}
use Rattle.std.specs.Prelude.{Result}
use Rattle.std.specs.Result.{IsErrAnd}
use Rattle.magnetar_field.specs.declared.refusal.Refusal.{Refusal}
use Rattle.magnetar_field.specs.Number.{number}
use Rattle.magnetar_layout.proofs.Refused.{number-positive}
use Rattle.magnetar_protocol.specs.declared.first.Failure.{Failure}
use Rattle.magnetar_protocol.specs.Found.{Found, found, unless_bad}
use Rattle.magnetar_protocol.proofs.Finding.{handed-refusal}
use Rattle.magnetar_layout.specs.Tests.{Tests, first_refusal}
use Rattle.magnetar_protocol.specs.declared.rounds.Rounds.{Rounds}
use Rattle.magnetar_protocol.specs.Rounds.{rounds_of, Few}
use Rattle.magnetar_protocol.specs.Shape.{proof_total, sizes_only}
use Rattle.magnetar_protocol.specs.Draws.{draw_total}
use Rattle.magnetar_protocol.specs.RunTests.{outline_tests, draw_tests, proof_tests}
use Rattle.magnetar_protocol.proofs.Guards.{outlined-given}
use Rattle.magnetar_verifier.specs.EndSteps.{EndFits}

-- the tests after those of the sizes and the segments
abbrev pub words_tests : (m q b f : ℕ) → (ns proof draws : List ℕ) → Tests
words_tests m q b f ns proof draws = draw_tests (sizes_only m q b f ns) draws ++ proof_tests (sizes_only m q b f ns) proof

pub fits-given : (m q b f : ℕ) (ns : List ℕ) (proof draws : ℕ) (r : Rounds) → r ≡ rounds_of m q b f → Few r
    → 0 ≡ first_refusal 0 (outline_tests m q b f ns) → draws ≡ 2 * draw_total r.shared r.bin r.fld r.inner
    → proof ≡ 2 * proof_total r.shared r.bin r.fld r.inner (length ns) → EndFits m r.shared r.bin r.fld r.inner ns proof draws
fits-given m q b f ns proof draws r e few h drawn exact =
    let o = outlined-given m q b f ns h in
    record {
      columns = o.counts.columns;
      logins = few.shared;
      bin = few.bin;
      fld = few.fld;
      cols = rw e;
      layout = o.layout;
      few = o.few;
      drawn = drawn;
      exact = exact;
    }

-- ---- the answer, where a refusal stops the run before any event, and where none does
pub bad-out : {A : Type 0} (r : Result A Failure) (e : Refusal) {n : ℕ} (f : Found) → IsErrAnd r (λ y. y ≡ record { check = e; events = 0 })
    → number e ≡ n → found r ≡ unless_bad n f
bad-out r e f h k =
    let p = number-positive e in handed-refusal r e h ∙ rw (← k, ne_eqb (number e) 0 (λ (z : number e ≡ 0). omega arith))

pub good-out : {n : ℕ} {f g : Found} → 0 ≡ n → g ≡ f → g ≡ unless_bad n f
good-out e h = rw (← e, h)
