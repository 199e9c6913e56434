-- What the proofs of chains of tests, and of what is done where a table has room, use.
-- Assumes nothing.
use Rattle.std.specs.Prelude.{◌≡◌, ℕ, ◌*◌, ◌/◌, Bool, true, false, not, if◌then◌else◌, [], ◌∷◌, Result, Ok, Err, ltb}
use mathlib.Core.Path.{refl, sym, ◌∙◌}
use native.Mathlib.Omega.{arith}
use borrow.Author.Tests.{ltb-true, ltb-false, lt-ltb, le-ltb}
use Rattle.magnetar_field.specs.declared.refusal.Refusal.{Refusal}
use Rattle.magnetar_field.specs.declared.refusal.Refusal.TheVariants.{Room}
use Rattle.magnetar_field.specs.Number.{number_of}
use Rattle.magnetar_layout.specs.Tests.{or_refuse, first_refusal}
use Rattle.magnetar_layout.proofs.Passing.{passing}
use Rattle.magnetar_layout.proofs.SizeLaws.{log-most}
use Rattle.magnetar_matrix.proofs.LoginParts.{product-most, words-most}
use Rattle.magnetar_matrix.proofs.PublicParts.{public-most}
use Rattle.magnetar_relation.proofs.StepLaws.{cleared-none}

-- where the tests of a size were passed
pub ruleset passed = (passing, log-most, words-most, product-most, public-most)

-- ---- a table's room
pub half-short : (m room : ℕ) → ltb (room / 2) m ≡ ltb room (2 * m)
half-short m room = go (ltb (room / 2) m) refl
  where
    go : (b : Bool) → ltb (room / 2) m ≡ b → ltb (room / 2) m ≡ ltb room (2 * m)
    go true b = b ∙ sym (lt-ltb room (2 * m) (omega (arith, ltb-true (room / 2) m b)))
    go false b = b ∙ sym (le-ltb room (2 * m) (omega (arith, ltb-false (room / 2) m b)))

pub ruleset roomy = (passing, half-short)

-- a `require` that a table has room
pub room-required : (r : Result Unit Refusal) (over : Bool) → r ≡ (if not over then Ok tt else Err Room) → number_of r ≡ first_refusal 0 ((15, over) ∷ [])
unfolding or_refuse
room-required r true h = rw h
room-required r false h = rw h

-- nothing is cleared where there is no room
pub ruleset none_cleared = (cleared-none, ltb-true)
