-- A refusal has a number above 0, and an answer none exactly where it is no `Err`.
-- Assumes nothing.
use Rattle.std.specs.Prelude.{Result, Ok, Err}
use Rattle.std.specs.Result.{is_err}
use Rattle.std.proofs.Common.{◌≡◌, refl, ℕ, ◌<◌, true, false, ltb, arith}
use mathlib.Core.Bool.{false≢true}
use borrow.Author.Tests.{ltb-true}
use Rattle.magnetar_field.specs.declared.refusal.Refusal.{Refusal}
use Rattle.magnetar_field.specs.declared.refusal.Refusal.TheVariants.{Size, PackedWords, PublicWords, Rows, Columns, EntryCount}
use Rattle.magnetar_field.specs.declared.refusal.Refusal.TheVariants.{EntryPlace, SegmentLength, LayoutEnd, SegmentCount, Length, NotBits}
use Rattle.magnetar_field.specs.declared.refusal.Refusal.TheVariants.{MaskBits, Counter, Room, ProofWords, PartLengths, SharedBin}
use Rattle.magnetar_field.specs.declared.refusal.Refusal.TheVariants.{SharedFld, RowBin, RowFld, TerminalBin, TerminalFld, InnerRound}
use Rattle.magnetar_field.specs.declared.refusal.Refusal.TheVariants.{InnerTerminal, SegmentIdentity}
use Rattle.magnetar_field.specs.Number.{number, number_of}

-- every refusal has a number
pub number-positive : (r : Refusal) → 0 < number r
number-positive r = ltb-true 0 (number r) (tested r)
  where
    tested : (r : Refusal) → ltb 0 (number r) ≡ true
    tested Size = refl
    tested PackedWords = refl
    tested PublicWords = refl
    tested Rows = refl
    tested Columns = refl
    tested EntryCount = refl
    tested EntryPlace = refl
    tested SegmentLength = refl
    tested LayoutEnd = refl
    tested SegmentCount = refl
    tested Length = refl
    tested NotBits = refl
    tested MaskBits = refl
    tested Counter = refl
    tested Room = refl
    tested ProofWords = refl
    tested PartLengths = refl
    tested SharedBin = refl
    tested SharedFld = refl
    tested RowBin = refl
    tested RowFld = refl
    tested TerminalBin = refl
    tested TerminalFld = refl
    tested InnerRound = refl
    tested InnerTerminal = refl
    tested SegmentIdentity = refl

-- an answer whose number is z, by the test `is_err`: z is 0 where it is none, and else not
pub clear : {A : Type 0} {z : ℕ} (r : Result A Refusal) → number_of r ≡ z → is_err r ≡ false → 0 ≡ z
clear (Ok a) e h = e
clear (Err r) e h = cc

pub failed : {A : Type 0} {z : ℕ} (r : Result A Refusal) → number_of r ≡ z → is_err r ≡ true → z ≡ 0 → ⊥
failed (Ok a) e h n = false≢true h
failed (Err r) e h n = let p = number-positive r in omega arith
