-- The number of a refusal is not 0.
-- Assumes nothing.
use Rattle.std.proofs.Common.{◌≡◌, false, refl, nat_eq}
use Rattle.magnetar_field.specs.declared.refusal.Refusal.{Refusal}
use Rattle.magnetar_field.specs.declared.refusal.Refusal.TheVariants.{Size, PackedWords, PublicWords, Rows, Columns, EntryCount, EntryPlace}
use Rattle.magnetar_field.specs.declared.refusal.Refusal.TheVariants.{SegmentLength, LayoutEnd, SegmentCount, Length, NotBits, MaskBits, Counter}
use Rattle.magnetar_field.specs.declared.refusal.Refusal.TheVariants.{Room, ProofWords, PartLengths, SharedBin, SharedFld, RowBin, RowFld}
use Rattle.magnetar_field.specs.declared.refusal.Refusal.TheVariants.{TerminalBin, TerminalFld, InnerRound, InnerTerminal, SegmentIdentity}
use Rattle.magnetar_field.specs.Number.{number}

pub refused_number : (r : Refusal) → nat_eq (number r) 0 ≡ false
refused_number Size = refl
refused_number PackedWords = refl
refused_number PublicWords = refl
refused_number Rows = refl
refused_number Columns = refl
refused_number EntryCount = refl
refused_number EntryPlace = refl
refused_number SegmentLength = refl
refused_number LayoutEnd = refl
refused_number SegmentCount = refl
refused_number Length = refl
refused_number NotBits = refl
refused_number MaskBits = refl
refused_number Counter = refl
refused_number Room = refl
refused_number ProofWords = refl
refused_number PartLengths = refl
refused_number SharedBin = refl
refused_number SharedFld = refl
refused_number RowBin = refl
refused_number RowFld = refl
refused_number TerminalBin = refl
refused_number TerminalFld = refl
refused_number InnerRound = refl
refused_number InnerTerminal = refl
refused_number SegmentIdentity = refl
