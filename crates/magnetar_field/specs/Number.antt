-- The number of a refusal, and that of an answer.
-- Source: document 01, "Who can be turned back" (1 to 17, and 21 to 29 in the Rust's order).
-- Assumes nothing.
use Rattle.std.specs.Prelude.{ℕ, Result, Ok, Err}
use Rattle.magnetar_field.specs.declared.refusal.Refusal.{Refusal}
use Rattle.magnetar_field.specs.declared.refusal.Refusal.TheVariants.{Size, PackedWords, PublicWords, Rows, Columns, EntryCount, EntryPlace, SegmentLength, LayoutEnd, SegmentCount, Length, NotBits, MaskBits, Counter, Room, ProofWords, PartLengths, SharedBin, SharedFld, RowBin, RowFld, TerminalBin, TerminalFld, InnerRound, InnerTerminal, SegmentIdentity}

-- the number of a refusal
abbrev pub number : Refusal → ℕ
number Size = 1
number PackedWords = 2
number PublicWords = 3
number Rows = 4
number Columns = 5
number EntryCount = 6
number EntryPlace = 7
number SegmentLength = 8
number LayoutEnd = 9
number SegmentCount = 10
number Length = 11
number NotBits = 12
number MaskBits = 13
number Counter = 14
number Room = 15
number ProofWords = 16
number PartLengths = 17
number SharedBin = 21
number SharedFld = 22
number RowBin = 23
number RowFld = 24
number TerminalBin = 25
number TerminalFld = 26
number InnerRound = 27
number InnerTerminal = 28
number SegmentIdentity = 29

-- the number of an answer; 0 is no refusal
abbrev pub number_of : {A : Type 0} → Result A Refusal → ℕ
number_of (Ok a) = 0
number_of (Err r) = number r
