-- The structs that cross to C and what they carry: structs of the crates below with the same fields under the same names, and the
-- answers that are an enum below.
-- Source: document 01, "Forms that give way", as structs that C can hold; document 02, U3 (a stray bit).
-- Assumes nothing.
use Rattle.std.specs.Prelude.{false, ◌/◌, ◌%◌, ◌^◌}
use Rattle.magnetar_matrix.specs.RowCheck.Verdict.{good, stray, bin, fld}
use Rattle.magnetar_check.specs.Check.{Outcome}
use Rattle.magnetar_check.specs.Check.Outcome.{judged, refused}
use Rattle.magnetar_multilinear.specs.Entries.{Answer}
use Rattle.magnetar_multilinear.specs.Entries.Answer.{element as found, refusal as not_found}
use Rattle.magnetar_r1cs.specs.Entries.{Flagged}
use Rattle.magnetar_r1cs.specs.Entries.Flagged.{flag as asked, refusal as not_asked}
use Rattle.magnetar_field.specs.declared.gf128.Gf128.{Gf128}
use Rattle.magnetar_field.specs.Gf128.{value}
use Rattle.magnetar_hash.specs.declared.transcript.Transcript.{Transcript}
use Rattle.magnetar_hash.specs.Transcript.{TranscriptAnswer, DrawAnswer}
use Rattle.magnetar_hash.specs.Parts.{DigestAnswer}
use Rattle.magnetar_sumcheck_verifier.specs.Outcome.{RoundLeft}
use Rattle.magnetar_prover.specs.Capture.{CaptureLeft}
use Rattle.magnetar_c.specs.declared.across.MagnetarElement.{MagnetarElement}
use Rattle.magnetar_c.specs.declared.across.MagnetarTranscript.{MagnetarTranscript}
use Rattle.magnetar_c.specs.declared.across.MagnetarAnswer.{MagnetarAnswer}
use Rattle.magnetar_c.specs.declared.across.MagnetarDraw.{MagnetarDraw}
use Rattle.magnetar_c.specs.declared.across.MagnetarRowCheck.{MagnetarRowCheck}
use Rattle.magnetar_c.specs.declared.across.MagnetarDigestAnswer.{MagnetarDigestAnswer}
use Rattle.magnetar_c.specs.declared.across.MagnetarValue.{MagnetarValue}
use Rattle.magnetar_c.specs.declared.across.MagnetarFlag.{MagnetarFlag}
use Rattle.magnetar_c.specs.declared.across.MagnetarRound.{MagnetarRound}
use Rattle.magnetar_c.specs.declared.across.MagnetarCapture.{MagnetarCapture}

-- an element
abbrev pub element : MagnetarElement → Gf128
element e = record { lo = e.lo; hi = e.hi }

-- a transcript
abbrev pub transcript : MagnetarTranscript → Transcript
transcript t = record { state = t.state; squeeze_ctr = t.squeeze_ctr }

-- a refusal's number and a transcript
abbrev pub answer : MagnetarAnswer → TranscriptAnswer
answer a = record { code = a.code; transcript = transcript a.transcript }

-- a refusal's number and a hash
abbrev pub digest : MagnetarDigestAnswer → DigestAnswer
digest a = record { code = a.code; digest = a.digest.bytes }

-- a refusal's number, a transcript and the element drawn
abbrev pub drawn : MagnetarDraw → DrawAnswer
drawn d = record { code = d.code; element = element d.element; transcript = transcript d.transcript }

-- the answer of the row check: system 0 where the batch is good, 1 and 2 with the row of bin and fld that does not hold, 3 with a refusal's
-- number, 4 with the column of the stray bit
unfoldable pub row_check_answer : Outcome → MagnetarRowCheck
row_check_answer (judged good) = record { code = 0; system = 0; login = 0; row = 0; column = 0 }
row_check_answer (judged (stray u y)) = record { code = 0; system = 4; login = u; row = 0; column = y }
row_check_answer (judged (bin u i)) = record { code = 0; system = 1; login = u; row = i; column = 0 }
row_check_answer (judged (fld u i)) = record { code = 0; system = 2; login = u; row = i; column = 0 }
row_check_answer (refused n) = record { code = n; system = 3; login = 0; row = 0; column = 0 }

-- what a round of the verifier leaves
abbrev pub round : MagnetarRound → RoundLeft
round r = record { code = r.code; holds = r.holds; claim = value (element r.claim) }

-- the same of a round that draws
abbrev pub captured : MagnetarCapture → CaptureLeft
captured c =
    record {
      code = c.code;
      holds = c.holds;
      claim = value (element c.claim);
      challenge = element c.challenge;
      transcript = transcript c.transcript;
    }

-- an answer that is an element, by its words, or the number of a refusal and the element 0
unfoldable pub evaluated : Answer → MagnetarValue
evaluated (found v) = record { code = 0; element = record { lo = v % 2 ^ 64; hi = v / 2 ^ 64 } }
evaluated (not_found n) = record { code = n; element = record { lo = 0; hi = 0 } }

-- an answer that is yes or no, or the number of a refusal and no
unfoldable pub flag : Flagged → MagnetarFlag
flag (asked b) = record { code = 0; yes = b }
flag (not_asked n) = record { code = n; yes = false }
