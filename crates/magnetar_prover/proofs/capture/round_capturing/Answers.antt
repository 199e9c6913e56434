use Rattle.std.proofs.Common.{arith}
use Rattle.magnetar_sumcheck_verifier.specs.Round.{next_claim}
use Rattle.magnetar_sumcheck_verifier.specs.Outcome.{round_outcome, round_refusal}
use Rattle.magnetar_prover.specs.Capture.{capture_outcome, capture_refusal, next_transcript, next_challenge}
use Rattle.magnetar_prover.proofs.Captured.{capturing}
use Rattle.magnetar_prover.proofs.capture.round_capturing.Goals as goal

pub returns-in_err-first : goal.returns-in_err-first
unfolding round_outcome round_refusal capture_outcome capture_refusal
returns-in_err-first c = grind (arith, capturing)

pub returns-in_err-require : goal.returns-in_err-require
unfolding round_outcome round_refusal capture_outcome capture_refusal
returns-in_err-require c = grind (arith, capturing)

pub returns-in_err-round : goal.returns-in_err-round
unfolding round_outcome round_refusal
returns-in_err-round c = grind (arith, capturing)

pub returns-then-not-first : goal.returns-then-not-first
unfolding round_outcome round_refusal capture_outcome capture_refusal next_transcript next_challenge next_claim
returns-then-not-first c = grind arith

pub returns : goal.returns
unfolding round_outcome round_refusal capture_outcome capture_refusal next_transcript next_challenge next_claim
returns c = grind arith
