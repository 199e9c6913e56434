-- The counter of a transcript: an absorption sets it to 0, a draw adds one.
-- Assumes nothing.
use Rattle.std.proofs.Common.{◌≡◌, ℕ, ◌+◌, ◌^◌, ◌<◌, List, refl, mod-eq_of_lt}
use Rattle.magnetar_hash.specs.declared.transcript.Transcript.{Transcript}
use Rattle.magnetar_hash.specs.Transcript.{absorbed, drawn}

pub absorbed-counter : (t : Transcript) (label bytes : List ℕ) → (absorbed t label bytes).squeeze_ctr ≡ 0
unfolding absorbed
absorbed-counter t label bytes = refl

pub drawn-counter : (t : Transcript) (label : List ℕ) → t.squeeze_ctr + 1 < 2 ^ 64 → (drawn t label).squeeze_ctr ≡ t.squeeze_ctr + 1
unfolding drawn
drawn-counter t label h = mod-eq_of_lt h
