-- The checks 27 to 29 as they are made, with the logarithms s, b, f, c of the logins, the rows of bin and fld, and the columns. Only the
-- contracts of private functions speak of this.
-- Assumes nothing.
use Rattle.std.specs.Prelude.{◌≡◌, Bool, List, [], ◌∷◌, ◌++◌, ℕ, ◌+◌, ◌-◌, ◌*◌, ◌/◌, ◌≤◌, ◌<◌, eqb, length, get_or}
use Rattle.magnetar_field.specs.Gf128.{◌⊕◌, ◌⊗◌}
use Rattle.magnetar_field.specs.Sizes.{log₂}
use Rattle.magnetar_multilinear.specs.Multilinear.{dot}
use Rattle.magnetar_sumcheck_verifier.specs.Round.{running}
use Rattle.magnetar_sumcheck_verifier.specs.Inner.{inner_end}
use Rattle.magnetar_layout.specs.Layout.{LayoutFits}
use Rattle.magnetar_layout.specs.Tests.{Sized, most_columns, most_segments}
use Rattle.magnetar_protocol.specs.Shape.{proof_total}
use Rattle.magnetar_protocol.specs.Draws.{draw_total}
use Rattle.magnetar_protocol.specs.Proof.{part}
use Rattle.magnetar_protocol.specs.Checks.{Check, segment_sum}
use Rattle.magnetar_protocol.specs.Found.{check}
use Rattle.magnetar_verifier.specs.Steps.{messages, round_checks}

-- (1 + top) a + top p is v
unfoldable pub identical : (top a p v : ℕ) → Bool
identical top a p v = eqb ((1 ⊕ top) ⊗ a ⊕ top ⊗ p) v

module _ (s b f c : ℕ) (ns w d : List ℕ) (v p : ℕ) where
  -- the place of the alphas among the draws
  abbrev pub alphas_at : ℕ
  alphas_at = s + b + (s + f) + s + b + f

  -- the place of the terminals in the proof
  abbrev pub terminals_at : ℕ
  terminals_at = 8 * s + 4 * b + 4 * f

  -- how many events come before the inner rounds
  abbrev pub events_before : ℕ
  events_before = s + b + (s + f) + 2 * s + 2 * b + 2 * f + 12

  -- the challenges of the inner rounds
  abbrev pub inner_draws : List ℕ
  inner_draws = part (alphas_at + 6) c d

  -- the claim of the inner sum-check: the terminals, each times its alpha
  abbrev pub first_claim : ℕ
  first_claim = dot (part alphas_at 6 d) (part terminals_at 6 w)

  -- the claim that the inner rounds leave
  abbrev pub last_claim : ℕ
  last_claim = running first_claim (messages (terminals_at + 6) 3 c w) inner_draws

  -- v_z
  abbrev pub vz : ℕ
  vz = get_or w (terminals_at + 6 + 3 * c) 0

  -- the challenges of the inner rounds but the last
  abbrev pub low_draws : List ℕ
  low_draws = part (alphas_at + 6) (c - 1) d

  -- the checks of the inner rounds
  abbrev pub round_phase : List Check
  round_phase = round_checks 27 events_before first_claim (messages (terminals_at + 6) 3 c w) inner_draws c

  -- these, then the terminal, with the value v of the table, and the identity of v_z, with the value p of the public half
  unfoldable pub end_phases : List Check
  end_phases =
      round_phase
      ++ (check 28 (eqb (inner_end v vz) last_claim) (events_before + 2 * c)
      ∷ check 29
      (identical (get_or d (alphas_at + 6 + (c - 1)) 0)
      (segment_sum ns low_draws 0 (part (terminals_at + 6 + 3 * c + 1) (length ns) w)) p vz)
      (events_before + 2 * c + 1)
      ∷ [])

-- what the guard leaves
pub record EndFits (m s b f c : ℕ) (ns : List ℕ) (proof draws : ℕ) : Type 0 where
  pub columns : Sized 2 most_columns m
  pub logins : s < 64
  pub bin : b < 64
  pub fld : f < 64
  pub cols : c ≡ log₂ m
  pub layout : LayoutFits (m / 2) ns
  pub few : length ns ≤ most_segments
  pub drawn : draws ≡ 2 * draw_total s b f c
  pub exact : proof ≡ 2 * proof_total s b f c (length ns)
