-- The rounds of one sum-check, and the outer checks phase by phase. Only the contracts of private functions speak of this.
-- Assumes nothing.
use Rattle.std.specs.Prelude.{Bool, List, [], ◌∷◌, ◌++◌, reverse, ℕ, zero, suc, ◌+◌, ◌*◌, eqb, get_or}
use Rattle.magnetar_field.specs.Tabulate.{tabulate}
use Rattle.magnetar_sumcheck_verifier.specs.Round.{running}
use Rattle.magnetar_sumcheck_verifier.specs.Order.{eq_points}
use Rattle.magnetar_sumcheck_verifier.specs.Outer.{outer_end}
use Rattle.magnetar_protocol.specs.Proof.{part}
use Rattle.magnetar_protocol.specs.Checks.{Check, round_holds}
use Rattle.magnetar_protocol.specs.Found.{check}

-- ---- the rounds of one sum-check
-- n messages of so many elements, one behind the other from place i on
unfoldable pub messages : (i width n : ℕ) → List ℕ → List (List ℕ)
messages i width n w = tabulate (λ j. part (i + width * j) width w) n

-- the checks of n rounds with the first claim c
unfoldable pub round_checks : (code events c : ℕ) → List (List ℕ) → List ℕ → ℕ → List Check
round_checks code events c ms rs n = tabulate (λ j. check code (round_holds c ms rs j) (events + 2 * j)) n

-- ---- the shared rounds of both systems
-- the messages of bin
unfoldable pub shared_bin : ℕ → List ℕ → List (List ℕ)
shared_bin n w = tabulate (λ j. part (8 * j) 4 w) n

-- and of fld
unfoldable pub shared_fld : ℕ → List ℕ → List (List ℕ)
shared_fld n w = tabulate (λ j. part (8 * j + 4) 4 w) n

-- the checks of n rounds from round i on, with the messages ms and ns and the challenges rs
unfoldable pub both_checks : ℕ → List (List ℕ) → List (List ℕ) → List ℕ → ℕ → ℕ → List Check
both_checks events ms ns rs i zero = []
both_checks events ms ns rs i (suc n) =
    check 21 (round_holds 0 ms rs i) (events + 2 * suc i)
    ∷ check 22 (round_holds 0 ns rs i) (events + 2 * suc i)
    ∷ both_checks events ms ns rs (suc i) n

-- ---- a terminal
-- the running claim c is eq(tau, point) (va vb + vc): the point is the row challenges, then the shared ones reversed
unfoldable pub terminal_holds : ℕ → List ℕ → List ℕ → List ℕ → List ℕ → ℕ → Bool
terminal_holds c tau rows shared w i =
    eqb (outer_end (eq_points tau (rows ++ reverse shared)) (get_or w i 0) (get_or w (i + 1) 0) (get_or w (i + 2) 0)) c

-- ---- the outer checks, with the logarithms s, b, f of the logins and the rows: all of them, phase by phase
module _ (s b f : ℕ) (w d : List ℕ) where
  -- the place of the shared challenges, which is how many events the taus are
  abbrev pub taus : ℕ
  taus = s + b + (s + f)

  -- the shared challenges
  abbrev pub shared_draws : List ℕ
  shared_draws = part taus s d

  -- the row challenges of bin
  abbrev pub bin_draws : List ℕ
  bin_draws = part (taus + s) b d

  -- and of fld
  abbrev pub fld_draws : List ℕ
  fld_draws = part (taus + s + b) f d

  -- the running claim of bin after the shared rounds
  abbrev pub bin_shared : ℕ
  bin_shared = running 0 (shared_bin s w) shared_draws

  -- and of fld
  abbrev pub fld_shared : ℕ
  fld_shared = running 0 (shared_fld s w) shared_draws

  -- the running claim of bin after its row rounds
  abbrev pub bin_end : ℕ
  bin_end = running bin_shared (messages (8 * s) 4 b w) bin_draws

  -- and of fld
  abbrev pub fld_end : ℕ
  fld_end = running fld_shared (messages (8 * s + 4 * b) 4 f w) fld_draws

  -- the checks of the shared rounds
  abbrev pub shared_phase : List Check
  shared_phase = both_checks taus (shared_bin s w) (shared_fld s w) shared_draws 0 s

  -- of the row rounds of bin
  abbrev pub bin_phase : List Check
  bin_phase = round_checks 23 (taus + 2 * s + 2) bin_shared (messages (8 * s) 4 b w) bin_draws b

  -- of those of fld
  abbrev pub fld_phase : List Check
  fld_phase = round_checks 24 (taus + 2 * s + 2 * b + 2) fld_shared (messages (8 * s + 4 * b) 4 f w) fld_draws f

  -- of the terminals
  abbrev pub terminal_phase : List Check
  terminal_phase =
      check 25 (terminal_holds bin_end (part 0 (s + b) d) bin_draws shared_draws w (8 * s + 4 * b + 4 * f)) (taus + 2 * s + 2 * b + 2 * f)
      ∷ check 26 (terminal_holds fld_end (part (s + b) (s + f) d) fld_draws shared_draws w (8 * s + 4 * b + 4 * f + 3))
      (taus + 2 * s + 2 * b + 2 * f)
      ∷ []

  -- all of them
  unfoldable pub outer_phases : List Check
  outer_phases = shared_phase ++ ((bin_phase ++ fld_phase) ++ terminal_phase)
