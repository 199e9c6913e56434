-- The checks 27 to 29 as they are made are those of the definition.
-- Assumes nothing.
use mathlib.Core.Path.{◌≡◌, sym, ap, ap₂, ◌∙◌}
use mathlib.Core.Bool.{Bool}
use mathlib.Core.List.{List, [], ◌∷◌, ◌++◌, append_assoc}
use Prim.Native.Nat.{ℕ, zero, suc, ◌+◌, ◌-◌, ◌*◌, ◌/◌, ◌^◌, ◌≤◌, ◌<◌}
use native.Mathlib.Nat.{two-pow-succ}
use native.Mathlib.Omega.{arith}
use lib.Dec.{eqb, lit<}
use lib.ListN.{length, get_or, drop, length-drop}
use lib.Seq.{take-take, take_all}
use Rattle.magnetar_field.specs.Sizes.{log₂}
use Rattle.magnetar_field.proofs.Log2.{log₂-pow}
use Rattle.magnetar_sumcheck_verifier.specs.Inner.{inner_end}
use Rattle.magnetar_matrix.specs.Batch.{Relation}
use Rattle.magnetar_layout.proofs.SizeLaws.{log-most}
use Rattle.magnetar_protocol.specs.Shape.{log_logins, log_bin, log_fld, log_cols, before_end, proof_elements}
use Rattle.magnetar_protocol.specs.Proof.{part, terminals, inner_rounds, value_z, segment_values}
use Rattle.magnetar_protocol.specs.Draws.{Draws, draws_of, low_point, top_element}
use Rattle.magnetar_protocol.specs.Checks.{Check, round_holds, inner_claim, segment_sum, identity_check_at}
use Rattle.magnetar_layout.specs.Tests.{Sized}
use Rattle.magnetar_protocol.proofs.Phases.{Numbered, numbered-append, numbered-tabulate}
use Rattle.magnetar_protocol.specs.declared.first.Failure.{Failure}
use Rattle.magnetar_protocol.specs.Found.{Found, failed, first_found, check, nothing, next_found, after}
use Rattle.magnetar_verifier.specs.Steps.{messages, round_checks}
use Rattle.magnetar_verifier.specs.EndSteps.{identical, alphas_at, terminals_at, events_before, inner_draws, first_claim, last_claim, vz, low_draws, round_phase, end_phases}
use Rattle.magnetar_verifier.specs.End.{end_checks}
use Rattle.magnetar_verifier.proofs.Pieces.{part-get}
use Rattle.magnetar_protocol.proofs.Finding.{after_two, finds, found-front, found-late}
use Rattle.magnetar_verifier.proofs.OuterPhases.{eqb_comm}

-- ---- the columns
pub record Cols (m c : ℕ) : Type 0 where
  pub pos : 0 < c
  pub small : c ≤ 16
  pub half : c - 1 ≡ log₂ (m / 2)
  pub even : 2 * (m / 2) ≡ m

pub cols : (m c : ℕ) → Sized 2 65536 m → c ≡ log₂ m → Cols m c
cols m c P e = go c (P.power ∙ ap (λ (k : ℕ). 2 ^ k) (sym e)) most
  where
    most : c ≤ 16
    most = omega (arith, e, log-most m P.high P.power)

    go : (k : ℕ) → m ≡ 2 ^ k → k ≤ 16 → Cols m k
    go zero p l = absurd (omega (arith, P.low))
    go (suc k) p l =
        let h : m / 2 ≡ 2 ^ k = omega (arith, p, two-pow-succ k) in
        let d : suc k - 1 ≡ k = omega arith in
        record { pos = omega arith; small = l; half = rw (d, h) (sym (log₂-pow k (omega arith))); even = omega (arith, p, h, two-pow-succ k) }

-- ---- phase by phase
module _ (r : Relation) (w d : List ℕ) (v p : ℕ) (exact : length w ≡ proof_elements r) (some : 0 < log_cols r) where
  abbrev D : Draws
  D = draws_of r d

  abbrev s : ℕ
  s = log_logins r

  abbrev b : ℕ
  b = log_bin r

  abbrev f : ℕ
  f = log_fld r

  abbrev c : ℕ
  c = log_cols r

  low-is : low_point r D ≡ low_draws s b f c r.lengths w d v p
  unfolding low_point draws_of
  low-is = take-take (c - 1) c (drop (alphas_at s b f c r.lengths w d v p + 6) d) (omega arith)

  top-is : top_element r D ≡ get_or d (alphas_at s b f c r.lengths w d v p + 6 + (c - 1)) 0
  unfolding top_element draws_of
  top-is = part-get (alphas_at s b f c r.lengths w d v p + 6) c (c - 1) d (omega arith)

  values-are : segment_values r w ≡ part (terminals_at s b f c r.lengths w d v p + 6 + 3 * c + 1) (length r.lengths) w
  unfolding segment_values
  values-are = sym (take_all (length r.lengths) (drop (before_end r + 1) w) (rw length-drop (omega arith)))

  abbrev sums : ℕ
  sums = segment_sum r.lengths (low_draws s b f c r.lengths w d v p) 0
      (part (terminals_at s b f c r.lengths w d v p + 6 + 3 * c + 1) (length r.lengths) w)

  sum_is : segment_sum r.lengths (low_point r D) 0 (segment_values r w) ≡ sums
  sum_is = ap₂ (λ (low vs : List ℕ). segment_sum r.lengths low 0 vs) low-is values-are

  identity-is : identity_check_at r w D p
      ≡ check 29 (identical (get_or d (alphas_at s b f c r.lengths w d v p + 6 + (c - 1)) 0) sums
      p (vz s b f c r.lengths w d v p))
      (events_before s b f c r.lengths w d v p + 2 * c + 1) ∷ []
  unfolding identical value_z
  identity-is = rw (top-is, sum_is)

  pub end_is : end_checks r w D v p ≡ end_phases s b f c r.lengths w d v p
  unfolding end_checks end_phases round_checks messages inner_claim inner_rounds terminals draws_of value_z
  end_is =
      append_assoc (round_phase s b f c r.lengths w d v p)
      (check 28 (eqb (last_claim s b f c r.lengths w d v p) (inner_end v (vz s b f c r.lengths w d v p)))
      (events_before s b f c r.lengths w d v p + 2 * c) ∷ []) (identity_check_at r w D p)
      ∙ ap₂ (λ (y : Bool) (l : List Check). round_phase s b f c r.lengths w d v p
      ++ (check 28 y (events_before s b f c r.lengths w d v p + 2 * c) ∷ l))
      (eqb_comm (last_claim s b f c r.lengths w d v p) (inner_end v (vz s b f c r.lengths w d v p)))
      identity-is

module _ (s b f c : ℕ) (ns w d : List ℕ) (v p : ℕ) where
  rounds-numbered : Numbered (round_phase s b f c ns w d v p)
  unfolding round_checks
  rounds-numbered = numbered-tabulate 26
      (λ j. round_holds (first_claim s b f c ns w d v p) (messages (terminals_at s b f c ns w d v p + 6) 3 c w) (inner_draws s b f c ns w d v p) j)
      (λ j. events_before s b f c ns w d v p + 2 * j) c

  end-numbered : Numbered (end_phases s b f c ns w d v p)
  unfolding end_phases
  end-numbered = numbered-append (round_phase s b f c ns w d v p) _ rounds-numbered (lit< tt, (lit< tt, tt))

  abbrev events : ℕ
  events = events_before s b f c ns w d v p + 2 * c

  abbrev identity : Bool
  identity =
      identical (get_or d (alphas_at s b f c ns w d v p + 6 + (c - 1)) 0)
      (segment_sum ns (low_draws s b f c ns w d v p) 0 (part (terminals_at s b f c ns w d v p + 6 + 3 * c + 1) (length ns) w)) p (vz s b f c ns w d v p)

  -- where the run stops: at a round, or behind them all
  pub rounds-failed : (e : Failure) → failed e ≡ after nothing (round_phase s b f c ns w d v p) → failed e ≡ after nothing (end_phases s b f c ns w d v p)
  unfolding end_phases
  rounds-failed e h = found-front (round_phase s b f c ns w d v p) _ e h

  pub end-found : nothing ≡ after nothing (round_phase s b f c ns w d v p) → (claim : ℕ) (y : Bool) (g : Found) → claim ≡ last_claim s b f c ns w d v p
      → y ≡ eqb (inner_end v (vz s b f c ns w d v p)) claim
      → g ≡ next_found (next_found nothing (check 28 y events)) (check 29 identity (events + 1)) → g ≡ after nothing (end_phases s b f c ns w d v p)
  unfolding end_phases
  end-found h claim y g ec ey e =
      found-late (round_phase s b f c ns w d v p) _ h (e ∙ rw (ey, ec) (sym (after_two nothing _ _)))

  pub end-finds : after nothing (end_phases s b f c ns w d v p) ≡ first_found (end_phases s b f c ns w d v p)
  end-finds = finds (end_phases s b f c ns w d v p) end-numbered
