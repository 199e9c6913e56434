-- The outer checks phase by phase are those of the definition.
-- Assumes nothing.
use mathlib.Core.Path.{◌≡◌, refl, sym, ap, ap₂, ◌∙◌}
use mathlib.Core.Bool.{Bool, true, false}
use mathlib.Core.List.{List, [], ◌∷◌, ◌++◌, reverse}
use Prim.Native.Nat.{ℕ, zero, suc, ◌+◌, ◌*◌, ◌≤◌, ◌<◌}
use native.Mathlib.Omega.{arith}
use lib.Dec.{eqb, lit<}
use borrow.Author.Tests.{eq-eqb, ne_eqb, eqb-true, eqb-false}
use lib.ListN.{length, get_or, take, drop, length-drop, get_or-append}
use lib.Seq.{length-take-le, take-append-le, take-append-add, get_or-append-add}
use Rattle.magnetar_field.specs.Polynomial.{eval}
use Rattle.magnetar_field.proofs.Tabulation.{tabulate-ext}
use Rattle.magnetar_sumcheck_verifier.specs.Round.{holds, running}
use Rattle.magnetar_sumcheck_verifier.specs.Order.{eq_points}
use Rattle.magnetar_sumcheck_verifier.specs.Outer.{outer_end}
use Rattle.magnetar_matrix.specs.Batch.{Relation}
use Rattle.magnetar_protocol.specs.Shape.{log_logins, log_bin, log_fld, before_terminals, after_taus, after_shared, after_bin}
use Rattle.magnetar_protocol.specs.Proof.{part, bin_messages, fld_messages, terminal}
use Rattle.magnetar_protocol.specs.Draws.{Draws, draw_count, draws_of, login_point}
use Rattle.magnetar_protocol.specs.Checks.{Check, round_holds, shared_checks, row_checks, terminal_checks, bin_round, fld_round}
use Rattle.magnetar_protocol.proofs.Phases.{Numbered, numbered-append, numbered-tabulate}
use Rattle.magnetar_protocol.specs.declared.first.Failure.{Failure}
use Rattle.magnetar_protocol.specs.Found.{Found, failed, first_found, check, nothing, after}
use Rattle.magnetar_verifier.specs.Steps.{messages, round_checks, shared_bin, shared_fld, both_checks, terminal_holds, taus, shared_draws, bin_draws, fld_draws, bin_shared, fld_shared, bin_end, fld_end, shared_phase, bin_phase, fld_phase, terminal_phase, outer_phases}
use Rattle.magnetar_verifier.specs.Outer.{outer_checks}
use Rattle.magnetar_protocol.proofs.Finding.{finds, found-front, found-late}
use Rattle.magnetar_verifier.proofs.RoundLaws.{bin-length, fld-length}

pub eqb_comm : (a b : ℕ) → eqb a b ≡ eqb b a
eqb_comm a b = go (eqb a b) refl
  where
    go : (t : Bool) → eqb a b ≡ t → eqb a b ≡ eqb b a
    go true e = e ∙ sym (eq-eqb b a (sym (eqb-true a b e)))
    go false e = e ∙ sym (ne_eqb b a (λ h. eqb-false a b e (sym h)))

-- ---- rounds of a sum-check in two parts
pub running-append : (c : ℕ) (ms ns : List (List ℕ)) (rs ts : List ℕ) → length ms ≡ length rs
    → running c (ms ++ ns) (rs ++ ts) ≡ running (running c ms rs) ns ts
unfolding running
running-append c [] ns [] ts h = refl
running-append c [] ns (r ∷ rs) ts h = absurd (omega arith)
running-append c (m ∷ ms) ns [] ts h = absurd (omega arith)
running-append c (m ∷ ms) ns (r ∷ rs) ts h = running-append (eval m r) ms ns rs ts (omega arith)

round-front : (c : ℕ) (ms ns : List (List ℕ)) (rs ts : List ℕ) (i : ℕ) → i < length ms → i ≤ length rs
    → round_holds c (ms ++ ns) (rs ++ ts) i ≡ round_holds c ms rs i
unfolding round_holds
round-front c ms ns rs ts i h k = rw (get_or-append ms ns [] i h, take-append-le i ms ns (omega arith), take-append-le i rs ts k)

round-behind : (c : ℕ) (ms ns : List (List ℕ)) (rs ts : List ℕ) (s i : ℕ) → length ms ≡ s → length rs ≡ s
    → round_holds c (ms ++ ns) (rs ++ ts) (s + i) ≡ round_holds (running c ms rs) ns ts i
unfolding round_holds
round-behind c ms ns rs ts s i hm hr =
    ap₂ (λ (m : List ℕ) (k : ℕ). holds m k)
    (ap (λ (k : ℕ). get_or (ms ++ ns) (k + i) []) (sym hm) ∙ get_or-append-add ms ns i [])
    (ap₂ (running c) (ap (λ (k : ℕ). take (k + i) (ms ++ ns)) (sym hm) ∙ take-append-add ms ns i)
    (ap (λ (k : ℕ). take (k + i) (rs ++ ts)) (sym hr) ∙ take-append-add rs ts i)
    ∙ running-append c ms (take i ns) rs (take i ts) (hm ∙ sym hr))

-- a terminal, its three values by their places
ends-are : (c c' e : ℕ) (w : List ℕ) (i j k n : ℕ) → c ≡ c' → i ≡ n → j ≡ n + 1 → k ≡ n + 2
    → eqb c (outer_end e (get_or w i 0) (get_or w j 0) (get_or w k 0)) ≡ eqb (outer_end e (get_or w n 0) (get_or w (n + 1) 0) (get_or w (n + 2) 0)) c'
ends-are c c' e w i j k n p x y z = rw (p, x, y, z) (eqb_comm c' (outer_end e (get_or w n 0) (get_or w (n + 1) 0) (get_or w (n + 2) 0)))

module _ (r : Relation) (w d : List ℕ) (long : draw_count r ≤ length d) where
  abbrev D : Draws
  D = draws_of r d

  abbrev s : ℕ
  s = log_logins r

  abbrev b : ℕ
  b = log_bin r

  abbrev f : ℕ
  f = log_fld r

  shared-length : length (shared_draws s b f w d) ≡ s
  shared-length = length-take-le s (drop (taus s b f w d) d) (rw length-drop (omega arith))

  -- the messages and the challenges of each system are those of the shared rounds and then its own
  bin-ms : bin_messages r w ≡ shared_bin s w ++ messages (8 * s) 4 b w
  unfolding bin_messages shared_bin messages
  bin-ms = refl

  fld-ms : fld_messages r w ≡ shared_fld s w ++ messages (8 * s + 4 * b) 4 f w
  unfolding fld_messages shared_fld messages
  fld-ms = refl

  bin-rs : D.shared ++ D.row_bin ≡ shared_draws s b f w d ++ bin_draws s b f w d
  unfolding draws_of
  bin-rs = refl

  fld-rs : D.shared ++ D.row_fld ≡ shared_draws s b f w d ++ fld_draws s b f w d
  unfolding draws_of
  fld-rs = refl

  shared-is : (i n : ℕ) → i + n ≤ s → shared_checks r w D i n
      ≡ both_checks (taus s b f w d) (shared_bin s w) (shared_fld s w) (shared_draws s b f w d) i n
  unfolding shared_checks both_checks
  shared-is i zero h = refl
  shared-is i (suc n) h =
      let j : i < s = omega arith in
      let p : bin_round r w D i ≡ round_holds 0 (shared_bin s w) (shared_draws s b f w d) i =
      ap₂ (λ (x : List (List ℕ)) (y : List ℕ). round_holds 0 x y i) bin-ms bin-rs
      ∙ round-front 0 (shared_bin s w) (messages (8 * s) 4 b w) (shared_draws s b f w d) (bin_draws s b f w d) i (rw (bin-length s w) j)
      (rw shared-length (omega arith)) in
      let q : fld_round r w D i ≡ round_holds 0 (shared_fld s w) (shared_draws s b f w d) i =
      ap₂ (λ (x : List (List ℕ)) (y : List ℕ). round_holds 0 x y i) fld-ms fld-rs
      ∙ round-front 0 (shared_fld s w) (messages (8 * s + 4 * b) 4 f w) (shared_draws s b f w d) (fld_draws s b f w d) i (rw (fld-length s w) j)
      (rw shared-length (omega arith)) in
      ap₂ (λ (x : Bool) (l : List Check). check 21 x (after_taus r + 2 * suc i) ∷ l) p
      (ap₂ (λ (x : Bool) (l : List Check). check 22 x (after_taus r + 2 * suc i) ∷ l) q (shared-is (suc i) n (omega arith)))

  rows_are : row_checks r w D ≡ bin_phase s b f w d ++ fld_phase s b f w d
  unfolding row_checks round_checks
  rows_are =
      ap₂ ◌++◌
      (tabulate-ext (λ i. check 23 (bin_round r w D (s + i)) (after_shared r + 2 * suc i))
      (λ i. check 23 (round_holds (bin_shared s b f w d) (messages (8 * s) 4 b w) (bin_draws s b f w d) i) (taus s b f w d + 2 * s + 2 + 2 * i)) b
      (λ i h. ap₂ (check 23) (bin_at i) (omega arith)))
      (tabulate-ext (λ i. check 24 (fld_round r w D (s + i)) (after_bin r + 2 * suc i))
      (λ i. check 24 (round_holds (fld_shared s b f w d) (messages (8 * s + 4 * b) 4 f w) (fld_draws s b f w d) i)
      (taus s b f w d + 2 * s + 2 * b + 2 + 2 * i)) f
      (λ i h. ap₂ (check 24) (fld-at i) (omega arith)))
    where
      bin_at : (i : ℕ) → bin_round r w D (s + i) ≡ round_holds (bin_shared s b f w d) (messages (8 * s) 4 b w) (bin_draws s b f w d) i
      bin_at i =
          ap₂ (λ (x : List (List ℕ)) (y : List ℕ). round_holds 0 x y (s + i)) bin-ms bin-rs
          ∙ round-behind 0 (shared_bin s w) (messages (8 * s) 4 b w) (shared_draws s b f w d) (bin_draws s b f w d) s i (bin-length s w) shared-length

      fld-at : (i : ℕ)
          → fld_round r w D (s + i) ≡ round_holds (fld_shared s b f w d) (messages (8 * s + 4 * b) 4 f w) (fld_draws s b f w d) i
      fld-at i =
          ap₂ (λ (x : List (List ℕ)) (y : List ℕ). round_holds 0 x y (s + i)) fld-ms fld-rs
          ∙ round-behind 0 (shared_fld s w) (messages (8 * s + 4 * b) 4 f w) (shared_draws s b f w d) (fld_draws s b f w d) s i (fld-length s w)
          shared-length

  bin-end : eqb (running 0 (bin_messages r w) (D.shared ++ D.row_bin))
      (outer_end (eq_points D.tau_bin (D.row_bin ++ login_point D)) (terminal r w 0) (terminal r w 1) (terminal r w 2))
      ≡ terminal_holds (bin_end s b f w d) (part 0 (s + b) d) (bin_draws s b f w d) (shared_draws s b f w d) w (8 * s + 4 * b + 4 * f)
  unfolding terminal_holds login_point draws_of
  bin-end =
      ends-are (running 0 (bin_messages r w) (D.shared ++ D.row_bin)) (bin_end s b f w d)
      (eq_points (part 0 (s + b) d) (bin_draws s b f w d ++ reverse (shared_draws s b f w d))) w
      (before_terminals r + 0) (before_terminals r + 1) (before_terminals r + 2) (8 * s + 4 * b + 4 * f)
      (ap₂ (running 0) bin-ms bin-rs
      ∙ running-append 0 (shared_bin s w) (messages (8 * s) 4 b w) (shared_draws s b f w d) (bin_draws s b f w d) (bin-length s w ∙ sym shared-length))
      (omega arith) (omega arith) (omega arith)

  fld-end : eqb (running 0 (fld_messages r w) (D.shared ++ D.row_fld))
      (outer_end (eq_points D.tau_fld (D.row_fld ++ login_point D)) (terminal r w 3) (terminal r w 4) (terminal r w 5))
      ≡ terminal_holds (fld_end s b f w d) (part (s + b) (s + f) d) (fld_draws s b f w d) (shared_draws s b f w d) w (8 * s + 4 * b + 4 * f + 3)
  unfolding terminal_holds login_point draws_of
  fld-end =
      ends-are (running 0 (fld_messages r w) (D.shared ++ D.row_fld)) (fld_end s b f w d)
      (eq_points (part (s + b) (s + f) d) (fld_draws s b f w d ++ reverse (shared_draws s b f w d))) w
      (before_terminals r + 3) (before_terminals r + 4) (before_terminals r + 5) (8 * s + 4 * b + 4 * f + 3)
      (ap₂ (running 0) fld-ms fld-rs
      ∙ running-append 0 (shared_fld s w) (messages (8 * s + 4 * b) 4 f w) (shared_draws s b f w d) (fld_draws s b f w d)
      (fld-length s w ∙ sym shared-length))
      (omega arith) (omega arith) (omega arith)

  terminals-are : terminal_checks r w D ≡ terminal_phase s b f w d
  unfolding terminal_checks
  terminals-are =
      ap₂ (λ (x : Bool) (l : List Check). check 25 x (taus s b f w d + 2 * s + 2 * b + 2 * f) ∷ l) bin-end
      (ap (λ (x : Bool). check 26 x (taus s b f w d + 2 * s + 2 * b + 2 * f) ∷ []) fld-end)

  pub outer-is : outer_checks r w D ≡ outer_phases s b f w d
  unfolding outer_checks outer_phases
  outer-is = ap₂ ◌++◌ (shared-is 0 s (omega arith)) (ap₂ ◌++◌ rows_are terminals-are)

module _ (s b f : ℕ) (w d : List ℕ) where
  both-numbered : (i n : ℕ)
      → Numbered (both_checks (taus s b f w d) (shared_bin s w) (shared_fld s w) (shared_draws s b f w d) i n)
  unfolding both_checks
  both-numbered i zero = tt
  both-numbered i (suc n) = (lit< tt, (lit< tt, both-numbered (suc i) n))

  bin-numbered : Numbered (bin_phase s b f w d)
  unfolding round_checks
  bin-numbered = numbered-tabulate 22 (λ j. round_holds (bin_shared s b f w d) (messages (8 * s) 4 b w) (bin_draws s b f w d) j)
      (λ j. taus s b f w d + 2 * s + 2 + 2 * j) b

  fld-numbered : Numbered (fld_phase s b f w d)
  unfolding round_checks
  fld-numbered = numbered-tabulate 23 (λ j. round_holds (fld_shared s b f w d) (messages (8 * s + 4 * b) 4 f w) (fld_draws s b f w d) j)
      (λ j. taus s b f w d + 2 * s + 2 * b + 2 + 2 * j) f

  pub outer-numbered : Numbered (outer_phases s b f w d)
  unfolding outer_phases
  outer-numbered =
      numbered-append (shared_phase s b f w d) ((bin_phase s b f w d ++ fld_phase s b f w d) ++ terminal_phase s b f w d) (both-numbered 0 s)
      (numbered-append (bin_phase s b f w d ++ fld_phase s b f w d) (terminal_phase s b f w d)
      (numbered-append (bin_phase s b f w d) (fld_phase s b f w d) bin-numbered fld-numbered) (lit< tt, (lit< tt, tt)))

-- ---- where the run stops: at a check of the shared rounds, of the row rounds, or behind them
module _ (s b f : ℕ) (w d : List ℕ) where
  abbrev later : List Check
  later = (bin_phase s b f w d ++ fld_phase s b f w d) ++ terminal_phase s b f w d

  pub shared-failed : (e : Failure) → failed e ≡ after nothing (shared_phase s b f w d) → failed e ≡ after nothing (outer_phases s b f w d)
  unfolding outer_phases
  shared-failed e h = found-front (shared_phase s b f w d) later e h

  module _ (shared : nothing ≡ after nothing (shared_phase s b f w d)) where
    pub bin-failed : (e : Failure) → failed e ≡ after nothing (bin_phase s b f w d) → failed e ≡ after nothing (outer_phases s b f w d)
    unfolding outer_phases
    bin-failed e h =
        found-late (shared_phase s b f w d) later shared
        (found-front (bin_phase s b f w d ++ fld_phase s b f w d) (terminal_phase s b f w d) e
        (found-front (bin_phase s b f w d) (fld_phase s b f w d) e h))

    module _ (bin : nothing ≡ after nothing (bin_phase s b f w d)) where
      pub fld-failed : (e : Failure) → failed e ≡ after nothing (fld_phase s b f w d) → failed e ≡ after nothing (outer_phases s b f w d)
      unfolding outer_phases
      fld-failed e h =
          found-late (shared_phase s b f w d) later shared
          (found-front (bin_phase s b f w d ++ fld_phase s b f w d) (terminal_phase s b f w d) e
          (found-late (bin_phase s b f w d) (fld_phase s b f w d) bin h))

      pub terminals-found : (fld : nothing ≡ after nothing (fld_phase s b f w d)) (g : Found) → g ≡ after nothing (terminal_phase s b f w d)
          → g ≡ after nothing (outer_phases s b f w d)
      unfolding outer_phases
      terminals-found fld g h =
          found-late (shared_phase s b f w d) later shared
          (found-late (bin_phase s b f w d ++ fld_phase s b f w d) (terminal_phase s b f w d)
          (found-late (bin_phase s b f w d) (fld_phase s b f w d) bin fld) h)

-- what the phases find is what the definition says
pub outer-found : (r : Relation) (w d : List ℕ) → draw_count r ≤ length d
    → after nothing (outer_phases (log_logins r) (log_bin r) (log_fld r) w d) ≡ first_found (outer_checks r w (draws_of r d))
outer-found r w d long =
    finds (outer_phases (log_logins r) (log_bin r) (log_fld r) w d) (outer-numbered (log_logins r) (log_bin r) (log_fld r) w d)
    ∙ ap first_found (sym (outer-is r w d long))
