-- What the stages of a run leave, call by call.
-- Assumes nothing.
use mathlib.Core.Path.{◌≡◌, sym, ap, ◌∙◌}
use mathlib.Core.List.{List}
use Prim.Native.Nat.{ℕ, ◌+◌, ◌-◌, ◌*◌, ◌≤◌, min}
use native.Mathlib.Omega.{arith}
use lib.ListN.{length, take, drop, replicate, length-take, length-drop, length-replicate}
use Rattle.std.specs.Prelude.{Ok, Err}
use borrow.Author.Tests.{ne_eqb}
use Rattle.magnetar_field.specs.Number.{number}
use Rattle.magnetar_field.specs.Words.{overlaid}
use Rattle.magnetar_field.proofs.Elements.{overlaid-same}
use Rattle.magnetar_hash.specs.declared.transcript.Transcript.{Transcript}
use Rattle.magnetar_matrix.specs.Batch.{Relation}
use Rattle.magnetar_protocol.specs.Found.{Found}
use Rattle.magnetar_protocol.specs.Draws.{draw_count}
use Rattle.magnetar_protocol.specs.declared.first.Failure.{Failure}
use Rattle.magnetar_protocol.specs.Found.{found}
use Rattle.magnetar_spartan.specs.Table.{window}
use Rattle.magnetar_spartan.specs.Stages.{run_to, drawn_of, claims_at, concluded, stopped_at}
use Rattle.magnetar_spartan.proofs.PassedTests.{some}

-- a part of the words
pub part-is : (o : Relation) (n k : ℕ) (d : List ℕ) → k ≡ min n 256 → n ≡ 2 * draw_count o → take k d ≡ drawn_of o d
part-is o n k d e f =
    let h : k ≡ min (2 * draw_count o) 256 = omega (arith, e, f) in
    ap (λ (i : ℕ). take i d) h

-- ---- the end of a run in which g is the first check that does not pass
module _ (o : Relation) (w d : List ℕ) (t u : Transcript) (c : List ℕ) (g : Found) where
  pub stopped-is : (f : Failure) (v : Transcript) → found {A = Unit} (Err f) ≡ g → v ≡ run_to o w t f.events
      → concluded (record { code = number f.check; transcript = v }) c ≡ stopped_at o w d t u g c
  stopped-is f v e h = rw (← e, h, ne_eqb (number f.check) 0 (some f.check))

  pub passed-is : (v : Transcript) (c' : List ℕ) → found {A = Unit} (Ok tt) ≡ g → v ≡ u → c' ≡ claims_at o w d c
      → concluded (record { code = 0; transcript = v }) c' ≡ stopped_at o w d t u g c
  passed-is v c' e h f = rw (← e, h, f)

-- ---- words out of the draws
pub window-is : (n k a : ℕ) (d r : List ℕ) → a ≡ min k (256 - n) → n ≤ 256 → length d ≡ 256 → r ≡ take (a + n - a) (drop a d) → r ≡ window n k d
window-is n k a d r h f l e =
    let long : length (take n (drop a d)) ≡ length (replicate {A = ℕ} n 0) = rw (length-take, length-drop, length-replicate) (omega (arith, h, f, l)) in
    let w : a + n - a ≡ n = omega arith in
    e ∙ (ap (λ (i : ℕ). take i (drop a d)) w
    ∙ (sym (overlaid-same (take n (drop a d)) (replicate n 0) (sym long)) ∙ ap (λ (i : ℕ). overlaid (take n (drop i d)) (replicate n 0)) h))
