-- The inner rounds with v_z and the segment values, from what each part of the run leaves.
-- Assumes nothing.
use mathlib.Core.Path.{◌≡◌, refl, sym, ap, ap₂, ◌∙◌}
use mathlib.Core.List.{List, [], ◌∷◌, ◌++◌}
use Prim.Native.Nat.{ℕ, suc, ◌+◌, ◌-◌, ◌*◌, ◌<◌}
use Prim.Native.String.{String}
use native.Mathlib.Omega.{arith}
use lib.ListN.{length, get_or, take, drop, length-drop}
use lib.Seq.{take-take, take_all, take-append-le, drop-append-le}
use Rattle.magnetar_field.specs.Tabulate.{tabulate}
use Rattle.magnetar_field.specs.Words.{elements}
use Rattle.magnetar_field.proofs.Elements.{elements-length}
use Rattle.magnetar_hash.specs.Bytes.{ascii}
use Rattle.magnetar_hash.specs.declared.transcript.Transcript.{Transcript}
use Rattle.magnetar_schedule.specs.Schedule.{numbered}
use Rattle.magnetar_schedule.specs.Stepwise.{Steps, InnerSteps, begin, send, send_each, inner_steps}
use Rattle.magnetar_prover.specs.Entries.{table_at}
use Rattle.magnetar_prover.specs.InScratch.{steps_in, inner_in, segment_in, Sent, sent_in, sent_each, absorbed_one, inner_ended, inner_whole}
use Rattle.magnetar_prover.proofs.Slots.{take-of-drop, fore-back}
use Rattle.magnetar_prover.proofs.Sent.{steps-eq}
use Rattle.magnetar_prover.proofs.InnerSteps.{inner-eq}

-- what is sent, with the draws beside it
abbrev pub beside : List ℕ → Sent → Steps
beside d p = record { run_state = record { transcript = p.transcript; draws = d }; sent = p.sent }

pub each-beside : (label : String) (i : ℕ) (vs d : List ℕ) (p : Sent) → send_each label i vs (beside d p) ≡ beside d (sent_each label i vs p)
unfolding send_each sent_each
each-beside label i [] d p = refl
each-beside label i (v ∷ vs) d p = each-beside label (suc i) vs d (record {
  transcript = absorbed_one p.transcript (numbered label i) v;
  sent = p.sent
      ++ (v ∷ []);
})

ended_is : (ns f : List ℕ) (q : InnerSteps) → inner_ended ns f q
    ≡ send_each "vs-seg-" 0 (tabulate (segment_in ns f q.steps.run_state.draws) (length ns)) (send (ascii "vs-vz") (get_or q.z 0 0 ∷ []) q.steps)
unfolding inner_ended
ended_is ns f q = refl

module _ (k w : ℕ) (ns s₀ s₁ s₂ p₀ p₁ p₂ p₃ d₀ d₁ : List ℕ) (t u v r : Transcript)
    (long : length s₁ ≡ 12 * w) (some : 0 < w) (front : length s₂ ≡ 8 * w) (drawn : length d₁ ≡ 2 * k) where
  abbrev table : List ℕ
  table = table_at 0 (4 * w) s₀

  abbrev columns : List ℕ
  columns = table_at (4 * w) (2 * w) s₀

  abbrev half : List ℕ
  half = table_at (6 * w) (2 * w) s₀

  abbrev ends : InnerSteps
  ends = inner_in (2 * w) 2 (3 * k) k u p₁ d₁ s₂

  four : 2 * (2 * w) ≡ 4 * w
  four = omega arith

  begins : table_at 0 (4 * w) s₁ ≡ table → table_at (4 * w) (4 * w) s₁ ≡ columns ++ half
      → inner_in (2 * w) (2 * (2 * w)) 0 0 t p₀ d₀ (take (8 * w) s₁) ≡ record { steps = begin t; table = table; z = columns ++ half }
  begins e f =
      inner-eq refl
      (ap (λ (n : ℕ). elements (take n (take (8 * w) s₁))) four ∙ (ap elements (take-take (4 * w) (8 * w) s₁ (omega arith)) ∙ e))
      (ap (λ (n : ℕ). elements (take n (drop n (take (8 * w) s₁)))) four ∙ (ap elements (take-of-drop s₁ (4 * w) (4 * w) (8 * w) (omega arith)) ∙ f))

  z-there : get_or (table_at (2 * (2 * w)) 2 s₂) 0 0 ≡ get_or (table_at (4 * w) 2 (s₂ ++ drop (8 * w) s₁)) 0 0
  z-there =
      ap (λ (n : ℕ). get_or (elements (take 2 (drop n s₂))) 0 0) four
      ∙ ap (λ (l : List ℕ). get_or (elements l) 0 0) (sym (ap (take 2) (drop-append-le (4 * w) s₂ (drop (8 * w) s₁) (omega (arith, front)))
      ∙ take-append-le 2 (drop (4 * w) s₂) (drop (8 * w) s₁) (rw length-drop (omega (arith, front)))))

  all-drawn : take k (elements d₁) ≡ elements d₁
  all-drawn = take_all k (elements d₁) (rw elements-length (omega (arith, drawn)))

  copy-there : table_at (8 * w) (2 * w) s₁ ≡ columns → table_at 0 (2 * w) (take (12 * w - 8 * w) (drop (8 * w) (s₂ ++ drop (8 * w) s₁))) ≡ columns
  copy-there e =
      ap elements (take-take (2 * w) (12 * w - 8 * w) (drop (8 * w) (s₂ ++ drop (8 * w) s₁)) (omega arith)
      ∙ ap (take (2 * w)) (fore-back s₁ s₂ (8 * w) (omega (arith, long)) front)) ∙ e

  pub whole_is : table_at 0 (4 * w) s₁ ≡ table → table_at (4 * w) (4 * w) s₁ ≡ columns ++ half → table_at (8 * w) (2 * w) s₁ ≡ columns
      → ends ≡ inner_steps k (inner_in (2 * w) (2 * (2 * w)) 0 0 t p₀ d₀ (take (8 * w) s₁))
      → v ≡ absorbed_one u (ascii "vs-vz") (get_or (table_at (4 * w) 2 (s₂ ++ drop (8 * w) s₁)) 0 0)
      → take (3 * k + 1) (elements p₂) ≡ take (3 * k) (elements p₁) ++ (get_or (table_at (4 * w) 2 (s₂ ++ drop (8 * w) s₁)) 0 0 ∷ [])
      → sent_in (3 * k + 1 + length ns) r p₃ ≡ sent_each "vs-seg-" 0 (tabulate (segment_in ns (table_at 0 (2 * w) (take (12 * w - 8 * w) (drop (8 * w)
      (s₂ ++ drop (8 * w) s₁)))) (elements d₁)) (length ns)) (sent_in (3 * k + 1) v p₂)
      → steps_in (3 * k + 1 + length ns) k r p₃ d₁ ≡ inner_whole k ns table columns half t
  unfolding inner_whole
  whole_is a b c e f g h =
      ap (beside (take k (elements d₁))) h
      ∙ (sym (each-beside "vs-seg-" 0 _ (take k (elements d₁)) (sent_in (3 * k + 1) v p₂))
      ∙ (ap₂ (λ (l : List ℕ) (p : Steps). send_each "vs-seg-" 0 l p) values sent
      ∙ (sym (ended_is ns columns ends)
      ∙ ap (inner_ended ns columns) (e ∙ ap (inner_steps k) (begins a b)))))
    where
      values : tabulate (segment_in ns (table_at 0 (2 * w) (take (12 * w - 8 * w) (drop (8 * w) (s₂ ++ drop (8 * w) s₁)))) (elements d₁)) (length ns)
          ≡ tabulate (segment_in ns columns (take k (elements d₁))) (length ns)
      values = ap₂ (λ (l m : List ℕ). tabulate (segment_in ns l m) (length ns)) (copy-there c) (sym all-drawn)

      sent : steps_in (3 * k + 1) k v p₂ d₁ ≡ send (ascii "vs-vz") (get_or (table_at (2 * (2 * w)) 2 s₂) 0 0 ∷ []) (steps_in (3 * k) k u p₁ d₁)
      sent = steps-eq (f ∙ ap (absorbed_one u (ascii "vs-vz")) (sym z-there)) refl (g ∙ ap (λ (y : ℕ). take (3 * k) (elements p₁) ++ (y ∷ [])) (sym z-there))
