-- Segments of the folded columns, and their values at their local points.
-- Assumes nothing.
use mathlib.Core.Path.{◌≡◌, refl, sym, ap, ap₂, ◌∙◌}
use mathlib.Core.List.{List, [], ◌∷◌, ◌++◌}
use Prim.Native.Nat.{ℕ, suc, ◌+◌, ◌-◌, ◌*◌, ◌/◌, ◌^◌, ◌≤◌, ◌<◌}
use Prim.Native.String.{String}
use native.Mathlib.Numerals.{add-one}
use native.Mathlib.Omega.{arith}
use lib.ListN.{length, get_or, take, drop, drop_of_length-le}
use lib.Seq.{length-take-le, drop-cons}
use borrow.Rule.Slice.PartMut.{put_mid}
use Rattle.magnetar_field.specs.Sizes.{log₂}
use Rattle.magnetar_field.specs.Tabulate.{tabulate}
use Rattle.magnetar_field.specs.Words.{elements, words}
use Rattle.magnetar_multilinear.specs.EqTable.{eq_table}
use Rattle.magnetar_multilinear.specs.Multilinear.{dot, mle}
use Rattle.magnetar_field.proofs.Elements.{elements-drop, elements-length, words-length}
use Rattle.magnetar_multilinear.proofs.EqTables.{eq_table-length}
use Rattle.magnetar_field.proofs.Tabulation.{tabulate-length, tabulate-get}
use Rattle.magnetar_hash.specs.declared.transcript.Transcript.{Transcript}
use Rattle.magnetar_schedule.specs.Schedule.{numbered}
use Rattle.magnetar_layout.specs.Layout.{offset, local_vars}
use Rattle.magnetar_layout.specs.Entries.{layout_refusal, segment_part}
use Rattle.magnetar_matrix.specs.Table.{Point}
use Rattle.magnetar_layout.proofs.Readings.{part-is}
use Rattle.magnetar_matrix.proofs.TableLaws.{elements-words}
use Rattle.magnetar_prover.specs.Entries.{table_at}
use Rattle.magnetar_prover.specs.InScratch.{Local, segment_in, Sent, sent_in, sent_each, absorbed_one}
use Rattle.magnetar_prover.proofs.Slots.{part-size, mid-before, mid_at}
use Rattle.magnetar_prover.proofs.Sent.{elements-take}

pub segment-is : (w : ℕ) (ns : List ℕ) (i : ℕ) (s : List ℕ) → layout_refusal w ns ≡ 0 → i < length ns → 2 * w ≤ length s
    → elements (segment_part w ns i (take (2 * w) s)) ≡ take (get_or ns i 0) (drop (offset ns i) (table_at 0 (2 * w) s))
segment-is w ns i s e h l =
    ap elements (sym (part-is w ns i (take (2 * w) s) (sym e) (length-take-le (2 * w) s l) h))
    ∙ (sym (elements-take (get_or ns i 0) (drop (2 * offset ns i) (take (2 * w) s)))
    ∙ ap (take (get_or ns i 0)) (sym (elements-drop (offset ns i) (take (2 * w) s))))

-- the local point and the room for its eq table
pub local-point : (w n k : ℕ) (d s : List ℕ) → k ≡ log₂ n → Local w n (length d) → 2 * w + 2 * n ≤ length s
    → Point (take (2 * k) d) (take (2 * w + 2 * n - 2 * w) (drop (2 * w) s))
local-point w n k d s e l h =
    let p : length (take (2 * k) d) ≡ 2 * k = length-take-le (2 * k) d (omega (arith, e, l.drawn)) in
    let q : length (take (2 * k) d) / 2 ≡ k = omega (arith, p) in
    record {
      even = omega (arith, p);
      short = omega (arith, p, e, l.few);
      room = part-size s (2 * w) (2 * n) h ∙ rw (q, e) (ap (λ (x : ℕ). 2 * x) l.power);
    }

module _ (w n k i : ℕ) (ns d s t : List ℕ) (log : k ≡ log₂ n) (here : n ≡ get_or ns i 0) (l : Local w n (length d)) (h : 2 * w + 2 * n ≤ length s)
    (is : t ≡ words (eq_table (elements (take (2 * k) d)))) where
  point-is : elements (take (2 * k) d) ≡ take (local_vars ns i) (elements d)
  point-is = sym (elements-take k d) ∙ ap (λ (x : ℕ). take x (elements d)) (log ∙ ap log₂ here)

  long : length t ≡ 2 * n
  long =
      ap length is ∙ (words-length (eq_table (elements (take (2 * k) d))) ∙ (ap (λ (x : ℕ). 2 * x) (eq_table-length (elements (take (2 * k) d)))
      ∙ ap (λ (x : ℕ). 2 * x) (ap (λ (x : ℕ). 2 ^ x) many ∙ (ap (λ (x : ℕ). 2 ^ x) log ∙ sym l.power))))
    where
      many : length (elements (take (2 * k) d)) ≡ k
      many = elements-length (take (2 * k) d) ∙ halve (length-take-le (2 * k) d (omega (arith, log, l.drawn)))
        where
          halve : length (take (2 * k) d) ≡ 2 * k → length (take (2 * k) d) / 2 ≡ k
          halve e = omega arith

  pub columns-kept : table_at 0 (2 * w) (put_mid (2 * w) (2 * w + 2 * n - 2 * w) s t) ≡ table_at 0 (2 * w) s
  columns-kept = ap elements (mid-before s t (2 * w) (2 * n) h long 0 (2 * w) (omega arith))

  pub segment-sum : dot (take (get_or ns i 0) (drop (offset ns i) (table_at 0 (2 * w) (put_mid (2 * w) (2 * w + 2 * n - 2 * w) s t))))
      (table_at (2 * w) (2 * n) (put_mid (2 * w) (2 * w + 2 * n - 2 * w) s t)) ≡ segment_in ns (table_at 0 (2 * w) s) (elements d) i
  unfolding mle
  segment-sum =
      ap₂ (λ (f e : List ℕ). dot (take (get_or ns i 0) (drop (offset ns i) f)) e) columns-kept
      (ap elements (mid_at s t (2 * w) (2 * n) h long ∙ is) ∙ (elements-words (eq_table (elements (take (2 * k) d))) ∙ ap eq_table point-is))

-- ---- the loop: what is left, sent from where the run stands, is all of them
pub record Each (label : String) (vs : List ℕ) (start : Sent) (i : ℕ) (at : Sent) : Type 0 where
  pub left : sent_each label i (drop i vs) at ≡ sent_each label 0 vs start

each_step : (label : String) (i v : ℕ) (vs : List ℕ) (p : Sent) → sent_each label i (v ∷ vs) p
    ≡ sent_each label (suc i) vs (record { transcript = absorbed_one p.transcript (numbered label i) v; sent = p.sent ++ (v ∷ []) })
unfolding sent_each
each_step label i v vs p = refl

pub each_more : (label : String) (f : ℕ → ℕ) (n i k : ℕ) (start : Sent) (t u : Transcript) (proof p' : List ℕ)
    → Each label (tabulate f n) start i (sent_in (k + i) t proof) → i < n → u ≡ absorbed_one t (numbered label i) (f i)
    → take (k + i + 1) (elements p') ≡ take (k + i) (elements proof) ++ (f i ∷ []) → Each label (tabulate f n) start (i + 1) (sent_in (k + (i + 1)) u p')
each_more label f n i k start t u proof p' r h e g = record {
  left =
      ap (λ (j : ℕ). sent_each label j (drop j (tabulate f n)) (sent_in (k + (i + 1)) u p')) (add-one i)
      ∙ (ap (sent_each label (suc i) (drop (suc i) (tabulate f n))) same
      ∙ (sym (each_step label i (f i) (drop (suc i) (tabulate f n)) (sent_in (k + i) t proof))
      ∙ (ap (λ (l : List ℕ). sent_each label i l (sent_in (k + i) t proof)) (sym now) ∙ r.left)));
}
  where
    now : drop i (tabulate f n) ≡ f i ∷ drop (suc i) (tabulate f n)
    now = drop-cons (tabulate f n) i 0 (rw tabulate-length h) ∙ ap (λ (v : ℕ). v ∷ drop (suc i) (tabulate f n)) (tabulate-get f n i 0 h)

    place : k + (i + 1) ≡ k + i + 1
    place = omega arith

    same : sent_in (k + (i + 1)) u p' ≡ record { transcript = absorbed_one t (numbered label i) (f i); sent = take (k + i) (elements proof) ++ (f i ∷ []) }
    same = ap₂ (λ (x : Transcript) (l : List ℕ). record { transcript = x; sent = l }) e (ap (λ (j : ℕ). take j (elements p')) place ∙ g)

pub each-end : (label : String) (f : ℕ → ℕ) (n i : ℕ) (start at : Sent) → Each label (tabulate f n) start i at → i ≡ n → at
    ≡ sent_each label 0 (tabulate f n) start
unfolding sent_each
each-end label f n i start at r e = (rw (drop_of_length-le (tabulate f n) {i = i} (rw tabulate-length (omega arith))) at r.left)

pub each-done : (label : String) (f : ℕ → ℕ) (n i k : ℕ) (start : Sent) (t : Transcript) (proof : List ℕ)
    → Each label (tabulate f n) start i (sent_in (k + i) t proof)
    → i ≡ n → sent_in (k + n) t proof ≡ sent_each label 0 (tabulate f n) start
each-done label f n i k start t proof r e =
    ap (λ (j : ℕ). sent_in (k + j) t proof) (sym e) ∙ each-end label f n i start (sent_in (k + i) t proof) r e
