-- The entries: the run of the definitions, and its words in the slices that are lent.
-- Assumes nothing.
use mathlib.Core.Path.{◌≡◌, sym, ap, ap₂, ◌∙◌}
use mathlib.Core.List.{List, [], ◌∷◌, ◌++◌}
use Prim.Native.Nat.{ℕ, ◌-◌, ◌*◌, ◌/◌, ◌^◌, ◌≤◌, ◌<◌}
use native.Mathlib.Omega.{arith}
use lib.ListN.{length, get_or, take, drop}
use lib.Seq.{take-take, take_all}
use Rattle.magnetar_field.specs.Sizes.{log₂}
use Rattle.magnetar_field.specs.Words.{elements, words, overlaid}
use Rattle.magnetar_multilinear.specs.Multilinear.{mle}
use Rattle.magnetar_field.proofs.Elements.{elements-length, words-elements}
use Rattle.magnetar_field.proofs.Tabulation.{tabulate-ext}
use Rattle.magnetar_hash.specs.Bytes.{ascii}
use Rattle.magnetar_hash.specs.declared.transcript.Transcript.{Transcript}
use Rattle.magnetar_layout.specs.Layout.{offset, local_vars}
use Rattle.magnetar_protocol.specs.Shape.{sizes_only}
use Rattle.magnetar_schedule.specs.Stepwise.{InnerSteps, begin, send, send_each, inner_steps, inner_run, segment_value, low_draws, ended, inner_all}
use Rattle.magnetar_prover.specs.InScratch.{Locals, segment_in, inner_ended, inner_whole}
use Rattle.magnetar_prover.specs.Entries.{table_at, inner_run_steps}
use Rattle.magnetar_prover.proofs.Slots.{take-of-drop}

-- the words of the first n elements of p, which has no more, over those that were lent
pub laid-over : (p lent : List ℕ) (a n : ℕ) → a ≡ 2 * n → length p ≡ a → a ≤ length lent → ((i : ℕ) → get_or (p ++ drop a lent) i 0 < 2 ^ 64)
    → p ++ drop a lent ≡ overlaid (words (take n (elements p))) lent
unfolding overlaid
laid-over p lent a n e l h fit =
    let c : length (elements p) ≤ n = rw elements-length (omega (arith, l, e)) in
    let w : words (take n (elements p)) ≡ p = rw (take_all n (elements p) c) (words-elements p (drop a lent) (omega (arith, l, e)) fit) in
    rw (w, l, take_all (length lent) p (omega (arith, l)))

-- a segment's local point is within the low ones
value-is : (m q b f : ℕ) (ns t c h : List ℕ) (k : ℕ) (d : List ℕ) (i : ℕ) → local_vars ns i ≤ k
    → segment_in ns c d i ≡ segment_value (sizes_only m q b f ns) t c h (take k d) i
unfolding segment_value
value-is m q b f ns t c h k d i l = ap (mle (take (get_or ns i 0) (drop (offset ns i) c))) (sym (take-take (local_vars ns i) k d l))

ends_same : (m q b f : ℕ) (ns t c h : List ℕ) (k : ℕ) (p : InnerSteps) → ((i : ℕ) → i < length ns → local_vars ns i ≤ k)
    → inner_ended ns c p ≡ ended (sizes_only m q b f ns) t c h (take k p.steps.run_state.draws) p
unfolding inner_ended ended
ends_same m q b f ns t c h k p few =
    ap (λ (vs : List ℕ). send_each "vs-seg-" 0 vs (send (ascii "vs-vz") (get_or p.z 0 0 ∷ []) p.steps))
    (tabulate-ext (segment_in ns c p.steps.run_state.draws) (segment_value (sizes_only m q b f ns) t c h (take k p.steps.run_state.draws)) (length ns)
    (λ i l. value-is m q b f ns t c h k p.steps.run_state.draws i (few i l)))

-- the inner rounds as they are defined
pub inner-all : (m q b f k : ℕ) (ns t c h : List ℕ) (u : Transcript) → k ≡ log₂ m → Locals (m / 2) ns (2 * k - 2)
    → inner_whole k ns t c h u ≡ inner_all (sizes_only m q b f ns) t c h (begin u)
unfolding inner_whole inner_all low_draws inner_run
inner-all m q b f k ns t c h u e l =
    rw (← e) (ends_same m q b f ns t c h (k - 1) (inner_steps k (record { steps = begin u; table = t; z = c ++ h })) few)
  where
    few : (i : ℕ) → i < length ns → local_vars ns i ≤ k - 1
    few i h = omega (arith, (l.each i h).drawn)

-- of the tables that stand in s
pub entered : (m w q b f k : ℕ) (ns s : List ℕ) (u : Transcript) → k ≡ log₂ m → w ≡ m / 2 → 2 * w ≡ m → Locals (m / 2) ns (2 * k - 2)
    → let S = take (6 * m) s in
    inner_whole k ns (table_at 0 (4 * w) S) (table_at (4 * w) (2 * w) S) (table_at (6 * w) (2 * w) S) u ≡ inner_run_steps (sizes_only m q b f ns) s u
unfolding inner_run_steps
entered m w q b f k ns s u e h d l =
    let S = take (6 * m) s in
    inner-all m q b f k ns (table_at 0 (4 * w) S) (table_at (4 * w) (2 * w) S) (table_at (6 * w) (2 * w) S) u e l
    ∙ λ j. inner_all (sizes_only m q b f ns) (table j) (columns j) (half j) (begin u)
  where
    four : 4 * w ≡ 2 * m
    four = omega (arith, d)

    six : 6 * w ≡ 3 * m
    six = omega (arith, d)

    table : table_at 0 (4 * w) (take (6 * m) s) ≡ elements (take (2 * m) s)
    table = ap elements (take-take (4 * w) (6 * m) s (omega (arith, d))) ∙ ap (λ (n : ℕ). elements (take n s)) four

    columns : table_at (4 * w) (2 * w) (take (6 * m) s) ≡ elements (take m (drop (2 * m) s))
    columns =
        ap elements (take-of-drop s (4 * w) (2 * w) (6 * m) (omega (arith, d))) ∙ ap₂ (λ (n k : ℕ). elements (take n (drop k s))) d four

    half : table_at (6 * w) (2 * w) (take (6 * m) s) ≡ elements (take m (drop (3 * m) s))
    half = ap elements (take-of-drop s (6 * w) (2 * w) (6 * m) (omega (arith, d))) ∙ ap₂ (λ (n k : ℕ). elements (take n (drop k s))) d six
