-- The second part of a proving run, call by call: the folded columns, the inner rounds at their places, the claims, and the scratch cleared.
-- Assumes nothing.
use mathlib.Core.Path.{◌≡◌, refl, sym, ap, ap₂, ◌∙◌, subst}
use mathlib.Core.List.{List, [], ◌++◌, reverse, append_assoc}
use Prim.Native.Nat.{ℕ, ◌+◌, ◌-◌, ◌*◌, ◌/◌, ◌^◌, ◌≤◌, min}
use native.Mathlib.Omega.{arith}
use lib.ListN.{length, take, drop, replicate, length-append, length-drop, length-replicate}
use lib.Seq.{take_at, take_all, drop-drop, length-take-le}
use borrow.Author.Tests.{lt-ltb}
use Rattle.std.specs.Prelude.{Result, Ok, Err}
use Rattle.std.specs.Result.{result_unwrap_or}
use Rattle.magnetar_field.specs.declared.refusal.Refusal.{Refusal}
use Rattle.magnetar_protocol.specs.Scratch.{asked}
use Rattle.magnetar_field.specs.Sizes.{log₂}
use Rattle.magnetar_field.specs.Words.{elements, words, overlaid}
use Rattle.magnetar_field.proofs.Elements.{words-length}
use Rattle.magnetar_hash.specs.declared.transcript.Transcript.{Transcript}
use Rattle.magnetar_layout.specs.Tests.{Tests, column_tests, layout_tests, room_test, Sized}
use Rattle.magnetar_layout.proofs.FirstRefusal.{Clear}
use Rattle.magnetar_matrix.specs.Batch.{Relation, folded, public_folded}
use Rattle.magnetar_matrix.specs.Packed.{unpacked, public_of}
use Rattle.magnetar_protocol.specs.Shape.{log_cols, proof_elements, claim_count, sizes_only}
use Rattle.magnetar_protocol.specs.Draws.{draw_count}
use Rattle.magnetar_protocol.specs.Scratch.{prover_scratch_words}
use Rattle.magnetar_protocol.specs.Scratch.{ScratchWords}
use Rattle.magnetar_schedule.specs.Stepwise.{Steps, begin, inner_run, segment_value, low_draws, ended, inner_all}
use Rattle.magnetar_schedule.proofs.Stepwise.{goes-inner, inner-drawn-length, inner-sent-length}
use Rattle.magnetar_protocol.proofs.Guards.{prover-within}
use Rattle.magnetar_prover.specs.Entries.{inner_rounds_refusal, inner_run_steps}
use Rattle.magnetar_layout.proofs.Laid.{even-size}
use Rattle.magnetar_protocol.specs.RunTests.{counter_tests, run_tests, outline_tests, draw_tests, proof_tests}
use Rattle.magnetar_verifier.specs.Claims.{claims_refusal, claims_out}
use Rattle.magnetar_relation.specs.Rules.{Rules}
use Rattle.magnetar_spartan.specs.Refusals.{sizes_only_of, rows_bin, rows_fld, proof_words, prover_scratch_of}
use Rattle.magnetar_spartan.specs.Proving.{ValidRun, ValidFold, FoldLeft, login_at, sent_before, drawn_before, sent_all, drawn_all, InnerDone}
use Rattle.magnetar_spartan.specs.Proving.{EndLeft, inner_part_steps}
use Rattle.magnetar_spartan.proofs.PassedTests.{first-refusal-none, size-passes, same-passes, most-passes, true-passes}
use Rattle.magnetar_spartan.proofs.SizedRules.{sizes-passes, layout-passes, outline-passes}
use Rattle.magnetar_spartan.proofs.Ended.{draws-small}
use Rattle.magnetar_spartan.proofs.FoldLaws.{behind-front}

-- ---- words behind a front
-- n words in front of s
pub laid-front : (v s : List ℕ) (n : ℕ) → length v ≡ n → n ≤ length s → overlaid v s ≡ v ++ drop n s
unfolding overlaid
laid-front v s n e h = rw (take_all (length s) v (omega arith), e)

-- words laid over those behind the first a of s, up to word n
laid-behind : (s v : List ℕ) (a n : ℕ) → a + length v ≡ n → n ≤ length s → take a s ++ overlaid v (drop a s) ≡ (take a s ++ v) ++ drop n s
laid-behind s v a n e h =
    ap (λ (y : List ℕ). take a s ++ y) (laid-front v (drop a s) (length v) refl (rw length-drop (omega arith))
    ∙ ap (λ (y : List ℕ). v ++ y) (drop-drop (length v) a s ∙ ap (λ (i : ℕ). drop i s) e))
    ∙ sym (append_assoc (take a s) v (drop n s))

-- room behind the first k of l words
room-behind : {n k l a : ℕ} → k ≡ a → a + n ≤ l → n ≤ l - k
room-behind e h = omega arith

-- the words that are asked for, 0 where the sizes are refused
words-asked : (g : Result ℕ Refusal) → result_unwrap_or g 0 ≡ (asked g).words
words-asked (Ok n) = refl
words-asked (Err r) = refl

-- ---- the inner rounds and the claims
module _ (r : Relation) (c f h : List ℕ) (t : Transcript) where
  pub inner-drawn-many : length (inner_all r c f h (begin t)).run_state.draws ≡ log_cols r
  inner-drawn-many = ap length (goes-inner r c f h (begin t) 0 refl).draws ∙ inner-drawn-length r c f h (begin t) 0 refl

  pub inner-sent-many : length (inner_all r c f h (begin t)).sent ≡ 3 * log_cols r + 1 + length r.lengths
  inner-sent-many = ap length (goes-inner r c f h (begin t) 0 refl).sent ∙ inner-sent-length r c f h (begin t) 0 refl

module _ (R : Rules) (ws xs : ℕ) (w d c s : List ℕ) (t : Transcript)
    (ok : ValidRun R ws xs (length w) (length c) (length s) t.squeeze_ctr) (ld : length d ≡ 256) where
  abbrev m : ℕ
  m = R.m

  abbrev ns : List ℕ
  ns = R.lengths

  abbrev o : Relation
  o = sizes_only_of R

  abbrev pub P : Steps
  P = inner_run_steps (sizes_only m 1 1 1 ns) s t

  drawn-many : length P.run_state.draws ≡ log₂ m
  unfolding inner_run_steps
  drawn-many = inner-drawn-many (sizes_only m 1 1 1 ns) (elements (take (2 * m) s)) (elements (take m (drop (2 * m) s)))
      (elements (take m (drop (3 * m) s))) t

  sent-many : length P.sent ≡ 3 * log₂ m + 1 + length ns
  unfolding inner_run_steps
  sent-many = inner-sent-many (sizes_only m 1 1 1 ns) (elements (take (2 * m) s)) (elements (take m (drop (2 * m) s)))
      (elements (take m (drop (3 * m) s))) t

  inner-none : (W D : List ℕ) → 2 * log₂ m ≤ length D → 2 * (3 * log₂ m + 1 + length ns) ≤ length W → inner_rounds_refusal m ns W D s t ≡ 0
  unfolding inner_rounds_refusal
  inner-none W D hd hw =
      let rooms : Tests = counter_tests t.squeeze_ctr ++ (room_test (2 * log₂ m) D ++ room_test (2 * (3 * log₂ m + 1 + length ns)) W ++ room_test (6 * m) s) in
      let enough : Clear rooms = (
        true-passes _ (lt-ltb t.squeeze_ctr (2 ^ 32) ok.counter),
        (
          most-passes (length D) (2 * log₂ m) hd,
          (most-passes (length W) _ hw, (most-passes (length s) (6 * m) (omega (arith, ok.scratch)), tt)),
        ),
      ) in
      first-refusal-none (column_tests m ++ layout_tests (m / 2) ns ++ rooms) (size-passes 2 65536 m ok.ready.columns, layout-passes R ok.ready rooms enough)

  claims-none : (W D : List ℕ) → length W ≡ proof_words R → length D ≡ 2 * draw_count o
      → claims_refusal m R.q (rows_bin R) (rows_fld R) ns W D c ≡ 0
  unfolding claims_refusal
  claims-none W D hw hd =
      let tests : Tests = draw_tests o D ++ (room_test (2 * claim_count o) c ++ proof_tests o W) in
      first-refusal-none (outline_tests m R.q (rows_bin R) (rows_fld R) ns ++ tests) (outline-passes R ok.ready tests (
        same-passes (length D) (2 * draw_count o) hd,
        (most-passes (length c) (2 * claim_count o) ok.claims, (same-passes (length W) (2 * proof_elements o) hw, tt)),
      ))

  said-room : sent_before R + 2 * (3 * log₂ m + 1 + length ns) ≤ length w
  said-room = omega (arith, ok.proof)

  drawn-room : drawn_before R + 2 * log₂ m ≤ length d
  drawn-room = omega (arith, ld, draws-small R ok.ready)

  -- the claims read i words of the proof and n of the draws
  module _ (a k i n : ℕ) (ea : a ≡ sent_before R) (ek : k ≡ drawn_before R)
      (ei : i ≡ min (2 * (8 * log₂ R.q + 4 * log₂ (rows_bin R) + 4 * log₂ (rows_fld R) + 6 + 3 * log₂ m + 1 + min (length ns) 64)) (length w))
      (en : n ≡ min (2 * draw_count o) 256) where
    a-is : min a (length w) ≡ sent_before R
    a-is = omega (arith, ea, said-room)

    k-is : min k (length d) ≡ drawn_before R
    k-is = omega (arith, ek, drawn-room)

    i-is : i ≡ proof_words R
    i-is = omega (arith, ei, ok.proof, ok.ready.segments)

    n-is : n ≡ 2 * draw_count o
    n-is = omega (arith, en, draws-small R ok.ready)

    unrefused : inner_rounds_refusal m ns (drop (min a (length w)) w) (drop (min k (length d)) d) s t ≡ 0
    unrefused = inner-none (drop (min a (length w)) w) (drop (min k (length d)) d) (rw length-drop (room-behind k-is drawn-room))
        (rw length-drop (room-behind a-is said-room))

    said-long : length (sent_all R w P) ≡ proof_words R
    said-long =
        length-append (take (sent_before R) w) (words P.sent)
        ∙ omega (arith, length-take-le (sent_before R) w (omega (arith, said-room)), words-length P.sent, sent-many)

    drawn-long : length (drawn_all R d P) ≡ 2 * draw_count o
    drawn-long =
        length-append (take (drawn_before R) d) (words P.run_state.draws)
        ∙ omega (arith, length-take-le (drawn_before R) d (omega (arith, drawn-room)), words-length P.run_state.draws, drawn-many)

    module _ (u : Transcript) (w' d' s' : List ℕ) (done : InnerDone m ns w d s (min a (length w)) (min k (length d)) t u w' d' s') where
      w-is : w' ≡ sent_all R w P ++ drop (proof_words R) w
      w-is =
          done.1 ∙ rw (unrefused, a-is)
          (laid-behind w (words P.sent) (sent_before R) (proof_words R) (rw (words-length, sent-many) (omega arith)) ok.proof)

      d-is : d' ≡ drawn_all R d P ++ drop (2 * draw_count o) d
      d-is =
          done.2 ∙ rw (unrefused, k-is)
          (laid-behind d (words P.run_state.draws) (drawn_before R) (2 * draw_count o) (rw (words-length, drawn-many) (omega arith))
          (omega (arith, drawn-room)))

      pub end-left : (c' : List ℕ) → c' ≡ claims_out m R.q (rows_bin R) (rows_fld R) ns (take i w') (take n d') c
          → EndLeft R w d c s (6 * m) P u w' c' s'
      unfolding claims_out
      end-left c' ec =
          let sw : take i w' ≡ sent_all R w P = rw (i-is, w-is) (take_at (sent_all R w P) (drop (proof_words R) w) (proof_words R) said-long) in
          let sd : take n d' ≡ drawn_all R d P = rw (n-is, d-is) (take_at (drawn_all R d P) (drop (2 * draw_count o) d) (2 * draw_count o) drawn-long) in
          (done.0 ∙ rw unrefused, w-is, ec ∙ rw (sw, sd, claims-none (sent_all R w P) (drawn_all R d P) said-long drawn-long), done.3 ∙ rw unrefused)

-- ---- the whole second part
module _ (R : Rules) (ws x w d c s : List ℕ) (t : Transcript)
    (ok : ValidRun R (length ws) (length x) (length w) (length c) (length s) t.squeeze_ctr) (ld : length d ≡ 256) where
  abbrev k : ℕ
  k = login_at R.q (rows_bin R) (rows_fld R)

  two : 2 * (R.m / 2) ≡ R.m
  two = even-size R.m ok.ready.columns

  four : 4 * (R.m / 2) ≡ 2 * R.m
  four = omega (arith, two)

  pub fold-sizes : ValidFold R.q (R.m / 2) (log₂ R.q) k (length ws) (length x) (length d) (length s)
  fold-sizes =
      let h = draws-small R ok.ready in record {
        columns = subst (Sized 2 65536) (sym two) ok.ready.columns;
        logins = ok.ready.logins;
        packed = ok.packed;
        public = ok.public ∙ ap (λ (i : ℕ). R.q * (i - 2)) (sym two);
        point = refl;
        place = omega (arith, h);
        drawn = omega (arith, h, ld);
        room = omega (arith, two, ok.scratch);
      }

  module _ (s₁ : List ℕ) (folds : FoldLeft R.q (R.m / 2) (log₂ R.q) k ws x d s s₁) (same : length s₁ ≡ length s) where
    pub end-sizes : ValidRun R (length ws) (length x) (length w) (length c) (length s₁) t.squeeze_ctr
    end-sizes = subst (λ (i : ℕ). ValidRun R (length ws) (length x) (length w) (length c) i t.squeeze_ctr) (sym same) ok

    abbrev point : List ℕ
    point = reverse (take (log₂ R.q) (drop k (elements d)))

    abbrev columns : List ℕ
    columns = folded R.q (R.m / 2) (unpacked R.q (R.m / 2) ws) point

    front-is : take (2 * R.m) s₁ ≡ take (2 * R.m) s
    front-is = ap (λ (i : ℕ). take i s₁) (sym four) ∙ (folds.0 ∙ ap (λ (i : ℕ). take i s) four)

    columns-are : elements (take R.m (drop (2 * R.m) s₁)) ≡ columns
    columns-are = ap₂ (λ (i j : ℕ). elements (take i (drop j s₁))) (sym two) (sym four) ∙ folds.1

    half_is : elements (take R.m (drop (3 * R.m) s₁)) ≡ public_folded R.q (R.m / 2) (public_of R.q (R.m / 2) x) point
    half_is =
        let six : 6 * (R.m / 2) ≡ 3 * R.m = omega (arith, two) in
        ap₂ (λ (i j : ℕ). elements (take i (drop j s₁))) (sym two) (sym six) ∙ folds.2

    -- the inner rounds see the columns and the lengths alone
    outlined : (T F H : List ℕ) → inner_all (sizes_only R.m 1 1 1 R.lengths) T F H (begin t) ≡ inner_all (sizes_only_of R) T F H (begin t)
    outlined T F H = unfold inner_all inner_run segment_value low_draws ended in refl

    steps-are : inner_run_steps (sizes_only R.m 1 1 1 R.lengths) s₁ t ≡ inner_part_steps R ws x d s t
    unfolding inner_run_steps
    steps-are = rw (front-is, columns-are, half_is)
        (outlined (elements (take (2 * R.m) s)) columns (public_folded R.q (R.m / 2) (public_of R.q (R.m / 2) x) point))

    -- the words behind the prover's scratch
    abbrev n : ℕ
    n = prover_scratch_of R

    from : (v : List ℕ) → drop n v ≡ drop (n - (8 * (R.m / 2) + 2 * R.q)) (drop (8 * (R.m / 2) + 2 * R.q) v)
    from v =
        let e : 8 * (R.m / 2) + 2 * R.q + (n - (8 * (R.m / 2) + 2 * R.q)) ≡ n = omega (arith, two) in
        sym (drop-drop (n - (8 * (R.m / 2) + 2 * R.q)) (8 * (R.m / 2) + 2 * R.q) v ∙ ap (λ (i : ℕ). drop i v) e)

    kept : drop n s₁ ≡ drop n s
    kept = from s₁ ∙ (ap (drop (n - (8 * (R.m / 2) + 2 * R.q))) folds.3 ∙ sym (from s))

    module _ (u : Transcript) (w' c' s₂ : List ℕ)
        (ends : EndLeft R w d c s₁ (6 * R.m) (inner_run_steps (sizes_only R.m 1 1 1 R.lengths) s₁ t) u w' c' s₂)
        (N : ℕ) (g : Result ℕ Refusal) (eN : N ≡ min (result_unwrap_or g 0) (length s₂))
        (eg : asked g ≡ prover_scratch_words R.m R.q (rows_bin R) (rows_fld R)) where
      s₂-long : length s₂ ≡ length s
      s₂-long =
          ap length ends.3 ∙ (length-append (replicate (6 * R.m) 0) (drop (6 * R.m) s₁)
          ∙ omega (arith, length-replicate {A = ℕ} (6 * R.m) 0, length-drop (6 * R.m) s₁, same, ok.scratch))

      N-is : N ≡ n
      N-is =
          let r = prover-within R.m R.q (rows_bin R) (rows_fld R)
          (first-refusal-none (run_tests R.m R.q (rows_bin R) (rows_fld R)) (sizes-passes R ok.ready [] tt)) in
          eN ∙ least (words-asked g ∙ (ap (λ (a : ScratchWords). a.words) eg ∙ r)) (omega (arith, s₂-long, ok.scratch))
        where
          least : {a b l : ℕ} → a ≡ b → b ≤ l → min a l ≡ b
          least e h = omega arith

      pub later-ends : (z : List ℕ) → z ≡ replicate (length (take N s₂)) 0
          → EndLeft R w d c s n (inner_part_steps R ws x d s t) u w' c' (z ++ drop N s₂)
      later-ends z ez =
          let e : N ≡ n = N-is in
          let l : length (take n s₂) ≡ n = length-take-le n s₂ (omega (arith, s₂-long, ok.scratch)) in
          let b : drop n s₂ ≡ drop n s =
          ap (drop n) ends.3 ∙ (behind-front (6 * R.m) n (replicate (6 * R.m) 0) s₁ (length-replicate (6 * R.m) 0) (omega arith) ∙ kept) in
          let r : z ++ drop N s₂ ≡ replicate n 0 ++ drop n s = rw (ez, e, l, b) in
          subst (λ (p : Steps). EndLeft R w d c s n p u w' c' (z ++ drop N s₂)) steps-are (ends.0, ends.1, ends.2, r)
