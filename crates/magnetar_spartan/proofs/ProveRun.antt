-- What the prover leaves, from what its calls leave: the products, the outer rounds over them, the combined table and what is behind it.
-- Assumes nothing.
use mathlib.Core.Path.{◌≡◌, refl, sym, ap, ap₂, ◌∙◌, subst}
use mathlib.Core.Bool.{true}
use mathlib.Core.List.{List, [], ◌∷◌, ◌++◌, reverse, append_assoc}
use Prim.Native.Nat.{ℕ, ◌+◌, ◌-◌, ◌*◌, ◌/◌, ◌^◌, ◌≤◌, max}
use native.Mathlib.Nat.{mul-add}
use native.Mathlib.Omega.{arith}
use lib.Dec.{eqb}
use lib.ListN.{length, take, drop, replicate, length-append, length-drop, length-replicate, replicate-append-replicate}
use lib.Pow.{split}
use lib.Seq.{take_at, drop_at, take-append-le, drop-append-le}
use borrow.Author.Tests.{lt-ltb, eq-eqb, ne_eqb}
use Rattle.std.specs.Prelude.{Result, Ok, Err, IfOk}
use Rattle.std.specs.Result.{IsErrAnd}
use Rattle.magnetar_hash.specs.Transcript.{TranscriptAnswer}
use Rattle.magnetar_hash.specs.Transcript.{answer_of}
use Rattle.magnetar_field.specs.declared.refusal.Refusal.{Refusal}
use Rattle.magnetar_field.specs.Number.{number}
use Rattle.magnetar_field.specs.Sizes.{log₂}
use Rattle.magnetar_field.specs.Words.{elements, words, overlaid}
use Rattle.magnetar_field.proofs.Elements.{words-length, words_append, elements-length}
use Rattle.magnetar_hash.specs.declared.transcript.Transcript.{Transcript}
use Rattle.magnetar_hash.specs.Transcript.{absorbed, drawn}
use Rattle.magnetar_layout.specs.Every.{every}
use Rattle.magnetar_layout.specs.Tests.{room_test}
use Rattle.magnetar_matrix.specs.Batch.{Relation, Batch, folded, public_folded}
use Rattle.magnetar_matrix.specs.Packed.{packed_table}
use Rattle.magnetar_matrix.proofs.TableLaws.{elements-words}
use Rattle.magnetar_verifier.proofs.Pieces.{elements-take}
use Rattle.magnetar_protocol.specs.Shape.{log_logins, log_bin, log_fld, log_cols}
use Rattle.magnetar_protocol.specs.Draws.{Draws, draw_count, draws_of, login_point}
use Rattle.magnetar_protocol.specs.Checks.{combined}
use Rattle.magnetar_protocol.specs.Run.{claims}
use Rattle.magnetar_protocol.specs.RunSizes.{SizedMatrix}
use Rattle.magnetar_protocol.specs.Prover.{product_table, prover_proof, prover_claims}
use Rattle.magnetar_schedule.specs.Stepwise.{Steps, Tables, begin, tau_steps, outer_all, draw_times, send_each, outer_steps, fld_rows, bin_rows}
use Rattle.magnetar_schedule.specs.Stepwise.{outer_begin, terminals_left, inner_all, inner_run, segment_value, low_draws, ended}
use Rattle.magnetar_schedule.specs.RealRun.{prover_draws, prover_transcript}
use Rattle.magnetar_schedule.proofs.Blocks.{claims-outlined}
use Rattle.magnetar_protocol.proofs.Splits.{combined-split}
use Rattle.magnetar_schedule.proofs.StepLaws.{behind}
use Rattle.magnetar_schedule.proofs.Proving.{product_tables, outer_proving, proving}
use Rattle.magnetar_schedule.proofs.Stepwise.{proving-after, outer-proving-sent, outer-proving-count}
use Rattle.magnetar_schedule.proofs.ProverRun.{proving-words, proving-transcript, proving-claims}
use Rattle.magnetar_protocol.specs.RunTests.{counter_tests}
use Rattle.magnetar_prover.specs.Entries.{answer_for, count_tests, total_tests, outer_drawn, outer_sent, block_words, tables_of, outer_rounds_refusal}
use Rattle.magnetar_prover.specs.Entries.{outer_run_steps}
use Rattle.magnetar_prover.specs.Whole.{outer_whole}
use Rattle.magnetar_prover.proofs.Joined.{whole_is}
use Rattle.magnetar_relation.specs.Rules.{Rules, relation_of}
use Rattle.magnetar_spartan.specs.Refusals.{sizes_only_of, rows_bin, rows_fld, proof_words, claim_words, prover_scratch_of}
use Rattle.magnetar_spartan.specs.ValidRules.{ValidRules}
use Rattle.magnetar_spartan.specs.Table.{table_at}
use Rattle.magnetar_spartan.specs.Outcome.{batch_of, prove_draws, prove_refusal, prove_outcome, proved, proved_in_place, columns_of}
use Rattle.magnetar_spartan.specs.Theorems.{AreWords, ProvedCall}
use Rattle.magnetar_spartan.specs.Proving.{sizes_only_rules, ValidRun, outer_number, OuterDone, sent_before, drawn_before, sent_all, drawn_all}
use Rattle.magnetar_spartan.specs.Proving.{inner_part_steps, InnerPartLeft}
use Rattle.magnetar_spartan.specs.Products.{tables_wanted, Products, ProductsLeft}
use Rattle.magnetar_spartan.proofs.PassedTests.{first-refusal-none, size-passes, most-passes, true-passes}
use Rattle.magnetar_spartan.proofs.PassedTests.{some}
use Rattle.magnetar_spartan.proofs.Ended.{provable, draws-small}
use Rattle.magnetar_spartan.proofs.Room.{Beyond}
use Rattle.magnetar_spartan.proofs.DrawnTable.{drawn-combined, drawn-beyond}
use Rattle.magnetar_spartan.proofs.Complete.{proved-call}
use Rattle.magnetar_spartan.proofs.FoldLaws.{behind-front}
use Rattle.magnetar_spartan.proofs.InnerPartLaws.{laid-front}

-- ---- the outer rounds, of a relation
-- absorbing sets the counter to 0: behind the terminals and the alphas it is 6
counter-left : (r : Relation) (T : Tables) (p : Steps) → (outer_all r T p).run_state.transcript.squeeze_ctr ≡ 6
unfolding outer_all draw_times send_each terminals_left drawn absorbed
counter-left r T p = refl

outer-all : (r : Relation) (T : Tables) (t : Transcript) → outer_all r T (tau_steps r t) ≡ outer_whole (log_logins r) (log_bin r) (log_fld r) T t
unfolding outer_whole outer_all outer_steps fld_rows bin_rows outer_begin tau_steps terminals_left
outer-all r T t = refl

-- ---- words
elements-behind : (vs s : List ℕ) → elements (words vs ++ s) ≡ vs ++ elements s
unfolding words elements
elements-behind [] s = refl
elements-behind (v ∷ vs) s = rw (split v 64, elements-behind vs s)

-- zeros behind the first a, cut b further on
drop-zeros : (a k n : ℕ) → n ≡ a + k → drop a (replicate {A = ℕ} n 0) ≡ replicate k 0
drop-zeros a k n e =
    ap (λ (i : ℕ). drop a (replicate i 0)) e
    ∙ (ap (drop a) (sym (replicate-append-replicate a k 0)) ∙ drop_at (replicate a 0) (replicate k 0) a (length-replicate a 0))

zeros : (a b n : ℕ) → a + b ≤ n → drop a (replicate {A = ℕ} n 0) ≡ replicate b 0 ++ drop (a + b) (replicate n 0)
zeros a b n h =
    drop-zeros a (b + (n - (a + b))) n (omega arith)
    ∙ (sym (replicate-append-replicate b (n - (a + b)) 0)
    ∙ ap (λ (l : List ℕ). replicate b 0 ++ l) (sym (drop-zeros (a + b) (n - (a + b)) n (omega arith))))

-- the rules by their sizes are as ready
pub bare-ready : (R : Rules) → ValidRules R → ValidRules (sizes_only_rules R.m R.q (rows_bin R) (rows_fld R) R.lengths)
unfolding every
bare-ready R P =
    let none : (n : ℕ) → SizedMatrix n R.m (record { rows = n; cols = R.m; entries = [] }) =
    λ n. record { rows = refl; cols = refl; few = omega arith; inside = refl } in record {
      columns = P.columns;
      logins = P.logins;
      bin = record { rows = P.bin.rows; total = P.bin.total; a = none (rows_bin R); b = none (rows_bin R); c = none (rows_bin R) };
      fld = record { rows = P.fld.rows; total = P.fld.total; a = none (rows_fld R); b = none (rows_fld R); c = none (rows_fld R) };
      layout = P.layout;
      segments = P.segments;
    }

module _ (R : Rules) (ws x w c s : List ℕ) (t : Transcript)
    (ok : ValidRun R (length ws) (length x) (length w) (length c) (length s) t.squeeze_ctr) where
  abbrev q : ℕ
  q = R.q

  abbrev b : ℕ
  b = rows_bin R

  abbrev f : ℕ
  f = rows_fld R

  abbrev r : Relation
  r = relation_of R

  abbrev o : Relation
  o = sizes_only_of R

  abbrev B : Batch
  B = batch_of R ws

  abbrev O : Steps
  O = outer_proving r B (columns_of R x) t

  abbrev z₀ : List ℕ
  z₀ = replicate 256 0

  small : 2 * draw_count o ≤ 256
  small = draws-small R ok.ready

  sent-long : length (words O.sent) ≡ sent_before R
  sent-long = words-length O.sent ∙ ap (λ (n : ℕ). 2 * n) (outer-proving-sent r B (columns_of R x) t)

  drawn-long : length (words O.run_state.draws) ≡ drawn_before R
  drawn-long = words-length O.run_state.draws ∙ ap (λ (n : ℕ). 2 * n) (outer-proving-count r B (columns_of R x) t)

  -- ---- the outer rounds over the products
  module _ (s₁ : List ℕ) (P : Products R ws x s s₁) where
    blocks : block_words q b f ≤ prover_scratch_of R
    blocks = omega (arith, mul-add q b f)

    pub outer_none : outer_number q b f w s₁ t ≡ 0
    unfolding outer_rounds_refusal
    outer_none =
        first-refusal-none (count_tests q b f ++ total_tests q b f ++ (counter_tests t.squeeze_ctr ++ (room_test (2 * outer_drawn (log₂ q) (log₂ b) (log₂ f)) z₀
        ++ room_test (2 * outer_sent (log₂ q) (log₂ b) (log₂ f)) w ++ room_test (block_words q b f) s₁))) (
          size-passes 1 4096 q ok.ready.logins,
          (
            size-passes 1 65536 b ok.ready.bin.rows,
            (
              size-passes 1 65536 f ok.ready.fld.rows,
              (
                most-passes 1048576 _ ok.ready.bin.total,
                (
                  most-passes 1048576 _ ok.ready.fld.total,
                  (
                    true-passes _ (lt-ltb t.squeeze_ctr (2 ^ 32) ok.counter),
                    (
                      most-passes (length z₀) (2 * outer_drawn (log₂ q) (log₂ b) (log₂ f)) (rw (length-replicate {A = ℕ} 256 0) (omega (arith, small))),
                      (most-passes (length w) _ (omega (arith, ok.proof)), (most-passes (length s₁) _ (omega (arith, P.long, ok.scratch, blocks)), tt)),
                    ),
                  ),
                ),
              ),
            ),
          ),
        )

    wanted : tables_wanted R ws x ≡ product_tables r B (columns_of R x)
    unfolding product_table packed_table
    wanted = refl

    played-is : outer_run_steps q b f s₁ t ≡ O
    unfolding outer_run_steps outer_proving
    played-is =
        sym (whole_is 2 q b f [] (tables_of q b f s₁) t)
        ∙ ap (λ (T : Tables). outer_whole (log₂ q) (log₂ b) (log₂ f) T t) (P.tables ∙ wanted)
        ∙ sym (outer-all r (product_tables r B (columns_of R x)) t)

    module _ (u : Transcript) (d v s₂ : List ℕ) (done : OuterDone q b f w s₁ t u d v s₂) where
      u-is : u ≡ O.run_state.transcript
      u-is = done.0 ∙ rw (outer_none, played-is)

      d-is : d ≡ words O.run_state.draws ++ drop (drawn_before R) z₀
      d-is =
          done.1 ∙ rw (outer_none, played-is)
          (laid-front (words O.run_state.draws) z₀ (drawn_before R) drawn-long (rw (length-replicate {A = ℕ} 256 0) (omega (arith, small))))

      v-is : v ≡ words O.sent ++ drop (sent_before R) w
      v-is = done.2 ∙ rw (outer_none, played-is) (laid-front (words O.sent) w (sent_before R) sent-long (omega (arith, ok.proof)))

      s₂_is : s₂ ≡ replicate (block_words q b f) 0 ++ drop (block_words q b f) s
      s₂_is = done.3 ∙ rw (outer_none, P.rest)

      counter-is : u.squeeze_ctr ≡ 6
      unfolding outer_proving
      counter-is = ap (λ (y : Transcript). y.squeeze_ctr) u-is ∙ counter-left r (product_tables r B (columns_of R x)) (tau_steps r t)

      pub d-long : length d ≡ 256
      d-long =
          ap length d-is ∙ (length-append (words O.run_state.draws) (drop (drawn_before R) z₀)
          ∙ omega (arith, drawn-long, length-drop (drawn_before R) z₀, length-replicate {A = ℕ} 256 0, small))

      v-long : length v ≡ length w
      v-long =
          ap length v-is ∙ (length-append (words O.sent) (drop (sent_before R) w)
          ∙ omega (arith, sent-long, length-drop (sent_before R) w, ok.proof))

      pub s₂-long : length s₂ ≡ length s
      s₂-long =
          ap length s₂_is ∙ (length-append (replicate (block_words q b f) 0) (drop (block_words q b f) s)
          ∙ omega (arith, length-replicate {A = ℕ} (block_words q b f) 0, length-drop (block_words q b f) s, blocks, ok.scratch))

      s₂-rest : drop (prover_scratch_of R) s₂ ≡ drop (prover_scratch_of R) s
      s₂-rest = ap (drop (prover_scratch_of R)) s₂_is
          ∙ behind-front (block_words q b f) (prover_scratch_of R) (replicate (block_words q b f) 0) s (length-replicate (block_words q b f) 0) blocks

      -- the words of all draws, those of the inner rounds being 0 so far
      abbrev pub D : List ℕ
      D = words O.run_state.draws ++ replicate (2 * log_cols o) 0

      pub D-long : length D ≡ 2 * draw_count o
      D-long = length-append (words O.run_state.draws) (replicate (2 * log_cols o) 0) ∙ omega (arith, drawn-long, length-replicate {A = ℕ} (2 * log_cols o) 0)

      pub D-over : d ≡ overlaid D z₀
      D-over =
          d-is ∙ (ap (λ (l : List ℕ). words O.run_state.draws ++ l) (zeros (drawn_before R) (2 * log_cols o) 256 (omega (arith, small)))
          ∙ (sym (append_assoc (words O.run_state.draws) (replicate (2 * log_cols o) 0) (drop (drawn_before R + 2 * log_cols o) z₀))
          ∙ sym (laid-front D z₀ (drawn_before R + 2 * log_cols o) (D-long ∙ omega arith) (rw (length-replicate {A = ℕ} 256 0) (omega (arith, small))))))

      D-elements : elements D ≡ O.run_state.draws ++ elements (replicate (2 * log_cols o) 0)
      D-elements = elements-behind O.run_state.draws (replicate (2 * log_cols o) 0)

      zeros-long : length (elements (replicate (2 * log_cols o) 0)) ≡ log_cols o
      zeros-long = elements-length (replicate (2 * log_cols o) 0) ∙ rw (length-replicate {A = ℕ} (2 * log_cols o) 0) (omega arith)

      -- ---- behind the combined table, which stands in front of s₃
      module _ (s₃ : List ℕ) (table : take R.m (elements s₃) ≡ combined r (draws_of r (elements D))) (long : length s₃ ≡ length s₂)
          (rest : drop (prover_scratch_of R) s₃ ≡ drop (prover_scratch_of R) s₂) where
        abbrev p : Steps
        p = inner_part_steps R ws x d s₃ u

        abbrev E : Draws
        E = draws_of r O.run_state.draws

        table_is : elements (take (2 * R.m) s₃) ≡ combined r E
        table_is =
            elements-take R.m s₃ ∙ (table ∙ (ap (λ (l : List ℕ). combined r (draws_of r l)) D-elements
            ∙ combined-split r O.run_state.draws (elements (replicate (2 * log_cols o) 0)) (outer-proving-count r B (columns_of R x) t) zeros-long))

        abbrev k : ℕ
        k = log₂ q + log₂ b + (log₂ q + log₂ f)

        point-is : reverse (take (log₂ q) (drop k (elements d))) ≡ login_point E
        unfolding login_point draws_of
        point-is =
            let h : length O.run_state.draws ≡ draw_count o - log_cols o = outer-proving-count r B (columns_of R x) t in
            let e : elements d ≡ O.run_state.draws ++ elements (drop (drawn_before R) z₀) =
            ap elements d-is ∙ elements-behind O.run_state.draws (drop (drawn_before R) z₀) in
            ap reverse (ap (λ (l : List ℕ). take (log₂ q) (drop k l)) e
            ∙ (ap (take (log₂ q)) (drop-append-le k O.run_state.draws (elements (drop (drawn_before R) z₀)) (omega (arith, h)))
            ∙ take-append-le (log₂ q) (drop k O.run_state.draws) (elements (drop (drawn_before R) z₀)) (rw length-drop (omega (arith, h)))))

        abbrev inner : (T F H : List ℕ) → Transcript → Steps
        inner T F H h = inner_all r T F H (begin h)

        outlined : (T F H : List ℕ) (h : Transcript) → inner_all o T F H (begin h) ≡ inner T F H h
        outlined T F H h = unfold inner_all inner_run segment_value low_draws ended in refl

        abbrev half : List ℕ
        half = public_folded R.q (R.m / 2) (columns_of R x) (login_point E)

        steps-are : p ≡ inner (combined r E) (folded q (R.m / 2) B (login_point E)) half O.run_state.transcript
        steps-are = rw (table_is, point-is, u-is) (outlined (combined r E) (folded q (R.m / 2) B (login_point E)) half O.run_state.transcript)

        whole : behind O p ≡ proving r B (columns_of R x) t
        whole = ap (behind O) steps-are ∙ sym (proving-after r B (columns_of R x) t)

        said-is : sent_all R v p ≡ words (proving r B (columns_of R x) t).sent
        said-is =
            ap (λ (l : List ℕ). l ++ words p.sent) (ap (take (sent_before R)) v-is ∙ take_at (words O.sent) (drop (sent_before R) w) (sent_before R) sent-long)
            ∙ (sym (words_append O.sent p.sent) ∙ ap (λ (y : Steps). words y.sent) whole)

        drawn-is : drawn_all R d p ≡ words (proving r B (columns_of R x) t).run_state.draws
        drawn-is =
            ap (λ (l : List ℕ). l ++ words p.run_state.draws)
            (ap (take (drawn_before R)) d-is ∙ take_at (words O.run_state.draws) (drop (drawn_before R) z₀) (drawn_before R) drawn-long)
            ∙ (sym (words_append O.run_state.draws p.run_state.draws) ∙ ap (λ (y : Steps). words y.run_state.draws) whole)

        later-ready : ValidRun (sizes_only_rules R.m q b f R.lengths) (length ws) (length x) (length v) (length c) (length s₃) u.squeeze_ctr
        later-ready = record {
          ready = bare-ready R ok.ready;
          packed = ok.packed;
          public = ok.public;
          proof = omega (arith, v-long, ok.proof);
          claims = ok.claims;
          scratch = omega (arith, long, s₂-long, ok.scratch);
          counter = omega (arith, counter-is);
        }

        pub run_is : prove_refusal R ws x t w c s ≡ 0 → (u' : Transcript) (w' c' s' : List ℕ)
            → InnerPartLeft (sizes_only_rules R.m q b f R.lengths) ws x v d c s₃ u u' w' c' s'
            → proved_in_place 0 u' w' c' s' ≡ prove_outcome R ws x t w c s
        unfolding prove_outcome prove_draws
        run_is none u' w' c' s' L =
            let e = L later-ready in
            let z : eqb (prove_refusal R ws x t w c s) 0 ≡ true = eq-eqb (prove_refusal R ws x t w c s) 0 none in
            let eu : u' ≡ prover_transcript r B (columns_of R x) t = e.0 ∙ (ap (λ (y : Steps). y.run_state.transcript) whole
            ∙ proving-transcript r B (columns_of R x) t ok.ready) in
            let ew : w' ≡ words (prover_proof r B (columns_of R x) (prover_draws r B (columns_of R x) t)) ++ drop (proof_words R) w =
            e.1 ∙ ap₂ ◌++◌ (said-is ∙ ap words (proving-words r B (columns_of R x) t ok.ready))
            (ap (drop (proof_words R)) v-is ∙ behind-front (sent_before R) (proof_words R) (words O.sent) w sent-long (omega arith)) in
            let cl : claims o (elements (sent_all R v p)) (elements (drawn_all R d p)) ≡ prover_claims r B (prover_draws r B (columns_of R x) t) =
            ap₂ (claims o) (ap elements said-is ∙ elements-words (proving r B (columns_of R x) t).sent)
            (ap elements drawn-is ∙ elements-words (proving r B (columns_of R x) t).run_state.draws)
            ∙ (sym (claims-outlined r (proving r B (columns_of R x) t).sent (proving r B (columns_of R x) t).run_state.draws)
            ∙ proving-claims r B (columns_of R x) t ok.ready) in
            let ec : c' ≡ words (prover_claims r B (prover_draws r B (columns_of R x) t)) ++ drop (claim_words R) c =
            e.2 ∙ ap (λ (l : List ℕ). words l ++ drop (claim_words R) c) cl in
            let es : s' ≡ replicate (prover_scratch_of R) 0 ++ drop (prover_scratch_of R) s =
            e.3 ∙ ap (λ (l : List ℕ). replicate (prover_scratch_of R) 0 ++ l) (rest ∙ s₂-rest) in
            rw (z, eu, ew, ec, es)

-- ---- the whole prover
abbrev pub unlaid : Rules → Rules
unlaid R = record { m = R.m; q = R.q; lengths = []; shapes = R.shapes; numbers = R.numbers; entries = R.entries }

module _ (R : Rules) (ws x w c s : List ℕ) (t : Transcript) where
  -- turned back
  pub turned-back : (r : Refusal) → number r ≡ prove_refusal R ws x t w c s → proved_in_place (number r) t w c s ≡ prove_outcome R ws x t w c s
  unfolding prove_outcome
  turned-back r e = rw (← e, ne_eqb (number r) 0 (some r))

  -- of what a `?` hands on
  pub handed-back : (r : Result Transcript Refusal) (e : Refusal) → IsErrAnd r (λ y. y ≡ e) → number e ≡ prove_refusal R ws x t w c s
      → (P : Transcript → Type 0) → (proved (answer_of t r) w c s ≡ prove_outcome R ws x t w c s) × IfOk r P
  handed-back (Ok u) e h f P = absurd h
  handed-back (Err y) e h f P = (turned-back y (ap number h ∙ f), tt)

  -- run through
  module _ (unrefused : 0 ≡ prove_refusal R ws x t w c s) where
    none : prove_refusal R ws x t w c s ≡ 0
    none = sym unrefused

    ok : ValidRun R (length ws) (length x) (length w) (length c) (length s) t.squeeze_ctr
    ok = provable R ws x t.squeeze_ctr (length w) (length c) (length s) (unfold prove_refusal in none)

    made : (s₁ : List ℕ) → ProductsLeft (unlaid R) ws x s s₁ → Products R ws x s s₁
    made s₁ products =
        let P = products (record {
          columns = ok.ready.columns;
          logins = ok.ready.logins;
          bin = ok.ready.bin;
          fld = ok.ready.fld;
          packed = ok.packed;
          public = ok.public;
          room = omega (arith, ok.scratch, mul-add R.q (rows_bin R) (rows_fld R));
        }) in
        record { long = P.long; rest = P.rest; tables = P.tables }

    -- the outer rounds over the products are refused by nothing
    pub outer-passes : (s₁ : List ℕ) → ProductsLeft (unlaid R) ws x s s₁ → outer_number R.q (rows_bin R) (rows_fld R) w s₁ t ≡ 0
    outer-passes s₁ products = outer_none R ws x w c s t ok s₁ (made s₁ products)

    pub outer-unrefused : (s₁ : List ℕ) → ProductsLeft (unlaid R) ws x s s₁ → (e : Refusal)
        → answer_of t (Err e) ≡ answer_for (outer_number R.q (rows_bin R) (rows_fld R) w s₁ t) (outer_run_steps R.q (rows_bin R) (rows_fld R) s₁ t) t → ⊥
    outer-unrefused s₁ products e h = some e (ap (λ (a : TranscriptAnswer). a.code) h ∙ outer-passes s₁ products)

    -- the products, the outer rounds, the combined table, and what is behind it
    pub run-through : (s₁ s₂ s₃ : List ℕ) (u u' : Transcript) (d v w' c' s' : List ℕ) → ProductsLeft (unlaid R) ws x s s₁
        → OuterDone R.q (rows_bin R) (rows_fld R) w s₁ t u d v s₂ → s₃ ≡ table_at (relation_of R) d s₂
        → AreWords x × (length d ≡ 256 → InnerPartLeft (sizes_only_rules R.m R.q (rows_bin R) (rows_fld R) R.lengths) ws x v d c s₃ u u' w' c' s')
        → (proved_in_place 0 u' w' c' s' ≡ prove_outcome R ws x t w c s) × ProvedCall R ws x t w' c' u'
    run-through s₁ s₂ s₃ u u' d v w' c' s' products done table later =
        let Q = made s₁ products in
        let enough : 2 * R.m + 2 * max (rows_bin R) (rows_fld R) ≤ length s₂ = omega (arith, s₂-long R ws x w c s t ok s₁ Q u d v s₂ done, ok.scratch) in
        let drawn = D R ws x w c s t ok s₁ Q u d v s₂ done in
        let many = D-long R ws x w c s t ok s₁ Q u d v s₂ done in
        let e : s₃ ≡ table_at (relation_of R) (overlaid drawn (replicate 256 0)) s₂ =
        table ∙ ap (λ (l : List ℕ). table_at (relation_of R) l s₂) (D-over R ws x w c s t ok s₁ Q u d v s₂ done) in
        let b : Beyond (prover_scratch_of R) s₂ s₃ =
        subst (Beyond (prover_scratch_of R) s₂) (sym e) (drawn-beyond R ok.ready drawn many s₂ enough (prover_scratch_of R) (omega arith)) in
        let front = ap (λ (l : List ℕ). take R.m (elements l)) e ∙ drawn-combined R ok.ready drawn many s₂ enough in
        let o : proved_in_place 0 u' w' c' s' ≡ prove_outcome R ws x t w c s =
        run_is R ws x w c s t ok s₁ Q u d v s₂ done s₃ front b.long b.rest none u' w' c' s'
        (later.1 (d-long R ws x w c s t ok s₁ Q u d v s₂ done)) in
        (o, proved-call R ws x t w c s (proved_in_place 0 u' w' c' s') later.0 o refl)
