-- No call within document 01's limits is refused by 1 to 16.
-- Assumes nothing.
use mathlib.Core.Path.{◌≡◌, refl, sym, ◌∙◌}
use mathlib.Core.Bool.{Bool, true, false, not, ◌&&◌}
use mathlib.Core.List.{List, [], ◌∷◌, ◌++◌}
use Prim.Native.Nat.{ℕ, zero, suc, ◌+◌, ◌*◌, ◌/◌, ◌^◌, ◌≤◌, ◌<◌}
use native.Mathlib.Nat.{lt_of_not-le, not-suc-le-zero}
use native.Mathlib.Omega.{arith}
use borrow.Author.Tests.{lt-ltb, le-leb, le-ltb, eq-eqb}
use lib.Dec.{ltb, lit≤}
use lib.ListN.{length, get_or, replicate}
use lib.Pow.{pow_mono}
use Rattle.magnetar_field.specs.Sizes.{log₂, halvings}
use Rattle.magnetar_field.proofs.Log2.{log₂-pow}
use Rattle.magnetar_hash.specs.declared.transcript.Transcript.{Transcript}
use Rattle.magnetar_layout.specs.Every.{every}
use Rattle.magnetar_layout.specs.Layout.{is_length, end_from, layout_end}
use Rattle.magnetar_layout.specs.Login.{login_words}
use Rattle.magnetar_layout.specs.Tests.{Tests, Sized, is_size, layout_tests, room_test_of}
use Rattle.magnetar_layout.proofs.FirstRefusal.{Clear}
use Rattle.magnetar_matrix.specs.Matrix.{Entry}
use Rattle.magnetar_relation.specs.declared.shapes.Shape.{Shape}
use Rattle.magnetar_relation.specs.declared.shapes.SystemShape.{SystemShape}
use Rattle.magnetar_relation.specs.Rules.{Rules, rules_over, entries_in, matrix_at, system_at, relation_of, lies_in, in_matrix, in_system, in_relation}
use Rattle.magnetar_relation.specs.RuleTests.{row_tests, col_tests, most_tests, number_tests, total, rule_tests_by, rule_tests}
use Rattle.magnetar_protocol.specs.RunTests.{counter_tests, proof_tests}
use Rattle.magnetar_spartan.specs.Refusals.{rules_tests, proof_words, claim_words, verifier_scratch_of, prover_scratch_of, verify_tests, prove_tests}
use Rattle.magnetar_spartan.specs.Refusals.{sizes_only_of}
use Rattle.magnetar_spartan.specs.Outcome.{verify_refusal, prove_refusal}
use Rattle.magnetar_spartan.specs.Within.{Power, no_entry, MatrixWithin, SystemWithin, RulesWithin, ProveWithin, ProveUnrefused, VerifyUnrefused}
use Rattle.magnetar_spartan.proofs.PassedTests.{first-refusal-none, clear-join, size-passes, same-passes, most-passes, true-passes}

-- ---- powers of two
power-log : (n k : ℕ) → n ≤ 65536 → n ≡ 2 ^ k → n ≡ 2 ^ log₂ n
power-log n k h p =
    let b : k < 64 = lt_of_not-le (λ b. omega (arith, pow_mono {i = 64} {j = k} b)) in
    p ∙ sym (rw (p, log₂-pow k b))

sized : {least most n : ℕ} → most ≤ 65536 → Power least most n → Sized least most n
sized {least} {most} {n} h P = record { low = P.low; high = P.high; power = power-log n P.exponent (omega (arith, P.high)) P.power }

-- ---- a test of each member
every_of : {A : Type 0} (p : A → Bool) (d : A) (s : List A) → ((i : ℕ) → i < length s → p (get_or s i d) ≡ true) → every p s ≡ true
unfolding every
every_of p d [] f = refl
every_of p d (x ∷ s) f = rw (f 0 (omega arith)) (every_of p d s (λ i h. f (suc i) (omega arith)))

-- ---- one system: its matrices start at place k
lies : (n m : ℕ) (e : Entry) → e.row < n → e.col < m → lies_in n m e ≡ true
lies n m e a b = rw (lt-ltb e.row n a, lt-ltb e.col m b)

in-matrix : (n m k : ℕ) (h : Shape) (es : List Entry) → MatrixWithin n m h (matrix_at h k es) → in_matrix (matrix_at h k es) ≡ true
in-matrix n m k h es W =
    let s = (matrix_at h k es).entries in
    every_of (lies_in h.rows h.cols) no_entry s
    (λ i l. lies h.rows h.cols (get_or s i no_entry) (omega (arith, (W.inside i l).0, W.rows)) (omega (arith, (W.inside i l).1, W.cols)))

module _ (m q k : ℕ) (t : SystemShape) (es : List Entry) (W : SystemWithin m q t (system_at t k es)) where
  row-passes : Clear (row_tests q t)
  row-passes =
      let z = size-passes 1 65536 t.a.rows (sized (lit≤ tt) W.rows) in
      (z, (same-passes _ _ W.b.rows, (same-passes _ _ W.c.rows, (most-passes 1048576 (q * t.a.rows) W.total, tt))))

  col-passes : Clear (col_tests m t)
  col-passes = (same-passes _ _ W.a.cols, (same-passes _ _ W.b.cols, (same-passes _ _ W.c.cols, tt)))

  few-passes : Clear (most_tests t)
  few-passes = (most-passes 1048576 _ W.a.few, (most-passes 1048576 _ W.b.few, (most-passes 1048576 _ W.c.few, tt)))

  in-system : in_system (system_at t k es) ≡ true
  in-system = rw (
    in-matrix t.a.rows m k t.a es W.a,
    in-matrix t.a.rows m (k + t.a.entries) t.b es W.b,
    in-matrix t.a.rows m (k + t.a.entries + t.b.entries) t.c es W.c,
  )

-- ---- the rules
number-passes : (n : ℕ) (ks : List ℕ) → ((i : ℕ) → i < length ks → get_or ks i 0 ≡ n) → Clear (number_tests n ks)
number-passes n [] f = tt
number-passes n (k ∷ ks) f = (same-passes k n (f 0 (omega arith)), number-passes n ks (λ i h. f (suc i) (omega arith)))

is-length : (w n : ℕ) → w ≤ 65536 → Power 1 w n → is_length w n ≡ true
unfolding is_length
is-length w n h P =
    rw (lt-ltb 0 n (omega (arith, P.low)), le-leb n w P.high, eq-eqb n (2 ^ log₂ n) (power-log n P.exponent (omega (arith, P.high)) P.power))

module _ (R : Rules) (W : RulesWithin R) where
  rule-passes : Clear (rule_tests R)
  unfolding rule_tests_by in_relation
  rule-passes =
      let B = R.shapes.bin in
      let F = R.shapes.fld in
      let f = entries_in B in
      let r = relation_of R in
      let numbers : Tests = number_tests (total R.shapes) R.numbers in
      let inside : Tests = (7, not (in_system r.bin && in_system r.fld)) ∷ [] in
      let p₁ : Tests = most_tests F ++ (numbers ++ inside) in
      let p₂ : Tests = most_tests B ++ p₁ in
      let p₃ : Tests = col_tests R.m F ++ p₂ in
      let p₄ : Tests = col_tests R.m B ++ p₃ in
      let p₅ : Tests = row_tests R.q F ++ p₄ in
      let all : (in_system r.bin && in_system r.fld) ≡ true =
      rw (in-system R.m R.q 0 B R.entries W.bin, in-system R.m R.q f F R.entries W.fld) in
      let c₀ = clear-join numbers inside (number-passes (total R.shapes) R.numbers W.numbers) (true-passes _ all, tt) in
      let c₁ = clear-join (most_tests F) (numbers ++ inside) (few-passes R.m R.q f F R.entries W.fld) c₀ in
      let c₂ = clear-join (most_tests B) p₁ (few-passes R.m R.q 0 B R.entries W.bin) c₁ in
      let c₃ = clear-join (col_tests R.m F) p₂ (col-passes R.m R.q f F R.entries W.fld) c₂ in
      let c₄ = clear-join (col_tests R.m B) p₃ (col-passes R.m R.q 0 B R.entries W.bin) c₃ in
      let c₅ = clear-join (row_tests R.q F) p₄ (row-passes R.m R.q f F R.entries W.fld) c₄ in
      clear-join (row_tests R.q B) p₅ (row-passes R.m R.q 0 B R.entries W.bin) c₅

  laid-passes : Clear (layout_tests (R.m / 2) R.lengths)
  laid-passes =
      let w : R.m / 2 ≤ 65536 = omega (arith, W.columns.high) in
      let each = every_of (is_length (R.m / 2)) 0 R.lengths (λ i h. is-length (R.m / 2) (get_or R.lengths i 0) w (W.lengths i h)) in
      (true-passes _ each, (most-passes (R.m / 2) (layout_end R.lengths) W.ends, (most-passes 64 (length R.lengths) W.segments, tt)))

  rules-passes : Clear (rules_tests R)
  rules-passes = clear-join (rule_tests R) (layout_tests (R.m / 2) R.lengths) rule-passes laid-passes

  columns-passes : not (is_size 2 65536 R.m) ≡ false
  columns-passes = size-passes 2 65536 R.m (sized (lit≤ tt) W.columns)

  logins-passes : not (is_size 1 4096 R.q) ≡ false
  logins-passes = size-passes 1 4096 R.q (sized (lit≤ tt) W.logins)

counter-passes : (n : ℕ) → n < 2 ^ 32 → not (ltb n (2 ^ 32)) ≡ false
counter-passes n h = true-passes _ (lt-ltb n (2 ^ 32) h)

-- ---- both ends
pub prove-unrefused : ProveUnrefused
unfolding prove_refusal login_words
prove-unrefused R ws x t w c s W =
    let n = t.squeeze_ctr in
    let r = W.rules in
    let rest : Tests = counter_tests n ++ (room_test_of (proof_words R) (length w) ++
    (room_test_of (claim_words R) (length c) ++ room_test_of (prover_scratch_of R) (length s))) in
    let proof : proof_words R ≤ length w = omega (arith, W.proof) in
    let last : Clear rest = (counter-passes n W.counter, (le-ltb _ _ proof, (le-ltb _ _ W.claims, (le-ltb _ _ W.scratch, tt)))) in
    first-refusal-none (prove_tests R ws x n (length w) (length c) (length s)) (
      columns-passes R r,
      (logins-passes R r, (same-passes _ _ W.packed, (same-passes _ _ W.public, clear-join (rules_tests R) rest (rules-passes R r) last))),
    )

pub verify-unrefused-within : VerifyUnrefused
unfolding verify_refusal
verify-unrefused-within R x w t c s W =
    let n = t.squeeze_ctr in
    let r = W.rules in
    let rest : Tests = counter_tests n ++ (room_test_of (claim_words R) (length c) ++
    (room_test_of (verifier_scratch_of R) (length s) ++ proof_tests (sizes_only_of R) w)) in
    let proof : length w ≡ proof_words R = omega (arith, W.proof) in
    let last : Clear rest = (counter-passes n W.counter, (le-ltb _ _ W.claims, (le-ltb _ _ W.scratch, (same-passes _ _ proof, tt)))) in
    first-refusal-none (verify_tests R x w n (length c) (length s))
    (columns-passes R r, (logins-passes R r, (same-passes _ _ W.public, clear-join (rules_tests R) rest (rules-passes R r) last)))

-- ---- the limits can be met: m = 2, q = 1, one empty row in each matrix, no segment
abbrev least_shape : Shape
least_shape = record { rows = 1; cols = 2; entries = 0 }

abbrev least_system : SystemShape
least_system = record { a = least_shape; b = least_shape; c = least_shape }

abbrev pub least_rules : Rules
least_rules = rules_over 2 1 [] (record { bin = least_system; fld = least_system }) []

one : {most : ℕ} → 1 ≤ most → Power 1 most 1
one h = record { exponent = 0; power = refl; low = lit≤ tt; high = h }

least-system : SystemWithin 2 1 least_system (system_at least_system 0 [])
least-system = record { rows = one (lit≤ tt); total = lit≤ tt; a = matrix; b = matrix; c = matrix }
  where
    matrix : MatrixWithin 1 2 least_shape (matrix_at least_shape 0 [])
    matrix = record { rows = refl; cols = refl; few = lit≤ tt; inside = λ i h. absurd (not-suc-le-zero h) }

least-rules : RulesWithin least_rules
unfolding layout_end end_from
least-rules = record {
  columns = record { exponent = 1; power = refl; low = lit≤ tt; high = lit≤ tt };
  logins = one (lit≤ tt);
  bin = least-system;
  fld = least-system;
  numbers = numbers;
  lengths = λ i h. absurd (not-suc-le-zero h);
  ends = lit≤ tt;
  segments = lit≤ tt;
}
  where
    numbers : (i : ℕ) → i < 4 → ◌≡◌ {A = ℕ} (get_or (0 ∷ 0 ∷ 0 ∷ 0 ∷ []) i 0) 0
    numbers zero h = refl
    numbers (suc zero) h = refl
    numbers (suc (suc zero)) h = refl
    numbers (suc (suc (suc zero))) h = refl
    numbers (suc (suc (suc (suc i)))) h = refl

-- two packed words, and room for 20 words of proof and 42 of scratch, where no claim is made
pub least-within : (t : Transcript) → t.squeeze_ctr < 2 ^ 32 → ProveWithin least_rules (replicate 2 0) [] t (replicate 20 0) [] (replicate 42 0)
unfolding log₂ halvings
least-within t h = record { rules = least-rules; packed = refl; public = refl; counter = h; proof = lit≤ tt; claims = lit≤ tt; scratch = lit≤ tt }
