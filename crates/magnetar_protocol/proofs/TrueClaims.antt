-- True claims are true in the theory, and the sizes of a run are those that the theory wants.
-- Assumes nothing.
use mathlib.Core.Path.{◌≡◌, sym, ap, ap₂, ◌∙◌, subst}
use mathlib.Core.List.{List, [], ◌∷◌, map, reverse}
use Prim.Native.Nat.{ℕ, suc, ◌+◌, ◌*◌, ◌/◌, ◌^◌, ◌≤◌, ◌<◌}
use native.Mathlib.Omega.{arith}
use lib.ListN.{length, get_or, take, drop, length-map, length-drop, length-reverse}
use lib.Seq.{length-take-le}
use Rattle.magnetar_field.specs.Sizes.{log₂}
use Rattle.magnetar_matrix.specs.Batch.{Relation, Batch, PublicColumns, NoBitOutside}
use Rattle.magnetar_layout.specs.Layout.{offsets, offset}
use Rattle.magnetar_theory.specs.EqTable.{eq_table as eq_table_e, dot as dot_e}
use Rattle.magnetar_theory.specs.Matrix.{AllLength}
use Rattle.magnetar_theory.specs.Run.{Sizes, AllZeroOutside, true_value as true_value_e}
use Rattle.magnetar_theory.specs.Gf128.{Element, element, gf128}
use Rattle.magnetar_protocol.specs.Shape.{before_end, proof_elements}
use Rattle.magnetar_protocol.specs.Proof.{segment_values}
use Rattle.magnetar_protocol.specs.Draws.{Draws, login_point, low_point}
use Rattle.magnetar_protocol.specs.Run.{true_value}
use Rattle.magnetar_protocol.specs.Theory.{els, log_half, segments_e, relation_e, public_e, batch_e, draws_e, proof_e}
use Rattle.magnetar_protocol.specs.RunSizes.{SizedRelation, SizedBatch, SizedPublic}
use Rattle.magnetar_protocol.proofs.Elements.{map-take, map-reverse}
use Rattle.magnetar_layout.proofs.Laid.{offsets-length}
use Rattle.magnetar_layout.proofs.Places.{Placed, placed}
use Rattle.magnetar_protocol.proofs.ClaimValues.{claim-is, values-are}
use Rattle.magnetar_protocol.proofs.LaidOut.{laid_out}
use Rattle.magnetar_protocol.proofs.Pieces.{values_of}
use Rattle.magnetar_protocol.proofs.SegmentSums.{pow-le}
use Rattle.magnetar_protocol.proofs.SizeFacts.{cols-suc, half_pow, Cut, low_size}

-- ---- sizes
all-length : (n : ℕ) (f : List ℕ → List Element) (b : List (List ℕ)) → ((u : ℕ) → u < length b → length (f (get_or b u [])) ≡ n)
    → AllLength gf128 n (map f b)
all-length n f [] h = tt
all-length n f (w ∷ b) h = (h 0 (omega arith), all-length n f b (λ u k. h (suc u) (omega arith)))

module _ (r : Relation) (R : SizedRelation r) where
  pub row_lengths : (b : Batch) → SizedBatch r b → AllLength gf128 (2 ^ log_half r) (batch_e b)
  row_lengths b B = all-length (2 ^ log_half r) els b
      (λ u k. length-map (get_or b u []) element ∙ B.columns u (omega (arith, B.logins)) ∙ half_pow r R)

  pub half_lengths : (x : PublicColumns) → SizedPublic r x → AllLength gf128 (2 ^ log_half r) (public_e x)
  half_lengths x X = all-length (2 ^ log_half r) (λ c. els (1 ∷ c)) x
      (λ u k. length-map (1 ∷ get_or x u []) element ∙ X.columns u (omega (arith, X.logins)) ∙ half_pow r R)

module _ (r : Relation) (b : Batch) (D : Draws) (R : SizedRelation r) (B : SizedBatch r b) (C : Cut r D) where
  logins-pow : r.q ≡ 2 ^ length D.shared
  logins-pow = R.logins.power ∙ ap (λ (k : ℕ). 2 ^ k) (sym C.shared)

  pub sizes : (x : PublicColumns) → SizedPublic r x → NoBitOutside r b → Sizes gf128 (relation_e r) (public_e x) (batch_e b) (draws_e r D)
  sizes x X stray = record {
    logins = length-map b els ∙ B.logins ∙ logins-pow ∙ ap (λ (k : ℕ). 2 ^ k) (sym (length-map D.shared element));
    row_lengths = row_lengths r R b B;
    laid = subst (λ (n : ℕ). AllZeroOutside gf128 n (segments_e (offsets r.lengths) r.lengths) (batch_e b)) (half_pow r R)
        (laid_out r b R B stray);
    halves = length-map x (λ c. els (1 ∷ c)) ∙ X.logins ∙ logins-pow ∙ ap (λ (k : ℕ). 2 ^ k) (sym (length-map D.shared element));
    half_lengths = half_lengths r R x X;
    rows-bin = length-map D.row_bin element ∙ C.row_bin;
    rows-fld = length-map D.row_fld element ∙ C.row_fld;
    taus-bin = length-map D.tau_bin element ∙ C.tau_bin
        ∙ ap₂ ◌+◌ (sym C.shared ∙ sym (length-map D.shared element)) (sym C.row_bin ∙ sym (length-map D.row_bin element));
    taus-fld = length-map D.tau_fld element ∙ C.tau_fld
        ∙ ap₂ ◌+◌ (sym C.shared ∙ sym (length-map D.shared element)) (sym C.row_fld ∙ sym (length-map D.row_fld element));
    six_alphas = length-map D.alphas element ∙ C.alphas;
    low_size = length-map (low_point r D) element ∙ low_size r R D C;
  }

  -- ---- claims
  -- the true value of segment i
  pub true-is : (i : ℕ) → i < length r.lengths
      → element (true_value r b D i) ≡ true_value_e gf128 (draws_e r D) (batch_e b) (record {
        log_len = log₂
            (get_or r.lengths i 0);
        number = offset r.lengths i / get_or r.lengths i 0;
      })
  unfolding true_value login_point
  true-is i h =
      claim-is r.q b (reverse D.shared) (take (log₂ n) (low_point r D)) o n
      (logins-pow ∙ ap (λ (k : ℕ). 2 ^ k) (sym (length-reverse D.shared))) B.logins
      (p.size.power ∙ ap (λ (k : ℕ). 2 ^ k) (sym short))
      (λ u k. omega (arith, p.ends, B.columns u k))
      ∙ (λ j. dot_e gf128 (eq_table_e gf128 (map-reverse element D.shared j))
      (map (λ (w : List Element). dot_e gf128 (eq_table_e gf128 (map-take element (log₂ n) (low_point r D) j))
      (take (p.size.power j) (drop (place j) w))) (batch_e b)))
    where
      n : ℕ
      n = get_or r.lengths i 0

      o : ℕ
      o = offset r.lengths i

      p : Placed (r.m / 2) (offset r.lengths i) (get_or r.lengths i 0) (r.m / 2)
      p = placed (r.m / 2) r.lengths i R.layout h

      fits : log₂ n ≤ log_half r
      fits = pow-le (log₂ n) (log_half r) (small (half_pow r R) p.size.power p.size.most)
        where
          small : {k a c d : ℕ} → a ≡ c → k ≡ d → k ≤ a → d ≤ c
          small e f l = omega arith

      short : length (take (log₂ n) (low_point r D)) ≡ log₂ n
      short = length-take-le (log₂ n) (low_point r D) (below (low_size r R D C) fits)
        where
          below : {k a c : ℕ} → a ≡ c → k ≤ c → k ≤ a
          below e l = omega arith

      place : o ≡ o / n * 2 ^ log₂ n
      place = sym p.aligned ∙ ap (λ (s : ℕ). o / n * s) p.size.power

  module _ (w : List ℕ) (long : length w ≡ proof_elements r) where
    values_length : length (segment_values r w) ≡ length r.lengths
    unfolding segment_values
    values_length = length-drop (before_end r + 1) w ∙ omega arith

    pub true_claims : ((i : ℕ) → i < length r.lengths → get_or (segment_values r w) i 0 ≡ true_value r b D i)
        → (proof_e r w).values ≡ map (true_value_e gf128 (draws_e r D) (batch_e b)) (relation_e r).segs
    true_claims t =
        values_of r w (cols-suc r R)
        ∙ values-are (true_value_e gf128 (draws_e r D) (batch_e b)) (offsets r.lengths) r.lengths (segment_values r w)
        (offsets-length r.lengths) values_length (λ i h. ap element (t i h) ∙ true-is i h)
