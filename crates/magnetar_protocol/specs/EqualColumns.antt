-- Where all logins have the same public columns c, every definition gives what it gave while one list of public columns was lent for all of
-- them: the half (1, c) stands in the place of each login's own half and of the folded half. So the former statement of a run is the case of
-- equal columns of the present one. Each statement is the type of the law that it names, in proofs/EqualColumns.
-- Source: document 01, "Matrices and layout" (z = (w, 1, x)) and "The run"; document 02, U3 (a good batch has no bit outside) and U6 (where
-- all logins' columns are equal).
-- Assumes nothing.
use Rattle.std.specs.Prelude.{◌≡◌, List, [], ◌∷◌, ◌++◌, map, ℕ, suc, ◌/◌, ◌^◌, ◌<◌, length, get_or, take, drop, replicate}
use Rattle.magnetar_field.specs.Gf128.{◌⊗◌}
use Rattle.magnetar_multilinear.specs.Multilinear.{mle}
use Rattle.magnetar_sumcheck_verifier.specs.Messages.{outer_start, outer_messages, inner_messages}
use Rattle.magnetar_matrix.specs.Sum.{blocks}
use Rattle.magnetar_matrix.specs.Matrix.{Matrix, System, times_at, times}
use Rattle.magnetar_matrix.specs.Batch.{Relation, Batch, PublicColumns, NoBitOutside, Good, batch_products, folded, public_folded}
use Rattle.magnetar_theory.specs.Run.{vectors}
use Rattle.magnetar_theory.specs.Gf128.{Element, gf128}
use Rattle.magnetar_protocol.specs.Shape.{log_logins}
use Rattle.magnetar_protocol.specs.Draws.{Draws, login_point}
use Rattle.magnetar_protocol.specs.Checks.{combined, checks, shared_checks, row_checks, terminal_checks, inner_checks, identity_check}
use Rattle.magnetar_protocol.specs.RunSizes.{SizedPublic, Elements}
use Rattle.magnetar_protocol.specs.Theory.{els, batch_e, public_e}
use Rattle.magnetar_protocol.specs.Prover.{joined, interleaved, true_values, honest_proof}

-- the public columns c for each of q logins
abbrev pub equal_columns : ℕ → List ℕ → PublicColumns
equal_columns q c = replicate q c

-- z of login u with the half (1, c)
abbrev pub shared_z : Batch → List ℕ → ℕ → List ℕ
shared_z b c u = get_or b u [] ++ (1 ∷ c)

-- ---- sizes
-- `sized-equal`: m / 2 - 1 elements are public columns of the right size
abbrev pub SizedEqual : (r : Relation) (c : List ℕ) → Type 0
SizedEqual r c = suc (length c) ≡ r.m / 2 → Elements c → SizedPublic r (equal_columns r.q c)

-- ---- goodness
-- each row of the system holds for each login with the half (1, c)
abbrev pub SharedSatisfied : System → ℕ → Batch → List ℕ → Type 0
SharedSatisfied s q b c =
    (u i : ℕ) → u < q → i < s.a.rows
    → times_at s.a (shared_z b c u) i ⊗ times_at s.b (shared_z b c u) i ≡ times_at s.c (shared_z b c u) i

abbrev pub SharedGood : Relation → Batch → List ℕ → Type 0
SharedGood r b c = NoBitOutside r b × SharedSatisfied r.bin r.q b c × SharedSatisfied r.fld r.q b c

-- `good-equal`: the batch is good exactly when no bit is outside and each row holds for each login with that half
abbrev pub GoodEqual : (r : Relation) (b : Batch) (c : List ℕ) → Type 0
GoodEqual r b c = (Good r b (equal_columns r.q c) → SharedGood r b c) × (SharedGood r b c → Good r b (equal_columns r.q c))

-- ---- the products and the folded half
-- the products of a matrix with the z of each of q logins
abbrev pub shared_products : Matrix → Batch → List ℕ → ℕ → List ℕ
shared_products m b c q = blocks (λ u. times m (shared_z b c u)) q

-- `products-equal`
abbrev pub ProductsEqual : (m : Matrix) (b : Batch) (c : List ℕ) (q : ℕ) → Type 0
ProductsEqual m b c q = batch_products m b (equal_columns q c) q ≡ shared_products m b c q

-- `half-equal`: the eq values add up to 1
abbrev pub HalfEqual : (q : ℕ) (c p : List ℕ) → Type 0
HalfEqual q c p = q ≡ 2 ^ length p → Elements c → public_folded q (suc (length c)) (equal_columns q c) p ≡ 1 ∷ c

-- ---- the verifier
-- `checks-equal`: its last check is made with the half (1, c)
abbrev pub ChecksEqual : (r : Relation) (c w : List ℕ) (d : Draws) → Type 0
ChecksEqual r c w d =
    r.q ≡ 2 ^ length d.shared → suc (length c) ≡ r.m / 2 → Elements c
    → checks r (equal_columns r.q c) w d
    ≡ shared_checks r w d 0 (log_logins r)
    ++ (row_checks r w d ++ (terminal_checks r w d ++ (inner_checks r w d (combined r d) ++ identity_check r w d (1 ∷ c))))

-- `vectors-equal`: the lists of bad draws see the public columns in the vectors of the logins alone, and these are (w, 1, c)
abbrev pub VectorsEqual : (b : Batch) (c : List ℕ) → Type 0
VectorsEqual b c =
    vectors gf128 (batch_e b) (public_e (equal_columns (length b) c)) ≡ map (λ (w : List Element). w ++ els (1 ∷ c)) (batch_e b)

-- ---- the prover
module _ (r : Relation) (b : Batch) (d : Draws) where
  -- its words, from the products of each matrix and the folded z
  abbrev pub words_from : (products : Matrix → List ℕ) (z : List ℕ) → List ℕ
  words_from products z =
      interleaved (take (log_logins r) (rounds r.bin d.tau_bin d.row_bin)) (take (log_logins r) (rounds r.fld d.tau_fld d.row_fld))
      ++ (joined (drop (log_logins r) (rounds r.bin d.tau_bin d.row_bin))
      ++ (joined (drop (log_logins r) (rounds r.fld d.tau_fld d.row_fld))
      ++ ((at r.bin.a d.row_bin ∷ at r.bin.b d.row_bin ∷ at r.bin.c d.row_bin
      ∷ at r.fld.a d.row_fld ∷ at r.fld.b d.row_fld ∷ at r.fld.c d.row_fld ∷ [])
      ++ (joined (inner_messages (combined r d) z d.inner) ++ (mle z d.inner ∷ true_values r b d)))))
    where
      rounds : System → (tau rows : List ℕ) → List (List ℕ)
      rounds s tau rows = outer_messages (outer_start (log_logins r) tau (products s.a) (products s.b) (products s.c)) (d.shared ++ rows)

      at : Matrix → List ℕ → ℕ
      at m rows = mle (products m) (rows ++ login_point d)

  -- `words-equal`: the products and the folded z are those of the half (1, c)
  abbrev pub WordsEqual : (c : List ℕ) → Type 0
  WordsEqual c =
      r.q ≡ 2 ^ length d.shared → suc (length c) ≡ r.m / 2 → Elements c
      → honest_proof r b (equal_columns r.q c) d
      ≡ words_from (λ m. shared_products m b c r.q) (folded r.q (r.m / 2) b (login_point d) ++ (1 ∷ c))
