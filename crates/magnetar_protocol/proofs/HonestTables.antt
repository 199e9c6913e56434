-- The tables of the honest prover are the theory's: the products for all logins, and z folded over the logins.
-- Assumes nothing.
use mathlib.Core.Path.{◌≡◌, refl, sym, ap, ap₂, ◌∙◌}
use mathlib.Core.List.{List, [], ◌∷◌, ◌++◌, reverse, append-nil, append_assoc}
use Prim.Native.Nat.{ℕ, zero, suc, ◌+◌, ◌*◌, ◌/◌, ◌^◌, ◌<◌}
use native.Mathlib.Nat.{two-pow-succ}
use native.Mathlib.Omega.{arith}
use lib.ListN.{length, get_or, length-append, length-map}
use lib.Seq.{ext_get_or}
use Rattle.magnetar_field.proofs.Tabulation.{tabulate-length, tabulate-get}
use Rattle.magnetar_matrix.specs.Sum.{blocks}
use Rattle.magnetar_matrix.proofs.Blocks.{blocks-length}
use Rattle.magnetar_matrix.specs.Matrix.{Matrix, times, times_at}
use Rattle.magnetar_matrix.specs.Batch.{Relation, Batch, PublicColumns, public_half, assignment, batch_products, folded, public_folded}
use Rattle.magnetar_theory.specs.EqTable.{eq_table as eq_table_e}
use Rattle.magnetar_theory.specs.Matrix.{apply, apply_all, fold}
use Rattle.magnetar_theory.specs.Run.{vectors, folded as folded_e}
use Rattle.magnetar_theory.specs.Gf128.{element, gf128}
use Rattle.magnetar_theory.proofs.Gf128.{gf128_laws}
use Rattle.magnetar_theory.proofs.Matrix.{length-apply}
use Rattle.magnetar_theory.proofs.Run.{fold-vectors}
use Rattle.magnetar_protocol.specs.Draws.{Draws, login_point}
use Rattle.magnetar_protocol.specs.Theory.{els, log_half, entries_e, relation_e, public_e, batch_e}
use Rattle.magnetar_protocol.specs.RunSizes.{SizedRelation, SizedBatch, SizedPublic}
use Rattle.magnetar_protocol.specs.Prover.{product_table, folded_z}
use Rattle.magnetar_protocol.proofs.Elements.{map-append, els-at}
use Rattle.magnetar_protocol.proofs.Products.{times-at}
use Rattle.magnetar_protocol.proofs.SizeFacts.{half_pow, Cut}
use Rattle.magnetar_protocol.proofs.TrueClaims.{row_lengths}
use Rattle.magnetar_protocol.proofs.Folds.{bits-folded, halves-folded}

-- ---- products
times-is : (n : ℕ) (m : Matrix) (z : List ℕ) → m.rows ≡ n → els (times m z) ≡ apply gf128 n (entries_e m) (els z)
times-is n m z e =
    ext_get_or (element 0) (els (times m z)) (apply gf128 n (entries_e m) (els z))
    (long ∙ sym (length-apply gf128 gf128_laws n (entries_e m) (els z)))
    (λ i h. let k : i < n = rw long at h in els-at (times m z) i ∙ ap element (value i (rw e k)) ∙ sym (times-at n m z i k))
  where
    long : length (els (times m z)) ≡ n
    long = length-map (times m z) element ∙ unfold times in tabulate-length (times_at m z) m.rows ∙ e

    value : (i : ℕ) → i < m.rows → get_or (times m z) i 0 ≡ times_at m z i
    value i h = unfold times in tabulate-get (times_at m z) m.rows i 0 h

blocks-front : (f : ℕ → List ℕ) (n : ℕ) → blocks f (suc n) ≡ f 0 ++ blocks (λ u. f (suc u)) n
unfolding blocks
blocks-front f zero = sym (append-nil (f 0))
blocks-front f (suc n) = ap (λ (l : List ℕ). l ++ f (suc n)) (blocks-front f n) ∙ append_assoc (f 0) (blocks (λ u. f (suc u)) n) (f (suc n))

blocks-are : (n : ℕ) (m : Matrix) (b : Batch) (x : PublicColumns) → length x ≡ length b → m.rows ≡ n
    → els (blocks (λ u. times m (get_or b u [] ++ public_half x u)) (length b)) ≡ apply_all gf128 n (entries_e m) (vectors gf128 (batch_e b) (public_e x))
blocks-are n m [] x h e = unfold blocks in refl
blocks-are n m (w ∷ b) [] h e = absurd (omega arith)
blocks-are n m (w ∷ b) (c ∷ x) h e =
    ap els (blocks-front (λ u. times m (get_or (w ∷ b) u [] ++ public_half (c ∷ x) u)) (length b))
    ∙ map-append element (times m (w ++ (1 ∷ c))) (blocks (λ u. times m (get_or b u [] ++ public_half x u)) (length b))
    ∙ ap₂ ◌++◌ (times-is n m (w ++ (1 ∷ c)) e ∙ ap (apply gf128 n (entries_e m)) (map-append element w (1 ∷ c))) (blocks-are n m b x (omega arith) e)

module _ (r : Relation) (b : Batch) (x : PublicColumns) where
  pub product_is : SizedBatch r b → SizedPublic r x → (n : ℕ) (m : Matrix) → m.rows ≡ n
      → els (product_table r b x m) ≡ apply_all gf128 n (entries_e m) (vectors gf128 (batch_e b) (public_e x))
  unfolding product_table batch_products assignment
  product_is B X n m e =
      ap (λ (q : ℕ). els (blocks (λ u. times m (get_or b u [] ++ public_half x u)) q)) (sym B.logins)
      ∙ blocks-are n m b x (X.logins ∙ sym B.logins) e

  pub product-length : (m : Matrix) → length (product_table r b x m) ≡ r.q * m.rows
  unfolding product_table batch_products times
  product-length m = blocks-length _ r.q m.rows (λ u. tabulate-length _ m.rows)

-- ---- the folded z
module _ (r : Relation) (b : Batch) (x : PublicColumns) (D : Draws) (R : SizedRelation r) where
  bits : List ℕ
  bits = folded r.q (r.m / 2) b (login_point D)

  half : List ℕ
  half = public_folded r.q (r.m / 2) x (login_point D)

  pub folded_z-length : length (folded_z r b x D) ≡ 2 ^ suc (log_half r)
  unfolding folded_z folded public_folded bits half
  folded_z-length =
      length-append bits half ∙ ap₂ ◌+◌ (tabulate-length _ (r.m / 2)) (tabulate-length _ (r.m / 2))
      ∙ omega (arith, half_pow r R, two-pow-succ (log_half r))

  pub folded-is : SizedBatch r b → SizedPublic r x → Cut r D
      → els (folded_z r b x D) ≡ folded_e gf128 (relation_e r) (public_e x) (batch_e b) (els D.shared)
  unfolding folded_z bits half
  folded-is B X C =
      map-append element bits half ∙ ap₂ ◌++◌ (bits-folded r D R C b B) (halves-folded r D R C x X)
      ∙ sym (fold-vectors gf128 gf128_laws (2 ^ log_half r) (eq_table_e gf128 (reverse (els D.shared))) (public_e x) (batch_e b)
      (length-map x (λ c. els (1 ∷ c)) ∙ X.logins ∙ sym (length-map b els ∙ B.logins)) (row_lengths r R b B))
      ∙ ap (λ (k : ℕ). fold gf128 k (eq_table_e gf128 (reverse (els D.shared))) (vectors gf128 (batch_e b) (public_e x)))
      (sym (two-pow-succ (log_half r)))
