-- A batch with no bit outside is good where it is good in the theory: (Az)(Bz) + Cz is zero in each row of each login.
-- Assumes nothing.
use mathlib.Core.Path.{◌≡◌, refl, sym, ap, ap₂, ◌∙◌, subst}
use mathlib.Core.List.{List, [], ◌∷◌, ◌++◌}
use Prim.Native.Nat.{ℕ, zero, suc, ◌^◌, ◌<◌}
use native.Mathlib.Omega.{arith}
use lib.ListN.{length, get_or}
use lib.Pow.{pow_pos}
use Rattle.magnetar_field.specs.Gf128.{◌⊕◌, ◌⊗◌}
use Rattle.magnetar_field.specs.Sizes.{log₂}
use Rattle.magnetar_field.proofs.Xor.{⊕-lt, ⊕-self, eq-of-⊕}
use Rattle.magnetar_field.proofs.Product.{⊗-lt}
use Rattle.magnetar_matrix.specs.Matrix.{System, times_at}
use Rattle.magnetar_matrix.specs.Batch.{Relation, Batch, PublicColumns, public_half, assignment, Satisfied, NoBitOutside, Good}
use Rattle.magnetar_theory.specs.Tau.{Zeros}
use Rattle.magnetar_theory.specs.Matrix.{apply, apply_all}
use Rattle.magnetar_theory.specs.Outer.{row_values}
use Rattle.magnetar_theory.specs.Run.{vectors}
use Rattle.magnetar_theory.specs.Whole.{Good as GoodE}
use Rattle.magnetar_theory.specs.Gf128.{Element, element, element_sum, element_product, gf128}
use Rattle.magnetar_theory.proofs.Gf128.{element-⊕, element-⊗, element-inj, gf128_laws}
use Rattle.magnetar_theory.proofs.Matrix.{length-apply}
use Rattle.magnetar_protocol.specs.Theory.{els, entries_e, relation_e, public_e, batch_e}
use Rattle.magnetar_protocol.specs.RunSizes.{SizedRelation, SizedBatch, SizedPublic}
use Rattle.magnetar_protocol.proofs.Elements.{map-append}
use Rattle.magnetar_protocol.proofs.Products.{times-at, times_at-lt}

-- ---- zeros of joined tables
zeros-split : (s t : List Element) → Zeros gf128 (s ++ t) → Zeros gf128 s × Zeros gf128 t
zeros-split [] t z = (tt, z)
zeros-split (x ∷ s) t z = let r = zeros-split s t z.1 in ((z.0, r.0), r.1)

zeros-join : (s t : List Element) → Zeros gf128 s → Zeros gf128 t → Zeros gf128 (s ++ t)
zeros-join [] t y z = z
zeros-join (x ∷ s) t y z = (y.0, zeros-join s t y.1 z)

join-rows : (a b c a' b' c' : List Element) → length b ≡ length a → length c ≡ length a
    → row_values gf128 (a ++ a') (b ++ b') (c ++ c') ≡ row_values gf128 a b c ++ row_values gf128 a' b' c'
join-rows [] [] [] a' b' c' h k = refl
join-rows [] [] (z ∷ c) a' b' c' h k = absurd (omega arith)
join-rows [] (y ∷ b) c a' b' c' h k = absurd (omega arith)
join-rows (x ∷ a) [] c a' b' c' h k = absurd (omega arith)
join-rows (x ∷ a) (y ∷ b) [] a' b' c' h k = absurd (omega arith)
join-rows (x ∷ a) (y ∷ b) (z ∷ c) a' b' c' h k =
    ap (λ (l : List Element). element_sum (element_product x y) z ∷ l) (join-rows a b c a' b' c' (omega arith) (omega arith))

abbrev row_at : List Element → List Element → List Element → ℕ → Element
row_at a b c i = element_sum (element_product (get_or a i (element 0)) (get_or b i (element 0))) (get_or c i (element 0))

rows-zero : (a b c : List Element) → length b ≡ length a → length c ≡ length a → Zeros gf128 (row_values gf128 a b c)
    → (i : ℕ) → i < length a → row_at a b c i ≡ element 0
rows-zero [] b c h k z i l = absurd (omega arith)
rows-zero (x ∷ a) [] c h k z i l = absurd (omega arith)
rows-zero (x ∷ a) (y ∷ b) [] h k z i l = absurd (omega arith)
rows-zero (x ∷ a) (y ∷ b) (w ∷ c) h k z zero l = z.0
rows-zero (x ∷ a) (y ∷ b) (w ∷ c) h k z (suc i) l = rows-zero a b c (omega arith) (omega arith) z.1 i (omega arith)

zero-rows : (a b c : List Element) → length b ≡ length a → length c ≡ length a → ((i : ℕ) → i < length a → row_at a b c i ≡ element 0)
    → Zeros gf128 (row_values gf128 a b c)
zero-rows [] b c h k z = tt
zero-rows (x ∷ a) [] c h k z = tt
zero-rows (x ∷ a) (y ∷ b) [] h k z = tt
zero-rows (x ∷ a) (y ∷ b) (w ∷ c) h k z = (z 0 (omega arith), zero-rows a b c (omega arith) (omega arith) (λ i l. z (suc i) (omega arith)))

-- ---- one system
module _ (s : System) (n : ℕ) where
  -- row i of (Az)(Bz) + Cz
  row_is : (z : List ℕ) (i : ℕ) → i < n
      → row_at (apply gf128 n (entries_e s.a) (els z)) (apply gf128 n (entries_e s.b) (els z))
      (apply gf128 n (entries_e s.c) (els z)) i
      ≡ element (times_at s.a z i ⊗ times_at s.b z i ⊕ times_at s.c z i)
  row_is z i h =
      ap₂ element_sum (ap₂ element_product (times-at n s.a z i h) (times-at n s.b z i h) ∙ sym (element-⊗ (times_at s.a z i) (times_at s.b z i)))
      (times-at n s.c z i h)
      ∙ sym (element-⊕ (times_at s.a z i ⊗ times_at s.b z i) (times_at s.c z i))

  abbrev Row : List ℕ → ℕ → Type 0
  Row z i = times_at s.a z i ⊗ times_at s.b z i ≡ times_at s.c z i

  -- the rows of one login
  one-login : List Element → List Element
  one-login z = row_values gf128 (apply gf128 n (entries_e s.a) z) (apply gf128 n (entries_e s.b) z) (apply gf128 n (entries_e s.c) z)

  abbrev az : List Element → List Element
  az z = apply gf128 n (entries_e s.a) z

  abbrev bz : List Element → List Element
  bz z = apply gf128 n (entries_e s.b) z

  abbrev cz : List Element → List Element
  cz z = apply gf128 n (entries_e s.c) z

  a-size : (z : List Element) → length (az z) ≡ n
  a-size z = length-apply gf128 gf128_laws n (entries_e s.a) z

  b-size : (z : List Element) → length (bz z) ≡ length (az z)
  b-size z = length-apply gf128 gf128_laws n (entries_e s.b) z ∙ sym (a-size z)

  c-size : (z : List Element) → length (cz z) ≡ length (az z)
  c-size z = length-apply gf128 gf128_laws n (entries_e s.c) z ∙ sym (a-size z)

  login-holds : (z : List ℕ) → Zeros gf128 (one-login (els z)) → (i : ℕ) → i < n → Row z i
  unfolding one-login
  login-holds z h i l =
      eq-of-⊕ (element-inj (times_at s.a z i ⊗ times_at s.b z i ⊕ times_at s.c z i) 0
      (⊕-lt 128 (times_at s.a z i ⊗ times_at s.b z i) (times_at s.c z i) (⊗-lt (times_at s.a z i) (times_at s.b z i))
      (times_at-lt s.c z i)) (pow_pos 128)
      (sym (row_is z i l) ∙ rows-zero (az (els z)) (bz (els z)) (cz (els z)) (b-size (els z)) (c-size (els z)) h i (rw (a-size (els z)) l)))

  holds-login : (z : List ℕ) → ((i : ℕ) → i < n → Row z i) → Zeros gf128 (one-login (els z))
  unfolding one-login
  holds-login z h =
      zero-rows (az (els z)) (bz (els z)) (cz (els z)) (b-size (els z)) (c-size (els z))
      (λ i l. let k : i < n = rw (a-size (els z)) at l in row_is z i k
      ∙ ap element (ap (λ (v : ℕ). v ⊕ times_at s.c z i) (h i k) ∙ ⊕-self (times_at s.c z i)))

  abbrev table_rows : List (List Element) → List Element
  table_rows zs = row_values gf128 (apply_all gf128 n (entries_e s.a) zs) (apply_all gf128 n (entries_e s.b) zs)
      (apply_all gf128 n (entries_e s.c) zs)

  next-login : (z : List Element) (zs : List (List Element)) → table_rows (z ∷ zs) ≡ one-login z ++ table_rows zs
  unfolding one-login
  next-login z zs = join-rows (az z) (bz z) (cz z) (apply_all gf128 n (entries_e s.a) zs) (apply_all gf128 n (entries_e s.b) zs)
      (apply_all gf128 n (entries_e s.c) zs) (b-size z) (c-size z)

  parts : (w c : List ℕ) (b : Batch) (x : PublicColumns) → Zeros gf128 (table_rows (vectors gf128 (batch_e (w ∷ b)) (public_e (c ∷ x))))
      → Zeros gf128 (one-login (els w ++ els (1 ∷ c))) × Zeros gf128 (table_rows (vectors gf128 (batch_e b) (public_e x)))
  parts w c b x h = zeros-split (one-login (els w ++ els (1 ∷ c))) (table_rows (vectors gf128 (batch_e b) (public_e x)))
      (subst (Zeros gf128) (next-login (els w ++ els (1 ∷ c)) (vectors gf128 (batch_e b) (public_e x))) h)

  logins-hold : (x : PublicColumns) (b : Batch) → length x ≡ length b → Zeros gf128 (table_rows (vectors gf128 (batch_e b) (public_e x)))
      → (u i : ℕ) → u < length b → i < n → Row (get_or b u [] ++ public_half x u) i
  logins-hold x [] e h u i k l = absurd (omega arith)
  logins-hold [] (w ∷ b) e h u i k l = absurd (omega arith)
  logins-hold (c ∷ x) (w ∷ b) e h zero i k l = login-holds (w ++ (1 ∷ c))
      (subst (λ (z : List Element). Zeros gf128 (one-login z)) (sym (map-append element w (1 ∷ c))) (parts w c b x h).0) i l
  logins-hold (c ∷ x) (w ∷ b) e h (suc u) i k l = logins-hold x b (omega arith) (parts w c b x h).1 u i (omega arith) l

  hold-logins : (x : PublicColumns) (b : Batch) → length x ≡ length b
      → ((u i : ℕ) → u < length b → i < n → Row (get_or b u [] ++ public_half x u) i)
      → Zeros gf128 (table_rows (vectors gf128 (batch_e b) (public_e x)))
  hold-logins x [] e h = tt
  hold-logins [] (w ∷ b) e h = absurd (omega arith)
  hold-logins (c ∷ x) (w ∷ b) e h =
      subst (Zeros gf128) (sym (next-login (els w ++ els (1 ∷ c)) (vectors gf128 (batch_e b) (public_e x))))
      (zeros-join (one-login (els w ++ els (1 ∷ c))) (table_rows (vectors gf128 (batch_e b) (public_e x)))
      (subst (λ (z : List Element). Zeros gf128 (one-login z)) (map-append element w (1 ∷ c))
      (holds-login (w ++ (1 ∷ c)) (λ i l. h 0 i (omega arith) l)))
      (hold-logins x b (omega arith) (λ u i k l. h (suc u) i (omega arith) l)))

-- ---- both systems
module _ (r : Relation) (b : Batch) (x : PublicColumns) (R : SizedRelation r) (B : SizedBatch r b) (X : SizedPublic r x) where
  as_many : length x ≡ length b
  as_many = X.logins ∙ sym B.logins

  pub good : NoBitOutside r b → GoodE (relation_e r) (public_e x) (batch_e b) → Good r b x
  unfolding Satisfied assignment
  good none g = record {
    clear = none;
    bin = λ u i k l. logins-hold r.bin (2 ^ log₂ r.bin.a.rows) x b as_many g.0 u i (omega (arith, B.logins))
        (omega (arith, R.bin.rows.power));
    fld = λ u i k l. logins-hold r.fld (2 ^ log₂ r.fld.a.rows) x b as_many g.1 u i (omega (arith, B.logins))
        (omega (arith, R.fld.rows.power));
  }

  pub good-theory : Good r b x → GoodE (relation_e r) (public_e x) (batch_e b)
  unfolding Satisfied assignment
  good-theory g = (
    hold-logins r.bin (2 ^ log₂ r.bin.a.rows) x b as_many
        (λ u i k l. g.bin u i (omega (arith, B.logins)) (omega (arith, R.bin.rows.power))),
    hold-logins r.fld (2 ^ log₂ r.fld.a.rows) x b as_many
        (λ u i k l. g.fld u i (omega (arith, B.logins)) (omega (arith, R.fld.rows.power))),
  )
