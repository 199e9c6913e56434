-- A batch of logins (the Rust's instances), the public columns of each, the relation that they are to keep, and what it means that the
-- batch is good: no bit is set outside the segments, and (A z)(B z) = C z in each row of each login, with the login's z = (w, 1, x).
-- Source: Spartan (Setty, CRYPTO 2020), R1CS; document 01, "Matrices and layout" (good) and "The run" (relation, batch, outside, true
-- claim); document 02, U3 (a good batch has every bit outside its segments clear) and U6 (each login's own public columns;
-- `fold_public_part`).
-- Assumes nothing.
use Rattle.std.specs.Prelude.{◌≡◌, Bool, true, List, [], ◌∷◌, ◌++◌, ℕ, ◌+◌, ◌/◌, ◌<◌, eqb, get_or}
use Rattle.magnetar_field.specs.Gf128.{◌⊗◌}
use Rattle.magnetar_field.specs.Tabulate.{tabulate}
use Rattle.magnetar_multilinear.specs.EqTable.{eq_at}
use Rattle.magnetar_layout.specs.Layout.{outside}
use Rattle.magnetar_matrix.specs.Sum.{sum_below, blocks}
use Rattle.magnetar_matrix.specs.Matrix.{Matrix, System, times_at, times}

-- the witness bits of each login, 0 or 1
abbrev pub Batch : Type 0
Batch = List (List ℕ)

-- the public columns of each login, elements
abbrev pub PublicColumns : Type 0
PublicColumns = List (List ℕ)

-- two systems over m columns, for q logins, and the lengths of the segments of the witness columns
pub record Relation : Type 0 where
  pub m : ℕ
  pub q : ℕ
  pub bin : System
  pub fld : System
  pub lengths : List ℕ

-- the bit of login u at column y
unfoldable pub bit_of : Batch → ℕ → ℕ → ℕ
bit_of b u y = get_or (get_or b u []) y 0

-- the public columns of login u
abbrev pub public_columns : PublicColumns → ℕ → List ℕ
public_columns x u = get_or x u []

-- the public half of login u: the column of 1, then the login's public columns
abbrev pub public_half : PublicColumns → ℕ → List ℕ
public_half x u = 1 ∷ public_columns x u

-- z = (w, 1, x) of login u
unfoldable pub assignment : Batch → PublicColumns → ℕ → List ℕ
assignment b x u = get_or b u [] ++ public_half x u

-- the products of a matrix with the z of each of q logins, one login behind the other
unfoldable pub batch_products : Matrix → Batch → PublicColumns → ℕ → List ℕ
batch_products m b x q = blocks (λ u. times m (assignment b x u)) q

-- row i of the system holds for z
unfoldable pub row_holds : System → List ℕ → ℕ → Bool
row_holds s z i = eqb (times_at s.a z i ⊗ times_at s.b z i) (times_at s.c z i)

-- each row of the system holds for each of the q logins
unfoldable pub Satisfied : System → ℕ → Batch → PublicColumns → Type 0
Satisfied s q b x =
    (u i : ℕ) → u < q → i < s.a.rows
    → times_at s.a (assignment b x u) i ⊗ times_at s.b (assignment b x u) i ≡ times_at s.c (assignment b x u) i

-- no bit is outside: none of the m / 2 witness columns that lie in no segment has a bit set
abbrev pub NoBitOutside : Relation → Batch → Type 0
NoBitOutside r b = (u y : ℕ) → u < r.q → y < r.m / 2 → outside r.lengths y ≡ true → bit_of b u y ≡ 0

-- the batch is good: no bit is outside, and every row of both systems holds for every login
pub record Good (r : Relation) (b : Batch) (x : PublicColumns) : Type 0 where
  pub clear : NoBitOutside r b
  pub bin : Satisfied r.bin r.q b x
  pub fld : Satisfied r.fld r.q b x

-- the batch folded at the point p, column y: the sum over the logins u of eq(p, u) times the bit
unfoldable pub folded_at : ℕ → Batch → List ℕ → ℕ → ℕ
folded_at q b p y = sum_below q (λ u. eq_at p u ⊗ bit_of b u y)

-- the folded vector of w columns
unfoldable pub folded : ℕ → ℕ → Batch → List ℕ → List ℕ
folded q w b p = tabulate (folded_at q b p) w

-- the public halves folded at the point p, column y: the sum over the logins u of eq(p, u) times column y of the login's half
unfoldable pub public_folded_at : ℕ → PublicColumns → List ℕ → ℕ → ℕ
public_folded_at q x p y = sum_below q (λ u. eq_at p u ⊗ get_or (public_half x u) y 0)

-- the folded public half of w columns
unfoldable pub public_folded : ℕ → ℕ → PublicColumns → List ℕ → List ℕ
public_folded q w x p = tabulate (public_folded_at q x p) w

-- the value of a true claim on a segment, with r_inst for p and r_local for l: the sum over logins u and positions k of eq(p, u) eq(l, k)
-- times the bit of login u at column offset + k
unfoldable pub claim_value : ℕ → Batch → List ℕ → List ℕ → ℕ → ℕ → ℕ
claim_value q b p l offset len =
    sum_below q (λ u. sum_below len (λ k. eq_at p u ⊗ (eq_at l k ⊗ bit_of b u (offset + k))))
