-- The products of the six matrices and the z of every login, in the blocks of the outer sum-check: four tables for bin, then four for fld,
-- of which the first is free and the others are those of A, B and C. Only private contracts cite these definitions.
-- Assumes nothing.
use Rattle.std.specs.Prelude.{◌≡◌, cond, List, ℕ, ◌+◌, ◌-◌, ◌*◌, ◌/◌, ◌≤◌, min, ltb, length, take, drop}
use Rattle.magnetar_layout.specs.Login.{login_words}
use Rattle.magnetar_layout.specs.Tests.{Sized, most_columns, most_logins, most_rows}
use Rattle.magnetar_matrix.specs.Matrix.{Matrix, System}
use Rattle.magnetar_matrix.specs.Batch.{Relation}
use Rattle.magnetar_matrix.specs.Packed.{packed_table}
use Rattle.magnetar_protocol.specs.RunSizes.{SizedSystem}
use Rattle.magnetar_schedule.specs.Stepwise.{Tables}
use Rattle.magnetar_prover.specs.Entries.{table_at, block_words, tables_of}
use Rattle.magnetar_relation.specs.declared.shapes.SystemShape.{SystemShape}
use Rattle.magnetar_relation.specs.declared.shapes.Shapes.{Shapes}
use Rattle.magnetar_relation.specs.Rules.{Rules, relation_of, entries_in}
use Rattle.magnetar_spartan.specs.declared.products.Part.{Part}
use Rattle.magnetar_spartan.specs.Refusals.{rows_bin, rows_fld}

-- ---- the tables by their numbers: 1, 2 and 3 are A, B and C of bin, 5, 6 and 7 those of fld
-- the words of one table, for q logins and n rows within the limits
abbrev pub product_words : (q n : ℕ) → ℕ
product_words q n = 2 * (min q most_logins * min n most_rows)

-- table k of a system whose block is at word p and whose entries are from i on, among h of them
abbrev pub part_in : (k q : ℕ) → SystemShape → (p i h : ℕ) → Part
part_in k q t p i h =
    let w = product_words q t.a.rows in
    let j = min (i + t.a.entries) h in
    let l = min (j + t.b.entries) h in
    cond (ltb k 2) (record { place = p + w; rows = t.a.rows; from = i; to = j })
    (cond (ltb k 3) (record { place = p + 2 * w; rows = t.b.rows; from = j; to = l })
    (record { place = p + 3 * w; rows = t.c.rows; from = l; to = min (l + t.c.entries) h }))

abbrev pub part_of : (k q : ℕ) → Shapes → (h : ℕ) → Part
part_of k q s h =
    cond (ltb k 4) (part_in k q s.bin 0 0 h)
    (part_in (k - 4) q s.fld (4 * product_words q s.bin.a.rows) (min (0 + entries_in s.bin) h) h)

-- the matrix
abbrev pub matrix_in : ℕ → System → Matrix
matrix_in k s = cond (ltb k 2) s.a (cond (ltb k 3) s.b s.c)

abbrev pub matrix_no : ℕ → Relation → Matrix
matrix_no k r = cond (ltb k 4) (matrix_in k r.bin) (matrix_in (k - 4) r.fld)

-- the words of a table of bin, and of fld
abbrev pub words_bin : Rules → ℕ
words_bin R = 2 * (R.q * rows_bin R)

abbrev pub words_fld : Rules → ℕ
words_fld R = 2 * (R.q * rows_fld R)

-- the words of table k, and where they begin
abbrev pub words_no : ℕ → Rules → ℕ
words_no k R = cond (ltb k 4) (words_bin R) (words_fld R)

abbrev pub slot : ℕ → ℕ
slot k = cond (ltb k 2) 1 (cond (ltb k 3) 2 3)

abbrev pub place_no : ℕ → Rules → ℕ
place_no k R = cond (ltb k 4) (slot k * words_no k R) (4 * words_bin R + slot (k - 4) * words_no k R)

-- the products of the matrix a
abbrev pub table_of : Rules → (ws x : List ℕ) → Matrix → List ℕ
table_of R ws x a = packed_table a ws x R.q (R.m / 2)

-- ---- one table
-- s' is s with the table t of n words at place p; the first n words are free
pub record Placed (n p : ℕ) (t s s' : List ℕ) : Type 0 where
  pub long : length s' ≡ length s
  pub here : table_at p n s' ≡ t
  pub before : (o l : ℕ) → n ≤ o → o + l ≤ p → take l (drop o s') ≡ take l (drop o s)
  pub behind : (o l : ℕ) → p + n ≤ o → take l (drop o s') ≡ take l (drop o s)
  pub rest : (o : ℕ) → p + n ≤ o → drop o s' ≡ drop o s

-- what the products ask for: so many packed words ws, public words x and words s for all tables
pub record ValidProducts (R : Rules) (ws x s : ℕ) : Type 0 where
  pub columns : Sized 2 most_columns R.m
  pub logins : Sized 1 most_logins R.q
  pub bin : SizedSystem R.m R.q (relation_of R).bin
  pub fld : SizedSystem R.m R.q (relation_of R).fld
  pub packed : ws ≡ R.q * login_words (R.m / 2)
  pub public : x ≡ R.q * (R.m - 2)
  pub room : block_words R.q (rows_bin R) (rows_fld R) ≤ s

-- table k, where they have it
abbrev pub ProductLeft : ℕ → Rules → (ws x s s' : List ℕ) → Type 0
ProductLeft k R ws x s s' =
    ValidProducts R (length ws) (length x) (length s) → Placed (words_no k R) (place_no k R) (table_of R ws x (matrix_no k (relation_of R))) s s'

-- ---- all of them
abbrev pub tables_wanted : Rules → (ws x : List ℕ) → Tables
tables_wanted R ws x = record {
  bin_a = table_of R ws x (relation_of R).bin.a;
  bin_b = table_of R ws x (relation_of R).bin.b;
  bin_c = table_of R ws x (relation_of R).bin.c;
  fld_a = table_of R ws x (relation_of R).fld.a;
  fld_b = table_of R ws x (relation_of R).fld.b;
  fld_c = table_of R ws x (relation_of R).fld.c;
}

-- s' is s with all six
pub record Products (R : Rules) (ws x s s' : List ℕ) : Type 0 where
  pub long : length s' ≡ length s
  pub rest : drop (block_words R.q (rows_bin R) (rows_fld R)) s' ≡ drop (block_words R.q (rows_bin R) (rows_fld R)) s
  pub tables : tables_of R.q (rows_bin R) (rows_fld R) s' ≡ tables_wanted R ws x

abbrev pub ProductsLeft : Rules → (ws x s s' : List ℕ) → Type 0
ProductsLeft R ws x s s' = ValidProducts R (length ws) (length x) (length s) → Products R ws x s s'
