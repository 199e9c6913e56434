-- A relation as it is lent: the shapes of the six matrices, and ONE list of entries that holds those of A, B, C of bin, then of A, B, C of
-- fld. The core reads the list off four number slices (`entries_of`), the forms over records off one slice of them (`entries_of_records`).
-- Source: document 01, "Forms that give way" and "The run" (the relation is m, q, both systems and the layout).
-- Assumes nothing.
use Rattle.std.specs.Prelude.{Bool, ◌&&◌, List, [], ◌∷◌, ℕ, ◌+◌, ltb, length, take, drop}
use Rattle.magnetar_layout.specs.Every.{every}
use Rattle.magnetar_matrix.specs.Matrix.{Entry, Matrix, System}
use Rattle.magnetar_matrix.specs.Batch.{Relation}
use Rattle.magnetar_matrix.specs.Lent.{entries_of}
use Rattle.magnetar_matrix.specs.Numbers.{Numbers}
use Rattle.magnetar_relation.specs.declared.shapes.Shape.{Shape}
use Rattle.magnetar_relation.specs.declared.shapes.SystemShape.{SystemShape}
use Rattle.magnetar_relation.specs.declared.shapes.Shapes.{Shapes}

-- the columns, the logins, the segment lengths, the shapes; how many numbers each slice holds that the entries are read off; the entries
pub record Rules : Type 0 where
  pub m : ℕ
  pub q : ℕ
  pub lengths : List ℕ
  pub shapes : Shapes
  pub numbers : List ℕ
  pub entries : List Entry

-- from four number slices
abbrev pub rules : (m q : ℕ) → List ℕ → Shapes → (row col lo hi : List ℕ) → Rules
rules m q ns s row col lo hi = record {
  m = m;
  q = q;
  lengths = ns;
  shapes = s;
  numbers = length row ∷ length col ∷ length lo ∷ length hi ∷ [];
  entries = entries_of row col lo hi;
}

-- from the numbers of entries in whichever form they are lent
abbrev pub rules_by : (m q : ℕ) → List ℕ → Shapes → Numbers → Rules
rules_by m q ns s N = rules m q ns s N.row N.col N.lo N.hi

-- from one slice of records, whose entries are es
abbrev pub rules_over : (m q : ℕ) → List ℕ → Shapes → List Entry → Rules
rules_over m q ns s es = record {
  m = m;
  q = q;
  lengths = ns;
  shapes = s;
  numbers = length es ∷ length es ∷ length es ∷ length es ∷ [];
  entries = es;
}

-- ---- the relation
-- the matrix of the shape h whose entries start at place k
abbrev pub matrix_at : Shape → ℕ → List Entry → Matrix
matrix_at h k es = record { rows = h.rows; cols = h.cols; entries = take h.entries (drop k es) }

-- how many entries a system has
abbrev pub entries_in : SystemShape → ℕ
entries_in t = t.a.entries + t.b.entries + t.c.entries

-- the system whose entries start at place k
abbrev pub system_at : SystemShape → ℕ → List Entry → System
system_at t k es = record {
  a = matrix_at t.a k es;
  b = matrix_at t.b (k + t.a.entries) es;
  c = matrix_at t.c (k + t.a.entries + t.b.entries) es;
}

-- the relation that is lent
abbrev pub relation_of : Rules → Relation
relation_of R = record {
  m = R.m;
  q = R.q;
  bin = system_at R.shapes.bin 0 R.entries;
  fld = system_at R.shapes.fld (entries_in R.shapes.bin) R.entries;
  lengths = R.lengths;
}

-- ---- where the entries lie
-- the entry lies within n rows and m columns
abbrev pub lies_in : ℕ → ℕ → Entry → Bool
lies_in n m e = ltb e.row n && ltb e.col m

-- each entry of the matrix lies inside it
abbrev pub in_matrix : Matrix → Bool
in_matrix a = every (lies_in a.rows a.cols) a.entries

-- the same of the three matrices of a system
abbrev pub in_system : System → Bool
in_system s = in_matrix s.a && (in_matrix s.b && in_matrix s.c)

-- and of all six
unfoldable pub in_relation : Relation → Bool
in_relation r = in_system r.bin && in_system r.fld
