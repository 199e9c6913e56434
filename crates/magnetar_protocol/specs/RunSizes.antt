-- The sizes that the refusals 1 to 16 leave, and those of a batch, of public columns and of draws that fit them.
-- Source: document 01, "Who can be turned back" and "The run" (the relation, a batch); document 02, U6 (each login's own public columns).
-- Assumes nothing.
use Rattle.std.specs.Prelude.{◌≡◌, true, ◌&&◌, List, [], ℕ, suc, ◌*◌, ◌/◌, ◌^◌, ◌≤◌, ◌<◌, ltb, length, get_or}
use Rattle.magnetar_layout.specs.Every.{every}
use Rattle.magnetar_matrix.specs.Matrix.{Matrix, System}
use Rattle.magnetar_matrix.specs.Batch.{Relation, Batch, PublicColumns, public_columns, bit_of}
use Rattle.magnetar_layout.specs.Layout.{LayoutFits}
use Rattle.magnetar_layout.specs.Tests.{Sized, most_columns, most_logins, most_rows, most_batch_rows, most_entries, most_segments}
use Rattle.magnetar_protocol.specs.Shape.{proof_elements}
use Rattle.magnetar_protocol.specs.Draws.{draw_count}

-- a matrix of n rows and m columns with its entries inside
pub record SizedMatrix (n m : ℕ) (a : Matrix) : Type 0 where
  pub rows : a.rows ≡ n
  pub cols : a.cols ≡ m
  pub few : length a.entries ≤ most_entries
  pub inside : every (λ e. ltb e.row n && ltb e.col m) a.entries ≡ true

-- three matrices with the same rows, over m columns, for q logins
pub record SizedSystem (m q : ℕ) (s : System) : Type 0 where
  pub rows : Sized 1 most_rows s.a.rows
  pub total : q * s.a.rows ≤ most_batch_rows
  pub a : SizedMatrix s.a.rows m s.a
  pub b : SizedMatrix s.a.rows m s.b
  pub c : SizedMatrix s.a.rows m s.c

-- powers of two within their bounds, two systems, and at most 64 segments that fit the witness columns
pub record SizedRelation (r : Relation) : Type 0 where
  pub columns : Sized 2 most_columns r.m
  pub logins : Sized 1 most_logins r.q
  pub bin : SizedSystem r.m r.q r.bin
  pub fld : SizedSystem r.m r.q r.fld
  pub layout : LayoutFits (r.m / 2) r.lengths
  pub segments : length r.lengths ≤ most_segments

-- q rows of m / 2 bits
pub record SizedBatch (r : Relation) (b : Batch) : Type 0 where
  pub logins : length b ≡ r.q
  pub columns : (u : ℕ) → u < r.q → length (get_or b u []) ≡ r.m / 2
  pub bits : (u y : ℕ) → bit_of b u y < 2

-- q rows of m / 2 - 1 elements
pub record SizedPublic (r : Relation) (x : PublicColumns) : Type 0 where
  pub logins : length x ≡ r.q
  pub columns : (u : ℕ) → u < r.q → suc (length (public_columns x u)) ≡ r.m / 2
  pub elements : (u y : ℕ) → get_or (public_columns x u) y 0 < 2 ^ 128

-- every number is below n
abbrev pub EachBelow : ℕ → List ℕ → Type 0
EachBelow n l = (i : ℕ) → get_or l i 0 < n

-- every number is an element
abbrev pub Elements : List ℕ → Type 0
Elements l = EachBelow (2 ^ 128) l

-- what both ends are given: the public columns x, and the draws d
pub record SizedRun (r : Relation) (b : Batch) (x : PublicColumns) (d : List ℕ) : Type 0 where
  pub relation : SizedRelation r
  pub batch : SizedBatch r b
  pub public : SizedPublic r x
  pub draws : length d ≡ draw_count r
  pub elements_d : Elements d

-- and what the verifier is given besides: the proof's elements w
pub record SizedProof (r : Relation) (b : Batch) (x : PublicColumns) (w d : List ℕ) : Type 0 where
  pub run : SizedRun r b x d
  pub words : length w ≡ proof_elements r
  pub elements_w : Elements w
