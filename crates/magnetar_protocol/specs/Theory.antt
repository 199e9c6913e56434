-- The run over numbers as a run of magnetar_theory over GF(2^128): the relation, the batch, the public halves, the draws and the
-- proof's elements, each number as the element that it stands for.
-- Source: document 01, "The run", in the terms of magnetar_theory.
-- Assumes nothing.
use Rattle.std.specs.Prelude.{List, [], ◌∷◌, map, ℕ, ◌-◌, ◌/◌}
use Rattle.magnetar_field.specs.Sizes.{log₂}
use Rattle.magnetar_matrix.specs.Matrix.{Entry, Matrix, System}
use Rattle.magnetar_matrix.specs.Batch.{Relation, Batch, PublicColumns}
use Rattle.magnetar_layout.specs.Layout.{offsets}
use Rattle.magnetar_theory.specs.Matrix.{Entry as EntryE}
use Rattle.magnetar_theory.specs.Segment.{Segment}
use Rattle.magnetar_theory.specs.Run.{System as SystemE, Relation as RelationE, Draws as DrawsE, Proof as ProofE}
use Rattle.magnetar_theory.specs.Lists.{proof_of}
use Rattle.magnetar_theory.specs.Gf128.{Element, element, gf128}
use Rattle.magnetar_protocol.specs.Shape.{log_logins, log_cols}
use Rattle.magnetar_protocol.specs.Draws.{Draws, low_point, top_element}

-- the elements of numbers
abbrev pub els : List ℕ → List Element
els t = map element t

-- an entry of a matrix
abbrev pub entry_e : Entry → EntryE gf128
entry_e e = record { row = e.row; col = e.col; val = element e.value }

-- the entries of a matrix
abbrev pub entries_e : Matrix → List (EntryE gf128)
entries_e m = map entry_e m.entries

-- a system
abbrev pub system_e : System → SystemE gf128
system_e s = record { A = entries_e s.a; B = entries_e s.b; C = entries_e s.c; log_rows = log₂ s.a.rows }

-- the segments with these offsets and lengths
abbrev pub segments_e : List ℕ → List ℕ → List Segment
segments_e [] ns = []
segments_e (o ∷ os) [] = []
segments_e (o ∷ os) (n ∷ ns) = record { log_len = log₂ n; number = o / n } ∷ segments_e os ns

-- the logarithm of half the columns
abbrev pub log_half : Relation → ℕ
log_half r = log_cols r - 1

-- a relation
abbrev pub relation_e : Relation → RelationE gf128
relation_e r = record {
  bin = system_e r.bin;
  fld = system_e r.fld;
  log_half = log_half r;
  segs = segments_e (offsets r.lengths) r.lengths;
}

-- the public half of each login's z
abbrev pub public_e : PublicColumns → List (List Element)
public_e x = map (λ (c : List ℕ). els (1 ∷ c)) x

-- a batch
abbrev pub batch_e : Batch → List (List Element)
batch_e b = map els b

-- the draws
abbrev pub draws_e : Relation → Draws → DrawsE gf128
draws_e r d = record {
  tau_bin = els d.tau_bin;
  tau_fld = els d.tau_fld;
  shared = els d.shared;
  row_bin = els d.row_bin;
  row_fld = els d.row_fld;
  alpha = els d.alphas;
  low = els (low_point r d);
  last = element (top_element r d);
}

-- the proof, taken apart
abbrev pub proof_e : Relation → List ℕ → ProofE gf128
proof_e r w = proof_of gf128 (log_logins r) (relation_e r) (els w)
