-- A whole run of virtual Spartan with its draws as plain elements: the relation, the draws, the proof, what the verifier
-- tests, the true value of each claim, and the honest prover's proof. Nothing here mentions a hash
-- or a transcript.
-- Source: document 01, "The run" and "Forms that give way" (the order of the proof); document 02, U6 (each login's own public half); the
-- Rust's `verify_virtual_spartan` and `fold_public_part`.
-- Assumes nothing.
use Rattle.std.specs.Prelude.{◌≡◌, Bool, List, [], ◌∷◌, ◌++◌, map, reverse, ℕ, suc, ◌+◌, ◌^◌, length, take, drop, get_or}
use Rattle.magnetar_theory.specs.Field.{Field, all_zero}
use Rattle.magnetar_theory.specs.SumCheck.{Checks, running, honest}
use Rattle.magnetar_theory.specs.Table.{table_rounds, State}
use Rattle.magnetar_theory.specs.Cells.{outer_cells, inner_cells}
use Rattle.magnetar_theory.specs.EqTable.{eq_table, dot, eq_product}
use Rattle.magnetar_theory.specs.Matrix.{Entry, apply_all, columns, fold, AllLength}
use Rattle.magnetar_theory.specs.Outer.{row_values, start}
use Rattle.magnetar_theory.specs.Inner.{zip_inner}
use Rattle.magnetar_theory.specs.Segment.{Segment, ZeroOutside, segment_part}

module _ (F : Field) where
  open F use {K, 𝟎, 𝟏, ◌⊕◌, ◌⊗◌}

  infixl 60 ◌⊕◌
  infixl 70 ◌⊗◌
  -- three matrices of 2 ^ logRows rows
  pub record System : Type 0 where
    pub A : List (Entry F)
    pub B : List (Entry F)
    pub C : List (Entry F)
    pub log_rows : ℕ

  -- two systems over 2 * 2 ^ logHalf columns, and the segments of the first half
  pub record Relation : Type 0 where
    pub bin : System
    pub fld : System
    pub log_half : ℕ
    pub segs : List Segment

  -- every login's vector: its bits and its public half
  abbrev pub vectors : List (List K) → List (List K) → List (List K)
  vectors [] xs = []
  vectors (w ∷ ws) [] = []
  vectors (w ∷ ws) (x ∷ xs) = (w ++ x) ∷ vectors ws xs

  -- the products of a matrix with all vectors, one after the other
  abbrev pub table : System → List (Entry F) → List (List K) → List K
  table Y M zs = apply_all F (2 ^ Y.log_rows) M zs

  -- (Az)(Bz) + Cz, all logins and rows
  abbrev pub residues : System → List (List K) → List K
  residues Y zs = row_values F (table Y Y.A zs) (table Y Y.B zs) (table Y Y.C zs)

  -- the outer sum-check of a system at its start, with s login variables and b row variables
  abbrev pub begin : System → List K → List (List K) → ℕ → ℕ → State F (outer_cells F)
  begin Y taus zs s b = start F (table Y Y.A zs) (table Y Y.B zs) (table Y Y.C zs) taus s b

  -- what the verifier draws, in the order of the run
  pub record Draws : Type 0 where
    pub tau_bin : List K
    pub tau_fld : List K
    pub shared : List K
    pub row_bin : List K
    pub row_fld : List K
    pub alpha : List K
    pub low : List K
    pub last : K

  -- a proof: the messages of both outer sum-checks, the terminals of both systems, the inner messages, v_z, the segment
  -- values
  pub record Proof : Type 0 where
    pub bin_ms : List (List K)
    pub fld_ms : List (List K)
    pub ab : K
    pub bb : K
    pub cb : K
    pub af : K
    pub bf : K
    pub cf : K
    pub inner_ms : List (List K)
    pub vz : K
    pub values : List K

  -- the challenges of the inner sum-check
  abbrev pub inner : Draws → List K
  inner D = D.low ++ (D.last ∷ [])

  -- the six claimed terminal values
  abbrev pub terminals : Proof → List K
  terminals W = W.ab ∷ W.bb ∷ W.cb ∷ W.af ∷ W.bf ∷ W.cf ∷ []

  -- the six tables of column sums
  abbrev pub six : Relation → (row_bin row_fld : List K) → List (List K)
  six R rb rf =
      cols R.bin.A rb ∷ cols R.bin.B rb ∷ cols R.bin.C rb
      ∷ cols R.fld.A rf ∷ cols R.fld.B rf ∷ cols R.fld.C rf ∷ []
    where
      cols : List (Entry F) → List K → List K
      cols M r = columns F (2 ^ suc R.log_half) M (eq_table F r)

  -- the sum of eq(high part, number) times the value, over the segments
  abbrev pub seg_sum : List Segment → List K → List K → K
  seg_sum [] r vs = 𝟎
  seg_sum (g ∷ gs) r [] = 𝟎
  seg_sum (g ∷ gs) r (v ∷ vs) = get_or (eq_table F (drop g.log_len r)) g.number 𝟎 ⊗ v ⊕ seg_sum gs r vs

  -- the public halves of all logins, weighted by eq(r_inst, u)
  abbrev pub folded_half : Relation → List (List K) → (shared : List K) → List K
  folded_half R xs sh = fold F (2 ^ R.log_half) (eq_table F (reverse sh)) xs

  -- the verifier's tests, with the public half of each login
  pub record Accepted (R : Relation) (xs : List (List K)) (D : Draws) (W : Proof) : Type 0 where
    pub bin-rounds : Checks F 𝟎 W.bin_ms (D.shared ++ D.row_bin)
    pub fld-rounds : Checks F 𝟎 W.fld_ms (D.shared ++ D.row_fld)
    pub bin_terminal : running F 𝟎 W.bin_ms (D.shared ++ D.row_bin)
        ≡ eq_product F D.tau_bin (D.row_bin ++ reverse D.shared) ⊗ (W.ab ⊗ W.bb ⊕ W.cb)
    pub fld_terminal : running F 𝟎 W.fld_ms (D.shared ++ D.row_fld)
        ≡ eq_product F D.tau_fld (D.row_fld ++ reverse D.shared) ⊗ (W.af ⊗ W.bf ⊕ W.cf)
    pub inner-rounds : Checks F (dot F D.alpha (terminals W)) W.inner_ms (inner D)
    pub inner_terminal : running F (dot F D.alpha (terminals W)) W.inner_ms (inner D)
        ≡ dot F (eq_table F (inner D)) (fold F (2 ^ suc R.log_half) D.alpha (six R D.row_bin D.row_fld)) ⊗ W.vz
    pub identity : W.vz
        ≡ (𝟏 ⊕ D.last) ⊗ seg_sum R.segs D.low W.values ⊕ D.last ⊗ dot F (eq_table F D.low) (folded_half R xs D.shared)

  -- the value that a segment's claim is about
  abbrev pub true_value : Draws → List (List K) → Segment → K
  true_value D ws g = dot F (eq_table F (reverse D.shared))
      (map (λ (w : List K). dot F (eq_table F (take g.log_len D.low)) (segment_part F g w)) ws)

  -- every vector is zero outside the segments
  abbrev pub AllZeroOutside : ℕ → List Segment → List (List K) → Type 0
  AllZeroOutside n gs [] = Unit {0}
  AllZeroOutside n gs (w ∷ ws) = ZeroOutside F 0 n gs w × AllZeroOutside n gs ws

  -- the sizes that the refusals 1 to 16 leave, with as many rows of bits and as many public halves as logins, each of a half's length; and
  -- that every row of bits is zero outside the segments (`laid`), which no refusal tests
  pub record Sizes (R : Relation) (xs ws : List (List K)) (D : Draws) : Type 0 where
    pub logins : length ws ≡ 2 ^ length D.shared
    pub row_lengths : AllLength F (2 ^ R.log_half) ws
    pub laid : AllZeroOutside (2 ^ R.log_half) R.segs ws
    pub halves : length xs ≡ 2 ^ length D.shared
    pub half_lengths : AllLength F (2 ^ R.log_half) xs
    pub rows-bin : length D.row_bin ≡ R.bin.log_rows
    pub rows-fld : length D.row_fld ≡ R.fld.log_rows
    pub taus-bin : length D.tau_bin ≡ length D.shared + length D.row_bin
    pub taus-fld : length D.tau_fld ≡ length D.shared + length D.row_fld
    pub six_alphas : length D.alpha ≡ 6
    pub low_size : length D.low ≡ R.log_half

  -- the true terminal values
  abbrev pub true_terminals : Relation → (xs ws : List (List K)) → (shared row_bin row_fld : List K) → List K
  true_terminals R xs ws sh rb rf =
      at R.bin R.bin.A rb ∷ at R.bin R.bin.B rb ∷ at R.bin R.bin.C rb
      ∷ at R.fld R.fld.A rf ∷ at R.fld R.fld.B rf ∷ at R.fld R.fld.C rf ∷ []
    where
      at : System → List (Entry F) → List K → K
      at Y M r = dot F (eq_table F (r ++ reverse sh)) (table Y M (vectors ws xs))

  -- the six tables of column sums, weighted by alpha
  abbrev pub combo : Relation → (row_bin row_fld alpha : List K) → List K
  combo R rb rf al = fold F (2 ^ suc R.log_half) al (six R rb rf)

  -- the vectors of all logins, weighted by eq(r_inst, u)
  abbrev pub folded : Relation → (xs ws : List (List K)) → (shared : List K) → List K
  folded R xs ws sh = fold F (2 ^ suc R.log_half) (eq_table F (reverse sh)) (vectors ws xs)

  -- the first system holds for every login: then the lists follow the second
  abbrev pub bin_good : Relation → (xs ws : List (List K)) → Bool
  bin_good R xs ws = all_zero F (residues R.bin (vectors ws xs))

  module _ (R : Relation) (xs ws : List (List K)) (D : Draws) where
    -- the honest prover's proof
    abbrev pub honest_proof : Proof
    honest_proof = record {
      bin_ms = honest F (table_rounds F (outer_cells F)) (begin R.bin D.tau_bin (vectors ws xs) (length D.shared) (length D.row_bin))
          (D.shared ++ D.row_bin);
      fld_ms = honest F (table_rounds F (outer_cells F)) (begin R.fld D.tau_fld (vectors ws xs) (length D.shared) (length D.row_fld))
          (D.shared ++ D.row_fld);
      ab = get_or (true_terminals R xs ws D.shared D.row_bin D.row_fld) 0 𝟎;
      bb = get_or (true_terminals R xs ws D.shared D.row_bin D.row_fld) 1 𝟎;
      cb = get_or (true_terminals R xs ws D.shared D.row_bin D.row_fld) 2 𝟎;
      af = get_or (true_terminals R xs ws D.shared D.row_bin D.row_fld) 3 𝟎;
      bf = get_or (true_terminals R xs ws D.shared D.row_bin D.row_fld) 4 𝟎;
      cf = get_or (true_terminals R xs ws D.shared D.row_bin D.row_fld) 5 𝟎;
      inner_ms = honest F (table_rounds F (inner_cells F))
          (record {
            tops = 0;
            lows = length (inner D);
            cells = zip_inner F (combo R D.row_bin D.row_fld D.alpha)
                (folded R xs ws D.shared);
          }) (inner D);
      vz = dot F (eq_table F (inner D)) (folded R xs ws D.shared);
      values = map (true_value D ws) R.segs;
    }
