-- The lists of bad draws, one definition for all draws of a run: the list of a draw is given by the relation, the batch, the
-- public columns, the proof's elements and the draws before it. And the proof and the draws as flat lists of elements.
-- Source: document 01, "The run" (demand 3's lists).
-- Assumes nothing.
use Rattle.std.specs.Prelude.{Bool, cond, ℕ, zero, suc, ◌+◌, ◌*◌, ◌<◌, ltb, length, take, drop, get_or}
use mathlib.Core.List.{List, [], ◌∷◌, ◌++◌, Memᴰ}
use Rattle.magnetar_theory.specs.Field.{Field}
use Rattle.magnetar_theory.specs.SumCheck.{bad_challenges}
use Rattle.magnetar_theory.specs.Table.{table_rounds}
use Rattle.magnetar_theory.specs.Cells.{outer_cells, inner_cells}
use Rattle.magnetar_theory.specs.Tau.{tau_list}
use Rattle.magnetar_theory.specs.Alpha.{alpha_list}
use Rattle.magnetar_theory.specs.Inner.{zip_inner}
use Rattle.magnetar_theory.specs.Run.{Relation, System, Draws, Proof, bin_good, vectors, residues, begin, true_terminals, combo, folded, inner}

module _ (F : Field) where
  open F use {K, 𝟎, 𝟏, ◌⊕◌, ◌⊗◌}

  -- within n draws, those drawn before in hand, or after them
  unfoldable pub section : ℕ → (List K → List K) → (List K → List K → List K) → List K → List K
  section n inside after p = cond (ltb (length p) n) (inside p) (after (take n p) (drop n p))

  -- some draw is in its list
  abbrev pub DrawInList : (List K → List K) → List K → Type 0
  DrawInList lists d = (k : ℕ) × (k < length d) × Memᴰ (get_or d k 𝟎) (lists (take k d))

  -- n elements of the proof from i on
  abbrev pub elements_from : ℕ → ℕ → List K → List K
  elements_from i n w = take n (drop i w)

  -- the six elements from i on
  abbrev pub six_at : ℕ → List K → List K
  six_at i w = get_or w i 𝟎 ∷ get_or w (i + 1) 𝟎 ∷ get_or w (i + 2) 𝟎 ∷ get_or w (i + 3) 𝟎 ∷ get_or w (i + 4) 𝟎 ∷ get_or w (i + 5) 𝟎 ∷ []

  module _ (s : ℕ) (R : Relation F) (xs ws : List (List K)) (w : List K) where
    -- the list of an outer round of the system Y: s high variables and so many rows, the earlier challenges, the message
    unfoldable pub outer : System F → List K → ℕ → List K → List K → List K
    outer Y taus rows earlier m = bad_challenges F (table_rounds F (outer_cells F)) (begin F Y taus (vectors F ws xs) s rows) earlier m

    -- the lists, from the draws so far: of the second system where the first holds, else of the first
    unfoldable pub lists_of : Bool → List K → List K
    lists_of good =
        -- tau of the first system, then tau of the second
        section (R.bin.log_rows + s) (λ e. cond good [] (tau_list F (residues F R.bin (vectors F ws xs)) e))
        λ tb. section (R.fld.log_rows + s) (λ e. cond good (tau_list F (residues F R.fld (vectors F ws xs)) e) [])
        -- the shared rounds: in each the message of the first system, then that of the second
        λ tf. section s
        (λ e. cond good (outer R.fld tf R.fld.log_rows e (elements_from (8 * length e + 4) 4 w)) (outer R.bin tb R.bin.log_rows e (elements_from (8 * length e) 4 w)))
        -- the row rounds of the first system, then those of the second
        λ sh. section R.bin.log_rows
        (λ e. cond good [] (outer R.bin tb R.bin.log_rows (sh ++ e) (elements_from (8 * s + 4 * length e) 4 w)))
        λ rb. section R.fld.log_rows
        (λ e. cond good (outer R.fld tf R.fld.log_rows (sh ++ e) (elements_from (8 * s + 4 * R.bin.log_rows + 4 * length e) 4 w)) [])
        -- alpha
        λ rf. section 6 (alpha_list F (six_at (8 * s + 4 * R.bin.log_rows + 4 * R.fld.log_rows) w) (true_terminals F R xs ws sh rb rf))
        -- the inner rounds
        λ al e. bad_challenges F (table_rounds F (inner_cells F))
        (record { tops = 0; lows = suc R.log_half; cells = zip_inner F (combo F R rb rf al) (folded F R xs ws sh) }) e
        (elements_from (8 * s + 4 * R.bin.log_rows + 4 * R.fld.log_rows + 6 + 3 * length e) 3 w)

    -- the list of the draw that comes after the given draws; where the batch keeps the first system, the lists follow the second
    abbrev pub lists : List K → List K
    lists = lists_of (bin_good F R xs ws)

  -- c messages of n elements, each st elements after the one before
  abbrev pub rounds : ℕ → ℕ → ℕ → List K → List (List K)
  rounds zero st n w = []
  rounds (suc c) st n w = take n w ∷ rounds c st n (drop st w)

  -- the proof taken apart
  abbrev pub proof_of : ℕ → Relation F → List K → Proof F
  proof_of s R w = record {
    bin_ms = rounds s 8 4 w ++ rounds R.bin.log_rows 4 4 (drop (8 * s) w);
    fld_ms = rounds s 8 4 (drop 4 w) ++ rounds R.fld.log_rows 4 4 (drop (8 * s + 4 * R.bin.log_rows) w);
    ab = get_or w (8 * s + 4 * R.bin.log_rows + 4 * R.fld.log_rows) 𝟎;
    bb = get_or w (8 * s + 4 * R.bin.log_rows + 4 * R.fld.log_rows + 1) 𝟎;
    cb = get_or w (8 * s + 4 * R.bin.log_rows + 4 * R.fld.log_rows + 2) 𝟎;
    af = get_or w (8 * s + 4 * R.bin.log_rows + 4 * R.fld.log_rows + 3) 𝟎;
    bf = get_or w (8 * s + 4 * R.bin.log_rows + 4 * R.fld.log_rows + 4) 𝟎;
    cf = get_or w (8 * s + 4 * R.bin.log_rows + 4 * R.fld.log_rows + 5) 𝟎;
    inner_ms = rounds (suc R.log_half) 3 3 (drop (8 * s + 4 * R.bin.log_rows + 4 * R.fld.log_rows + 6) w);
    vz = get_or w (8 * s + 4 * R.bin.log_rows + 4 * R.fld.log_rows + 6 + 3 * suc R.log_half) 𝟎;
    values = drop (8 * s + 4 * R.bin.log_rows + 4 * R.fld.log_rows + 7 + 3 * suc R.log_half) w;
  }

  -- the draws in the order in which they are drawn
  abbrev pub drawn : Draws F → List K
  drawn D = D.tau_bin ++ (D.tau_fld ++ (D.shared ++ (D.row_bin ++ (D.row_fld ++ (D.alpha ++ inner F D)))))
