-- Runs that show what the branches of the theorem on an accepted run are for, computed from the definitions: a batch that is not good,
-- accepted at one list of draws and refused at another, where no draw is bad.
-- Assumes nothing.
use mathlib.Core.Path.{◌≡◌, refl, ap, ◌∙◌, subst}
use mathlib.Core.List.Memᴰ
use mathlib.Core.List.{List, [], ◌∷◌, map, Memᴰ}
use mathlib.Core.Logic.{◌⊎◌, inl, inr}
use Prim.Native.Nat.{ℕ, zero, suc, ◌^◌, ◌≤◌, ◌<◌}
use native.Mathlib.Decide.{ℕ_discrete}
use native.Mathlib.Nat.{le_refl}
use native.Mathlib.Omega.{arith}
use lib.Dec.{lit<}
use lib.ListN.{get_or, take}
use Rattle.magnetar_field.specs.Gf128.{◌⊕◌, ◌⊗◌, sum_times, times_x}
use Rattle.magnetar_field.specs.Sizes.{log₂, halvings}
use Rattle.magnetar_field.specs.Tabulate.{tabulate}
use Rattle.magnetar_field.specs.Polynomial.{eval, keep, roots_below, roots}
use Rattle.magnetar_multilinear.specs.EqTable.{eq_factor, eq_at, eq_table}
use Rattle.magnetar_multilinear.specs.Multilinear.{dot, mle}
use Rattle.magnetar_sumcheck_verifier.specs.Sum.{total}
use Rattle.magnetar_sumcheck_verifier.specs.Round.{check_sum, holds, running}
use Rattle.magnetar_sumcheck_verifier.specs.Order.{eq_points}
use Rattle.magnetar_sumcheck_verifier.specs.Outer.{outer_end}
use Rattle.magnetar_sumcheck_verifier.specs.Inner.{inner_end}
use Rattle.magnetar_layout.specs.Layout.{next_multiple, offsets_from, offsets}
use Rattle.magnetar_matrix.specs.Sum.{sum_below}
use Rattle.magnetar_matrix.specs.Matrix.{Matrix, System, sum_over, row_total, share, times_at, times, transpose, mle_table}
use Rattle.magnetar_matrix.specs.Combined.{combined_table}
use Rattle.magnetar_matrix.specs.Batch.{Relation, Batch, PublicColumns, assignment, public_folded_at, public_folded, Satisfied, Good}
use Rattle.magnetar_theory.specs.Lists.{section, lists_of}
use Rattle.magnetar_theory.specs.Gf128.{number, element, element_sum, element_product, same, roots_of}
use Rattle.magnetar_theory.proofs.Gf128.{number_of}
use Rattle.magnetar_protocol.specs.Proof.{bin_messages, fld_messages, terminals, inner_rounds, value_z, segment_values}
use Rattle.magnetar_protocol.specs.Draws.{draws_of, login_point, low_point, top_element}
use Rattle.magnetar_protocol.specs.Checks.{round_holds, inner_claim, combined, segment_sum, shared_checks, row_checks, terminal_checks, inner_checks, identity_check, checks, first_failure}
use Rattle.magnetar_protocol.specs.Run.{verdict}
use Rattle.magnetar_protocol.specs.Soundness.{bad_draws, absorbed_before, BadDraw}

-- ---- a bad draw: m = 2, q = 1, the bin row 1 1 = 0, which no batch keeps, and no segment
abbrev empty : ℕ → Matrix
empty m = record { rows = 1; cols = m; entries = [] }

abbrev pub empties : ℕ → System
empties m = record { a = empty m; b = empty m; c = empty m }

-- one row that reads the column of 1
abbrev reads : Matrix
reads = record { rows = 1; cols = 2; entries = record { row = 0; col = 1; value = 1 } ∷ [] }

abbrev pub lie : Relation
lie = record { m = 2; q = 1; bin = record { a = reads; b = reads; c = empty 2 }; fld = empties 2; lengths = [] }

abbrev pub lie_batch : Batch
lie_batch = (0 ∷ []) ∷ []

-- there is no public column
abbrev pub lie_columns : PublicColumns
lie_columns = [] ∷ []

-- what the prover says: the terminals 1, 1 and 1, of which the third should be 0; then an inner message of zeros, and v_z
abbrev pub lie_words : List ℕ
lie_words = 1 ∷ 1 ∷ 1 ∷ 0 ∷ 0 ∷ 0 ∷ 0 ∷ 0 ∷ 0 ∷ 7 ∷ []

-- six alphas, and the challenge of the inner round
abbrev pub zeros : List ℕ
zeros = 0 ∷ 0 ∷ 0 ∷ 0 ∷ 0 ∷ 0 ∷ 7 ∷ []

abbrev pub others : List ℕ
others = 1 ∷ 2 ∷ 3 ∷ 4 ∷ 5 ∷ 6 ∷ 7 ∷ []

pub lie-not-good : Good lie lie_batch lie_columns → ⊥
unfolding Satisfied assignment times_at row_total sum_over share ◌⊗◌ ◌⊕◌ sum_times times_x
lie-not-good g = let e : ◌≡◌ {A = ℕ} 1 0 = g.bin 0 0 (lit< tt) (lit< tt) in omega arith

-- accepted where all alphas are 0, refused with 28 at the others
pub lie-answers : map (verdict lie lie_columns lie_words) (zeros ∷ others ∷ []) ≡ 0 ∷ 28 ∷ []
unfolding log₂ halvings ◌⊕◌ ◌⊗◌ sum_times times_x tabulate eval eq_factor eq_at eq_table dot mle total check_sum holds running
    eq_points outer_end inner_end sum_over row_total share times_at times transpose mle_table sum_below public_folded_at public_folded next_multiple offsets_from offsets
    bin_messages fld_messages terminals inner_rounds value_z segment_values draws_of login_point low_point top_element round_holds
    inner_claim combined combined_table segment_sum shared_checks row_checks terminal_checks inner_checks identity_check checks first_failure
    verdict
lie-answers = refl

-- ---- at the other draws none is bad
-- the roots of a polynomial, as the lists have them
abbrev root_list : List ℕ → List ℕ
root_list cs = map number (map element (roots cs))

kept : (cs : List ℕ) (v n : ℕ) → n < 2 ^ 128 → (t : Dec (eval cs n ≡ 0)) (l : List ℕ)
    → (Memᴰ v (map number (map element l)) → eval cs v ≡ 0) → Memᴰ v (map number (map element (keep t n l))) → eval cs v ≡ 0
unfolding keep
kept cs v n h (yes p) l f m = pick (Memᴰ.cases_cons m)
  where
    pick : (v ≡ number (element n)) ⊎ Memᴰ v (map number (map element l)) → eval cs v ≡ 0
    pick (inl e) = ap (eval cs) (e ∙ number_of n h) ∙ p
    pick (inr m) = f m
kept cs v n h (no p) l f m = f m

less : (n k : ℕ) → n < k → n ≤ k
less n k h = omega arith

roots-to : (cs : List ℕ) (v n : ℕ) → n ≤ 2 ^ 128 → Memᴰ v (map number (map element (roots_below cs n))) → eval cs v ≡ 0
unfolding roots_below
roots-to cs v zero h m = absurd (Memᴰ.not-nil m)
roots-to cs v (suc n) h m =
    kept cs v n h (ℕ_discrete (eval cs n) 0) (roots_below cs n) (λ k. roots-to cs v n (less n (2 ^ 128) h) k) m

a-root : (cs : List ℕ) (v : ℕ) → Memᴰ v (root_list cs) → eval cs v ≡ 0
unfolding roots
a-root cs v m = roots-to cs v (2 ^ 128) (le_refl (2 ^ 128)) m

-- the list of draw k
abbrev list_at : ℕ → List ℕ
list_at k = bad_draws lie lie_batch lie_columns (take (absorbed_before lie k) lie_words) (take k others)

-- the third alpha has the root of X, the inner challenge those of 3 X^2; the other lists are empty
abbrev expected : List (List ℕ)
expected = [] ∷ [] ∷ root_list (0 ∷ 1 ∷ []) ∷ [] ∷ [] ∷ [] ∷ root_list (0 ∷ 0 ∷ 3 ∷ []) ∷ []

pub other-lists : map list_at (0 ∷ 1 ∷ 2 ∷ 3 ∷ 4 ∷ 5 ∷ 6 ∷ []) ≡ expected
unfolding bad_draws absorbed_before log₂ halvings section lists_of number element element_sum element_product same roots_of ◌⊕◌ ◌⊗◌
    sum_times times_x
other-lists = refl

-- so no draw lies in its list: 3 is no root of X, and 7 none of 3 X^2
values : (eval (0 ∷ 1 ∷ []) 3 ≡ 3) × (eval (0 ∷ 0 ∷ 3 ∷ []) 7 ≡ 63)
unfolding eval ◌⊕◌ ◌⊗◌ sum_times times_x
values = (refl, refl)

unlisted : (k : ℕ) → k < 7 → Memᴰ (get_or others k 0) (get_or expected k []) → ⊥
unlisted zero h m = Memᴰ.not-nil m
unlisted (suc zero) h m = Memᴰ.not-nil m
unlisted (suc (suc zero)) h m = omega (arith, a-root (0 ∷ 1 ∷ []) 3 m, values.0)
unlisted (suc (suc (suc zero))) h m = Memᴰ.not-nil m
unlisted (suc (suc (suc (suc zero)))) h m = Memᴰ.not-nil m
unlisted (suc (suc (suc (suc (suc zero))))) h m = Memᴰ.not-nil m
unlisted (suc (suc (suc (suc (suc (suc zero)))))) h m = omega (arith, a-root (0 ∷ 0 ∷ 3 ∷ []) 7 m, values.1)
unlisted (suc (suc (suc (suc (suc (suc (suc k))))))) h m = absurd (omega arith)

pub other-not-bad : BadDraw lie lie_batch lie_columns lie_words others → ⊥
other-not-bad (k, h, s, m) = unlisted k h (subst (Memᴰ (get_or others k 0)) (listed k h) m)
  where
    from : (k : ℕ) → k < 7 → list_at k ≡ get_or (map list_at (0 ∷ 1 ∷ 2 ∷ 3 ∷ 4 ∷ 5 ∷ 6 ∷ [])) k []
    from zero h = refl
    from (suc zero) h = refl
    from (suc (suc zero)) h = refl
    from (suc (suc (suc zero))) h = refl
    from (suc (suc (suc (suc zero)))) h = refl
    from (suc (suc (suc (suc (suc zero))))) h = refl
    from (suc (suc (suc (suc (suc (suc zero)))))) h = refl
    from (suc (suc (suc (suc (suc (suc (suc k))))))) h = absurd (omega arith)

    listed : (k : ℕ) → k < 7 → list_at k ≡ get_or expected k []
    listed k h = from k h ∙ ap (λ (l : List (List ℕ)). get_or l k []) other-lists
