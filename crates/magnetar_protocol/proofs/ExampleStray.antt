-- Bits outside the segments, computed from the definitions: what the row check says of them, and what the verifier says of the honest proof.
-- Assumes nothing.
use mathlib.Core.Path.{◌≡◌, refl, ap}
use mathlib.Core.Bool.{true, false}
use mathlib.Core.List.{List, [], ◌∷◌, map}
use Prim.Native.Nat.{ℕ}
use lib.Dec.{lit<}
use lib.ListN.{get_or}
use Rattle.magnetar_field.specs.Gf128.{◌⊕◌, ◌⊗◌, sum_times, times_x}
use Rattle.magnetar_field.specs.Sizes.{log₂, halvings}
use Rattle.magnetar_field.specs.Tabulate.{tabulate}
use Rattle.magnetar_field.specs.Polynomial.{eval}
use Rattle.magnetar_multilinear.specs.EqTable.{eq_factor, eq_at, eq_table}
use Rattle.magnetar_multilinear.specs.Multilinear.{dot, mle, line, insert_zero, bind_var}
use Rattle.magnetar_sumcheck_verifier.specs.Sum.{total}
use Rattle.magnetar_sumcheck_verifier.specs.Round.{check_sum, holds, running}
use Rattle.magnetar_sumcheck_verifier.specs.Order.{eq_points, next_var, at₀, at₁, slope}
use Rattle.magnetar_sumcheck_verifier.specs.Outer.{outer_end, coefficient₀, coefficient₁, coefficient₂, weighted, times_eq, outer_message, drop_var}
use Rattle.magnetar_sumcheck_verifier.specs.Inner.{inner_end, inner_sums, inner_message}
use Rattle.magnetar_sumcheck_verifier.specs.Messages.{outer_next, outer_fold, outer_start, outer_messages, inner_messages}
use Rattle.magnetar_layout.specs.Layout.{next_multiple, offsets_from, offsets, within, outside}
use Rattle.magnetar_matrix.specs.Sum.{sum_below, blocks}
use Rattle.magnetar_matrix.specs.Matrix.{Matrix, sum_over, row_total, share, times_at, times, transpose, mle_table}
use Rattle.magnetar_matrix.specs.Combined.{combined_table}
use Rattle.magnetar_matrix.specs.Batch.{Relation, Batch, PublicColumns, batch_products, bit_of, assignment, folded_at, folded, public_folded_at, public_folded, claim_value, row_holds, Satisfied, Good}
use Rattle.magnetar_matrix.specs.RowCheck.{first_not, in_place, stray_column, stray_login, failing_row, failing_login, Verdict, systems_verdict, row_verdict, FirstStray}
use Rattle.magnetar_matrix.specs.RowCheck.Verdict.{good, stray, bin}
use Rattle.magnetar_matrix.proofs.Verdicts.{satisfied, verdict-good}
use Rattle.magnetar_matrix.proofs.StrayVerdict.{stray-means}
use Rattle.magnetar_protocol.specs.Proof.{bin_messages, fld_messages, terminals, inner_rounds, value_z, segment_values}
use Rattle.magnetar_protocol.specs.Draws.{draws_of, login_point, low_point, top_element}
use Rattle.magnetar_protocol.specs.Checks.{round_holds, inner_claim, combined, segment_sum, shared_checks, row_checks, terminal_checks, inner_checks, identity_check, checks, first_failure}
use Rattle.magnetar_protocol.specs.Run.{verdict, true_value}
use Rattle.magnetar_protocol.specs.Prover.{joined, interleaved, true_values, product_table, outer_rounds, terminal_values, folded_z, honest_proof, prover_proof}

-- ---- two logins of 8 columns, m = 16; segments of 1 and of 2
-- one row that reads column y; column 8 is that of 1, and columns 9 to 15 are public
abbrev reads : ℕ → Matrix
reads y = record { rows = 1; cols = 16; entries = record { row = 0; col = y; value = 1 } ∷ [] }

abbrev nothing : Matrix
nothing = record { rows = 1; cols = 16; entries = [] }

-- bin: bit 0 is clear; fld: bit 2 is the login's first public column
abbrev gapped : Relation
gapped = record {
  m = 16;
  q = 2;
  bin = record { a = reads 0; b = reads 8; c = nothing };
  fld = record { a = reads 2; b = reads 8; c = reads 9 };
  lengths = 1 ∷ 2 ∷ [];
}

-- column 1 lies between the segments, columns 4 to 7 behind them
pub gap : map (outside gapped.lengths) (0 ∷ 1 ∷ 2 ∷ 3 ∷ 4 ∷ 5 ∷ 6 ∷ 7 ∷ [])
    ≡ false ∷ true ∷ false ∷ false ∷ true ∷ true ∷ true ∷ true ∷ []
unfolding outside within offsets offsets_from next_multiple
gap = refl

abbrev columns : PublicColumns
columns = (1 ∷ 0 ∷ 0 ∷ 0 ∷ 0 ∷ 0 ∷ 0 ∷ []) ∷ (0 ∷ 0 ∷ 0 ∷ 0 ∷ 0 ∷ 0 ∷ 0 ∷ []) ∷ []

-- the bits of a login
abbrev bits : (y₀ y₁ y₂ y₃ y₄ y₅ y₆ y₇ : ℕ) → List ℕ
bits y₀ y₁ y₂ y₃ y₄ y₅ y₆ y₇ = y₀ ∷ y₁ ∷ y₂ ∷ y₃ ∷ y₄ ∷ y₅ ∷ y₆ ∷ y₇ ∷ []

-- no bit outside, and both rows hold
abbrev kept : Batch
kept = bits 0 0 1 0 0 0 0 0 ∷ bits 0 0 0 1 0 0 0 0 ∷ []

-- the same with a bit in the gap, of login 1
abbrev strayed : Batch
strayed = bits 0 0 1 0 0 0 0 0 ∷ bits 0 1 0 1 0 0 0 0 ∷ []

-- ---- the row check
abbrev told : Batch → Verdict
told b = row_verdict gapped b columns

-- the first batch is good; of the second the bit's login and column are told
pub gap-told : told kept ∷ told strayed ∷ [] ≡ good ∷ stray 1 1 ∷ []
unfolding outside within offsets offsets_from next_multiple bit_of assignment row_holds times_at row_total sum_over share ◌⊗◌ ◌⊕◌ sum_times times_x
    first_not in_place stray_column stray_login failing_row failing_login systems_verdict row_verdict
gap-told = refl

pub gap-good : Good gapped kept columns
gap-good = verdict-good gapped kept columns (ap (λ (l : List Verdict). get_or l 0 good) gap-told)

pub gap-stray : FirstStray gapped strayed 1 1
gap-stray = stray-means gapped strayed columns 1 1 (ap (λ (l : List Verdict). get_or l 1 good) gap-told)

pub gap-not-good : Good gapped strayed columns → ⊥
gap-not-good g = gap-stray.set (g.clear 1 1 (lit< tt) (lit< tt) gap-stray.out)

-- every row of both systems holds all the same
pub gap-rows : Satisfied gapped.bin 2 strayed columns × Satisfied gapped.fld 2 strayed columns
unfolding assignment row_holds times_at row_total sum_over share ◌⊗◌ ◌⊕◌ sum_times times_x first_not failing_row failing_login
gap-rows = (satisfied gapped.bin 2 strayed columns refl, satisfied gapped.fld 2 strayed columns refl)

-- of two bits the one of the lower login is told, though its column is the higher one; of two in a login the lower one
pub two-told :
    told (bits 0 0 1 0 0 0 0 1 ∷ bits 0 1 0 1 0 0 0 0 ∷ []) ∷ told (bits 0 0 1 0 0 0 0 0 ∷ bits 0 0 0 1 0 1 1 0 ∷ []) ∷ []
    ≡ stray 0 7 ∷ stray 1 5 ∷ []
unfolding outside within offsets offsets_from next_multiple bit_of first_not in_place stray_column stray_login row_verdict
two-told = refl

-- a bit of login 1 is told before a bin row that fails for login 0; this row is told where it stands alone
pub row_told :
    told (bits 1 0 1 0 0 0 0 0 ∷ bits 0 1 0 1 0 0 0 0 ∷ []) ∷ told (bits 1 0 1 0 0 0 0 0 ∷ bits 0 0 0 1 0 0 0 0 ∷ []) ∷ []
    ≡ stray 1 1 ∷ bin 0 0 ∷ []
unfolding outside within offsets offsets_from next_multiple bit_of assignment row_holds times_at row_total sum_over share ◌⊗◌ ◌⊕◌ sum_times times_x
    first_not in_place stray_column stray_login failing_row failing_login systems_verdict row_verdict
row_told = refl

-- ---- the verifier
abbrev draws : List ℕ
draws = 1 ∷ 2 ∷ 3 ∷ 4 ∷ 5 ∷ 6 ∷ 7 ∷ 8 ∷ 9 ∷ 10 ∷ 11 ∷ 12 ∷ 13 ∷ []

-- the honest proof is accepted without the bit and refused with 29 with it: no segment value tells of this bit
pub gap-answers : map (λ (b : Batch). verdict gapped columns (prover_proof gapped b columns draws) draws) (kept ∷ strayed ∷ []) ≡ 0 ∷ 29 ∷ []
unfolding log₂ halvings ◌⊕◌ ◌⊗◌ sum_times times_x tabulate eval eq_factor eq_at eq_table dot mle line insert_zero bind_var
    total check_sum holds running eq_points at₀ at₁ slope outer_end inner_end inner_sums inner_message next_var coefficient₀
    coefficient₁ coefficient₂ weighted times_eq outer_message drop_var outer_next outer_fold outer_start outer_messages
    inner_messages sum_below blocks sum_over row_total share times_at times transpose mle_table bit_of assignment folded_at folded public_folded_at public_folded
    claim_value next_multiple offsets_from offsets bin_messages fld_messages terminals inner_rounds value_z segment_values draws_of
    login_point low_point top_element round_holds inner_claim combined combined_table segment_sum shared_checks row_checks terminal_checks
    inner_checks identity_check checks first_failure verdict true_value joined interleaved true_values product_table batch_products outer_rounds
    terminal_values folded_z honest_proof prover_proof
gap-answers = refl
