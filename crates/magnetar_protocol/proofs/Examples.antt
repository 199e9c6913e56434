-- Small runs, computed from the definitions.
-- Assumes nothing.
use mathlib.Core.Path.{◌≡◌, refl}
use mathlib.Core.List.{List, [], ◌∷◌, map}
use Prim.Native.Nat.{ℕ}
use lib.ListN.{get_or, set}
use Rattle.magnetar_field.specs.Gf128.{◌⊕◌, ◌⊗◌, sum_times, times_x}
use Rattle.magnetar_field.specs.Sizes.{log₂, halvings}
use Rattle.magnetar_field.specs.Tabulate.{tabulate}
use Rattle.magnetar_field.specs.Polynomial.{eval}
use Rattle.magnetar_multilinear.specs.EqTable.{eq_factor, eq_at, eq_table}
use Rattle.magnetar_multilinear.specs.Multilinear.{dot, mle, line, insert_zero, bind_var}
use Rattle.magnetar_sumcheck_verifier.specs.Sum.{total}
use Rattle.magnetar_sumcheck_verifier.specs.Round.{check_sum, holds, running}
use Rattle.magnetar_sumcheck_verifier.specs.Order.{eq_points, next_var, at₀, at₁, slope}
use Rattle.magnetar_sumcheck_verifier.specs.Outer.{outer_end, coefficient₀, coefficient₁, coefficient₂, weighted, times_eq, outer_message, drop_var}
use Rattle.magnetar_sumcheck_verifier.specs.Inner.{inner_end, inner_sums, inner_message}
use Rattle.magnetar_sumcheck_verifier.specs.Messages.{outer_next, outer_fold, outer_start, outer_messages, inner_messages}
use Rattle.magnetar_matrix.specs.Sum.{sum_below, blocks}
use Rattle.magnetar_matrix.specs.Matrix.{Matrix, System, sum_over, row_total, share, times_at, times, transpose, mle_table}
use Rattle.magnetar_matrix.specs.Combined.{combined_table}
use Rattle.magnetar_matrix.specs.Batch.{Relation, PublicColumns, batch_products, bit_of, assignment, folded_at, folded, public_folded_at, public_folded, claim_value}
use Rattle.magnetar_layout.specs.Layout.{next_multiple, offsets_from, offsets}
use Rattle.magnetar_protocol.specs.Shape.{proof_elements}
use Rattle.magnetar_protocol.specs.Proof.{bin_messages, fld_messages, terminals, inner_rounds, value_z, segment_values}
use Rattle.magnetar_protocol.specs.Draws.{draws_of, login_point, low_point, top_element}
use Rattle.magnetar_protocol.specs.Checks.{round_holds, inner_claim, combined, segment_sum, shared_checks, row_checks, terminal_checks, inner_checks, identity_check, checks, first_failure}
use Rattle.magnetar_protocol.specs.Run.{verdict, true_value}
use Rattle.magnetar_protocol.specs.Prover.{joined, interleaved, true_values, product_table, outer_rounds, terminal_values, folded_z, honest_proof, prover_proof}

-- ---- m = 2, q = 1, one empty row in each matrix, no segment
abbrev empty : Matrix
empty = record { rows = 1; cols = 2; entries = [] }

abbrev empties : System
empties = record { a = empty; b = empty; c = empty }

abbrev least : Relation
least = record { m = 2; q = 1; bin = empties; fld = empties; lengths = [] }

abbrev draws : List ℕ
draws = 1 ∷ 2 ∷ 3 ∷ 4 ∷ 5 ∷ 6 ∷ 7 ∷ []

-- a proof has 10 elements; the last is v_z
pub ten : proof_elements least ≡ 10
unfolding log₂ halvings
ten = refl

pub least-words : prover_proof least ((0 ∷ []) ∷ []) ([] ∷ []) draws ≡ 0 ∷ 0 ∷ 0 ∷ 0 ∷ 0 ∷ 0 ∷ 0 ∷ 0 ∷ 0 ∷ 7 ∷ []
unfolding log₂ halvings ◌⊕◌ ◌⊗◌ sum_times times_x tabulate eq_factor eq_at eq_table dot mle line insert_zero bind_var at₀ at₁
    slope inner_sums inner_message next_var coefficient₀ coefficient₁ coefficient₂ weighted times_eq outer_message drop_var
    outer_next outer_fold outer_start outer_messages inner_messages sum_below blocks sum_over row_total share times_at times transpose
    mle_table bit_of assignment folded_at folded public_folded_at public_folded claim_value next_multiple offsets_from offsets draws_of login_point low_point
    top_element combined combined_table true_value joined interleaved true_values product_table batch_products outer_rounds terminal_values folded_z honest_proof
    prover_proof
least-words = refl

-- accepted; and with one bit of v_z flipped refused with 29
pub least-accepted : verdict least ([] ∷ []) (0 ∷ 0 ∷ 0 ∷ 0 ∷ 0 ∷ 0 ∷ 0 ∷ 0 ∷ 0 ∷ 7 ∷ []) draws ≡ 0
unfolding log₂ halvings ◌⊕◌ ◌⊗◌ sum_times times_x tabulate eval eq_factor eq_at eq_table dot mle total check_sum holds running
    eq_points outer_end inner_end sum_over row_total share times_at times transpose mle_table sum_below public_folded_at public_folded next_multiple offsets_from offsets
    bin_messages fld_messages terminals inner_rounds value_z segment_values draws_of login_point low_point top_element round_holds
    inner_claim combined combined_table segment_sum shared_checks row_checks terminal_checks inner_checks identity_check checks first_failure
    verdict
least-accepted = refl

pub least-refused : verdict least ([] ∷ []) (0 ∷ 0 ∷ 0 ∷ 0 ∷ 0 ∷ 0 ∷ 0 ∷ 0 ∷ 0 ∷ 6 ∷ []) draws ≡ 29
unfolding log₂ halvings ◌⊕◌ ◌⊗◌ sum_times times_x tabulate eval eq_factor eq_at eq_table dot mle total check_sum holds running
    eq_points outer_end inner_end sum_over row_total share times_at times transpose mle_table sum_below public_folded_at public_folded next_multiple offsets_from offsets
    bin_messages fld_messages terminals inner_rounds value_z segment_values draws_of login_point low_point top_element round_holds
    inner_claim combined combined_table segment_sum shared_checks row_checks terminal_checks inner_checks identity_check checks first_failure
    verdict
least-refused = refl

-- ---- m = 4, q = 2: two rows that say that each bit is a bit, the rows 1 x = 5 + 12 w1 and 1 1 = 1, and a segment of both bits. So a login
-- has the public column 5, or 9 where its second bit is set
-- two rows, with a one in column k of the first and in column l of the second
abbrev columns : ℕ → ℕ → Matrix
columns k l = record { rows = 2; cols = 4; entries = record { row = 0; col = k; value = 1 } ∷ record { row = 1; col = l; value = 1 } ∷ [] }

abbrev marks : Matrix
marks = record {
  rows = 2;
  cols = 4;
  entries = record { row = 0; col = 2; value = 5 } ∷ record { row = 0; col = 1; value = 12 } ∷ record { row = 1; col = 2; value = 1 } ∷ [];
}

abbrev pub small : Relation
small = record {
  m = 4;
  q = 2;
  bin = record { a = columns 0 1; b = columns 0 1; c = columns 0 1 };
  fld = record { a = columns 2 2; b = columns 3 2; c = marks };
  lengths = 2 ∷ [];
}

abbrev pub small_draws : List ℕ
small_draws = 17 ∷ 35 ∷ 70 ∷ 5 ∷ 6 ∷ 7 ∷ 8 ∷ 9 ∷ 10 ∷ 11 ∷ 12 ∷ 13 ∷ 14 ∷ 15 ∷ 16 ∷ []

abbrev pub small_batch : List (List ℕ)
small_batch = (1 ∷ 0 ∷ []) ∷ (1 ∷ 1 ∷ []) ∷ []

abbrev pub small_columns : PublicColumns
small_columns = (5 ∷ []) ∷ (9 ∷ []) ∷ []

-- the columns of the two logins, exchanged
abbrev pub exchanged : PublicColumns
exchanged = (9 ∷ []) ∷ (5 ∷ []) ∷ []

abbrev small_words : List ℕ
small_words = prover_proof small small_batch small_columns small_draws

-- the honest proof, with 1 added to element j
abbrev flipped : ℕ → List ℕ
flipped j = set small_words j (get_or small_words j 0 ⊕ 1)

abbrev answer : ℕ → ℕ
answer j = verdict small small_columns (flipped j) small_draws

-- one element of the honest proof changed: each of 21 to 29 is met
pub changed : map answer (0 ∷ 1 ∷ 4 ∷ 5 ∷ 8 ∷ 9 ∷ 12 ∷ 13 ∷ 18 ∷ 21 ∷ 22 ∷ 23 ∷ 25 ∷ 28 ∷ 29 ∷ [])
    ≡ 23 ∷ 21 ∷ 24 ∷ 22 ∷ 25 ∷ 23 ∷ 26 ∷ 24 ∷ 25 ∷ 26 ∷ 27 ∷ 27 ∷ 28 ∷ 28 ∷ 29 ∷ []
unfolding log₂ halvings ◌⊕◌ ◌⊗◌ sum_times times_x tabulate eval eq_factor eq_at eq_table dot mle line insert_zero bind_var
    total check_sum holds running eq_points at₀ at₁ slope outer_end inner_end inner_sums inner_message next_var coefficient₀
    coefficient₁ coefficient₂ weighted times_eq outer_message drop_var outer_next outer_fold outer_start outer_messages
    inner_messages sum_below blocks sum_over row_total share times_at times transpose mle_table bit_of assignment folded_at folded public_folded_at public_folded
    claim_value next_multiple offsets_from offsets bin_messages fld_messages terminals inner_rounds value_z segment_values draws_of
    login_point low_point top_element round_holds inner_claim combined combined_table segment_sum shared_checks row_checks terminal_checks
    inner_checks identity_check checks first_failure verdict true_value joined interleaved true_values product_table batch_products outer_rounds
    terminal_values folded_z honest_proof prover_proof
changed = refl

-- the honest proof, with the columns of each login, with those exchanged, and with those of the first login for both
pub own-columns : map (λ (x : PublicColumns). verdict small x small_words small_draws) (small_columns ∷ exchanged ∷ ((5 ∷ []) ∷ (5 ∷ []) ∷ []) ∷ [])
    ≡ 0 ∷ 29 ∷ 29 ∷ []
unfolding log₂ halvings ◌⊕◌ ◌⊗◌ sum_times times_x tabulate eval eq_factor eq_at eq_table dot mle line insert_zero bind_var
    total check_sum holds running eq_points at₀ at₁ slope outer_end inner_end inner_sums inner_message next_var coefficient₀
    coefficient₁ coefficient₂ weighted times_eq outer_message drop_var outer_next outer_fold outer_start outer_messages
    inner_messages sum_below blocks sum_over row_total share times_at times transpose mle_table bit_of assignment folded_at folded public_folded_at public_folded
    claim_value next_multiple offsets_from offsets bin_messages fld_messages terminals inner_rounds value_z segment_values draws_of
    login_point low_point top_element round_holds inner_claim combined combined_table segment_sum shared_checks row_checks terminal_checks
    inner_checks identity_check checks first_failure verdict true_value joined interleaved true_values product_table batch_products outer_rounds
    terminal_values folded_z honest_proof prover_proof
own-columns = refl
