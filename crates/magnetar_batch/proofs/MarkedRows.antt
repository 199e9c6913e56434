-- Document 01's marked rows, by computation.
-- Assumes nothing.
use mathlib.Core.Path.{refl}
use Rattle.magnetar_field.specs.Gf128.{◌⊕◌, ◌⊗◌, times_x, sum_times}
use Rattle.magnetar_field.specs.Sizes.{log₂, halvings}
use Rattle.magnetar_field.specs.Tabulate.{tabulate}
use Rattle.magnetar_field.specs.Words.{elements, words}
use Rattle.magnetar_multilinear.specs.EqTable.{eq_table, eq_table_from, eq_at, eq_factor}
use Rattle.magnetar_multilinear.specs.Entries.{eq_refusal}
use Rattle.magnetar_layout.specs.Every.{every}
use Rattle.magnetar_layout.specs.Login.{login_words}
use Rattle.magnetar_layout.specs.Layout.{next_multiple, offsets_from, end_from, offsets, layout_end, is_length}
use Rattle.magnetar_layout.specs.Tests.{or_refuse, is_size}
use Rattle.magnetar_layout.specs.Entries.{build_refusal}
use Rattle.magnetar_matrix.specs.Sum.{sum_below, blocks}
use Rattle.magnetar_matrix.specs.Matrix.{sum_over, row_total, share, times_at, times, transpose, mle_table, bit_valued}
use Rattle.magnetar_matrix.specs.Lent.{entries_of, matrix_of}
use Rattle.magnetar_matrix.specs.Batch.{assignment, batch_products, bit_of, folded_at, folded}
use Rattle.magnetar_matrix.specs.Packed.{packed_bit, login_part, public_part, unpacked, public_of, packed_table}
use Rattle.magnetar_r1cs.specs.Entries.{packed_refusal, table_refusal}
use Rattle.magnetar_batch.specs.Entries.{fold_refusal}
use Rattle.magnetar_batch.specs.MarkedRows.{table, MarkedRows}

pub marked : MarkedRows
unfolding table ◌⊕◌ ◌⊗◌ times_x sum_times log₂ halvings tabulate elements words eq_table eq_table_from eq_at eq_factor eq_refusal every login_words
    next_multiple offsets_from end_from offsets layout_end is_length or_refuse is_size build_refusal sum_below blocks sum_over row_total share
    times_at times transpose mle_table bit_valued entries_of matrix_of assignment bit_of folded_at folded packed_bit login_part public_part unpacked
    public_of packed_table packed_refusal table_refusal fold_refusal batch_products
marked = refl
