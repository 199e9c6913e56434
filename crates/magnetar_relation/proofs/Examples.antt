-- Small products, computed from the definitions.
-- Assumes nothing.
use mathlib.Core.Path.{◌≡◌, refl}
use mathlib.Core.List.{List, [], ◌∷◌}
use lib.ListN.{replicate}
use Rattle.magnetar_field.specs.Gf128.{◌⊗◌, times_x, sum_times, ◌⊕◌}
use Rattle.magnetar_field.specs.Tabulate.{tabulate}
use Rattle.magnetar_field.specs.Words.{elements, words}
use Rattle.magnetar_matrix.specs.Lent.{entry}
use Rattle.magnetar_matrix.specs.Matrix.{Entry, share}
use Rattle.magnetar_matrix.specs.Packed.{login_words, packed_bit, login_part, public_part, z_of}
use Rattle.magnetar_matrix.specs.Table.{added_at}
use Rattle.magnetar_relation.specs.Steps.{cleared_to, added_to, login_z}
use Rattle.magnetar_relation.specs.EntryWalks.{fold_entries}
use Rattle.magnetar_relation.specs.LoginSteps.{cleared_blocks, added_blocks, added_logins, products_in}

-- 1 at row 0 and column 2, which is where a login of two witness columns has its 1
abbrev one-entry : List Entry
one-entry = entry 0 2 1 0 ∷ []

-- three logins of which no word is lent, with two rows: each block has 1 at row 0, and 0 at row 1 where 7 stood
pub each-block : products_in 3 2 2 [] [] one-entry (replicate 12 7) ≡ 1 ∷ 0 ∷ 0 ∷ 0 ∷ 1 ∷ 0 ∷ 0 ∷ 0 ∷ 1 ∷ 0 ∷ 0 ∷ 0 ∷ []
unfolding ◌⊕◌ ◌⊗◌ times_x sum_times tabulate elements words share login_words packed_bit login_part public_part z_of added_at
    cleared_to added_to login_z fold_entries cleared_blocks added_blocks added_logins products_in
each-block = refl

-- one word less than the blocks have: it stays, and so do the others
pub short-stays : products_in 3 2 2 [] [] one-entry (replicate 11 7) ≡ replicate 11 7
unfolding cleared_to added_to fold_entries cleared_blocks added_blocks added_logins products_in
short-stays = refl
