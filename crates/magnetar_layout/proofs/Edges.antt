-- The tests at their edges, computed: document 01's limits, not one less and not one more.
-- Assumes nothing.
use mathlib.Core.Path.{◌≡◌, refl}
use mathlib.Core.List.{List, [], ◌∷◌, map}
use Prim.Native.Nat.{ℕ}
use lib.ListN.{replicate}
use Rattle.magnetar_field.specs.Sizes.{log₂, halvings}
use Rattle.magnetar_layout.specs.Every.{every}
use Rattle.magnetar_layout.specs.Layout.{next_multiple, end_from, layout_end, is_length}
use Rattle.magnetar_layout.specs.Tests.{or_refuse, first_refusal, is_size, column_tests, size_tests, lone_row_tests, rows_tests, layout_tests, room_test_of}

-- 15: where six words are wanted, six are enough, and five are not
pub room-edge : map (λ (k : ℕ). first_refusal 0 (room_test_of 6 k)) (5 ∷ 6 ∷ 7 ∷ []) ≡ 15 ∷ 0 ∷ 0 ∷ []
unfolding or_refuse
room-edge = refl

-- 1: columns and logins
pub columns-edge : map (λ (m : ℕ). first_refusal 0 (column_tests m)) (0 ∷ 1 ∷ 2 ∷ 3 ∷ 65536 ∷ 131072 ∷ []) ≡ 1 ∷ 1 ∷ 0 ∷ 1 ∷ 0 ∷ 1 ∷ []
unfolding or_refuse is_size log₂ halvings
columns-edge = refl

pub logins-edge : map (λ (q : ℕ). first_refusal 0 (size_tests 2 q)) (0 ∷ 1 ∷ 3 ∷ 4096 ∷ 8192 ∷ []) ≡ 1 ∷ 0 ∷ 1 ∷ 0 ∷ 1 ∷ []
unfolding or_refuse is_size log₂ halvings
logins-edge = refl

-- 4: rows of a matrix alone; for 16 logins and for 32
pub lone-edge : map (λ (n : ℕ). first_refusal 0 (lone_row_tests n)) (0 ∷ 1 ∷ 3 ∷ 65536 ∷ 131072 ∷ []) ≡ 4 ∷ 0 ∷ 4 ∷ 0 ∷ 4 ∷ []
unfolding or_refuse is_size log₂ halvings
lone-edge = refl

pub rows-edge : map (λ (n : ℕ). first_refusal 0 (rows_tests 16 n)) (0 ∷ 1 ∷ 3 ∷ 65536 ∷ 131072 ∷ []) ≡ 4 ∷ 0 ∷ 4 ∷ 0 ∷ 4 ∷ []
unfolding or_refuse is_size log₂ halvings
rows-edge = refl

pub batch-edge : map (λ (n : ℕ). first_refusal 0 (rows_tests 32 n)) (32768 ∷ 65536 ∷ []) ≡ 0 ∷ 4 ∷ []
unfolding or_refuse is_size log₂ halvings
batch-edge = refl

-- 8, 9, 10: lengths 0, 3, 32 and 16 in 16 columns; one segment more than fits; 64 and 65 segments
pub layout-edge : map (λ (ns : List ℕ). first_refusal 0 (layout_tests 16 ns)) ((0 ∷ []) ∷ (3 ∷ []) ∷ (32 ∷ []) ∷ (16 ∷ []) ∷ (1 ∷ 8 ∷ 8 ∷ []) ∷ [])
    ≡ 8 ∷ 8 ∷ 8 ∷ 0 ∷ 9 ∷ []
unfolding or_refuse every is_length layout_end end_from next_multiple log₂ halvings
layout-edge = refl

pub segments-edge : map (λ (k : ℕ). first_refusal 0 (layout_tests 128 (replicate k 1))) (64 ∷ 65 ∷ []) ≡ 0 ∷ 10 ∷ []
unfolding or_refuse every is_length layout_end end_from next_multiple log₂ halvings
segments-edge = refl
