-- The numbers of a relation, computed, and relations with other bytes. The first has m = 4, q = 1, one segment of 2 columns; bin has a row, with an
-- entry of the value 2^64 + 3 in A; fld has two rows and no entry.
-- Assumes nothing.
use Rattle.std.proofs.Common.{◌≡◌, ℕ, List, [], ◌∷◌, get_or, refl, ap, arith}
use mathlib.Core.List.{flat_map}
use Rattle.magnetar_hash.specs.Bytes.{le_bytes, word_bytes}
use Rattle.magnetar_matrix.specs.Lent.{entry}
use Rattle.magnetar_relation.specs.declared.shapes.Shape.{Shape}
use Rattle.magnetar_relation.specs.declared.shapes.SystemShape.{SystemShape}
use Rattle.magnetar_relation.specs.declared.shapes.Shapes.{Shapes}
use Rattle.magnetar_relation.specs.Rules.{rules_over}
use Rattle.magnetar_digest.specs.Digest.{relation_numbers, relation_bytes}

abbrev system : ℕ → ℕ → SystemShape
system n k = record {
  a = record { rows = n; cols = 4; entries = k };
  b = record { rows = n; cols = 4; entries = 0 };
  c = record { rows = n; cols = 4; entries = 0 };
}

pub numbers
    : relation_numbers (rules_over 4 1 (2 ∷ []) (record { bin = system 1 1; fld = system 2 0 }) (entry 0 3 3 1 ∷ []))
    ≡ 4 ∷ 1 ∷ 1 ∷ 2 ∷ 1 ∷ 4 ∷ 1 ∷ 1 ∷ 4 ∷ 0 ∷ 1 ∷ 4 ∷ 0 ∷ 2 ∷ 4 ∷ 0 ∷ 2 ∷ 4 ∷ 0 ∷ 2 ∷ 4 ∷ 0 ∷ 0 ∷ 3 ∷ 3 ∷ 1 ∷ []
unfolding relation_numbers flat_map
numbers = refl

-- ---- why the segments are counted: without their number these two would have the same bytes, those of 24 times 4
abbrev four : Shape
four = record { rows = 4; cols = 4; entries = 4 }

abbrev fours : Shapes
fours = record { bin = record { a = four; b = four; c = four }; fld = record { a = four; b = four; c = four } }

pub segments-counted
    : relation_bytes (rules_over 4 4 [] fours (entry 4 4 4 4 ∷ [])) ≡ relation_bytes (rules_over 4 4 (4 ∷ 4 ∷ 4 ∷ 4 ∷ []) fours []) → ⊥
unfolding relation_bytes relation_numbers word_bytes le_bytes flat_map
segments-counted e =
    let k : ◌≡◌ {A = ℕ} 0 4 = ap (λ (l : List ℕ). get_or l 16 0) e in
    omega (arith, k)

-- ---- and each entry's row and column are told apart
pub rows-first
    : relation_bytes (rules_over 4 4 [] fours (entry 1 2 4 4 ∷ [])) ≡ relation_bytes (rules_over 4 4 [] fours (entry 2 1 4 4 ∷ [])) → ⊥
unfolding relation_bytes relation_numbers word_bytes le_bytes flat_map
rows-first e =
    let k : ◌≡◌ {A = ℕ} 1 2 = ap (λ (l : List ℕ). get_or l 168 0) e in
    omega (arith, k)
