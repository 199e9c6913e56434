-- Walks over the entries of six matrices, one behind the other: what is done with entry i, and with those of one matrix. Contracts of
-- private functions, and of the steps that other crates call, cite these definitions.
-- Source: document 01, "Forms that give way" (entries as number slices and as records): both are read entry by entry.
-- Assumes nothing.
use Rattle.std.specs.Prelude.{Bool, true, cond, ◌&&◌, List, [], ◌∷◌, ℕ, suc, ◌-◌, ltb, leb}
use Rattle.magnetar_matrix.specs.Matrix.{Entry}
use Rattle.magnetar_relation.specs.declared.shapes.Shape.{Shape}
use Rattle.magnetar_relation.specs.declared.shapes.SystemShape.{SystemShape}
use Rattle.magnetar_relation.specs.declared.shapes.Shapes.{Shapes}
use Rattle.magnetar_relation.specs.Rules.{lies_in}

-- the shape of the matrix of a system that its entry i belongs to; the last one's where it has fewer entries
unfoldable pub shape_in : SystemShape → ℕ → Shape
shape_in t i = cond (ltb i t.a.entries) t.a (cond (ltb (i - t.a.entries) t.b.entries) t.b t.c)

-- the same of both systems
unfoldable pub shape_at : Shapes → ℕ → Shape
shape_at s i =
    let j = i - s.bin.a.entries in
    let k = j - s.bin.b.entries in
    cond (ltb i s.bin.a.entries) s.bin.a (cond (ltb j s.bin.b.entries) s.bin.b
    (cond (ltb k s.bin.c.entries) s.bin.c (shape_in s.fld (k - s.bin.c.entries))))

-- entry i lies inside its matrix
abbrev pub lies_at : Shapes → ℕ → Entry → Bool
lies_at s i e = lies_in (shape_at s i).rows (shape_at s i).cols e

-- the test holds of each entry and its index, from i on
unfoldable pub every_from : (ℕ → Entry → Bool) → ℕ → List Entry → Bool
every_from p i [] = true
every_from p i (e ∷ es) = p i e && every_from p (suc i) es

-- g of each entry, one after the other, to the words t
unfoldable pub fold_entries : (Entry → List ℕ → List ℕ) → List Entry → List ℕ → List ℕ
fold_entries g [] t = t
fold_entries g (e ∷ es) t = fold_entries g es (g e t)

-- the same of those whose index, from i on, is from a to b
unfoldable pub fold_entries_within : (Entry → List ℕ → List ℕ) → (a b i : ℕ) → List Entry → List ℕ → List ℕ
fold_entries_within g a b i [] t = t
fold_entries_within g a b i (e ∷ es) t = fold_entries_within g a b (suc i) es (cond (leb a i && ltb i b) (g e t) t)
