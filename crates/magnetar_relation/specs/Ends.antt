-- Where the entries of each matrix lie among those of all six, cut where these end. Contracts of the walks over one matrix of six, and of
-- what they are told, cite these definitions.
-- Source: document 01, "Forms that give way" (parallel number slices), for six matrices one behind the other.
-- Assumes nothing.
use Rattle.std.specs.Prelude.{List, [], ◌∷◌, ℕ, ◌+◌, ◌-◌, min, take, drop}
use Rattle.magnetar_matrix.specs.Matrix.{Entry}
use Rattle.magnetar_relation.specs.declared.shapes.Shapes.{Shapes}
use Rattle.magnetar_relation.specs.Rules.{entries_in}

-- where the entries of each matrix end, among n: A, B, C of bin, then A, B, C of fld
abbrev pub ends_of : Shapes → ℕ → List ℕ
ends_of s n =
    let b = entries_in s.bin in
    min s.bin.a.entries n ∷ min (s.bin.a.entries + s.bin.b.entries) n ∷ min b n ∷ min (b + s.fld.a.entries) n
    ∷ min (b + s.fld.a.entries + s.fld.b.entries) n ∷ min (b + entries_in s.fld) n ∷ []

-- the entries from a to b
abbrev pub part_of : (a b : ℕ) → List Entry → List Entry
part_of a b es = take (b - a) (drop a es)
