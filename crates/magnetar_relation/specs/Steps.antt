-- What one entry, or one call, does to the words of a table. Contracts of private functions, and of the steps that other crates call, cite
-- these definitions.
-- Source: the Rust's loops over the entries of a matrix (`apply`, `build_m_combo`), entry by entry.
-- Assumes nothing.
use Rattle.std.specs.Prelude.{cond, List, [], ◌∷◌, ◌++◌, ℕ, ◌*◌, leb, length, get_or, take, drop, replicate}
use Rattle.magnetar_field.specs.Gf128.{◌⊗◌}
use Rattle.magnetar_field.specs.Words.{elements, words}
use Rattle.magnetar_matrix.specs.Matrix.{Entry}
use Rattle.magnetar_matrix.specs.Packed.{login_part, public_part, z_of}
use Rattle.magnetar_matrix.specs.Table.{added_at}

-- the first k words are 0; as they were where they are fewer
abbrev pub cleared_words : ℕ → List ℕ → List ℕ
cleared_words k out = cond (leb k (length out)) (replicate k 0 ++ drop k out) out

-- the first n elements of the words are 0; as they were where they are fewer
unfoldable pub cleared_to : ℕ → List ℕ → List ℕ
cleared_to n out = cleared_words (2 * n) out

-- v added to element k of the first n; as they were where they are fewer
unfoldable pub added_to : ℕ → ℕ → ℕ → List ℕ → List ℕ
added_to n k v out =
    cond (leb (2 * n) (length out)) (words (added_at (elements (take (2 * n) out)) k v) ++ drop (2 * n) out) out

-- f of each entry added at its row, one entry after the other
unfoldable pub added_all : ℕ → (Entry → ℕ) → List Entry → List ℕ → List ℕ
added_all n f [] out = out
added_all n f (e ∷ es) out = added_all n f es (added_to n e.row (f e) out)

-- element k of the first n
unfoldable pub front : ℕ → List ℕ → ℕ → ℕ
front n s k = get_or (elements (take (2 * n) s)) k 0

-- element k of the m behind the first n
unfoldable pub between : ℕ → ℕ → List ℕ → ℕ → ℕ
between n m s k = get_or (elements (take (2 * m) (drop (2 * n) s))) k 0

-- g of what is behind the first m elements; nothing where they are fewer
unfoldable pub behind : ℕ → (List ℕ → List ℕ) → List ℕ → List ℕ
behind m g s = cond (leb (2 * m) (length s)) (take (2 * m) s ++ g (drop (2 * m) s)) s

-- the entry's value times the element at its row, of the n behind the first m, added to the element at its column
unfoldable pub column_added : ℕ → ℕ → Entry → List ℕ → List ℕ
column_added m n e s = added_to m e.col (e.value ⊗ between m n s e.row) s

-- z = (w, 1, x) of login u of the packed words ws and the public words x
unfoldable pub login_z : ℕ → List ℕ → List ℕ → ℕ → List ℕ
login_z w ws x u = z_of w (login_part w ws u) (elements (public_part w x u))
