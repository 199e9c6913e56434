-- The digest of a relation as it is lent, for a caller to bind the relation before a run: SHA3-256 (FIPS 202) of its numbers as bytes, under
-- a domain of its own. The relation is m, q, both systems and the layout (document 01, "The run"). An addition: the Rust has none.
-- Assumes nothing.
use Rattle.std.specs.Prelude.{◌≡◌, ℕ, ◌/◌, ◌%◌, ◌^◌, ◌<◌, List, [], ◌∷◌, ◌++◌, length, slice_index}
use mathlib.Core.List.{flat_map}
use Rattle.magnetar_field.specs.Refusal.{unless_refused}
use Rattle.magnetar_hash.specs.Bytes.{ascii, word_bytes}
use Rattle.magnetar_hash.specs.Parts.{DigestAnswer, sha3_domain, no_digest}
use Rattle.magnetar_layout.specs.Tests.{first_refusal, size_tests, layout_tests}
use Rattle.magnetar_matrix.specs.Matrix.{Entry}
use Rattle.magnetar_relation.specs.declared.shapes.Shape.{Shape}
use Rattle.magnetar_relation.specs.declared.shapes.SystemShape.{SystemShape}
use Rattle.magnetar_relation.specs.declared.shapes.Shapes.{Shapes}
use Rattle.magnetar_relation.specs.Rules.{Rules}
use Rattle.magnetar_relation.specs.RuleTests.{rule_tests}

-- ---- the numbers, in order
-- a matrix: how many rows, columns and entries it has
abbrev pub shape_numbers : Shape → List ℕ
shape_numbers h = h.rows ∷ h.cols ∷ h.entries ∷ []

-- the matrices A, B and C of a system
abbrev pub system_numbers : SystemShape → List ℕ
system_numbers t = shape_numbers t.a ++ (shape_numbers t.b ++ shape_numbers t.c)

-- m, q, the number of segments, the length of each, the shapes of bin, then of fld
abbrev pub head_numbers : (m q : ℕ) → List ℕ → Shapes → List ℕ
head_numbers m q ns s = m ∷ q ∷ length ns ∷ (ns ++ (system_numbers s.bin ++ system_numbers s.fld))

-- an entry: its row, its column, and the low and the high word of its value
abbrev pub entry_numbers : Entry → List ℕ
entry_numbers e = e.row ∷ e.col ∷ e.value % 2 ^ 64 ∷ e.value / 2 ^ 64 ∷ []

-- all of the relation: the entries stand last, in the order in which they are lent
unfoldable pub relation_numbers : Rules → List ℕ
relation_numbers R = head_numbers R.m R.q R.lengths R.shapes ++ flat_map entry_numbers R.entries

-- ---- the digest
-- each number as 8 bytes, the lowest first
unfoldable pub relation_bytes : Rules → List ℕ
relation_bytes R = word_bytes (relation_numbers R)

-- the name of this use of the hash
abbrev pub domain : List ℕ
domain = ascii "magnetar/relation/v1"

-- SHA3-256 of two parts, the domain and the bytes
unfoldable pub relation_digest : Rules → List ℕ
relation_digest R = sha3_domain (domain ∷ relation_bytes R ∷ [])

-- ---- the answer
-- 1, 4 to 7, 8 to 10
unfoldable pub digest_refusal : Rules → ℕ
digest_refusal R = first_refusal 0 (size_tests R.m R.q ++ (rule_tests R ++ layout_tests (R.m / 2) R.lengths))

-- the number of the refusal and the digest, which is 32 bytes 0 where the relation is refused
unfoldable pub digest_answer : Rules → DigestAnswer
digest_answer R =
    record { code = digest_refusal R; digest = unless_refused (digest_refusal R) (relation_digest R) no_digest }

-- ---- what is proved of the bytes (proofs/OneRelation `one-relation`)
-- every number of the relation is a word of 64 bits, as it is where words are lent (proofs/LentWords `lent-words`)
abbrev pub OfWords : Rules → Type 0
OfWords R = (i : ℕ) → slice_index (relation_numbers R) i < 2 ^ 64

-- the same relation
pub record Same (R R' : Rules) : Type 0 where
  pub columns : R.m ≡ R'.m
  pub logins : R.q ≡ R'.q
  pub layout : R.lengths ≡ R'.lengths
  pub shapes : R.shapes ≡ R'.shapes
  pub entries : R.entries ≡ R'.entries

-- no two relations as they are lent have the same bytes
abbrev pub OneRelation : Type 0
OneRelation = (R R' : Rules) → OfWords R → OfWords R' → relation_bytes R ≡ relation_bytes R' → Same R R'
