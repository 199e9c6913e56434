-- What the tests 4 to 7 leave of a relation as it is lent; and that 7 may be tested by telling each entry its index.
-- Assumes nothing.
use mathlib.Core.Path.{◌≡◌, refl, sym, ap, ◌∙◌}
use mathlib.Core.Bool.{Bool, not}
use mathlib.Core.List.{List, [], ◌∷◌, ◌++◌, map}
use Prim.Native.Nat.{ℕ, zero, suc, ◌≤◌}
use native.Mathlib.Omega.{arith}
use lib.Dec.{eqb, ltb}
use lib.ListN.{length}
use borrow.Author.Tests.{ltb-false, eqb-true, not-false}
use Rattle.magnetar_layout.specs.Tests.{Tests, first_refusal}
use Rattle.magnetar_layout.proofs.FirstRefusal.{first-refusal-clear, first-refusal-append, first-refusal-kept, first-refusal-rest}
use Rattle.magnetar_matrix.specs.Matrix.{Entry}
use Rattle.magnetar_matrix.specs.Lent.{entries_of, matrix_of}
use Rattle.magnetar_matrix.specs.Numbers.{Numbers, entries_by, lent_by, counts, record_numbers, entry_of}
use Rattle.magnetar_matrix.specs.declared.entries.Entry as code
use Rattle.magnetar_matrix.proofs.EntryLists.{entries-length, records_are, map-length}
use Rattle.magnetar_relation.specs.declared.shapes.SystemShape.{SystemShape}
use Rattle.magnetar_relation.specs.declared.shapes.Shapes.{Shapes}
use Rattle.magnetar_relation.specs.Rules.{rules, rules_by, rules_over, in_relation, entries_in, system_at}
use Rattle.magnetar_relation.specs.RuleTests.{number_tests, shape_tests, total, rule_tests_by, rule_tests}
use Rattle.magnetar_relation.specs.EntryWalks.{lies_at, every_from}
use Rattle.magnetar_relation.proofs.ToldLaws.{told-six}

-- ---- what passed tests say
same : (a b : ℕ) → not (eqb a b) ≡ Bool.false → a ≡ b
same a b e = eqb-true a b (not-false (eqb a b) e)

most : (n a : ℕ) → ltb n a ≡ Bool.false → a ≤ n
most n a e = ltb-false n a e

-- no matrix of the system has too many entries
pub record Few (t : SystemShape) : Type 0 where
  pub a : t.a.entries ≤ 1048576
  pub b : t.b.entries ≤ 1048576
  pub c : t.c.entries ≤ 1048576

-- the shapes alone
pub shapes-few : (m q : ℕ) (s : Shapes) → first_refusal 0 (shape_tests m q s) ≡ 0 → Few s.bin × Few s.fld
shapes-few m q s e =
    let k = (first-refusal-clear 0 (shape_tests m q s) refl e).1 in
    let i = k.1.1.1.1.1.1.1.1.1.1.1.1.1.1 in (
      record { a = most _ _ i.0; b = most _ _ i.1.0; c = most _ _ i.1.1.0 },
      record { a = most _ _ i.1.1.1.0; b = most _ _ i.1.1.1.1.0; c = most _ _ i.1.1.1.1.1.0 },
    )

-- ---- 7, by telling each entry its index
pub entries-equal : (r c l h : List ℕ) → length c ≡ length r → length l ≡ length r → length h ≡ length r → length (entries_of r c l h) ≡ length r
entries-equal r c l h p q s = omega (arith, entries-length r c l h, p, q, s)

-- the last test may be another one, where the same comes of it when no test before it was bad
late : (a : Tests) (k : ℕ) (b d : Bool) → (first_refusal 0 a ≡ 0 → b ≡ d) → first_refusal 0 (a ++ ((k, b) ∷ [])) ≡ first_refusal 0 (a ++ ((k, d) ∷ []))
late a k b d f = first-refusal-append 0 a ((k, b) ∷ []) ∙ (go (first_refusal 0 a) refl ∙ sym (first-refusal-append 0 a ((k, d) ∷ [])))
  where
    go : (z : ℕ) → first_refusal 0 a ≡ z → first_refusal (first_refusal 0 a) ((k, b) ∷ []) ≡ first_refusal (first_refusal 0 a) ((k, d) ∷ [])
    go zero e = ap (λ (t : Bool). first_refusal (first_refusal 0 a) ((k, t) ∷ [])) (f e)
    go (suc z) e =
        let h : suc z ≡ 0 → ⊥ = λ i. omega (arith, i) in
        rw e (first-refusal-kept (suc z) ((k, b) ∷ []) h ∙ sym (first-refusal-kept (suc z) ((k, d) ∷ []) h))

module _ (m q : ℕ) (s : Shapes) (r c l h : ℕ) (es : List Entry)
    (long : r ≡ total s → c ≡ total s → l ≡ total s → h ≡ total s → length es ≡ total s) where
  abbrev first : Tests
  first = shape_tests m q s ++ number_tests (total s) (r ∷ c ∷ l ∷ h ∷ [])

  counted : first_refusal 0 first ≡ 0 → length es ≡ total s
  counted e =
      let k = (first-refusal-clear 0 first refl e).1 in
      let n = k.1.1.1.1.1.1.1.1.1.1.1.1.1.1.1.1.1.1.1.1 in
      long (same _ _ n.0) (same _ _ n.1.0) (same _ _ n.1.1.0) (same _ _ n.1.1.1.0)

  abbrev inside : Bool
  inside = in_relation (record { m = m; q = q; bin = system_at s.bin 0 es; fld = system_at s.fld (entries_in s.bin) es; lengths = [] })

  told : (b : Bool) → b ≡ every_from (lies_at s) 0 es
      → first_refusal 0 (rule_tests_by m q s (r ∷ c ∷ l ∷ h ∷ []) b) ≡ first_refusal 0 (rule_tests_by m q s (r ∷ c ∷ l ∷ h ∷ []) inside)
  unfolding rule_tests_by in_relation
  told b e = late first 7 (not b) (not inside) (λ f. ap not (e ∙ told-six s es (counted f)))

pub rules-told : (m q : ℕ) (ns : List ℕ) (s : Shapes) (N : Numbers) (b : Bool) (z : ℕ) → b ≡ every_from (lies_at s) 0 (entries_by N)
    → z ≡ first_refusal 0 (rule_tests_by m q s (counts N) b) → z ≡ first_refusal 0 (rule_tests (rules_by m q ns s N))
unfolding in_relation
rules-told m q ns s N b z e f =
    f ∙ told m q s (length N.row) (length N.col) (length N.lo) (length N.hi) (entries_by N)
    (λ i j k n. entries-equal N.row N.col N.lo N.hi (j ∙ sym i) (k ∙ sym i) (n ∙ sym i) ∙ i) b e

-- the same of entries in no form
pub rules-told-over : (m q : ℕ) (ns : List ℕ) (s : Shapes) (es : List Entry) (b : Bool) (z : ℕ) → b ≡ every_from (lies_at s) 0 es
    → z ≡ first_refusal 0 (rule_tests_by m q s (length es ∷ length es ∷ length es ∷ length es ∷ []) b)
    → z ≡ first_refusal 0 (rule_tests (rules_over m q ns s es))
unfolding in_relation
rules-told-over m q ns s es b z e f =
    f ∙ told m q s (length es) (length es) (length es) (length es) es (λ i j k n. i) b e

-- the matrix that is lent as records
pub matrix-of : (n m : ℕ) (es : List code.Entry)
    → matrix_of (lent_by n m (record_numbers es)) ≡ record { rows = n; cols = m; entries = map entry_of es }
unfolding matrix_of
matrix-of n m es = ap (λ (l : List Entry). record { rows = n; cols = m; entries = l }) (records_are es)

-- the numbers of records give the relation that is lent as records
pub rules-records : (m q : ℕ) (ns : List ℕ) (s : Shapes) (es : List code.Entry)
    → rules_by m q ns s (record_numbers es) ≡ rules_over m q ns s (map entry_of es)
rules-records m q ns s es = simp (records_are, map-length)

-- the segment lengths do not matter
pub lengths-free : (m q : ℕ) (ns : List ℕ) (s : Shapes) (row col lo hi : List ℕ) → rule_tests (rules m q [] s row col lo hi) ≡ rule_tests (rules m q ns s row col lo hi)
unfolding in_relation
lengths-free m q ns s row col lo hi = refl

-- ---- two groups that are passed
pub join-none : (l k : Tests) → first_refusal 0 l ≡ 0 → first_refusal 0 k ≡ 0 → first_refusal 0 (l ++ k) ≡ 0
join-none l k e f = first-refusal-rest l k (first_refusal 0 l) refl e ∙ f
