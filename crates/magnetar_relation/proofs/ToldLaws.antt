-- Walks over entries: those told their index, of six matrices one behind the other; and those of one matrix.
-- Assumes nothing.
use mathlib.Core.Path.{◌≡◌, refl, sym, ap, ◌∙◌}
use mathlib.Core.Bool.{Bool, true, false, ◌&&◌}
use mathlib.Core.List.{List, [], ◌∷◌, ◌++◌}
use Prim.Native.Nat.{ℕ, suc, ◌+◌, ◌-◌, ◌<◌, ◌≤◌}
use native.Mathlib.Omega.{arith}
use native.Mathlib.Nat.{zero-add}
use native.Mathlib.Numerals.{add-one}
use lib.ListN.{length, take, drop, length-drop, take-append-drop}
use lib.Seq.{drop-drop, length-take-le, take_all}
use borrow.Author.Tests.{lt-ltb, le-ltb}
use Rattle.magnetar_layout.specs.Every.{every}
use Rattle.magnetar_matrix.specs.Matrix.{Entry}
use Rattle.magnetar_relation.specs.declared.shapes.Shape.{Shape}
use Rattle.magnetar_relation.specs.declared.shapes.Shapes.{Shapes}
use Rattle.magnetar_relation.specs.Rules.{entries_in, system_at, lies_in, in_system}
use Rattle.magnetar_relation.specs.RuleTests.{total}
use Rattle.magnetar_relation.specs.EntryWalks.{shape_in, shape_at, lies_at, every_from, fold_entries}

-- ---- a loop that stops at the first entry of which the test does not hold; what it leaves of the list is es
and_assoc : (a b c : Bool) → ((a && b) && c) ≡ (a && (b && c))
and_assoc true b c = refl
and_assoc false b c = refl

module _ (p : ℕ → Entry → Bool) (i : ℕ) (whole : Bool) (es : List Entry) (inv : every_from p i es ≡ whole) where
  module _ (e : Entry) (rest : List Entry) (next : es ≡ e ∷ rest) where
    pub told-more : p i e ≡ true → every_from p (i + 1) rest ≡ whole
    unfolding every_from
    told-more h = let k = rw next at inv in rw add-one (rw h at k)

    pub told-stop : p i e ≡ false → false ≡ whole
    unfolding every_from
    told-stop h = let k = rw next at inv in rw h at k

  pub told-end : es ≡ [] → true ≡ whole
  unfolding every_from
  told-end h = rw h at inv

-- ---- entries told their index are those of six matrices, one behind the other
add-zero : (i : ℕ) → i + 0 ≡ i
add-zero i = omega arith

add-move : (i k : ℕ) → i + suc k ≡ suc i + k
add-move i k = omega arith

from-append : (p : ℕ → Entry → Bool) (i : ℕ) (xs ys : List Entry) → every_from p i (xs ++ ys) ≡ (every_from p i xs && every_from p (i + length xs) ys)
unfolding every_from
from-append p i [] ys = rw (add-zero i)
from-append p i (x ∷ xs) ys =
    rw (from-append p (suc i) xs ys, add-move i (length xs)) (sym (and_assoc (p i x) (every_from p (suc i) xs) (every_from p (suc i + length xs) ys)))

from-same : (p : ℕ → Entry → Bool) (q : Entry → Bool) (i : ℕ) (xs : List Entry)
    → ((j : ℕ) (e : Entry) → i ≤ j → j < i + length xs → p j e ≡ q e) → every_from p i xs ≡ every q xs
unfolding every_from every
from-same p q i [] h = refl
from-same p q i (x ∷ xs) h =
    rw (h i x (omega arith) (omega arith), from-same p q (suc i) xs (λ j e a b. h j e (omega arith) (omega arith)))

-- the entries of a matrix of the shape h from place a on lie inside it
abbrev inside : Shape → ℕ → List Entry → Bool
inside h a es = every (lies_in h.rows h.cols) (take h.entries (drop a es))

one-matrix : (p : ℕ → Entry → Bool) (h : Shape) (a b : ℕ) (es : List Entry) → b ≡ a + h.entries → b ≤ length es
    → ((j : ℕ) (e : Entry) → a ≤ j → j < b → p j e ≡ lies_in h.rows h.cols e)
    → every_from p a (drop a es) ≡ (inside h a es && every_from p b (drop b es))
one-matrix p h a b es eb le same =
    let k = h.entries in
    let l : length (take k (drop a es)) ≡ k = length-take-le k (drop a es) (rw length-drop (omega arith)) in
    let n : a + length (take k (drop a es)) ≡ b = rw l (sym eb) in
    let d : drop k (drop a es) ≡ drop b es = drop-drop k a es ∙ ap (λ (i : ℕ). drop i es) (sym eb) in
    ap (every_from p a) (sym (take-append-drop k (drop a es))) ∙ (from-append p a (take k (drop a es)) (drop k (drop a es))
    ∙ rw (n, d, from-same p (lies_in h.rows h.cols) a (take k (drop a es)) (λ j e u v. same j e u (omega (arith, n, v)))))

module _ (s : Shapes) (j : ℕ) where
  abbrev ea : ℕ
  ea = s.bin.a.entries

  abbrev eb : ℕ
  eb = ea + s.bin.b.entries

  abbrev ec : ℕ
  ec = eb + s.bin.c.entries

  abbrev fa : ℕ
  fa = ec + s.fld.a.entries

  abbrev fb : ℕ
  fb = fa + s.fld.b.entries

  at1 : j < ea → shape_at s j ≡ s.bin.a
  unfolding shape_at
  at1 b = rw (lt-ltb j s.bin.a.entries b)

  at2 : ea ≤ j → j < eb → shape_at s j ≡ s.bin.b
  unfolding shape_at
  at2 a b = rw (le-ltb j s.bin.a.entries a, lt-ltb (j - s.bin.a.entries) s.bin.b.entries (omega arith))

  at3 : eb ≤ j → j < ec → shape_at s j ≡ s.bin.c
  unfolding shape_at
  at3 a b = rw (
    le-ltb j s.bin.a.entries (omega arith),
    le-ltb (j - s.bin.a.entries) s.bin.b.entries (omega arith),
    lt-ltb (j - s.bin.a.entries - s.bin.b.entries) s.bin.c.entries (omega arith),
  )

  past-bin : ec ≤ j → shape_at s j ≡ shape_in s.fld (j - s.bin.a.entries - s.bin.b.entries - s.bin.c.entries)
  unfolding shape_at
  past-bin a = rw (
    le-ltb j s.bin.a.entries (omega arith),
    le-ltb (j - s.bin.a.entries) s.bin.b.entries (omega arith),
    le-ltb (j - s.bin.a.entries - s.bin.b.entries) s.bin.c.entries (omega arith),
  )

  at4 : ec ≤ j → j < fa → shape_at s j ≡ s.fld.a
  unfolding shape_in
  at4 a b = past-bin a ∙ rw (lt-ltb (j - s.bin.a.entries - s.bin.b.entries - s.bin.c.entries) s.fld.a.entries (omega arith))

  at5 : fa ≤ j → j < fb → shape_at s j ≡ s.fld.b
  unfolding shape_in
  at5 a b = past-bin (omega arith) ∙ rw (
    le-ltb (j - s.bin.a.entries - s.bin.b.entries - s.bin.c.entries) s.fld.a.entries (omega arith),
    lt-ltb (j - s.bin.a.entries - s.bin.b.entries - s.bin.c.entries - s.fld.a.entries) s.fld.b.entries (omega arith),
  )

  at6 : fb ≤ j → shape_at s j ≡ s.fld.c
  unfolding shape_in
  at6 a = past-bin (omega arith) ∙ rw (
    le-ltb (j - s.bin.a.entries - s.bin.b.entries - s.bin.c.entries) s.fld.a.entries (omega arith),
    le-ltb (j - s.bin.a.entries - s.bin.b.entries - s.bin.c.entries - s.fld.a.entries) s.fld.b.entries (omega arith),
  )

lies_same : (s : Shapes) (h : Shape) (j : ℕ) (e : Entry) → shape_at s j ≡ h → lies_at s j e ≡ lies_in h.rows h.cols e
lies_same s h j e q = rw q

and-all : (a b c d : Bool) → (a && (b && (c && d))) ≡ ((a && (b && c)) && d)
and-all true true true d = refl
and-all true true false d = refl
and-all true false c d = refl
and-all false b c d = refl

-- all entries told their index lie inside: those of each matrix do
pub told-six : (s : Shapes) (es : List Entry) → length es ≡ total s
    → every_from (lies_at s) 0 es ≡ (in_system (system_at s.bin 0 es) && in_system (system_at s.fld (entries_in s.bin) es))
told-six s es l =
    let p = lies_at s in
    let k₁ = s.bin.a.entries in
    let k₂ = k₁ + s.bin.b.entries in
    let k₃ = k₂ + s.bin.c.entries in
    let k₄ = k₃ + s.fld.a.entries in
    let k₅ = k₄ + s.fld.b.entries in
    let d : length (drop k₅ es) ≤ s.fld.c.entries = rw length-drop (omega arith) in
    let t : take s.fld.c.entries (drop k₅ es) ≡ drop k₅ es = take_all s.fld.c.entries (drop k₅ es) d in
    one-matrix p s.bin.a 0 k₁ es (omega arith) (omega arith) (λ j e u v. lies_same s s.bin.a j e (at1 s j v))
    ∙ rw (
      one-matrix p s.bin.b k₁ k₂ es refl (omega arith) (λ j e u v. lies_same s s.bin.b j e (at2 s j u v)),
      one-matrix p s.bin.c k₂ k₃ es refl (omega arith) (λ j e u v. lies_same s s.bin.c j e (at3 s j u v)),
      one-matrix p s.fld.a k₃ k₄ es refl (omega arith) (λ j e u v. lies_same s s.fld.a j e (at4 s j u v)),
      one-matrix p s.fld.b k₄ k₅ es refl (omega arith) (λ j e u v. lies_same s s.fld.b j e (at5 s j u v)),
      zero-add k₁,
      from-same p (lies_in s.fld.c.rows s.fld.c.cols) k₅ (drop k₅ es) (λ j e u v. lies_same s s.fld.c j e (at6 s j u)),
      t,
    )
    (and-all (inside s.bin.a 0 es) (inside s.bin.b k₁ es) (inside s.bin.c k₂ es)
    (inside s.fld.a k₃ es && (inside s.fld.b k₄ es && every (lies_in s.fld.c.rows s.fld.c.cols) (drop k₅ es))))

-- ---- a loop over the entries, of which es is what it leaves
module _ (g : Entry → List ℕ → List ℕ) (whole : List ℕ) (es : List Entry) (t : List ℕ) (inv : fold_entries g es t ≡ whole) where
  pub fold-more : (e : Entry) (rest : List Entry) (t' : List ℕ) → es ≡ e ∷ rest → t' ≡ g e t → fold_entries g rest t' ≡ whole
  unfolding fold_entries
  fold-more e rest t' next h = let k = rw next at inv in rw h k

  pub fold-end : es ≡ [] → t ≡ whole
  unfolding fold_entries
  fold-end h = rw h at inv
