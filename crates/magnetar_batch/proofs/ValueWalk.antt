-- How the combined table's value at a column point is made, step by step: a table in front taken at a point, the rows of a matrix, and that
-- six matrices leave the value that is combined row by row.
-- Assumes nothing.
use Rattle.std.specs.Prelude.{◌≡◌, ℕ, zero, suc, ◌+◌, ◌-◌, ◌*◌, ◌/◌, ◌%◌, ◌^◌, ◌<◌, ◌≤◌, min}
use Rattle.std.specs.Prelude.{max, true, false, List, [], ◌∷◌, ◌++◌, map, length, get_or, take, drop, replicate}
use mathlib.Core.Path.{refl, sym, ap, ap₂, ◌∙◌, subst}
use mathlib.Core.List.{append_assoc}
use native.Mathlib.Nat.{mod-eq_of_lt, two-pow-succ}
use native.Mathlib.Numerals.{sub-one}
use native.Mathlib.Omega.{arith}
use lib.ListN.{take-append-drop}
use lib.Pow.{pow_mono}
use lib.Seq.{length-take-le, drop-append-le}
use borrow.Author.Tests.{le-leb, lt-leb}
use Rattle.magnetar_field.specs.Sizes.{log₂}
use Rattle.magnetar_field.specs.Words.{elements, words}
use Rattle.magnetar_field.proofs.Elements.{elements-drop}
use Rattle.magnetar_field.proofs.Log2.{log₂-pow}
use Rattle.magnetar_multilinear.specs.Entries.{bind_refusal, bind_out}
use Rattle.magnetar_field.specs.Gf128.{◌⊕◌}
use Rattle.magnetar_multilinear.specs.Multilinear.{mle, bind_var}
use Rattle.magnetar_multilinear.proofs.Evaluating.{Evaluating, evaluating-more}
use Rattle.magnetar_multilinear.proofs.Refusals.{bind-none}
use Rattle.magnetar_layout.specs.Tests.{is_size}
use Rattle.magnetar_layout.proofs.SizeLaws.{sized, log-most}
use Rattle.magnetar_matrix.specs.Matrix.{Entry, swapped}
use Rattle.magnetar_relation.specs.declared.shapes.SystemShape.{SystemShape}
use Rattle.magnetar_relation.specs.declared.shapes.Shapes.{Shapes}
use Rattle.magnetar_relation.specs.Rules.{matrix_at, entries_in, system_at, relation_of}
use Rattle.magnetar_relation.specs.Steps.{cleared_to, column_added}
use Rattle.magnetar_relation.specs.EntryWalks.{fold_entries}
use Rattle.magnetar_relation.proofs.RangeLaws.{same_drop, system-cut}
use Rattle.magnetar_relation.proofs.TableWords.{cleared-words}
use Rattle.magnetar_batch.specs.TableSteps.{eq_behind, point_in}
use Rattle.magnetar_batch.specs.ValueSteps.{front_value, front_cleared, row_added, rows_made, matrix_value}
use Rattle.magnetar_batch.specs.ValueSteps.{matrix_left, weighed, system_value, system_left, six_value, six_left}
use Rattle.magnetar_batch.proofs.Rooms.{elements-take, elements-behind}

-- ---- the highest variable bound
pub small_power : (j : ℕ) → j ≤ 15 → 2 ^ j ≤ 32768
small_power j h = pow_mono {i = j} {j = 15} h

pub power : (j : ℕ) → j ≤ 15 → (k : ℕ) → k ≡ 2 ^ j % 2 ^ 64 → k ≡ 2 ^ j
power j h k e = e ∙ mod-eq_of_lt (omega (arith, small_power j h))

pub highest-bound : (j r : ℕ) (t u : List ℕ) → j ≤ 15 → 4 * 2 ^ j ≤ length t → u ≡ bind_out (take (4 * 2 ^ j) t) j r
    → elements (u ++ drop (4 * 2 ^ j) t) ≡ bind_var j r (take (2 * 2 ^ j) (elements t)) ++ drop (2 ^ j) (elements t)
highest-bound j r t u h f e =
    let p = take (4 * 2 ^ j) t in
    let l : length p ≡ 4 * 2 ^ j = length-take-le (4 * 2 ^ j) t f in
    let q : length p / 2 ≡ 2 ^ suc j = omega (arith, l, two-pow-succ j) in
    let g : log₂ (length p / 2) ≡ suc j = rw q (log₂-pow (suc j) (omega arith)) in
    let s : length p ≡ 2 * 2 ^ log₂ (length p / 2) = rw g (omega (arith, l, two-pow-succ j)) in
    let none : bind_refusal p j ≡ 0 = bind-none p j s (omega (arith, g)) in
    let two : length p / 2 ≡ 2 * 2 ^ j = omega (arith, l) in
    let four : 2 * (2 * 2 ^ j) ≡ 4 * 2 ^ j = omega arith in
    let front : elements p ≡ take (2 * 2 ^ j) (elements t) = sym (elements-take (2 * 2 ^ j) t ∙ ap (λ (n : ℕ). elements (take n t)) four) in
    let rest : drop (length p / 2) p ++ drop (4 * 2 ^ j) t ≡ drop (2 * 2 ^ j) t =
    rw two (sym (drop-append-le (2 * 2 ^ j) p (drop (4 * 2 ^ j) t) (omega (arith, l))) ∙ ap (drop (2 * 2 ^ j)) (take-append-drop (4 * 2 ^ j) t)) in
    rw (e, none) (ap elements (append_assoc (words (bind_var j r (elements p))) (drop (length p / 2) p) (drop (4 * 2 ^ j) t))
    ∙ (elements-behind (bind_var j r (elements p)) (drop (length p / 2) p ++ drop (4 * 2 ^ j) t)
    ∙ ap₂ (λ (a b : List ℕ). a ++ b) (ap (bind_var j r) front) (ap elements rest ∙ sym (elements-drop (2 ^ j) t))))

-- one turn of the loop
pub bound-more : (p t₀ t t' : List ℕ) (j : ℕ) → Evaluating p t₀ t (2 ^ j) j → 0 < j → j ≤ length p → 2 ^ j ≤ length t
    → t' ≡ bind_var (j - 1) (get_or p (j - 1) 0) (take (2 * 2 ^ (j - 1)) t) ++ drop (2 ^ (j - 1)) t → Evaluating p t₀ t' (2 ^ (j - 1)) (j - 1)
bound-more p t₀ t t' zero v pos le room e = absurd (omega arith)
bound-more p t₀ t t' (suc k) v pos le room e =
    let h : 2 ^ suc k / 2 ≡ 2 ^ (suc k - 1) = rw sub-one (omega (arith, two-pow-succ k)) in
    subst (λ (n : ℕ). Evaluating p t₀ t' n (suc k - 1)) h (evaluating-more p t₀ t t' (2 ^ suc k) (suc k) v pos le room (e ∙ rw h))

-- the table of the variables below j has room
pub half_room : (j n l : ℕ) → j ≤ n → l ≡ 2 * 2 ^ n → 2 ^ j ≤ l / 2
half_room j n l h e = omega (arith, e, pow_mono {i = j} {j = n} h)

pub lower-room : (j n l : ℕ) → 0 < j → j ≤ n → l ≡ 2 * 2 ^ n → 4 * 2 ^ (j - 1) ≤ l
lower-room zero n l p h e = absurd (omega arith)
lower-room (suc k) n l p h e = rw sub-one (omega (arith, e, two-pow-succ k, pow_mono {i = suc k} {j = n} h))

-- ---- a table in front, at a point
module _ (n : ℕ) (p s : List ℕ) where
  pub front-some : (l v : ℕ) (u : List ℕ) → is_size 1 65536 n ≡ true → n ≤ length s / 2 → l ≡ log₂ n
      → v ≡ mle (elements (take (2 * n) s)) (elements (take (2 * l) p)) → u ≡ replicate (length (take (2 * n) s)) 0
      → (v ≡ front_value n p s) × (u ++ drop (2 * n) s ≡ front_cleared n s)
  unfolding front_value front_cleared
  front-some l v u z h e f g =
      let w = sized 1 65536 n z in
      let k : 2 * l ≡ min (2 * log₂ n) 32 = omega (arith, e, log-most n w.high w.power) in
      let b = le-leb (2 * n) (length s) (omega arith) in
      (rw (z, b) (f ∙ rw (k, elements-take n s)), rw (z, b) (cleared-words n s u (omega arith) g))

  pub front-short : is_size 1 65536 n ≡ true → length s / 2 < n → (0 ≡ front_value n p s) × (s ≡ front_cleared n s)
  unfolding front_value front_cleared
  front-short z h = let b = lt-leb (2 * n) (length s) (omega arith) in (rw (z, b), rw (z, b))

  pub front-none : is_size 1 65536 n ≡ false → (0 ≡ front_value n p s) × (s ≡ front_cleared n s)
  unfolding front_value front_cleared
  front-none z = (rw z, rw z)

-- ---- the rows of a matrix
pub rows-fold : (k m : ℕ) (es : List Entry) (t : List ℕ) → fold_entries (column_added k m) (map swapped es) t ≡ fold_entries (row_added k m) es t
unfolding fold_entries
rows-fold k m [] t = refl
rows-fold k m (e ∷ es) t = rows-fold k m es (row_added k m e t)

-- the columns of the entries with row and column exchanged
pub matrix-ends : (k m n : ℕ) (p : List ℕ) (es : List Entry) (s s₁ s₂ s₃ : List ℕ) (v : ℕ) → s₁ ≡ cleared_to k s
    → s₂ ≡ fold_entries (column_added k m) (map swapped es) s₁ → (v ≡ front_value n p s₂) × (s₃ ≡ front_cleared n s₂)
    → (v ≡ matrix_value k m n p es s) × (s₃ ≡ matrix_left k m n es s)
unfolding matrix_value matrix_left
matrix-ends k m n p es s s₁ s₂ s₃ v e₁ e₂ f =
    let d : s₂ ≡ rows_made k m es s = e₂ ∙ (rows-fold k m es s₁ ∙ ap (fold_entries (row_added k m) es) e₁) in
    (f.0 ∙ ap (front_value n p) d, f.1 ∙ ap (front_cleared n) d)

-- ---- three, from places that were cut where the entries es end
pub system-ends : (k m : ℕ) (al : List ℕ) (j : ℕ) (p : List ℕ) (t : SystemShape) (a : ℕ) (es : List Entry) (b c : ℕ)
    → b ≡ min (a + t.a.entries) (length es) → c ≡ min (b + t.b.entries) (length es) → (s s₁ s₂ s₃ : List ℕ) (x y z v : ℕ)
    → (let n = t.a.rows in (x ≡ matrix_value k m n p (matrix_at t.a a es).entries s) × (s₁ ≡ matrix_left k m n (matrix_at t.a a es).entries s))
    → (let n = t.a.rows in (y ≡ matrix_value k m n p (matrix_at t.b b es).entries s₁) × (s₂ ≡ matrix_left k m n (matrix_at t.b b es).entries s₁))
    → (let n = t.a.rows in (z ≡ matrix_value k m n p (matrix_at t.c c es).entries s₂) × (s₃ ≡ matrix_left k m n (matrix_at t.c c es).entries s₂))
    → v ≡ weighed al (min j 3) x y z → (v ≡ system_value k m al j p (system_at t a es) s) × (s₃ ≡ system_left k m (system_at t a es) s)
unfolding system_value system_left
system-ends k m al j p t a es b c eb ec s s₁ s₂ s₃ x y z v e₁ e₂ e₃ e =
    let d₂ = same_drop b (a + t.a.entries) es (omega (arith, eb)) in
    let d₃ = same_drop c (a + t.a.entries + t.b.entries) es (omega (arith, eb, ec)) in
    (rw (e, e₁.0, e₂.0, e₃.0, e₂.1, e₁.1, d₃, d₂), rw (e₃.1, e₂.1, e₁.1, d₃, d₂))

-- ---- all six
pub six-ends : (m : ℕ) (sh : Shapes) (ns : List ℕ) (es : List Entry) (al p r c : List ℕ) (a k : ℕ) → a ≡ min (entries_in sh.bin) (length es)
    → k ≡ max sh.bin.a.rows sh.fld.a.rows → (s s₁ s₂ s₃ s₄ : List ℕ) (x y v : ℕ) → s₁ ≡ eq_behind k 1 (point_in m c) s
    → (x ≡ system_value k m al 0 p (system_at sh.bin 0 es) s₁) × (s₂ ≡ system_left k m (system_at sh.bin 0 es) s₁)
    → (y ≡ system_value k m al 3 r (system_at sh.fld a es) s₂) × (s₃ ≡ system_left k m (system_at sh.fld a es) s₂)
    → s₄ ≡ cleared_to (k + m) s₃ → v ≡ x ⊕ y
    → let R = relation_of (record { m = m; q = 1; lengths = []; shapes = sh; numbers = ns; entries = es }) in
    (v ≡ six_value R al p r c s) × (s₄ ≡ six_left R c s)
unfolding six_value six_left
six-ends m sh ns es al p r c a k ea ek s s₁ s₂ s₃ s₄ x y v e₁ e₂ e₃ e₄ e =
    let d : system_at sh.fld a es ≡ system_at sh.fld (entries_in sh.bin) es = system-cut sh.fld (entries_in sh.bin) a es ea in
    (rw (e, e₂.0, e₃.0, e₂.1, d, e₁, ek), rw (e₄, e₃.1, e₂.1, d, e₁, ek))
