-- The walk over the logins of a system: the words it leaves, and the first login with a row that does not hold.
-- Assumes nothing.
use Rattle.std.specs.Prelude.{◌≡◌, ℕ, zero, suc, ◌+◌, ◌*◌, ◌<◌, ◌≤◌, Bool, true, false, eqb, List, [], ◌++◌, length, get_or, take, drop}
use mathlib.Core.Path.{refl, sym, ap, ◌∙◌}
use mathlib.Core.List.{append_assoc}
use native.Mathlib.Omega.{arith}
use lib.ListN.{length-append, length-drop, get_or-append}
use lib.Seq.{take_at, drop_at, drop-drop, get_or-append-add}
use borrow.Author.Tests.{eqb-true, eqb-false, le-leb}
use Rattle.magnetar_field.specs.Gf128.{◌⊗◌}
use Rattle.magnetar_field.specs.Words.{elements, words}
use Rattle.magnetar_field.specs.Tabulate.{tabulate}
use Rattle.magnetar_field.proofs.Elements.{words-length, words_append}
use Rattle.magnetar_field.proofs.Tabulation.{tabulate-length, tabulate-get}
use Rattle.magnetar_matrix.specs.Matrix.{Matrix, System, row_total, share, times_at}
use Rattle.magnetar_matrix.specs.Batch.{row_holds}
use Rattle.magnetar_matrix.specs.RowCheck.{first_not, failing_row, holds_at}
use Rattle.magnetar_matrix.proofs.FirstRow.{first-ext, Below}
use Rattle.magnetar_matrix.proofs.Verdicts.{first-le}
use Rattle.magnetar_matrix.proofs.TableLaws.{elements-words}
use Rattle.magnetar_relation.specs.Steps.{login_z, cleared_to, added_all}
use Rattle.magnetar_relation.proofs.TableWords.{cleared-added}
use Rattle.magnetar_check.specs.CheckSteps.{product_behind, twice_of, three_in, row_in, Judged, login_done, system_done}
use Rattle.magnetar_check.proofs.RowWalk.{behind-at, product_is, failing-here, failing-none, done-some, done_none}

-- ---- three products one behind the other
module _ (a b c : ℕ → ℕ) (n : ℕ) where
  abbrev three : List ℕ
  three = tabulate a n ++ (tabulate b n ++ tabulate c n)

  first_part : (i : ℕ) → i < n → get_or three i 0 ≡ a i
  first_part i h = get_or-append (tabulate a n) (tabulate b n ++ tabulate c n) 0 i (rw tabulate-length h) ∙ tabulate-get a n i 0 h

  second-part : (i : ℕ) → i < n → get_or three (n + i) 0 ≡ b i
  second-part i h =
      let l : length (tabulate a n) ≡ n = tabulate-length a n in
      let rest = tabulate b n ++ tabulate c n in
      let e : get_or three (length (tabulate a n) + i) 0 ≡ get_or rest i 0 = get_or-append-add (tabulate a n) rest i 0 in
      (rw l at e) ∙ (get_or-append (tabulate b n) (tabulate c n) 0 i (rw tabulate-length h) ∙ tabulate-get b n i 0 h)

  third-part : (i : ℕ) → i < n → get_or three (2 * n + i) 0 ≡ c i
  third-part i h =
      let l : length (tabulate a n) ≡ n = tabulate-length a n in
      let k : length (tabulate b n) ≡ n = tabulate-length b n in
      let rest = tabulate b n ++ tabulate c n in
      let e : get_or three (length (tabulate a n) + (n + i)) 0 ≡ get_or rest (n + i) 0 = get_or-append-add (tabulate a n) rest (n + i) 0 in
      let f : get_or rest (length (tabulate b n) + i) 0 ≡ get_or (tabulate c n) i 0 = get_or-append-add (tabulate b n) (tabulate c n) i 0 in
      let d : 2 * n + i ≡ n + (n + i) = omega arith in
      rw d ((rw l at e) ∙ ((rw k at f) ∙ tabulate-get c n i 0 h))

  holds-is : first_not (holds_at (elements (words (tabulate a n) ++ (words (tabulate b n) ++ words (tabulate c n)))) n) n
      ≡ first_not (λ i. eqb (a i ⊗ b i) (c i)) n
  unfolding holds_at
  holds-is =
      let s = words (tabulate a n) ++ (words (tabulate b n) ++ words (tabulate c n)) in
      let w : s ≡ words three = rw (← words_append (tabulate b n) (tabulate c n)) (sym (words_append (tabulate a n) (tabulate b n ++ tabulate c n))) in
      let t : elements s ≡ three = ap elements w ∙ elements-words three in
      rw t (first-ext (holds_at three n) (λ i. eqb (a i ⊗ b i) (c i)) n (λ i h. rw (first_part i h, second-part i h, third-part i h)))

-- ---- a login's three products
module _ (z : List ℕ) (t : System) where
  abbrev n : ℕ
  n = t.a.rows

  -- the words of a matrix's product
  abbrev times_words : Matrix → List ℕ
  times_words a = words (tabulate (row_total (share z) a.entries) n)

  abbrev products : List ℕ
  products = times_words t.a ++ (times_words t.b ++ times_words t.c)

  one-length : (a : Matrix) → length (times_words a) ≡ 2 * n
  one-length a =
      let f = row_total (share z) a.entries in
      words-length (tabulate f n) ∙ ap (λ (k : ℕ). 2 * k) (tabulate-length f n)

  products-length : length products ≡ 6 * n
  products-length = rw (length-append, length-append, one-length t.a, one-length t.b, one-length t.c) (omega arith)

  -- a product behind other words
  product_at : (m : ℕ) (a : Matrix) (l r : List ℕ) → length l ≡ 2 * m → 2 * n ≤ length r
      → product_behind m n z a (l ++ r) ≡ l ++ (times_words a ++ drop (2 * n) r)
  product_at m a l r e h =
      product_is m n z a (l ++ r) ∙ (behind-at m (λ u. added_all n (share z) a.entries (cleared_to n u)) l r e
      ∙ ap (λ (u : List ℕ). l ++ u) (cleared-added n (share z) a.entries r h))

  three-is : (s : List ℕ) → n ≤ 65536 → 6 * n ≤ length s → three_in z t s ≡ products ++ drop (6 * n) s
  unfolding three_in
  three-is s hn h =
      let A = times_words t.a in
      let B = times_words t.b in
      let C = times_words t.c in
      let d₁ : List ℕ = drop (2 * n) s in
      let d₂ : List ℕ = drop (2 * n) d₁ in
      let d₃ : List ℕ = drop (2 * n) d₂ in
      let l₁ : 2 * n ≤ length d₁ = rw length-drop (omega arith) in
      let l₂ : 2 * n ≤ length d₂ = rw (length-drop, length-drop) (omega arith) in
      let tw : twice_of n ≡ 2 * n = omega arith in
      let la : length A ≡ 2 * n = one-length t.a in
      let lb : length B ≡ 2 * n = one-length t.b in
      let lab : length (A ++ B) ≡ 2 * (2 * n) = rw length-append (omega (arith, la, lb)) in
      let e₁ : product_behind 0 n z t.a s ≡ A ++ d₁ = product_at 0 t.a [] s refl (omega arith) in
      let e₂ : product_behind n n z t.b (A ++ d₁) ≡ A ++ (B ++ d₂) = product_at n t.b A d₁ la l₁ in
      let e₃ : product_behind (2 * n) n z t.c ((A ++ B) ++ d₂) ≡ (A ++ B) ++ (C ++ d₃) = product_at (2 * n) t.c (A ++ B) d₂ lab l₂ in
      let six : 2 * n + 2 * n + 2 * n ≡ 6 * n = omega arith in
      let d : d₃ ≡ drop (6 * n) s =
      ap (drop (2 * n)) (drop-drop (2 * n) (2 * n) s) ∙ (drop-drop (2 * n) (2 * n + 2 * n) s ∙ ap (λ (k : ℕ). drop k s) six) in
      let g : three_in z t s ≡ (A ++ B) ++ (C ++ d₃) =
      ap (λ (i : ℕ). product_behind i n z t.c (product_behind n n z t.b (product_behind 0 n z t.a s))) tw
      ∙ (ap (λ (u : List ℕ). product_behind (2 * n) n z t.c (product_behind n n z t.b u)) e₁
      ∙ (ap (product_behind (2 * n) n z t.c) (e₂ ∙ sym (append_assoc A B d₂)) ∙ e₃)) in
      g ∙ (append_assoc A B (C ++ d₃) ∙ (ap (λ (l : List ℕ). A ++ l) (sym (append_assoc B C d₃))
      ∙ (sym (append_assoc A (B ++ C) d₃) ∙ ap (λ (l : List ℕ). (A ++ (B ++ C)) ++ l) d)))

  three-length : (s : List ℕ) → n ≤ 65536 → 6 * n ≤ length s → length (three_in z t s) ≡ length s
  three-length s hn h = ap length (three-is s hn h) ∙ rw (length-append, length-drop) (omega (arith, products-length, h))

  three-behind : (s : List ℕ) → n ≤ 65536 → 6 * n ≤ length s → drop (6 * n) (three_in z t s) ≡ drop (6 * n) s
  three-behind s hn h = ap (drop (6 * n)) (three-is s hn h) ∙ drop_at products (drop (6 * n) s) (6 * n) products-length

  three-row : (s : List ℕ) → n ≤ 65536 → 6 * n ≤ length s → row_in n (three_in z t s) ≡ failing_row t z
  unfolding row_in failing_row row_holds times_at
  three-row s hn h =
      let k : 6 * n ≤ length (three_in z t s) = rw (three-length s hn h) h in
      let e : take (6 * n) (three_in z t s) ≡ products = ap (take (6 * n)) (three-is s hn h) ∙ take_at products (drop (6 * n) s) (6 * n) products-length in
      rw (le-leb (6 * n) (length (three_in z t s)) k, e)
      (holds-is (row_total (share z) t.a.entries) (row_total (share z) t.b.entries) (row_total (share z) t.c.entries) n)

pub row-most : (t : System) (z : List ℕ) → failing_row t z ≤ t.a.rows
unfolding failing_row
row-most t z = first-le (row_holds t z) t.a.rows

-- ---- one login
module _ (k : ℕ) (z : List ℕ) (t : System) (u : ℕ) (p : Judged) (hn : t.a.rows ≤ 65536) (room : 6 * t.a.rows ≤ length p.left) where
  abbrev next : Judged
  next = login_done k z t u p

  abbrev rows : ℕ
  rows = t.a.rows

  next-length : length next.left ≡ length p.left
  next-length = go (eqb p.found.kind 0) refl
    where
      go : (b : Bool) → eqb p.found.kind 0 ≡ b → length next.left ≡ length p.left
      go true b = ap (λ (v : Judged). length v.left) (done_none k z t u p (eqb-true _ 0 b)) ∙ three-length z t p.left hn room
      go false b = ap (λ (v : Judged). length v.left) (done-some k z t u p (eqb-false _ 0 b))

  next-behind : drop (6 * rows) next.left ≡ drop (6 * rows) p.left
  next-behind = go (eqb p.found.kind 0) refl
    where
      go : (b : Bool) → eqb p.found.kind 0 ≡ b → drop (6 * rows) next.left ≡ drop (6 * rows) p.left
      go true b = ap (λ (v : Judged). drop (6 * rows) v.left) (done_none k z t u p (eqb-true _ 0 b)) ∙ three-behind z t p.left hn room
      go false b = ap (λ (v : Judged). drop (6 * rows) v.left) (done-some k z t u p (eqb-false _ 0 b))

  -- a login whose rows all hold, and one with a row that does not
  next-none : p.found.kind ≡ 0 → failing_row t z ≡ rows → next.found ≡ p.found
  next-none h e =
      ap (λ (v : Judged). v.found) (done_none k z t u p h)
      ∙ sym (failing-none p.found k u rows (failing_row t z) (three_in z t p.left) (sym (three-row z t p.left hn room)) (omega (arith, e)))

  next_here : p.found.kind ≡ 0 → failing_row t z < rows → next.found ≡ record { kind = k; login = u; place = failing_row t z }
  next_here h l =
      ap (λ (v : Judged). v.found) (done_none k z t u p h)
      ∙ sym (failing-here p.found k u rows (failing_row t z) (three_in z t p.left) (sym (three-row z t p.left hn room)) l)

-- ---- one login after the other
module _ (k w : ℕ) (ws x : List ℕ) (t : System) (p : Judged) (hn : t.a.rows ≤ 65536) (room : 6 * t.a.rows ≤ length p.left) where
  abbrev after : ℕ → Judged
  after u = system_done k w ws x t u p

  abbrev zAt : ℕ → List ℕ
  zAt u = login_z w ws x u

  abbrev row : ℕ → ℕ
  row u = failing_row t (zAt u)

  abbrev test : ℕ → Bool
  test u = eqb (row u) t.a.rows

  pub length-kept : (u : ℕ) → length (after u).left ≡ length p.left
  unfolding system_done
  length-kept zero = refl
  length-kept (suc u) = next-length k (zAt u) t u (after u) hn (rw (length-kept u) room) ∙ length-kept u

  room_at : (u : ℕ) → 6 * t.a.rows ≤ length (after u).left
  room_at u = rw (length-kept u) room

  pub behind-kept : (u : ℕ) → drop (6 * t.a.rows) (after u).left ≡ drop (6 * t.a.rows) p.left
  unfolding system_done
  behind-kept zero = refl
  behind-kept (suc u) = next-behind k (zAt u) t u (after u) hn (room_at u) ∙ behind-kept u

  module _ (z : p.found.kind ≡ 0) where
    pub found_none : (u : ℕ) → Below test u → (after u).found ≡ p.found
    unfolding system_done
    found_none zero below = refl
    found_none (suc u) below =
        let e = found_none u (λ j l. below j (omega arith)) in
        next-none k (zAt u) t u (after u) hn (room_at u) (rw e z) (eqb-true (row u) t.a.rows (below u (omega arith))) ∙ e

    pub found_first : (k ≡ 0 → ⊥) → (u v : ℕ) → v < u → Below test v → test v ≡ false → (after u).found ≡ record { kind = k; login = v; place = row v }
    unfolding system_done
    found_first some zero v l below q = absurd (omega arith)
    found_first some (suc u) v l below q = go (eqb v u) refl (λ l. found_first some u v l below q)
      where
        apart : (v u : ℕ) → v < suc u → (v ≡ u → ⊥) → v < u
        apart v u h d = omega arith

        under : (i n : ℕ) → i ≤ n → (i ≡ n → ⊥) → i < n
        under i n h d = omega arith

        go : (b : Bool) → eqb v u ≡ b → (v < u → (after u).found ≡ record { kind = k; login = v; place = row v })
            → (login_done k (zAt u) t u (after u)).found ≡ record { kind = k; login = v; place = row v }
        go true b again =
            let e : v ≡ u = eqb-true v u b in
            let f : row v < t.a.rows = under (row v) t.a.rows (row-most t (zAt v)) (eqb-false (row v) t.a.rows q) in
            let y = found_none u (rw e at below) in
            rw e (next_here k (zAt u) t u (after u) hn (room_at u) (rw y z) (rw e at f))
        go false b again =
            let y = again (apart v u l (eqb-false v u b)) in
            ap (λ (d : Judged). d.found) (done-some k (zAt u) t u (after u) (rw y some)) ∙ y
