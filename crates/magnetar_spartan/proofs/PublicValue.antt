-- The public half folded at the point of the logins and taken at the low point: what the steps leave, and what it is in a run that has what it
-- asks for.
-- Assumes nothing.
use mathlib.Core.Path.{◌≡◌, refl, sym, ap, ◌∙◌}
use mathlib.Core.List.{List, ◌++◌, reverse, append_assoc}
use Prim.Native.Nat.{ℕ, ◌+◌, ◌-◌, ◌*◌, ◌/◌, ◌^◌, ◌≤◌, ◌<◌, min}
use native.Mathlib.Omega.{arith}
use lib.ListN.{length, take, drop, replicate, length-append, length-take, length-drop, length-replicate}
use lib.Seq.{take_at, drop_at, take-append-le, drop-append-le, drop-drop, length-take-le}
use borrow.Author.Tests.{lt-ltb, le-ltb, ne_eqb}
use Rattle.magnetar_field.specs.Sizes.{log₂}
use Rattle.magnetar_field.specs.Words.{elements, words, overlaid}
use Rattle.magnetar_field.proofs.Elements.{elements-length, words-length}
use Rattle.magnetar_field.proofs.Tabulation.{tabulate-length}
use Rattle.magnetar_multilinear.specs.EqTable.{eq_table}
use Rattle.magnetar_multilinear.specs.Entries.{eq_out}
use Rattle.magnetar_multilinear.specs.Multilinear.{dot, mle}
use Rattle.magnetar_multilinear.proofs.EqTables.{eq_table-length}
use Rattle.magnetar_layout.specs.Tests.{Sized, size_tests, public_tests, length_test, room_test}
use Rattle.magnetar_layout.proofs.FirstRefusal.{first-refusal-clear}
use Rattle.magnetar_layout.proofs.Laid.{half-size}
use Rattle.magnetar_layout.proofs.SizeLaws.{not-bad, sized-wider}
use Rattle.magnetar_matrix.specs.Batch.{public_folded}
use Rattle.magnetar_matrix.specs.Packed.{public_of}
use Rattle.magnetar_matrix.proofs.TableLaws.{elements-words}
use Rattle.magnetar_r1cs.proofs.Points.{log-most, point-of, eq-built}
use Rattle.magnetar_batch.specs.Entries.{public_in_refusal, public_in_out}
use Rattle.magnetar_batch.proofs.Rooms.{elements-take, elements-behind}
use Rattle.magnetar_protocol.specs.Draws.{draw_count, draws_of, login_point, low_point}
use Rattle.magnetar_verifier.proofs.Pieces.{elements-part}
use Rattle.magnetar_verifier.proofs.EndPhases.{cols}
use Rattle.magnetar_relation.specs.Rules.{Rules, relation_of}
use Rattle.magnetar_relation.specs.Steps.{cleared_to}
use Rattle.magnetar_spartan.specs.Refusals.{rows_bin, rows_fld, sizes_only_of}
use Rattle.magnetar_spartan.specs.ValidRules.{ValidRules}
use Rattle.magnetar_spartan.specs.Proving.{login_at}
use Rattle.magnetar_spartan.specs.Stages.{drawn_back, public_refusal, public_value, public_left, half_value, half_left}
use Rattle.magnetar_spartan.proofs.PassedTests.{first-refusal-none, size-passes, same-passes, most-passes}
use Rattle.magnetar_spartan.proofs.Ended.{log-few, draws-small}
use Rattle.magnetar_spartan.proofs.Room.{Beyond, in-front, over, cleared-same}
use Rattle.magnetar_spartan.proofs.DrawnTable.{low-drawn}
use Rattle.magnetar_spartan.proofs.FoldLaws.{point-reversed, half_length}

-- ---- a table of w elements in front of its eq table
module _ (w : ℕ) (s point u : List ℕ) (P : Sized 1 32768 w) (room : 4 * w ≤ length s) (lp : length point ≡ 2 * log₂ w)
    (e : u ≡ eq_out point 1 (take (4 * w - 2 * w) (drop (2 * w) s))) where
  behind : List ℕ
  behind = drop (4 * w - 2 * w) (drop (2 * w) s)

  front : length (take (2 * w) s) ≡ 2 * w
  front = length-take-le (2 * w) s (omega arith)

  lent : length (take (4 * w - 2 * w) (drop (2 * w) s)) ≡ 2 * w
  lent = simp (length-take, length-drop) (omega arith)

  built : u ≡ words (eq_table (elements point))
  built = e ∙ eq-built point (take (4 * w - 2 * w) (drop (2 * w) s))
      (point-of 1 w point (take (4 * w - 2 * w) (drop (2 * w) s)) (sized-wider 65536 (omega arith) P) lp lent)

  power : 2 ^ (length point / 2) ≡ w
  power = let k : length point / 2 ≡ log₂ w = omega arith in rw k (sym P.power)

  size : length u ≡ 4 * w - 2 * w
  size = rw (built, words-length, eq_table-length, elements-length) (omega (arith, power))

  pub front-dot : dot (elements (take (2 * w - 0) (take (2 * w) s ++ (u ++ drop (4 * w - 2 * w) (drop (2 * w) s)))))
      (elements (take (4 * w - 2 * w) (drop (2 * w) (take (2 * w) s ++ (u ++ drop (4 * w - 2 * w) (drop (2 * w) s)))))) ≡ mle (take w (elements s))
      (elements point)
  unfolding mle
  front-dot =
      let z : 2 * w - 0 ≡ 2 * w = omega arith in
      let r = drop (4 * w - 2 * w) (drop (2 * w) s) in
      rw (
        z,
        take_at (take (2 * w) s) (u ++ r) (2 * w) front,
        drop_at (take (2 * w) s) (u ++ r) (2 * w) front,
        take_at u r (4 * w - 2 * w) size,
        elements-take w s,
        built,
        elements-words (eq_table (elements point)),
      )

  pub front-behind : drop (4 * w) (take (2 * w) s ++ (u ++ drop (4 * w - 2 * w) (drop (2 * w) s))) ≡ drop (4 * w) s
  front-behind =
      let r = drop (4 * w - 2 * w) (drop (2 * w) s) in
      let l : length (take (2 * w) s ++ u) ≡ 4 * w = rw (length-append, front, size) (omega arith) in
      let k : 4 * w - 2 * w + 2 * w ≡ 4 * w = omega arith in
      let k' : 2 * w + (4 * w - 2 * w) ≡ 4 * w = omega arith in
      ap (drop (4 * w)) (sym (append_assoc (take (2 * w) s) u r))
      ∙ (drop_at (take (2 * w) s ++ u) r (4 * w) l ∙ (drop-drop (4 * w - 2 * w) (2 * w) s ∙ ap (λ (i : ℕ). drop i s) k'))

-- ---- the steps
module _ (m q : ℕ) (x p y s : List ℕ) where
  abbrev Is : ℕ → List ℕ → Type 0
  Is v s' = (v ≡ public_value m q x p y s) × (s' ≡ public_left m q x p s)

  pub public-short : length s < 2 * m + 2 * q → Is 0 s
  unfolding public_value public_left public_refusal
  public-short h = let b = lt-ltb (length s) (2 * m + 2 * q) h in (rw b, rw b)

  pub public-refused : (n : ℕ) (s' : List ℕ) → 2 * m + 2 * q ≤ length s → n ≡ public_in_refusal x q (m / 2) p s → (n ≡ 0 → ⊥)
      → s' ≡ public_in_out x q (m / 2) p s → Is 0 s'
  unfolding public_value public_left public_refusal
  public-refused n s' h e z f =
      let b = le-ltb (length s) (2 * m + 2 * q) h in
      let c = ne_eqb n 0 z in
      (rw (b, ← e, c), f ∙ rw (b, ← e, c))

  -- nothing is refused
  module _ (n : ℕ) (h : 2 * m + 2 * q ≤ length s) (e : n ≡ public_in_refusal x q (m / 2) p s) (z : n ≡ 0) where
    abbrev w : ℕ
    w = m / 2

    none : public_in_refusal x q w p s ≡ 0
    none = sym e ∙ z

    pub size_is : Sized 1 32768 w
    unfolding public_in_refusal
    size_is =
        let k = (first-refusal-clear 0 (size_tests (2 * w) q ++ public_tests (2 * w) q x ++ length_test (2 * log₂ q) p ++ room_test
        (2 * w + 2 * q) s) refl none).1 in
        not-bad (rw (← half-size w) at k.0)

    abbrev F : List ℕ
    F = public_folded q w (public_of q w x) (elements p)

    F-long : length F ≡ w
    F-long = half_length q w (public_of q w x) (elements p)

    -- the half, zeros and the rest
    folded-is : (s₁ : List ℕ) → s₁ ≡ public_in_out x q w p s → s₁ ≡ words F ++ (replicate (2 * q) 0 ++ drop (2 * w + 2 * q) s)
    folded-is s₁ f = f ∙ rw none

    pub half-front : (s₁ : List ℕ) → s₁ ≡ public_in_out x q w p s → take w (elements s₁) ≡ F
    half-front s₁ f =
        let r = replicate (2 * q) 0 ++ drop (2 * w + 2 * q) s in
        ap (λ (u : List ℕ). take w (elements u)) (folded-is s₁ f) ∙ (ap (take w) (elements-behind F r) ∙ take_at F (elements r) w F-long)

    beyond : (s₁ : List ℕ) → s₁ ≡ public_in_out x q w p s → Beyond (2 * m + 2 * q) s s₁
    beyond s₁ f =
        let t = words F ++ replicate (2 * q) 0 in
        let l : length t ≡ 2 * w + 2 * q = rw (length-append, words-length, F-long, length-replicate) in
        let g = in-front (2 * m + 2 * q) s t (drop (2 * w + 2 * q) s) (omega (arith, l)) (rw (l, length-drop) (omega (arith, h)))
        (ap (λ (i : ℕ). drop i s) (sym l)) in
        let d : s₁ ≡ t ++ drop (2 * w + 2 * q) s = folded-is s₁ f ∙ sym (append_assoc (words F) (replicate (2 * q) 0) (drop (2 * w + 2 * q) s)) in
        record { long = ap length d ∙ g.long; rest = ap (drop (2 * m + 2 * q)) d ∙ g.rest }

    pub public-some : (l v : ℕ) (s₁ s₂ s₃ : List ℕ) → s₁ ≡ public_in_out x q w p s → l ≡ log₂ w
        → v ≡ mle (take w (elements s₁)) (elements (take (2 * l) y)) → length s₂ ≡ length s₁ → drop (4 * w) s₂ ≡ drop (4 * w) s₁
        → s₃ ≡ cleared_to (m + q) s₂ → Is v s₃
    unfolding public_value public_left public_refusal
    public-some l v s₁ s₂ s₃ f el ev ls rs ec =
        let Z = size_is in
        let b = le-ltb (length s) (2 * m + 2 * q) h in
        let k : 2 * l ≡ min (2 * log₂ w) 32 = omega (arith, el, log-most w (omega (arith, Z.high)) Z.power) in
        let g = beyond s₁ f in
        let j : 4 * w + (2 * m + 2 * q - 4 * w) ≡ 2 * m + 2 * q = omega arith in
        let past : (u : List ℕ) → drop (2 * m + 2 * q) u ≡ drop (2 * m + 2 * q - 4 * w) (drop (4 * w) u) =
        λ u. sym (drop-drop (2 * m + 2 * q - 4 * w) (4 * w) u ∙ ap (λ (i : ℕ). drop i u) j) in
        let r : drop (2 * m + 2 * q) s₂ ≡ drop (2 * m + 2 * q) s = past s₂ ∙ (ap (drop (2 * m + 2 * q - 4 * w)) rs ∙ (sym (past s₁) ∙ g.rest)) in
        let d : 2 * (m + q) ≡ 2 * m + 2 * q = omega arith in (
          rw (b, none) (ev ∙ rw (half-front s₁ f, k)),
          rw (b, none) (ec ∙ cleared-same (m + q) s s₂ (omega (arith, h)) (record { long = ls ∙ g.long; rest = rw d r })),
        )

-- a point by its length and its elements
pub same_point : (m q : ℕ) (x p t y s : List ℕ) → length p ≡ 2 * length t → elements p ≡ t
    → (public_value m q x p y s ≡ public_value m q x (words t) y s) × (public_left m q x p s ≡ public_left m q x (words t) s)
unfolding public_value public_left public_refusal public_in_refusal
same_point m q x p t y s l e = (rw (words-length t, elements-words t, l, e), rw (words-length t, l))

-- ---- a run that has what it asks for
-- a part of the elements of words d in front of others
front-part : (k n : ℕ) (d b : List ℕ) → 2 * k + 2 * n ≤ length d → take n (drop k (elements (d ++ b))) ≡ take n (drop k (elements d))
front-part k n d b h =
    let e : 2 * k + 2 * n - 2 * k ≡ 2 * n = omega arith in
    let g : take (2 * n) (drop (2 * k) (d ++ b)) ≡ take (2 * n) (drop (2 * k) d) =
    ap (take (2 * n)) (drop-append-le (2 * k) d b (omega arith)) ∙ take-append-le (2 * n) (drop (2 * k) d) b (rw length-drop (omega arith)) in
    sym (elements-part k n (2 * k) (2 * k + 2 * n) (d ++ b) refl refl)
    ∙ (rw e (ap elements g) ∙ elements-part k n (2 * k) (2 * k + 2 * n) d refl refl)

-- the words d of the draws, in front of 256; the public words x; the room s
module _ (R : Rules) (P : ValidRules R) (x d s : List ℕ) (many : length d ≡ 2 * draw_count (sizes_only_of R)) (public : length x ≡ R.q * (R.m - 2))
    (room : 2 * R.m + 2 * R.q ≤ length s) where
  abbrev l : ℕ
  l = log₂ R.q

  abbrev k : ℕ
  k = login_at R.q (rows_bin R) (rows_fld R)

  abbrev all : List ℕ
  all = overlaid d (replicate 256 0)

  -- the draws of the shared rounds are among them
  drawn : 2 * k + 2 * l ≤ length d
  drawn = omega (arith, many)

  is_front : all ≡ d ++ drop (length d) (replicate 256 0)
  is_front = over d (omega (arith, many, draws-small R P))

  -- the point of the logins
  abbrev point : List ℕ
  point = login_point (draws_of (relation_of R) (elements d))

  point-is : drawn_back (min l 16) k all ≡ point
  unfolding login_point draws_of
  point-is =
      let e : min l 16 ≡ l = omega (arith, log-few P.logins) in
      let b : List ℕ = drop (length d) (replicate 256 0) in
      let h : k + l ≤ length (elements (d ++ b)) = rw (elements-length, length-append) (omega (arith, drawn)) in
      rw (e, is_front) (point-reversed (elements (d ++ b)) k l h ∙ ap reverse (front-part k l d b drawn))

  point-long : length point ≡ l
  point-long = ap length (sym point-is) ∙ (tabulate-length _ (min l 16) ∙ omega (arith, log-few P.logins))

  even : 2 * (R.m / 2) ≡ R.m
  even = (cols R.m (log₂ R.m) P.columns refl).even

  run_none : public_refusal R.m R.q x (words point) s ≡ 0
  unfolding public_refusal public_in_refusal
  run_none =
      let w = R.m / 2 in
      rw (le-ltb (length s) (2 * R.m + 2 * R.q) room) (first-refusal-none
      (size_tests (2 * w) R.q ++ public_tests (2 * w) R.q x ++ length_test (2 * l) (words point) ++ room_test (2 * w + 2 * R.q) s)
      (rw even (
        size-passes 2 65536 R.m P.columns,
        (
          size-passes 1 4096 R.q P.logins,
          (
            same-passes (length x) (R.q * (R.m - 2)) public,
            (
              same-passes (length (words point)) (2 * l) (words-length point ∙ ap (λ (n : ℕ). 2 * n) point-long),
              (most-passes (length s) (R.m + 2 * R.q) (omega (arith, room)), tt),
            ),
          ),
        ),
      )))

  -- the value and what is left, at the words of the draws
  pub run_value : half_value R.m R.q (rows_bin R) (rows_fld R) x all s
      ≡ mle (public_folded R.q (R.m / 2) (public_of R.q (R.m / 2) x) point) (low_point (relation_of R) (draws_of (relation_of R) (elements d)))
  unfolding public_value
  run_value = rw (point-is, run_none, elements-words point, low-drawn R P d many)

  pub run-left : half_left R.m R.q (rows_bin R) (rows_fld R) x all s ≡ cleared_to (R.m + R.q) s
  unfolding public_left
  run-left = rw (point-is, run_none)
