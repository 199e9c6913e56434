-- A batch with no bit outside the segments is laid out as the theory wants it.
-- Assumes nothing.
use mathlib.Core.Path.{◌≡◌, refl, sym, ap, ◌∙◌, subst₂}
use mathlib.Core.Bool.{Bool, true, false, not, ◌&&◌, ◌||◌}
use mathlib.Core.List.{List, [], ◌∷◌}
use Prim.Native.Nat.{ℕ, suc, ◌+◌, ◌-◌, ◌*◌, ◌/◌, ◌^◌, ◌≤◌, ◌<◌}
use native.Mathlib.Omega.{arith}
use borrow.Author.Tests.{lt-leb, le-ltb, le-leb}
use lib.Dec.{ltb, leb}
use lib.ListN.{length, get_or, take, drop, length-map, length-take, length-drop}
use lib.Seq.{get_or-take, get_or-drop}
use Rattle.magnetar_field.specs.Sizes.{log₂}
use Rattle.magnetar_layout.specs.Every.{every}
use Rattle.magnetar_matrix.specs.Batch.{Relation, Batch, bit_of, NoBitOutside}
use Rattle.magnetar_layout.specs.Layout.{next_multiple, offsets_from, end_from, offsets, layout_end, is_length, within, outside}
use Rattle.magnetar_theory.specs.Tau.{Zeros}
use Rattle.magnetar_theory.specs.Segment.{Segment, offset, ZeroOutside}
use Rattle.magnetar_theory.specs.Run.{AllZeroOutside}
use Rattle.magnetar_theory.specs.Gf128.{Element, element, gf128}
use Rattle.magnetar_protocol.specs.Theory.{els, batch_e, segments_e}
use Rattle.magnetar_protocol.specs.RunSizes.{SizedRelation, SizedBatch}
use Rattle.magnetar_protocol.proofs.Elements.{els-at}
use Rattle.magnetar_layout.proofs.Laid.{next-least, end-least}
use Rattle.magnetar_layout.proofs.Places.{first-length, next-aligned, none_below}

zeros_of : (t : List Element) → ((i : ℕ) → i < length t → get_or t i (element 0) ≡ element 0) → Zeros gf128 t
zeros_of [] h = tt
zeros_of (x ∷ t) h = (h 0 (omega arith), zeros_of t (λ i l. h (suc i) (omega arith)))

-- one segment more, of k columns from o on
lay : (g : Segment) (gs : List Segment) (c n o k : ℕ) (w : List Element) → offset g ≡ o → 2 ^ g.log_len ≡ k → c ≤ o → o + k ≤ n
    → Zeros gf128 (take (o - c) (drop c w)) → ZeroOutside gf128 (o + k) n gs w → ZeroOutside gf128 c n (g ∷ gs) w
lay g gs c n o k w eo ek h₁ h₂ h₃ h₄ = (
  rw eo h₁,
  rw (eo, ek) h₂,
  rw eo h₃,
  subst₂ (λ (s t : ℕ). ZeroOutside gf128 (s + t) n gs w) (sym eo) (sym ek) h₄,
)

-- a column behind the first segment, and one before it
behind : (o k y : ℕ) (t : Bool) → o + k ≤ y → t ≡ false → ((leb o y && ltb y (o + k)) || t) ≡ false
behind o k y t h e = rw (le-leb o y (omega arith), le-ltb y (o + k) h, e)

before : (o k y : ℕ) (t : Bool) → y < o → t ≡ false → ((leb o y && ltb y (o + k)) || t) ≡ false
before o k y t h e = rw (lt-leb o y h, e)

-- the entries from c on, below o, are zero
gap : (c o : ℕ) (w : List ℕ) → ((y : ℕ) → c ≤ y → y < o → get_or w y 0 ≡ 0) → Zeros gf128 (take (o - c) (drop c (els w)))
gap c o w z =
    zeros_of (take (o - c) (drop c (els w))) (λ i h.
    let s : i < o - c = omega (arith, length-take (o - c) (drop c (els w))) in
    get_or-take (o - c) (drop c (els w)) i (element 0) s ∙ get_or-drop c (els w) i (element 0) ∙ els-at w (c + i)
    ∙ ap element (z (c + i) (omega arith) (omega arith)))

-- the login's bits w: zero from c on at every column that no segment from c on holds
laid_from : (v n c : ℕ) (ns w : List ℕ) → every (is_length v) ns ≡ true → end_from c ns ≤ n → length w ≤ n
    → ((y : ℕ) → c ≤ y → y < n → within (offsets_from c ns) ns y ≡ false → get_or w y 0 ≡ 0)
    → ZeroOutside gf128 c n (segments_e (offsets_from c ns) ns) (els w)
unfolding offsets_from end_from within
laid_from v n c [] w e f l z =
    zeros_of (drop c (els w)) (λ i h. get_or-drop c (els w) i (element 0) ∙ els-at w (c + i)
    ∙ ap element (z (c + i) (omega arith) (omega (arith, length-drop c (els w), length-map w element)) refl))
laid_from v n c (k ∷ ns) w e f l z =
    let p = first-length v k ns e in
    let o = next_multiple c k in
    let least : c ≤ o = next-least c k p.0.least in
    let ends : o + k ≤ end_from (o + k) ns = end-least v (o + k) ns p.1 in
    lay (record { log_len = log₂ k; number = o / k }) (segments_e (offsets_from (o + k) ns) ns) c n o k (els w)
    (ap (λ (s : ℕ). o / k * s) (sym p.0.power) ∙ next-aligned c k p.0.least) (sym p.0.power) least (omega (arith, ends))
    (gap c o w (λ y h₁ h₂. z y h₁ (omega (arith, ends))
    (before o k y (within (offsets_from (o + k) ns) ns y) h₂ (none_below v (o + k) ns y p.1 (omega arith)))))
    (laid_from v n (o + k) ns w p.1 f l (λ y h₁ h₂ h₃. z y (omega (arith, least)) h₂
    (behind o k y (within (offsets_from (o + k) ns) ns y) h₁ h₃)))

-- ---- every login
logins-laid : (v n : ℕ) (ns : List ℕ) (b : Batch) → every (is_length v) ns ≡ true → end_from 0 ns ≤ n
    → ((u : ℕ) → u < length b → length (get_or b u []) ≤ n)
    → ((u y : ℕ) → u < length b → y < n → within (offsets_from 0 ns) ns y ≡ false → get_or (get_or b u []) y 0 ≡ 0)
    → AllZeroOutside gf128 n (segments_e (offsets_from 0 ns) ns) (batch_e b)
logins-laid v n ns [] e f l z = tt
logins-laid v n ns (w ∷ b) e f l z = (
  laid_from v n 0 ns w e f (l 0 (omega arith)) (λ y h₁ h₂ h₃. z 0 y (omega arith) h₂ h₃),
  logins-laid v n ns b e f (λ u h. l (suc u) (omega arith)) (λ u y h₁ h₂ h₃. z (suc u) y (omega arith) h₂ h₃),
)

pub laid_out : (r : Relation) (b : Batch) → SizedRelation r → SizedBatch r b → NoBitOutside r b
    → AllZeroOutside gf128 (r.m / 2) (segments_e (offsets r.lengths) r.lengths) (batch_e b)
unfolding offsets layout_end outside bit_of
laid_out r b R B z =
    logins-laid (r.m / 2) (r.m / 2) r.lengths b R.layout.lengths R.layout.ends
    (λ u h. omega (arith, B.columns u (omega (arith, B.logins)))) (λ u y h₁ h₂ h₃. z u y (omega (arith, B.logins)) h₂ (ap not h₃))
