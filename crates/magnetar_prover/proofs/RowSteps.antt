-- A row round, on the slices that hold the run.
-- Assumes nothing.
use mathlib.Core.Path.{◌≡◌, refl, sym, ap, ◌∙◌}
use mathlib.Core.List.{List, [], ◌∷◌, ◌++◌}
use Prim.Native.Nat.{ℕ, zero, suc, ◌+◌, ◌-◌, ◌*◌, ◌/◌, ◌^◌, ◌≤◌, ◌<◌}
use Prim.Native.String.{String}
use native.Mathlib.Nat.{add-zero, two-pow-succ}
use native.Mathlib.Numerals.{add-one}
use native.Mathlib.Omega.{arith}
use lib.ListN.{length, get_or, take, drop}
use lib.Seq.{length-take-le, take-take, take-append-le, drop-drop, get_or-take, get_or-drop, take-nil}
use Rattle.magnetar_field.specs.Gf128.{value, ◌⊕◌, ◌⊗◌}
use Rattle.magnetar_field.specs.Sizes.{log₂}
use Rattle.magnetar_field.specs.Words.{elements, words}
use Rattle.magnetar_multilinear.specs.Multilinear.{bind_var}
use Rattle.magnetar_field.proofs.Log2.{log₂-pow}
use Rattle.magnetar_hash.specs.Bytes.{word_bytes}
use Rattle.magnetar_hash.specs.declared.transcript.Transcript.{Transcript}
use Rattle.magnetar_hash.specs.Transcript as transcript
use Rattle.magnetar_sumcheck_verifier.specs.Order.{next_var}
use Rattle.magnetar_sumcheck_verifier.specs.Outer.{outer_message, times_eq, drop_var}
use Rattle.magnetar_sumcheck_verifier.specs.Messages.{Outer, outer_next, outer_fold}
use Rattle.magnetar_schedule.specs.Schedule.{numbered}
use Rattle.magnetar_schedule.specs.Stepwise.{Steps, RowSteps, row_step, row_steps}
use Rattle.magnetar_prover.specs.Entries.{table_at}
use Rattle.magnetar_prover.specs.InScratch.{outer_in, row_in, Rows}
use Rattle.magnetar_prover.proofs.Slots.{take-of-drop}
use Rattle.magnetar_prover.proofs.Sent.{round-sent}

pub outer-four : (v k t : ℕ) (e a b c : List ℕ) → length (outer_message v k t e a b c) ≡ 4
unfolding outer_message times_eq
outer-four v k t e a b c = refl

-- the variables of a table, and of its half
pub vars-of : (n x : ℕ) → n ≡ 2 * 2 ^ x → x < 62 → log₂ (n / 2) ≡ x
vars-of n x e h = let q : n / 2 ≡ 2 ^ x = omega arith in rw q (log₂-pow x (omega arith))

pub vars-half : (n x : ℕ) → n ≡ 2 * 2 ^ suc x → suc x < 62 → log₂ (n / 2 / 2) ≡ x
vars-half n x e h = vars-of (n / 2) x (omega (arith, two-pow-succ x)) (omega arith)

drop-take-one : (y : ℕ) (l : List ℕ) → drop 1 (take (suc y) l) ≡ take y (drop 1 l)
drop-take-one y [] = sym (take-nil y)
drop-take-one y (z ∷ l) = refl

-- the tau that are left
tau-left : (y o d c : ℕ) (E F : List ℕ) → o + suc y ≤ d → d ≤ length E → take (d + 1) F ≡ take d E ++ (c ∷ [])
    → take y (drop (o + 1) F) ≡ drop 1 (take (suc y) (drop o E))
tau-left y o d c E F h l e =
    let f : take d F ≡ take d E = sym (take-take d (d + 1) F (omega arith)) ∙ (ap (take d) e ∙ (take-append-le d (take d E) (c ∷ []) (rw
    (length-take-le d E l) (omega arith)) ∙ take-take d d E (omega arith))) in
    sym (take-of-drop F (o + 1) y d (omega arith))
    ∙ (ap (λ (x : List ℕ). take y (drop (o + 1) x)) f
    ∙ (take-of-drop E (o + 1) y d (omega arith)
    ∙ (ap (take y) (sym (drop-drop 1 o E)) ∙ sym (drop-take-one y (drop o E)))))

first-tau : (y o : ℕ) (E : List ℕ) → get_or (take (suc y) (drop o E)) 0 0 ≡ get_or E o 0
first-tau y o E = get_or-take (suc y) (drop o E) 0 0 (omega arith) ∙ (get_or-drop o E 0 0 ∙ ap (λ (j : ℕ). get_or E j 0) (add-zero o))

pub outer-eq : {h : ℕ} {tau tau' : List ℕ} {k k' : ℕ} {e e' a a' b b' c c' : List ℕ} → tau ≡ tau' → k ≡ k' → e ≡ e' → a ≡ a' → b ≡ b' → c ≡ c'
    → ◌≡◌ {A = Outer} (record { high = h; tau = tau; k = k; e = e; a = a; b = b; c = c }) (record {
      high = h;
      tau = tau';
      k = k';
      e = e';
      a = a';
      b =
          b';
      c = c';
    })
outer-eq p q r s t u = rw (p, q, r, s, t, u)

row-eq : {p q : Steps} {g h : Outer} → p ≡ q → g ≡ h → ◌≡◌ {A = RowSteps} (record { steps = p; held = g }) (record { steps = q; held = h })
row-eq {p} {q} {g} {h} e f = ap (λ (x : Steps). record { steps = x; held = g }) e ∙ ap (λ (x : Outer). record { steps = q; held = x }) f

next-is : (k τ w n : ℕ) (tau s : List ℕ) → get_or tau 0 0 ≡ τ → outer_next (outer_in 0 tau k w n s)
    ≡ outer_message 0 k τ (drop_var 0 (table_at 0 n s)) (table_at w n s) (table_at (2 * w) n s) (table_at (3 * w) n s)
unfolding outer_next next_var
next-is k τ w n tau s e = rw e

fold_is : (k k' r τ w n : ℕ) (tau tau' s s' : List ℕ) → get_or tau 0 0 ≡ τ → tau' ≡ drop 1 tau → k' ≡ k ⊗ (1 ⊕ τ ⊕ r)
    → table_at 0 (n / 2) s' ≡ drop_var 0 (table_at 0 n s) → table_at w (n / 2) s' ≡ bind_var 0 r (table_at w n s)
    → table_at (2 * w) (n / 2) s' ≡ bind_var 0 r (table_at (2 * w) n s) → table_at (3 * w) (n / 2) s' ≡ bind_var 0 r (table_at (3 * w) n s)
    → outer_in 0 tau' k' w (n / 2) s' ≡ outer_fold r (outer_in 0 tau k w n s)
unfolding outer_fold next_var
fold_is k k' r τ w n tau tau' s s' e f g h a b c = outer-eq f (g ∙ ap (λ (x : ℕ). k ⊗ (1 ⊕ x ⊕ r)) (sym e)) h a b c

pub row-stepped : (label : String) (i y p d o k k' τ w n : ℕ) (t u : Transcript) (proof p' draws d' s s' : List ℕ)
    → n ≡ 2 * 2 ^ suc y → suc y < 62 → o + suc y ≤ d → d ≤ length (elements draws) → τ ≡ get_or (elements draws) o 0
    → u ≡ transcript.drawn (transcript.absorbed t (numbered label i) (word_bytes (words (outer_message 0 k τ (drop_var 0 (table_at 0 n s)) (table_at w n
    s) (table_at (2 * w) n s) (table_at (3 * w) n s))))) (numbered label i)
    → take (p + 4) (elements p') ≡ take p (elements proof) ++ outer_message 0 k τ (drop_var 0 (table_at 0 n s)) (table_at w n s) (table_at (2 * w) n
    s) (table_at (3 * w) n s)
    → take (d + 1) (elements d') ≡ take d (elements draws) ++ (value (transcript.element u) ∷ [])
    → k' ≡ k ⊗ (1 ⊕ τ ⊕ value (transcript.element u))
    → table_at 0 (n / 2) s' ≡ drop_var 0 (table_at 0 n s) → table_at w (n / 2) s' ≡ bind_var 0 (value (transcript.element u)) (table_at w n s)
    → table_at (2 * w) (n / 2) s' ≡ bind_var 0 (value (transcript.element u)) (table_at (2 * w) n s)
    → table_at (3 * w) (n / 2) s' ≡ bind_var 0 (value (transcript.element u)) (table_at (3 * w) n s)
    → row_in (p + 4) (d + 1) (o + 1) k' w (n / 2) u p' d' s' ≡ row_step label i (row_in p d o k w n t proof draws s)
unfolding row_step
row-stepped label i y p d o k k' τ w n t u proof p' draws d' s s' size few room long tau transcript-is sent drawn next e a b c =
    let x : log₂ (n / 2) ≡ suc y = vars-of n (suc y) size few in
    let z : log₂ (n / 2 / 2) ≡ y = vars-half n y size few in
    let g = first-tau y o (elements draws) ∙ sym tau in
    let m = next-is k τ w n (take (suc y) (drop o (elements draws))) s g in
    rw (x, z) (row-eq
    (round-sent (numbered label i) t u proof p' draws d' (outer_next (outer_in 0 (take (suc y) (drop o (elements draws))) k w n s)) p 4 d (value
    (transcript.element u))
    (transcript-is ∙ ap (λ (l : List ℕ). transcript.drawn (transcript.absorbed t (numbered label i) (word_bytes (words l))) (numbered label i)) (sym m))
    (sent ∙ ap (λ (l : List ℕ). take p (elements proof) ++ l) (sym m)) refl drawn)
    (fold_is k k' (value (transcript.element u)) τ w n (take (suc y) (drop o (elements draws))) (take y (drop (o + 1) (elements d'))) s s' g
    (tau-left y o d (value (transcript.element u)) (elements draws) (elements d') room long drawn) next e a b c
    ∙ ap (λ (v : Transcript). outer_fold (value (transcript.element v)) (outer_in 0 (take (suc y) (drop o (elements draws))) k w n s))
    (transcript-is ∙ ap (λ (l : List ℕ). transcript.drawn (transcript.absorbed t (numbered label i) (word_bytes (words l))) (numbered label i)) (sym m))))

-- ---- what stays in a block
pub front_same : (w m : ℕ) (x y : List ℕ) → m ≤ w → take w x ≡ take w y → take m x ≡ take m y
front_same w m x y h e = sym (take-take m w x h) ∙ (ap (take m) e ∙ take-take m w y h)

pub back-same : (w b : ℕ) (x y : List ℕ) → w ≤ b → drop w x ≡ drop w y → drop b x ≡ drop b y
back-same w b x y h e = from x ∙ (ap (drop (b - w)) e ∙ sym (from y))
  where
    from : (z : List ℕ) → drop b z ≡ drop (b - w) (drop w z)
    from z = let q : w + (b - w) ≡ b = omega arith in sym (drop-drop (b - w) w z ∙ ap (λ (j : ℕ). drop j z) q)

-- a row round, from what its parts leave
pub row_done : (label : String) (i p d o k k' τ w n : ℕ) (t u : Transcript) (proof p' draws d' s s₁ s' : List ℕ)
    → Rows n o d → n ≤ w → d ≤ length (elements draws) → τ ≡ get_or (elements draws) o 0
    → u ≡ transcript.drawn (transcript.absorbed t (numbered label i) (word_bytes (words (outer_message 0 k τ (drop_var 0 (table_at 0 n s)) (table_at w n
    s) (table_at (2 * w) n s) (table_at (3 * w) n s))))) (numbered label i)
    → take (p + 4) (elements p') ≡ take p (elements proof) ++ outer_message 0 k τ (drop_var 0 (table_at 0 n s)) (table_at w n s) (table_at (2 * w) n
    s) (table_at (3 * w) n s)
    → take (d + 1) (elements d') ≡ take d (elements draws) ++ (value (transcript.element u) ∷ [])
    → k' ≡ k ⊗ (1 ⊕ τ ⊕ value (transcript.element u))
    → table_at 0 (n / 2) s₁ ≡ drop_var 0 (table_at 0 n s) → drop w s₁ ≡ drop w s → take w s' ≡ take w s₁
    → table_at w (n / 2) s' ≡ bind_var 0 (value (transcript.element u)) (table_at w n s₁)
    → table_at (2 * w) (n / 2) s' ≡ bind_var 0 (value (transcript.element u)) (table_at (2 * w) n s₁)
    → table_at (3 * w) (n / 2) s' ≡ bind_var 0 (value (transcript.element u)) (table_at (3 * w) n s₁)
    → row_in (p + 4) (d + 1) (o + 1) k' w (n / 2) u p' d' s' ≡ row_step label i (row_in p d o k w n t proof draws s)
row_done label i p d o k k' τ w n t u proof p' draws d' s s₁ s' r fits long tau transcript-is sent drawn next e kept front a b c =
    go r.table.vars r.table.var r.table.few r.table.size
  where
    at : (j : ℕ) → w ≤ j → bind_var 0 (value (transcript.element u)) (table_at j n s₁) ≡ bind_var 0 (value (transcript.element u)) (table_at j n s)
    at j h = ap (λ (l : List ℕ). bind_var 0 (value (transcript.element u)) (elements (take n l))) (back-same w j s₁ s h kept)

    go : (x : ℕ) → 0 < x → x < 62 → n ≡ 2 * 2 ^ x → row_in (p + 4) (d + 1) (o + 1) k' w (n / 2) u p' d' s'
        ≡ row_step label i (row_in p d o k w n t proof draws s)
    go zero h f z = absurd (omega arith)
    go (suc y) h f z =
        let v : log₂ (n / 2) ≡ suc y = vars-of n (suc y) z f in
        row-stepped label i y p d o k k' τ w n t u proof p' draws d' s s' z f (omega (arith, r.before, v)) long tau transcript-is sent drawn next
        (ap elements (front_same w (n / 2) s' s₁ (omega arith) front) ∙ e)
        (a ∙ at w (omega arith)) (b ∙ at (2 * w) (omega arith)) (c ∙ at (3 * w) (omega arith))

-- ---- the loop
pub record Rowing (label : String) (x : ℕ) (start : RowSteps) (i n : ℕ) (at : RowSteps) : Type 0 where
  pub size : n ≡ 2 * 2 ^ (x - i)
  pub left : row_steps label i (x - i) at ≡ row_steps label 0 x start

steps-more : (label : String) (i j : ℕ) (q : RowSteps) → row_steps label i (suc j) q ≡ row_steps label (suc i) j (row_step label i q)
unfolding row_steps
steps-more label i j q = refl

steps-none : (label : String) (i : ℕ) (q : RowSteps) → row_steps label i 0 q ≡ q
unfolding row_steps
steps-none label i q = refl

pub rowing-rows : {label : String} {x i n : ℕ} {p q : RowSteps} (o d : ℕ) → Rowing label x p i n q → i < x → x < 62 → o + x ≤ d → Rows n (o + i) (d + i)
rowing-rows {label} {x} {i} {n} o d r h l f = record {
  table = record { vars = x - i; var = omega arith; few = omega arith; size = r.size };
  before = let v : log₂ (n / 2) ≡ x - i = vars-of n (x - i) r.size (omega arith) in omega (arith, v);
}

pub rowing-next : {label : String} {x i n : ℕ} {p q : RowSteps} (a d o k w : ℕ) (t : Transcript) (proof draws s : List ℕ) → Rowing label x p i n q → i < x
    → row_in (a + 4 * i + 4) (d + i + 1) (o + i + 1) k w (n / 2) t proof draws s ≡ row_step label i q
    → Rowing label x p (i + 1) (n / 2) (row_in (a + 4 * (i + 1)) (d + (i + 1)) (o + (i + 1)) k w (n / 2) t proof draws s)
rowing-next {label} {x} {i} {n} {p} {q} a d o k w t proof draws s r h e = go (x - (i + 1)) refl
  where
    u : a + 4 * (i + 1) ≡ a + 4 * i + 4
    u = omega arith

    v : d + (i + 1) ≡ d + i + 1
    v = omega arith

    y : o + (i + 1) ≡ o + i + 1
    y = omega arith

    half : (j : ℕ) → n ≡ 2 * 2 ^ suc j → n / 2 ≡ 2 * 2 ^ j
    half j z = omega (arith, two-pow-succ j)

    go : (j : ℕ) → x - (i + 1) ≡ j → Rowing label x p (i + 1) (n / 2) (row_in (a + 4 * (i + 1)) (d + (i + 1)) (o + (i + 1)) k w (n / 2) t proof draws s)
    go j f =
        let z : x - i ≡ suc j = omega arith in
        record {
          size = rw f (half j (rw z at r.size));
          left = rw (f, u, v, y, e, add-one) (sym (steps-more label i j q) ∙ rw z at r.left);
        }

pub rowing-end : (label : String) (x i n a d o k w : ℕ) (p : RowSteps) (t : Transcript) (proof draws s : List ℕ)
    → Rowing label x p i n (row_in (a + 4 * i) (d + i) (o + i) k w n t proof draws s) → i ≡ x
    → row_in (a + 4 * x) (d + x) (o + x) k w 2 t proof draws s ≡ row_steps label 0 x p
rowing-end label x i n a d o k w p t proof draws s r e =
    let z : x - i ≡ 0 = omega arith in
    let m : n ≡ 2 = (rw z at r.size) in
    ap (λ (j : ℕ). row_in (a + 4 * j) (d + j) (o + j) k w 2 t proof draws s) (sym e)
    ∙ (ap (λ (j : ℕ). row_in (a + 4 * i) (d + i) (o + i) k w j t proof draws s) (sym m)
    ∙ (sym (steps-none label i (row_in (a + 4 * i) (d + i) (o + i) k w n t proof draws s)) ∙ rw z at r.left))
