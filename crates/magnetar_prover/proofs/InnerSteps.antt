-- An inner round, on the slices that hold the run.
-- Assumes nothing.
use mathlib.Core.Path.{◌≡◌, refl, sym, ap, ◌∙◌}
use mathlib.Core.List.{List, [], ◌∷◌, ◌++◌}
use Prim.Native.Nat.{ℕ, suc, ◌+◌, ◌-◌, ◌*◌, ◌/◌, ◌^◌, ◌<◌}
use native.Mathlib.Nat.{two-pow-succ}
use native.Mathlib.Omega.{arith}
use lib.ListN.{length, take}
use Rattle.magnetar_field.specs.Gf128.{value}
use Rattle.magnetar_field.specs.Words.{elements, words}
use Rattle.magnetar_multilinear.specs.Multilinear.{bind_var}
use Rattle.magnetar_hash.specs.Bytes.{word_bytes, ascii}
use Rattle.magnetar_hash.specs.declared.transcript.Transcript.{Transcript}
use Rattle.magnetar_hash.specs.Transcript as transcript
use Rattle.magnetar_sumcheck_verifier.specs.Inner.{inner_message, inner_sums}
use Rattle.magnetar_schedule.specs.Stepwise.{Steps, InnerSteps, inner_step, inner_steps}
use Rattle.magnetar_prover.specs.Entries.{table_at}
use Rattle.magnetar_prover.specs.InScratch.{inner_in}
use Rattle.magnetar_prover.proofs.Sent.{round-sent}

pub inner-three : (v : ℕ) (t z : List ℕ) → length (inner_message v t z) ≡ 3
unfolding inner_message inner_sums
inner-three v t z = refl

pub inner-eq : {p q : Steps} {t u y z : List ℕ} → p ≡ q → t ≡ u → y ≡ z
    → ◌≡◌ {A = InnerSteps} (record { steps = p; table = t; z = y }) (record { steps = q; table = u; z = z })
inner-eq {p} {q} {t} {u} {y} {z} e f g =
    ap (λ (x : Steps). record { steps = x; table = t; z = y }) e
    ∙ (ap (λ (x : List ℕ). record { steps = q; table = x; z = y }) f ∙ ap (λ (x : List ℕ). record { steps = q; table = u; z = x }) g)

pub inner-stepped : (m n k d c : ℕ) (t u : Transcript) (proof p' draws d' s s' : List ℕ)
    → u ≡ transcript.drawn (transcript.absorbed t (ascii "vs-inner") (word_bytes (words (inner_message 0 (table_at 0 n s) (table_at (2 * m) n s)))))
    (ascii "vs-inner")
    → take (k + 3) (elements p') ≡ take k (elements proof) ++ inner_message 0 (table_at 0 n s) (table_at (2 * m) n s)
    → c ≡ value (transcript.element u) → take (d + 1) (elements d') ≡ take d (elements draws) ++ (c ∷ [])
    → table_at 0 (n / 2) s' ≡ bind_var 0 c (table_at 0 n s) → table_at (2 * m) (n / 2) s' ≡ bind_var 0 c (table_at (2 * m) n s)
    → inner_in m (n / 2) (k + 3) (d + 1) u p' d' s' ≡ inner_step (inner_in m n k d t proof draws s)
unfolding inner_step
inner-stepped m n k d c t u proof p' draws d' s s' e f g h a b =
    let q = g ∙ ap (λ (x : Transcript). value (transcript.element x)) e in
    inner-eq (round-sent (ascii "vs-inner") t u proof p' draws d' (inner_message 0 (table_at 0 n s) (table_at (2 * m) n s)) k 3 d c e f g h)
    (a ∙ ap (λ (x : ℕ). bind_var 0 x (table_at 0 n s)) q) (b ∙ ap (λ (x : ℕ). bind_var 0 x (table_at (2 * m) n s)) q)

-- ---- the loop: what is left of the rounds, made from where the run stands, is all of them from the start
pub record Inners (k : ℕ) (start : InnerSteps) (i n : ℕ) (at : InnerSteps) : Type 0 where
  pub size : n ≡ 2 * 2 ^ (k - i)
  pub left : inner_steps (k - i) at ≡ inner_steps k start

steps-more : (j : ℕ) (q : InnerSteps) → inner_steps (suc j) q ≡ inner_steps j (inner_step q)
unfolding inner_steps
steps-more j q = refl

steps-none : (q : InnerSteps) → inner_steps 0 q ≡ q
unfolding inner_steps
steps-none q = refl

pub inners-more : {k i n : ℕ} {p q : InnerSteps} (q' : InnerSteps) → Inners k p i n q → i < k → q' ≡ inner_step q → Inners k p (i + 1) (n / 2) q'
inners-more {k} {i} {n} {p} {q} q' r h e = go (k - (i + 1)) refl
  where
    half : (j : ℕ) → n ≡ 2 * 2 ^ suc j → n / 2 ≡ 2 * 2 ^ j
    half j s = omega (arith, two-pow-succ j)

    go : (j : ℕ) → k - (i + 1) ≡ j → Inners k p (i + 1) (n / 2) q'
    go j f =
        let z : k - i ≡ suc j = omega arith in
        record {
          size = rw f (half j (rw z at r.size));
          left = rw (f, e) (sym (steps-more j q) ∙ rw z at r.left);
        }

pub inners-end : (k m i n : ℕ) (p : InnerSteps) (t : Transcript) (proof draws s : List ℕ) → Inners k p i n (inner_in m n (3 * i) i t proof draws s) → i ≡ k
    → inner_in m 2 (3 * k) k t proof draws s ≡ inner_steps k p
inners-end k m i n p t proof draws s r e =
    let z : k - i ≡ 0 = omega arith in
    let w : n ≡ 2 = (rw z at r.size) in
    ap (λ (j : ℕ). inner_in m 2 (3 * j) j t proof draws s) (sym e)
    ∙ (ap (λ (j : ℕ). inner_in m j (3 * i) i t proof draws s) (sym w)
    ∙ (sym (steps-none (inner_in m n (3 * i) i t proof draws s)) ∙ rw z at r.left))

pub inners-next : {k i n : ℕ} {p q : InnerSteps} (m : ℕ) (t : Transcript) (proof draws s : List ℕ) → Inners k p i n q → i < k
    → inner_in m (n / 2) (3 * i + 3) (i + 1) t proof draws s ≡ inner_step q
    → Inners k p (i + 1) (n / 2) (inner_in m (n / 2) (3 * (i + 1)) (i + 1) t proof draws s)
inners-next {k} {i} {n} m t proof draws s r h e =
    let j : 3 * (i + 1) ≡ 3 * i + 3 = omega arith in
    inners-more (inner_in m (n / 2) (3 * (i + 1)) (i + 1) t proof draws s) r h (ap (λ (a : ℕ). inner_in m (n / 2) a (i + 1) t proof draws s) j ∙ e)
