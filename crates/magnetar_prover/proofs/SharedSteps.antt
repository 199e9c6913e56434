-- A shared round, on the slices that hold the run.
-- Assumes nothing.
use mathlib.Core.Path.{◌≡◌, refl, sym, ap, ap₂, ◌∙◌}
use mathlib.Core.List.{List, [], ◌∷◌, ◌++◌, append-nil}
use Prim.Native.Nat.{ℕ, suc, ◌+◌, ◌-◌, ◌*◌, ◌/◌, ◌^◌, ◌≤◌, ◌<◌}
use native.Mathlib.Nat.{add-zero, two-pow-succ}
use native.Mathlib.Numerals.{add-one}
use native.Mathlib.Omega.{arith}
use lib.ListN.{length, get_or, take, drop, length-drop, drop_of_length-le}
use lib.Seq.{length-take-le, take-take, take-append-le, get_or-take, get_or-drop}
use Rattle.magnetar_field.specs.Gf128.{value, ◌⊕◌, ◌⊗◌}
use Rattle.magnetar_field.specs.Words.{elements, words}
use Rattle.magnetar_multilinear.specs.Multilinear.{bind_var}
use Rattle.magnetar_hash.specs.Bytes.{word_bytes}
use Rattle.magnetar_hash.specs.declared.transcript.Transcript.{Transcript}
use Rattle.magnetar_hash.specs.Transcript as transcript
use Rattle.magnetar_sumcheck_verifier.specs.Order.{next_var}
use Rattle.magnetar_sumcheck_verifier.specs.Outer.{drop_var}
use Rattle.magnetar_sumcheck_verifier.specs.Messages.{Outer, outer_next, outer_fold}
use Rattle.magnetar_schedule.specs.Schedule.{numbered}
use Rattle.magnetar_schedule.specs.Stepwise.{Steps, OuterSteps, shared_step, shared_steps}
use Rattle.magnetar_prover.specs.Entries.{table_at}
use Rattle.magnetar_prover.specs.InScratch.{steps_in, outer_in}
use Rattle.magnetar_prover.specs.Shared.{message_in, Dropped, Folded, shared_in, Shared}
use Rattle.magnetar_prover.proofs.Slots.{take-of-drop}
use Rattle.magnetar_prover.proofs.Sent.{round-sent}
use Rattle.magnetar_prover.proofs.RowSteps.{outer-eq, front_same, back-same}

next-high : (y v k τ w n : ℕ) (tau s : List ℕ) → length tau - 1 ≡ v → get_or tau v 0 ≡ τ → outer_next (outer_in (suc y) tau k w n s) ≡ message_in v k τ w n s
unfolding outer_next next_var
next-high y v k τ w n tau s l e = rw (l, e)

fold-high : (y v k k' r τ w n : ℕ) (tau tau' s s' : List ℕ) → length tau - 1 ≡ v → get_or tau v 0 ≡ τ → tau' ≡ take v tau ++ drop (suc v) tau → k'
    ≡ k ⊗ (1 ⊕ τ ⊕ r)
    → table_at 0 (n / 2) s' ≡ drop_var v (table_at 0 n s) → table_at w (n / 2) s' ≡ bind_var v r (table_at w n s)
    → table_at (2 * w) (n / 2) s' ≡ bind_var v r (table_at (2 * w) n s) → table_at (3 * w) (n / 2) s' ≡ bind_var v r (table_at (3 * w) n s)
    → outer_in y tau' k' w (n / 2) s' ≡ outer_fold r (outer_in (suc y) tau k w n s)
unfolding outer_fold next_var
fold-high y v k k' r τ w n tau tau' s s' l e f g h a b c =
    outer-eq
    (f ∙ ap (λ (j : ℕ). take j tau ++ drop (suc j) tau) (sym l))
    (g ∙ (ap (λ (x : ℕ). k ⊗ (1 ⊕ x ⊕ r)) (sym e) ∙ ap (λ (j : ℕ). k ⊗ (1 ⊕ get_or tau j 0 ⊕ r)) (sym l)))
    (h ∙ ap (λ (j : ℕ). drop_var j (table_at 0 n s)) (sym l))
    (a ∙ ap (λ (j : ℕ). bind_var j r (table_at w n s)) (sym l))
    (b ∙ ap (λ (j : ℕ). bind_var j r (table_at (2 * w) n s)) (sym l))
    (c ∙ ap (λ (j : ℕ). bind_var j r (table_at (3 * w) n s)) (sym l))

-- one of the systems, whose variable v is its highest: its next message, and what it holds after the round
module _ (y v o d k k' τ w n c : ℕ) (E F s s₁ s' : List ℕ) (room : o + suc v ≤ d) (long : d ≤ length E) (fits : n ≤ w) (tau : τ ≡ get_or E (o + v) 0)
    (drawn : take (d + 1) F ≡ take d E ++ (c ∷ [])) (next : k' ≡ k ⊗ (1 ⊕ τ ⊕ c)) (D : Dropped v w n s s₁) (G : Folded v c w n s₁ s') where
  abbrev left : List ℕ
  left = take (suc v) (drop o E)

  many : length left ≡ suc v
  many = length-take-le (suc v) (drop o E) (omega (arith, length-drop o E))

  var : length left - 1 ≡ v
  var = omega (arith, many)

  last : get_or left v 0 ≡ τ
  last = get_or-take (suc v) (drop o E) v 0 (omega arith) ∙ (get_or-drop o E v 0 ∙ sym tau)

  same : take d F ≡ take d E
  same =
      sym (take-take d (d + 1) F (omega arith))
      ∙ (ap (take d) drawn
      ∙ (take-append-le d (take d E) (c ∷ []) (omega (arith, length-take-le d E long)) ∙ take-take d d E (omega arith)))

  fewer : take v (drop o F) ≡ take v left ++ drop (suc v) left
  fewer =
      sym (take-of-drop F o v d (omega arith))
      ∙ (ap (λ (x : List ℕ). take v (drop o x)) same
      ∙ (take-of-drop E o v d (omega arith)
      ∙ (sym (take-take v (suc v) (drop o E) (omega arith))
      ∙ (sym (append-nil (take v left)) ∙ ap (λ (x : List ℕ). take v left ++ x) (sym (drop_of_length-le left {i = suc v} (omega (arith, many))))))))

  pub high-next : outer_next (outer_in (suc y) left k w n s) ≡ message_in v k τ w n s
  high-next = next-high y v k τ w n left s var last

  at : (j : ℕ) → w ≤ j → bind_var v c (table_at j n s₁) ≡ bind_var v c (table_at j n s)
  at j h = ap (λ (l : List ℕ). bind_var v c (elements (take n l))) (back-same w j s₁ s h D.kept)

  pub high-fold : outer_in y (take v (drop o F)) k' w (n / 2) s' ≡ outer_fold c (outer_in (suc y) left k w n s)
  high-fold =
      fold-high y v k k' c τ w n left (take v (drop o F)) s s' var last fewer next
      (ap elements (front_same w (n / 2) s' s₁ (omega arith) G.e) ∙ D.dropped)
      (G.a ∙ at w (omega arith)) (G.b ∙ at (2 * w) (omega arith)) (G.c ∙ at (3 * w) (omega arith))

steps-eq : {p q : Steps} {a b c d : Outer} → p ≡ q → a ≡ b → c ≡ d
    → ◌≡◌ {A = OuterSteps} (record { steps = p; bin = a; fld = c }) (record { steps = q; bin = b; fld = d })
steps-eq {p} {q} {a} {b} {c} {d} e f g =
    ap (λ (x : Steps). record { steps = x; bin = a; fld = c }) e
    ∙ (ap (λ (x : Outer). record { steps = q; bin = x; fld = c }) f
    ∙ ap (λ (x : Outer). record { steps = q; bin = b; fld = x }) g)

both-stepped : (i p d : ℕ) (t u : Transcript) (proof p' draws d' m : List ℕ) (S T S' T' : Outer) → outer_next S ++ outer_next T ≡ m
    → u ≡ transcript.drawn (transcript.absorbed t (numbered "vs-out-shared-" i) (word_bytes (words m))) (numbered "vs-out-shared-" i)
    → take (p + 8) (elements p') ≡ take p (elements proof) ++ m
    → take (d + 1) (elements d') ≡ take d (elements draws) ++ (value (transcript.element u) ∷ [])
    → S' ≡ outer_fold (value (transcript.element u)) S → T' ≡ outer_fold (value (transcript.element u)) T
    → ◌≡◌ {A = OuterSteps} (record { steps = steps_in (p + 8) (d + 1) u p' d'; bin = S'; fld = T' }) (shared_step i (record {
      steps = steps_in p d t
          proof draws;
      bin = S;
      fld = T;
    }))
unfolding shared_step
both-stepped i p d t u proof p' draws d' m S T S' T' e transcript-is sent drawn f g =
    let k = transcript-is ∙ ap (λ (l : List ℕ). transcript.drawn (transcript.absorbed t (numbered "vs-out-shared-" i) (word_bytes (words l)))
    (numbered "vs-out-shared-" i)) (sym e) in
    steps-eq
    (round-sent (numbered "vs-out-shared-" i) t u proof p' draws d' (outer_next S ++ outer_next T) p 8 d (value (transcript.element u)) k
    (sent ∙ ap (λ (l : List ℕ). take p (elements proof) ++ l) (sym e)) refl drawn)
    (f ∙ ap (λ (v : Transcript). outer_fold (value (transcript.element v)) S) k)
    (g ∙ ap (λ (v : Transcript). outer_fold (value (transcript.element v)) T) k)

-- a shared round, from what its parts leave
pub shared-done : (i h b f o q p d kb kb' kf kf' ub uf wb nb wf nf : ℕ) (t u : Transcript) (proof p' draws d' s s₁ s' : List ℕ)
    → Shared h b nb o d → Shared h f nf q d → nb ≤ wb → nf ≤ wf → d ≤ length (elements draws)
    → ub ≡ get_or (elements draws) (o + (h + b - 1)) 0 → uf ≡ get_or (elements draws) (q + (h + f - 1)) 0
    → u ≡ transcript.drawn (transcript.absorbed t (numbered "vs-out-shared-" i) (word_bytes (words (message_in (h + b - 1) kb ub wb nb (take (4 * wb)
    s) ++ message_in (h + f - 1) kf uf wf nf (drop (4 * wb) s))))) (numbered "vs-out-shared-" i)
    → take (p + 8) (elements p') ≡ take p (elements proof) ++ (message_in (h + b - 1) kb ub wb nb (take (4 * wb) s)
    ++ message_in (h + f - 1) kf uf wf nf (drop (4 * wb) s))
    → take (d + 1) (elements d') ≡ take d (elements draws) ++ (value (transcript.element u) ∷ [])
    → kb' ≡ kb ⊗ (1 ⊕ ub ⊕ value (transcript.element u)) → kf' ≡ kf ⊗ (1 ⊕ uf ⊕ value (transcript.element u))
    → Dropped (h + b - 1) wb nb (take (4 * wb) s) (take (4 * wb) s₁) → Dropped (h + f - 1) wf nf (drop (4 * wb) s) (drop (4 * wb) s₁)
    → Folded (h + b - 1) (value (transcript.element u)) wb nb (take (4 * wb) s₁) (take (4 * wb) s')
    → Folded (h + f - 1) (value (transcript.element u)) wf nf (drop (4 * wb) s₁) (drop (4 * wb) s')
    → shared_in (p + 8) (d + 1) (h - 1) b f o q kb' kf' wb wf (nb / 2) (nf / 2) u p' d' s'
    ≡ shared_step i (shared_in p d h b f o q kb kf wb wf nb nf t proof draws s)
shared-done i h b f o q p d kb kb' kf kf' ub uf wb nb wf nf t u proof p' draws d' s s₁ s' B F fb ff long tb tf transcript-is sent drawn nextb nextf Db
    Df Gb Gf =
    go (h - 1) (h + b - 1) (h + f - 1) (omega (arith, B.some)) (omega (arith, B.some)) (omega (arith, B.some)) (omega (arith, B.some)) (omega (
      arith,
      B.some,
    )) tb tf transcript-is sent Db Df Gb Gf
  where
    go : (y v w : ℕ) → h ≡ suc y → h + b ≡ suc v → h + f ≡ suc w → h - 1 + b ≡ v → h - 1 + f ≡ w
        → ub ≡ get_or (elements draws) (o + v) 0 → uf ≡ get_or (elements draws) (q + w) 0
        → u ≡ transcript.drawn (transcript.absorbed t (numbered "vs-out-shared-" i) (word_bytes (words (message_in v kb ub wb nb (take (4 * wb) s) ++
        message_in w kf uf wf nf (drop (4 * wb) s))))) (numbered "vs-out-shared-" i)
        → take (p + 8) (elements p') ≡ take p (elements proof) ++ (message_in v kb ub wb nb (take (4 * wb) s) ++ message_in w kf uf wf nf (drop (4 * wb) s))
        → Dropped v wb nb (take (4 * wb) s) (take (4 * wb) s₁) → Dropped w wf nf (drop (4 * wb) s) (drop (4 * wb) s₁)
        → Folded v (value (transcript.element u)) wb nb (take (4 * wb) s₁) (take (4 * wb) s')
        → Folded w (value (transcript.element u)) wf nf (drop (4 * wb) s₁) (drop (4 * wb) s')
        → shared_in (p + 8) (d + 1) (h - 1) b f o q kb' kf' wb wf (nb / 2) (nf / 2) u p' d' s'
        ≡ shared_step i (shared_in p d h b f o q kb kf wb wf nb nf t proof draws s)
    go y v w eh eb ef lb lf tb tf transcript-is sent Db Df Gb Gf =
        let z : h - 1 ≡ y = omega (arith, eh) in
        let rb : o + suc v ≤ d = omega (arith, B.before, eb) in
        let rf : q + suc w ≤ d = omega (arith, F.before, ef) in
        rw (lb, lf, eb, ef, z, eh)
        (both-stepped i p d t u proof p' draws d' (message_in v kb ub wb nb (take (4 * wb) s) ++ message_in w kf uf wf nf (drop (4 * wb) s))
        (outer_in (suc y) (take (suc v) (drop o (elements draws))) kb wb nb (take (4 * wb) s))
        (outer_in (suc y) (take (suc w) (drop q (elements draws))) kf wf nf (drop (4 * wb) s))
        (outer_in y (take v (drop o (elements d'))) kb' wb (nb / 2) (take (4 * wb) s'))
        (outer_in y (take w (drop q (elements d'))) kf' wf (nf / 2) (drop (4 * wb) s'))
        (ap₂ (λ (x y : List ℕ). x ++ y)
        (high-next y v o d kb kb' ub wb nb (value (transcript.element u)) (elements draws) (elements d') (take (4 * wb) s) (take (4 * wb) s₁) (take (4
        * wb) s') rb long fb tb drawn nextb Db Gb)
        (high-next y w q d kf kf' uf wf nf (value (transcript.element u)) (elements draws) (elements d') (drop (4 * wb) s) (drop (4 * wb) s₁) (drop (4
        * wb) s') rf long ff tf drawn nextf Df Gf))
        transcript-is sent drawn
        (high-fold y v o d kb kb' ub wb nb (value (transcript.element u)) (elements draws) (elements d') (take (4 * wb) s) (take (4 * wb) s₁) (take (4
        * wb) s') rb long fb tb drawn nextb Db Gb)
        (high-fold y w q d kf kf' uf wf nf (value (transcript.element u)) (elements draws) (elements d') (drop (4 * wb) s) (drop (4 * wb) s₁) (drop (4
        * wb) s') rf long ff tf drawn nextf Df Gf))

-- ---- the loop
pub record Sharing (x b f : ℕ) (start : OuterSteps) (i nb nf : ℕ) (at : OuterSteps) : Type 0 where
  pub bin : nb ≡ 2 * 2 ^ (x - i + b)
  pub fld : nf ≡ 2 * 2 ^ (x - i + f)
  pub left : shared_steps i (x - i) at ≡ shared_steps 0 x start

steps-more : (i j : ℕ) (q : OuterSteps) → shared_steps i (suc j) q ≡ shared_steps (suc i) j (shared_step i q)
unfolding shared_steps
steps-more i j q = refl

steps-none : (i : ℕ) (q : OuterSteps) → shared_steps i 0 q ≡ q
unfolding shared_steps
steps-none i q = refl

pub sharing-start : (x b f o q p d kb kf wb wf nb nf : ℕ) (t : Transcript) (proof draws s : List ℕ) → nb ≡ 2 * 2 ^ (x + b) → nf ≡ 2 * 2 ^ (x + f)
    → Sharing x b f (shared_in p d x b f o q kb kf wb wf nb nf t proof draws s) 0 nb nf (shared_in (p + 8 * 0) (d + 0) (x - 0) b f o q kb kf wb wf nb
    nf t proof draws s)
sharing-start x b f o q p d kb kf wb wf nb nf t proof draws s eb ef =
    let z : x - 0 ≡ x = omega arith in
    let a : p + 8 * 0 ≡ p = omega arith in
    record { bin = rw z eb; fld = rw z ef; left = rw (z, a, add-zero d) }

module _ {x b f i nb nf : ℕ} {p r : OuterSteps} (S : Sharing x b f p i nb nf r) (h : i < x) where
  half : (n c : ℕ) → n ≡ 2 * 2 ^ (x - i + c) → n / 2 ≡ 2 * 2 ^ (x - (i + 1) + c)
  half n c e =
      let k : x - i + c ≡ suc (x - (i + 1) + c) = omega arith in
      let g : n ≡ 2 * 2 ^ suc (x - (i + 1) + c) = e ∙ ap (λ (j : ℕ). 2 * 2 ^ j) k in
      omega (arith, g, two-pow-succ (x - (i + 1) + c))

  pub sharing-next : (o q a d kb kf wb wf : ℕ) (t : Transcript) (proof draws s : List ℕ)
      → shared_in (a + 8 * i + 8) (d + i + 1) (x - i - 1) b f o q kb kf wb wf (nb / 2) (nf / 2) t proof draws s ≡ shared_step i r
      → Sharing x b f p (i + 1) (nb / 2) (nf / 2) (shared_in (a + 8 * (i + 1)) (d + (i + 1)) (x - (i + 1)) b f o q kb kf wb wf (nb / 2) (nf / 2) t
      proof draws s)
  sharing-next o q a d kb kf wb wf t proof draws s e = record {
    bin = half nb b S.bin;
    fld = half nf f S.fld;
    left = ap (shared_steps (i + 1) (x - (i + 1))) full ∙ (ap (λ (k : ℕ). shared_steps k (x - (i + 1)) (shared_step i r)) (add-one i) ∙ (sym (steps-more
        i (x - (i + 1)) r) ∙ (ap (λ (l : ℕ). shared_steps i l r) z ∙ S.left)));
  }
    where
      z : suc (x - (i + 1)) ≡ x - i
      z = omega arith

      u : a + 8 * (i + 1) ≡ a + 8 * i + 8
      u = omega arith

      v : d + (i + 1) ≡ d + i + 1
      v = omega arith

      w : x - (i + 1) ≡ x - i - 1
      w = omega arith

      full : shared_in (a + 8 * (i + 1)) (d + (i + 1)) (x - (i + 1)) b f o q kb kf wb wf (nb / 2) (nf / 2) t proof draws s ≡ shared_step i r
      full = rw (u, v, w) e

pub sharing-end : (x b f o q i nb nf a d kb kf wb wf : ℕ) (p : OuterSteps) (t : Transcript) (proof draws s : List ℕ)
    → Sharing x b f p i nb nf (shared_in (a + 8 * i) (d + i) (x - i) b f o q kb kf wb wf nb nf t proof draws s) → i ≡ x
    → shared_in (a + 8 * x) (d + x) 0 b f o q kb kf wb wf (2 * 2 ^ b) (2 * 2 ^ f) t proof draws s ≡ shared_steps 0 x p
sharing-end x b f o q i nb nf a d kb kf wb wf p t proof draws s S e =
    ap (λ (j : ℕ). shared_in (a + 8 * j) (d + j) 0 b f o q kb kf wb wf (2 * 2 ^ b) (2 * 2 ^ f) t proof draws s) (sym e)
    ∙ (ap₂ (λ (m n : ℕ). shared_in (a + 8 * i) (d + i) 0 b f o q kb kf wb wf m n t proof draws s) (sym (size b nb S.bin)) (sym (size f nf S.fld))
    ∙ (ap (λ (j : ℕ). shared_in (a + 8 * i) (d + i) j b f o q kb kf wb wf nb nf t proof draws s) (sym z)
    ∙ (sym (steps-none i (shared_in (a + 8 * i) (d + i) (x - i) b f o q kb kf wb wf nb nf t proof draws s))
    ∙ (ap (λ (j : ℕ). shared_steps i j (shared_in (a + 8 * i) (d + i) (x - i) b f o q kb kf wb wf nb nf t proof draws s)) (sym z) ∙ S.left))))
  where
    z : x - i ≡ 0
    z = omega arith

    size : (c n : ℕ) → n ≡ 2 * 2 ^ (x - i + c) → n ≡ 2 * 2 ^ c
    size c n g = let k : x - i + c ≡ c = omega arith in g ∙ ap (λ (j : ℕ). 2 * 2 ^ j) k
