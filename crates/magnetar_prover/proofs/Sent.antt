-- What is sent and drawn, as the slices hold it.
-- Assumes nothing.
use mathlib.Core.Path.{◌≡◌, refl, sym, ap, ◌∙◌}
use mathlib.Core.List.{List, [], ◌∷◌, ◌++◌}
use Prim.Native.Nat.{ℕ, zero, suc, ◌+◌, ◌-◌, ◌*◌, ◌/◌, ◌%◌, ◌^◌, ◌≤◌}
use native.Mathlib.Nat.{add-zero}
use native.Mathlib.Numerals.{add-one}
use native.Mathlib.Omega.{arith}
use lib.ListN.{length, get_or, set, take, drop, length-drop}
use lib.Seq.{length-take-le, take-suc-set, drop-set-add, get_or-drop}
use borrow.Author.Tests.{lt-ltb}
use borrow.Rule.Slice.PartMut.{put_mid}
use Rattle.magnetar_field.specs.Gf128.{value}
use Rattle.magnetar_field.specs.Words.{elements, words, stored}
use Rattle.magnetar_field.proofs.Elements.{elements-length, elements-stored, elements-drop, words-length}
use Rattle.magnetar_hash.specs.Bytes.{word_bytes}
use Rattle.magnetar_hash.specs.declared.transcript.Transcript.{Transcript}
use Rattle.magnetar_hash.specs.Transcript as transcript
use Rattle.magnetar_schedule.specs.Stepwise.{Steps, send, draw_one}
use Rattle.magnetar_matrix.proofs.TableLaws.{elements-words}
use Rattle.magnetar_prover.specs.InScratch.{steps_in, absorbed_one}
use Rattle.magnetar_prover.proofs.Slots.{mid-upto, mid_at, part-is}

two-suc : (i : ℕ) → 2 * suc i ≡ suc (suc (2 * i))
two-suc i = omega arith

pub elements-take : (k : ℕ) (s : List ℕ) → take k (elements s) ≡ elements (take (2 * k) s)
unfolding elements
elements-take zero s = refl
elements-take (suc k) [] = rw two-suc
elements-take (suc k) (x ∷ []) = rw two-suc
elements-take (suc k) (x ∷ (y ∷ s)) = rw two-suc (ap (λ (l : List ℕ). (y * 2 ^ 64 + x) ∷ l) (elements-take k s))

pub elements-after : (k : ℕ) (s vs : List ℕ) → length s ≡ 2 * k → elements (s ++ words vs) ≡ elements s ++ vs
unfolding elements
elements-after zero [] vs e = elements-words vs
elements-after zero (x ∷ s) vs e = absurd (omega arith)
elements-after (suc k) [] vs e = absurd (omega arith)
elements-after (suc k) (x ∷ []) vs e = absurd (omega arith)
elements-after (suc k) (x ∷ (y ∷ s)) vs e = ap (λ (l : List ℕ). (y * 2 ^ 64 + x) ∷ l) (elements-after k s vs (omega arith))

pub steps-eq : {t u : Transcript} {d e a b : List ℕ} → t ≡ u → d ≡ e → a ≡ b
    → ◌≡◌ {A = Steps} (record { run_state = record { transcript = t; draws = d }; sent = a }) (record {
      run_state = record {
        transcript = u;
        draws =
            e;
      };
      sent = b;
    })
steps-eq {t} {u} {d} {e} {a} {b} p q r =
    ap (λ (x : Transcript). record { run_state = record { transcript = x; draws = d }; sent = a }) p
    ∙ (ap (λ (x : List ℕ). record { run_state = record { transcript = u; draws = x }; sent = a }) q
    ∙ ap (λ (x : List ℕ). record { run_state = record { transcript = u; draws = e }; sent = x }) r)

-- the words of n elements, put behind those of k
module _ (proof t msg : List ℕ) (p w k n : ℕ) (at : p ≡ 2 * k) (size : w ≡ 2 * n) (room : p + w ≤ length proof) (many : length msg ≡ n)
    (is : t ≡ words msg) where
  long : length t ≡ w
  long = rw is (words-length msg ∙ omega arith)

  pub sent-more : take (k + n) (elements (put_mid p (p + w - p) proof t)) ≡ take k (elements proof) ++ msg
  sent-more =
      elements-take (k + n) (put_mid p (p + w - p) proof t)
      ∙ (ap (λ (i : ℕ). elements (take i (put_mid p (p + w - p) proof t))) ends
      ∙ (ap elements (mid-upto proof t p w room long)
      ∙ (ap (λ (x : List ℕ). elements (take p proof ++ x)) is
      ∙ (elements-after k (take p proof) msg (length-take-le p proof (omega arith) ∙ at)
      ∙ ap (λ (x : List ℕ). x ++ msg) (ap (λ (i : ℕ). elements (take i proof)) at ∙ sym (elements-take k proof))))))
    where
      ends : 2 * (k + n) ≡ p + w
      ends = omega arith

  -- and they are heard
  pub sent-there : take (p + w - p) (drop p (put_mid p (p + w - p) proof t)) ≡ words msg
  sent-there = part-is (put_mid p (p + w - p) proof t) p w ∙ (mid_at proof t p w room long ∙ is)

-- an element put behind d others
pub drawn-more : (draws last : List ℕ) (d v : ℕ) → last ≡ stored draws d v → 2 * d + 2 ≤ length draws → take (d + 1) (elements last)
    ≡ take d (elements draws) ++ (v ∷ [])
drawn-more draws last d v e h =
    rw (e, elements-stored draws d v, add-one) (take-suc-set (elements draws) d v (rw elements-length (omega arith)))

-- a message is sent, and a challenge is drawn
pub round-sent : (label : List ℕ) (t u : Transcript) (proof p' draws d' msg : List ℕ) (k n d c : ℕ)
    → u ≡ transcript.drawn (transcript.absorbed t label (word_bytes (words msg))) label
    → take (k + n) (elements p') ≡ take k (elements proof) ++ msg
    → c ≡ value (transcript.element u) → take (d + 1) (elements d') ≡ take d (elements draws) ++ (c ∷ [])
    → steps_in (k + n) (d + 1) u p' d' ≡ draw_one label (send label msg (steps_in k d t proof draws))
round-sent label t u proof p' draws d' msg k n d c e f g h =
    steps-eq e (h ∙ ap (λ (x : ℕ). take d (elements draws) ++ (x ∷ [])) (g ∙ ap (λ (x : Transcript). value (transcript.element x)) e)) f

-- ---- one element sent
pub elements-join : (k : ℕ) (s t : List ℕ) → length s ≡ 2 * k → elements (s ++ t) ≡ elements s ++ elements t
unfolding elements
elements-join zero [] t e = refl
elements-join zero (x ∷ s) t e = absurd (omega arith)
elements-join (suc k) [] t e = absurd (omega arith)
elements-join (suc k) (x ∷ []) t e = absurd (omega arith)
elements-join (suc k) (x ∷ (y ∷ s)) t e = ap (λ (l : List ℕ). (y * 2 ^ 64 + x) ∷ l) (elements-join k s t (omega arith))

two-set : (l : List ℕ) (a b : ℕ) → 2 ≤ length l → take 2 (set (set l 0 a) 1 b) ≡ a ∷ b ∷ []
two-set [] a b h = absurd (omega arith)
two-set (x ∷ []) a b h = absurd (omega arith)
two-set (x ∷ (y ∷ l)) a b h = refl

-- the words of the element stored at k
pub stored_there : (s : List ℕ) (k v : ℕ) → 2 * k + 2 ≤ length s → take 2 (drop (2 * k) (stored s k v)) ≡ words (v ∷ [])
unfolding stored words
stored_there s k v h =
    rw (lt-ltb k (length s / 2) (omega arith))
    (ap (take 2) (drop-set-add (2 * k) (set s (2 * k) (v % 2 ^ 64)) 1 (v / 2 ^ 64))
    ∙ (ap (λ (l : List ℕ). take 2 (set l 1 (v / 2 ^ 64))) here
    ∙ two-set (drop (2 * k) s) (v % 2 ^ 64) (v / 2 ^ 64) (rw length-drop (omega arith))))
  where
    here : drop (2 * k) (set s (2 * k) (v % 2 ^ 64)) ≡ set (drop (2 * k) s) 0 (v % 2 ^ 64)
    here = ap (λ (i : ℕ). drop (2 * k) (set s i (v % 2 ^ 64))) (sym (add-zero (2 * k))) ∙ drop-set-add (2 * k) s 0 (v % 2 ^ 64)

pub one-absorbed : (label : List ℕ) (t u : Transcript) (proof p' : List ℕ) (k v : ℕ) → p' ≡ stored proof k v → 2 * k + 2 ≤ length proof
    → u ≡ transcript.absorbed t label (word_bytes (take (2 * k + 2 - 2 * k) (drop (2 * k) p'))) → u ≡ absorbed_one t label v
one-absorbed label t u proof p' k v e h f =
    f ∙ ap (λ (x : List ℕ). transcript.absorbed t label (word_bytes x)) (part-is p' (2 * k) 2 ∙ (ap (λ (x : List ℕ). take 2 (drop (2 * k) x)) e
    ∙ stored_there proof k v h))

-- the first element of a table
pub table-first : (s : List ℕ) (i k n : ℕ) → i ≡ 2 * k → 2 ≤ n → get_or (elements (take n (drop i s))) 0 0 ≡ get_or (elements s) k 0
table-first s i k n e h =
    ap (λ (j : ℕ). get_or (elements (take n (drop j s))) 0 0) e
    ∙ (first n (drop (2 * k) s) h
    ∙ (ap (λ (l : List ℕ). get_or l 0 0) (sym (elements-drop k s))
    ∙ (get_or-drop k (elements s) 0 0 ∙ ap (λ (j : ℕ). get_or (elements s) j 0) (add-zero k))))
  where
    first : (n : ℕ) (l : List ℕ) → 2 ≤ n → get_or (elements (take n l)) 0 0 ≡ get_or (elements l) 0 0
    first zero l h = absurd (omega arith)
    first (suc zero) l h = absurd (omega arith)
    first (suc (suc n)) [] h = refl
    first (suc (suc n)) (x ∷ []) h = unfold elements in refl
    first (suc (suc n)) (x ∷ (y ∷ l)) h = unfold elements in refl
