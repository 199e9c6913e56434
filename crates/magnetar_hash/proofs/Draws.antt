-- Laws of draws: one more, and the words that a loop of draws writes.
-- Assumes nothing.
use Rattle.std.proofs.Common.{◌≡◌, ℕ, zero, suc, ◌+◌, ◌*◌, ◌/◌, ◌<◌, ◌≤◌, List, [], ◌∷◌, ◌++◌, length, get_or, take, drop, set, sym, refl, ap, ◌∙◌, ap₂, append_assoc, append-nil, add-one, arith, length-append, length-drop, drop_of_length-le, length-take-le, drop-cons}
use lib.Seq.{set_at, append_snoc}
use Rattle.magnetar_hash.specs.declared.transcript.Transcript.{Transcript}
use Rattle.magnetar_hash.specs.Transcript.{drawn, element, drawn_times, drawn_words}

times_more : (n : ℕ) (t : Transcript) (l : List ℕ) → drawn_times (suc n) t l ≡ drawn (drawn_times n t l) l
unfolding drawn_times
times_more zero t l = refl
times_more (suc n) t l = times_more n (drawn t l) l

abbrev words : Transcript → List ℕ
words t = (element t).lo ∷ (element t).hi ∷ []

words_more : (n : ℕ) (t : Transcript) (l : List ℕ) → drawn_words (suc n) t l ≡ drawn_words n t l ++ words (drawn (drawn_times n t l) l)
unfolding drawn_words drawn_times
words_more zero t l = refl
words_more (suc n) t l = ap (λ (r : List ℕ). (element (drawn t l)).lo ∷ (element (drawn t l)).hi ∷ r) (words_more n (drawn t l) l)

two-more : (n : ℕ) → suc (suc (2 * n)) ≡ 2 * suc n
two-more n = omega arith

pub length-drawn : (n : ℕ) (t : Transcript) (l : List ℕ) → length (drawn_words n t l) ≡ 2 * n
unfolding drawn_words
length-drawn zero t l = refl
length-drawn (suc n) t l = ap (λ (k : ℕ). suc (suc k)) (length-drawn n (drawn t l) l) ∙ two-more n

-- after i of the draws: the transcript u, and the words of `was` with those of the draws in front
pub record Draws (t : Transcript) (l was : List ℕ) (out : List ℕ) (u : Transcript) (i : ℕ) : Type 0 where
  pub state : u ≡ drawn_times i t l
  pub list : out ≡ drawn_words i t l ++ drop (2 * i) was

pub draws-none : (t : Transcript) (l was : List ℕ) → Draws t l was was t 0
unfolding drawn_times drawn_words
draws-none t l was = record { state = refl; list = refl }

pub draws-length : {t u : Transcript} {l was out : List ℕ} {i : ℕ} → Draws t l was out u i → 2 * i ≤ length was → length out ≡ length was
draws-length {t} {u} {l} {was} {out} {i} d h =
    ap length d.list ∙ length-append (drawn_words i t l) (drop (2 * i) was) ∙ omega (arith, length-drawn i t l, length-drop (2 * i) was)

-- two words are stored behind p
store_two
    : (p was : List ℕ) (k a b : ℕ)
    → length p ≡ k
    → k + 2 ≤ length was
    → set (set (p ++ drop k was) k a) (k + 1) b ≡ p ++ (a ∷ b ∷ []) ++ drop (k + 2) was
store_two p was k a b e h =
    let c : k + 1 < length was = omega arith in
    let f : length (p ++ (a ∷ [])) ≡ k + 1 = length-append p (a ∷ []) ∙ ap (λ (n : ℕ). n + 1) e in
    let n : suc k ≡ k + 1 = omega arith in
    let m : suc (k + 1) ≡ k + 2 = omega arith in
    ap (λ (r : List ℕ). set (set (p ++ r) k a) (k + 1) b) (drop-cons was k 0 (omega arith) ∙ ap (λ (j : ℕ). get_or was k 0 ∷ drop j was) n)
    ∙ ap (λ (r : List ℕ). set r (k + 1) b) (set_at p (get_or was k 0) (drop (k + 1) was) a k e)
    ∙ ap (λ (r : List ℕ). set (p ++ a ∷ r) (k + 1) b) (drop-cons was (k + 1) 0 c ∙ ap (λ (j : ℕ). get_or was (k + 1) 0 ∷ drop j was) m)
    ∙ ap (λ (r : List ℕ). set r (k + 1) b) (sym (append_snoc p a (get_or was (k + 1) 0 ∷ drop (k + 2) was)))
    ∙ set_at (p ++ (a ∷ [])) (get_or was (k + 1) 0) (drop (k + 2) was) b (k + 1) f
    ∙ append_assoc p (a ∷ []) (b ∷ drop (k + 2) was)
    ∙ sym (append_assoc p (a ∷ b ∷ []) (drop (k + 2) was))

pub draws-more
    : {t u : Transcript} {l was out : List ℕ} {i a b : ℕ} (v : Transcript)
    → Draws t l was out u i
    → 2 * i + 2 ≤ length was
    → v ≡ drawn u l
    → a ≡ (element v).lo
    → b ≡ (element v).hi
    → Draws t l was (set (set out (2 * i) a) (2 * i + 1) b) v (i + 1)
draws-more {t} {u} {l} {was} {out} {i} {a} {b} v d h e ea eb =
    let w : v ≡ drawn (drawn_times i t l) l = e ∙ ap (λ (x : Transcript). drawn x l) d.state in
    let k : 2 * i + 2 ≡ 2 * suc i = omega arith in
    record {
      state = w ∙ sym (times_more i t l) ∙ ap (λ (n : ℕ). drawn_times n t l) (sym (add-one i));
      list =
          ap (λ (x : List ℕ). set (set x (2 * i) a) (2 * i + 1) b) d.list
          ∙ store_two (drawn_words i t l) was (2 * i) a b (length-drawn i t l) h
          ∙ ap₂ (λ (x : List ℕ) (n : ℕ). drawn_words i t l ++ x ++ drop n was)
          (ap₂ (λ (x y : ℕ). x ∷ y ∷ []) ea eb ∙ ap words w)
          k
          ∙ ap (λ (x : List ℕ). x ++ drop (2 * suc i) was) (sym (words_more i t l))
          ∙ ap (λ (n : ℕ). drawn_words n t l ++ drop (2 * n) was) (sym (add-one i));
    }

-- n draws into the first 2 * n of the words lent
pub vec-done
    : {u : Transcript} {last : List ℕ} (t : Transcript) (l out : List ℕ) (n : ℕ)
    → n ≤ length out / 2
    → u ≡ drawn_times (length (take (2 * n) out) / 2) t l
    → last
    ≡ drawn_words (length (take (2 * n) out) / 2) t l ++ drop (2 * (length (take (2 * n) out) / 2)) (take (2 * n) out)
    → (u ≡ drawn_times n t l) × (last ++ drop (2 * n) out ≡ drawn_words n t l ++ drop (2 * n) out)
vec-done {u} {last} t l out n h e f =
    let k : length (take (2 * n) out) ≡ 2 * n = length-take-le (2 * n) out (omega arith) in
    let j : length (take (2 * n) out) / 2 ≡ n = omega arith in
    let z : drop (2 * n) (take (2 * n) out) ≡ [] = drop_of_length-le (take (2 * n) out) {i = 2 * n} (omega arith) in
    (rw j at e, ap (λ (x : List ℕ). x ++ drop (2 * n) out) (rw (j, z, append-nil) at f))
