-- A schedule played: part after part, how many events and draws there are, and that every draw is an element.
-- Assumes nothing.
use mathlib.Core.Path.{◌≡◌, refl, sym, ap, ◌∙◌, subst}
use mathlib.Core.List.{List, [], ◌∷◌, ◌++◌}
use Prim.Native.Nat.{ℕ, zero, suc, ◌+◌, ◌*◌, ◌^◌, ◌≤◌, ◌<◌}
use native.Mathlib.Nat.{mod-lt, add-zero}
use native.Mathlib.Omega.{arith}
use lib.Dec.{lit<, lit≤}
use lib.ListN.{length, get_or, take, drop, replicate, length-append, length-replicate, length-drop}
use lib.Pow.{pow-add}
use lib.Seq.{length-take-le, get_or-take, get_or-drop}
use Rattle.magnetar_field.specs.Gf128.{value}
use Rattle.magnetar_field.proofs.Polynomial.{AllBelow}
use Rattle.magnetar_hash.specs.Bytes.{number}
use Rattle.magnetar_hash.specs.Sha3.{squeezed, sha3}
use Rattle.magnetar_hash.specs.Parts.{sha3_domain}
use Rattle.magnetar_hash.specs.declared.transcript.Transcript.{Transcript}
use Rattle.magnetar_hash.specs.Transcript.{element, drawn}
use Rattle.magnetar_hash.proofs.Squeeze.{length-squeezed, get-squeezed}
use Rattle.magnetar_matrix.specs.Batch.{Relation}
use Rattle.magnetar_matrix.proofs.Digits.{value-lt}
use Rattle.magnetar_protocol.specs.Proof.{part}
use Rattle.magnetar_protocol.specs.Draws.{draw_count}
use Rattle.magnetar_schedule.specs.Schedule.{Event, absorb, draw, rounds, singles, schedule}
use Rattle.magnetar_protocol.specs.Shape.{after_inner}
use Rattle.magnetar_schedule.specs.ScheduleRun.{RunState, start, absorbing, drawing, run_events, run_from}
use Rattle.magnetar_protocol.specs.RunSizes.{Elements}
use Rattle.magnetar_schedule.specs.RealRun.{verifier_draws}
use Rattle.magnetar_protocol.proofs.HonestBelow.{elements-of, both}

-- ---- part after part
pub play-append : (w : List ℕ) (a b : List Event) (p : RunState) → run_events w (a ++ b) p ≡ run_events w b (run_events w a p)
unfolding run_events
play-append w [] b p = refl
play-append w (absorb l i n ∷ a) b p = play-append w a b (absorbing l (part i n w) p)
play-append w (draw l ∷ a) b p = play-append w a b (drawing l p)

-- what was drawn before stands before what is drawn
abbrev pub onto : List ℕ → RunState → RunState
onto d p = record { transcript = p.transcript; draws = d ++ p.draws }

-- ---- counts
pub rounds-length : (label : ℕ → List ℕ) (first size i n : ℕ) → length (rounds label first size i n) ≡ 2 * n
unfolding rounds
rounds-length label first size i zero = refl
rounds-length label first size i (suc n) = ap (λ (k : ℕ). suc (suc k)) (rounds-length label first size (suc i) n) ∙ more n
  where
    more : (n : ℕ) → suc (suc (2 * n)) ≡ 2 * suc n
    more n = omega arith

pub singles-length : (label : ℕ → List ℕ) (first i n : ℕ) → length (singles label first i n) ≡ n
unfolding singles
singles-length label first i zero = refl
singles-length label first i (suc n) = ap suc (singles-length label first (suc i) n)

-- how many of the events are draws
abbrev pub draws_in : List Event → ℕ
draws_in [] = 0
draws_in (absorb l i n ∷ es) = draws_in es
draws_in (draw l ∷ es) = suc (draws_in es)

pub draws_in-append : (a b : List Event) → draws_in (a ++ b) ≡ draws_in a + draws_in b
draws_in-append [] b = omega arith
draws_in-append (absorb l i n ∷ a) b = draws_in-append a b
draws_in-append (draw l ∷ a) b = ap suc (draws_in-append a b) ∙ more (draws_in a) (draws_in b)
  where
    more : (m n : ℕ) → suc (m + n) ≡ suc m + n
    more m n = omega arith

pub draws_in-replicate : (n : ℕ) (l : List ℕ) → draws_in (replicate n (draw l)) ≡ n
draws_in-replicate zero l = refl
draws_in-replicate (suc n) l = ap suc (draws_in-replicate n l)

pub draws_in-rounds : (label : ℕ → List ℕ) (first size i n : ℕ) → draws_in (rounds label first size i n) ≡ n
unfolding rounds
draws_in-rounds label first size i zero = refl
draws_in-rounds label first size i (suc n) = ap suc (draws_in-rounds label first size (suc i) n)

pub draws_in-singles : (label : ℕ → List ℕ) (first i n : ℕ) → draws_in (singles label first i n) ≡ 0
unfolding singles
draws_in-singles label first i zero = refl
draws_in-singles label first i (suc n) = draws_in-singles label first (suc i) n

pub play-count : (w : List ℕ) (es : List Event) (p : RunState) → length (run_events w es p).draws ≡ length p.draws + draws_in es
unfolding run_events
play-count w [] p = sym (add-zero (length p.draws))
play-count w (absorb l i n ∷ es) p = play-count w es (absorbing l (part i n w) p)
play-count w (draw l ∷ es) p =
    play-count w es (drawing l p) ∙ ap (λ (k : ℕ). k + draws_in es) (length-append p.draws (_ ∷ [])) ∙ more (length p.draws) (draws_in es)
  where
    more : (m n : ℕ) → m + 1 + n ≡ m + suc n
    more m n = omega arith

module _ (r : Relation) where
  -- all events
  pub schedule-length : length (schedule r) ≡ after_inner r + 1 + length r.lengths
  unfolding schedule
  schedule-length =
      simp (length-append, length-replicate, rounds-length, singles-length) (omega arith)

  pub schedule-draws : draws_in (schedule r) ≡ draw_count r
  unfolding schedule
  schedule-draws =
      simp (draws_in-append, draws_in-replicate, draws_in-rounds, draws_in-singles) (omega arith)

  pub played-count : (w : List ℕ) (t : Transcript) → length (run_from w (schedule r) t).draws ≡ draw_count r
  played-count w t = play-count w (schedule r) (start t) ∙ omega (arith, schedule-draws)

-- ---- bounds
number_lt : (bs : List ℕ) → ((i : ℕ) → i < length bs → get_or bs i 0 < 256) → number bs < 2 ^ (8 * length bs)
unfolding number
number_lt [] h = lit< tt
number_lt (b ∷ bs) h = more b (number bs) (length bs) (h 0 (omega arith)) (number_lt bs (λ i l. h (suc i) (omega arith)))
  where
    more : (b n k : ℕ) → b < 256 → n < 2 ^ (8 * k) → b + 256 * n < 2 ^ (8 * suc k)
    more b n k h l =
        let e : 8 * suc k ≡ 8 + 8 * k = omega arith in
        let p : 2 ^ (8 + 8 * k) ≡ 256 * 2 ^ (8 * k) = pow-add 2 8 (8 * k) in
        rw e (omega (arith, p))

-- eight bytes of 32 are a word
word_lt : (s : List ℕ) → length s ≡ 32 → ((j : ℕ) → j < 32 → get_or s j 0 < 256) → (a : ℕ) → a + 8 ≤ 32 → number (take 8 (drop a s)) < 2 ^ 64
word_lt s n h a l = subst (λ (k : ℕ). number (take 8 (drop a s)) < 2 ^ (8 * k)) size (number_lt (take 8 (drop a s)) each)
  where
    size : length (take 8 (drop a s)) ≡ 8
    size = length-take-le 8 (drop a s) (rw length-drop (omega arith))

    each : (i : ℕ) → i < length (take 8 (drop a s)) → get_or (take 8 (drop a s)) i 0 < 256
    each i k =
        let k₈ : i < 8 = rw size at k in
        subst (λ (v : ℕ). v < 256) (sym (get_or-take 8 (drop a s) i 0 k₈ ∙ get_or-drop a s i 0)) (h (a + i) (omega arith))

squeezed-lt : (s : List ℕ) (j : ℕ) → j < 32 → get_or (squeezed s) j 0 < 256
squeezed-lt s j h = rw (get-squeezed s j h) (mod-lt _ (lit< tt))

pub drawn-lt : (t : Transcript) (l : List ℕ) → value (element (drawn t l)) < 2 ^ 128
unfolding element drawn sha3_domain sha3
drawn-lt t l = words _
  where
    words : (s : List ℕ) → number (take 8 (drop 8 (squeezed s))) * 2 ^ 64 + number (take 8 (squeezed s)) < 2 ^ 128
    words s = value-lt _ _ (word_lt (squeezed s) (length-squeezed s) (squeezed-lt s) 8 (lit≤ tt))
        (word_lt (squeezed s) (length-squeezed s) (squeezed-lt s) 0 (lit≤ tt))

all-drawn : (w : List ℕ) (es : List Event) (p : RunState) → AllBelow (2 ^ 128) p.draws → AllBelow (2 ^ 128) (run_events w es p).draws
unfolding run_events
all-drawn w [] p h = h
all-drawn w (absorb l i n ∷ es) p h = all-drawn w es (absorbing l (part i n w) p) h
all-drawn w (draw l ∷ es) p h = all-drawn w es (drawing l p) (both p.draws (_ ∷ []) h (drawn-lt p.transcript l, tt))

pub played-elements : (w : List ℕ) (es : List Event) (t : Transcript) → Elements (run_from w es t).draws
played-elements w es t = elements-of (run_from w es t).draws (all-drawn w es (start t) tt)

-- ---- the verifier's draws
module _ (r : Relation) (w : List ℕ) (t : Transcript) where
  pub verifier-count : length (verifier_draws r w t) ≡ draw_count r
  unfolding verifier_draws
  verifier-count = played-count r w t

  pub verifier-elements : Elements (verifier_draws r w t)
  unfolding verifier_draws
  verifier-elements = played-elements w (schedule r) t
