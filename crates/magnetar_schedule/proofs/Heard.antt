-- Two proofs that say the same in all events with at most n draws before them: a schedule played on them draws the same n + 1 elements.
-- Assumes nothing.
use mathlib.Core.Path.{◌≡◌, refl, sym, ap, ◌∙◌, subst}
use mathlib.Core.Bool.{Bool, true, false}
use mathlib.Core.List.{List, [], ◌∷◌, ◌++◌}
use Prim.Native.Nat.{ℕ, zero, suc, ◌+◌, ◌*◌, ◌≤◌, ◌<◌}
use native.Mathlib.Nat.{add-zero, zero-add}
use native.Mathlib.Omega.{arith}
use lib.Dec.{ltb}
use lib.ListN.{length, take, replicate, length-append}
use lib.Seq.{take-length, take_at, take-take}
use borrow.Author.Tests.{ltb-true, ltb-false}
use Rattle.magnetar_hash.specs.Bytes.{ascii}
use Rattle.magnetar_matrix.specs.Batch.{Relation}
use Rattle.magnetar_protocol.specs.Shape.{log_logins, log_bin, log_fld, log_cols, before_terminals, before_inner, before_end, after_taus}
use Rattle.magnetar_protocol.specs.Draws.{draw_count}
use Rattle.magnetar_protocol.specs.Proof.{part}
use Rattle.magnetar_schedule.specs.Schedule.{Event, absorb, draw, numbered, rounds, singles, schedule}
use Rattle.magnetar_schedule.specs.ScheduleRun.{RunState, absorbing, drawing, run_events}
use Rattle.magnetar_schedule.proofs.Counts.{draws_in, draws_in-replicate, draws_in-rounds, draws_in-singles}

-- what is said the same, part by part of the schedule: each message and value that at most n draws come before
pub record Says (r : Relation) (n : ℕ) (w v : List ℕ) : Type 0 where
  pub shared : (i : ℕ) → i < log_logins r → after_taus r + i ≤ n → part (8 * i) 8 w ≡ part (8 * i) 8 v
  pub row_bin : (i : ℕ) → i < log_bin r → after_taus r + log_logins r + i ≤ n
      → part (8 * log_logins r + 4 * i) 4 w ≡ part (8 * log_logins r + 4 * i) 4 v
  pub row_fld : (i : ℕ) → i < log_fld r → after_taus r + log_logins r + log_bin r + i ≤ n
      → part (8 * log_logins r + 4 * log_bin r + 4 * i) 4 w ≡ part (8 * log_logins r + 4 * log_bin r + 4 * i) 4 v
  pub terminals : (i : ℕ) → i < 6 → after_taus r + log_logins r + log_bin r + log_fld r ≤ n
      → part (before_terminals r + i) 1 w ≡ part (before_terminals r + i) 1 v
  pub inner : (i : ℕ) → i < log_cols r → after_taus r + log_logins r + log_bin r + log_fld r + 6 + i ≤ n
      → part (before_inner r + 3 * i) 3 w ≡ part (before_inner r + 3 * i) 3 v
  pub last : draw_count r ≤ n → w ≡ v

module _ (n : ℕ) (w v : List ℕ) where
  -- w and v say the same in the events, of which k draws come before; what more than n draws come before does not count
  unfoldable pub Same : ℕ → List Event → Type 0
  Same k [] = Unit {0}
  Same k (absorb l i m ∷ es) = (k ≤ n → part i m w ≡ part i m v) × Same k es
  Same k (draw l ∷ es) = Same (suc k) es

  -- ---- parts of a schedule
  same-append : (k : ℕ) (a b : List Event) → Same k a → Same (k + draws_in a) b → Same k (a ++ b)
  unfolding Same
  same-append k [] b h g = subst (λ (j : ℕ). Same j b) (add-zero k) g
  same-append k (absorb l i m ∷ a) b h g = (h.0, same-append k a b h.1 g)
  same-append k (draw l ∷ a) b h g = same-append (suc k) a b h (subst (λ (j : ℕ). Same j b) (more k (draws_in a)) g)
    where
      more : (k m : ℕ) → k + suc m ≡ suc k + m
      more k m = omega arith

  same_then : (k m : ℕ) (a b : List Event) → draws_in a ≡ m → Same k a → Same (k + m) b → Same k (a ++ b)
  same_then k m a b e h g = same-append k a b h (subst (λ (j : ℕ). Same (k + j) b) (sym e) g)

  same-replicate : (k m : ℕ) (l : List ℕ) → Same k (replicate m (draw l))
  unfolding Same
  same-replicate k zero l = tt
  same-replicate k (suc m) l = same-replicate (suc k) m l

  same-rounds : (label : ℕ → List ℕ) (first size o i m k : ℕ) → o + i ≡ k
      → ((j : ℕ) → j < i + m → o + j ≤ n → part (first + size * j) size w ≡ part (first + size * j) size v)
      → Same k (rounds label first size i m)
  unfolding Same rounds
  same-rounds label first size o i zero k e h = tt
  same-rounds label first size o i (suc m) k e h =
      (λ l. h i (omega arith) (omega arith), same-rounds label first size o (suc i) m (suc k) (omega arith) (λ j l. h j (omega arith)))

  same-singles : (label : ℕ → List ℕ) (first i m k : ℕ)
      → ((j : ℕ) → j < i + m → k ≤ n → part (first + j) 1 w ≡ part (first + j) 1 v) → Same k (singles label first i m)
  unfolding Same singles
  same-singles label first i zero k h = tt
  same-singles label first i (suc m) k h = (h i (omega arith), same-singles label first (suc i) m k (λ j l. h j (omega arith)))

  -- the whole schedule
  pub schedule-same : (r : Relation) → Says r n w v → Same 0 (schedule r)
  unfolding schedule
  schedule-same r S =
      same_then 0 (s + g) (replicate (s + g) (draw (ascii "vs-tau-bin"))) _ (draws_in-replicate (s + g) (ascii "vs-tau-bin"))
      (same-replicate 0 (s + g) (ascii "vs-tau-bin"))
      (same_then (0 + (s + g)) (s + h) (replicate (s + h) (draw (ascii "vs-tau-fld"))) _ (draws_in-replicate (s + h) (ascii "vs-tau-fld"))
      (same-replicate (0 + (s + g)) (s + h) (ascii "vs-tau-fld"))
      (same_then k₀ s (rounds (numbered "vs-out-shared-") 0 8 0 s) _ (draws_in-rounds (numbered "vs-out-shared-") 0 8 0 s)
      (same-rounds (numbered "vs-out-shared-") 0 8 (after_taus r) 0 s k₀ (omega arith)
      (λ i l k. subst (λ (j : ℕ). part j 8 w ≡ part j 8 v) (sym (zero-add (8 * i))) (S.shared i (omega arith) k)))
      (same_then (k₀ + s) g (rounds (numbered "vs-out-rowbin-") (8 * s) 4 0 g) _ (draws_in-rounds (numbered "vs-out-rowbin-") (8 * s) 4 0 g)
      (same-rounds (numbered "vs-out-rowbin-") (8 * s) 4 (after_taus r + s) 0 g (k₀ + s) (omega arith) (λ i l. S.row_bin i (omega arith)))
      (same_then (k₀ + s + g) h (rounds (numbered "vs-out-rowfld-") (8 * s + 4 * g) 4 0 h) _
      (draws_in-rounds (numbered "vs-out-rowfld-") (8 * s + 4 * g) 4 0 h)
      (same-rounds (numbered "vs-out-rowfld-") (8 * s + 4 * g) 4 (after_taus r + s + g) 0 h (k₀ + s + g) (omega arith)
      (λ i l. S.row_fld i (omega arith)))
      (same_then k₃ 0 (singles (numbered "vs-terminal-") (before_terminals r) 0 6) _
      (draws_in-singles (numbered "vs-terminal-") (before_terminals r) 0 6)
      (same-singles (numbered "vs-terminal-") (before_terminals r) 0 6 k₃ (λ i l k. S.terminals i (omega arith) (omega arith)))
      (same_then (k₃ + 0) 6 (replicate 6 (draw (ascii "vs-alpha"))) _ refl (same-replicate (k₃ + 0) 6 (ascii "vs-alpha"))
      (same_then (k₃ + 0 + 6) (log_cols r) (rounds (λ _. ascii "vs-inner") (before_inner r) 3 0 (log_cols r)) _
      (draws_in-rounds (λ _. ascii "vs-inner") (before_inner r) 3 0 (log_cols r))
      (same-rounds (λ _. ascii "vs-inner") (before_inner r) 3 (after_taus r + s + g + h + 6) 0 (log_cols r) (k₃ + 0 + 6) (omega arith)
      (λ i l. S.inner i (omega arith)))
      ending)))))))
    where
      s : ℕ
      s = log_logins r

      g : ℕ
      g = log_bin r

      h : ℕ
      h = log_fld r

      k₀ : ℕ
      k₀ = 0 + (s + g) + (s + h)

      k₃ : ℕ
      k₃ = k₀ + s + g + h

      ending : Same (k₃ + 0 + 6 + log_cols r)
          (absorb (ascii "vs-vz") (before_end r) 1 ∷ singles (numbered "vs-seg-") (before_end r + 1) 0 (length r.lengths))
      ending = unfold Same in (
        λ k. ap (part (before_end r) 1) (S.last (omega arith)),
        same-singles (numbered "vs-seg-") (before_end r + 1) 0 (length r.lengths) (k₃ + 0 + 6 + log_cols r)
            (λ i l k. ap (part (before_end r + 1 + i) 1) (S.last (omega arith))),
      )

-- ---- what is drawn
longer : (a : List ℕ) (v : ℕ) → length (a ++ (v ∷ [])) ≡ suc (length a)
longer a v = length-append a (v ∷ []) ∙ omega arith

-- what was drawn before stays in front
play-front : (w : List ℕ) (es : List Event) (p : RunState) → take (length p.draws) (run_events w es p).draws ≡ p.draws
unfolding run_events
play-front w [] p = take-length p.draws
play-front w (absorb l i m ∷ es) p = play-front w es (absorbing l (part i m w) p)
play-front w (draw l ∷ es) p =
    let q : RunState = drawing l p in
    let e : length q.draws ≡ suc (length p.draws) = longer p.draws _ in
    sym (take-take (length p.draws) (length q.draws) (run_events w es q).draws (omega arith))
    ∙ ap (take (length p.draws)) (play-front w es q) ∙ take_at p.draws _ (length p.draws) refl

module _ (n : ℕ) (w v : List ℕ) where
  -- k is less than n, or it is n
  either : {A : Type 0} (k : ℕ) → k ≤ n → (suc k ≤ n → A) → (k ≡ n → A) → A
  either {A} k l less last = go (ltb k n) refl
    where
      go : (t : Bool) → ltb k n ≡ t → A
      go true e = less (let h : k < n = ltb-true k n e in omega arith)
      go false e = last (let h : n ≤ k = ltb-false k n e in omega arith)

  pub play-same : (k : ℕ) (es : List Event) (p : RunState) → length p.draws ≡ k → k ≤ n → Same n w v k es
      → take (suc n) (run_events w es p).draws ≡ take (suc n) (run_events v es p).draws
  unfolding Same run_events
  play-same k [] p e l h = refl
  play-same k (absorb a i m ∷ es) p e l h =
      ap (λ (u : List ℕ). take (suc n) (run_events w es (absorbing a u p)).draws) (h.0 l)
      ∙ play-same k es (absorbing a (part i m v) p) e l h.1
  play-same k (draw a ∷ es) p e l h =
      let q : RunState = drawing a p in
      let one : length q.draws ≡ suc k = longer p.draws _ ∙ ap suc e in
      either k l (λ less. play-same (suc k) es q one less h)
      (λ z. subst (λ (j : ℕ). take j (run_events w es q).draws ≡ take j (run_events v es q).draws) (one ∙ ap suc z)
      (play-front w es q ∙ sym (play-front v es q)))
