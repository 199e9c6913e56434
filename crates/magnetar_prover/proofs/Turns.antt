-- Loops of a schedule: after i of n turns the other n - i are left. For each loop, its start and one more turn.
-- Assumes nothing.
use mathlib.Core.Path.{◌≡◌, refl, sym, ap, ◌∙◌, subst}
use mathlib.Core.List.{List, [], ◌∷◌, ◌++◌}
use Prim.Native.Nat.{ℕ, suc, ◌+◌, ◌*◌, ◌-◌, ◌<◌, ◌≤◌}
use native.Mathlib.Nat.{mul-suc}
use native.Mathlib.Numerals.{add-one}
use native.Mathlib.Omega.{arith}
use lib.ListN.{length, replicate}
use Rattle.magnetar_schedule.specs.Schedule.{Event, absorb, draw, rounds, singles}
use Rattle.magnetar_schedule.specs.ScheduleRun.{RunState}
use Rattle.magnetar_prover.specs.declared.schedule_run.Stage.{Stage}
use Rattle.magnetar_prover.specs.Stages.{PartialRun, Runs}

one_less : (n i : ℕ) → i < n → n - i ≡ suc (n - (i + 1))
one_less n i h = omega arith

none-less : (n i : ℕ) → n ≤ i → n - i ≡ 0
none-less n i h = omega arith

-- ---- draws under one label

pub record Times (label : List ℕ) (n : ℕ) (s : Stage) (out : List ℕ) (i : ℕ) (u : Stage) (last : List ℕ) : Type 0 where
  pub some : i ≤ n
  pub size : length last ≡ length out
  pub go
      : (w : List ℕ) (next : ℕ) (was : List ℕ) (whole : RunState) (rest : List Event)
      → PartialRun w was whole (replicate n (draw label) ++ rest) next s out
      → PartialRun w was whole (replicate (n - i) (draw label) ++ rest) next u last

pub times-start : (label : List ℕ) (n : ℕ) (s : Stage) (out : List ℕ) → Times label n s out 0 s out
times-start label n s out =
    let e : n ≡ n - 0 = omega arith in
    record {
      some = omega arith;
      size = refl;
      go = λ w next was whole rest g. subst (λ (k : ℕ). PartialRun w was whole (replicate k (draw label) ++ rest) next s out) e g;
    }

pub times_more
    : {label out mid last : List ℕ} {n i : ℕ} {s u v : Stage}
    → Times label n s out i u mid
    → i < n
    → length last ≡ length mid
    → ((w : List ℕ) (next : ℕ) → Runs w (draw label ∷ []) next next u mid v last)
    → Times label n s out (i + 1) v last
times_more {label} {out} {mid} {last} {n} {i} {s} {u} {v} t h l f =
    record {
      some = omega arith;
      size = l ∙ t.size;
      go = λ w next was whole rest g.
          f w next was whole (replicate (n - (i + 1)) (draw label) ++ rest)
          (subst (λ (k : ℕ). PartialRun w was whole (replicate k (draw label) ++ rest) next u mid) (one_less n i h) (t.go w next was whole rest g));
    }

pub times-end
    : {label out last : List ℕ} {n i : ℕ} {s u : Stage}
    → Times label n s out i u last
    → n ≤ i
    → (w : List ℕ) (next : ℕ)
    → Runs w (replicate n (draw label)) next next s out u last
times-end {label} {out} {last} {n} {i} {s} {u} t h w next was whole rest g =
    subst (λ (k : ℕ). PartialRun w was whole (replicate k (draw label) ++ rest) next u last) (none-less n i h) (t.go w next was whole rest g)

-- ---- rounds

pub record Rounds (w : List ℕ) (label : ℕ → List ℕ) (k n : ℕ) (s : Stage) (out : List ℕ) (i : ℕ) (u : Stage) (last : List ℕ) : Type 0 where
  pub some : i ≤ n
  pub size : length last ≡ length out
  pub go
      : (first : ℕ) (was : List ℕ) (whole : RunState) (rest : List Event)
      → PartialRun w was whole (rounds label first k 0 n ++ rest) first s out
      → PartialRun w was whole (rounds label first k i (n - i) ++ rest) (first + k * i) u last

pub rounds-more
    : {w out mid last : List ℕ} {label : ℕ → List ℕ} {k n i : ℕ} {s u v : Stage}
    → Rounds w label k n s out i u mid
    → i < n
    → length last ≡ length mid
    → ((next : ℕ) → Runs w (absorb (label i) next k ∷ draw (label i) ∷ []) next (next + k) u mid v last)
    → Rounds w label k n s out (i + 1) v last
unfolding rounds
rounds-more {w} {out} {mid} {last} {label} {k} {n} {i} {s} {u} {v} t h l f =
    record {
      some = omega arith;
      size = l ∙ t.size;
      go = λ first was whole rest g.
          let m = n - (i + 1) in
          let e : suc i ≡ i + 1 = sym (add-one i) in
          let p : first + k * i + k ≡ first + k * (i + 1) = omega (arith, mul-suc k i, ap (λ (j : ℕ). k * j) e) in
          subst (λ (j : ℕ). PartialRun w was whole (rounds label first k j m ++ rest) (first + k * (i + 1)) v last) e
          (subst (λ (j : ℕ). PartialRun w was whole (rounds label first k (suc i) m ++ rest) j v last) p
          (f (first + k * i) was whole (rounds label first k (suc i) m ++ rest)
          (subst (λ (j : ℕ). PartialRun w was whole (rounds label first k i j ++ rest) (first + k * i) u mid) (one_less n i h) (t.go first was whole rest g))));
    }

pub rounds-end
    : {w out last : List ℕ} {label : ℕ → List ℕ} {k n i : ℕ} {s u : Stage}
    → Rounds w label k n s out i u last
    → n ≤ i
    → (first : ℕ)
    → Runs w (rounds label first k 0 n) first (first + k * n) s out u last
unfolding rounds
rounds-end {w} {out} {last} {label} {k} {n} {i} {s} {u} t h first was whole rest g =
    let some : i ≤ n = t.some in
    let e : i ≡ n = omega arith in
    subst (λ (j : ℕ). PartialRun w was whole rest (first + k * j) u last) e
    (subst (λ (j : ℕ). PartialRun w was whole (rounds label first k i j ++ rest) (first + k * i) u last) (none-less n i h) (t.go first was whole rest g))

-- ---- elements one by one

pub record Singles (w : List ℕ) (label : ℕ → List ℕ) (n : ℕ) (s : Stage) (i : ℕ) (u : Stage) : Type 0 where
  pub some : i ≤ n
  pub go
      : (first : ℕ) (out was : List ℕ) (whole : RunState) (rest : List Event)
      → PartialRun w was whole (singles label first 0 n ++ rest) first s out
      → PartialRun w was whole (singles label first i (n - i) ++ rest) (first + i) u out

pub singles-more
    : {w : List ℕ} {label : ℕ → List ℕ} {n i : ℕ} {s u v : Stage}
    → Singles w label n s i u
    → i < n
    → ((next : ℕ) (out : List ℕ) → Runs w (absorb (label i) next 1 ∷ []) next (next + 1) u out v out)
    → Singles w label n s (i + 1) v
unfolding singles
singles-more {w} {label} {n} {i} {s} {u} {v} t h f =
    record {
      some = omega arith;
      go = λ first out was whole rest g.
          let m = n - (i + 1) in
          let e : suc i ≡ i + 1 = sym (add-one i) in
          let p : first + i + 1 ≡ first + (i + 1) = omega arith in
          subst (λ (j : ℕ). PartialRun w was whole (singles label first j m ++ rest) (first + (i + 1)) v out) e
          (subst (λ (j : ℕ). PartialRun w was whole (singles label first (suc i) m ++ rest) j v out) p
          (f (first + i) out was whole (singles label first (suc i) m ++ rest)
          (subst (λ (j : ℕ). PartialRun w was whole (singles label first i j ++ rest) (first + i) u out) (one_less n i h) (t.go first out was whole rest g))));
    }

pub singles-end
    : {w : List ℕ} {label : ℕ → List ℕ} {n i : ℕ} {s u : Stage}
    → Singles w label n s i u
    → n ≤ i
    → (first : ℕ) (out : List ℕ)
    → Runs w (singles label first 0 n) first (first + n) s out u out
unfolding singles
singles-end {w} {label} {n} {i} {s} {u} t h first out was whole rest g =
    let some : i ≤ n = t.some in
    let e : i ≡ n = omega arith in
    subst (λ (j : ℕ). PartialRun w was whole rest (first + j) u out) e
    (subst (λ (j : ℕ). PartialRun w was whole (singles label first i j ++ rest) (first + i) u out) (none-less n i h) (t.go first out was whole rest g))
