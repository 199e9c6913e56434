-- The parts of a schedule, one after the other, are the whole of it.
-- Assumes nothing.
use mathlib.Core.Path.{◌≡◌, refl, sym, subst}
use mathlib.Core.List.{List, [], ◌∷◌, ◌++◌, append-nil}
use Prim.Native.Nat.{ℕ, ◌+◌, ◌*◌}
use native.Mathlib.Nat.{zero-add}
use lib.ListN.{length, take, replicate}
use Rattle.magnetar_field.specs.Sizes.{log₂}
use Rattle.magnetar_field.specs.Words.{words, overlaid}
use Rattle.magnetar_hash.specs.Bytes.{ascii}
use Rattle.magnetar_hash.specs.declared.transcript.Transcript.{Transcript}
use Rattle.magnetar_schedule.specs.Schedule.{Event, absorb, draw, numbered, rounds, singles, schedule}
use Rattle.magnetar_protocol.specs.Shape.{sizes_only}
use Rattle.magnetar_schedule.specs.ScheduleRun.{RunState, run_from}
use Rattle.magnetar_prover.specs.declared.schedule_run.Stage.{Stage}
use Rattle.magnetar_prover.specs.Stages.{PartialRun, Runs, OuterRuns, InnerRuns}
use Rattle.magnetar_prover.proofs.Staging.{going-start, going-end}

pub outer-all
    : {w o₀ o₁ o₂ o₃ o₄ o₅ : List ℕ} {s₀ s₁ s₂ s₃ s₄ s₅ : Stage} (a b f : ℕ)
    → ((w : List ℕ) (next : ℕ) → Runs w (replicate (a + b) (draw (ascii "vs-tau-bin"))) next next s₀ o₀ s₁ o₁)
    → ((w : List ℕ) (next : ℕ) → Runs w (replicate (a + f) (draw (ascii "vs-tau-fld"))) next next s₁ o₁ s₂ o₂)
    → ((first : ℕ) → Runs w (rounds (numbered "vs-out-shared-") first 8 0 a) first (first + 8 * a) s₂ o₂ s₃ o₃)
    → ((first : ℕ) → Runs w (rounds (numbered "vs-out-rowbin-") first 4 0 b) first (first + 4 * b) s₃ o₃ s₄ o₄)
    → ((first : ℕ) → Runs w (rounds (numbered "vs-out-rowfld-") first 4 0 f) first (first + 4 * f) s₄ o₄ s₅ o₅)
    → OuterRuns w a b f s₀ o₀ s₅ o₅
outer-all {w} {o₀} {o₁} {o₂} {o₃} {o₄} {o₅} {s₀} {s₁} {s₂} {s₃} {s₄} {s₅} a b f h₁ h₂ h₃ h₄ h₅ was whole rest g =
    let e₅ : List Event = rounds (numbered "vs-out-rowfld-") (8 * a + 4 * b) 4 0 f ++ rest in
    let e₄ : List Event = rounds (numbered "vs-out-rowbin-") (8 * a) 4 0 b ++ e₅ in
    let e₃ : List Event = rounds (numbered "vs-out-shared-") 0 8 0 a ++ e₄ in
    let e₂ : List Event = replicate (a + f) (draw (ascii "vs-tau-fld")) ++ e₃ in
    let g₃ : PartialRun w was whole e₄ (0 + 8 * a) s₃ o₃ = h₃ 0 was whole e₄ (h₂ w 0 was whole e₃ (h₁ w 0 was whole e₂ g)) in
    let g₃' : PartialRun w was whole e₄ (8 * a) s₃ o₃ = subst (λ (k : ℕ). PartialRun w was whole e₄ k s₃ o₃) (zero-add (8 * a)) g₃ in
    h₅ (8 * a + 4 * b) was whole rest (h₄ (8 * a) was whole e₅ g₃')

pub inner-all
    : {w o₀ o₁ o₂ : List ℕ} {s₀ s₁ s₂ s₃ s₄ s₅ : Stage} (c n : ℕ)
    → ((first : ℕ) (out : List ℕ) → Runs w (singles (numbered "vs-terminal-") first 0 6) first (first + 6) s₀ out s₁ out)
    → ((w : List ℕ) (next : ℕ) → Runs w (replicate 6 (draw (ascii "vs-alpha"))) next next s₁ o₀ s₂ o₁)
    → ((first : ℕ) → Runs w (rounds (λ _. ascii "vs-inner") first 3 0 c) first (first + 3 * c) s₂ o₁ s₃ o₂)
    → ((next : ℕ) (out : List ℕ) → Runs w (absorb (ascii "vs-vz") next 1 ∷ []) next (next + 1) s₃ out s₄ out)
    → ((first : ℕ) (out : List ℕ) → Runs w (singles (numbered "vs-seg-") first 0 n) first (first + n) s₄ out s₅ out)
    → InnerRuns w c n s₀ o₀ s₅ o₂
inner-all {w} {o₀} {o₁} {o₂} {s₀} {s₁} {s₂} {s₃} {s₄} {s₅} c n h₁ h₂ h₃ h₄ h₅ was whole first g =
    let e₅ : List Event = singles (numbered "vs-seg-") (first + 6 + 3 * c + 1) 0 n in
    let e₄ : List Event = absorb (ascii "vs-vz") (first + 6 + 3 * c) 1 ∷ e₅ in
    let e₃ : List Event = rounds (λ _. ascii "vs-inner") (first + 6) 3 0 c ++ e₄ in
    let e₂ : List Event = replicate 6 (draw (ascii "vs-alpha")) ++ e₃ in
    let g₃ : PartialRun w was whole e₄ (first + 6 + 3 * c) s₃ o₂ =
    h₃ (first + 6) was whole e₄ (h₂ w (first + 6) was whole e₃ (h₁ first o₀ was whole e₂ g)) in
    let g₄ : PartialRun w was whole e₅ (first + 6 + 3 * c + 1) s₄ o₂ = h₄ (first + 6 + 3 * c) o₂ was whole e₅ g₃ in
    h₅ (first + 6 + 3 * c + 1) o₂ was whole []
    (subst (λ (es : List Event). PartialRun w was whole es (first + 6 + 3 * c + 1) s₄ o₂) (sym (append-nil e₅)) g₄)

pub run-all
    : {w was mid last : List ℕ} {a b f c to : ℕ} {s r v : Stage} (m q rb rf : ℕ) (ns : List ℕ) (t : Transcript)
    → a ≡ log₂ q
    → b ≡ log₂ rb
    → f ≡ log₂ rf
    → c ≡ log₂ m
    → s ≡ record { transcript = t; written = 0; place = 0; left = to }
    → OuterRuns w a b f s was r mid
    → InnerRuns w c (length ns) r mid v last
    → (v.transcript ≡ (run_from w (take to (schedule (sizes_only m q rb rf ns))) t).transcript)
    × (last ≡ overlaid (words (run_from w (take to (schedule (sizes_only m q rb rf ns))) t).draws) was)
unfolding schedule
run-all {w} {was} {mid} {last} {a} {b} {f} {c} {to} {s} {r} {v} m q rb rf ns t ea eb ef ec es outer inner =
    let first : Stage = record { transcript = t; written = 0; place = 0; left = to } in
    let whole : RunState = run_from w (take to (schedule (sizes_only m q rb rf ns))) t in
    let o : OuterRuns w (log₂ q) (log₂ rb) (log₂ rf) first was r mid =
    subst (λ (x : Stage). OuterRuns w (log₂ q) (log₂ rb) (log₂ rf) x was r mid) es
    (subst (λ (x : ℕ). OuterRuns w (log₂ q) (log₂ rb) x s was r mid) ef
    (subst (λ (x : ℕ). OuterRuns w (log₂ q) x f s was r mid) eb
    (subst (λ (x : ℕ). OuterRuns w x b f s was r mid) ea outer))) in
    let i : InnerRuns w (log₂ m) (length ns) r mid v last = subst (λ (x : ℕ). InnerRuns w x (length ns) r mid v last) ec inner in
    going-end (i was whole _ (o was whole _ (going-start w was (schedule (sizes_only m q rb rf ns)) t first refl refl refl)))
