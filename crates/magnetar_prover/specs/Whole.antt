-- The outer rounds from first to last, with the logarithms l, b, f of the logins and of the rows of bin and fld in the place of a
-- relation. Only the contracts of private functions speak of this.
-- Assumes nothing.
use Rattle.std.specs.Prelude.{List, [], ◌∷◌, ◌≡◌, ℕ, ◌+◌, ◌*◌, ◌^◌, ◌≤◌, get_or, take, drop}
use Rattle.magnetar_hash.specs.Bytes.{ascii}
use Rattle.magnetar_hash.specs.declared.transcript.Transcript.{Transcript}
use Rattle.magnetar_sumcheck_verifier.specs.Messages.{outer_start}
use Rattle.magnetar_prover.specs.InScratch.{steps_in, outer_in}
use Rattle.magnetar_schedule.specs.Stepwise.{Steps, OuterSteps, Tables, begin, draw_times, send_each, shared_steps, row_steps}

-- the two taus
abbrev pub taus_of : (l b f : ℕ) → Transcript → Steps
taus_of l b f t = draw_times (l + f) (ascii "vs-tau-fld") (draw_times (l + b) (ascii "vs-tau-bin") (begin t))

-- what both provers hold after them
abbrev pub begin_of : (l b : ℕ) → Tables → Steps → OuterSteps
begin_of l b T p = record {
  steps = p;
  bin = outer_start l (take (l + b) p.run_state.draws) T.bin_a T.bin_b T.bin_c;
  fld = outer_start l (drop (l + b) p.run_state.draws) T.fld_a T.fld_b T.fld_c;
}

-- the row rounds of bin
abbrev pub bin_of : ℕ → OuterSteps → OuterSteps
bin_of b q = record {
  steps = (row_steps "vs-out-rowbin-" 0 b (record { steps = q.steps; held = q.bin })).steps;
  bin = (row_steps "vs-out-rowbin-" 0 b (record { steps = q.steps; held = q.bin })).held;
  fld = q.fld;
}

-- and of fld
abbrev pub fld_of : ℕ → OuterSteps → OuterSteps
fld_of f q = record {
  steps = (row_steps "vs-out-rowfld-" 0 f (record { steps = q.steps; held = q.fld })).steps;
  bin = q.bin;
  fld = (row_steps "vs-out-rowfld-" 0 f (record { steps = q.steps; held = q.fld })).held;
}

-- the first entries of the tables that are left
abbrev pub left_of : OuterSteps → List ℕ
left_of q =
    get_or q.bin.a 0 0 ∷ get_or q.bin.b 0 0 ∷ get_or q.bin.c 0 0 ∷ get_or q.fld.a 0 0 ∷ get_or q.fld.b 0 0 ∷ get_or q.fld.c 0 0
    ∷ []

-- the terminals and the alphas
abbrev pub end_of : OuterSteps → Steps
end_of q = draw_times 6 (ascii "vs-alpha") (send_each "vs-terminal-" 0 (left_of q) q.steps)

-- all of it
unfoldable pub outer_whole : (l b f : ℕ) → Tables → Transcript → Steps
outer_whole l b f T t = end_of (fld_of f (bin_of b (shared_steps 0 l (begin_of l b T (taus_of l b f t)))))

-- what is left in both blocks after all rounds
abbrev pub left_in : (a d kb kf wb wf : ℕ) → Transcript → (proof draws s : List ℕ) → OuterSteps
left_in a d kb kf wb wf t proof draws s = record {
  steps = steps_in a d t proof draws;
  bin = outer_in 0 [] kb wb 2 (take (4 * wb) s);
  fld = outer_in 0 [] kf wf 2 (drop (4 * wb) s);
}

-- the sizes: so many words of proof, draws and blocks
pub record Blocks (l b f wb wf p d s : ℕ) : Type 0 where
  pub bin_few : l + b ≤ 20
  pub fld_few : l + f ≤ 20
  pub bin_words : wb ≡ 2 * 2 ^ (l + b)
  pub fld_words : wf ≡ 2 * 2 ^ (l + f)
  pub bin_most : wb ≤ 2097152
  pub fld_most : wf ≤ 2097152
  pub proof : p ≡ 2 * (8 * l + 4 * b + 4 * f + 6)
  pub draws : d ≡ 2 * (l + b + (l + f) + l + b + f + 6)
  pub blocks : s ≡ 4 * wb + 4 * wf
