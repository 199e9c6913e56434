-- Each message of the honest proof uses only the draws before it: where two lists of draws begin with the same n, what is absorbed
-- before draw n + 1 is the same.
-- Assumes nothing.
use mathlib.Core.Path.{◌≡◌, refl, sym, ap, ap₂, ◌∙◌}
use mathlib.Core.List.{List, [], ◌∷◌, ◌++◌}
use Prim.Native.Nat.{ℕ, zero, suc, ◌+◌, ◌*◌, ◌≤◌, ◌<◌}
use native.Mathlib.Nat.{zero-add, suc-add}
use native.Mathlib.Omega.{arith}
use lib.ListN.{length, get_or, take, drop, length-append, length-drop, get_or-append}
use lib.Seq.{take-nil, drop-nil, take_all, take-take, take-add, take-append-le, take-append-add, drop-drop, drop-append-le, get_or-append-add}
use Rattle.magnetar_field.specs.Tabulate.{tabulate}
use Rattle.magnetar_field.proofs.Tabulation.{tabulate-length, tabulate-get}
use Rattle.magnetar_multilinear.specs.Multilinear.{mle, bind_var}
use Rattle.magnetar_sumcheck_verifier.specs.Inner.{inner_message}
use Rattle.magnetar_sumcheck_verifier.specs.Messages.{Outer, outer_start, outer_next, outer_fold, outer_messages, inner_messages}
use Rattle.magnetar_matrix.specs.Matrix.{System}
use Rattle.magnetar_matrix.specs.Batch.{Relation, Batch, PublicColumns}
use Rattle.magnetar_protocol.specs.Shape.{log_logins, log_bin, log_fld, log_cols, before_terminals, before_inner, after_taus}
use Rattle.magnetar_protocol.specs.Proof.{part, bin_messages, fld_messages, inner_rounds}
use Rattle.magnetar_protocol.specs.Draws.{Draws, draw_count, draws_of, login_point}
use Rattle.magnetar_protocol.specs.Checks.{combined}
use Rattle.magnetar_protocol.specs.Prover.{joined, interleaved, product_table, outer_rounds, bin_rounds, fld_rounds, terminal_values, folded_z, true_values, honest_proof, prover_proof}
use Rattle.magnetar_protocol.proofs.SizeFacts.{Cut, cut}
use Rattle.magnetar_protocol.proofs.HonestParts.{bin-part, fld-part, inner-part, at₃}
use Rattle.magnetar_schedule.proofs.StepLaws.{folds, binds}
use Rattle.magnetar_schedule.proofs.Heard.{Says}

-- ---- a message from the challenges before it
outer-at : (S : Outer) (rs : List ℕ) (i : ℕ) → i < length rs → get_or (outer_messages S rs) i [] ≡ outer_next (folds (take i rs) S)
unfolding outer_messages
outer-at S [] i h = absurd (omega arith)
outer-at S (r ∷ rs) zero h = refl
outer-at S (r ∷ rs) (suc i) h = outer-at (outer_fold r S) rs i (omega arith)

inner-at : (t z rs : List ℕ) (i : ℕ) → i < length rs
    → get_or (inner_messages t z rs) i [] ≡ inner_message 0 (binds (take i rs) t) (binds (take i rs) z)
unfolding inner_messages
inner-at t z [] i h = absurd (omega arith)
inner-at t z (r ∷ rs) zero h = refl
inner-at t z (r ∷ rs) (suc i) h = inner-at (bind_var 0 r t) (bind_var 0 r z) rs i (omega arith)

-- of a sum-check with the challenges sh and then rows
first-at : (S : Outer) (sh rows : List ℕ) (s i : ℕ) → length sh ≡ s → i < s
    → get_or (outer_messages S (sh ++ rows)) i [] ≡ outer_next (folds (take i sh) S)
first-at S sh rows s i e l =
    outer-at S (sh ++ rows) i (omega (arith, length-append sh rows))
    ∙ ap (λ (rs : List ℕ). outer_next (folds rs S)) (take-append-le i sh rows (omega arith))

later-at : (S : Outer) (sh rows : List ℕ) (s i : ℕ) → length sh ≡ s → i < length rows
    → get_or (outer_messages S (sh ++ rows)) (s + i) [] ≡ outer_next (folds (sh ++ take i rows) S)
later-at S sh rows s i e l =
    outer-at S (sh ++ rows) (s + i) (omega (arith, length-append sh rows))
    ∙ ap (λ (rs : List ℕ). outer_next (folds rs S)) (ap (λ (k : ℕ). take (k + i) (sh ++ rows)) (sym e) ∙ take-append-add sh rows i)

-- ---- two tables of messages, one behind the other
get_first : (f g : ℕ → List ℕ) (s m i : ℕ) → i < s → get_or (tabulate f s ++ tabulate g m) i [] ≡ f i
get_first f g s m i l =
    get_or-append (tabulate f s) (tabulate g m) [] i (rw tabulate-length l) ∙ tabulate-get f s i [] l

get-later : (f g : ℕ → List ℕ) (s m i : ℕ) → i < m → get_or (tabulate f s ++ tabulate g m) (s + i) [] ≡ g i
get-later f g s m i l =
    ap (λ (k : ℕ). get_or (tabulate f s ++ tabulate g m) (k + i) []) (sym (tabulate-length f s))
    ∙ get_or-append-add (tabulate f s) (tabulate g m) i [] ∙ tabulate-get g m i [] l

-- one of six values, which stand at o
value-at : (o i : ℕ) (w v post : List ℕ) → drop o w ≡ v ++ post → length v ≡ 6 → i < 6 → part (o + i) 1 w ≡ part i 1 v
value-at o i w v post h e l =
    ap (take 1) (sym (drop-drop i o w) ∙ ap (drop i) h ∙ drop-append-le i v post (omega arith))
    ∙ take-append-le 1 (drop i v) post (rw length-drop (omega arith))

-- ---- the messages of the honest proof
module _ (r : Relation) (b : Batch) (x : PublicColumns) where
  abbrev s : ℕ
  s = log_logins r

  -- what the prover of a system holds at the start
  abbrev held : System → List ℕ → Outer
  held y tau = outer_start s tau (product_table r b x y.a) (product_table r b x y.b) (product_table r b x y.c)

  module _ (D : Draws) (C : Cut r D) where
    abbrev W : List ℕ
    W = honest_proof r b x D

    shared-bin : (i : ℕ) → i < s → part (8 * i) 4 W ≡ outer_next (folds (take i D.shared) (held r.bin D.tau_bin))
    unfolding bin_messages outer_rounds
    shared-bin i l =
        sym (get_first (λ j. part (8 * j) 4 W) (λ j. part (8 * s + 4 * j) 4 W) s (log_bin r) i l)
        ∙ ap (λ (m : List (List ℕ)). get_or m i []) (bin-part r b x D C)
        ∙ first-at (held r.bin D.tau_bin) D.shared D.row_bin s i C.shared l

    shared-fld : (i : ℕ) → i < s → part (8 * i + 4) 4 W ≡ outer_next (folds (take i D.shared) (held r.fld D.tau_fld))
    unfolding fld_messages outer_rounds
    shared-fld i l =
        sym (get_first (λ j. part (8 * j + 4) 4 W) (λ j. part (8 * s + 4 * log_bin r + 4 * j) 4 W) s (log_fld r) i l)
        ∙ ap (λ (m : List (List ℕ)). get_or m i []) (fld-part r b x D C)
        ∙ first-at (held r.fld D.tau_fld) D.shared D.row_fld s i C.shared l

    shared-both : (i : ℕ) → i < s
        → part (8 * i) 8 W ≡ outer_next (folds (take i D.shared) (held r.bin D.tau_bin))
        ++ outer_next (folds (take i D.shared) (held r.fld D.tau_fld))
    shared-both i l =
        take-add 4 4 (drop (8 * i) W)
        ∙ ap₂ ◌++◌ (shared-bin i l) (ap (take 4) (drop-drop 4 (8 * i) W) ∙ shared-fld i l)

    row-bin-at : (i : ℕ) → i < log_bin r
        → part (8 * s + 4 * i) 4 W ≡ outer_next (folds (D.shared ++ take i D.row_bin) (held r.bin D.tau_bin))
    unfolding bin_messages outer_rounds
    row-bin-at i l =
        sym (get-later (λ j. part (8 * j) 4 W) (λ j. part (8 * s + 4 * j) 4 W) s (log_bin r) i l)
        ∙ ap (λ (m : List (List ℕ)). get_or m (s + i) []) (bin-part r b x D C)
        ∙ later-at (held r.bin D.tau_bin) D.shared D.row_bin s i C.shared (rw C.row_bin l)

    row-fld-at : (i : ℕ) → i < log_fld r
        → part (8 * s + 4 * log_bin r + 4 * i) 4 W ≡ outer_next (folds (D.shared ++ take i D.row_fld) (held r.fld D.tau_fld))
    unfolding fld_messages outer_rounds
    row-fld-at i l =
        sym (get-later (λ j. part (8 * j + 4) 4 W) (λ j. part (8 * s + 4 * log_bin r + 4 * j) 4 W) s (log_fld r) i l)
        ∙ ap (λ (m : List (List ℕ)). get_or m (s + i) []) (fld-part r b x D C)
        ∙ later-at (held r.fld D.tau_fld) D.shared D.row_fld s i C.shared (rw C.row_fld l)

    terminal-at : (i : ℕ) → i < 6 → part (before_terminals r + i) 1 W ≡ part i 1 (terminal_values r b x D)
    unfolding terminal_values
    terminal-at i l = value-at (before_terminals r) i W (terminal_values r b x D) _ (at₃ r b x D C) refl l

    inner-round-at : (i : ℕ) → i < log_cols r
        → part (before_inner r + 3 * i) 3 W ≡ inner_message 0 (binds (take i D.inner) (combined r D)) (binds (take i D.inner) (folded_z r b x D))
    unfolding inner_rounds
    inner-round-at i l =
        sym (tabulate-get (λ j. part (before_inner r + 3 * j) 3 W) (log_cols r) i [] l)
        ∙ ap (λ (m : List (List ℕ)). get_or m i []) (inner-part r b x D C)
        ∙ inner-at (combined r D) (folded_z r b x D) D.inner i (rw C.inner l)

  -- ---- values that use the same draws
  module _ (D E : Draws) (sh : D.shared ≡ E.shared) (rb : D.row_bin ≡ E.row_bin) (rf : D.row_fld ≡ E.row_fld) where
    terminals-same : terminal_values r b x D ≡ terminal_values r b x E
    unfolding terminal_values login_point
    terminals-same = λ j. terminal_values r b x
        (record { tau_bin = []; tau_fld = []; shared = sh j; row_bin = rb j; row_fld = rf j; alphas = []; inner = [] })

    folded-same : folded_z r b x D ≡ folded_z r b x E
    unfolding folded_z login_point
    folded-same = λ j. folded_z r b x
        (record { tau_bin = []; tau_fld = []; shared = sh j; row_bin = rb j; row_fld = rf j; alphas = []; inner = [] })

    combined-same : D.alphas ≡ E.alphas → combined r D ≡ combined r E
    unfolding combined
    combined-same al = λ j. combined r
        (record { tau_bin = []; tau_fld = []; shared = sh j; row_bin = rb j; row_fld = rf j; alphas = al j; inner = [] })

-- ---- lists that begin with the same n elements
take_part : (a m : ℕ) (l : List ℕ) → part a m l ≡ drop a (take (a + m) l)
take_part zero m l = ap (λ (k : ℕ). take k l) (sym (zero-add m))
take_part (suc a) m [] = take-nil m ∙ sym (ap (drop (suc a)) (take-nil (suc a + m)))
take_part (suc a) m (y ∷ l) = take_part a m l ∙ ap (λ (k : ℕ). drop (suc a) (take k (y ∷ l))) (sym (suc-add a m))

module _ (n : ℕ) (d e : List ℕ) (h : take n d ≡ take n e) where
  front_same : (k : ℕ) → k ≤ n → take k d ≡ take k e
  front_same k l = sym (take-take k n d l) ∙ ap (take k) h ∙ take-take k n e l

  part_same : (a m : ℕ) → a + m ≤ n → part a m d ≡ part a m e
  part_same a m l = take_part a m d ∙ ap (drop a) (front_same (a + m) l) ∙ sym (take_part a m e)

  begin-same : (a m i : ℕ) → i ≤ m → a + i ≤ n → take i (part a m d) ≡ take i (part a m e)
  begin-same a m i k l = take-take i m (drop a d) k ∙ part_same a i l ∙ sym (take-take i m (drop a e) k)

-- ---- the words at two lists of draws that begin with the same n
module _ (r : Relation) (b : Batch) (x : PublicColumns) (d e : List ℕ) (hd : length d ≡ draw_count r) (he : length e ≡ draw_count r)
    (n : ℕ) (h : take n d ≡ take n e) where
  abbrev D : Draws
  D = draws_of r d

  abbrev E : Draws
  E = draws_of r e

  abbrev tau : ℕ
  tau = after_taus r

  tau-bin-same : tau ≤ n → D.tau_bin ≡ E.tau_bin
  unfolding draws_of
  tau-bin-same l = front_same n d e h (log_logins r + log_bin r) (omega arith)

  tau-fld-same : tau ≤ n → D.tau_fld ≡ E.tau_fld
  unfolding draws_of
  tau-fld-same l = part_same n d e h (log_logins r + log_bin r) (log_logins r + log_fld r) l

  shared-begin : (i : ℕ) → i < log_logins r → tau + i ≤ n → take i D.shared ≡ take i E.shared
  unfolding draws_of
  shared-begin i k l = begin-same n d e h tau (log_logins r) i (omega arith) l

  shared_same : tau + log_logins r ≤ n → D.shared ≡ E.shared
  unfolding draws_of
  shared_same l = part_same n d e h tau (log_logins r) l

  bin-begin : (i : ℕ) → i < log_bin r → tau + log_logins r + i ≤ n → take i D.row_bin ≡ take i E.row_bin
  unfolding draws_of
  bin-begin i k l = begin-same n d e h (tau + log_logins r) (log_bin r) i (omega arith) l

  bin_same : tau + log_logins r + log_bin r ≤ n → D.row_bin ≡ E.row_bin
  unfolding draws_of
  bin_same l = part_same n d e h (tau + log_logins r) (log_bin r) l

  fld-begin : (i : ℕ) → i < log_fld r → tau + log_logins r + log_bin r + i ≤ n → take i D.row_fld ≡ take i E.row_fld
  unfolding draws_of
  fld-begin i k l = begin-same n d e h (tau + log_logins r + log_bin r) (log_fld r) i (omega arith) l

  fld-same : tau + log_logins r + log_bin r + log_fld r ≤ n → D.row_fld ≡ E.row_fld
  unfolding draws_of
  fld-same l = part_same n d e h (tau + log_logins r + log_bin r) (log_fld r) l

  alphas-same : tau + log_logins r + log_bin r + log_fld r + 6 ≤ n → D.alphas ≡ E.alphas
  unfolding draws_of
  alphas-same l = part_same n d e h (tau + log_logins r + log_bin r + log_fld r) 6 l

  inner-begin : (i : ℕ) → i < log_cols r → tau + log_logins r + log_bin r + log_fld r + 6 + i ≤ n → take i D.inner ≡ take i E.inner
  unfolding draws_of
  inner-begin i k l = begin-same n d e h (tau + log_logins r + log_bin r + log_fld r + 6) (log_cols r) i (omega arith) l

  all_same : draw_count r ≤ n → d ≡ e
  all_same l = sym (take_all n d (omega arith)) ∙ h ∙ take_all n e (omega arith)

  pub words-say : Says r n (prover_proof r b x d) (prover_proof r b x e)
  unfolding prover_proof
  words-say = record {
    shared = λ i l k. shared-both r b x D C i l
        ∙ (λ j. outer_next (folds (shared-begin i l k j) (held r b x r.bin (tau-bin-same (omega arith) j)))
        ++ outer_next (folds (shared-begin i l k j) (held r b x r.fld (tau-fld-same (omega arith) j))))
        ∙ sym (shared-both r b x E B i l);
    row_bin = λ i l k. row-bin-at r b x D C i l
        ∙ (λ j. outer_next (folds (shared_same (omega arith) j ++ bin-begin i l k j) (held r b x r.bin (tau-bin-same (omega arith) j))))
        ∙ sym (row-bin-at r b x E B i l);
    row_fld = λ i l k. row-fld-at r b x D C i l
        ∙ (λ j. outer_next (folds (shared_same (omega arith) j ++ fld-begin i l k j) (held r b x r.fld (tau-fld-same (omega arith) j))))
        ∙ sym (row-fld-at r b x E B i l);
    terminals = λ i l k. terminal-at r b x D C i l
        ∙ ap (part i 1) (terminals-same r b x D E (shared_same (omega arith)) (bin_same (omega arith)) (fld-same k))
        ∙ sym (terminal-at r b x E B i l);
    inner = λ i l k.
        let sh : D.shared ≡ E.shared = shared_same (omega arith) in
        let rb : D.row_bin ≡ E.row_bin = bin_same (omega arith) in
        let rf : D.row_fld ≡ E.row_fld = fld-same (omega arith) in
        let al : D.alphas ≡ E.alphas = alphas-same (omega arith) in
        inner-round-at r b x D C i l
        ∙ (λ j. inner_message 0 (binds (inner-begin i l k j) (combined-same r b x D E sh rb rf al j))
        (binds (inner-begin i l k j) (folded-same r b x D E sh rb rf j)))
        ∙ sym (inner-round-at r b x E B i l);
    last = λ l. ap (λ (u : List ℕ). honest_proof r b x (draws_of r u)) (all_same l);
  }
    where
      C : Cut r (draws_of r d)
      C = cut r d hd

      B : Cut r (draws_of r e)
      B = cut r e he

-- ---- what is absorbed before the first draw uses none: there are no rounds then, and the terminals come first
module _ (r : Relation) (b : Batch) (x : PublicColumns) (d : List ℕ) (s₀ : log_logins r ≡ 0) (g₀ : log_bin r ≡ 0) (h₀ : log_fld r ≡ 0) where
  abbrev D₀ : Draws
  D₀ = draws_of r d

  shared-none : D₀.shared ≡ []
  unfolding draws_of
  shared-none = ap (λ (k : ℕ). part (after_taus r) k d) s₀

  bin-none : D₀.row_bin ≡ []
  unfolding draws_of
  bin-none = ap (λ (k : ℕ). part (after_taus r + log_logins r) k d) g₀

  fld-none : D₀.row_fld ≡ []
  unfolding draws_of
  fld-none = ap (λ (k : ℕ). part (after_taus r + log_logins r + log_bin r) k d) h₀

  rounds-none : (y : System) (tau rows : List ℕ) → rows ≡ [] → outer_rounds r b x D₀ y tau rows ≡ []
  unfolding outer_rounds outer_messages
  rounds-none y tau rows z = ap₂ (λ (p q : List ℕ). outer_messages (held r b x y tau) (p ++ q)) shared-none z

  abbrev rest : List ℕ
  rest = joined (inner_messages (combined r D₀) (folded_z r b x D₀) D₀.inner) ++ (mle (folded_z r b x D₀) D₀.inner ∷ true_values r b D₀)

  terminals-first : prover_proof r b x d ≡ terminal_values r b x D₀ ++ rest
  unfolding prover_proof honest_proof joined interleaved
  terminals-first =
      let bin : bin_rounds r b x D₀ ≡ [] = rounds-none r.bin D₀.tau_bin D₀.row_bin bin-none in
      let fld : fld_rounds r b x D₀ ≡ [] = rounds-none r.fld D₀.tau_fld D₀.row_fld fld-none in
      let s = log_logins r in
      λ j. interleaved ((ap (take s) bin ∙ take-nil s) j) (take s (fld_rounds r b x D₀))
      ++ (joined ((ap (drop s) bin ∙ drop-nil s) j) ++ (joined ((ap (drop s) fld ∙ drop-nil s) j) ++ (terminal_values r b x D₀ ++ rest)))

  terminal-first : (i : ℕ) → i < 6 → part (before_terminals r + i) 1 (prover_proof r b x d) ≡ part i 1 (terminal_values r b x D₀)
  unfolding terminal_values
  terminal-first i l =
      let z : before_terminals r ≡ 0 = omega arith in
      value-at (before_terminals r) i (prover_proof r b x d) (terminal_values r b x D₀) rest
      (ap (λ (k : ℕ). drop k (prover_proof r b x d)) z ∙ terminals-first) refl l

pub first-say : (r : Relation) (b : Batch) (x : PublicColumns) (d e : List ℕ) → Says r 0 (prover_proof r b x d) (prover_proof r b x e)
first-say r b x d e = record {
  shared = λ i l k. absurd (omega arith);
  row_bin = λ i l k. absurd (omega arith);
  row_fld = λ i l k. absurd (omega arith);
  terminals = λ i l k.
      let s₀ : log_logins r ≡ 0 = omega arith in
      let g₀ : log_bin r ≡ 0 = omega arith in
      let h₀ : log_fld r ≡ 0 = omega arith in
      terminal-first r b x d s₀ g₀ h₀ i l
      ∙ ap (part i 1) (terminals-same r b x (draws_of r d) (draws_of r e) (shared-none r b x d s₀ g₀ h₀ ∙ sym (shared-none r b x e s₀ g₀ h₀))
      (bin-none r b x d s₀ g₀ h₀ ∙ sym (bin-none r b x e s₀ g₀ h₀)) (fld-none r b x d s₀ g₀ h₀ ∙ sym (fld-none r b x e s₀ g₀ h₀)))
      ∙ sym (terminal-first r b x e s₀ g₀ h₀ i l);
  inner = λ i l k. absurd (omega arith);
  last = λ k. absurd (omega arith);
}
