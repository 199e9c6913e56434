use mathlib.Core.Path.{◌≡◌, ap, ◌∙◌}
use Prim.Native.Nat.{ℕ, ◌+◌, ◌-◌, ◌*◌, min}
use native.Mathlib.Omega.{arith}
use lib.ListN.{length}
use Rattle.magnetar_field.specs.Sizes.{log₂}
use Rattle.magnetar_protocol.specs.Draws.{draw_count}
use Rattle.magnetar_spartan.specs.Refusals.{sizes_only_of}
use Rattle.magnetar_spartan.specs.Proving.{sizes_only_rules, sent_before, drawn_before}
use Rattle.magnetar_spartan.proofs.InnerPartLaws.{end-left}
use Rattle.magnetar_spartan.proofs.proving.end.Goals as goal

sums : (l b f m : ℕ) → 2 * (l + b + (l + f) + l + b + f + 6) ≡ 2 * (l + b + (l + f + (l + (b + (f + (6 + m))))) - m)
sums l b f m = omega arith

pub returns : goal.returns
returns c =
    let x = c.args in
    let R = sizes_only_rules x.m x.q x.sh.bin.a.rows x.sh.fld.a.rows x.lens.now in
    let w = x.proof.now in
    let r = c.of-rounds.ensures.rounds in
    let words : ℕ → ℕ = λ j. 2 * (8 * log₂ x.q + 4 * log₂ x.sh.bin.a.rows + 4 * log₂ x.sh.fld.a.rows + 6 + 3 * log₂ x.m + 1 + j) in
    let before : 2 * (c.terminals.result + 6) ≡ sent_before R = rw (c.terminals.ensures, r) in
    let behind : 2 * (c.alphas.result + 6) ≡ drawn_before R =
    rw (c.alphas.ensures, r) (sums (log₂ x.q) (log₂ x.sh.bin.a.rows) (log₂ x.sh.fld.a.rows) (log₂ x.m)) in
    let said : c.min-i.result ≡ min (words (min (length x.lens.now) 64)) (length w) =
    c.min-i.ensures ∙ ap (λ (j : ℕ). min j (length w)) (c.proof_words.ensures ∙ rw (r, c.min.ensures)) in
    let drawn : length x.draws.now ≡ 256 → c.min-n.result ≡ min (2 * draw_count (sizes_only_of R)) 256 =
    λ ld. c.min-n.ensures ∙ rw (c.draw_words.ensures, r, ld) (omega arith) in
    λ ws xs ok ld. end-left R ws xs w x.draws.now x.claims.now x.s.now x.t ok ld
    _ _ c.min-i.result c.min-n.result before behind said (drawn ld)
    c.inner_part-u.result _ _ _ c.inner_part-u.ensures _ c.write_claims-done.ensures.written
