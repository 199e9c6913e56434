use mathlib.Core.Path.{◌≡◌, ap, ◌∙◌}
use Prim.Native.Nat.{ℕ, ◌+◌, ◌*◌}
use native.Mathlib.Omega.{arith}
use Rattle.magnetar_spartan.specs.Table.{window, bin_at, fld_at, alphas_at}
use Rattle.magnetar_spartan.proofs.combine.points_among.Goals as goal

pub returns : goal.returns
returns c =
    let x = c.args in
    let b = x.sh.bin.a.rows in
    let f = x.sh.fld.a.rows in
    let e = c.of-rounds.ensures.rounds in
    let al : 2 * c.alphas.result ≡ alphas_at x.q b f = rw (c.alphas.ensures, e) (omega arith) in
    let pb : 2 * (c.taus.result + c.of-rounds.result.shared) ≡ bin_at x.q b f = rw (c.taus.ensures, e) (omega arith) in
    let pf : 2 * (c.taus.result + c.of-rounds.result.shared + c.of-rounds.result.bin) ≡ fld_at x.q b f = rw (c.taus.ensures, e) (omega arith) in
    λ j. record {
      alphas = (c.window.ensures ∙ ap (λ (k : ℕ). window 12 k x.d.now) al) j;
      bin = (c.window-2.ensures ∙ ap (λ (k : ℕ). window 32 k x.d.now) pb) j;
      fld = (c.window-3.ensures ∙ ap (λ (k : ℕ). window 32 k x.d.now) pf) j;
    }
