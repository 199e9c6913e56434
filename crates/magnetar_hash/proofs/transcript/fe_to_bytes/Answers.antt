use Rattle.std.proofs.Common.{◌++◌, sym, ap₂, ◌∙◌, List, ℕ, rules}
use Rattle.magnetar_hash.proofs.Bytes.{le-eight}
use Rattle.magnetar_hash.proofs.Element.{le-halves}
use Rattle.magnetar_hash.proofs.transcript.fe_to_bytes.Goals as goal

pub returns : goal.returns
returns c =
    let x = c.args.x in
    rw (c.copy_from_slice.ensures.after, c.copy_from_slice-2.ensures.after, c.to_le_bytes.ensures, c.to_le_bytes-2.ensures)
    (ap₂ (λ (a b : List ℕ). a ++ b) (le-eight x.lo) (le-eight x.hi) ∙ sym (le-halves x.lo x.hi (search rules)))
