use Rattle.magnetar_hash.proofs.Bytes.{le-eight}
use Rattle.magnetar_hash.proofs.transcript.absorb_u64.Goals as goal

pub returns : goal.returns
returns c = rw (c.absorb_bytes.ensures, c.to_le_bytes.ensures, le-eight)
