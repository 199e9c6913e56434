-- The bytes that a sponge puts out.
-- Assumes nothing.
use Rattle.std.proofs.Common.{◌≡◌, ℕ, ◌*◌, ◌/◌, ◌%◌, ◌^◌, ◌<◌, List, length, get_or}
use Rattle.magnetar_field.proofs.Tabulation.{tabulate-get, tabulate-length}
use Rattle.magnetar_hash.specs.Sha3.{squeezed, state_byte}

pub length-squeezed : (s : List ℕ) → length (squeezed s) ≡ 32
unfolding squeezed
length-squeezed s = tabulate-length (state_byte s) 32

pub get-squeezed : (s : List ℕ) (j : ℕ) → j < 32 → get_or (squeezed s) j 0 ≡ get_or s (j / 8) 0 / 2 ^ (8 * (j % 8)) % 256
unfolding squeezed state_byte
get-squeezed s j h = tabulate-get (state_byte s) 32 j 0 h
