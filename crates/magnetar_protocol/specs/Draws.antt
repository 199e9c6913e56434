-- The draws of a verifying run as plain elements, in the order in which they are drawn: tau of bin, tau of fld, the challenges of
-- the shared rounds, of the bin and of the fld row rounds, six alphas, and the challenges of the inner rounds.
-- Source: document 01, "The run" (the drawn challenges, r_inst, r_low); the Rust's `verify_virtual_spartan`.
-- Assumes nothing.
use Rattle.std.specs.Prelude.{List, reverse, ℕ, ◌+◌, ◌-◌, take, drop, get_or}
use Rattle.magnetar_matrix.specs.Batch.{Relation}
use Rattle.magnetar_protocol.specs.Shape.{log_logins, log_bin, log_fld, log_cols}

-- the draws by what they are drawn for
pub record Draws : Type 0 where
  pub tau_bin : List ℕ
  pub tau_fld : List ℕ
  pub shared : List ℕ
  pub row_bin : List ℕ
  pub row_fld : List ℕ
  pub alphas : List ℕ
  pub inner : List ℕ

-- how many are drawn, with s, b, f and c rounds of each kind
abbrev pub draw_total : (s b f c : ℕ) → ℕ
draw_total s b f c = (s + b) + ((s + f) + (s + (b + (f + (6 + c)))))

abbrev pub draw_count : Relation → ℕ
draw_count r = draw_total (log_logins r) (log_bin r) (log_fld r) (log_cols r)

-- the draws taken apart
unfoldable pub draws_of : Relation → List ℕ → Draws
draws_of r d =
    record {
      tau_bin = take (log_logins r + log_bin r) d;
      tau_fld = take (log_logins r + log_fld r) (drop (log_logins r + log_bin r) d);
      shared = take (log_logins r) (drop (log_logins r + log_bin r + (log_logins r + log_fld r)) d);
      row_bin = take (log_bin r) (drop (log_logins r + log_bin r + (log_logins r + log_fld r) + log_logins r) d);
      row_fld = take (log_fld r) (drop (log_logins r + log_bin r + (log_logins r + log_fld r) + log_logins r + log_bin r) d);
      alphas = take 6 (drop (log_logins r + log_bin r + (log_logins r + log_fld r) + log_logins r + log_bin r + log_fld r) d);
      inner = take (log_cols r) (drop (log_logins r + log_bin r + (log_logins r + log_fld r) + log_logins r + log_bin r + log_fld r + 6) d);
    }

-- r_inst, the point of the logins: the shared challenges reversed, since the shared rounds bind the highest bit first
unfoldable pub login_point : Draws → List ℕ
login_point d = reverse d.shared

-- r_low, the point of the columns without its last element: all inner challenges but the last
unfoldable pub low_point : Relation → Draws → List ℕ
low_point r d = take (log_cols r - 1) d.inner

-- and that last element
unfoldable pub top_element : Relation → Draws → ℕ
top_element r d = get_or d.inner (log_cols r - 1) 0
