-- The loop that binds every variable, the highest first: the value at the point stays.
-- Assumes nothing.
use mathlib.Core.Path.{◌≡◌, sym, ap, ◌∙◌}
use mathlib.Core.List.{List, ◌++◌}
use Prim.Native.Nat.{ℕ, zero, suc, ◌-◌, ◌*◌, ◌/◌, ◌^◌, ◌≤◌, ◌<◌}
use native.Mathlib.Nat.{pow-suc, mod_self}
use native.Mathlib.Numerals.{sub-one}
use native.Mathlib.Omega.{arith}
use lib.ListN.{length, get_or, take, drop}
use lib.Seq.{take_all, take_at, take-suc, get_or-take, length-take-le}
use Rattle.magnetar_multilinear.specs.Multilinear.{mle, bind_var}
use Rattle.magnetar_multilinear.specs.Binding.{BindFits}
use Rattle.magnetar_field.proofs.Tabulation.{tabulate-length}
use Rattle.magnetar_multilinear.proofs.Extension.{mle-snoc, mle-nil}

pub bind_var-length : (v r : ℕ) (t : List ℕ) → length (bind_var v r t) ≡ length t / 2
unfolding bind_var
bind_var-length v r t = tabulate-length _ (length t / 2)

-- the first half entries are the table with the variables from j on bound
pub record Evaluating (p t₀ t : List ℕ) (half j : ℕ) : Type 0 where
  pub size : half ≡ 2 ^ j
  pub value : mle (take half t) (take j p) ≡ mle t₀ p

pub evaluating-start : (p t : List ℕ) (half n : ℕ) → length p ≡ n → length t ≡ half → half ≡ 2 ^ n → Evaluating p t t half n
evaluating-start p t half n lp lt e = record { size = e; value = rw (take_all half t (omega arith), take_all n p (omega arith)) }

halves : (half k : ℕ) → half ≡ 2 ^ suc k → 2 * (half / 2) ≡ half
halves half k e = omega (arith, pow-suc 2 k)

pub evaluating-more : (p t₀ t t' : List ℕ) (half j : ℕ) → Evaluating p t₀ t half j → 0 < j → j ≤ length p → half ≤ length t
    → t' ≡ bind_var (j - 1) (get_or p (j - 1) 0) (take (2 * (half / 2)) t) ++ drop (half / 2) t → Evaluating p t₀ t' (half / 2) (j - 1)
evaluating-more p t₀ t t' half zero v pos le room e = absurd (omega arith)
evaluating-more p t₀ t t' half (suc k) v pos le room e =
    let two : 2 * (half / 2) ≡ half = halves half k v.size in
    let s : half / 2 ≡ 2 ^ k = omega (arith, v.size, pow-suc 2 k) in
    let lk : length (take k p) ≡ k = length-take-le k p (omega arith) in
    let lt : length (take half t) ≡ half = length-take-le half t room in
    let size : length (take half t) ≡ 2 * 2 ^ length (take k p) = rw (lk, lt) (omega arith) in
    let b : length (bind_var k (get_or p k 0) (take half t)) ≡ half / 2 = rw (bind_var-length, lt) in
    record {
      size = rw sub-one s;
      value =
          rw (sub-one, e, sub-one, two, take_at (bind_var k (get_or p k 0) (take half t)) (drop (half / 2) t) (half / 2) b)
          (sym (mle-snoc (take half t) (take k p) (get_or p k 0) size ∙ rw lk) ∙ ap (mle (take half t)) (sym (take-suc p k 0 le)) ∙ v.value);
    }

pub evaluating-end : (p t₀ t : List ℕ) (half j : ℕ) → get_or t 0 0 < 2 ^ 128 → j ≤ 0 → Evaluating p t₀ t half j → get_or t 0 0 ≡ mle t₀ p
evaluating-end p t₀ t half zero b le v =
    let one : get_or (take half t) 0 0 ≡ get_or t 0 0 = get_or-take half t 0 0 (omega (arith, v.size)) in
    sym one ∙ sym (mle-nil (take half t) (rw one b)) ∙ v.value
evaluating-end p t₀ t half (suc j) b le v = absurd (omega arith)

-- the highest variable can be bound
pub evaluating-fits : (p t₀ t : List ℕ) (half j words : ℕ) → Evaluating p t₀ t half j → 0 < j → j ≤ 20 → 2 * half ≤ words → BindFits words (half / 2) (j - 1)
evaluating-fits p t₀ t half zero words v pos le room = absurd (omega arith)
evaluating-fits p t₀ t half (suc k) words v pos le room =
    let s : half / 2 ≡ 2 ^ k = omega (arith, v.size, pow-suc 2 k) in
    record { small = omega arith; room = omega arith; whole = rw (sub-one, s) (mod_self (2 ^ k)) }
