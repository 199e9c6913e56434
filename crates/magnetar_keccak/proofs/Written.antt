-- A list that is written from the front: its first i entries are those of the list s.
-- Assumes nothing.
use mathlib.Core.Path.{◌≡◌, refl, sym, ◌∙◌}
use mathlib.Core.List.{List}
use Prim.Native.Nat.{ℕ, ◌+◌, ◌<◌}
use native.Mathlib.Numerals.{add-one}
use native.Mathlib.Omega.{arith}
use lib.ListN.{length, get_or, set, take, length-set}
use lib.Seq.{take-suc, take-suc-set, take_all}

pub record Written (s b : List ℕ) (i : ℕ) : Type 0 where
  pub size : length b ≡ length s
  pub front : take i b ≡ take i s

pub written_none : (s b : List ℕ) → length b ≡ length s → Written s b 0
written_none s b e = record { size = e; front = refl }

pub written-more : (s b : List ℕ) (i j v : ℕ) → Written s b i → i < length s → j ≡ i + 1 → v ≡ get_or s i 0 → Written s (set b i v) j
written-more s b i j v w h n e =
    let hb : i < length b = rw w.size h in
    record {
      size = rw length-set w.size;
      front = rw (n, add-one, take-suc-set b i v hb, w.front, e, take-suc s i 0 h);
    }

pub written_all : (s b : List ℕ) (i : ℕ) → Written s b i → i ≡ length s → b ≡ s
written_all s b i w e =
    sym (take_all i b (omega (arith, w.size))) ∙ w.front ∙ take_all i s (omega arith)
