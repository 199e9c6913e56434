-- The numbers of a relation that is lent as words are words: `OneRelation` speaks of every relation that a call can be lent.
-- Assumes nothing.
use Rattle.std.proofs.Common.{ℕ, zero, suc, ◌+◌, ◌*◌, ◌/◌, ◌%◌, ◌^◌, ◌<◌, List, [], ◌∷◌, ◌++◌, length, get_or, sym, subst, mod-lt, pow_pos}
use mathlib.Core.List.{flat_map}
use lib.Pow.{high}
use Rattle.magnetar_matrix.specs.Lent.{entry, entries_of}
use Rattle.magnetar_relation.specs.declared.shapes.Shapes.{Shapes}
use Rattle.magnetar_relation.specs.Rules.{rules}
use Rattle.magnetar_digest.specs.Digest.{system_numbers, entry_numbers, relation_numbers, OfWords}

abbrev pub AreWords : List ℕ → Type 0
AreWords l = (i : ℕ) → get_or l i 0 < 2 ^ 64

none : AreWords []
none i = pow_pos 64

more : (x : ℕ) (l : List ℕ) → x < 2 ^ 64 → AreWords l → AreWords (x ∷ l)
more x l h k zero = h
more x l h k (suc i) = k i

both : (a b : List ℕ) → AreWords a → AreWords b → AreWords (a ++ b)
both [] b h k i = k i
both (x ∷ a) b h k zero = h 0
both (x ∷ a) b h k (suc i) = both a b (λ j. h (suc j)) k i

entry-words : (r c l h : ℕ) → r < 2 ^ 64 → c < 2 ^ 64 → l < 2 ^ 64 → h < 2 ^ 64 → AreWords (entry_numbers (entry r c l h))
entry-words r c l h p q u v =
    let w : ℕ = h * 2 ^ 64 + l in
    let k : w / 2 ^ 64 < 2 ^ 64 = subst (λ (x : ℕ). x < 2 ^ 64) (sym (high h 64 u)) v in
    more r (c ∷ w % 2 ^ 64 ∷ w / 2 ^ 64 ∷ []) p
    (more c (w % 2 ^ 64 ∷ w / 2 ^ 64 ∷ []) q (more (w % 2 ^ 64) (w / 2 ^ 64 ∷ []) (mod-lt w (pow_pos 64)) (more (w / 2 ^ 64) [] k none)))

entries-words
    : (rs cs ls hs : List ℕ) → AreWords rs → AreWords cs → AreWords ls → AreWords hs → AreWords (flat_map entry_numbers (entries_of rs cs ls hs))
unfolding entries_of flat_map
entries-words [] cs ls hs p q u v = none
entries-words (r ∷ rs) [] ls hs p q u v = none
entries-words (r ∷ rs) (c ∷ cs) [] hs p q u v = none
entries-words (r ∷ rs) (c ∷ cs) (l ∷ ls) [] p q u v = none
entries-words (r ∷ rs) (c ∷ cs) (l ∷ ls) (h ∷ hs) p q u v =
    both (entry_numbers (entry r c l h)) (flat_map entry_numbers (entries_of rs cs ls hs)) (entry-words r c l h (p 0) (q 0) (u 0) (v 0))
    (entries-words rs cs ls hs (λ i. p (suc i)) (λ i. q (suc i)) (λ i. u (suc i)) (λ i. v (suc i)))

pub lent-words
    : (m q : ℕ) (ns : List ℕ) (s : Shapes) (row col lo hi : List ℕ)
    → m < 2 ^ 64
    → q < 2 ^ 64
    → length ns < 2 ^ 64
    → AreWords ns
    → AreWords (system_numbers s.bin)
    → AreWords (system_numbers s.fld)
    → AreWords row
    → AreWords col
    → AreWords lo
    → AreWords hi
    → OfWords (rules m q ns s row col lo hi)
unfolding relation_numbers
lent-words m q ns s row col lo hi hm hq hk hn hb hf hr hc hl hh =
    let b : List ℕ = system_numbers s.bin in
    let f : List ℕ = system_numbers s.fld in
    both (m ∷ q ∷ length ns ∷ (ns ++ (b ++ f))) (flat_map entry_numbers (entries_of row col lo hi))
    (more m (q ∷ length ns ∷ (ns ++ (b ++ f))) hm
    (more q (length ns ∷ (ns ++ (b ++ f))) hq (more (length ns) (ns ++ (b ++ f)) hk (both ns (b ++ f) hn (both b f hb hf))))) (entries-words row col lo hi hr hc hl hh)
