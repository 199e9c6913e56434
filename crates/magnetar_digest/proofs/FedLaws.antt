-- Words that are fed one after the other.
-- Assumes nothing.
use Rattle.std.proofs.Common.{◌≡◌, ℕ, suc, ◌+◌, ◌*◌, ◌%◌, ◌^◌, ◌<◌, List, [], ◌∷◌, ◌++◌, length, get_or, drop, sym, refl, ap, ◌∙◌, append_assoc, append-nil, add-one, arith, length-append, drop-cons}
use mathlib.Core.List.{flat_map}
use lib.Pow.{high, low}
use Rattle.magnetar_hash.specs.Bytes.{le_bytes}
use Rattle.magnetar_hash.specs.Sponge.{finished, within, started}
use Rattle.magnetar_hash.specs.declared.hasher.Sponge.{Sponge}
use Rattle.magnetar_hash.proofs.Bytes.{le-mod, length-words}
use Rattle.magnetar_hash.proofs.Hashed.{fed-twice, hashed-parts}
use Rattle.magnetar_matrix.specs.Matrix.{Entry}
use Rattle.magnetar_matrix.specs.Lent.{entry}
use Rattle.magnetar_relation.specs.declared.shapes.Shapes.{Shapes}
use Rattle.magnetar_relation.specs.Rules.{Rules}
use Rattle.magnetar_digest.specs.Digest.{system_numbers, head_numbers, entry_numbers, relation_numbers, relation_bytes, domain, relation_digest}
use Rattle.magnetar_digest.specs.Feeding.{words_fed, each_fed, size_of, head_fed}

pub fed-more : (s : Sponge) (a b : List ℕ) → words_fed (words_fed s a) b ≡ words_fed s (a ++ b)
unfolding words_fed
fed-more s a b = fed-twice s a b

pub each_fed_lem
    : {A : Type 0} (f : A → List ℕ) (xs : List A) (s : Sponge) (a : List ℕ) → each_fed f xs (words_fed s a) ≡ words_fed s (a ++ flat_map f xs)
unfolding each_fed flat_map
each_fed_lem f [] s a = ap (words_fed s) (sym (append-nil a))
each_fed_lem f (x ∷ xs) s a =
    ap (each_fed f xs) (fed-more s a (f x)) ∙ each_fed_lem f xs s (a ++ f x) ∙ ap (words_fed s) (append_assoc a (f x) (flat_map f xs))

-- ---- one turn of a loop that feeds what is left, and its end
module _ {A : Type 0} (f : A → List ℕ) (all : Sponge) where
  pub each_more : (l l' : List A) (x : A) (s s' : Sponge) → l ≡ x ∷ l' → s' ≡ words_fed s (f x) → each_fed f l s ≡ all → each_fed f l' s' ≡ all
  unfolding each_fed
  each_more l l' x s s' d e h = ap (each_fed f l') e ∙ sym (ap (λ (k : List A). each_fed f k s) d) ∙ h

  pub each-end : (l : List A) (s : Sponge) → l ≡ [] → each_fed f l s ≡ all → s ≡ all
  unfolding each_fed
  each-end l s d h = sym (ap (λ (k : List A). each_fed f k s) d) ∙ h

pub next-number : (ns : List ℕ) (i : ℕ) → i < length ns → drop i ns ≡ get_or ns i 0 ∷ drop (i + 1) ns
next-number ns i h = rw (add-one) (drop-cons ns i 0 h)

-- ---- an entry's words
pub entry-words : (r c l h : ℕ) → l < 2 ^ 64 → r ∷ c ∷ l ∷ h ∷ [] ≡ entry_numbers (entry r c l h)
entry-words r c l h b = rw (low h 64 b, high h 64 b)

-- ---- the numbers in front of the entries
flat-ones : (ns : List ℕ) → flat_map (λ (n : ℕ). n ∷ []) ns ≡ ns
unfolding flat_map
flat-ones [] = refl
flat-ones (n ∷ ns) = ap (λ (l : List ℕ). n ∷ l) (flat-ones ns)

pub head-ends
    : (m q : ℕ) (ns : List ℕ) (sh : Shapes) (n k : ℕ) (s t u v w : Sponge)
    → k ≡ size_of (length ns) n
    → s ≡ started domain k
    → t ≡ words_fed s (m ∷ q ∷ length ns ∷ [])
    → u ≡ each_fed (λ (j : ℕ). j ∷ []) ns t
    → v ≡ words_fed u (system_numbers sh.bin)
    → w ≡ words_fed v (system_numbers sh.fld)
    → w ≡ head_fed m q ns sh n
unfolding head_fed
head-ends m q ns sh n k s t u v w ek es et eu ev ew =
    let b : List ℕ = system_numbers sh.bin in
    let f : List ℕ = system_numbers sh.fld in
    let z : Sponge = started domain (size_of (length ns) n) in
    let h : List ℕ = m ∷ q ∷ length ns ∷ [] in
    let ez : s ≡ z = es ∙ ap (started domain) ek in
    let eh : t ≡ words_fed z h = et ∙ ap (λ (x : Sponge). words_fed x h) ez in
    let el : u ≡ words_fed z (h ++ ns) =
    eu
    ∙ ap (each_fed (λ (j : ℕ). j ∷ []) ns) eh
    ∙ each_fed_lem (λ (j : ℕ). j ∷ []) ns z h
    ∙ ap (λ (l : List ℕ). words_fed z (h ++ l)) (flat-ones ns)
    in
    let eb : v ≡ words_fed z (h ++ ns ++ b) = ev ∙ ap (λ (x : Sponge). words_fed x b) el ∙ fed-more z (h ++ ns) b in
    ew
    ∙ ap (λ (x : Sponge). words_fed x f) eb
    ∙ fed-more z (h ++ ns ++ b) f
    ∙ ap (λ (l : List ℕ). words_fed z (h ++ l)) (append_assoc ns b f)

-- ---- how many bytes there are
-- the sum, step by step
pub size_is : (l n a b : ℕ) → a ≡ (l + 21) % 2 ^ 64 → b ≡ (a + n * 4 % 2 ^ 64) % 2 ^ 64 → b * 8 % 2 ^ 64 ≡ size_of l n
size_is l n a b e f = omega (arith, e, f)

four-more : (n : ℕ) → suc (suc (suc (suc (4 * n)))) ≡ 4 * suc n
four-more n = omega arith

length-flat : (es : List Entry) → length (flat_map entry_numbers es) ≡ 4 * length es
unfolding flat_map
length-flat [] = refl
length-flat (e ∷ es) = ap (λ (k : ℕ). suc (suc (suc (suc k)))) (length-flat es) ∙ four-more (length es)

length-numbers : (R : Rules) → length (relation_numbers R) ≡ 21 + length R.lengths + 4 * length R.entries
unfolding relation_numbers
length-numbers R =
    let b : List ℕ = system_numbers R.shapes.bin ++ system_numbers R.shapes.fld in
    let h : List ℕ = head_numbers R.m R.q R.lengths R.shapes in
    omega (
      arith,
      length-append h (flat_map entry_numbers R.entries),
      length-append R.lengths b,
      length-flat R.entries,
    )

size-told
    : (R : Rules) (n : ℕ) → n ≡ length R.entries → le_bytes 8 (size_of (length R.lengths) n) ≡ le_bytes 8 (length (relation_bytes R))
unfolding relation_bytes
size-told R n e =
    le-mod 8 (8 * (21 + length R.lengths + 4 * n))
    ∙ ap (le_bytes 8)
    (ap (λ (k : ℕ). 8 * (21 + length R.lengths + 4 * k)) e ∙ sym (length-words (relation_numbers R) ∙ ap (λ (k : ℕ). 8 * k) (length-numbers R)))

-- ---- what was fed is the digest
all-fed
    : (R : Rules) (n : ℕ)
    → each_fed entry_numbers R.entries (head_fed R.m R.q R.lengths R.shapes n)
    ≡ words_fed (started domain (size_of (length R.lengths) n)) (relation_numbers R)
unfolding head_fed relation_numbers
all-fed R n =
    each_fed_lem entry_numbers R.entries (started domain (size_of (length R.lengths) n)) (head_numbers R.m R.q R.lengths R.shapes)

pub digested
    : (R : Rules) (n : ℕ) (s t : Sponge)
    → n ≡ length R.entries
    → s ≡ head_fed R.m R.q R.lengths R.shapes n
    → t ≡ each_fed entry_numbers R.entries s
    → finished (within t) ≡ relation_digest R
unfolding relation_digest relation_bytes words_fed
digested R n s t e es et =
    ap (λ (x : Sponge). finished (within x)) (et ∙ ap (each_fed entry_numbers R.entries) es ∙ all-fed R n)
    ∙ hashed-parts domain (relation_bytes R) (size_of (length R.lengths) n) (size-told R n e)
