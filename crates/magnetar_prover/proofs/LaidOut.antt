-- The tables of the inner rounds, laid out in one list.
-- Assumes nothing.
use mathlib.Core.Path.{◌≡◌, sym, ap, ◌∙◌}
use mathlib.Core.List.{List, ◌++◌, append_assoc}
use Prim.Native.Nat.{ℕ, ◌+◌, ◌-◌, ◌*◌, ◌≤◌, ◌<◌}
use native.Mathlib.Numerals.{add-one}
use native.Mathlib.Omega.{arith}
use lib.ListN.{length, get_or, set, take, drop, length-append, length-drop, get_or-append}
use lib.Seq.{length-take-le, take-add, take-take, drop-drop, paste, paste-suc, length-paste, get_or-take, take-append-le, drop-append-le, take_at, drop_at}
use borrow.Rule.Slice.PartMut.{put_mid, mid_len}
use Rattle.magnetar_field.specs.Words.{elements}
use Rattle.magnetar_prover.specs.Entries.{table_at}
use Rattle.magnetar_prover.specs.InScratch.{pasted}
use Rattle.magnetar_prover.proofs.Slots.{put-before, put_in, put-from}
use Rattle.magnetar_prover.proofs.Sent.{elements-join}

-- ---- the copy
pub copied_more : (n i : ℕ) (s₀ s : List ℕ) → s ≡ paste s₀ (2 * n) s₀ i → i < n → 3 * n ≤ length s₀
    → set s (2 * n + i) (get_or s i 0) ≡ paste s₀ (2 * n) s₀ (i + 1)
copied_more n i s₀ s e h l =
    rw (e, same, add-one) (paste-suc s₀ (2 * n) s₀ i 0 (omega arith) (omega arith))
  where
    long : i < length (take (2 * n) s₀)
    long = rw (length-take-le (2 * n) s₀ (omega arith)) (omega arith)

    longer : i < length (take (2 * n) s₀ ++ take i s₀)
    longer = rw length-append (omega (arith, long))

    same : get_or (paste s₀ (2 * n) s₀ i) i 0 ≡ get_or s₀ i 0
    same =
        get_or-append (take (2 * n) s₀ ++ take i s₀) (drop (2 * n + i) s₀) 0 i longer
        ∙ (get_or-append (take (2 * n) s₀) (take i s₀) 0 i long ∙ get_or-take (2 * n) s₀ i 0 (omega arith))

-- ---- what a copy leaves
module _ (n : ℕ) (s : List ℕ) (h : 3 * n ≤ length s) where
  two : length (take (2 * n) s) ≡ 2 * n
  two = length-take-le (2 * n) s (omega arith)

  pasted-is : pasted (2 * n) n s ≡ take (2 * n) s ++ (take n s ++ drop (2 * n + n) s)
  pasted-is = append_assoc (take (2 * n) s) (take n s) (drop (2 * n + n) s)

  pub pasted-fore : take (2 * n) (pasted (2 * n) n s) ≡ take (2 * n) s
  pasted-fore = ap (take (2 * n)) pasted-is ∙ take_at (take (2 * n) s) (take n s ++ drop (2 * n + n) s) (2 * n) two

  pub pasted-tail : take n (drop (2 * n) (pasted (2 * n) n s)) ≡ take n s
  pasted-tail =
      ap (λ (l : List ℕ). take n (drop (2 * n) l)) pasted-is
      ∙ (ap (take n) (drop_at (take (2 * n) s) (take n s ++ drop (2 * n + n) s) (2 * n) two)
      ∙ take_at (take n s) (drop (2 * n + n) s) n (length-take-le n s (omega arith)))

  pub pasted_length : length (pasted (2 * n) n s) ≡ length s
  pasted_length = length-paste s (2 * n) s n (omega arith) (omega arith)

-- ---- the copy behind the tables
module _ (w : ℕ) (s t : List ℕ) (size : length s ≡ 12 * w) (is : t ≡ pasted (2 * (2 * w)) (2 * w) (take (10 * w - 4 * w) (drop (4 * w) s))) where
  abbrev part : List ℕ
  part = take (10 * w - 4 * w) (drop (4 * w) s)

  abbrev last : List ℕ
  last = put_mid (4 * w) (10 * w - 4 * w) s t

  part-long : length part ≡ 6 * w
  part-long = mid_len (4 * w) (10 * w) s (omega arith) ∙ omega arith

  part-fits : 3 * (2 * w) ≤ length part
  part-fits = omega (arith, part-long)

  t-long : length t ≡ 10 * w - 4 * w
  t-long = ap length is ∙ (pasted_length (2 * w) part part-fits ∙ omega (arith, part-long))

  from : (n : ℕ) → drop (4 * w + n) last ≡ drop n (t ++ drop (10 * w - 4 * w) (drop (4 * w) s))
  from n = sym (drop-drop n (4 * w) last) ∙ ap (drop n) (put-from s t (4 * w) (10 * w) (omega arith) (omega arith) t-long)

  -- z, with its public half
  both : take (2 * (2 * w)) t ≡ take (2 * (2 * w)) part
  both = ap (take (2 * (2 * w))) is ∙ pasted-fore (2 * w) part part-fits

  pub laid_table : table_at 0 (4 * w) last ≡ table_at 0 (4 * w) s
  laid_table = ap elements (put-before s t (4 * w) (10 * w) (omega arith) (omega arith) t-long 0 (4 * w) (omega arith))

  pub laid-copy : table_at (8 * w) (2 * w) last ≡ table_at (4 * w) (2 * w) s
  laid-copy =
      let eight : 8 * w ≡ 4 * w + 2 * (2 * w) = omega arith in
      let front = take-take (2 * w) (10 * w - 4 * w) (drop (4 * w) s) (omega arith) in
      ap (λ (i : ℕ). elements (take (2 * w) (drop i last))) eight
      ∙ (ap (λ (l : List ℕ). elements (take (2 * w) l)) (from (2 * (2 * w)) ∙ drop-append-le (2 * (2 * w)) t (drop (10 * w - 4 * w) (drop (4 * w) s))
      (omega (arith, t-long)))
      ∙ ap elements (take-append-le (2 * w) (drop (2 * (2 * w)) t) (drop (10 * w - 4 * w) (drop (4 * w) s)) (rw length-drop (omega (arith, t-long)))
      ∙ (ap (λ (l : List ℕ). take (2 * w) (drop (2 * (2 * w)) l)) is ∙ (pasted-tail (2 * w) part part-fits ∙ front))))

  pub laid-z : table_at (4 * w) (4 * w) last ≡ table_at (4 * w) (2 * w) s ++ table_at (6 * w) (2 * w) s
  laid-z =
      ap elements whole ∙ elements-join w (take (2 * w) (drop (4 * w) s)) (take (2 * w) (drop (6 * w) s))
      (length-take-le (2 * w) (drop (4 * w) s) (rw length-drop (omega (arith, size))))
    where
      six : 4 * w + 2 * w ≡ 6 * w
      six = omega arith

      four : 4 * w ≡ 2 * w + 2 * w
      four = omega arith

      four' : 4 * w ≡ 2 * (2 * w)
      four' = omega arith

      whole : take (4 * w) (drop (4 * w) last) ≡ take (2 * w) (drop (4 * w) s) ++ take (2 * w) (drop (6 * w) s)
      whole =
          put_in s t (4 * w) (10 * w) (omega arith) (omega arith) t-long (4 * w) (omega arith)
          ∙ (ap (λ (i : ℕ). take i t) four' ∙ (both ∙ (ap (λ (i : ℕ). take i part) (sym four')
          ∙ (take-take (4 * w) (10 * w - 4 * w) (drop (4 * w) s) (omega arith) ∙ (ap (λ (i : ℕ). take i (drop (4 * w) s)) four
          ∙ (take-add (2 * w) (2 * w) (drop (4 * w) s)
          ∙ ap (λ (l : List ℕ). take (2 * w) (drop (4 * w) s) ++ take (2 * w) l) (drop-drop (2 * w) (4 * w) s ∙ ap (λ (i : ℕ). drop i s) six)))))))
