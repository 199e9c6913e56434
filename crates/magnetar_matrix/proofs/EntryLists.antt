-- Entries read off four lists of numbers, which may be of unequal lengths: how many there are, and one of them; those of records, those with
-- rows and columns exchanged, and those of a part.
-- Assumes nothing.
use mathlib.Core.Path.{◌≡◌, refl, ap, ◌∙◌}
use mathlib.Core.List.{List, [], ◌∷◌, map}
use Prim.Native.Nat.{ℕ, zero, suc, ◌+◌, ◌-◌, ◌≤◌, ◌<◌, min}
use native.Mathlib.Nat.{le_of_suc-le-suc}
use native.Mathlib.Numerals.{add-one}
use native.Mathlib.Omega.{arith}
use lib.ListN.{length, get_or, take, drop, length-drop, drop_of_length-le}
use lib.Seq.{drop-cons}
use Rattle.std.proofs.lemmas.List.{length-take, get_or-take, get_or-drop}
use Rattle.magnetar_matrix.specs.Matrix as matrix
use Rattle.magnetar_matrix.specs.Lent.{entry, entries_of}
use Rattle.magnetar_matrix.specs.Numbers.{Numbers, entries_by, exchanged, part, entry_of, record_numbers}
use Rattle.magnetar_matrix.specs.declared.entries.Entry.{Entry}
use Rattle.magnetar_matrix.proofs.Walked.{entries-swapped}

-- ---- how many
pub entries-length : (r c l h : List ℕ) → length (entries_of r c l h) ≡ min (min (length r) (length c)) (min (length l) (length h))
unfolding entries_of
entries-length [] c l h = omega arith
entries-length (x ∷ r) [] l h = omega arith
entries-length (x ∷ r) (y ∷ c) [] h = omega arith
entries-length (x ∷ r) (y ∷ c) (z ∷ l) [] = omega arith
entries-length (x ∷ r) (y ∷ c) (z ∷ l) (u ∷ h) = let e = entries-length r c l h in omega (arith, e)

-- each list reaches as far as the entries do
module _ (s : Numbers) (i : ℕ) (b : i < length (entries_by s)) where
  pub within-row : i < length s.row
  within-row = omega (arith, entries-length s.row s.col s.lo s.hi)

  pub within-col : i < length s.col
  within-col = omega (arith, entries-length s.row s.col s.lo s.hi)

  pub within-lo : i < length s.lo
  within-lo = omega (arith, entries-length s.row s.col s.lo s.hi)

  pub within-hi : i < length s.hi
  within-hi = omega (arith, entries-length s.row s.col s.lo s.hi)

-- ---- entry i
entry-in-suc : (r c l h : List ℕ) (i : ℕ) → i < length (entries_of r c l h)
    → drop i (entries_of r c l h) ≡ entry (get_or r i 0) (get_or c i 0) (get_or l i 0) (get_or h i 0) ∷ drop (suc i) (entries_of r c l h)
unfolding entries_of
entry-in-suc [] c l h i b = absurd (omega arith)
entry-in-suc (x ∷ r) [] l h i b = absurd (omega arith)
entry-in-suc (x ∷ r) (y ∷ c) [] h i b = absurd (omega arith)
entry-in-suc (x ∷ r) (y ∷ c) (z ∷ l) [] i b = absurd (omega arith)
entry-in-suc (x ∷ r) (y ∷ c) (z ∷ l) (u ∷ h) zero b = refl
entry-in-suc (x ∷ r) (y ∷ c) (z ∷ l) (u ∷ h) (suc i) b = entry-in-suc r c l h i (le_of_suc-le-suc b)

pub entry_in : (r c l h : List ℕ) (i : ℕ) → i < length (entries_of r c l h)
    → drop i (entries_of r c l h) ≡ entry (get_or r i 0) (get_or c i 0) (get_or l i 0) (get_or h i 0) ∷ drop (i + 1) (entries_of r c l h)
entry_in r c l h i b = rw add-one (entry-in-suc r c l h i b)

-- what `at` gives is the next entry of those from i on
pub next_entry : (s : Numbers) (i : ℕ) (e : Entry) → i < length (entries_by s)
    → e.row ≡ get_or s.row i 0 → e.col ≡ get_or s.col i 0 → e.lo ≡ get_or s.lo i 0 → e.hi ≡ get_or s.hi i 0
    → drop i (entries_by s) ≡ entry_of e ∷ drop (i + 1) (entries_by s)
next_entry s i e b r c l h = rw (r, c, l, h) (entry_in s.row s.col s.lo s.hi i b)

-- ---- rows and columns exchanged
pub exchanged-are : (s : Numbers) → entries_by (exchanged s) ≡ map matrix.swapped (entries_by s)
exchanged-are s = entries-swapped s.row s.col s.lo s.hi

pub exchanged-length : (s : Numbers) → length (entries_by (exchanged s)) ≡ length (entries_by s)
exchanged-length s = omega (arith, entries-length s.row s.col s.lo s.hi, entries-length s.col s.row s.lo s.hi)

-- ---- a part of each list holds a part of the entries
no-cols : (r l h : List ℕ) → entries_of r [] l h ≡ []
unfolding entries_of
no-cols [] l h = refl
no-cols (x ∷ r) l h = refl

no-lows : (r c h : List ℕ) → entries_of r c [] h ≡ []
unfolding entries_of
no-lows [] c h = refl
no-lows (x ∷ r) [] h = refl
no-lows (x ∷ r) (y ∷ c) h = refl

no-highs : (r c l : List ℕ) → entries_of r c l [] ≡ []
unfolding entries_of
no-highs [] c l = refl
no-highs (x ∷ r) [] l = refl
no-highs (x ∷ r) (y ∷ c) [] = refl
no-highs (x ∷ r) (y ∷ c) (z ∷ l) = refl

entries-drop : (d : ℕ) (r c l h : List ℕ) → entries_of (drop d r) (drop d c) (drop d l) (drop d h) ≡ drop d (entries_of r c l h)
unfolding entries_of
entries-drop zero r c l h = refl
entries-drop (suc d) [] c l h = refl
entries-drop (suc d) (x ∷ r) [] l h = no-cols (drop d r) (drop (suc d) l) (drop (suc d) h)
entries-drop (suc d) (x ∷ r) (y ∷ c) [] h = no-lows (drop d r) (drop d c) (drop (suc d) h)
entries-drop (suc d) (x ∷ r) (y ∷ c) (z ∷ l) [] = no-highs (drop d r) (drop d c) (drop d l)
entries-drop (suc d) (x ∷ r) (y ∷ c) (z ∷ l) (u ∷ h) = entries-drop d r c l h

entries-take : (k : ℕ) (r c l h : List ℕ) → entries_of (take k r) (take k c) (take k l) (take k h) ≡ take k (entries_of r c l h)
unfolding entries_of
entries-take zero r c l h = refl
entries-take (suc k) [] c l h = refl
entries-take (suc k) (x ∷ r) [] l h = refl
entries-take (suc k) (x ∷ r) (y ∷ c) [] h = refl
entries-take (suc k) (x ∷ r) (y ∷ c) (z ∷ l) [] = refl
entries-take (suc k) (x ∷ r) (y ∷ c) (z ∷ l) (u ∷ h) = ap (λ (es : List matrix.Entry). entry x y z u ∷ es) (entries-take k r c l h)

pub entries-part : (k d : ℕ) (r c l h : List ℕ)
    → entries_of (take k (drop d r)) (take k (drop d c)) (take k (drop d l)) (take k (drop d h)) ≡ take k (drop d (entries_of r c l h))
entries-part k d r c l h = entries-take k (drop d r) (drop d c) (drop d l) (drop d h) ∙ ap (take k) (entries-drop d r c l h)

pub part-are : (a b : ℕ) (s : Numbers) → entries_by (part a b s) ≡ take (b - a) (drop a (entries_by s))
part-are a b s = entries-part (b - a) a s.row s.col s.lo s.hi

pub part-length : (a b : ℕ) (s : Numbers) → length (entries_by (part a b s)) ≡ min b (length (entries_by s)) - a
part-length a b s = rw part-are (rw (length-take, length-drop) (omega arith))

pub part-within : (a b i : ℕ) (s : Numbers) → i < length (entries_by (part a b s)) → (a + i < length (entries_by s)) × (i < b - a)
part-within a b i s h = let k : i < min b (length (entries_by s)) - a = rw part-length at h in (omega arith, omega arith)

pub part-get : (a b i : ℕ) (l : List ℕ) → i < b - a → get_or (take (b - a) (drop a l)) i 0 ≡ get_or l (a + i) 0
part-get a b i l h = get_or-take (b - a) (drop a l) i 0 h ∙ get_or-drop a l i 0

-- ---- records
pub records_are : (es : List Entry) → entries_by (record_numbers es) ≡ map entry_of es
unfolding entries_of
records_are [] = refl
records_are (e ∷ es) = ap (λ (l : List matrix.Entry). entry_of e ∷ l) (records_are es)

pub map-length : {A : Type 0} (f : Entry → A) (es : List Entry) → length (map f es) ≡ length es
map-length f [] = refl
map-length f (e ∷ es) = ap suc (map-length f es)

pub records-length : (es : List Entry) → length (entries_by (record_numbers es)) ≡ length es
records-length es = ap length (records_are es) ∙ map-length entry_of es

-- ---- a loop over a slice of records: what is left of it at the record i, and behind the last one
-- what is read past the end
abbrev pub no_record : Entry
no_record = record { row = 0; col = 0; lo = 0; hi = 0 }

pub left_more : (es : List Entry) (i : ℕ) → i < length es
    → map entry_of (drop i es) ≡ entry_of (get_or es i no_record) ∷ map entry_of (drop (i + 1) es)
left_more es i h = rw add-one (ap (map entry_of) (drop-cons es i no_record h))

pub left_none : (es : List Entry) (i : ℕ) → length es ≤ i → map entry_of (drop i es) ≡ []
left_none es i h = ap (map entry_of) (drop_of_length-le es {i = i} h)

-- ---- how many entries each form has
pub ruleset lengths = (entries-length, exchanged-length, part-length, records-length)
