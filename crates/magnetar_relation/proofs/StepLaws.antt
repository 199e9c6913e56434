-- Parts of the words that one step reads or changes.
-- Assumes nothing.
use mathlib.Core.Path.{◌≡◌, ◌∙◌}
use mathlib.Core.List.{List, [], ◌++◌, append-nil}
use Prim.Native.Nat.{ℕ, ◌-◌, ◌*◌, ◌≤◌, ◌<◌}
use native.Mathlib.Omega.{arith}
use lib.ListN.{length, get_or, take, drop, length-drop, drop_of_length-le}
use lib.Seq.{take_all}
use borrow.Author.Tests.{le-leb, lt-leb}
use borrow.Rule.Slice.PartMut.{put_mid}
use Rattle.magnetar_field.specs.Words.{elements}
use Rattle.magnetar_relation.specs.Steps.{front, between, behind, cleared_to}

-- what lies from k on
pub rest-is : (k : ℕ) (s : List ℕ) → take (length s - k) (drop k s) ≡ drop k s
rest-is k s = take_all (length s - k) (drop k s) (rw length-drop (omega arith))

pub behind-is : (k : ℕ) (s t : List ℕ) → put_mid k (length s - k) s t ≡ take k s ++ t
behind-is k s t =
    let e : drop (length s - k) (drop k s) ≡ [] = drop_of_length-le (drop k s) {i = length s - k} (rw length-drop (omega arith)) in
    rw (e, append-nil)

-- where g made what is behind the first n elements, and where there are fewer
pub behind-some : (n : ℕ) (g : List ℕ → List ℕ) (s t : List ℕ) → 2 * n ≤ length s → t ≡ g (take (length s - 2 * n) (drop (2 * n) s))
    → put_mid (2 * n) (length s - 2 * n) s t ≡ behind n g s
unfolding behind
behind-some n g s t h e = behind-is (2 * n) s t ∙ rw (le-leb (2 * n) (length s) h, e, rest-is (2 * n) s)

pub behind-none : (n : ℕ) (g : List ℕ → List ℕ) (s : List ℕ) → length s < 2 * n → s ≡ behind n g s
unfolding behind
behind-none n g s h = rw (lt-leb (2 * n) (length s) h)

pub front-all : (n k : ℕ) (s : List ℕ) → length s ≤ 2 * n → get_or (elements s) k 0 ≡ front n s k
unfolding front
front-all n k s h = rw (take_all (2 * n) s h)

pub between-some : (n m k : ℕ) (s : List ℕ) → front m (take (length s - 2 * n) (drop (2 * n) s)) k ≡ between n m s k
unfolding front between
between-some n m k s = rw (rest-is (2 * n) s)

pub between_none : (n m k : ℕ) (s : List ℕ) → length s ≤ 2 * n → 0 ≡ between n m s k
unfolding between elements
between_none n m k s h =
    let e : drop (2 * n) s ≡ [] = drop_of_length-le s {i = 2 * n} h in
    rw (e, take_all {A = ℕ} (2 * m) [] (omega arith))

pub cleared-none : (n : ℕ) (s : List ℕ) → length s < 2 * n → s ≡ cleared_to n s
unfolding cleared_to
cleared-none n s h = rw (lt-leb (2 * n) (length s) h)
