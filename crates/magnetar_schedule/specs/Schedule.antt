-- What a run absorbs and draws, in its order: elements of the proof under their labels, and the challenges. It depends on the sizes of
-- the relation alone.
-- Source: the order and the labels of the Rust's `prove_virtual_spartan` and `verify_virtual_spartan`.
-- Assumes nothing.
use Rattle.std.specs.Prelude.{◌≡◌, cond, List, [], ◌∷◌, ◌++◌, ℕ, zero, suc, ◌+◌, ◌*◌, ◌/◌, ◌%◌, ltb, length, replicate}
use Prim.Native.String.{String}
use Rattle.magnetar_hash.specs.Bytes.{ascii}
use Rattle.magnetar_matrix.specs.Batch.{Relation}
use Rattle.magnetar_protocol.specs.Shape.{log_logins, log_bin, log_fld, log_cols, before_terminals, before_inner, before_end}

-- n elements of the proof, from place i on, are absorbed under a label; or an element is drawn under a label
pub data Event : Type 0 where
  absorb : List ℕ → ℕ → ℕ → Event
  draw : List ℕ → Event

-- the decimal digits of a number below 10^k, in ASCII
unfoldable pub decimal : ℕ → ℕ → List ℕ
decimal zero n = []
decimal (suc k) n = cond (ltb n 10) ((48 + n) ∷ []) (decimal k (n / 10) ++ ((48 + n % 10) ∷ []))

-- a label with a number behind it
unfoldable pub numbered : String → ℕ → List ℕ
numbered label i = ascii label ++ decimal 20 i

-- n rounds from round i on: each absorbs its message of so many elements, the first message being at `first`, and draws its
-- challenge, both under its label
unfoldable pub rounds : (ℕ → List ℕ) → (first size i n : ℕ) → List Event
rounds label first size i zero = []
rounds label first size i (suc n) =
    absorb (label i) (first + size * i) size ∷ draw (label i) ∷ rounds label first size (suc i) n

-- n elements from `first` + i on, each absorbed under its label
unfoldable pub singles : (ℕ → List ℕ) → (first i n : ℕ) → List Event
singles label first i zero = []
singles label first i (suc n) = absorb (label i) (first + i) 1 ∷ singles label first (suc i) n

-- all events of a run
unfoldable pub schedule : Relation → List Event
schedule r =
    replicate (log_logins r + log_bin r) (draw (ascii "vs-tau-bin"))
    ++ (replicate (log_logins r + log_fld r) (draw (ascii "vs-tau-fld"))
    ++ (rounds (numbered "vs-out-shared-") 0 8 0 (log_logins r)
    ++ (rounds (numbered "vs-out-rowbin-") (8 * log_logins r) 4 0 (log_bin r)
    ++ (rounds (numbered "vs-out-rowfld-") (8 * log_logins r + 4 * log_bin r) 4 0 (log_fld r)
    ++ (singles (numbered "vs-terminal-") (before_terminals r) 0 6
    ++ (replicate 6 (draw (ascii "vs-alpha"))
    ++ (rounds (λ _. ascii "vs-inner") (before_inner r) 3 0 (log_cols r)
    ++ (absorb (ascii "vs-vz") (before_end r) 1
    ∷ singles (numbered "vs-seg-") (before_end r + 1) 0 (length r.lengths)))))))))

-- how many elements of the proof are absorbed before draw k of the events
unfoldable pub absorbed_until : List Event → ℕ → ℕ
absorbed_until [] k = 0
absorbed_until (absorb label i n ∷ es) k = n + absorbed_until es k
absorbed_until (draw label ∷ es) zero = 0
absorbed_until (draw label ∷ es) (suc k) = absorbed_until es k

-- where n elements have been absorbed, each of the events absorbs those that come next
unfoldable pub InOrder : ℕ → List Event → Type 0
InOrder n [] = Unit {0}
InOrder n (absorb label i k ∷ es) = (i ≡ n) × InOrder (n + k) es
InOrder n (draw label ∷ es) = InOrder n es
