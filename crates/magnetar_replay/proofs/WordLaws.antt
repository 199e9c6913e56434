-- Laws on letters and words.
-- Assumes nothing.
use Rattle.std.proofs.Common.{◌≡◌, ◌≢◌, ℕ, suc, ◌+◌, ◌-◌, ◌*◌, ◌%◌, ◌^◌, ◌<◌, ◌≤◌, bit_or, Bool, true, false, cond, List, [], ◌∷◌, ◌++◌, length}
use Rattle.std.proofs.Common.{get_or, take, drop, map, fold, Option, Some, None, unwrap_or, bytes_eq, refl, sym, ◌∙◌, ap, arith, append_assoc}
use Rattle.std.proofs.Common.{add-one, eq-eqb}
use borrow.Author.Tests.{ne_eqb}
use denote.Ref.{Bor}
use Rattle.std.specs.Iterator.{Yields}
use Rattle.std.proofs.Math.Seq.{drop-cons}
use Rattle.std.proofs.lemmas.Nat.{or_shifted}
use Rattle.std.proofs.lemmas.Iterator.{YieldsList}
use Rattle.std.proofs.lemmas.Iterator.Consumers.{YieldsList-turn, YieldsList-end}
use Rattle.std.proofs.lemmas.List.{get_or_default, append-nil, drop_all}
use Rattle.std.proofs.lemmas.List.Sums.{fold_more}
use Rattle.magnetar_replay.specs.Words.{spelled_bytes, byte_value, digit_value, with_letter, is_hex, base_of, last_letters, named_among}
use Rattle.magnetar_replay.specs.Lists.{list_at, behind_list, front_list}

-- a hexadecimal digit behind a word of 64 bits
pub hexed : (v d : ℕ) → d < 16 → bit_or (v * 16 % 2 ^ 64) d ≡ (v * 16 + d) % 2 ^ 64
hexed v d h =
    let e : v * 16 % 2 ^ 64 ≡ v % 2 ^ 60 * 2 ^ 4 = omega arith in
    ap (λ n. bit_or n d) e ∙ or_shifted (v % 2 ^ 60) 4 d h ∙ omega arith

-- fewer letters than two spell no byte
pub spelled-short : (letters : List ℕ) → length letters < 2 → spelled_bytes letters ≡ []
unfolding spelled_bytes
spelled-short [] h = refl
spelled-short (a ∷ []) h = refl
spelled-short (a ∷ (b ∷ letters)) h = absurd (omega arith)

-- the byte of two letters, and those of the letters behind them
pub spelled-pair : (pair letters : List ℕ) → length pair ≡ 2
    → spelled_bytes (pair ++ letters) ≡ byte_value (get_or pair 0 0) (get_or pair 1 0) ∷ spelled_bytes letters
unfolding spelled_bytes
spelled-pair [] letters h = absurd (omega arith)
spelled-pair (a ∷ []) letters h = absurd (omega arith)
spelled-pair (a ∷ (b ∷ [])) letters h = refl
spelled-pair (a ∷ (b ∷ (c ∷ more))) letters h = absurd (omega arith)

-- a letter that is not there counts as 0
pub byte-none : (xs : List ℕ) → length xs < 1 → 0 ≡ byte_value (get_or xs 0 0) (get_or xs 1 0)
unfolding digit_value
byte-none [] h = refl
byte-none (x ∷ xs) h = absurd (omega arith)

alone : (x d : ℕ) → d ≡ digit_value x → d < 16 → d * 16 % 256 ≡ byte_value x 0
unfolding digit_value
alone x d e h = rw (sym e) (omega arith)

pub byte-one : (xs : List ℕ) (d : ℕ) → length xs < 2 → d ≡ digit_value (get_or xs 0 0) → d < 16
    → d * 16 % 256 ≡ byte_value (get_or xs 0 0) (get_or xs 1 0)
byte-one [] d h e l = alone 0 d e l
byte-one (x ∷ []) d h e l = alone x d e l
byte-one (x ∷ (y ∷ xs)) d h e l = absurd (omega arith)

-- one more pair of letters, and the end
pub push-more : (bs now rest left x whole : List ℕ) (b : ℕ) → bs ++ spelled_bytes rest ≡ whole → rest ≡ x ++ left → length x ≡ 2
    → b ≡ byte_value (get_or x 0 0) (get_or x 1 0) → now ≡ bs ++ b ∷ [] → now ++ spelled_bytes left ≡ whole
push-more bs now rest left x whole b e r l v n =
    ap (λ s. s ++ spelled_bytes left) n ∙ append_assoc bs (b ∷ []) (spelled_bytes left)
    ∙ ap (λ k. bs ++ (k ∷ spelled_bytes left)) v ∙ ap (λ s. bs ++ s) (sym (spelled-pair x left l)) ∙ ap (λ s. bs ++ spelled_bytes s) (sym r) ∙ e

pub push-end : (bs rest whole : List ℕ) → bs ++ spelled_bytes rest ≡ whole → length rest < 2 → bs ≡ whole
push-end bs rest whole e l = sym (append-nil bs) ∙ ap (λ s. bs ++ s) (sym (spelled-short rest l)) ∙ e

-- one more letter of a number
pub letter-more : (b : ℕ) (word : List ℕ) (i v w : ℕ) → i < length word → v ≡ fold (with_letter b) 0 (take i word)
    → w ≡ with_letter b v (get_or word i 0) → w ≡ fold (with_letter b) 0 (take (i + 1) word)
letter-more b word i v w h e n = n ∙ ap (λ u. with_letter b u (get_or word i 0)) e ∙ sym (fold_more (with_letter b) 0 word i 0 h)

pub letter-x : (b v c : ℕ) → c ≡ 120 → 0 ≡ with_letter b v c
letter-x b v c e = sym (ap (λ t. cond t 0 ((v * b + digit_value c) % 2 ^ 64)) (eq-eqb c 120 e))

pub letter-digit : (b v c w : ℕ) → c ≢ 120 → w ≡ (v * b + digit_value c) % 2 ^ 64 → w ≡ with_letter b v c
letter-digit b v c w h e = e ∙ sym (ap (λ t. cond t 0 ((v * b + digit_value c) % 2 ^ 64)) (ne_eqb c 120 h))

pub letter-hex : (word : List ℕ) (v c d w : ℕ) → true ≡ is_hex word → c ≢ 120 → d ≡ digit_value c → d < 16
    → w ≡ bit_or (v * 16 % 2 ^ 64) d → w ≡ with_letter (base_of word) v c
letter-hex word v c d w b n e l k =
    letter-digit (base_of word) v c w n
    (k ∙ hexed v d l ∙ ap (λ m. (v * 16 + m) % 2 ^ 64) e ∙ ap (λ m. (v * m + digit_value c) % 2 ^ 64) (ap (λ t. cond t 16 10) b))

tens : (v d : ℕ) → (v * 10 % 2 ^ 64 + d) % 2 ^ 64 ≡ (v * 10 + d) % 2 ^ 64
tens v d = omega arith

pub letter-decimal : (word : List ℕ) (v c d w : ℕ) → false ≡ is_hex word → c ≢ 120 → d ≡ digit_value c
    → w ≡ (v * 10 % 2 ^ 64 + d) % 2 ^ 64 → w ≡ with_letter (base_of word) v c
letter-decimal word v c d w b n e k =
    letter-digit (base_of word) v c w n
    (k ∙ tens v d ∙ ap (λ m. (v * 10 + m) % 2 ^ 64) e ∙ ap (λ m. (v * m + digit_value c) % 2 ^ 64) (ap (λ t. cond t 16 10) b))

-- ---- what an iterator hands out
-- the first item, where there is one
pub first-item : {S : Type 0} {steps : S → Option (Bor (List ℕ)) → S → Type 0} {s : S} {all : List (List ℕ)}
    (r : Option (Bor (List ℕ))) (u : S) (d : Bor (List ℕ)) → steps s r u → YieldsList steps (λ x. x.now) s all → 0 < length all
    → (unwrap_or r d).now ≡ get_or all 0 []
first-item {s = s} {all = all} None u d k e l = absurd (omega (arith, (YieldsList-end e [] s refl None u refl k).1))
first-item {s = s} {all = all} (Some x) u d k e l =
    (YieldsList-turn e [] s refl (Some x) u x refl k).1 ∙ get_or_default all 0 x.now [] l

-- all items, where it has ended
pub all-items : {S A B : Type 0} {steps : S → Option A → S → Type 0} {v : A → B} {s : S} {all : List B}
    (xs : List A) (t : S) (r : Option A) (u : S) → Yields steps s xs t → r ≡ None → steps t r u → YieldsList steps v s all → map v xs ≡ all
all-items xs t r u y n k e = (YieldsList-end e xs t y r u n k).0

pub map-map : {A B C : Type 0} (f : B → C) (v : A → B) (xs : List A) → map f (map v xs) ≡ map (λ x. f (v x)) xs
map-map f v [] = refl
map-map f v (x ∷ xs) = ap (λ l. f (v x) ∷ l) (map-map f v xs)

-- ---- names
-- the first of the names from index i on that fits
abbrev pub named-from : List (Bor (List ℕ)) → ℕ → List ℕ → List ℕ
named-from items i letters = named_among (map (λ (w : Bor (List ℕ)). w.now) (drop i items)) letters

-- one more long name
named-more : (items : List (Bor (List ℕ))) (letters : List ℕ) (i : ℕ) (d : Bor (List ℕ)) (last : List ℕ) (b : Bool) → i < length items
    → last ≡ last_letters (get_or items i d).now → b ≡ bytes_eq last letters
    → named-from items i letters ≡ cond b (get_or items i d).now (named-from items (i + 1) letters)
named-more items letters i d last b h e k =
    ap (λ l. named_among (map (λ (w : Bor (List ℕ)). w.now) l) letters) (drop-cons items i d h)
    ∙ ap (λ t. cond t (get_or items i d).now (named-from items (suc i) letters)) (ap (λ l. bytes_eq l letters) (sym e) ∙ sym k)
    ∙ ap (λ n. cond b (get_or items i d).now (named-from items n letters)) (sym (add-one i))

-- the name that the letters tell is the first that fits of those from index i on
pub record Named (items : List (Bor (List ℕ))) (i : ℕ) (letters name : List ℕ) : Type 0 where
  pub rest : named-from items i letters ≡ name

pub named-here : (items : List (Bor (List ℕ))) (letters name : List ℕ) (i : ℕ) (d : Bor (List ℕ)) (last : List ℕ) (b : Bool)
    → Named items i letters name → i < length items → last ≡ last_letters (get_or items i d).now → b ≡ bytes_eq last letters → b ≡ true
    → (get_or items i d).now ≡ name
named-here items letters name i d last b n h e k t =
    sym (named-more items letters i d last b h e k ∙ ap (λ u. cond u (get_or items i d).now (named-from items (i + 1) letters)) t) ∙ n.rest

pub named-on : (items : List (Bor (List ℕ))) (letters name : List ℕ) (i : ℕ) (d : Bor (List ℕ)) (last : List ℕ) (b : Bool)
    → Named items i letters name → i < length items → last ≡ last_letters (get_or items i d).now → b ≡ bytes_eq last letters → b ≡ false
    → Named items (i + 1) letters name
named-on items letters name i d last b n h e k t =
    let past = named-more items letters i d last b h e k ∙ ap (λ u. cond u (get_or items i d).now (named-from items (i + 1) letters)) t in
    record { rest = sym past ∙ n.rest }

pub named-none : (items : List (Bor (List ℕ))) (letters name : List ℕ) (i : ℕ) → Named items i letters name → length items ≤ i → letters ≡ name
named-none items letters name i n h =
    sym (ap (λ l. named_among (map (λ (w : Bor (List ℕ)). w.now) l) letters) (drop_all i items h)) ∙ n.rest

-- ---- lists
-- one list further
pub list-more : (nums : List ℕ) (k i : ℕ) → i < k → list_at nums (k - i) ≡ list_at (behind_list nums) (k - (i + 1))
unfolding list_at
list-more nums k i h = let e : k - i ≡ suc (k - (i + 1)) = omega arith in ap (list_at nums) e

pub list-here : (nums : List ℕ) (k i : ℕ) → k ≤ i → front_list nums ≡ list_at nums (k - i)
unfolding list_at
list-here nums k i h = let e : k - i ≡ 0 = omega arith in sym (ap (list_at nums) e)
