-- How the row check goes, step by step: what is behind other elements, a login's three products, what is found in them, and login by login.
-- Assumes nothing.
use Rattle.std.specs.Prelude.{◌≡◌, ℕ, zero, suc, ◌+◌, ◌*◌, ◌<◌, ◌≤◌, min, Bool, true, false, cond, eqb, leb, List, [], ◌∷◌, ◌++◌, length, take, drop}
use mathlib.Core.Path.{refl, sym, ap, ap₂, ◌∙◌}
use native.Mathlib.Numerals.{add-one}
use native.Mathlib.Omega.{arith}
use lib.ListN.{take-append-drop, length-append}
use lib.Seq.{take_at, drop_at, length-take-le}
use borrow.Author.Tests.{leb-true, le-leb, lt-leb, lt-ltb, le-ltb, ne_eqb, eqb-true, eqb-false}
use Rattle.magnetar_field.specs.Words.{elements}
use Rattle.magnetar_matrix.specs.Matrix.{Entry, Matrix, System, share}
use Rattle.magnetar_matrix.specs.Batch.{Relation}
use Rattle.magnetar_matrix.specs.RowCheck.{Verdict, first_not, holds_at}
use Rattle.magnetar_matrix.specs.RowCheck.Verdict.{good, stray, bin, fld}
use Rattle.magnetar_relation.specs.declared.shapes.SystemShape.{SystemShape}
use Rattle.magnetar_relation.specs.Rules.{system_at}
use Rattle.magnetar_relation.specs.Steps.{cleared_to, added_to, added_all, behind, login_z}
use Rattle.magnetar_relation.specs.EntryWalks.{fold_entries}
use Rattle.magnetar_relation.proofs.RangeLaws.{same_drop}
use Rattle.magnetar_check.specs.CheckSteps.{Found, share_added, product_behind, twice_of, three_in, row_in, nothing, failing_in}
use Rattle.magnetar_check.specs.CheckSteps.{Judged, from, login_done, system_done, both_done, answer_of}
use Rattle.magnetar_check.specs.Check.Outcome.{judged}

-- ---- what is behind the first m elements
abbrev on : Bool → ℕ → (List ℕ → List ℕ) → List ℕ → List ℕ
on b m h s = cond b (take (2 * m) s ++ h (drop (2 * m) s)) s

behind-twice : (m : ℕ) (g h : List ℕ → List ℕ) (s : List ℕ) → behind m g (behind m h s) ≡ behind m (λ t. g (h t)) s
unfolding behind
behind-twice m g h s = go (leb (2 * m) (length s)) refl
  where
    go : (b : Bool) → leb (2 * m) (length s) ≡ b
        → cond (leb (2 * m) (length (on b m h s))) (take (2 * m) (on b m h s) ++ g (drop (2 * m) (on b m h s))) (on b m h s)
        ≡ cond b (take (2 * m) s ++ g (h (drop (2 * m) s))) s
    go true e =
        let l : length (take (2 * m) s) ≡ 2 * m = length-take-le (2 * m) s (leb-true _ _ e) in
        let k : 2 * m ≤ length (take (2 * m) s ++ h (drop (2 * m) s)) = rw length-append (omega (arith, l)) in
        rw (le-leb _ _ k, take_at (take (2 * m) s) (h (drop (2 * m) s)) (2 * m) l, drop_at (take (2 * m) s) (h (drop (2 * m) s)) (2 * m) l)
    go false e = rw e

behind-same : (b : Bool) (m : ℕ) (s : List ℕ) → s ≡ cond b (take (2 * m) s ++ drop (2 * m) s) s
behind-same true m s = sym (take-append-drop (2 * m) s)
behind-same false m s = refl

-- words in front of others
pub behind-at : (m : ℕ) (g : List ℕ → List ℕ) (l r : List ℕ) → length l ≡ 2 * m → behind m g (l ++ r) ≡ l ++ g r
unfolding behind
behind-at m g l r e =
    let h : 2 * m ≤ length (l ++ r) = rw length-append (omega (arith, e)) in
    rw (le-leb (2 * m) (length (l ++ r)) h, take_at l r (2 * m) e, drop_at l r (2 * m) e)

-- ---- a product
-- the shares one after the other, behind the first m elements
shares-are : (m n : ℕ) (z : List ℕ) (es : List Entry) (s : List ℕ) → fold_entries (share_added m n z) es s ≡ behind m (added_all n (share z) es) s
unfolding fold_entries share_added added_all
shares-are m n z [] s = none
  where
    none : s ≡ behind m (λ t. t) s
    none = unfold behind in behind-same (leb (2 * m) (length s)) m s
shares-are m n z (e ∷ es) s =
    shares-are m n z es (behind m (added_to n e.row (share z e)) s) ∙ behind-twice m (added_all n (share z) es) (added_to n e.row (share z e)) s

pub product_is : (m n : ℕ) (z : List ℕ) (a : Matrix) (s : List ℕ)
    → product_behind m n z a s ≡ behind m (λ t. added_all n (share z) a.entries (cleared_to n t)) s
product_is m n z a s = shares-are m n z a.entries (behind m (cleared_to n) s) ∙ behind-twice m (added_all n (share z) a.entries) (cleared_to n) s

-- ---- the first row that does not hold
pub row_here : (n r : ℕ) (s : List ℕ) → 6 * n ≤ length s → r ≡ first_not (holds_at (elements (take (6 * n) s)) n) n → r ≡ row_in n s
unfolding row_in
row_here n r s l e = rw (le-leb (6 * n) (length s) l) e

pub row-short : (n : ℕ) (s : List ℕ) → length s < 6 * n → n ≡ row_in n s
unfolding row_in
row-short n s l = rw (lt-leb (6 * n) (length s) l)

pub failing-here : (r : Found) (k u n i : ℕ) (s : List ℕ) → i ≡ row_in n s → i < n → record { kind = k; login = u; place = i } ≡ failing_in r k u n s
unfolding failing_in
failing-here r k u n i s e l = rw (← e, lt-ltb i n l)

pub failing-none : (r : Found) (k u n i : ℕ) (s : List ℕ) → i ≡ row_in n s → n ≤ i → r ≡ failing_in r k u n s
unfolding failing_in
failing-none r k u n i s e l = rw (← e, le-ltb i n l)

-- ---- a login's three products: the calls in a row, from places that were cut where the entries end
pub three-cut : (z : List ℕ) (t : SystemShape) (a : ℕ) (es : List Entry) (b c : ℕ)
    → b ≡ min (a + t.a.entries) (length es) → c ≡ min (b + t.b.entries) (length es)
    → (ea eb ec : List Entry) → ea ≡ take t.a.entries (drop a es) → eb ≡ take t.b.entries (drop b es) → ec ≡ take t.c.entries (drop c es)
    → (s s₁ s₂ s₃ : List ℕ) → let n = t.a.rows in s₁ ≡ fold_entries (share_added 0 n z) ea (behind 0 (cleared_to n) s)
    → s₂ ≡ fold_entries (share_added n n z) eb (behind n (cleared_to n) s₁)
    → s₃ ≡ fold_entries (share_added (twice_of n) n z) ec (behind (twice_of n) (cleared_to n) s₂) → s₃ ≡ three_in z (system_at t a es) s
unfolding three_in
three-cut z t a es b c eb ec ea₁ eb₁ ec₁ pa pb pc s s₁ s₂ s₃ e₁ e₂ e₃ =
    let d₂ = same_drop b (a + t.a.entries) es (omega (arith, eb)) in
    let d₃ = same_drop c (a + t.a.entries + t.b.entries) es (omega (arith, eb, ec)) in
    e₃ ∙ rw (pc, d₃, e₂, pb, d₂, e₁, pa)

-- ---- a login, unless something was found before
module _ (k : ℕ) (z : List ℕ) (t : System) (u : ℕ) where
  pub done-some : (p : Judged) → (p.found.kind ≡ 0 → ⊥) → login_done k z t u p ≡ p
  unfolding login_done
  done-some p h = rw (ne_eqb p.found.kind 0 h)

  pub done_none : (p : Judged) → p.found.kind ≡ 0
      → login_done k z t u p ≡ from (failing_in p.found k u t.a.rows (three_in z t p.left)) (three_in z t p.left)
  unfolding login_done
  done_none p h = rw h

-- ---- one login more
module _ (k w : ℕ) (ws x : List ℕ) (t : System) where
  pub system-start : (p : Judged) → p ≡ system_done k w ws x t 0 p
  unfolding system_done
  system-start p = refl

  pub system-more : (u : ℕ) (p v v₁ : Judged) → v ≡ system_done k w ws x t u p
      → v₁ ≡ login_done k (login_z w ws x u) t u v → v₁ ≡ system_done k w ws x t (u + 1) p
  unfolding system_done
  system-more u p v v₁ h e = rw add-one (e ∙ ap (login_done k (login_z w ws x u) t u) h)

-- ---- a loop over the logins that stops at the first one with a row that does not hold
module _ (k w : ℕ) (ws x : List ℕ) (t : System) (p : Judged) where
  abbrev after : ℕ → Judged
  after u = system_done k w ws x t u p

  -- what was found stays
  stays : (q u : ℕ) → u ≤ q → ((after u).found.kind ≡ 0 → ⊥) → after q ≡ after u
  unfolding system_done
  stays zero u h some = let e : u ≡ 0 = omega arith in rw e
  stays (suc q) u h some = go (eqb u (suc q)) refl (λ l. stays q u l some)
    where
      go : (b : Bool) → eqb u (suc q) ≡ b → (u ≤ q → after q ≡ after u) → after (suc q) ≡ after u
      go true e again = let d : u ≡ suc q = eqb-true u (suc q) e in rw d
      go false e again =
          let n = eqb-false u (suc q) e in
          let y = again (omega arith) in
          done-some k (login_z w ws x q) t q (after q) (rw y some) ∙ y

  module _ (u : ℕ) (s v : List ℕ) (before : from nothing s ≡ after u) (made : v ≡ three_in (login_z w ws x u) t s) where
    next : (f : Found) → f ≡ failing_in nothing k u t.a.rows v → from f v ≡ after (u + 1)
    next f e =
        system-more k w ws x t u p (from nothing s) (from f v) before
        (ap₂ from (e ∙ ap (failing_in nothing k u t.a.rows) made) made ∙ sym (done_none k (login_z w ws x u) t u (from nothing s) refl))

    pub turn-none : t.a.rows ≡ row_in t.a.rows v → from nothing v ≡ after (u + 1)
    turn-none e = next nothing (failing-none nothing k u t.a.rows t.a.rows v e (omega arith))

    pub turn-found : (i q : ℕ) → i ≡ row_in t.a.rows v → i < t.a.rows → 0 < k → u < q → from (record { kind = k; login = u; place = i }) v ≡ after q
    turn-found i q e l some h =
        let f = next (record { kind = k; login = u; place = i }) (failing-here nothing k u t.a.rows i v e l) in
        f ∙ sym (stays q (u + 1) (omega arith) (rw (← f) (λ z. omega arith)))

pub found-stays : (k w : ℕ) (ws x : List ℕ) (t : System) (p : Judged) (q : ℕ) → (p.found.kind ≡ 0 → ⊥) → p ≡ system_done k w ws x t q p
found-stays k w ws x t p q some = system-start k w ws x t p ∙ sym (stays k w ws x t p q 0 (omega arith) (rw (← system-start k w ws x t p) some))

-- ---- both systems
module _ (R : Relation) (w : ℕ) (ws x s : List ℕ) where
  -- what is answered, and the words that are left
  abbrev Says : Verdict → Found → List ℕ → Type 0
  Says v r l = (judged v ≡ answer_of 0 (both_done R w ws x r s).found) × (l ≡ (both_done R w ws x r s).left)

  at-end : (v : Verdict) (r f : Found) (l : List ℕ) → judged v ≡ answer_of 0 f → from f l ≡ both_done R w ws x r s → Says v r l
  at-end v r f l a e = (a ∙ ap (λ (d : Judged). answer_of 0 d.found) e, ap (λ (d : Judged). d.left) e)

  pub judge-stray : (u y : ℕ) → Says (stray u y) (record { kind = 3; login = u; place = y }) s
  unfolding answer_of
  judge-stray u y =
      let f : Found = record { kind = 3; login = u; place = y } in
      let one = found-stays 1 w ws x R.bin (from f s) R.q (λ z. omega (arith, z)) in
      let two = found-stays 2 w ws x R.fld (from f s) R.q (λ z. omega (arith, z)) in
      at-end (stray u y) f f s refl (two ∙ ap (system_done 2 w ws x R.fld R.q) one)

  module _ (s₁ : List ℕ) where
    pub judge-bin : (u i : ℕ) → from (record { kind = 1; login = u; place = i }) s₁ ≡ system_done 1 w ws x R.bin R.q (from nothing s)
        → Says (bin u i) nothing s₁
    unfolding answer_of
    judge-bin u i e =
        let f : Found = record { kind = 1; login = u; place = i } in
        let two = found-stays 2 w ws x R.fld (from f s₁) R.q (λ z. omega (arith, z)) in
        at-end (bin u i) nothing f s₁ refl (two ∙ ap (system_done 2 w ws x R.fld R.q) e)

    module _ (e : from nothing s₁ ≡ system_done 1 w ws x R.bin R.q (from nothing s)) (t : System) (same : t ≡ R.fld) (s₂ : List ℕ) where
      pub judge-fld : (u i : ℕ) → from (record { kind = 2; login = u; place = i }) s₂ ≡ system_done 2 w ws x t R.q (from nothing s₁) → Says (fld u i) nothing s₂
      unfolding answer_of
      judge-fld u i g =
          let f : Found = record { kind = 2; login = u; place = i } in
          at-end (fld u i) nothing f s₂ refl ((rw same at g) ∙ ap (system_done 2 w ws x R.fld R.q) e)

      pub judge-good : from nothing s₂ ≡ system_done 2 w ws x t R.q (from nothing s₁) → Says good nothing s₂
      unfolding answer_of
      judge-good g = at-end good nothing nothing s₂ refl ((rw same at g) ∙ ap (system_done 2 w ws x R.fld R.q) e)
