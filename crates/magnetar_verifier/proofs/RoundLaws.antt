-- Rounds of a sum-check one after the other.
-- Assumes nothing.
use mathlib.Core.Path.{◌≡◌, refl, sym, ap, ap₂, ◌∙◌}
use mathlib.Core.List.{List, [], ◌∷◌}
use Prim.Native.Nat.{ℕ, zero, suc, ◌+◌, ◌-◌, ◌*◌, ◌≤◌, ◌<◌}
use native.Mathlib.Nat.{le_of_suc-le-suc}
use native.Mathlib.Numerals.{add-one}
use Rattle.std.proofs.Common.{zero-add}
use native.Mathlib.Omega.{arith}
use lib.ListN.{length, get_or, take, drop, drop_of_length-le}
use lib.Seq.{take_all, drop-cons}
use Rattle.magnetar_field.specs.Polynomial.{eval}
use Rattle.magnetar_field.specs.Tabulate.{tabulate}
use Rattle.magnetar_field.proofs.Tabulation.{tabulate-length, tabulate-get, tabulate-ext}
use Rattle.magnetar_sumcheck_verifier.specs.Round.{holds, running}
use Rattle.magnetar_protocol.specs.Checks.{Check, round_holds}
use Rattle.magnetar_protocol.specs.Proof.{part}
use Rattle.magnetar_protocol.specs.declared.first.Failure.{Failure}
use Rattle.magnetar_protocol.specs.Found.{Found, check, nothing, failed, next_found, after}
use Rattle.magnetar_verifier.specs.Steps.{messages, round_checks, shared_bin, shared_fld, both_checks}
use Rattle.magnetar_protocol.proofs.Finding.{after_none, after-cons, failure-kept}
use Rattle.magnetar_verifier.proofs.Pieces.{part-part, message-within}

-- the claim after a round is the message's value at the challenge
running-at : (i c : ℕ) (ms : List (List ℕ)) (rs : List ℕ) → i < length ms → i < length rs
    → running c (take (suc i) ms) (take (suc i) rs) ≡ eval (get_or ms i []) (get_or rs i 0)
unfolding running
running-at i c [] rs h k = absurd (omega arith)
running-at i c (m ∷ ms) [] h k = absurd (omega arith)
running-at zero c (m ∷ ms) (r ∷ rs) h k = refl
running-at (suc i) c (m ∷ ms) (r ∷ rs) h k = running-at i (eval m r) ms rs (le_of_suc-le-suc h) (le_of_suc-le-suc k)

running_none : (c : ℕ) (ms : List (List ℕ)) (rs : List ℕ) → running c (take 0 ms) (take 0 rs) ≡ c
unfolding running
running_none c ms rs = refl

-- ---- one sum-check: i rounds are done, and the checks from i on are left
pub record Going (c : ℕ) (ms : List (List ℕ)) (rs : List ℕ) (cs : List Check) (claim i : ℕ) : Type 0 where
  pub now_claim : claim ≡ running c (take i ms) (take i rs)
  pub now_found : after nothing cs ≡ after nothing (drop i cs)

pub going_start : (c : ℕ) (ms : List (List ℕ)) (rs : List ℕ) (cs : List Check) → Going c ms rs cs c 0
going_start c ms rs cs = record { now_claim = sym (running_none c ms rs); now_found = refl }

module _ (code events c : ℕ) (ms : List (List ℕ)) (rs : List ℕ) (n : ℕ) where
  abbrev checks : List Check
  checks = round_checks code events c ms rs n

  checks-length : length checks ≡ n
  unfolding round_checks
  checks-length = tabulate-length (λ (j : ℕ). check code (round_holds c ms rs j) (events + 2 * j)) n

  next-check : (i : ℕ) → i < n
      → drop i checks ≡ check code (holds (get_or ms i []) (running c (take i ms) (take i rs))) (events + 2 * i) ∷ drop (suc i) checks
  unfolding round_checks round_holds
  next-check i h =
      drop-cons (tabulate (λ j. check code (round_holds c ms rs j) (events + 2 * j)) n) i (check 0 (round_holds c ms rs 0) 0) (rw checks-length h)
      ∙ ap (λ (k : Check). k ∷ drop (suc i) (tabulate (λ j. check code (round_holds c ms rs j) (events + 2 * j)) n))
      (tabulate-get (λ j. check code (round_holds c ms rs j) (events + 2 * j)) n i (check 0 (round_holds c ms rs 0) 0) h)

  module _ (claim i : ℕ) (g : Going c ms rs checks claim i) where
    -- f is what the check of round i finds
    module _ (f : Found) (m : List ℕ) (h : i < n) (em : m ≡ get_or ms i []) (ef : f ≡ next_found nothing (check code (holds m claim) (events + 2 * i))) where
      step : after nothing checks ≡ after f (drop (suc i) checks)
      step =
          g.now_found ∙ ap (after nothing) (next-check i h)
          ∙ after-cons nothing (check code (holds (get_or ms i []) (running c (take i ms) (take i rs))) (events + 2 * i)) (drop (suc i) checks)
          ∙ ap (λ (g : Found). after g (drop (suc i) checks))
          (sym (ef ∙ ap₂ (λ (k : List ℕ) (l : ℕ). next_found nothing (check code (holds k l) (events + 2 * i))) em g.now_claim))

    pub going_more : (m : List ℕ) → i < n → m ≡ get_or ms i [] → nothing ≡ next_found nothing (check code (holds m claim) (events + 2 * i))
        → length ms ≡ n → length rs ≡ n → (r claim' : ℕ) → r ≡ get_or rs i 0 → claim' ≡ eval m r → Going c ms rs checks claim' (i + 1)
    going_more m h em ef lm lr r claim' er ec = rw (add-one i) (record {
      now_claim = ec ∙ ap₂ eval em er ∙ sym (running-at i c ms rs (rw lm h) (rw lr h));
      now_found = step nothing m h em ef;
    })

    pub going-stop : (e : Failure) (m : List ℕ) → i < n → m ≡ get_or ms i []
        → failed e ≡ next_found nothing (check code (holds m claim) (events + 2 * i)) → failed e ≡ after nothing checks
    going-stop e m h em ef = sym (step (failed e) m h em ef ∙ failure-kept e (drop (suc i) checks))

    pub going_end : n ≤ i → length ms ≡ n → length rs ≡ n → (nothing ≡ after nothing checks) × (claim ≡ running c ms rs)
    going_end h lm lr = (
      sym (g.now_found ∙ ap (after nothing) (drop_of_length-le checks {i = i} (rw checks-length h)) ∙ after_none nothing),
      g.now_claim ∙ ap₂ (running c) (take_all i ms (omega arith)) (take_all i rs (omega arith)),
    )

pub messages-length : (i width n : ℕ) (w : List ℕ) → length (messages i width n w) ≡ n
unfolding messages
messages-length i width n w = tabulate-length (λ j. part (i + width * j) width w) n

pub messages-get : (i width n : ℕ) (w : List ℕ) (j : ℕ) → j < n → get_or (messages i width n w) j [] ≡ part (i + width * j) width w
unfolding messages
messages-get i width n w j h = tabulate-get (λ j. part (i + width * j) width w) n j [] h

pub message-is : (width n : ℕ) (w : List ℕ) (j : ℕ) → j < n → part (width * j) width w ≡ get_or (messages 0 width n w) j []
message-is width n w j h = rw (messages-get 0 width n w j h, zero-add)

-- those of a part of the proof that holds just them
pub messages-part : (i width n : ℕ) (w : List ℕ) → messages 0 width n (part i (width * n) w) ≡ messages i width n w
unfolding messages
messages-part i width n w =
    tabulate-ext (λ j. part (0 + width * j) width (part i (width * n) w)) (λ j. part (i + width * j) width w) n
    (λ j h. rw zero-add (part-part i (width * n) (width * j) width w (omega (arith, message-within 0 width n j h))))

-- n rounds by the pieces of the proof and of the draws that are theirs
module _ (i width n : ℕ) (w : List ℕ) where
  pub phase-is : {k : ℕ} {rs ms es : List ℕ} → k ≡ n → ms ≡ part i (width * n) w → rs ≡ es → (code events c : ℕ)
      → round_checks code events c (messages 0 width k ms) rs k ≡ round_checks code events c (messages i width n w) es n
  phase-is h em er code events c = rw (h, em, er, messages-part i width n w)

  pub phase-claim : {k : ℕ} {rs ms es : List ℕ} → k ≡ n → ms ≡ part i (width * n) w → rs ≡ es → (c : ℕ)
      → running c (messages 0 width k ms) rs ≡ running c (messages i width n w) es
  phase-claim h em er c = rw (h, em, er, messages-part i width n w)

-- ---- the shared rounds of both: i rounds are done, and the checks of the other s - i are left
pub record Sharing (events s : ℕ) (ms ns : List (List ℕ)) (rs : List ℕ) (bin fld i : ℕ) : Type 0 where
  pub now_bin : bin ≡ running 0 (take i ms) (take i rs)
  pub now_fld : fld ≡ running 0 (take i ns) (take i rs)
  pub now_both : after nothing (both_checks events ms ns rs 0 s) ≡ after nothing (both_checks events ms ns rs i (s - i))

pub sharing-start : (events s : ℕ) (ms ns : List (List ℕ)) (rs : List ℕ) → Sharing events s ms ns rs 0 0 0
sharing-start events s ms ns rs = record {
  now_bin = sym (running_none 0 ms rs);
  now_fld = sym (running_none 0 ns rs);
  now_both = let e : s - 0 ≡ s = omega arith in rw e;
}

module _ (events s : ℕ) (ms ns : List (List ℕ)) (rs : List ℕ) where
  two-more : (i k : ℕ) (a b : ℕ) → a ≡ running 0 (take i ms) (take i rs) → b ≡ running 0 (take i ns) (take i rs)
      → after nothing (both_checks events ms ns rs i (suc k))
      ≡ after (next_found (next_found nothing (check 21 (holds (get_or ms i []) a) (events + 2 * suc i)))
      (check 22 (holds (get_or ns i []) b) (events + 2 * suc i)))
      (both_checks events ms ns rs (suc i) k)
  unfolding both_checks round_holds after
  two-more i k a b e g = rw (e, g)

  module _ (a b i : ℕ) (g : Sharing events s ms ns rs a b i) (m n : List ℕ) (h : i < s) (em : m ≡ get_or ms i []) (en : n ≡ get_or ns i []) where
    -- f is what the checks of round i find
    both-step : (f : Found)
        → f ≡ next_found (next_found nothing (check 21 (holds m a) (events + 2 * suc i))) (check 22 (holds n b) (events + 2 * suc i))
        → after nothing (both_checks events ms ns rs 0 s) ≡ after f (both_checks events ms ns rs (suc i) (s - suc i))
    both-step f ef =
        g.now_both ∙ ap (λ (k : ℕ). after nothing (both_checks events ms ns rs i k)) left
        ∙ two-more i (s - suc i) a b g.now_bin g.now_fld
        ∙ ap (λ (k : Found). after k (both_checks events ms ns rs (suc i) (s - suc i))) (sym (ef ∙ same))
      where
        left : s - i ≡ suc (s - suc i)
        left = omega arith

        same : next_found (next_found nothing (check 21 (holds m a) (events + 2 * suc i))) (check 22 (holds n b) (events + 2 * suc i))
            ≡ next_found (next_found nothing (check 21 (holds (get_or ms i []) a) (events + 2 * suc i)))
            (check 22 (holds (get_or ns i []) b) (events + 2 * suc i))
        same = rw (em, en)

    pub sharing-more : nothing ≡ next_found (next_found nothing (check 21 (holds m a) (events + 2 * suc i))) (check 22 (holds n b) (events + 2 * suc i))
        → length ms ≡ s → length ns ≡ s → length rs ≡ s → (r a' b' : ℕ) → r ≡ get_or rs i 0 → a' ≡ eval m r → b' ≡ eval n r
        → Sharing events s ms ns rs a' b' (i + 1)
    sharing-more ef lm ln lr r a' b' er ea eb = rw (add-one i) (record {
      now_bin = ea ∙ ap₂ eval em er ∙ sym (running-at i 0 ms rs (rw lm h) (rw lr h));
      now_fld = eb ∙ ap₂ eval en er ∙ sym (running-at i 0 ns rs (rw ln h) (rw lr h));
      now_both = both-step nothing ef;
    })

    pub sharing-stop : (e : Failure)
        → failed e ≡ next_found (next_found nothing (check 21 (holds m a) (events + 2 * suc i))) (check 22 (holds n b) (events + 2 * suc i))
        → failed e ≡ after nothing (both_checks events ms ns rs 0 s)
    sharing-stop e ef = sym (both-step (failed e) ef ∙ failure-kept e (both_checks events ms ns rs (suc i) (s - suc i)))

  pub sharing-end : (a b i : ℕ) → Sharing events s ms ns rs a b i → s ≤ i → length ms ≡ s → length ns ≡ s → length rs ≡ s
      → (nothing ≡ after nothing (both_checks events ms ns rs 0 s)) × (a ≡ running 0 ms rs) × (b ≡ running 0 ns rs)
  unfolding both_checks after
  sharing-end a b i g h lm ln lr =
      let z : s - i ≡ 0 = omega arith in (
        sym (rw z at g.now_both),
        g.now_bin ∙ ap₂ (running 0) (take_all i ms (omega arith)) (take_all i rs (omega arith)),
        g.now_fld ∙ ap₂ (running 0) (take_all i ns (omega arith)) (take_all i rs (omega arith)),
      )

pub bin-length : (s : ℕ) (w : List ℕ) → length (shared_bin s w) ≡ s
unfolding shared_bin
bin-length s w = tabulate-length (λ j. part (8 * j) 4 w) s

pub fld-length : (s : ℕ) (w : List ℕ) → length (shared_fld s w) ≡ s
unfolding shared_fld
fld-length s w = tabulate-length (λ j. part (8 * j + 4) 4 w) s

pub bin-get : (s : ℕ) (w : List ℕ) (j : ℕ) → j < s → get_or (shared_bin s w) j [] ≡ part (8 * j) 4 w
unfolding shared_bin
bin-get s w j h = tabulate-get (λ j. part (8 * j) 4 w) s j [] h

pub fld-get : (s : ℕ) (w : List ℕ) (j : ℕ) → j < s → get_or (shared_fld s w) j [] ≡ part (8 * j + 4) 4 w
unfolding shared_fld
fld-get s w j h = tabulate-get (λ j. part (8 * j + 4) 4 w) s j [] h
