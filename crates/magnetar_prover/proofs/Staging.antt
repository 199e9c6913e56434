-- A schedule under way: one law for each kind of event, and what the end of all events shows.
-- Assumes nothing.
use mathlib.Core.Path.{◌≡◌, refl, sym, ap, ap₂, ◌∙◌, subst}
use mathlib.Core.Bool.{Bool, true, false}
use mathlib.Core.List.{List, [], ◌∷◌, ◌++◌, append_assoc}
use Prim.Native.Nat.{ℕ, zero, suc, ◌+◌, ◌*◌, ◌/◌, ◌-◌, ◌^◌, ◌<◌, ◌≤◌, min}
use native.Mathlib.Omega.{arith}
use native.Mathlib.Numerals.{add-one}
use lib.Dec.{leb}
use lib.Pow.{low, high}
use lib.ListN.{length, get_or, set, take, drop, length-append, length-drop, length-take, drop_of_length-le}
use lib.Seq.{take-nil, take_all, drop-cons, drop-drop, set_at, take-append-le, get_or-drop}
use borrow.Author.Tests.{leb-true, leb-false}
use Rattle.magnetar_field.specs.declared.gf128.Gf128.{Gf128}
use Rattle.magnetar_field.specs.Gf128.{value}
use Rattle.magnetar_field.specs.Words.{elements, words, overlaid}
use Rattle.magnetar_field.proofs.Elements.{elements-length, elements-drop, words_append}
use Rattle.magnetar_hash.specs.Bytes.{word_bytes}
use Rattle.magnetar_hash.specs.declared.transcript.Transcript.{Transcript}
use Rattle.magnetar_hash.specs.Transcript.{absorbed, drawn, element}
use Rattle.magnetar_protocol.specs.Proof.{part}
use Rattle.magnetar_schedule.specs.Schedule.{Event, absorb, draw}
use Rattle.magnetar_schedule.specs.ScheduleRun.{RunState, run_events, run_from, start, absorbing, drawing}
use Rattle.magnetar_prover.specs.declared.schedule_run.Stage.{Stage}
use Rattle.magnetar_prover.specs.Stages.{Written, Adds, PartialRun}

-- ---- words written

pub written_none : (was : List ℕ) → Written [] was 0 was
unfolding overlaid
written_none was = record { count = omega arith; list = rw (take-nil {A = ℕ} (length was)) }

pub written-length : {v was out : List ℕ} {n : ℕ} → Written v was n out → length out ≡ length was
unfolding overlaid
written-length {v} {was} {out} {n} h =
    ap length h.list
    ∙ length-append (take (length was) v) (drop (length v) was)
    ∙ omega (arith, length-take (length was) v, length-drop (length v) was)

pub written-more
    : {v was out : List ℕ} {n : ℕ} (x : ℕ) → Written v was n out → n < length out → Written (v ++ (x ∷ [])) was (n + 1) (set out n x)
unfolding overlaid
written-more {v} {was} {out} {n} x h l =
    let same : length out ≡ length was = written-length h in
    let count : n ≡ min (length v) (length was) = h.count in
    let e : n ≡ length v = omega arith in
    let more : length (v ++ (x ∷ [])) ≡ length v + 1 = length-append v (x ∷ []) in
    let front : take (length was) v ≡ v = take_all (length was) v (omega arith) in
    let front' : take (length was) (v ++ (x ∷ [])) ≡ v ++ (x ∷ []) = take_all (length was) (v ++ (x ∷ [])) (omega arith) in
    let d : drop (length v) was ≡ get_or was (length v) 0 ∷ drop (length v + 1) was =
    drop-cons was (length v) 0 (omega arith) ∙ ap (λ (k : ℕ). get_or was (length v) 0 ∷ drop k was) (sym (add-one (length v))) in
    let f : out ≡ v ++ get_or was (length v) 0 ∷ drop (length v + 1) was = h.list ∙ ap₂ (λ (a b : List ℕ). a ++ b) front d in
    record {
      count = omega arith;
      list =
          ap (λ (a : List ℕ). set a n x) f
          ∙ set_at v (get_or was (length v) 0) (drop (length v + 1) was) x n (sym e)
          ∙ sym (append_assoc v (x ∷ []) (drop (length v + 1) was))
          ∙ ap₂ (λ (a : List ℕ) (k : ℕ). a ++ drop k was) (sym front') (sym more);
    }

pub written-full : {v was out : List ℕ} {n : ℕ} (x : ℕ) → Written v was n out → length out ≤ n → Written (v ++ (x ∷ [])) was n out
unfolding overlaid
written-full {v} {was} {out} {n} x h l =
    let same : length out ≡ length was = written-length h in
    let count : n ≡ min (length v) (length was) = h.count in
    let more : length (v ++ (x ∷ [])) ≡ length v + 1 = length-append v (x ∷ []) in
    let front : take (length was) (v ++ (x ∷ [])) ≡ take (length was) v = take-append-le (length was) v (x ∷ []) (omega arith) in
    let d : drop (length v) was ≡ [] = drop_of_length-le was {i = length v} (omega arith) in
    let d' : drop (length (v ++ (x ∷ []))) was ≡ [] = drop_of_length-le was {i = length (v ++ (x ∷ []))} (omega arith) in
    record {
      count = omega arith;
      list = h.list ∙ ap₂ (λ (a b : List ℕ). a ++ b) (sym front) (d ∙ sym d');
    }

pub element-words : (lo hi : ℕ) → lo < 2 ^ 64 → words ((hi * 2 ^ 64 + lo) ∷ []) ≡ lo ∷ hi ∷ []
unfolding words
element-words lo hi h = rw (low hi 64 h, high hi 64 h)

pub adds-element
    : {out mid last : List ℕ} {n a b : ℕ} (x : Gf128) (u : Transcript)
    → x ≡ element u
    → x.lo < 2 ^ 64
    → Adds (x.lo ∷ []) n out a mid
    → Adds (x.hi ∷ []) a mid b last
    → Adds (words (value (element u) ∷ [])) n out b last
adds-element {out} {mid} {last} {n} {a} {b} x u e h f g v was k =
    let p : (v ++ (x.lo ∷ [])) ++ (x.hi ∷ []) ≡ v ++ words (value (element u) ∷ []) =
    append_assoc v (x.lo ∷ []) (x.hi ∷ [])
    ∙ ap (λ (l : List ℕ). v ++ l) (sym (element-words x.lo x.hi h) ∙ ap (λ (y : Gf128). words (value y ∷ [])) e)
    in
    subst (λ (l : List ℕ). Written l was b last) p (g (v ++ (x.lo ∷ [])) was (f v was k))

-- ---- parts of the proof

two-suc : (i : ℕ) → 2 * suc i ≡ suc (suc (2 * i))
two-suc i = omega arith

words_take : (k : ℕ) (s : List ℕ) → k ≤ length s / 2 → ((i : ℕ) → get_or s i 0 < 2 ^ 64) → words (take k (elements s)) ≡ take (2 * k) s
unfolding words elements
words_take zero s h fit = refl
words_take (suc k) [] h fit = absurd (omega arith)
words_take (suc k) (x ∷ []) h fit = absurd (omega arith)
words_take (suc k) (x ∷ (y ∷ s)) h fit =
    rw (two-suc k, low y 64 (fit 0), high y 64 (fit 0), words_take k s (omega arith) (λ i. fit (suc (suc i))))

-- at most as many as there are
drop-most : (l : List ℕ) (k j : ℕ) → j ≡ min k (length l) → drop j l ≡ drop k l
drop-most l k j e = go (leb k (length l)) refl
  where
    go : (b : Bool) → leb k (length l) ≡ b → drop j l ≡ drop k l
    go true t =
        let h : k ≤ length l = leb-true _ _ t in
        let f : j ≡ k = omega arith in
        rw f
    go false t =
        let h : length l < k = leb-false _ _ t in
        drop_of_length-le l {i = j} (omega arith) ∙ sym (drop_of_length-le l {i = k} (omega arith))

take-most : (l : List ℕ) (k j : ℕ) → j ≡ min k (length l) → take j l ≡ take k l
take-most l k j e = go (leb k (length l)) refl
  where
    go : (b : Bool) → leb k (length l) ≡ b → take j l ≡ take k l
    go true t =
        let h : k ≤ length l = leb-true _ _ t in
        let f : j ≡ k = omega arith in
        rw f
    go false t =
        let h : length l < k = leb-false _ _ t in
        take_all j l (omega arith) ∙ sym (take_all k l (omega arith))

place-most : (s : List ℕ) (place a : ℕ) → a ≡ 0 + min place (length s / 2 - 0) → drop a (elements s) ≡ drop place (elements s)
place-most s place a e =
    let n : length (elements s) ≡ length s / 2 = elements-length s in
    drop-most (elements s) place a (omega arith)

half-less : (n a : ℕ) → (n - 2 * a) / 2 ≡ n / 2 - a
half-less n a = omega arith

-- the words from a to b are those of the elements of the part
pub part-words
    : (s : List ℕ) (place k a b : ℕ)
    → ((i : ℕ) → get_or s i 0 < 2 ^ 64)
    → a ≡ 0 + min place (length s / 2 - 0)
    → b ≡ a + min k (length s / 2 - a)
    → take (2 * b - 2 * a) (drop (2 * a) s) ≡ words (take k (drop place (elements s)))
part-words s place k a b fit ea eb =
    let l = drop (2 * a) s in
    let j = min k (length s / 2 - a) in
    let n : length l ≡ length s - 2 * a = length-drop (2 * a) s in
    let h : j ≤ length l / 2 = rw (n, half-less (length s) a) (omega arith) in
    let m : length (elements l) ≡ length s / 2 - a = elements-length l ∙ ap (λ (i : ℕ). i / 2) n ∙ half-less (length s) a in
    let e : 2 * b - 2 * a ≡ 2 * j = omega arith in
    let w : words (take j (elements l)) ≡ take (2 * j) l =
    words_take j l h (λ i. rw (get_or-drop (2 * a) s i 0) (fit (2 * a + i))) in
    ap (λ (i : ℕ). take i l) e
    ∙ sym w
    ∙ ap words (take-most (elements l) k j (ap (min k) (sym m)))
    ∙ ap (λ (x : List ℕ). words (take k x)) (sym (elements-drop a s) ∙ place-most s place a ea)

-- what comes after it
pub part-next
    : (s : List ℕ) (place k a b : ℕ)
    → a ≡ 0 + min place (length s / 2 - 0)
    → b ≡ a + min k (length s / 2 - a)
    → drop b (elements s) ≡ drop k (drop place (elements s))
part-next s place k a b ea eb =
    let l = drop a (elements s) in
    let j = min k (length s / 2 - a) in
    let n : length (elements s) ≡ length s / 2 = elements-length s in
    let m : length l ≡ length (elements s) - a = length-drop a (elements s) in
    ap (λ (i : ℕ). drop i (elements s)) eb
    ∙ sym (drop-drop j a (elements s))
    ∙ drop-most l k j (omega arith)
    ∙ ap (drop k) (place-most s place a ea)

-- ---- events

-- nothing is left to play
pub over
    : {w was out : List ℕ} {whole : RunState} {es rest : List Event} {from to : ℕ} {s : Stage}
    → s.left ≡ 0
    → PartialRun w was whole es from s out
    → PartialRun w was whole rest to s out
over {w} {was} {out} {whole} {es} {rest} {from} {to} {s} e g =
    record {
      until = g.until;
      transcript = g.transcript;
      written = g.written;
      place = λ h. absurd (omega arith);
      all = rw e (rw e at g.all);
    }

take-one : (n : ℕ) (e : Event) (es : List Event) → 0 < n → take n (e ∷ es) ≡ e ∷ take (n - 1) es
take-one zero e es h = absurd (omega arith)
take-one (suc n) e es h =
    let k : suc n - 1 ≡ n = omega arith in
    rw k

pub drawn-one
    : {w was out last : List ℕ} {whole : RunState} {rest : List Event} {next : ℕ} {s r : Stage} (l : List ℕ) (u : Transcript)
    → 0 < s.left
    → u ≡ drawn s.transcript l
    → (r.transcript ≡ u)
    × (r.place ≡ s.place)
    × (r.left ≡ s.left - 1)
    × Adds (words (value (element u) ∷ [])) s.written out r.written last
    → PartialRun w was whole (draw l ∷ rest) next s out
    → PartialRun w was whole rest next r last
unfolding run_events
drawn-one {w} {was} {out} {last} {whole} {rest} {next} {s} {r} l u h e k g =
    let p = g.until in
    let v : u ≡ drawn p.transcript l = e ∙ ap (λ (x : Transcript). drawn x l) g.transcript in
    let x : words p.draws ++ words (value (element u) ∷ []) ≡ words (drawing l p).draws =
    sym (words_append p.draws (value (element u) ∷ [])) ∙ ap (λ (y : Transcript). words (p.draws ++ (value (element y) ∷ []))) v in
    record {
      until = drawing l p;
      transcript = k.0 ∙ v;
      written = subst (λ (y : List ℕ). Written y was r.written last) x (k.3 (words p.draws) was g.written);
      place = λ _. ap (λ (i : ℕ). drop i w) k.1 ∙ g.place h;
      all =
          ap (λ (i : ℕ). run_events w (take i rest) (drawing l p)) k.2
          ∙ sym (ap (λ (es : List Event). run_events w es p) (take-one s.left (draw l) rest h))
          ∙ g.all;
    }

pub absorbed-one
    : {w was out : List ℕ} {whole : RunState} {rest : List Event} {next : ℕ} {s r : Stage} (l v : List ℕ) (k : ℕ)
    → 0 < s.left
    → v ≡ words (take k (drop s.place w))
    → r.transcript ≡ absorbed s.transcript l (word_bytes v)
    → r.written ≡ s.written
    → r.left ≡ s.left - 1
    → drop r.place w ≡ drop k (drop s.place w)
    → PartialRun w was whole (absorb l next k ∷ rest) next s out
    → PartialRun w was whole rest (next + k) r out
unfolding run_events
absorbed-one {w} {was} {out} {whole} {rest} {next} {s} {r} l v k h ev et ew el ep g =
    let p = g.until in
    let q = absorbing l (part next k w) p in
    let x : v ≡ words (part next k w) = ev ∙ ap (λ (y : List ℕ). words (take k y)) (g.place h) in
    record {
      until = q;
      transcript = et ∙ ap₂ (λ (y : Transcript) (z : List ℕ). absorbed y l (word_bytes z)) g.transcript x;
      written = subst (λ (i : ℕ). Written (words p.draws) was i out) (sym ew) g.written;
      place = λ _. ep ∙ ap (drop k) (g.place h) ∙ drop-drop k next w;
      all =
          ap (λ (i : ℕ). run_events w (take i rest) q) el
          ∙ sym (ap (λ (es : List Event). run_events w es p) (take-one s.left (absorb l next k) rest h))
          ∙ g.all;
    }

-- ---- start and end

pub going-start
    : (w was : List ℕ) (es : List Event) (t : Transcript) (s : Stage)
    → s.transcript ≡ t
    → s.written ≡ 0
    → s.place ≡ 0
    → PartialRun w was (run_from w (take s.left es) t) es 0 s was
unfolding words
going-start w was es t s et ew ep =
    record {
      until = start t;
      transcript = et;
      written = subst (λ (i : ℕ). Written (words []) was i was) (sym ew) (written_none was);
      place = λ _. ap (λ (i : ℕ). drop i w) ep;
      all = refl;
    }

pub going-end
    : {w was out : List ℕ} {whole : RunState} {next : ℕ} {s : Stage}
    → PartialRun w was whole [] next s out
    → (s.transcript ≡ whole.transcript) × (out ≡ overlaid (words whole.draws) was)
unfolding run_events
going-end {w} {was} {out} {whole} {next} {s} g =
    let e : g.until ≡ whole = ap (λ (es : List Event). run_events w es g.until) (sym (take-nil {A = Event} s.left)) ∙ g.all in
    (g.transcript ∙ ap (λ (p : RunState). p.transcript) e, g.written.list ∙ ap (λ (p : RunState). overlaid (words p.draws) was) e)
