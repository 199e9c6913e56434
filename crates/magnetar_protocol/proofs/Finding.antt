-- The checks one after the other: phase by phase, and what they find in all.
-- Assumes nothing.
use mathlib.Core.Path.{◌≡◌, refl, sym, ap, ◌∙◌}
use mathlib.Core.Bool.{Bool, true, false, cond}
use mathlib.Core.List.{List, [], ◌∷◌, ◌++◌}
use Prim.Native.Nat.{ℕ, ◌<◌}
use native.Mathlib.Omega.{arith}
use borrow.Author.Tests.{ne_eqb}
use Rattle.std.specs.Prelude.{Result}
use Rattle.std.specs.Result.{IsErrAnd}
use Rattle.std.proofs.lemmas.Result.{err_from_is_err_and}
use Rattle.magnetar_field.specs.declared.refusal.Refusal.{Refusal}
use Rattle.magnetar_field.specs.Number.{number}
use Rattle.magnetar_layout.proofs.Refused.{number-positive}
use Rattle.magnetar_protocol.specs.declared.first.Failure.{Failure}
use Rattle.magnetar_protocol.specs.Checks.{Check, first_failure, first_stop}
use Rattle.magnetar_protocol.proofs.Phases.{Numbered}
use Rattle.magnetar_protocol.specs.Found.{Found, failed, found, first_found, check, nothing, next_found, after}

pub next-kept : (f : Found) (c : Check) → (f.code ≡ 0 → ⊥) → next_found f c ≡ f
unfolding next_found
next-kept f c h = rw (ne_eqb f.code 0 h)

pub next-pass : (f : Found) (n e : ℕ) (b : Bool) → f.code ≡ 0 → b ≡ true → next_found f (check n b e) ≡ f
unfolding next_found
next-pass f n e b h p = rw (h, p)

pub next-fail : (f : Found) (n e : ℕ) (b : Bool) → f.code ≡ 0 → b ≡ false → next_found f (check n b e) ≡ record { code = n; events = e }
unfolding next_found
next-fail f n e b h p = rw (h, p)

pub after-append : (f : Found) (cs ds : List Check) → after f (cs ++ ds) ≡ after (after f cs) ds
unfolding after
after-append f [] ds = refl
after-append f (c ∷ cs) ds = after-append (next_found f c) cs ds

after_kept : (f : Found) (cs : List Check) → (f.code ≡ 0 → ⊥) → after f cs ≡ f
unfolding after
after_kept f [] h = refl
after_kept f (c ∷ cs) h = ap (λ (g : Found). after g cs) (next-kept f c h) ∙ after_kept f cs h

pub after_none : (f : Found) → after f [] ≡ f
unfolding after
after_none f = refl

pub after-cons : (f : Found) (c : Check) (cs : List Check) → after f (c ∷ cs) ≡ after (next_found f c) cs
unfolding after
after-cons f c cs = refl

pub after_two : (f : Found) (c e : Check) → after f (c ∷ e ∷ []) ≡ next_found (next_found f c) e
unfolding after
after_two f c e = refl

-- from the start, they find what the definition says
pub finds : (cs : List Check) → Numbered cs → after nothing cs ≡ first_found cs
unfolding first_found first_failure first_stop
finds [] h = after_none nothing
finds (c ∷ cs) h = after-cons nothing c cs ∙ go c.passes c.refusal c.events h.0 (finds cs h.1)
  where
    go : (b : Bool) (n e : ℕ) → 0 < n → after nothing cs ≡ record { code = first_failure cs; events = first_stop cs 0 }
        → after (next_found nothing (check n b e)) cs ≡ record { code = cond b (first_failure cs) n; events = cond b (first_stop cs 0) e }
    go true n e p k = ap (λ (g : Found). after g cs) (next-pass nothing n e true refl refl) ∙ k
    go false n e p k =
        ap (λ (g : Found). after g cs) (next-fail nothing n e false refl refl) ∙ after_kept (record { code = n; events = e }) cs (λ z. omega arith)

-- ---- answers of the code
-- what a `?` hands out, where it met a check's failure, and where it met a refusal
pub handed-found : {A : Type 0} (r : Result A Failure) (e : Failure) → IsErrAnd r (λ y. y ≡ e) → found r ≡ failed e
handed-found r e h = let p = err_from_is_err_and r h in rw (p.1, p.2)

pub handed-refusal : {A : Type 0} (r : Result A Failure) (e : Refusal) → IsErrAnd r (λ y. y ≡ record { check = e; events = 0 })
    → found r ≡ record { code = number e; events = 0 }
handed-refusal r e h = let p = err_from_is_err_and r h in rw (p.1, p.2)

-- a failure stays
pub failure-kept : (e : Failure) (cs : List Check) → after (failed e) cs ≡ failed e
failure-kept e cs = let p = number-positive e.check in after_kept (failed e) cs (λ (z : number e.check ≡ 0). omega arith)

-- where the front has found one, so have they all
pub found-front : (cs ds : List Check) (e : Failure) → failed e ≡ after nothing cs → failed e ≡ after nothing (cs ++ ds)
found-front cs ds e h = sym (after-append nothing cs ds ∙ rw (← h) (failure-kept e ds))

-- where it has found none, the rest decides
pub found-late : (cs ds : List Check) {f : Found} → nothing ≡ after nothing cs → f ≡ after nothing ds → f ≡ after nothing (cs ++ ds)
found-late cs ds h e = e ∙ sym (after-append nothing cs ds ∙ rw (← h))

-- the same of two checks
pub both-front : (c d : Check) (e : Failure) → failed e ≡ next_found nothing c → failed e ≡ next_found (next_found nothing c) d
both-front c d e h =
    let p = number-positive e.check in
    rw (← h) (sym (next-kept (failed e) d (λ (z : number e.check ≡ 0). omega arith)))

pub both-late : (c d : Check) {f : Found} → nothing ≡ next_found nothing c → f ≡ next_found nothing d → f ≡ next_found (next_found nothing c) d
both-late c d h e = e ∙ rw (← h)
