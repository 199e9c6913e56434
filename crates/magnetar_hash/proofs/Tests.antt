-- A test that is asked for: what it says where it is met, and where it is not.
-- Assumes nothing.
use Rattle.std.specs.Prelude.{◌≡◌, Bool, true, false, if◌then◌else◌, Result, Ok, Err}
use Rattle.std.specs.Result.{IsErrAnd}
use Rattle.std.proofs.Common.{refl}
use Rattle.std.proofs.lemmas.Result.{err_from_is_err_and}
use Rattle.magnetar_field.specs.declared.refusal.Refusal.{Refusal}

pub met
    : {A : Type 0} (b : Bool) (v a : A) (q : Refusal) (r : Result A Refusal)
    → r ≡ (if b then Ok v else Err q)
    → r ≡ Ok a
    → (b ≡ true) × (a ≡ v)
met true v a q r e h = (refl, cc)
met false v a q r e h = (cc, cc)

pub unmet
    : {A B : Type 0} (b : Bool) (v : A) (q x : Refusal) (r : Result A Refusal) (s : Result B Refusal)
    → r ≡ (if b then Ok v else Err q)
    → r ≡ Err x
    → IsErrAnd s (λ y. y ≡ x)
    → (b ≡ false) × (s ≡ Err q)
unmet true v q x r s e h i = (cc, cc)
unmet false v q x r s e h i =
    let p = err_from_is_err_and s i in
    (refl, cc)
