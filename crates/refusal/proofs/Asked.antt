-- What an answer says of the questions before it.
use Rattle.std.proofs.Common.{◌≡◌, ℕ, Bool, true, false, refl, Result, Ok, Err, arith}
use Rattle.num.specs.Choice.{when◌then◌else◌}
use Rattle.refusal.specs.Refusal.{ask_of}
use Rattle.refusal.specs.declared.Refusal.{Refusal}

-- no refusal is an acceptance
pub refused_ok : {A B : Type 0} {e : Refusal} {x : A} → ◌≡◌ {A = Result A Refusal} (Err e) (Ok x) → B
refused_ok e = absurd (let z : ◌≡◌ {A = ℕ} 0 1 = cc in omega arith)

-- an acceptance is of one value
pub same_ok : {A : Type 0} {x y : A} → ◌≡◌ {A = Result A Refusal} (Ok x) (Ok y) → x ≡ y
same_ok e = cc

-- what is accepted behind a question was answered with yes
pub asked : {A : Type 0} (b : Bool) (r : Result A Refusal) (e : Refusal) (x : A)
    → (when b then r else Err e) ≡ Ok x → (b ≡ true) × (r ≡ Ok x)
unfolding when◌then◌else◌
asked true r e x h = (refl, h)
asked false r e x h = refused_ok h

-- behind a yes it goes on
pub goes_on : {A : Type 0} (b : Bool) (r q : Result A Refusal) (e : Refusal) → b ≡ true → r ≡ q → (when b then r else Err e) ≡ q
unfolding when◌then◌else◌
goes_on b r q e h f = rw (h, f)

pub ok_refused : {A B : Type 0} {e : Refusal} {x : A} → ◌≡◌ {A = Result A Refusal} (Ok x) (Err e) → B
ok_refused e = absurd (let z : ◌≡◌ {A = ℕ} 0 1 = cc in omega arith)

-- a refusal is of one question
pub same_refusal : {A : Type 0} {e f : Refusal} → ◌≡◌ {A = Result A Refusal} (Err e) (Err f) → e ≡ f
same_refusal h = cc

-- a question that refused nothing was answered with yes
pub asked_yes : (b : Bool) (e : Refusal) → Ok (tt {0}) ≡ ask_of b e → b ≡ true
unfolding when◌then◌else◌
asked_yes true e h = refl
asked_yes false e h = ok_refused h
