-- The questions: what all answered with yes give, and what the first that is not.
-- Assumes nothing.
use mathlib.Core.Path.{◌≡◌, sym, ◌∙◌}
use mathlib.Core.Bool.{Bool, true, false}
use mathlib.Core.List.{List}
use Prim.Native.Nat.{ℕ}
use Rattle.num.specs.Choice.{when◌then◌else◌}
use Rattle.std.specs.Prelude.{Result, Ok, Err}
use Rattle.refusal.specs.declared.Refusal.{Refusal}
use Rattle.refusal.proofs.Asked.{asked, refused_ok, same_ok}
use Rattle.num.proofs.Choice.{if_true, both_true, true_both}
use Rattle.area.specs.Area.{keys_in_of}
use Rattle.construction.specs.Construct.{construct_of}
use Rattle.builder.specs.declared.Builder.{Builder}
use Rattle.writer.specs.Write.{section_for, write_of}
use Rattle.writing.specs.Internal.{Asked, section_len_asked}

-- ---- all answered with yes

pub asked_all : {area : List ℕ} {b : Builder} {prefix size room64 room32 room : ℕ} → Asked area b prefix size room64 room32 room
    → write_of area b prefix room64 room32 room ≡ section_for area b prefix (construct_of (keys_in_of area b.totals.keys))
unfolding write_of
asked_all a =
    if_true _ _ _ a.prefix_short
    ∙ if_true _ _ _ a.some
    ∙ if_true _ _ _ (true_both _ _ a.sized a.read)
    ∙ if_true _ _ _ a.scratch
    ∙ if_true _ _ _ a.output

-- ---- the answer to them

pub passed_asked : {area : List ℕ} {b : Builder} {prefix room64 room32 room size : ℕ} → section_len_asked area b prefix room64 room32 room ≡ Ok size
    → Asked area b prefix size room64 room32 room
unfolding section_len_asked
passed_asked q =
    let q₀ = asked _ _ _ _ q in
    let q₁ = asked _ _ _ _ q₀.1 in
    let q₂ = asked _ _ _ _ q₁.1 in
    let q₃ = asked _ _ _ _ q₂.1 in
    let q₄ = asked _ _ _ _ q₃.1 in
    let p = both_true _ _ q₂.0 in
    record { prefix_short = q₀.0; some = q₁.0; sized = p.0; read = p.1; scratch = q₃.0; output = q₄.0; length_of = sym (same_ok q₄.1) }

-- the first that is answered with no answers for both
either_way : {A B : Type 0} (t : Bool) (x : Result A Refusal) (y : Result B Refusal) (r e : Refusal) → (x ≡ Err e → y ≡ Err e)
    → (when t then x else Err r) ≡ Err e → (when t then y else Err r) ≡ Err e
unfolding when◌then◌else◌
either_way true x y r e f q = f q
either_way false x y r e f q = cc

pub failed_asked : (area : List ℕ) (b : Builder) (prefix room64 room32 room : ℕ) (e : Refusal) → section_len_asked area b prefix room64 room32 room ≡ Err e
    → write_of area b prefix room64 room32 room ≡ Err e
unfolding section_len_asked write_of
failed_asked area b prefix room64 room32 room e =
    either_way _ _ _ _ e (either_way _ _ _ _ e (either_way _ _ _ _ e (either_way _ _ _ _ e (either_way _ _ _ _ e (λ q. refused_ok (sym q))))))
