use Rattle.std.proofs.Common.{◌≡◌, sym, ◌∙◌, length, rules}
use Rattle.listing.specs.Listing.{key_scratch}
use Rattle.listing.proofs.Texts.{accepted_text, refused_text, some_key}
use Rattle.listing.proofs.text.opened.Goals as goal

pub returns-in-Ok : goal.returns-in-Ok
unfolding key_scratch
returns-in-Ok c =
    let a = c.args in
    let long : length a.keys.now ≡ key_scratch = search rules in
    let e = sym c.open.ensures.value ∙ c.in-Ok.is in record { keys_after = accepted_text a.section.now a.«data».now a.blocks.now _ (length a.keys.now) long _ e; sound = some_key a.section.now a.«data».now a.blocks.now (length a.keys.now) _ e }

pub returns-in-Err : goal.returns-in-Err
unfolding key_scratch
returns-in-Err c =
    let a = c.args in
    let long : length a.keys.now ≡ key_scratch = search rules in
    let e = sym c.open.ensures.value ∙ c.in-Err.is in
    record { keys_after = refused_text a.section.now a.«data».now a.blocks.now _ (length a.keys.now) long _ e; sound = tt }
