-- An entry that is taken: its room, its bytes in the area, its record.
-- Assumes nothing.
use mathlib.Core.Path.{◌≡◌, refl, sym, ap, ◌∙◌}
use mathlib.Core.Bool.{true, false}
use mathlib.Core.List.{List, ◌++◌}
use Prim.Native.Nat.{ℕ, ◌+◌, ◌≤◌}
use native.Mathlib.Omega.{arith}
use lib.ListN.{length, length-append}
use lib.Seq.{sets}
use Rattle.num.specs.Choice.{when◌then◌else◌}
use Rattle.num.specs.Number.{le_bytes}
use Rattle.num.proofs.Choice.{if_true, if_false}
use Rattle.num.proofs.Number.{length_le_bytes}
use Rattle.builder.specs.declared.Builder.{Builder}
use Rattle.area.specs.Area.{head_len, area_version_len, area_versions}
use Rattle.builder.specs.Offer.{Offer, head_bytes, version_bytes, entry_len}
use Rattle.builder.specs.Record.{builder_after}
use Rattle.std.specs.Prelude.{Result}
use Rattle.refusal.specs.declared.Refusal.{Refusal}
use Rattle.builder.specs.Add.{versions_with, area_after_of, counted_of, add_of, refusal_in, RefusedWith}
use Rattle.builder.specs.Internal.{Passed}
use Rattle.builder.proofs.Standing.{Keyed, stood, follows_key}
use Rattle.num.proofs.Stores.{behind}

pub length_head : (key : List ℕ) → length (head_bytes key) ≡ head_len + length key
unfolding head_bytes
length_head key =
    omega (arith, length-append (le_bytes 4 (length key)) (le_bytes 4 1 ++ key), length-append (le_bytes 4 1) key, length_le_bytes 4 (length key), length_le_bytes 4 1)

module _ {area : List ℕ} {b : Builder} {e : Offer} (p : Passed area b e) where
  -- the room of an entry with a new key, and of another
  pub new_room : e.new_key ≡ true → b.used + area_version_len + head_len + length e.key ≤ length area
  unfolding entry_len
  new_room t = omega (arith, p.room, if_true e.new_key (head_len + length e.key) 0 t)

  pub old_room : e.new_key ≡ false → b.used + area_version_len ≤ length area
  unfolding entry_len
  old_room f = omega (arith, p.room)

  -- an entry that is not new belongs to a key in the used area
  pub old_keyed : e.new_key ≡ false → Keyed area b
  old_keyed f = (stood area b p.stands).keyed (follows_key e.new_key b.totals.keys p.follows f)

  -- it counts the versions of that key, with this one
  pub old_count : e.new_key ≡ false → (when e.new_key then 1 else area_versions area b.last_key + 1) ≡ area_versions area b.last_key + 1
  old_count f = if_false e.new_key 1 (area_versions area b.last_key + 1) f

module _ (area : List ℕ) (b : Builder) (e : Offer) (x₁ x₂ : List ℕ) where
  pub new_area : e.new_key ≡ true → x₁ ≡ sets area b.used (head_bytes e.key) → x₂ ≡ sets x₁ (b.used + head_len + length e.key) (version_bytes e)
      → x₂ ≡ area_after_of area b e
  unfolding area_after_of
  new_area t f g =
      behind area x₁ x₂ (head_bytes e.key) (version_bytes e) b.used (b.used + head_len + length e.key) (omega (arith, length_head e.key)) f g
      ∙ sym (if_true _ _ _ t)

  pub old_area : (n : ℕ) → e.new_key ≡ false → n ≡ versions_with area b e → x₁ ≡ sets area (b.last_key + 4) (le_bytes 4 n) → x₂ ≡ sets x₁ b.used (version_bytes e)
      → x₂ ≡ area_after_of area b e
  unfolding area_after_of
  old_area n t c f g =
      g
      ∙ ap (λ (x : List ℕ). sets x b.used (version_bytes e)) (f ∙ ap (λ (k : ℕ). sets area (b.last_key + 4) (le_bytes 4 k)) c)
      ∙ sym (if_false _ _ _ t)

-- the record of an entry whose versions were counted
pub counted_record : (area : List ℕ) (b : Builder) (e : Offer) (n : ℕ) (r : Builder) → n ≡ versions_with area b e
    → r ≡ builder_after area b (record { key = e.key; count = n; size = length e.value; seq = e.seq; offset = e.offset; new_key = e.new_key })
    → r ≡ builder_after area b (counted_of area b e)
unfolding counted_of
counted_record area b e n r c f =
    f ∙ ap (λ (k : ℕ). builder_after area b (record { key = e.key; count = k; size = length e.value; seq = e.seq; offset = e.offset; new_key = e.new_key })) c

-- what the questions answer of every offer of these lengths, they answer of this one
pub asked_here : (area : List ℕ) (b : Builder) (e : Offer) (r : Result (Unit {0}) Refusal) → RefusedWith area b (length e.key) (length e.value) e.new_key e.offset r
    → r ≡ refusal_in (add_of area b e)
asked_here area b e r h = h.each e (record { key_len = refl; value_len = refl; new_key = refl; offset = refl })
