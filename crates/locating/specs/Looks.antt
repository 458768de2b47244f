-- What a lookup gives, in plain terms (promise P3).
use Rattle.std.specs.Prelude.{◌≡◌, ◌↔◌, true, false, List, ℕ, ◌≤◌, length}
use Rattle.crc32.specs.V42.{crc_of}
use Rattle.refusal.specs.declared.Refusal.{Refusal}
use Rattle.locator.specs.declared.ValueLocator.{ValueLocator}
use Rattle.locator.specs.Locator.{Located}
use Rattle.std.specs.Prelude.{Some, None, Ok, Err}
use Rattle.lookup.specs.Lookup.{locate_of}
use Rattle.lookup.specs.Value.{value_part, value_number}
use Rattle.locating.specs.Store.{LinkerStore, Store, Version, Within}

-- the lookup of a key under a limit in a store
unfoldable pub lookup : LinkerStore → List ℕ → ℕ → Located
lookup t key limit = locate_of t.bytes t.opened key limit

-- no version of the key is within the limit
unfoldable pub NoneWithin : LinkerStore → List ℕ → ℕ → Type 0
NoneWithin t key limit = (v : Version) → Within t key limit v → ⊥

-- the version of greatest sequence among those of the key within the limit
pub record Greatest (t : LinkerStore) (key : List ℕ) (limit : ℕ) (v : Version) : Type 0 where
  pub within : Within t key limit v
  pub greatest : (w : Version) → Within t key limit w → w.seq ≤ v.seq

-- a lookup's answer is this version
pub record Answers (t : LinkerStore) (v : Version) (l : ValueLocator) : Type 0 where
  pub kind : l.kind ≡ v.kind
  pub seq : l.seq ≡ v.seq
  pub len : l.len ≡ length v.value
  -- 26 does not occur, and the value entry gives the value's bytes
  pub inside : value_number t.backing l.offset l.len ≡ 0
  pub value : value_part t.backing l.offset l.len ≡ v.value
  pub checksum : t.opened.encoding.checksum ≡ true → l.checksum ≡ crc_of v.value
  pub no_checksum : t.opened.encoding.checksum ≡ false → l.checksum ≡ 0

-- what a lookup of a key under a limit promises
pub record Looks (t : LinkerStore) (key : List ℕ) (limit : ℕ) : Type 0 where
  -- none exactly if no version of the key is within the limit
  pub none : (lookup t key limit ≡ Ok None) ↔ NoneWithin t key limit
  -- what it finds is the version of greatest sequence
  pub found : (l : ValueLocator) → lookup t key limit ≡ Ok (Some l) → (v : Version) × Greatest t key limit v × Answers t v l
  -- and that version, where there is one, is found
  pub finds : (v : Version) → Greatest t key limit v → (l : ValueLocator) × (lookup t key limit ≡ Ok (Some l)) × Answers t v l
  -- 24 and 25 do not occur
  pub never : (n : Refusal) → lookup t key limit ≡ Err n → ⊥

-- promise P3: every lookup in an accepted store, plain or packed, promises this
unfoldable pub LooksExactly : Type 0
LooksExactly = (t : LinkerStore) → Store t → (key : List ℕ) (limit : ℕ) → Looks t key limit
