-- Two linkers that link the same thing (demand 3, first half; promise P5).
use Rattle.std.specs.Prelude.{◌≡◌, true, List, ℕ, ◌≤◌}
use Rattle.locator.specs.declared.ValueLocator.{ValueLocator}
use Rattle.std.specs.Prelude.{Some, None, Ok}
use Rattle.lookup.specs.Value.{value_part}
use Rattle.locating.specs.Store.{LinkerStore, Store, Version, Holds}
use Rattle.locating.specs.Looks.{lookup, NoneWithin, Greatest, Answers}

-- both stores hold the same versions of a key within a limit
pub record SameVersions (a b : LinkerStore) (key : List ℕ) (limit : ℕ) : Type 0 where
  pub there : (v : Version) → Holds a v → v.key ≡ key → v.seq ≤ limit → Holds b v
  pub back : (v : Version) → Holds b v → v.key ≡ key → v.seq ≤ limit → Holds a v

-- two answers, each of its own store, are the same version: kind, sequence, length, value bytes, and the checksum where both store one
pub record Alike (a b : LinkerStore) (l m : ValueLocator) : Type 0 where
  pub kind : l.kind ≡ m.kind
  pub seq : l.seq ≡ m.seq
  pub len : l.len ≡ m.len
  pub value : value_part a.backing l.offset l.len ≡ value_part b.backing m.offset m.len
  pub checksum : a.opened.encoding.checksum ≡ true → b.opened.encoding.checksum ≡ true → l.checksum ≡ m.checksum

-- both linkers find none, where neither store holds a version of the key within the limit, or both find the one of greatest sequence,
-- and their answers are alike
pub data LinkSame (a b : LinkerStore) (key : List ℕ) (limit : ℕ) : Type 0 where
  none_alike : NoneWithin a key limit → NoneWithin b key limit → lookup a key limit ≡ Ok None → lookup b key limit ≡ Ok None → LinkSame a b key limit
  found_alike : (v : Version) (l m : ValueLocator) → Greatest a key limit v → Greatest b key limit v
      → lookup a key limit ≡ Ok (Some l) → Answers a v l → lookup b key limit ≡ Ok (Some m) → Answers b v m
      → Alike a b l m → LinkSame a b key limit

-- promise P5: any two accepted stores, each plain or packed, that hold the same versions of a key within a limit link the same thing
unfoldable pub TwoLinkers : Type 0
TwoLinkers = (a b : LinkerStore) → Store a → Store b → (key : List ℕ) (limit : ℕ) → SameVersions a b key limit → LinkSame a b key limit
