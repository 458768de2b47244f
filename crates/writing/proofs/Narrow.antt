-- The arena of an area that reads back is shorter than 2^32 bytes: each version takes 25 bytes of the used area, and at most 24 of the arena.
-- Assumes nothing.
use mathlib.Core.Path.{◌≡◌, ap}
use mathlib.Core.Bool.{true}
use mathlib.Core.List.{List}
use Prim.Native.Nat.{ℕ, zero, suc, ◌*◌, ◌^◌, ◌<◌, ◌≤◌}
use native.Mathlib.Nat.{mul-le-mul}
use native.Mathlib.Omega.{arith}
use Rattle.num.proofs.Choice.{both_true}
use Rattle.encoding.specs.declared.Totals.{Totals}
use Rattle.encoding.specs.declared.Encoding.{Encoding}
use Rattle.encoding.specs.Encoding.{Widths, key_header_len_of, version_len_of, encoding_of, arena_len_of}
use Rattle.encoding.proofs.Lengths.{key_header_le, version_le}
use Rattle.area.specs.Area.{first_version_at, next_head}
use Rattle.builder.specs.declared.Builder.{Builder}
use Rattle.builder.specs.Record.{sizeable}
use Rattle.builder.proofs.Standing.{small}
use Rattle.readback.specs.Places.{head_at_of}
use Rattle.readback.specs.ReadBack.{reads_back_of}
use Rattle.readback.proofs.Reading.{read_back}
use Rattle.written.specs.Internal.{versions_before}
use Rattle.writer.specs.Write.{groups_in}
use Rattle.measuring.specs.Measured.{AreaMeasured}
use Rattle.measuring.proofs.Groups.{many_in}

-- the versions of the first keys lie before the next key's head
versions_before_lem : (area : List ℕ) (n i : ℕ) → i ≤ n → 25 * versions_before (groups_in area n) i ≤ head_at_of area i
unfolding versions_before head_at_of next_head first_version_at
versions_before_lem area n zero h = omega arith
versions_before_lem area n (suc i) h = omega (arith, versions_before_lem area n i (omega arith), many_in area n i h)

arena_below_lem : (e : Encoding) (t : Totals) → Widths e → t.keys ≤ 2 ^ 20 → t.suffix_bytes ≤ 2 ^ 30 → 25 * t.versions ≤ 2 ^ 30 → arena_len_of e t < 2 ^ 32
unfolding arena_len_of
arena_below_lem e t w k s v =
    let a : t.keys * key_header_len_of e ≤ 2 ^ 20 * 20 = mul-le-mul k (key_header_le e w) in
    let m : t.versions ≤ 2 ^ 26 = omega arith in
    let b : t.versions * version_len_of e ≤ 2 ^ 26 * 24 = mul-le-mul m (version_le e w) in
    omega arith

pub arena_narrow : (area : List ℕ) (b : Builder) → sizeable b ≡ true → reads_back_of area b ≡ true → AreaMeasured area b.totals
    → arena_len_of (encoding_of b.totals) b.totals < 2 ^ 32
unfolding sizeable
arena_narrow area b s r m =
    let t = b.totals in
    let used = (small b (both_true _ _ s).0).used in
    let end = (read_back area b r).keys_stand.to_the_end in
    let k = ap (versions_before (groups_in area t.keys)) m.count in
    arena_below_lem (encoding_of t) t m.fits.widths m.few m.measured.bounded.suffix_bytes
    (omega (arith, versions_before_lem area t.keys t.keys (omega arith), m.measured.versions))
