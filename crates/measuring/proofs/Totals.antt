-- The totals with a version more: their bounds hold what they held, and the version.
-- Assumes nothing.
use mathlib.Core.Bool.{Bool}
use mathlib.Core.List.{List}
use Prim.Native.Nat.{ℕ, ◌+◌, min, max, ◌<◌, ◌≤◌}
use native.Mathlib.Omega.{arith}
use lib.Dec.{eqb}
use lib.ListN.{length}
use borrow.Author.Tests.{eqb-true}
use Rattle.num.specs.Choice.{when◌then◌else◌}
use Rattle.num.specs.Number.{Bytes, le_at}
use Rattle.num.proofs.Choice.{if_case}
use Rattle.num.proofs.Number.{le_at-lt}
use Rattle.encoding.specs.declared.Totals.{Totals}
use Rattle.area.specs.Area.{area_key, area_size, area_offset}
use Rattle.sstable.specs.Limits.{max_value_bytes}
use Rattle.builder.specs.declared.Builder.{Builder}
use Rattle.builder.specs.Record.{totals_after}
use Rattle.readback.specs.ReadBack.{counted_at}
use Rattle.measuring.specs.Internal.{VersionWithin, KeyWithin, Wider, Whole}

pub wider_same : (t : Totals) → Wider t t
wider_same t =
    record {
      versions = omega arith;
      least = λ h. omega arith;
      greatest = omega arith;
      key_len = omega arith;
      size = omega arith;
      most = omega arith;
      offset = omega arith;
    }

pub wider_then : (t u v : Totals) → Wider t u → Wider u v → Wider t v
wider_then t u v a b =
    record {
      versions = omega (arith, a.versions, b.versions);
      least = λ h. omega (arith, a.least h, b.least (omega (arith, a.versions)));
      greatest = omega (arith, a.greatest, b.greatest);
      key_len = omega (arith, a.key_len, b.key_len);
      size = omega (arith, a.size, b.size);
      most = omega (arith, a.most, b.most);
      offset = omega (arith, a.offset, b.offset);
    }

module _ (area : List ℕ) (t u : Totals) (w : Wider t u) where
  pub version_wider : (place : ℕ) → VersionWithin area t place → VersionWithin area u place
  version_wider place v =
      record {
        counted = omega (arith, v.counted, w.versions);
        least = omega (arith, v.least, w.least v.counted);
        greatest = omega (arith, v.greatest, w.greatest);
        size = omega (arith, v.size, w.size);
        size_limit = v.size_limit;
        offset = omega (arith, v.offset, w.offset);
      }

  pub key_wider : (head : ℕ) → KeyWithin area t head → KeyWithin area u head
  key_wider head k =
      record {
        key_len = omega (arith, k.key_len, w.key_len);
        key_limit = k.key_limit;
        some_version = k.some_version;
        most = omega (arith, k.most, w.most);
        versions = λ j l. version_wider _ (k.versions j l);
      }

-- ---- a version more

-- the least sequence with one more is not above it, and not above the least before it if there was one
least_this : (versions least seq : ℕ) → (when eqb versions 0 then seq else min least seq) ≤ seq
least_this versions least seq = if_case (λ (n : ℕ). n ≤ seq) (eqb versions 0) seq (min least seq) (λ _. omega arith) (λ _. omega arith)

least_before : (versions least seq : ℕ) → 0 < versions → (when eqb versions 0 then seq else min least seq) ≤ least
least_before versions least seq h =
    if_case (λ (n : ℕ). n ≤ least) (eqb versions 0) seq (min least seq) (λ e. let z = eqb-true versions 0 e in absurd (omega arith)) (λ _. omega arith)

longest_before : (new : Bool) (longest len : ℕ) → longest ≤ (when new then max longest len else longest)
longest_before new longest len = if_case (λ (n : ℕ). longest ≤ n) new (max longest len) longest (λ _. omega arith) (λ _. omega arith)

module _ (area : List ℕ) (r : Builder) (head place count : ℕ) (new : Bool) where
  pub after_wider : r.totals.last_value_offset ≤ area_offset area place → Wider r.totals (totals_after area r (counted_at area head place count new))
  unfolding totals_after counted_at
  after_wider h =
      record {
        versions = omega arith;
        least = least_before r.totals.versions r.totals.min_seq (le_at area place 8);
        greatest = omega arith;
        key_len = longest_before new r.totals.max_key_len (length (area_key area head));
        size = omega arith;
        most = omega arith;
        offset = h;
      }

  pub after_within : area_size area place ≤ max_value_bytes → VersionWithin area (totals_after area r (counted_at area head place count new)) place
  unfolding totals_after counted_at
  after_within h =
      record {
        counted = omega arith;
        least = least_this r.totals.versions r.totals.min_seq (le_at area place 8);
        greatest = omega arith;
        size = omega arith;
        size_limit = h;
        offset = omega arith;
      }

  pub after_whole : Bytes area → Whole r.totals → Whole (totals_after area r (counted_at area head place count new))
  unfolding totals_after counted_at area_offset
  after_whole bytes w =
      record { greatest = omega (arith, w.greatest, le_at-lt area bytes 8 place); offset = le_at-lt area bytes 8 (place + 13) }
