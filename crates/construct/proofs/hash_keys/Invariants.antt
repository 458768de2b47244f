use Rattle.std.proofs.Common.{◌≡◌, ◌+◌, length}
use lib.Seq.{sets}
use Rattle.construction.specs.Construct.{hashes_of}
use Rattle.area.specs.Walk.{keys_of}
use Rattle.construct.proofs.hash_keys.Given as goal

-- the keys that are left, hashed behind those before, give all
abbrev pub invariant-loop-hash : goal.invariant-loop-hash
invariant-loop-hash l =
    record {
      turns : l.hash-index + l.left.count ≡ length l.fn.hashes;
      same : sets l.hashes l.hash-index (hashes_of (keys_of l.left) l.seed) ≡ sets l.fn.hashes 0 (hashes_of (keys_of l.keys) l.seed);
    }
