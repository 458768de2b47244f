use Rattle.std.proofs.Common.{◌≤◌, ◌∙◌, refl, arith}
use Rattle.construct.specs.Built.{built_defs}
use Rattle.construct.proofs.Hashing.{keys_length}
use Rattle.construct.proofs.Seeds.{hashes_first, hashes_size, hashes_room, seed_answer, trying_start, trying_none, trying_found, trying_next, seed_is}
use Rattle.construct.proofs.construct.Goals as goal

pub loop-k-init : goal.loop-k-init
loop-k-init c = record { hashes_length = refl; scratch_length = refl; trying = trying_start _ }

pub with_seed-requires : goal.with_seed-requires
with_seed-requires c =
    let l = c.loop-k.invariant in
    hashes_room _ _ _ _ _ (keys_length _ _ _) c.hash_keys.ensures (omega (arith, l.hashes_length)) _ c.requires.le_count.0 c.requires.le_count.1 (omega (arith, l.scratch_length))

pub returns-then-with_seed-clause-scratch_after : goal.returns-then-with_seed-clause-scratch_after
unfolding built_defs
returns-then-with_seed-clause-scratch_after c =
    let l = c.loop-k.invariant in
    let low : c.loop-k.k ≤ 8 = omega arith in
    let e = seed_answer _ _ _ _ _ (keys_length _ _ _) c.hash_keys.ensures (omega (arith, l.hashes_length)) _ _ c.with_seed.ensures.scratch_after in
    trying_found l.trying low _ (seed_is c.loop-k.k _ _ c.mix-seed.ensures refl) _ _ e c.if-with_seed.true

pub returns-then-with_seed-clause-hashed : goal.returns-then-with_seed-clause-hashed
unfolding built_defs
returns-then-with_seed-clause-hashed c = hashes_first _ _ _ _ _ (keys_length _ _ _) c.hash_keys.ensures (omega (arith, c.loop-k.invariant.hashes_length))

pub loop-k-preserved : goal.loop-k-preserved
loop-k-preserved c =
    let l = c.loop-k.invariant in
    let e = seed_answer _ _ _ _ _ (keys_length _ _ _) c.hash_keys.ensures (omega (arith, l.hashes_length)) _ _ c.with_seed.ensures.scratch_after in
    record {
      hashes_length = hashes_size _ _ _ _ _ (keys_length _ _ _) c.hash_keys.ensures (omega (arith, l.hashes_length)) ∙ l.hashes_length;
      scratch_length = c.with_seed.ensures.scratch_len_unchanged ∙ l.scratch_length;
      trying = trying_next l.trying (omega arith) _ (seed_is c.loop-k.k _ _ c.mix-seed.ensures refl) _ _ e c.if-with_seed.false;
    }

pub returns-clause-scratch_after : goal.returns-clause-scratch_after
unfolding built_defs
returns-clause-scratch_after c = trying_none c.loop-k.invariant.trying (omega arith)

pub returns-clause-hashed : goal.returns-clause-hashed
unfolding built_defs
returns-clause-hashed c = tt
