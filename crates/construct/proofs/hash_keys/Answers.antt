use Rattle.std.proofs.Common.{ℕ, List, sym, ap, ap₂, ◌∙◌, arith}
use Rattle.point.specs.Hash.{hash_value}
use Rattle.area.specs.Area.{area_key}
use Rattle.construct.proofs.Hashing.{keys_length, hashing_turn, hashing_end, hashing_done}
use Rattle.construct.proofs.hash_keys.Goals as goal

pub loop-hash-preserved : goal.loop-hash-preserved
loop-hash-preserved c =
    let l = c.loop-hash in
    record {
      turns = omega (arith, l.invariant.turns, c.rest-left.ensures.count);
      same = hashing_turn _ _ c.args.seed _ _ _ _ (omega (arith, l.invariant.turns)) l.invariant.same
          _ (c.hash.ensures ∙ ap (λ (key : List ℕ). hash_value key c.args.seed) (c.bytes.ensures ∙ ap₂ area_key c.first.ensures.0 c.first.ensures.1))
          _ c.rest-left.ensures.count _ c.rest-left.ensures.area _ c.rest-left.ensures.head;
    }

pub returns : goal.returns
returns c =
    let l = c.loop-hash in
    hashing_done _ _ _ _ (c.requires ∙ sym (keys_length _ _ _))
    (hashing_end l.left.area.now l.left.head c.args.seed l.hashes l.hash-index l.left.count (omega (arith, l.invariant.turns)) ∙ l.invariant.same)
