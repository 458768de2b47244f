use Rattle.std.proofs.Common.{◌≡◌, ◌*◌, ◌-◌, ◌%◌, ◌^◌, refl}
use Rattle.num.proofs.Choice.{one_of-case}
use Rattle.encoding.specs.Encoding.{tombstone_of}
use Rattle.encoding.proofs.Layout.tombstone.Goals as goal

pub returns : goal.returns
unfolding tombstone_of
returns c = one_of-case (λ n. (1 * 2 ^ (8 * n - 1)) % 2 ^ 64 ≡ 2 ^ (8 * n - 1)) _ _ c.args.self.allowed.value (refl, (refl, tt))
