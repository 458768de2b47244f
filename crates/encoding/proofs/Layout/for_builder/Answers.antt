use mathlib.Core.Path.{refl, subst⁻¹}
use Rattle.num.specs.Choice.{either, one_of}
use Rattle.encoding.specs.Encoding.{Widths, encoding_of}
use Rattle.encoding.proofs.Widths.{encoding_with-widths, encoding_of-widths}
use Rattle.encoding.proofs.Layout.for_builder.Goals as goal

pub new-short-requires : goal.new-short-requires
unfolding one_of either
new-short-requires c = subst⁻¹ Widths c.with_address.ensures (encoding_with-widths 4 c.args.t refl c.requires)

pub new-requires : goal.new-requires
unfolding encoding_of
new-requires c = subst⁻¹ Widths (cc) (encoding_of-widths c.args.t c.requires)
