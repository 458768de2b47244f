use native.Mathlib.Omega.{arith}
use Rattle.words.proofs.Masks.{width_some, width_le, mask_shifted}
use Rattle.words.proofs.mask.Goals as goal

pub overflow_mul-result : goal.overflow_mul-result
overflow_mul-result c = let w = width_le _ c.requires in omega arith

pub overflow_sub-result : goal.overflow_sub-result
overflow_sub-result c = let w = width_le _ c.requires in omega arith

pub overflow_shr-result : goal.overflow_shr-result
overflow_shr-result c =
    let w = width_some _ c.requires in
    omega arith

pub returns : goal.returns
returns c = mask_shifted _ c.requires
