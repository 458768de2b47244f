use native.Mathlib.Omega.{arith}
use Rattle.written.specs.Arena.{key_header_fields}
use Rattle.keyversions.proofs.Fields.{fields_next, fields_one}
use Rattle.keyrecords.proofs.put_key_header.Goals as goal

pub returns : goal.returns
unfolding key_header_fields
returns c =
    fields_next _ _ _ _ _ _ _ _ (omega arith) c.put_uint.ensures
    (fields_next _ _ _ _ _ _ _ _ (omega arith) c.put_uint-2.ensures
    (fields_next _ _ _ _ _ _ _ _ (omega arith) c.put_uint-3.ensures (fields_one _ _ _ _ _ c.put_uint-4.ensures)))
