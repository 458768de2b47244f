-- What writing answers.
use Rattle.std.specs.Prelude.{List, ℕ, length, Result, Ok, Err}
use Rattle.refusal.specs.declared.Refusal.{Refusal}

-- how many bytes the section has, or the refusal
unfoldable pub wrote_read : Result (List ℕ) Refusal → Result ℕ Refusal
wrote_read (Ok s) = Ok (length s)
wrote_read (Err e) = Err e
