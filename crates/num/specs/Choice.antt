-- Choices by tests, as the definitions of all crates write them.
use Rattle.std.specs.Prelude.{ℕ, zero, suc, Bool, true, false, List, [], ◌∷◌, ◌==◌}

infix 5 when◌then◌else◌
unfoldable pub when◌then◌else◌ : {A : Type 0} → Bool → A → A → A
when◌then◌else◌ true a b = a
when◌then◌else◌ false a b = b

-- a question: a test, the answer that its "no" gives, and what follows a "yes"
infix 5 ask◌otherwise◌then◌
abbrev pub ask◌otherwise◌then◌ : {A : Type 0} → Bool → A → A → A
ask◌otherwise◌then◌ test answer next = when test then next else answer

unfoldable pub both : Bool → Bool → Bool
both true b = b
both false b = false

unfoldable pub either : Bool → Bool → Bool
either true b = true
either false b = b

-- is the number one of these?
unfoldable pub one_of : List ℕ → ℕ → Bool
one_of [] n = false
one_of (x ∷ xs) n = either (n == x) (one_of xs n)

-- does the test hold of every number below n?
unfoldable pub each_below : ℕ → (ℕ → Bool) → Bool
each_below zero test = true
each_below (suc k) test = both (each_below k test) (test k)

-- for proofs alone: `unfolding choice_defs` opens the definitions of this file
unfoldable pub choice_defs : ℕ
unfolding when◌then◌else◌ both either one_of each_below
choice_defs = 0
