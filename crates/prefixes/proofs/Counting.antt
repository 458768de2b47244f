-- How many prefixes keys have.
-- Assumes nothing.
use mathlib.Core.Path.{◌≡◌, refl, sym, ap, ◌∙◌}
use mathlib.Core.Bool.{Bool, true, false, not}
use mathlib.Core.List.{List, [], ◌∷◌}
use Prim.Native.Nat.{ℕ, zero, suc, ◌+◌, ◌-◌, ◌≤◌}
use native.Mathlib.Nat.{not-suc-le-zero, add-zero}
use native.Mathlib.Omega.{arith}
use lib.ListN.{take}
use Rattle.num.specs.Choice.{when◌then◌else◌}
use Rattle.num.specs.Order.{equal_bytes}
use Rattle.area.specs.Area.{area_key, next_head, keys_from_of}
use Rattle.written.specs.Arena.{KeyGroup, group_key}
use Rattle.written.specs.Section.{group_prefix_new, group_prefixes}
use Rattle.writer.specs.Write.{group_at_of, groups_from}

-- how often the prefix changes from a key to the keys behind it
unfoldable pub changes : ℕ → List ℕ → List (List ℕ) → ℕ
changes prefix last [] = 0
changes prefix last (key ∷ keys) = (when not (equal_bytes (take prefix key) (take prefix last)) then 1 else 0) + changes prefix key keys

more : (t : Bool) (c r : ℕ) → c + ((when t then 1 else 0) + r) ≡ (when t then c + 1 else c) + r
unfolding when◌then◌else◌
more true c r = omega arith
more false c r = omega arith

-- the groups from one on, as keys
parts : List KeyGroup → ℕ → ℕ → List (List ℕ)
parts gs k zero = []
parts gs k (suc m) = group_key gs k ∷ parts gs (suc k) m

counts_from : (prefix : ℕ) (gs : List KeyGroup) (k m : ℕ) → group_prefixes prefix gs (suc k) + changes prefix (group_key gs k) (parts gs (suc k) m) ≡ group_prefixes prefix gs (m + suc k)
unfolding changes parts group_prefixes group_prefix_new
counts_from prefix gs k zero =
    let e : suc k ≡ 0 + suc k = omega arith in
    add-zero (group_prefixes prefix gs (suc k)) ∙ ap (group_prefixes prefix gs) e
counts_from prefix gs k (suc m) =
    let e : m + suc (suc k) ≡ suc m + suc k = omega arith in
    more (group_prefix_new prefix gs (suc k)) (group_prefixes prefix gs (suc k)) (changes prefix (group_key gs (suc k)) (parts gs (suc (suc k)) m))
    ∙ counts_from prefix gs (suc k) m ∙ ap (group_prefixes prefix gs) e

-- the groups behind the first ones are the keys behind them
parts_next : (g : KeyGroup) (gs : List KeyGroup) (k m : ℕ) → parts (g ∷ gs) (suc k) m ≡ parts gs k m
unfolding parts group_key
parts_next g gs k zero = refl
parts_next g gs k (suc m) = ap (λ (l : List (List ℕ)). group_key gs k ∷ l) (parts_next g gs (suc k) m)

parts_all : (m : ℕ) (area : List ℕ) (head : ℕ) → parts (groups_from m area head) 0 m ≡ keys_from_of m area head
unfolding parts group_key groups_from group_at_of keys_from_of
parts_all zero area head = refl
parts_all (suc m) area head =
    ap (λ (l : List (List ℕ)). area_key area head ∷ l) (parts_next (group_at_of area head) (groups_from m area (next_head area head)) 0 m ∙ parts_all m area (next_head area head))

-- the first key, and how often the prefix changes behind it
pub counts_all : (prefix n : ℕ) (area : List ℕ) (head : ℕ) → 1 ≤ n
    → 1 + changes prefix (area_key area head) (keys_from_of (n - 1) area (next_head area head)) ≡ group_prefixes prefix (groups_from n area head) n
unfolding group_prefixes group_prefix_new group_key groups_from group_at_of when◌then◌else◌
counts_all prefix zero area head h = absurd (not-suc-le-zero h)
counts_all prefix (suc n) area head h =
    let gs = groups_from (suc n) area head in
    let a : suc n - 1 ≡ n = omega arith in
    let b : n + 1 ≡ suc n = omega arith in
    let all : parts gs 1 n ≡ keys_from_of n area (next_head area head) = parts_next (group_at_of area head) (groups_from n area (next_head area head)) 0 n ∙ parts_all n area (next_head area head) in
    ap (λ (m : ℕ). 1 + changes prefix (area_key area head) (keys_from_of m area (next_head area head))) a
    ∙ ap (λ (l : List (List ℕ)). 1 + changes prefix (area_key area head) l) (sym all)
    ∙ counts_from prefix gs 0 n ∙ ap (group_prefixes prefix gs) b

-- one more key
pub change_small : (t : Bool) (change : ℕ) → change ≡ (when t then 1 else 0) → change ≤ 1
unfolding when◌then◌else◌
change_small true change e = omega arith
change_small false change e = omega arith

pub counting_turn : (prefix prefixes : ℕ) (last : List ℕ) {total : ℕ} {key : List ℕ} {old new : List (List ℕ)} → prefixes + changes prefix last old ≡ total → old ≡ key ∷ new
    → (change : ℕ) → change ≡ (when not (equal_bytes (take prefix key) (take prefix last)) then 1 else 0) → prefixes + change + changes prefix key new ≡ total
unfolding changes
counting_turn prefix prefixes last counts e change f =
    let c = ap (λ (keys : List (List ℕ)). prefixes + changes prefix last keys) (sym e) ∙ counts in
    omega (arith, c, f)

pub counting_done : (prefix prefixes : ℕ) (last : List ℕ) {total : ℕ} {old : List (List ℕ)} → prefixes + changes prefix last old ≡ total → old ≡ [] → prefixes ≡ total
unfolding changes
counting_done prefix prefixes last counts e =
    let c = ap (λ (keys : List (List ℕ)). prefixes + changes prefix last keys) (sym e) ∙ counts in
    omega (arith, c)
