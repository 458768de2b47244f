-- The pairs of keys in order are one list.
-- Assumes nothing.
use mathlib.Core.Path.{◌≡◌, refl, sym, ap, ap₂, ◌∙◌}
use mathlib.Core.List.Memᴰ
use mathlib.Core.List.{List, [], ◌∷◌, ◌++◌, Memᴰ}
use Prim.Native.Nat.{ℕ}
use native.Mathlib.Omega.{arith}
use Rattle.sstable.specs.Kind.{kind_number}
use Rattle.block.specs.Walk.{Entry}
use Rattle.admission.specs.Blocks.{store_entries}
use Rattle.locating.specs.Store.{LinkerStore, Version, version_in, store_versions, Holds}
use Rattle.locating.specs.Looks.{NoneWithin, Greatest}
use Rattle.spans.specs.Span.{Pair}
use Rattle.spanning.specs.Spans.{KeysInOrder, ValueLies, KeyGives, value, tombstone, none, no_key, next_key, SpanGivesOne}

module _ (t : LinkerStore) (k : KeysInOrder t) (limit : ℕ) (key : List ℕ) where
  -- a record of the blocks that is this version
  Listed : Version → Entry → Type 0
  Listed v e = Memᴰ e (store_entries t.backing t.blocks) × (version_in t.backing e ≡ v)

  -- every version of greatest sequence is such a record
  listed : (v : Version) → Greatest t key limit v → (e : Entry) × Listed v e
  unfolding Listed Holds store_versions
  listed v g = let w = Memᴰ.of_map (version_in t.backing) (store_entries t.backing t.blocks) g.within.held in (w.0, (w.1, w.2))

  -- and there is one
  entry_one : (v w : Version) (a b : Entry) → Greatest t key limit v → Greatest t key limit w → Listed v a → Listed w b → a ≡ b
  unfolding Listed version_in
  entry_one v w a b g h la lb =
      let p = g.greatest w h.within in
      let q = h.greatest v g.within in
      let seqs : v.seq ≡ w.seq = omega arith in
      k.one a b la.0 lb.0
      (ap (λ (x : Version). x.key) la.1 ∙ g.within.same_key ∙ sym h.within.same_key ∙ sym (ap (λ (x : Version). x.key) lb.1))
      (ap (λ (x : Version). x.seq) la.1 ∙ seqs ∙ sym (ap (λ (x : Version). x.seq) lb.1))

  version_one : (v w : Version) → Greatest t key limit v → Greatest t key limit w → v ≡ w
  unfolding Listed
  version_one v w g h =
      let a = listed v g in
      let b = listed w h in
      sym a.1.1 ∙ ap (version_in t.backing) (entry_one v w a.0 b.0 g h a.1 b.1) ∙ b.1.1

  pair_one : (v w : Version) (p q : Pair) → Greatest t key limit v → Greatest t key limit w → ValueLies t v p → ValueLies t w q → p ≡ q
  unfolding Listed
  pair_one v w p q g h l m =
      let e = entry_one v w l.entry m.entry g h (l.listed, l.version) (m.listed, m.version) in
      ap₂ (λ (i j : ℕ). record { offset = i; len = j })
      (l.offset ∙ ap (λ (x : Entry). x.place) e ∙ sym m.offset)
      (l.size ∙ ap (λ (x : Entry). x.size) e ∙ sym m.size)

  -- a value and a tombstone are two versions
  kinds_apart : (v w : Version) → Greatest t key limit v → Greatest t key limit w → kind_number v.kind ≡ 1 → kind_number w.kind ≡ 2 → ⊥
  kinds_apart v w g h a b = let e = ap (λ (x : Version). kind_number x.kind) (version_one v w g h) in omega arith

  key_one : (ps qs : List Pair) → KeyGives t limit key ps → KeyGives t limit key qs → ps ≡ qs
  unfolding NoneWithin
  key_one ps qs (value v p g e l) (value w q h f m) = ap (λ (x : Pair). x ∷ []) (pair_one v w p q g h l m)
  key_one ps qs (value v p g e l) (tombstone w h f) = absurd (kinds_apart v w g h (ap kind_number e) (ap kind_number f))
  key_one ps qs (value v p g e l) (none n) = absurd (n v g.within)
  key_one ps qs (tombstone v g e) (value w q h f m) = absurd (kinds_apart w v h g (ap kind_number f) (ap kind_number e))
  key_one ps qs (tombstone v g e) (tombstone w h f) = refl
  key_one ps qs (tombstone v g e) (none n) = refl
  key_one ps qs (none n) (value w q h f m) = absurd (n w h.within)
  key_one ps qs (none n) (tombstone w h f) = refl
  key_one ps qs (none n) (none m) = refl

-- some keys have one list of pairs
pub span_gives_one : SpanGivesOne
unfolding SpanGivesOne
span_gives_one t k limit keys ps qs no_key no_key = refl
span_gives_one t k limit keys ps qs (next_key a r) (next_key b s) =
    ap₂ (λ (x y : List Pair). x ++ y) (key_one t k limit _ _ _ a b) (span_gives_one t k limit _ _ _ r s)
