-- What a lookup of an accepted store finds has the place and the length of the blocks' record that it is, and there is one such record.
-- Assumes nothing.
use mathlib.Core.Path.{◌≡◌, sym, ap, ap₂, ◌∙◌, subst}
use mathlib.Core.List.{List, Memᴰ}
use Prim.Native.Nat.{ℕ, ◌+◌, ◌<◌}
use native.Mathlib.Nat.{zero-add}
use native.Mathlib.Omega.{arith}
use Rattle.std.specs.Prelude.{Some, Ok}
use Rattle.block.specs.Walk.{Entry}
use Rattle.agreement.specs.Keys.{version_count, key_at, first_version, version_place, version_seq}
use Rattle.agreement.specs.Agrees.{entry_at}
use Rattle.agreement.proofs.Same.{seq_is, length_is, offset_is}
use Rattle.agreement.proofs.Laws.{member_index, index_member}
use Rattle.admission.specs.Blocks.{store_entries}
use Rattle.locator.specs.declared.ValueLocator.{ValueLocator}
use Rattle.locator.specs.Locator.{locator_at, versions_from}
use Rattle.locating.specs.Store.{LinkerStore, Version}
use Rattle.locating.specs.Looks.{lookup, Greatest, Answers}
use Rattle.locating.proofs.Indexed.{Indexed}
use Rattle.locating.proofs.Reading.{located_own}
use Rattle.locating.proofs.Versions.{Answered, none, first, answered, version_at, version_key, version_seq_lem, version_held, listed, seq_names, version_names}
use Rattle.spanning.specs.Spans.{ValueLies}

module _ (t : LinkerStore) (x : Indexed t.bytes t.opened t.backing (store_entries t.backing t.blocks)) where
  open t use {bytes as s, backing as «data», blocks, opened as o}

  module _ (limit : ℕ) (v : Version) (l : ValueLocator) (k : ℕ) (h : k < o.count) (key : List ℕ) (ek : v.key ≡ key_at s o k)
      (e : lookup t (key_at s o k) limit ≡ Ok (Some l)) (g : Greatest t key limit v) (a : Answers t v l) where
    -- the version of key k that is answered is this one
    own-lies : Answered s o k limit 0 (versions_from (version_count s o k) s o (version_place s o k 0) limit)
        → ValueLies t v (record { offset = l.offset; len = l.len })
    unfolding lookup version_at locator_at
    own-lies (none above f) =
        let m = located_own s o «data» (store_entries «data» blocks) x k h limit in
        absurd (let z : ◌≡◌ {A = ℕ} 0 1 = cc in omega arith)
    own-lies (first i f r) =
        let m = located_own s o «data» (store_entries «data» blocks) x k h limit in
        let same : l ≡ locator_at s o (version_place s o k i) = cc in
        let b = f.below in
        let w = x.versions k i h b in
        let is : version_at t k i ≡ v =
        version_names t x (version_at t k i) v (version_held t x k i h b) g.within.held (version_key t x k i h b ∙ sym ek)
        (version_seq_lem t x k i h b ∙ seq_is s o k i ∙ sym (ap (λ (n : ValueLocator). n.seq) same) ∙ a.seq) in
        record {
          entry = entry_at (store_entries «data» blocks) (first_version s o k + i);
          listed = index_member (store_entries «data» blocks) (first_version s o k + i) (x.version_listed k i h b);
          version = is;
          offset = ap (λ (n : ValueLocator). n.offset) same ∙ sym (w.place ∙ offset_is s o k i);
          size = ap (λ (n : ValueLocator). n.len) same ∙ sym (w.size ∙ length_is s o k i);
          len = a.len;
          inside = a.inside;
          value = a.value;
        }

  -- the version that a lookup finds lies where the lookup says
  pub found_lies : (key : List ℕ) (limit : ℕ) (v : Version) (l : ValueLocator) → lookup t key limit ≡ Ok (Some l) → Greatest t key limit v → Answers t v l
      → ValueLies t v (record { offset = l.offset; len = l.len })
  found_lies key limit v l e g a =
      let y = listed t x v g.within.held in
      let k = y.key in
      let h = y.key_below in
      let ek : v.key ≡ key_at s o k = sym (ap (λ (u : Version). u.key) y.same) ∙ version_key t x k y.version h y.version_below in
      own-lies limit v l k h key ek (ap (λ (n : List ℕ). lookup t n limit) (sym ek ∙ g.within.same_key) ∙ e) g a
      (answered s o «data» (store_entries «data» blocks) x k h limit (version_count s o k) 0 (zero-add (version_count s o k)))

  -- the records of one key and sequence are one
  places_one : (k i m j : ℕ) → k < o.count → i < version_count s o k → m < o.count → j < version_count s o m → key_at s o k ≡ key_at s o m
      → version_seq s o k i ≡ version_seq s o m j → first_version s o k + i ≡ first_version s o m + j
  places_one k i m j h p l q ek es =
      let same = x.key_names k m h l ek in
      let below : j < version_count s o k = subst (λ (n : ℕ). j < version_count s o n) (sym same) q in
      let one = seq_names t x k i j h p below (es ∙ ap (λ (n : ℕ). version_seq s o n j) (sym same)) in
      ap₂ (λ (n v : ℕ). first_version s o n + v) same one

  pub record_one : (a b : Entry) → Memᴰ a (store_entries «data» blocks) → Memᴰ b (store_entries «data» blocks) → a.key ≡ b.key
      → a.seq ≡ b.seq → a ≡ b
  record_one a b ma mb ek es =
      let entries = store_entries «data» blocks in
      let i = member_index entries a ma in
      let j = member_index entries b mb in
      let v = x.record_version i.0 i.1 in
      let w = x.record_version j.0 j.1 in
      let ea : a ≡ entry_at entries (first_version s o v.0 + v.1) = i.2 ∙ ap (entry_at entries) v.4 in
      let eb : b ≡ entry_at entries (first_version s o w.0 + w.1) = j.2 ∙ ap (entry_at entries) w.4 in
      let fa = x.versions v.0 v.1 v.2 v.3 in
      let fb = x.versions w.0 w.1 w.2 w.3 in
      let keys = sym (ap (λ (e : Entry). e.key) ea ∙ fa.key) ∙ ek ∙ ap (λ (e : Entry). e.key) eb ∙ fb.key in
      let seqs = sym (ap (λ (e : Entry). e.seq) ea ∙ fa.seq) ∙ es ∙ ap (λ (e : Entry). e.seq) eb ∙ fb.seq in
      ea ∙ ap (entry_at entries) (places_one v.0 v.1 w.0 w.1 v.2 v.3 w.2 w.3 keys seqs) ∙ sym eb
