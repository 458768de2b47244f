-- What a lookup gives a linker whose bytes, data, list and numbers are those of an accepted store.
-- Assumes nothing.
use mathlib.Core.Path.{◌≡◌, refl, sym, ap, ◌∙◌, subst}
use mathlib.Core.List.{List}
use Prim.Native.Nat.{ℕ, ◌≤◌}
use native.Mathlib.Omega.{arith}
use lib.Dec.{eqb}
use lib.ListN.{length}
use lib.Seq.{sets, length-sets, take_all}
use Rattle.std.specs.Prelude.{Some, None, Ok, Err}
use Rattle.num.proofs.Lists.{part_sets_same}
use Rattle.refusal.specs.Refusal.{answer_number}
use Rattle.sstable.specs.declared.Kind.{Kind}
use Rattle.sstable.specs.declared.Kind.TheVariants.{Put, Tombstone}
use Rattle.sstable.specs.Kind.{kind_number}
use Rattle.header.specs.declared.Opened.{Opened}
use Rattle.locator.specs.declared.ValueLocator.{ValueLocator}
use Rattle.locator.specs.Locator.{Located}
use Rattle.lookup.specs.Lookup.{locate_of}
use Rattle.locating.specs.Store.{LinkerStore, Store, Version, Holds, store_versions, Within}
use Rattle.locating.specs.Looks.{lookup, NoneWithin, Greatest, Answers, Looks}
use Rattle.linking.specs.Linkers.{SameVersions, LinkSame, none_alike, found_alike}
use Rattle.numbers.specs.Numbers.{record_numbers, opened_of, answer_numbers}
use Rattle.numbers.proofs.RecordNumbers.{record_read, record_is}
use Rattle.looks.specs.Looked.{lookup_of, answer_written}
use Rattle.looks.proofs.Numbers.{looked_up}
use Rattle.calls.specs.Calls.{place, Holding, blocks_held, LookupCall, six_zeros, IsVersion, LookedUp, SameAnswers, both_none, both_version, LinkedAlike}

-- what is held, with a record
unfoldable pub store_held : Holding → Opened → LinkerStore
store_held h o = record { bytes = h.bytes; backing = h.backing; blocks = h.blocks; opened = o }

-- it is an accepted store with this record, and the numbers are the record's
pub record HoldsStore (h : Holding) (o : Opened) : Type 0 where
  pub store : Store (store_held h o)
  pub numbers : h.numbers ≡ record_numbers o

-- places as many as are written hold what is written alone
all_written : (before written : List ℕ) → length before ≡ length written → sets before 0 written ≡ written
all_written before written h =
    let all : length (sets before 0 written) ≤ length written = omega (arith, length-sets before 0 written) in
    sym (take_all (length written) (sets before 0 written) all) ∙ part_sets_same written before 0 (omega arith)

-- ---- versions, read off data and list alone

module _ (h : Holding) (o : Opened) (key : List ℕ) (limit : ℕ) where
  within_held : (v : Version) → Within (blocks_held h) key limit v → Within (store_held h o) key limit v
  unfolding Holds store_versions blocks_held store_held
  within_held v w = record { held = w.held; same_key = w.same_key; within = w.within }

  held_within : (v : Version) → Within (store_held h o) key limit v → Within (blocks_held h) key limit v
  unfolding Holds store_versions blocks_held store_held
  held_within v w = record { held = w.held; same_key = w.same_key; within = w.within }

  none_held : NoneWithin (blocks_held h) key limit → NoneWithin (store_held h o) key limit
  unfolding NoneWithin
  none_held n v w = n v (held_within v w)

  pub held_none : NoneWithin (store_held h o) key limit → NoneWithin (blocks_held h) key limit
  unfolding NoneWithin
  held_none n v w = n v (within_held v w)

  greatest_held : (v : Version) → Greatest (blocks_held h) key limit v → Greatest (store_held h o) key limit v
  greatest_held v g = record { within = within_held v g.within; greatest = λ w x. g.greatest w (held_within w x) }

  pub held_greatest : (v : Version) → Greatest (store_held h o) key limit v → Greatest (blocks_held h) key limit v
  held_greatest v g = record { within = held_within v g.within; greatest = λ w x. g.greatest w (within_held w x) }

pub same_held : (h i : Holding) (o p : Opened) (key : List ℕ) (limit : ℕ) → SameVersions (blocks_held h) (blocks_held i) key limit
    → SameVersions (store_held h o) (store_held i p) key limit
unfolding Holds store_versions blocks_held store_held
same_held h i o p key limit s = record { there = s.there; back = s.back }

-- ---- one answer

module _ (h : Holding) (o : Opened) (x : HoldsStore h o) where
  -- place 10
  checksum_place : (n : ℕ) → place h.numbers 10 ≡ n → o.encoding.checksum ≡ eqb n 1
  unfolding opened_of
  checksum_place n e =
      sym (ap (λ (p : Opened). p.encoding.checksum) (record_read o))
      ∙ ap (λ (m : ℕ). eqb m 1) (sym (ap (λ (l : List ℕ). place l 10) x.numbers) ∙ e)

  -- the six numbers of what answers a version
  numbers_version : (v : Version) (l : ValueLocator) → Answers (store_held h o) v l → IsVersion h (answer_numbers l) v
  unfolding answer_numbers store_held
  numbers_version v l a =
      record {
        found = refl;
        put = λ k. ap kind_number (a.kind ∙ k);
        tombstone = λ k. ap kind_number (a.kind ∙ k);
        seq = a.seq;
        len = a.len;
        inside = a.inside;
        value = a.value;
        checksum = λ e. a.checksum (checksum_place 1 e);
        no_checksum = λ e. a.no_checksum (checksum_place 0 e);
      }

  module _ (key : List ℕ) (limit : ℕ) (c : LookupCall h key limit) where
    -- the call looks up in the store
    call-looks : lookup_of h.bytes h.numbers key limit ≡ lookup (store_held h o) key limit
    unfolding lookup store_held
    call-looks =
        ap (λ (n : List ℕ). lookup_of h.bytes n key limit) x.numbers
        ∙ looked_up h.bytes (record_numbers o) key limit o (locate_of h.bytes o key limit) (record_is o) (sym (record_read o)) refl

    module _ (r : Located) (e : lookup (store_held h o) key limit ≡ r) where
      call-result : c.result ≡ answer_number r
      call-result = c.returns ∙ ap answer_number (call-looks ∙ e)

      call-after : c.after ≡ answer_written r c.before
      call-after = c.leaves ∙ ap (λ (q : Located). answer_written q c.before) (call-looks ∙ e)

    missing-after : lookup (store_held h o) key limit ≡ Ok None → c.after ≡ six_zeros
    unfolding answer_written
    missing-after e = call-after (Ok None) e ∙ all_written c.before six_zeros c.six

    found-version : (l : ValueLocator) → lookup (store_held h o) key limit ≡ Ok (Some l) → (v : Version) → Answers (store_held h o) v l
        → IsVersion h c.after v
    unfolding answer_written answer_numbers
    found-version l e v a =
        subst (λ (n : List ℕ). IsVersion h n v) (sym (call-after (Ok (Some l)) e ∙ all_written c.before (answer_numbers l) c.six))
        (numbers_version v l a)

    -- an answer for a version is not the answer for none
    version-some : (v : Version) → IsVersion h c.after v → c.after ≡ six_zeros → ⊥
    version-some v a e = let z : ◌≡◌ {A = ℕ} 0 1 = sym (ap (λ (n : List ℕ). place n 0) e) ∙ a.found in omega arith

    pub call_looked_up : Looks (store_held h o) key limit → LookedUp h key limit c
    unfolding answer_number
    call_looked_up p = go (lookup (store_held h o) key limit) refl
      where
        finds : (v : Version) → Greatest (blocks_held h) key limit v → IsVersion h c.after v
        finds v g = let f = p.finds v (greatest_held h o key limit v g) in found-version f.0 f.1 v f.2

        go : (r : Located) → lookup (store_held h o) key limit ≡ r → LookedUp h key limit c
        go (Ok None) e =
            record {
              result = call-result (Ok None) e;
              none = (λ _. held_none h o key limit (p.none.0 e), λ _. missing-after e);
              found = λ n. absurd (n (missing-after e));
              finds = finds;
            }
        go (Ok (Some l)) e =
            let f = p.found l e in
            let a = found-version l e f.0 f.2 in
            let g = held_greatest h o key limit f.0 f.1 in
            record {
              result = call-result (Ok (Some l)) e;
              none = (λ z. absurd (version-some f.0 a z), λ n. missing-after (p.none.1 (none_held h o key limit n)));
              found = λ _. (f.0, (g, a));
              finds = finds;
            }
        go (Err n) e = absurd (p.never n e)

-- ---- two answers

-- answers that are one version
version_same : (h i : Holding) (v : Version) (x y : List ℕ) → IsVersion h x v → IsVersion i y v → SameAnswers h i x y
version_same h i v x y p q =
    record {
      found = p.found ∙ sym q.found;
      kind = go v.kind refl;
      seq = p.seq ∙ sym q.seq;
      len = p.len ∙ sym q.len;
      value = p.value ∙ sym q.value;
      checksum = λ a b. p.checksum a ∙ sym (q.checksum b);
    }
  where
    go : (k : Kind) → v.kind ≡ k → place x 1 ≡ place y 1
    go Put e = p.put e ∙ sym (q.put e)
    go Tombstone e = p.tombstone e ∙ sym (q.tombstone e)

module _ (h i : Holding) (o p : Opened) (x : HoldsStore h o) (y : HoldsStore i p) (key : List ℕ) (limit : ℕ) where
  pub calls_alike : LinkSame (store_held h o) (store_held i p) key limit → (c : LookupCall h key limit) (d : LookupCall i key limit)
      → LinkedAlike h i key limit c d
  unfolding answer_number
  calls_alike (none_alike m n e f) c d =
      record {
        first = call-result h o x key limit c (Ok None) e;
        second = call-result i p y key limit d (Ok None) f;
        answers =
            both_none (held_none h o key limit m) (held_none i p key limit n) (missing-after h o x key limit c e) (missing-after i p y key limit d f);
      }
  calls_alike (found_alike v l m g w e a f b s) c d =
      let q = found-version h o x key limit c l e v a in
      let r = found-version i p y key limit d m f v b in
      record {
        first = call-result h o x key limit c (Ok (Some l)) e;
        second = call-result i p y key limit d (Ok (Some m)) f;
        answers =
            both_version v (held_greatest h o key limit v g) (held_greatest i p key limit v w) q r (version_same h i v c.after d.after q r);
      }
