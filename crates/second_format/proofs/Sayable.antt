-- The records of ranged frames: each is read back, and is the only one for what it says. So the writer's theorems hold of this format too.
use Prim.Native.Nat.{ℕ, ◌+◌, ◌≤◌, ◌<◌, ◌^◌}
use mathlib.Core.Path.{◌≡◌, refl, ap, sym, ◌∙◌, subst₂}
use mathlib.Core.Bool.{Bool, true, false, cond, ◌&&◌}
use mathlib.Core.List.{List, [], ◌∷◌, ◌++◌}
use mathlib.Core.Logic.{⊎_elim}
use native.Mathlib.Omega.{arith}
use lib.ListN.{length, take, drop, get_or, length-append, length-drop}
use lib.Dec.{eqb, ltb, leb}
use lib.Seq.{take_all, take-add, drop-drop, length-take-le}
use borrow.Author.Tests.{eqb-true, ltb-true, lt-ltb}
use Rattle.rules.specs.Repeat.{list_below}
use Rattle.rules.specs.Bytes.{big_endian, number, part}
use Rattle.rules.specs.Core.{Owner}
use Rattle.rules.specs.Configuration.{owner_of}
use Rattle.laws.specs.WriterRule.{AllBytes, RecordSays, Sayable}
use Rattle.laws.proofs.Tests.{both, left, right, cond_both}
use Rattle.laws.proofs.Splices.{read_part}
use Rattle.laws.proofs.Bytes.{kinds, each_bytes, append_bytes, part_bytes, big_endian_bytes, number_below, spells, spelled}
use Rattle.second_format.specs.Ranged.{Settings, ranged_format, header, settings_valid, settings_unused, unused_settings, settings_of, can_say, record_of, longest_data}

two_below : (bs : List ℕ) → length bs ≡ 2 → AllBytes bs → number bs < 2 ^ 16
two_below bs two all = rw two at (number_below bs all)

-- Every record that says something is the one that is written

module _ (version h : ℕ) (r : List ℕ) (all : AllBytes r) (whole : length r ≡ 7) (kind : get_or r 1 0 ≤ 1)
    (suits : settings_valid (eqb (get_or r 1 0) 1) (settings_of version r) ≡ true) where
  abbrev o : Owner
  o = owner_of ranged_format version h r

  abbrev s : Settings
  s = settings_of version r

  -- controller, kind and longest; lowest; highest
  pieces : (get_or r 0 0 ∷ get_or r 1 0 ∷ get_or r 2 0 ∷ []) ++ (part 3 2 r ++ part 5 2 r) ≡ r
  unfolding list_below
  pieces =
      ap (λ (x : List ℕ). x ++ (part 3 2 r ++ part 5 2 r)) (read_part 0 3 r 0 (omega arith))
      ∙ sym (take-add 3 4 r ∙ ap (λ (x : List ℕ). take 3 r ++ x) (take-add 2 2 (drop 3 r) ∙ rw drop-drop))
      ∙ take_all 7 r (omega arith)

  two_at : (at : ℕ) → at + 2 ≤ 7 → length (part at 2 r) ≡ 2
  two_at at l = length-take-le 2 (drop at r) (simp length-drop (omega arith))

  spelled_at : (at : ℕ) → at + 2 ≤ 7 → big_endian 2 (number (part at 2 r)) ≡ part at 2 r
  spelled_at at l = rw (two_at at l) at (spelled (part at 2 r) (part_bytes at 2 r all))

  kind_back : cond o.receiving 1 0 ≡ get_or r 1 0
  kind_back = ⊎_elim (λ e. rw e) (λ e. rw e) (kinds (get_or r 1 0) kind)

  -- a sending object has no highest identifier, so the byte before its pool is zero
  highest_zero : get_or r 1 0 ≡ 0 → 0 ∷ get_or r 6 0 ∷ [] ≡ part 5 2 r
  unfolding list_below number
  highest_zero k =
      let one : part 5 1 r ≡ get_or r 5 0 ∷ [] = sym (read_part 5 1 r 0 (omega arith)) in
      let high = number (part 5 1 r ++ (0 ∷ [])) in
      let none = eqb-true high 0 (right (leb s.longest longest_data && eqb s.lowest 0) (eqb high 0) (rw k at suits)) in
      let sum = rw one at none in
      let a : get_or r 5 0 ≡ 0 = omega arith in
      let zero : 0 ∷ get_or r 6 0 ∷ [] ≡ get_or r 5 0 ∷ get_or r 6 0 ∷ [] = rw a in
      zero ∙ read_part 5 2 r 0 (omega arith)

  highest_back : cond o.receiving (big_endian 2 s.highest) (0 ∷ o.pool ∷ []) ≡ part 5 2 r
  highest_back = ⊎_elim (λ k. rw k (highest_zero k)) (λ k. rw k (spelled_at 5 (omega arith))) (kinds (get_or r 1 0) kind)

  highest_below : s.highest < 2 ^ 16
  highest_below =
      cond_both (λ (x : ℕ). x < 2 ^ 16) (eqb (get_or r 1 0) 0) (number (part 5 1 r ++ (0 ∷ []))) (number (part 5 2 r))
      (λ t. two_below (part 5 1 r ++ (0 ∷ [])) (simp length-append (omega (arith, length-take-le 1 (drop 5 r) (simp length-drop (omega arith)))))
      (append_bytes (part 5 1 r) (0 ∷ []) (part_bytes 5 1 r all) (each_bytes (0 ∷ []) (omega arith))))
      (λ t. two_below (part 5 2 r) (two_at 5 (omega arith)) (part_bytes 5 2 r all))

  alone : (can_say version h o s ≡ true) × (record_of version o s ≡ r)
  alone = (
    both (both (both (both (lt-ltb _ _ (all 0)) (lt-ltb _ _ (cond_both (λ (x : ℕ). x < 256) o.receiving 0 (get_or r 6 0) (λ t. omega arith) (λ t. all 6)))) (lt-ltb _ _ (all 2)))
        (lt-ltb _ _ (two_below (part 3 2 r) (two_at 3 (omega arith)) (part_bytes 3 2 r all)))) (lt-ltb _ _ highest_below),
    rw (kind_back, highest_back, spelled_at 3 (omega arith)) pieces,
  )

-- The record that is written says what it was made of

abbrev owner : ℕ → Bool → ℕ → Owner
owner k b p = record { controller = k; receiving = b; pool = p }

-- each number has as many bytes as the record has for it
record Bounded (k p : ℕ) (s : Settings) : Type 0 where
  controller : k < 2 ^ 8
  pool : p < 2 ^ 8
  longest : s.longest < 2 ^ 8
  lowest : s.lowest < 2 ^ 16
  highest : s.highest < 2 ^ 16

bounded : (version h k p : ℕ) (b : Bool) (s : Settings) → can_say version h (owner k b p) s ≡ true → Bounded k p s
bounded version h k p b s t =
    let a = ltb k 256 in
    let q = ltb p 256 in
    let n = ltb s.longest 256 in
    let l = ltb s.lowest (2 ^ 16) in
    let m = ltb s.highest (2 ^ 16) in
    let t₄ = left (a && q && n && l) m t in
    let t₃ = left (a && q && n) l t₄ in
    let t₂ = left (a && q) n t₃ in
    record {
      controller = ltb-true k 256 (left a q t₂);
      pool = ltb-true p 256 (right a q t₂);
      longest = ltb-true s.longest 256 (right (a && q) n t₃);
      lowest = ltb-true s.lowest (2 ^ 16) (right (a && q && n) l t₄);
      highest = ltb-true s.highest (2 ^ 16) (right (a && q && n && l) m t);
    }

says : (version h k p : ℕ) (b : Bool) (s : Settings) → settings_valid b s ≡ true → (b ≡ true → p ≡ 0) → Bounded k p s
    → RecordSays ranged_format version h (owner k b p) s (record_of version (owner k b p) s)
unfolding big_endian number
says version h k p true s suits unused f =
    record {
      all_bytes = append_bytes (k ∷ 1 ∷ s.longest ∷ []) (big_endian 2 s.lowest ++ big_endian 2 s.highest) (each_bytes (k ∷ 1 ∷ s.longest ∷ []) (omega arith))
          (append_bytes (big_endian 2 s.lowest) (big_endian 2 s.highest) (big_endian_bytes 2 s.lowest) (big_endian_bytes 2 s.highest));
      whole = refl;
      kind_known = omega arith;
      owner_read = ap (owner k true) (sym (unused refl));
      settings_read = λ i. record { longest = s.longest; lowest = spells 2 s.lowest f.lowest i; highest = spells 2 s.highest f.highest i };
    }
says version h k p false s suits unused f =
    let none = eqb-true s.highest 0 (right (leb s.longest longest_data && eqb s.lowest 0) (eqb s.highest 0) suits) in
    record {
      all_bytes = append_bytes (k ∷ 0 ∷ s.longest ∷ []) (big_endian 2 s.lowest ++ (0 ∷ p ∷ [])) (each_bytes (k ∷ 0 ∷ s.longest ∷ []) (omega arith))
          (append_bytes (big_endian 2 s.lowest) (0 ∷ p ∷ []) (big_endian_bytes 2 s.lowest) (each_bytes (0 ∷ p ∷ []) (omega arith)));
      whole = refl;
      kind_known = omega arith;
      owner_read = refl;
      settings_read = λ i. record { longest = s.longest; lowest = spells 2 s.lowest f.lowest i; highest = sym none i };
    }

unused_is : (s : Settings) → settings_unused s ≡ true → s ≡ unused_settings
unused_is s t =
    let a = eqb s.longest 0 in
    let b = eqb s.lowest 0 in
    let c = eqb s.highest 0 in
    let t₂ = left (a && b) c t in
    λ i. record {
      longest = eqb-true s.longest 0 (left a b t₂) i;
      lowest = eqb-true s.lowest 0 (right a b t₂) i;
      highest = eqb-true s.highest 0 (right (a && b) c t) i;
    }

pub ranged_sayable : Sayable ranged_format
ranged_sayable =
    record {
      header_bytes = each_bytes header (omega arith);
      header_size = refl;
      version_size = λ version known. omega (arith, eqb-true version 2 known);
      unused_alone = unused_is;
      record_back = λ version h o s known suits unused t. says version h o.controller o.pool o.receiving s suits unused (bounded version h o.controller o.pool o.receiving s t);
      record_alone = λ version h o s known suits r w.
          let valid = subst₂ (λ (x : Owner) (y : Settings). settings_valid x.receiving y ≡ true) (sym w.owner_read) (sym w.settings_read) suits in
          subst₂ (λ (x : Owner) (y : Settings). (can_say version h x y ≡ true) × (record_of version x y ≡ r)) w.owner_read w.settings_read
          (alone version h r w.all_bytes w.whole w.kind_known valid);
    }
