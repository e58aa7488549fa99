-- The writer's theorems for classic and FD frames: their records meet what the theorems ask of a format.
use Prim.Native.Nat.{ℕ, ◌+◌, ◌≤◌, ◌<◌, ◌^◌}
use mathlib.Core.Path.{◌≡◌, refl, ap, sym, ◌∙◌, subst₂}
use mathlib.Core.Bool.{Bool, true, false, not, cond, ◌&&◌, ◌||◌}
use mathlib.Core.List.{List, [], ◌∷◌, ◌++◌}
use mathlib.Core.Logic.{◌⊎◌, inl, inr, ⊎_elim}
use native.Mathlib.Omega.{arith}
use lib.ListN.{length, take, drop, get_or, length-append, length-drop}
use lib.Dec.{eqb, ltb}
use lib.Seq.{take_all, take-add, drop-drop, length-take-le}
use borrow.Author.Tests.{eqb-true, eq-eqb, ltb-true, lt-ltb}
use Rattle.rules.specs.Limits.{Limits}
use Rattle.rules.specs.Repeat.{list_below}
use Rattle.rules.specs.Bytes.{big_endian, number, part}
use Rattle.rules.specs.Core.{Owner, owner_at}
use Rattle.rules.specs.Configuration.{Configuration, owner_of, settings_at, configuration_valid}
use Rattle.rules.specs.Can.{Settings, can_format, longest_classic, longest_fd, header, known_version, settings_valid, settings_unused, unused_settings, says_pool, settings_of, can_say, record_of}
use Rattle.laws.specs.WriterRule.{AllBytes, RecordSays, Sayable, Sized, AcceptedRule}
use Rattle.laws.proofs.Tests.{both, left, right, decide, cond_both}
use Rattle.laws.proofs.Splices.{read_part}
use Rattle.laws.proofs.Bytes.{kinds, each_bytes, append_bytes, part_bytes, big_endian_bytes, big_endian_length, number_below, spells, spelled}
use Rattle.laws.proofs.Configurations.{placed, CanSay, facts_say}
use Rattle.laws.proofs.WriterRule.{meaning_valid, say_rule}

-- there are two versions
versions : (v : ℕ) → known_version v ≡ true → (v ≡ 1) ⊎ (v ≡ 2)
versions v t = ⊎_elim (λ e. inl (eqb-true v 1 e)) (λ e. inr (eqb-true v 2 (rw e at t))) (decide (eqb v 1))

four_below : (bs : List ℕ) → length bs ≡ 4 → AllBytes bs → number bs < 2 ^ 32
four_below bs four all = rw four at (number_below bs all)

-- Every record that says something is the one that is written

module _ (version h : ℕ) (r : List ℕ) (known : known_version version ≡ true) (all : AllBytes r) (whole : length r ≡ 12) (kind : get_or r 1 0 ≤ 1)
    (suits : settings_valid (eqb (get_or r 1 0) 1) (settings_of version r) ≡ true) where
  abbrev o : Owner
  o = owner_of can_format version h r

  abbrev s : Settings
  s = settings_of version r

  -- controller, kind, payload and padding value; code; mask
  pieces : (get_or r 0 0 ∷ get_or r 1 0 ∷ get_or r 2 0 ∷ get_or r 3 0 ∷ []) ++ (part 4 4 r ++ part 8 4 r) ≡ r
  unfolding list_below
  pieces =
      ap (λ (x : List ℕ). x ++ (part 4 4 r ++ part 8 4 r)) (read_part 0 4 r 0 (omega arith))
      ∙ sym (take-add 4 8 r ∙ ap (λ (x : List ℕ). take 4 r ++ x) (take-add 4 4 (drop 4 r) ∙ rw drop-drop))
      ∙ take_all 12 r (omega arith)

  four_at : (at : ℕ) → at + 4 ≤ 12 → length (part at 4 r) ≡ 4
  four_at at l = length-take-le 4 (drop at r) (simp length-drop (omega arith))

  spelled_at : (at : ℕ) → at + 4 ≤ 12 → big_endian 4 (number (part at 4 r)) ≡ part at 4 r
  spelled_at at l = rw (four_at at l) at (spelled (part at 4 r) (part_bytes at 4 r all))

  -- the code of a sending object is zero, so the bytes before its pool are
  code_zero : version ≡ 2 → get_or r 1 0 ≡ 0 → 0 ∷ 0 ∷ 0 ∷ get_or r 7 0 ∷ [] ≡ part 4 4 r
  unfolding list_below number
  code_zero v k =
      let three : part 4 3 r ≡ get_or r 4 0 ∷ get_or r 5 0 ∷ get_or r 6 0 ∷ [] = sym (read_part 4 3 r 0 (omega arith)) in
      let code = number (part 4 3 r ++ (0 ∷ [])) in
      let sends = right (eqb s.payload longest_classic || eqb s.payload longest_fd) (eqb code 0 && eqb s.mask 0) (rw (v, k) at suits) in
      let none = eqb-true code 0 (left (eqb code 0) (eqb s.mask 0) sends) in
      let sum = rw three at none in
      let a : get_or r 4 0 ≡ 0 = omega arith in
      let b : get_or r 5 0 ≡ 0 = omega arith in
      let c : get_or r 6 0 ≡ 0 = omega arith in
      let zeros : 0 ∷ 0 ∷ 0 ∷ get_or r 7 0 ∷ [] ≡ get_or r 4 0 ∷ get_or r 5 0 ∷ get_or r 6 0 ∷ get_or r 7 0 ∷ [] = rw (a, b, c) in
      zeros ∙ read_part 4 4 r 0 (omega arith)

  kind_back : cond o.receiving 1 0 ≡ get_or r 1 0
  kind_back = ⊎_elim (λ e. rw e) (λ e. rw e) (kinds (get_or r 1 0) kind)

  code_back : cond (eqb version 2 && not o.receiving) (0 ∷ 0 ∷ 0 ∷ o.pool ∷ []) (big_endian 4 s.code) ≡ part 4 4 r
  code_back = go (versions version known) (kinds (get_or r 1 0) kind)
    where
      go : (version ≡ 1) ⊎ (version ≡ 2) → (get_or r 1 0 ≡ 0) ⊎ (get_or r 1 0 ≡ 1)
          → cond (eqb version 2 && not o.receiving) (0 ∷ 0 ∷ 0 ∷ o.pool ∷ []) (big_endian 4 s.code) ≡ part 4 4 r
      go (inl v) k = rw v (spelled_at 4 (omega arith))
      go (inr v) (inl k) = rw (v, k) (code_zero v k)
      go (inr v) (inr k) = rw (v, k) (spelled_at 4 (omega arith))

  -- each number of the record has its bytes
  code_below : s.code < 2 ^ 32
  code_below =
      cond_both (λ (x : ℕ). x < 2 ^ 32) (says_pool version r) (number (part 4 3 r ++ (0 ∷ []))) (number (part 4 4 r))
      (λ t. four_below (part 4 3 r ++ (0 ∷ [])) (simp length-append (omega (arith, length-take-le 3 (drop 4 r) (simp length-drop (omega arith)))))
      (append_bytes (part 4 3 r) (0 ∷ []) (part_bytes 4 3 r all) (each_bytes (0 ∷ []) (omega arith))))
      (λ t. four_below (part 4 4 r) (four_at 4 (omega arith)) (part_bytes 4 4 r all))

  pool_said : cond (eqb version 2) (ltb o.pool 256) (o.receiving || eqb o.pool h) ≡ true
  pool_said = go (versions version known) (kinds (get_or r 1 0) kind)
    where
      go : (version ≡ 1) ⊎ (version ≡ 2) → (get_or r 1 0 ≡ 0) ⊎ (get_or r 1 0 ≡ 1)
          → cond (eqb version 2) (ltb o.pool 256) (o.receiving || eqb o.pool h) ≡ true
      go (inl v) (inl k) = rw (v, k) (eq-eqb h h refl)
      go (inl v) (inr k) = rw (v, k)
      go (inr v) (inl k) = rw (v, k) (lt-ltb (get_or r 7 0) 256 (all 7))
      go (inr v) (inr k) = rw (v, k)

  alone : (can_say version h o s ≡ true) × (record_of version o s ≡ r)
  alone = (
    both pool_said (both (both (both (both (lt-ltb _ _ (all 0)) (lt-ltb _ _ (all 2))) (lt-ltb _ _ (all 3))) (lt-ltb _ _ code_below))
        (lt-ltb _ _ (four_below (part 8 4 r) (four_at 8 (omega arith)) (part_bytes 8 4 r all)))),
    rw (kind_back, code_back, spelled_at 8 (omega arith)) pieces,
  )

-- The record that is written says what it was made of

-- each number has as many bytes as the record has for it
record Bounded (o : Owner) (s : Settings) : Type 0 where
  controller : o.controller < 2 ^ 8
  payload : s.payload < 2 ^ 8
  padding : s.padding < 2 ^ 8
  code : s.code < 2 ^ 32
  mask : s.mask < 2 ^ 32

bounded : (o : Owner) (s : Settings) (pool : Bool)
    → (pool && (ltb o.controller 256 && ltb s.payload 256 && ltb s.padding 256 && ltb s.code (2 ^ 32) && ltb s.mask (2 ^ 32))) ≡ true → Bounded o s
bounded o s pool t =
    let k = ltb o.controller 256 in
    let l = ltb s.payload 256 in
    let d = ltb s.padding 256 in
    let c = ltb s.code (2 ^ 32) in
    let m = ltb s.mask (2 ^ 32) in
    let t₅ = right pool (k && l && d && c && m) t in
    let t₄ = left (k && l && d && c) m t₅ in
    let t₃ = left (k && l && d) c t₄ in
    let t₂ = left (k && l) d t₃ in
    record {
      controller = ltb-true o.controller 256 (left k l t₂);
      payload = ltb-true s.payload 256 (right k l t₂);
      padding = ltb-true s.padding 256 (right (k && l) d t₃);
      code = ltb-true s.code (2 ^ 32) (right (k && l && d) c t₄);
      mask = ltb-true s.mask (2 ^ 32) (right (k && l && d && c) m t₅);
    }

-- a record by its kind and the four bytes of its code: what is left is that they are read back
made : (version h q : ℕ) (o : Owner) (s : Settings) (four : List ℕ) → Bounded o s → q ≤ 1 → AllBytes four → length four ≡ 4
    → (r : List ℕ) → r ≡ o.controller ∷ q ∷ s.payload ∷ s.padding ∷ (four ++ big_endian 4 s.mask)
    → owner_of can_format version h r ≡ o → settings_of version r ≡ s → RecordSays can_format version h o s r
made version h q o s four f kind all sized r e owner settings =
    let front = o.controller ∷ q ∷ s.payload ∷ s.padding ∷ [] in
    let mask = big_endian 4 s.mask in
    record {
      all_bytes = rw e (append_bytes front (four ++ mask) (each_bytes front (omega arith)) (append_bytes four mask all (big_endian_bytes 4 s.mask)));
      whole = rw e (simp (length-append, sized, big_endian_length 4 s.mask));
      kind_known = rw e kind;
      owner_read = owner;
      settings_read = settings;
    }

abbrev owner : ℕ → Bool → ℕ → Owner
owner k b p = record { controller = k; receiving = b; pool = p }

-- code and mask as four bytes each
plain_back : (o : Owner) (s : Settings) → Bounded o s
    → record { payload = s.payload; padding = s.padding; code = number (big_endian 4 s.code); mask = number (big_endian 4 s.mask) } ≡ s
plain_back o s f = λ i. record { payload = s.payload; padding = s.padding; code = spells 4 s.code f.code i; mask = spells 4 s.mask f.mask i }

says_1 : (h k p : ℕ) (b : Bool) (s : Settings) → (b ≡ true → p ≡ 0) → can_say 1 h (owner k b p) s ≡ true
    → RecordSays can_format 1 h (owner k b p) s (record_of 1 (owner k b p) s)
unfolding big_endian
says_1 h k p true s unused t =
    let f = bounded (owner k true p) s true t in
    made 1 h 1 (owner k true p) s (big_endian 4 s.code) f (omega arith) (big_endian_bytes 4 s.code) refl _ refl (ap (owner k true) (sym (unused refl)))
    (plain_back (owner k true p) s f)
says_1 h k p false s unused t =
    let f = bounded (owner k false p) s (eqb p h) t in
    made 1 h 0 (owner k false p) s (big_endian 4 s.code) f (omega arith) (big_endian_bytes 4 s.code) refl _ refl
    (ap (owner k false) (sym (eqb-true p h (left (eqb p h) _ t)))) (plain_back (owner k false p) s f)

says_2 : (h k p : ℕ) (b : Bool) (s : Settings) → settings_valid b s ≡ true → (b ≡ true → p ≡ 0) → can_say 2 h (owner k b p) s ≡ true
    → RecordSays can_format 2 h (owner k b p) s (record_of 2 (owner k b p) s)
unfolding big_endian number
says_2 h k p true s suits unused t =
    let f = bounded (owner k true p) s (ltb p 256) t in
    made 2 h 1 (owner k true p) s (big_endian 4 s.code) f (omega arith) (big_endian_bytes 4 s.code) refl _ refl (ap (owner k true) (sym (unused refl)))
    (plain_back (owner k true p) s f)
says_2 h k p false s suits unused t =
    let f = bounded (owner k false p) s (ltb p 256) t in
    let c = eqb s.code 0 in
    let code = eqb-true s.code 0 (left c (eqb s.mask 0) (right (eqb s.payload longest_classic || eqb s.payload longest_fd) (c && eqb s.mask 0) suits)) in
    let pool = ltb-true p 256 (left (ltb p 256) _ t) in
    made 2 h 0 (owner k false p) s (0 ∷ 0 ∷ 0 ∷ p ∷ []) f (omega arith) (each_bytes (0 ∷ 0 ∷ 0 ∷ p ∷ []) (omega arith)) refl _ refl refl
    (λ i. record { payload = s.payload; padding = s.padding; code = sym code i; mask = spells 4 s.mask f.mask i })

unused_is : (s : Settings) → settings_unused s ≡ true → s ≡ unused_settings
unused_is s t =
    let l = eqb s.payload 0 in
    let d = eqb s.padding 0 in
    let c = eqb s.code 0 in
    let m = eqb s.mask 0 in
    let t₃ = left (l && d && c) m t in
    let t₂ = left (l && d) c t₃ in
    λ i. record {
      payload = eqb-true s.payload 0 (left l d t₂) i;
      padding = eqb-true s.padding 0 (right l d t₂) i;
      code = eqb-true s.code 0 (right (l && d) c t₃) i;
      mask = eqb-true s.mask 0 (right (l && d && c) m t) i;
    }

pub can_sayable : Sayable can_format
can_sayable =
    record {
      header_bytes = each_bytes header (omega arith);
      header_size = refl;
      version_size = λ version known. ⊎_elim (λ v. omega arith) (λ v. omega arith) (versions version known);
      unused_alone = unused_is;
      record_back = λ version h o s known suits unused t.
          ⊎_elim
          (λ v. rw v (says_1 h o.controller o.pool o.receiving s unused (rw v at t)))
          (λ v. rw v (says_2 h o.controller o.pool o.receiving s suits unused (rw v at t)))
          (versions version known);
      record_alone = λ version h o s known suits r w.
          let valid = subst₂ (λ (x : Owner) (y : Settings). settings_valid x.receiving y ≡ true) (sym w.owner_read) (sym w.settings_read) suits in
          subst₂ (λ (x : Owner) (y : Settings). (can_say version h x y ≡ true) × (record_of version x y ≡ r)) w.owner_read w.settings_read
          (alone version h r known w.all_bytes w.whole w.kind_known valid);
    }

-- A valid configuration with numbers that fit is one that version 2 says

module _ (L : Limits) (few_controllers : L.controllers < 2 ^ 8) (few_objects : L.objects < 2 ^ 8) (c : Configuration can_format) (sized : Sized L c) where
  said_in_2 : configuration_valid L can_format c ≡ true → CanSay L can_format 2 c
  said_in_2 v =
      let p = placed L can_format c v in
      record {
        known = refl;
        valid = v;
        owner_places = sized.owner_places;
        settings_places = sized.settings_places;
        controllers = omega (arith, p.controllers_within);
        objects = omega (arith, p.within);
        records = λ h l.
            let o = owner_at c.owners h in
            let s = settings_at can_format c.settings h in
            both (lt-ltb o.pool 256 (pool_below o.receiving _ (p.pool_used h l)))
            (both (both (both (both (lt-ltb o.controller 256 (omega (arith, p.controller_used h l, p.controllers_within)))
            (lt-ltb s.payload 256 (payload_below s.payload _ (p.settings_used h l))))
            (lt-ltb s.padding 256 (sized.paddings h)))
            (lt-ltb s.code (2 ^ 32) (sized.codes h)))
            (lt-ltb s.mask (2 ^ 32) (sized.masks h)));
      }
    where
      pool_below : (receiving same : Bool) {pool : ℕ} → cond receiving (eqb pool 0) (ltb pool L.objects && same) ≡ true → pool < 2 ^ 8
      pool_below true same {pool} t = omega (arith, eqb-true pool 0 t)
      pool_below false same {pool} t = omega (arith, ltb-true pool L.objects (left (ltb pool L.objects) same t))

      payload_below : (payload : ℕ) (rest : Bool) → ((eqb payload longest_classic || eqb payload longest_fd) && rest) ≡ true → payload < 2 ^ 8
      payload_below payload rest t = go (decide (eqb payload longest_classic)) (left (eqb payload longest_classic || eqb payload longest_fd) rest t)
        where
          go : (eqb payload longest_classic ≡ true) ⊎ (eqb payload longest_classic ≡ false) → (eqb payload longest_classic || eqb payload longest_fd) ≡ true → payload < 2 ^ 8
          go (inl e) u = omega (arith, eqb-true payload longest_classic e)
          go (inr e) u = omega (arith, eqb-true payload longest_fd (rw e at u))

pub accepted_rule : (L : Limits) → L.controllers < 2 ^ 8 → L.objects < 2 ^ 8 → AcceptedRule L
accepted_rule L few_controllers few_objects c sized = (
  λ v. let said = (say_rule L can_format can_sayable 2 c).0 (facts_say L can_format 2 c (said_in_2 L few_controllers few_objects c sized v)) in (2, said.0, said.1),
  λ w. meaning_valid L can_format w.0 c w.1 w.2,
)
