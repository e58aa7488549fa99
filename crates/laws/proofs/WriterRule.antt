-- The writer of configurations, proved: its bytes are read back, and are the only ones for their meaning.
use Prim.Native.Nat.{ℕ, ◌+◌, ◌*◌, ◌≤◌, ◌<◌}
use mathlib.Core.Path.{◌≡◌, refl, ap, ap₂, sym, ◌∙◌}
use mathlib.Core.Bool.{Bool, true, false, not, cond}
use mathlib.Core.List.{List, [], ◌∷◌, ◌++◌, append_assoc}
use mathlib.Core.Logic.{⊎_elim}
use native.Mathlib.Omega.{arith}
use native.Mathlib.Decide.{dec_lt}
use native.Mathlib.Nat.{zero-add, mul-suc, mul-le-mul_left}
use lib.ListN.{length, take, drop, get_or, length-drop, take-append-drop}
use lib.Dec.{ltb}
use lib.Seq.{take_all, take_at, take-add, drop-drop, length-take-le, ext_get_or}
use borrow.Author.Tests.{eqb-true, ne_eqb, ltb-true, ltb-false, lt-ltb, le-ltb}
use Rattle.rules.specs.Limits.{Limits}
use Rattle.rules.specs.Format.{Format}
use Rattle.rules.specs.Repeat.{list_below, concat_below}
use Rattle.rules.specs.Bytes.{big_endian, part, splice}
use Rattle.rules.specs.Reason.{CAN_E_INIT_FAILED, SHEET_TOO_SHORT, first_reason, reasons_named}
use Rattle.rules.specs.Core.{Owner, unused_owner, owner_at}
use Rattle.rules.specs.Configuration.{Configuration, header_size, version_of, controllers_byte, objects_byte, owner_of, settings_at, configuration_valid, object_record, configuration_of}
use Rattle.rules.specs.Writer.{record_sayable, can_say, configuration_bytes, written_size, writer_checks, writer_reason, buffer_after}
use Rattle.laws.specs.WriterRule.{AllBytes, Says, RecordSays, Sayable, ReadBackRule, OnlyBytesRule, SayRule, CannotSayRule, ShortBufferRule, BufferKeptRule, WrittenRule}
use Rattle.laws.proofs.Tests.{decide, not_false}
use Rattle.laws.proofs.Repeat.{length-list_below, get_or-list_below}
use Rattle.laws.proofs.Reasons.{check_passed}
use Rattle.laws.proofs.Splices.{read_part, part_splice, drop_splice}
use Rattle.laws.proofs.Bytes.{each_bytes, append_bytes, part_bytes, big_endian_bytes, concat_bytes, spells, spelled}
use Rattle.laws.proofs.Bytes.{concat-length, concat_part, concat_parts, concat_ext}
use Rattle.laws.proofs.Configurations.{Placed, placed, CanSay, say_facts, facts_say, Accepted, accepted_facts, facts_accepted}

-- a list is that of what stands at its places
list_of : {A : Type 0} (d : A) (l : List A) (n : ℕ) (f : ℕ → A) → length l ≡ n → ((i : ℕ) → i < n → f i ≡ get_or l i d) → list_below n f ≡ l
list_of d l n f e same =
    ext_get_or d (list_below n f) l (length-list_below n f ∙ sym e)
    (λ i b. let b' : i < n = rw (length-list_below n f) at b in get_or-list_below n f i d b' ∙ same i b')

module _ (L : Limits) (F : Format) where
  -- what accepted bytes mean is valid
  pub meaning_valid : (version : ℕ) (c : Configuration F) (bytes : List ℕ) → Says L F version c bytes → configuration_valid L F c ≡ true
  meaning_valid version c bytes w = rw w.meaning at (accepted_facts L F bytes w.accepted).valid

  module _ (lawful : Sayable F) where
    -- Reading what was written
    module _ (version : ℕ) (c : Configuration F) (said : CanSay L F version c) where
      abbrev n : ℕ
      n = c.object_count

      abbrev o : ℕ → Owner
      o h = owner_at c.owners h

      abbrev s : ℕ → F.Settings
      s h = settings_at F c.settings h

      abbrev bytes : List ℕ
      bytes = configuration_bytes L F version c

      abbrev records : List ℕ
      records = concat_below n (λ h. F.record_of version (o h) (s h))

      at_places : Placed L F c
      at_places = placed L F c said.valid

      each : (h : ℕ) → h < n → RecordSays F version h (o h) (s h) (F.record_of version (o h) (s h))
      each h l =
          let pool_unused : (o h).receiving ≡ true → (o h).pool ≡ 0 = λ e. eqb-true (o h).pool 0 (rw e at (at_places.pool_used h l)) in
          lawful.record_back version h (o h) (s h) said.known (at_places.settings_used h l) pool_unused (said.records h l)

      -- the bytes one by one: three of the header, two of the version, the counts, a zero, and the records
      laid : bytes ≡ get_or F.header 0 0 ∷ get_or F.header 1 0 ∷ get_or F.header 2 0 ∷ (big_endian 2 version ++ (c.controller_count ∷ n ∷ 0 ∷ records))
      unfolding configuration_bytes big_endian list_below
      laid = ap (λ (x : List ℕ). x ++ (big_endian 2 version ++ (c.controller_count ∷ n ∷ 0 ∷ [])) ++ records) three
        where
          three : F.header ≡ get_or F.header 0 0 ∷ get_or F.header 1 0 ∷ get_or F.header 2 0 ∷ []
          three = sym (take_all 3 F.header (omega (arith, lawful.header_size))) ∙ sym (read_part 0 3 F.header 0 (omega (arith, lawful.header_size)))

      version_back : version_of bytes ≡ version
      unfolding big_endian
      version_back = rw laid (spells 2 version (lawful.version_size version said.known))

      record_at : (h : ℕ) → h < n → object_record L F bytes h ≡ F.record_of version (o h) (s h)
      unfolding big_endian
      record_at h l =
          rw (laid, ← drop-drop (F.record_size * h) header_size)
          (concat_part F.record_size n (λ i. F.record_of version (o i) (s i)) (λ i b. (each i b).whole) h l)

      controllers_back : controllers_byte bytes ≡ c.controller_count
      unfolding big_endian
      controllers_back = rw laid

      objects_back : objects_byte bytes ≡ n
      unfolding big_endian
      objects_back = rw laid

      -- what is read of a place, by whether it is in use
      place : {A : Type 0} (h : ℕ) (x d y : A) → (h < n → x ≡ y) → (n ≤ h → d ≡ y) → cond (ltb h (objects_byte bytes)) x d ≡ y
      place h x d y used free = rw objects_back (go (dec_lt h n))
        where
          go : Dec (h < n) → cond (ltb h n) x d ≡ y
          go (yes l) = rw (lt-ltb h n l) (used l)
          go (no l) = let b : n ≤ h = omega arith in rw (le-ltb h n b) (free b)

      owners_back : (h : ℕ) → h < L.objects → cond (ltb h (objects_byte bytes)) (owner_of F (version_of bytes) h (object_record L F bytes h)) unused_owner ≡ o h
      owners_back h b =
          place h _ unused_owner (o h) (λ l. rw (version_back, record_at h l) (each h l).owner_read) (λ l. sym (at_places.owner_free h l b))

      settings_back : (h : ℕ) → h < L.objects → cond (ltb h (objects_byte bytes)) (F.settings_of (version_of bytes) (object_record L F bytes h)) F.unused_settings ≡ s h
      settings_back h b =
          place h _ F.unused_settings (s h) (λ l. rw (version_back, record_at h l) (each h l).settings_read)
          (λ l. sym (lawful.unused_alone (s h) (at_places.settings_free h l b)))

      configuration_back : configuration_of L F bytes ≡ c
      unfolding configuration_of
      configuration_back =
          let owners = list_of unused_owner c.owners L.objects _ said.owner_places owners_back in
          let settings = list_of F.unused_settings c.settings L.objects _ said.settings_places settings_back in
          λ i. record { controller_count = controllers_back i; object_count = objects_back i; owners = owners i; settings = settings i }

      all_written : AllBytes bytes
      unfolding configuration_bytes
      all_written =
          let counts = each_bytes (c.controller_count ∷ n ∷ 0 ∷ []) (omega arith) in
          let from_version = append_bytes (big_endian 2 version) (c.controller_count ∷ n ∷ 0 ∷ []) (big_endian_bytes 2 version) counts in
          append_bytes (F.header ++ (big_endian 2 version ++ (c.controller_count ∷ n ∷ 0 ∷ []))) records
          (append_bytes F.header (big_endian 2 version ++ (c.controller_count ∷ n ∷ 0 ∷ [])) lawful.header_bytes from_version)
          (concat_bytes n (λ h. F.record_of version (o h) (s h)) (λ h l. (each h l).all_bytes))

      header_back : take (length F.header) bytes ≡ F.header
      unfolding configuration_bytes
      header_back = rw append_assoc (take_at F.header _ (length F.header) refl)

      read_back : Says L F version c bytes
      unfolding big_endian
      read_back =
          record {
            all_bytes = all_written;
            accepted =
                facts_accepted L F bytes (record {
                  header = header_back;
                  known = rw version_back said.known;
                  zero_byte = rw laid;
                  size = rw objects_back (rw laid (omega (arith, concat-length F.record_size n (λ h. F.record_of version (o h) (s h)) (λ h l. (each h l).whole))));
                  kinds = λ h l. let b : h < n = rw objects_back at l in rw (record_at h b) (each h b).kind_known;
                  valid = rw configuration_back said.valid;
                });
            version_read = version_back;
            meaning = configuration_back;
          }

    -- Writing what was read
    module _ (given : List ℕ) (all : AllBytes given) (ok : Accepted L F given) where
      abbrev version_given : ℕ
      version_given = version_of given

      abbrev count : ℕ
      count = objects_byte given

      abbrev meant : Configuration F
      meant = configuration_of L F given

      abbrev size : ℕ
      size = F.record_size

      abbrev owner_given : ℕ → Owner
      owner_given h = owner_at meant.owners h

      abbrev settings_given : ℕ → F.Settings
      settings_given h = settings_at F meant.settings h

      in_places : Placed L F meant
      in_places = placed L F meant ok.valid

      count_within : count ≤ L.objects
      unfolding configuration_of
      count_within = in_places.within

      -- a record that is read says what stands at its place
      read_says : (h : ℕ) → h < count → RecordSays F version_given h (owner_given h) (settings_given h) (object_record L F given h)
      unfolding configuration_of
      read_says h l =
          let room : header_size + size * h + size ≤ length given = rw ok.size (omega (arith, mul-suc size h, mul-le-mul_left size l)) in
          let b : h < L.objects = omega (arith, count_within) in
          record {
            all_bytes = part_bytes (header_size + size * h) size given all;
            whole = length-take-le size (drop (header_size + size * h) given) (simp length-drop (omega arith));
            kind_known = ok.kinds h l;
            owner_read = sym (get_or-list_below L.objects _ h unused_owner b ∙ rw (lt-ltb h count l));
            settings_read = sym (get_or-list_below L.objects _ h F.unused_settings b ∙ rw (lt-ltb h count l));
          }

      alone : (h : ℕ) → h < count
          → (record_sayable L F version_given meant h ≡ true) × (F.record_of version_given (owner_given h) (settings_given h) ≡ object_record L F given h)
      unfolding configuration_of
      alone h l =
          lawful.record_alone version_given h (owner_given h) (settings_given h) ok.known (in_places.settings_used h l) (object_record L F given h) (read_says h l)

      can_be_said : CanSay L F version_given meant
      unfolding configuration_of
      can_be_said =
          record {
            known = ok.known;
            valid = ok.valid;
            owner_places = length-list_below L.objects _;
            settings_places = length-list_below L.objects _;
            controllers = all 5;
            objects = all 6;
            records = λ h l. (alone h l).0;
          }

      -- eight bytes of the header, and the records behind them
      first_eight : F.header ++ (big_endian 2 version_given ++ (controllers_byte given ∷ count ∷ 0 ∷ [])) ≡ take header_size given
      unfolding list_below
      first_eight =
          let long : header_size ≤ length given = omega (arith, ok.size) in
          let header : F.header ≡ take 3 given = sym (rw lawful.header_size at ok.header) in
          let number : List ℕ = get_or given 3 0 ∷ get_or given 4 0 ∷ [] in
          let version : big_endian 2 version_given ≡ part 3 2 given = spelled number (each_bytes number (all 3, (all 4, tt))) ∙ read_part 3 2 given 0 (omega arith) in
          let counts : controllers_byte given ∷ count ∷ 0 ∷ [] ≡ part 5 3 given =
          ap (λ (z : ℕ). controllers_byte given ∷ count ∷ z ∷ []) (sym ok.zero_byte) ∙ read_part 5 3 given 0 long in
          ap₂ ◌++◌ header (ap₂ ◌++◌ version counts ∙ sym (take-add 2 3 (drop 3 given) ∙ rw drop-drop)) ∙ sym (take-add 3 5 given)

      written_back : configuration_bytes L F version_given meant ≡ given
      unfolding configuration_bytes configuration_of
      written_back =
          let records = concat_ext count _ (λ h. object_record L F given h) (λ h l. (alone h l).1) ∙ concat_parts size header_size count given in
          let rest : part header_size (size * count) given ≡ drop header_size given =
          take_all (size * count) (drop header_size given) (simp length-drop (omega (arith, ok.size))) in
          ap₂ ◌++◌ first_eight (records ∙ rest) ∙ take-append-drop header_size given

    -- bytes that say something are those that the writer writes
    said_by : (version : ℕ) (c : Configuration F) (bytes : List ℕ) → Says L F version c bytes
        → (can_say L F version c ≡ true) × (configuration_bytes L F version c ≡ bytes)
    said_by version c bytes w =
        let ok = accepted_facts L F bytes w.accepted in
        let can : can_say L F (version_of bytes) (configuration_of L F bytes) ≡ true = facts_say L F _ _ (can_be_said bytes w.all_bytes ok) in
        let same : configuration_bytes L F (version_of bytes) (configuration_of L F bytes) ≡ bytes = written_back bytes w.all_bytes ok in
        (rw (w.version_read, w.meaning) at can, rw (w.version_read, w.meaning) at same)

pub read_back_rule : (L : Limits) (F : Format) → Sayable F → ReadBackRule L F
read_back_rule L F lawful version c can = read_back L F lawful version c (say_facts L F version c can)

pub only_bytes_rule : (L : Limits) (F : Format) → Sayable F → OnlyBytesRule L F
only_bytes_rule L F lawful version c bytes others w v = sym (said_by L F lawful version c bytes w).1 ∙ (said_by L F lawful version c others v).1

pub say_rule : (L : Limits) (F : Format) → Sayable F → SayRule L F
say_rule L F lawful version c = (λ can. (configuration_bytes L F version c, read_back_rule L F lawful version c can), λ w. (said_by L F lawful version c w.0 w.1).0)

-- the reason, by what the version can say and whether the buffer is short
reason_of : (L : Limits) (F : Format) (version : ℕ) (c : Configuration F) (room : ℕ)
    → writer_reason L F version c room ≡ cond (can_say L F version c) (cond (ltb room (written_size L F c)) SHEET_TOO_SHORT 0) CAN_E_INIT_FAILED
unfolding writer_reason first_reason
reason_of L F version c room = go (can_say L F version c)
  where
    go : (said : Bool)
        → cond (not said) CAN_E_INIT_FAILED (cond (ltb room (written_size L F c)) SHEET_TOO_SHORT 0) ≡ cond said (cond (ltb room (written_size L F c)) SHEET_TOO_SHORT 0) CAN_E_INIT_FAILED
    go true = refl
    go false = refl

pub cannot_say_rule : (L : Limits) (F : Format) → Sayable F → CannotSayRule L F
cannot_say_rule L F lawful version c room = (only, every)
  where
    only : writer_reason L F version c room ≡ CAN_E_INIT_FAILED → (bytes : List ℕ) → Says L F version c bytes → ⊥
    only nine bytes w = go (ltb room (written_size L F c)) (rw (reason_of L F version c room, (said_by L F lawful version c bytes w).0) at nine)
      where
        go : (short : Bool) → cond short SHEET_TOO_SHORT 0 ≡ CAN_E_INIT_FAILED → ⊥
        go true e = omega arith
        go false e = omega arith

    every : ((bytes : List ℕ) → Says L F version c bytes → ⊥) → writer_reason L F version c room ≡ CAN_E_INIT_FAILED
    every none_says =
        ⊎_elim (λ t. absurd (none_says _ (read_back_rule L F lawful version c t)))
        (λ (t : can_say L F version c ≡ false). rw (reason_of L F version c room, t)) (decide (can_say L F version c))

pub short_buffer_rule : (L : Limits) (F : Format) → Sayable F → ShortBufferRule L F
short_buffer_rule L F lawful version c room =
    (λ e. only (can_say L F version c) (ltb room (written_size L F c)) refl refl (sym (reason_of L F version c room) ∙ e), every)
  where
    only : (said short : Bool) → can_say L F version c ≡ said → ltb room (written_size L F c) ≡ short
        → cond said (cond short SHEET_TOO_SHORT 0) CAN_E_INIT_FAILED ≡ SHEET_TOO_SHORT
        → ((bytes : List ℕ) × Says L F version c bytes) × (room < written_size L F c)
    only true true t s e = ((say_rule L F lawful version c).0 t, ltb-true room (written_size L F c) s)
    only true false t s e = absurd (omega arith)
    only false short t s e = absurd (omega arith)

    every : ((bytes : List ℕ) × Says L F version c bytes) × (room < written_size L F c) → writer_reason L F version c room ≡ SHEET_TOO_SHORT
    every w = rw (reason_of L F version c room, (say_rule L F lawful version c).1 w.0, lt-ltb room (written_size L F c) w.1)

pub buffer_kept_rule : (L : Limits) (F : Format) → BufferKeptRule L F
unfolding buffer_after
buffer_kept_rule L F version c buffer refused = rw (ne_eqb (writer_reason L F version c (length buffer)) 0 refused)

pub written_rule : (L : Limits) (F : Format) → Sayable F → WrittenRule L F
unfolding writer_reason buffer_after reasons_named configuration_of
written_rule L F lawful version c buffer None-found =
    let bytes = configuration_bytes L F version c in
    let checks = writer_checks L F version c (length buffer) in
    let can = not_false (can_say L F version c) (check_passed 0 checks refl None-found) in
    let says = read_back_rule L F lawful version c can in
    let size : length bytes ≡ written_size L F c =
    (accepted_facts L F bytes says.accepted).size ∙ ap (λ (d : Configuration F). written_size L F d) says.meaning in
    let fits : 0 + length bytes ≤ length buffer = omega (arith, size, ltb-false (length buffer) (written_size L F c) (check_passed 1 checks refl None-found)) in
    let after : buffer_after L F version c buffer ≡ splice 0 bytes buffer = rw None-found in
    record { says = rw (after, ← size, part_splice 0 bytes buffer fits) says; rest = rw (after, ← size) (rw zero-add at (drop_splice 0 bytes buffer fits)) }
