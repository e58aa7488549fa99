use Prim.Native.Nat.{ℕ, ◌+◌, ◌*◌, ◌≤◌}
use mathlib.Core.Path.{◌≡◌, refl, ap, ap₂, sym, ◌∙◌}
use mathlib.Core.List.{List}
use native.Mathlib.Omega.{arith}
use lib.ListN.{length}
use Rattle.rules.specs.Repeat.{concat_below}
use Rattle.rules.specs.Core.{Owner, owner_at}
use Rattle.rules.specs.Configuration.{Configuration, header_size, settings_at}
use Rattle.rules.specs.Can.{Settings, can_format, record_of}
use Rattle.laws.proofs.Splices.{splice_nil, length_splice}
use Rattle.can_writer.specs.Records.{record_at}
use Rattle.can_writer.proofs.Laws.{record_whole, record_more}
use Rattle.can_writer.proofs.records.put_records.Goals as goal

pub loop-h-init : goal.loop-h-init
unfolding concat_below
loop-h-init c = (refl, sym (splice_nil header_size _))

pub put_bytes-requires : goal.put_bytes-requires
put_bytes-requires c =
    let h : ℕ = c.loop-h.h in
    let os : List Owner = c.args.setup.now.owners in
    let ss : List Settings = c.args.setup.now.settings in
    let owners = ap (λ (s : Configuration can_format). s.owners) c.setup.view_is in
    let settings = ap (λ (s : Configuration can_format). s.settings) c.setup.view_is in
    let record_is : c.record_bytes-record.result ≡ record_at c.args.version os ss h =
    rw (owners, settings) at (c.record_bytes-record.ensures ∙ ap₂ (record_of c.args.version) c.read.ensures c.read-in-loop-h.ensures)
    in
    let many = ap (λ (s : Configuration can_format). s.object_count) c.setup.view_is in
    let whole = ap length record_is ∙ record_whole c.args.version (owner_at os h) (settings_at can_format ss h) in
    omega (arith, c.requires, whole, many, c.loop-h.invariant.0)

pub loop-h-preserved : goal.loop-h-preserved
loop-h-preserved c =
    let h : ℕ = c.loop-h.h in
    let os : List Owner = c.args.setup.now.owners in
    let ss : List Settings = c.args.setup.now.settings in
    let owners = ap (λ (s : Configuration can_format). s.owners) c.setup.view_is in
    let settings = ap (λ (s : Configuration can_format). s.settings) c.setup.view_is in
    let record_is : c.record_bytes-record.result ≡ record_at c.args.version os ss h =
    rw (owners, settings) at (c.record_bytes-record.ensures ∙ ap₂ (record_of c.args.version) c.read.ensures c.read-in-loop-h.ensures)
    in
    let many = ap (λ (s : Configuration can_format). s.object_count) c.setup.view_is in
    let whole = ap length record_is ∙ record_whole c.args.version (owner_at os h) (settings_at can_format ss h) in
    let room : header_size + can_format.record_size * h + length c.record_bytes-record.result ≤ length c.args.buffer.now = omega (arith, c.requires, whole, many) in
    let at = c.loop-h in (
      ap length c.put_bytes.ensures ∙ length_splice _ _ _ (omega (arith, room, at.invariant.0)) ∙ at.invariant.0,
      record_more c.args.version os ss h c.args.buffer.now (omega (arith, room)) at.invariant.1 record_is c.put_bytes.ensures,
    )
