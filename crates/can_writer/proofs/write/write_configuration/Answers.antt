-- Header and records, one right behind the other, are the bytes that the rules have for the configuration.
use mathlib.Core.Path.{ap, sym, ◌∙◌}
use mathlib.Core.List.{[], ◌∷◌, ◌++◌}
use native.Mathlib.Omega.{arith}
use lib.ListN.{length}
use Rattle.rules.specs.Repeat.{concat_below}
use Rattle.rules.specs.Bytes.{big_endian}
use Rattle.rules.specs.Configuration.{Configuration, header_size}
use Rattle.rules.specs.Writer.{configuration_bytes}
use Rattle.rules.specs.Can.{can_format, header}
use Rattle.laws.proofs.Splices.{splice_then, length_splice}
use Rattle.can_config.specs.View.{view_setup}
use Rattle.can_writer.specs.Records.{record_at}
use Rattle.can_writer.proofs.Laws.{header_whole}
use Rattle.can_writer.proofs.Replies.{not_said, too_short, written}
use Rattle.can_writer.proofs.write.write_configuration.Goals as goal

pub put_records-requires : goal.put_records-requires
put_records-requires c =
    let many = ap (λ (s : Configuration can_format). s.object_count) c.setup.view_is in
    let room = c.if-buffer-size.false in
    let within = c.can_say.ensures.within c.if-not-can_say.false in
    let same = ap length c.put_header.ensures ∙ length_splice 0 _ c.args.buffer.now (rw header_whole (omega arith)) in
    (within.1, omega arith)

pub returns-then-not-can_say : goal.returns-then-not-can_say
returns-then-not-can_say c = not_said c.args.version (view_setup c.args.setup) _ (sym c.can_say.ensures.said ∙ c.if-not-can_say.true)

pub returns-then-buffer-size : goal.returns-then-buffer-size
returns-then-buffer-size c =
    let many = ap (λ (s : Configuration can_format). s.object_count) c.setup.view_is in
    too_short c.args.version (view_setup c.args.setup) _ (sym c.can_say.ensures.said ∙ c.if-not-can_say.false) (rw many at c.if-buffer-size.true)

pub returns : goal.returns
unfolding configuration_bytes
returns c =
    let a = c.args in
    let many = ap (λ (s : Configuration can_format). s.object_count) c.setup.view_is in
    let few = ap (λ (s : Configuration can_format). s.controller_count) c.setup.view_is in
    let given = view_setup a.setup in
    let head = header ++ (big_endian 2 a.version ++ (given.controller_count ∷ given.object_count ∷ 0 ∷ [])) in
    let records = concat_below given.object_count (record_at a.version given.owners given.settings) in
    rw many
    (written a.version given a.buffer.now (sym c.can_say.ensures.said ∙ c.if-not-can_say.false) (rw many at c.if-buffer-size.false)
    (splice_then 0 header_size head records a.buffer.now (rw (few, many) at c.put_header.ensures) c.put_records.ensures (rw header_whole) (omega arith)))
