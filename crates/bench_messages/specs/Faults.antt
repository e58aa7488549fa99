-- The first rule that a configuration's bytes break, in words.
use Prim.Native.String.{String}
use Rattle.can_faults.specs.declared.fault.OutlineRule.{OutlineRule}
use Rattle.can_faults.specs.declared.fault.OutlineRule.TheVariants as outlines
use Rattle.can_faults.specs.declared.fault.RecordRule.{RecordRule}
use Rattle.can_faults.specs.declared.fault.RecordRule.TheVariants as records
use Rattle.can_faults.specs.declared.fault.PoolRule.{PoolRule}
use Rattle.can_faults.specs.declared.fault.PoolRule.TheVariants as pools
use Rattle.can_faults.specs.declared.fault.Fault.{Fault}
use Rattle.can_faults.specs.declared.fault.Fault.TheVariants as faults

-- a rule of the outline; the numbers are what was found
abbrev pub outline_text : OutlineRule → String
outline_text outlines.Mark = "the first three bytes are not 43 48 42"
outline_text outlines.Version = "version %0 %0, expected 0 1 or 0 2"
outline_text outlines.Controllers = "%c, expected 1 to 4"
outline_text outlines.Objects = "%o, expected at most 32"
outline_text outlines.ZeroByte = "byte 7 is %h, expected 00"
outline_text outlines.Size = "%b, expected %0 for %o"

-- a rule of a record; the numbers are the object, and what was found
abbrev pub record_text : RecordRule → String
record_text records.Controller = "object %0: controller %0, expected below %0"
record_text records.Kind = "object %0: kind %0, expected 0 to send or 1 to receive"
record_text records.Payload = "object %0: payload %0, expected 8 or 64"
record_text records.SendingCode = "object %0: code %x, expected 0 where it sends"
record_text records.SendingMask = "object %0: mask %x, expected 0 where it sends"
record_text records.Pool = "object %0: pool %0, expected 0 to 31"
record_text records.ReceivingPadding = "object %0: padding %h, expected 00 where it receives"
record_text records.CodeBits = "object %0: code %x, expected bits 30 and 29 clear"
record_text records.MaskBits = "object %0: mask %x, expected bits 31 to 29 clear"
record_text records.StandardCode = "object %0: code %x, expected bits 28 to 11 clear where bit 31 is"
record_text records.StandardMask = "object %0: mask %x, expected bits 28 to 11 clear where the code's bit 31 is"
record_text records.StrayBit = "object %0: code %x, expected bit %0 clear as in mask %x"

-- where objects of a pool differ; the numbers are the object, what was found, what the lowest one has, which that is, and the pool
abbrev pub pool_text : PoolRule → String
pool_text pools.Controller = "object %0: controller %0, expected %0 as object %0 of pool %0"
pool_text pools.Payload = "object %0: payload %0, expected %0 as object %0 of pool %0"
pool_text pools.Padding = "object %0: padding %h, expected %h as object %0 of pool %0"

abbrev pub fault_text : Fault → String
fault_text (faults.Outline r) = outline_text r
fault_text (faults.Record r object) = record_text r
fault_text (faults.Pool r object lowest) = pool_text r

-- where none is broken
abbrev pub no_fault_text : String
no_fault_text = "no rule is broken"
