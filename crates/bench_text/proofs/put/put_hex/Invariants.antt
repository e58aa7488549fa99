-- A turn of the loop writes the digits of a byte behind those of the bytes before it.
use lib.ListN.{take}
use Rattle.bench_text.specs.Put.{Put, hex_of}
use Rattle.bench_text.proofs.put.put_hex.Given as goal

abbrev pub invariant-loop-byte : goal.invariant-loop-byte
invariant-loop-byte l = Put l.at (hex_of (take l.byte-index l.bytes)) l.initial.out l.out l.end
