-- The bytes that are read spell the code.
use native.Mathlib.Omega.{arith}
use Rattle.rules.specs.Bytes.{number}
use Rattle.can_config.proofs.Codes.{code_read}
use Rattle.can_config.proofs.record.record_code.Goals as goal
use Rattle.can_config.proofs.record.record_code.Goals.{then-says_pool, else-says_pool}

pub returns : goal.returns
unfolding number
returns c =
    let a = c.args in
    rw (code_read a.bytes.now c.requires a.version, ← c.says_pool.ensures)
    (elim c.if-says_pool.branch [
      | then-says_pool w ↦ rw w.if-says_pool.true (omega (arith, c.from_be_bytes.ensures, w.last-is))
      | else-says_pool w ↦ rw w.if-says_pool.false (omega (arith, c.from_be_bytes.ensures, w.last-is))
    ])
