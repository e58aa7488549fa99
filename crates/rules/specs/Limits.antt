-- How large a chip is, and what follows from it. 01, "What the bench is made of".
use Rattle.std.specs.Prelude.{ℕ, ◌+◌, ◌*◌}

pub record Limits : Type 0 where
  -- places for controllers
  pub controllers : ℕ
  -- places for hardware objects
  pub objects : ℕ
  -- bytes of message RAM for each object
  pub object_size : ℕ
  -- bytes of an object's length
  pub length_size : ℕ

-- "Mailbox memory": the message RAM has exactly so many bytes
abbrev pub ram_size : Limits → ℕ
ram_size L = L.object_size * L.objects

-- no call writes more notifications than this
abbrev pub notification_limit : Limits → ℕ
notification_limit L = L.controllers + L.objects

-- "Notice sheet": it must hold at least so many words, four to a notification
abbrev pub sheet_size : Limits → ℕ
sheet_size L = 4 * notification_limit L

-- object h starts here in the message RAM
abbrev pub object_start : Limits → ℕ → ℕ
object_start L h = L.object_size * h
