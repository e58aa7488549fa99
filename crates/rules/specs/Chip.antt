-- The limits of this chip: the one place that gives them. 01, "What the bench is made of".
use Rattle.rules.specs.Limits.{Limits}

abbrev pub chip : Limits
chip = record { controllers = 4; objects = 32; object_size = 72; length_size = 1 }
