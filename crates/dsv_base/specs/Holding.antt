-- How bytes are held, which no caller sees.
use Rattle.std.specs.Prelude.{ℕ, List}
use Rattle.dsv_base.specs.declared.held.Held.{Held}
use Rattle.dsv_base.specs.declared.held.Held.TheVariants.{Alone, Together}

-- the bytes, whoever holds them
abbrev pub held_bytes : Held → List ℕ
held_bytes (Alone bytes) = bytes.items
held_bytes (Together part) = part
