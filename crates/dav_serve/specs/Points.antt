-- What a connection works with, as contracts see it.
use Rattle.std.specs.Prelude.{ℕ, Bool, List, Option}
use Rattle.dav_machine.specs.Histories.{HistoryEntry}

-- the history at the turn's last call, the bytes that the source has left and whether it is over, the bytes that the
-- sink has taken, and the clock's readings; bytes and readings where they are told
pub record Point : Type 0 where
  pub history : List HistoryEntry
  pub left : Option (List ℕ)
  pub over : Bool
  pub taken : Option (List ℕ)
  pub readings : Option (List ℕ)

-- .. without the source, which an answer leaves alone
pub record Answering : Type 0 where
  pub history : List HistoryEntry
  pub taken : Option (List ℕ)
  pub readings : Option (List ℕ)

-- the part of a point that an answer works with
abbrev pub answering : Point → Answering
answering p = record { history = p.history; taken = p.taken; readings = p.readings }
