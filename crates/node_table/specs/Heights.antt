-- How long ways of names are, as far as the limits of paths need it: a greatest length stands for more, too.
use Rattle.std.specs.Prelude.{◌+◌, min, max, length}
use Rattle.rev_nodes.specs.declared.height.Height.{Height}
use Rattle.node_table.specs.Ways.{Name}

-- there is no way
abbrev pub no_height : Height
no_height = record { names = 0; bytes = 0 }

-- with a name and a slash before each way
abbrev pub height_below : Name → Height → Height
height_below n below = record { names = min 255 (below.names + 1); bytes = min 65535 (below.bytes + length n + 1) }

-- the greater of each
abbrev pub higher : Height → Height → Height
higher a b = record { names = max a.names b.names; bytes = max a.bytes b.bytes }
