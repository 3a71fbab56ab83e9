-- The uuid of a repository: 36 bytes, lower-case hexadecimal digits in groups of 8, 4, 4, 4 and 12,
-- with `-` between.
use Rattle.std.specs.Prelude.{ℕ, Bool, false, ◌&&◌, ◌||◌, List, Option, None, Some, length, nat_eq, nat_le, if◌then◌else◌}
use Rattle.std.specs.List.{list_all}
use Rattle.std.specs.Option.{option_and_then, option_map_or}
use Rattle.std.specs.Char.{is_ascii_digit}
use Rattle.dsv_base.specs.Lines.{cut_at}

-- a decimal digit or `a` to `f`
abbrev pub is_uuid_digit : ℕ → Bool
is_uuid_digit b = is_ascii_digit b || (nat_le 97 b && nat_le b 102)

-- so many digits of a uuid
abbrev pub is_uuid_group : ℕ → List ℕ → Bool
is_uuid_group count group = nat_eq (length group) count && list_all is_uuid_digit group

-- what stands after a group of so many digits and the `-` that ends it
abbrev pub after_uuid_group : ℕ → List ℕ → Option (List ℕ)
after_uuid_group count text = option_and_then (λ cut. if is_uuid_group count cut.0 then Some cut.1 else None) (cut_at 45 text)

-- what stands after groups of 8, 4 and 4, each with its `-`
abbrev pub after_three_groups : List ℕ → Option (List ℕ)
after_three_groups text = option_and_then (after_uuid_group 4) (option_and_then (after_uuid_group 4) (after_uuid_group 8 text))

-- lower-case hexadecimal digits in groups of 8, 4, 4, 4 and 12, with `-` between
unfoldable pub is_uuid : List ℕ → Bool
is_uuid text = option_map_or (is_uuid_group 12) (option_and_then (after_uuid_group 4) (after_three_groups text)) false
