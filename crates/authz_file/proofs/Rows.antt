-- Small files, and what the definition says of them.
use Rattle.std.proofs.Common.{◌≡◌, ℕ, true, false, List, [], ◌∷◌, Result, Ok, Err, Some, None, refl}
use Rattle.std.specs.Prelude.{codes, map}
use Rattle.std.specs.List.{join_with_byte}
use Rattle.std.specs.Str.{is_utf8, chars}
use lib.Utf8.{encode}
use Rattle.dsv_base.specs.Lines.{lines_of}
use Rattle.dsv_base.specs.Paths.{is_path}
use Rattle.dsv_base.specs.Names.{is_repository_name}
use Rattle.dsv_base.specs.TextFiles.{file_lines}
use Rattle.authz_file.specs.declared.rule.Rule.{Rule}
use Rattle.authz_file.specs.declared.rules.Rules.{Rules}
use Rattle.authz_file.specs.declared.base.Base.{Base}
use Rattle.authz_file.specs.declared.base.Base.TheVariants.{All, LoggedIn, Named}
use Rattle.authz_file.specs.declared.right.Right.{Right}
use Rattle.authz_file.specs.declared.right.Right.TheVariants.{No, Read, Write}
use Rattle.authz_file.specs.declared.rules_fault.RulesFault.{RulesFault}
use Rattle.authz_file.specs.declared.rules_fault.RulesFault.TheVariants.{BadLine, BadSection, BadAccess, UnknownGroup, GroupCycle}
use Rattle.authz_file.specs.Lines.{continued, joined_lines}
use Rattle.authz_file.specs.Words.{key_value, words_of, who_of, right_of}
use Rattle.authz_file.specs.Sections.{section_path, split_repos, place_of, section_named}
use Rattle.authz_file.specs.Entries.{group_entry, alias_entry, grant_entry, entry_at, entries_of, file_entries}
use Rattle.authz_file.specs.Groups.{place_of_label, targets, reached, names_in_order, names_at}
use Rattle.authz_file.specs.Resolving.{entry_fault, entry_rule, resolved, rules_of}

abbrev file : List (List ℕ) → List ℕ
file lines = join_with_byte 10 lines

abbrev plain : List ℕ → Base → Right → Rule
plain path base right = record { repos = None; path = path; negated = false; base = base; right = right }

abbrev rules : List Rule → Result Rules RulesFault
rules list = Ok (record { list = list })

abbrev files : List (List ℕ)
files =
    file (codes "[/]" ∷ codes "* = r" ∷ codes "alice = rw" ∷ codes "[/sec]" ∷ codes "* =" ∷ codes "alice = rw" ∷ [] ∷ [])
    ∷ file (codes "[groups]" ∷ codes "a = @b" ∷ codes "b = @a" ∷ [])
    ∷ file (codes "[/]" ∷ codes "@c = r" ∷ [])
    ∷ file (codes "[groups]" ∷ codes "a = bob," ∷ codes "# more" ∷ [] ∷ codes "  ann" ∷ codes "[/]" ∷ codes "@a = r" ∷ [])
    ∷ file (codes "[/]" ∷ codes "~bob = r" ∷ [])
    ∷ file (codes "[/]" ∷ codes "&ali = rw" ∷ codes "[aliases]" ∷ codes "ali : alice" ∷ [])
    ∷ file (codes "[demo:/sec]" ∷ codes "$authenticated=r" ∷ [])
    ∷ file (codes "[/a]" ∷ codes "x = r" ∷ codes "y = r" ∷ codes "[/b]" ∷ codes "x = r" ∷ codes "[/a/]" ∷ codes "x = rw" ∷ [])
    ∷ file (codes "[groups]" ∷ codes "a = @b, u" ∷ codes "b = z, @c, a" ∷ codes "c = a, @d" ∷ codes "d = &x" ∷ codes "[aliases]" ∷ codes "x = ml" ∷ codes "[/]" ∷ codes "@a = r" ∷ [])
    ∷ file (codes "[groups]" ∷ codes "c = @a" ∷ codes "a = @b" ∷ codes "b = @a" ∷ [])
    ∷ file (codes "[groups]" ∷ codes "a = @a" ∷ codes "a = x" ∷ codes "[/]" ∷ codes "@a = r" ∷ [])
    ∷ file (codes "[/]" ∷ codes "@c = r" ∷ codes "x" ∷ [])
    ∷ file (codes "  [/]" ∷ [])
    ∷ file (codes "[/]" ∷ codes "  x = r" ∷ [])
    ∷ file (codes "[//]" ∷ [])
    ∷ file (codes "[:glob:/x/*]" ∷ [])
    ∷ file (codes "[/]" ∷ codes "a = w" ∷ [])
    ∷ file (codes "[/]" ∷ codes "~ = r" ∷ [])
    ∷ []

abbrev answers : List (Result Rules RulesFault)
answers =
    rules (plain (codes "/") All Read ∷ plain (codes "/") (Named (codes "alice" ∷ [])) Write ∷ plain (codes "/sec") All No ∷ plain (codes "/sec") (Named (codes "alice" ∷ [])) Write ∷ [])
    ∷ Err (GroupCycle 2)
    ∷ Err (UnknownGroup 2)
    ∷ rules (plain (codes "/") (Named (codes "ann" ∷ codes "bob" ∷ [])) Read ∷ [])
    ∷ rules (record { repos = None; path = codes "/"; negated = true; base = Named (codes "bob" ∷ []); right = Read } ∷ [])
    ∷ rules (plain (codes "/") (Named (codes "alice" ∷ [])) Write ∷ [])
    ∷ rules (record { repos = Some (codes "demo"); path = codes "/sec"; negated = false; base = LoggedIn; right = Read } ∷ [])
    ∷ rules (plain (codes "/a") (Named (codes "y" ∷ [])) Read ∷ plain (codes "/b") (Named (codes "x" ∷ [])) Read ∷ plain (codes "/a") (Named (codes "x" ∷ [])) Write ∷ [])
    ∷ rules (plain (codes "/") (Named (codes "a" ∷ codes "ml" ∷ codes "u" ∷ codes "z" ∷ [])) Read ∷ [])
    ∷ Err (GroupCycle 3)
    ∷ rules (plain (codes "/") (Named (codes "x" ∷ [])) Read ∷ [])
    ∷ Err (BadLine 3)
    ∷ Err (BadLine 1)
    ∷ Err (BadLine 2)
    ∷ Err (BadSection 1)
    ∷ Err (BadSection 1)
    ∷ Err (BadAccess 2)
    ∷ Err (BadLine 2)
    ∷ []

rows : map rules_of files ≡ answers
unfolding rules_of resolved entry_fault entry_rule names_at names_in_order reached targets place_of_label file_entries entries_of entry_at grant_entry alias_entry group_entry section_named place_of split_repos section_path right_of who_of words_of key_value joined_lines continued file_lines lines_of is_path is_repository_name is_utf8 chars encode
rows = refl
