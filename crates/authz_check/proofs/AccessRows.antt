-- Small lists of rules, and what the definition says of them.
use Rattle.std.proofs.Common.{◌≡◌, ℕ, true, false, List, [], ◌∷◌, map, Option, None, Some, refl}
use Rattle.std.specs.Prelude.{codes}
use Rattle.dsv_base.specs.Paths.{ancestors, parent_text, is_under}
use Rattle.authz_file.specs.declared.base.Base.{Base}
use Rattle.authz_file.specs.declared.base.Base.TheVariants.{All, LoggedIn, Anonymous, Named}
use Rattle.authz_file.specs.declared.right.Right.{Right}
use Rattle.authz_file.specs.declared.right.Right.TheVariants.{No, Read, Write}
use Rattle.authz_file.specs.declared.rule.Rule.{Rule}
use Rattle.authz_check.specs.Access.{access}
use Rattle.authz_check.specs.Everywhere.{all_access, closed}

-- lines of a section of every repository, and of one that names a repository
abbrev line : List ℕ → Base → Right → Rule
line path base right = record { repos = None; path = path; negated = false; base = base; right = right }

abbrev not_line : List ℕ → Base → Right → Rule
not_line path base right = record { repos = None; path = path; negated = true; base = base; right = right }

abbrev line_of : List ℕ → List ℕ → Base → Right → Rule
line_of name path base right = record { repos = Some name; path = path; negated = false; base = base; right = right }

abbrev alice : List ℕ
alice = codes "alice"

abbrev bob : List ℕ
bob = codes "bob"

abbrev only : List ℕ → Base
only name = Named (name ∷ [])

-- the users who are asked about: nobody, alice and bob
abbrev users : List (Option (List ℕ))
users = None ∷ Some alice ∷ Some bob ∷ []

abbrev rights_at : List Rule → List ℕ → List ℕ → List Right
rights_at rules name path = map (λ user. access rules name user path) users

-- `[/]` `* = r`, `[/sec]` `* =`: what a path below doesn't say, a path above does
abbrev open_but_sec : List Rule
open_but_sec = line (codes "/") All Read ∷ line (codes "/sec") All No ∷ []

nobody_reads : map (λ path. access open_but_sec (codes "demo") None path) (codes "/" ∷ codes "/pub/a" ∷ codes "/security" ∷ codes "/sec" ∷ codes "/sec/k" ∷ codes "/sec/k/l" ∷ []) ≡ Read ∷ Read ∷ Read ∷ No ∷ No ∷ No ∷ []
unfolding access ancestors parent_text
nobody_reads = refl

no_rules : rights_at [] (codes "demo") (codes "/a") ≡ No ∷ No ∷ No ∷ []
unfolding access ancestors parent_text
no_rules = refl

-- the section with the repository's name comes before the plain one of the same path, and after
-- those of paths below; another repository's name says nothing
name_first : map (λ name. rights_at (line (codes "/a") All Read ∷ line_of (codes "demo") (codes "/a") (only alice) No ∷ line (codes "/a/b") All Write ∷ line_of (codes "demo") (codes "/") All Write ∷ []) name (codes "/a")) (codes "demo" ∷ codes "dem" ∷ []) ≡ (Read ∷ No ∷ Read ∷ []) ∷ (Read ∷ Read ∷ Read ∷ []) ∷ []
unfolding access ancestors parent_text
name_first = refl

plain_below : rights_at (line_of (codes "demo") (codes "/") All Write ∷ line (codes "/a") All No ∷ []) (codes "demo") (codes "/a/b") ≡ No ∷ No ∷ No ∷ []
unfolding access ancestors parent_text
plain_below = refl

-- within one section the greatest right counts, wherever its line stands
union : rights_at (line (codes "/") (only alice) Write ∷ line (codes "/") All Read ∷ line (codes "/") (only alice) No ∷ line (codes "/") (only bob) No ∷ []) (codes "demo") (codes "/a") ≡ Read ∷ Write ∷ Read ∷ []
unfolding access ancestors parent_text
union = refl

-- a section whose lines speak of others decides nothing
goes_on : rights_at (line (codes "/") All Read ∷ line (codes "/sec") (only alice) Write ∷ []) (codes "demo") (codes "/sec/k") ≡ Read ∷ Write ∷ Read ∷ []
unfolding access ancestors parent_text
goes_on = refl

-- a section without any right decides
shut : rights_at (line (codes "/") All Write ∷ line (codes "/sec") (only alice) No ∷ []) (codes "demo") (codes "/sec") ≡ Write ∷ No ∷ Write ∷ []
unfolding access ancestors parent_text
shut = refl

-- whom the principals stand for, and with `~` before them
principals : map (λ base. rights_at (line (codes "/") base Read ∷ []) (codes "demo") (codes "/")) (All ∷ LoggedIn ∷ Anonymous ∷ only alice ∷ Named (bob ∷ alice ∷ []) ∷ Named [] ∷ [])
    ≡ (Read ∷ Read ∷ Read ∷ []) ∷ (No ∷ Read ∷ Read ∷ []) ∷ (Read ∷ No ∷ No ∷ []) ∷ (No ∷ Read ∷ No ∷ []) ∷ (No ∷ Read ∷ Read ∷ []) ∷ (No ∷ No ∷ No ∷ []) ∷ []
unfolding access ancestors parent_text
principals = refl

negated : map (λ base. rights_at (not_line (codes "/") base Read ∷ []) (codes "demo") (codes "/")) (All ∷ LoggedIn ∷ Anonymous ∷ only alice ∷ Named [] ∷ [])
    ≡ (No ∷ No ∷ No ∷ []) ∷ (Read ∷ No ∷ No ∷ []) ∷ (No ∷ Read ∷ Read ∷ []) ∷ (Read ∷ No ∷ Read ∷ []) ∷ (Read ∷ Read ∷ Read ∷ []) ∷ []
unfolding access ancestors parent_text
negated = refl

-- a closed folder in which another is open to one user
abbrev with_open : List Rule
with_open = line (codes "/") All Read ∷ line (codes "/") (only alice) Write ∷ line (codes "/sec") All No ∷ line (codes "/sec") (only alice) Write ∷ line (codes "/sec/open") (only bob) Read ∷ []

opened : map (rights_at with_open (codes "demo")) (codes "/" ∷ codes "/sec" ∷ codes "/sec/open/x" ∷ []) ≡ (Read ∷ Write ∷ Read ∷ []) ∷ (No ∷ Write ∷ No ∷ []) ∷ (No ∷ Write ∷ Read ∷ []) ∷ []
unfolding access ancestors parent_text
opened = refl

-- what is held everywhere under a path: a section that closes a part takes it from the whole
held : map (λ path. map (λ user. all_access with_open (codes "demo") user path Read) users) (codes "/" ∷ codes "/pub" ∷ codes "/sec" ∷ codes "/sec/open" ∷ []) ≡ (false ∷ true ∷ false ∷ []) ∷ (true ∷ true ∷ true ∷ []) ∷ (false ∷ true ∷ false ∷ []) ∷ (false ∷ true ∷ true ∷ []) ∷ []
unfolding all_access access ancestors parent_text is_under
held = refl

written : map (λ path. map (λ user. all_access with_open (codes "demo") user path Write) users) (codes "/" ∷ codes "/sec/open/x" ∷ []) ≡ (false ∷ true ∷ false ∷ []) ∷ (false ∷ true ∷ false ∷ []) ∷ []
unfolding all_access access ancestors parent_text is_under
written = refl

-- what is closed: a section that opens a part opens the whole in part
shut_under : map (λ path. map (λ user. closed with_open (codes "demo") user path) users) (codes "/" ∷ codes "/sec" ∷ codes "/sec/k" ∷ codes "/sec/open" ∷ codes "/security" ∷ []) ≡ (false ∷ false ∷ false ∷ []) ∷ (true ∷ false ∷ false ∷ []) ∷ (true ∷ false ∷ true ∷ []) ∷ (true ∷ false ∷ false ∷ []) ∷ (false ∷ false ∷ false ∷ []) ∷ []
unfolding closed access ancestors parent_text is_under
shut_under = refl

-- a section of another repository neither opens nor closes
others_sections : map (λ name. closed (line_of (codes "other") (codes "/a/b") All Write ∷ line (codes "/a") All No ∷ []) name None (codes "/a")) (codes "demo" ∷ codes "other" ∷ []) ≡ true ∷ false ∷ []
unfolding closed access ancestors parent_text is_under
others_sections = refl
