-- The worked script and some faults, computed.
use Rattle.std.proofs.Common.{◌≡◌, ℕ, List, [], ◌∷◌, ◌++◌, Ok, Err, refl}
use Rattle.std.specs.Prelude.{codes}
use Rattle.std.specs.Str.{is_utf8, chars}
use Rattle.std.proofs.Math.Utf8.{encode}
use Rattle.dsv_base.specs.Names.{is_repository_name, is_user_name}
use Rattle.dsv_base.specs.Numbers as numbers
use Rattle.dsv_base.specs.Paths.{is_path}
use Rattle.dsv_base.specs.declared.prop.Prop.{Prop}
use Rattle.rev_nodes.specs.declared.change.Change.TheVariants.{Put, Mkdir}
use Rattle.rev_nodes.specs.declared.commit.Commit.{Commit}
use Rattle.rev_scripts.specs.declared.script_fault.ScriptFault.TheVariants.{BadScript}
use Rattle.rev_nodes.specs.PropertyNames.{is_property_name, is_revision_property}
use Rattle.rev_scripts.specs.Uuids.{is_uuid}
use Rattle.rev_scripts.specs.Items.{item_from, item_after, item_of}
use Rattle.rev_scripts.specs.Scripts.{heading_from, revision_line, revision_head, next_item, items_from, revision_from, repository_from}

abbrev heading : List ℕ
heading = codes "davsvn-script 1\nrepos demo\nuuid 3f2b1c00-0000-4000-8000-000000000001\n"

abbrev revision_1 : List ℕ
revision_1 = codes "revision 1 1704067201000000 5\nalice\nprop 7 6\nsvn:loglayout\nmkdir 4\n/pub\nput 6 3\n/pub/aabc\nend\n"

abbrev log : Prop
log = record { name = codes "svn:log"; value = codes "layout" }

abbrev commit_1 : Commit
commit_1 = record { author = codes "alice"; moment = 1704067201000000; props = log ∷ []; changes = Mkdir (codes "/pub") ∷ Put (codes "/pub/a") (codes "abc") ∷ [] }

worked_heading : heading_from (heading ++ revision_1) ≡ Ok (codes "demo", codes "3f2b1c00-0000-4000-8000-000000000001", revision_1)
unfolding heading_from is_repository_name is_uuid
worked_heading = refl

-- the head of revision 1 stands in lines 7 and 8, its property in 9 and 10, and so on
worked_revision : revision_from 1 7 revision_1 ≡ Ok (record { commit = commit_1; lines = 11 ∷ 13 ∷ []; after = Ok (16, []) })
unfolding revision_from revision_head revision_line items_from next_item item_from item_after item_of numbers.read_decimal is_path is_user_name is_property_name is_revision_property is_utf8 chars encode
worked_revision = refl

-- a uuid in upper case; a second head; no end; a change in revision 0
bad_uuid : heading_from (codes "davsvn-script 1\nrepos demo\nuuid 3F2B1C00-0000-4000-8000-000000000001\n") ≡ Err (BadScript 3)
unfolding heading_from is_repository_name is_uuid
bad_uuid = refl

no_revision : repository_from heading ≡ Err (BadScript 4)
unfolding repository_from heading_from is_repository_name is_uuid revision_from revision_head
no_revision = refl

no_end : repository_from (heading ++ codes "revision 0 0 0\n\n") ≡ Err (BadScript 6)
unfolding repository_from heading_from is_repository_name is_uuid revision_from revision_head revision_line items_from next_item item_from numbers.read_decimal
no_end = refl

change_in_zeroth : repository_from (heading ++ codes "revision 0 0 0\n\nmkdir 2\n/a\nend\n") ≡ Err (BadScript 6)
unfolding repository_from heading_from is_repository_name is_uuid revision_from revision_head revision_line items_from next_item item_from item_after item_of numbers.read_decimal is_path is_utf8 chars encode
change_in_zeroth = refl
