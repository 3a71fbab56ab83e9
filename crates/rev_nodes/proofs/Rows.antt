-- The worked repository, computed.
use Rattle.std.proofs.Common.{◌≡◌, ℕ, zero, suc, true, false, List, [], ◌∷◌, ◌++◌, Option, None, Some, Ok, Err, refl}
use Rattle.std.specs.Prelude.{codes}
use Rattle.std.specs.Str.{is_utf8, chars}
use Rattle.std.proofs.Math.Utf8.{encode}
use Rattle.dsv_base.specs.Paths.{is_path, is_under, parent_text}
use Rattle.rev_nodes.specs.declared.change.Change.{Change}
use Rattle.rev_nodes.specs.declared.change.Change.TheVariants.{Put, SetProp, DelProp, Mkdir, Delete, Copy}
use Rattle.dsv_base.specs.declared.prop.Prop.{Prop}
use Rattle.rev_nodes.specs.declared.changed.Changed.{Changed}
use Rattle.rev_nodes.specs.declared.kind.Kind.{Kind}
use Rattle.rev_nodes.specs.declared.kind.Kind.TheVariants.{File, Dir}
use Rattle.rev_nodes.specs.declared.mark.Mark.{Mark}
use Rattle.rev_nodes.specs.declared.mark.Mark.TheVariants.{Added, Modified, Deleted, Replaced}
use Rattle.rev_nodes.specs.declared.unfit.Unfit.TheVariants.{NoNode, IsRoot, Exists, NoParent, TooLong}
use Rattle.rev_nodes.specs.Trees.{Tree, TreeNode, first_tree, new_dir, new_file}
use Rattle.rev_nodes.specs.Drafts.{draft_tree, is_touched}
use Rattle.rev_nodes.specs.Changes.{unfit, apply, apply_from}
use Rattle.rev_nodes.specs.ChangedPaths.{changed_paths}

abbrev changes_1 : List Change
changes_1 = Mkdir (codes "/pub") ∷ Put (codes "/pub/a") (codes "abc") ∷ Mkdir (codes "/sec") ∷ Put (codes "/sec/k") (codes "key") ∷ []

-- the root as revision 1 leaves it
abbrev changed_root : TreeNode
changed_root = record (new_dir 0) { node = record (new_dir 0).node { created = 1 } }

abbrev tree_1 : Tree
tree_1 = (codes "/", changed_root) ∷ (codes "/pub", new_dir 1) ∷ (codes "/pub/a", new_file (codes "abc") 1) ∷ (codes "/sec", new_dir 1) ∷ (codes "/sec/k", new_file (codes "key") 1) ∷ []

worked_tree : apply_from 0 changes_1 (first_tree ∷ []) first_tree 1 ≡ Ok tree_1
unfolding apply_from apply unfit parent_text is_under
worked_tree = refl

-- a file can't be put below a file, nor a directory made where something is
below_a_file : apply_from 0 (changes_1 ++ Put (codes "/pub/a/b") [] ∷ []) (first_tree ∷ []) first_tree 1 ≡ Err (4, NoParent)
unfolding apply_from apply unfit parent_text is_under
below_a_file = refl

made_twice : apply_from 0 (changes_1 ++ Mkdir (codes "/pub") ∷ []) (first_tree ∷ []) first_tree 1 ≡ Err (4, Exists)
unfolding apply_from apply unfit parent_text is_under
made_twice = refl

-- the worked tree of revision 2: another text
abbrev changes_2 : List Change
changes_2 = Put (codes "/sec/k") (codes "new") ∷ []

abbrev marked_dir : ℕ → ℕ → TreeNode
marked_dir since r = record (new_dir since) { node = record (new_dir since).node { created = r } }

abbrev marked_file : List ℕ → ℕ → ℕ → TreeNode
marked_file text since r = record (new_file text since) { node = record (new_file text since).node { created = r } }

abbrev tree_2 : Tree
tree_2 = (codes "/", marked_dir 0 2) ∷ (codes "/pub", new_dir 1) ∷ (codes "/pub/a", new_file (codes "abc") 1) ∷ (codes "/sec", marked_dir 1 2) ∷ (codes "/sec/k", marked_file (codes "new") 1 2) ∷ []

abbrev trees : List Tree
trees = first_tree ∷ tree_1 ∷ tree_2 ∷ []

-- a put over a file keeps its since, and marks what stands above
another_text : apply_from 0 changes_2 (first_tree ∷ tree_1 ∷ []) tree_1 2 ≡ Ok tree_2
unfolding apply_from apply unfit parent_text is_under
another_text = refl

-- a put can't go over a directory
over_a_directory : unfit (Put (codes "/pub") []) trees tree_2 ≡ Some Exists
unfolding unfit parent_text
over_a_directory = refl

-- where a node was deleted, a put adds a new one
put_anew : apply_from 0 (Delete (codes "/pub/a") ∷ Put (codes "/pub/a") (codes "x") ∷ []) trees tree_1 3 ≡ Ok ((codes "/", marked_dir 0 3) ∷ (codes "/pub", marked_dir 1 3) ∷ (codes "/pub/a", new_file (codes "x") 3) ∷ (codes "/sec", new_dir 1) ∷ (codes "/sec/k", new_file (codes "key") 1) ∷ [])
unfolding apply_from apply unfit parent_text is_under
put_anew = refl

-- properties stand in byte order of the name, each once; a put keeps them
abbrev prop : List ℕ → List ℕ → Prop
prop name value = record { name = name; value = value }

abbrev tree_p : List Prop → List ℕ → Tree
tree_p props text = (codes "/", marked_dir 0 2) ∷ (codes "/f", record (new_file text 1) { node = record { kind = File; props = props; text = text; created = 2 } }) ∷ []

abbrev tree_f : Tree
tree_f = (codes "/", marked_dir 0 1) ∷ (codes "/f", new_file (codes "t") 1) ∷ []

three_props : apply_from 0 (SetProp (codes "/f") (codes "b") (codes "1") ∷ SetProp (codes "/f") (codes "c") (codes "2") ∷ SetProp (codes "/f") (codes "a") (codes "3") ∷ SetProp (codes "/f") (codes "b") (codes "4") ∷ []) [] tree_f 2 ≡ Ok (tree_p (prop (codes "a") (codes "3") ∷ prop (codes "b") (codes "4") ∷ prop (codes "c") (codes "2") ∷ []) (codes "t"))
unfolding apply_from apply unfit parent_text is_under
three_props = refl

put_keeps_props : apply_from 0 (SetProp (codes "/f") (codes "b") (codes "1") ∷ Put (codes "/f") (codes "u") ∷ []) [] tree_f 2 ≡ Ok (tree_p (prop (codes "b") (codes "1") ∷ []) (codes "u"))
unfolding apply_from apply unfit parent_text is_under
put_keeps_props = refl

-- a property that isn't there is removed all the same
no_such_prop : apply_from 0 (SetProp (codes "/f") (codes "b") (codes "1") ∷ DelProp (codes "/f") (codes "x") ∷ DelProp (codes "/f") (codes "b") ∷ []) [] tree_f 2 ≡ Ok (tree_p [] (codes "t"))
unfolding apply_from apply unfit parent_text is_under
no_such_prop = refl

no_node : (unfit (SetProp (codes "/g") [] []) [] tree_f ≡ Some NoNode) × (unfit (DelProp (codes "/g") []) [] tree_f ≡ Some NoNode) × (unfit (Delete (codes "/g")) [] tree_f ≡ Some NoNode)
unfolding unfit
no_node = (refl, refl, refl)

the_root : (unfit (Delete (codes "/")) [] tree_f ≡ Some IsRoot) × (unfit (SetProp (codes "/") [] []) [] tree_f ≡ None) × (unfit (Mkdir (codes "/")) [] tree_f ≡ Some Exists)
unfolding unfit parent_text
the_root = (refl, refl, refl)

-- a delete takes all below, and nothing of a name that only begins alike
deleted : apply_from 0 (Mkdir (codes "/sec.d") ∷ Delete (codes "/sec") ∷ []) trees tree_1 3 ≡ Ok ((codes "/", marked_dir 0 3) ∷ (codes "/pub", new_dir 1) ∷ (codes "/pub/a", new_file (codes "abc") 1) ∷ (codes "/sec.d", new_dir 3) ∷ [])
unfolding apply_from apply unfit parent_text is_under
deleted = refl

after_a_delete : apply_from 0 (Delete (codes "/sec") ∷ Mkdir (codes "/sec/x") ∷ Delete (codes "/") ∷ []) trees tree_2 3 ≡ Err (1, NoParent)
unfolding apply_from apply unfit parent_text is_under
after_a_delete = refl

-- a copy from revision 1, while revision 2 has another text: each node has its own source, and those
-- below the root of the copy keep their created
copied_tree : apply_from 0 (Copy (codes "/sec") 1 (codes "/pub/s") ∷ []) trees tree_2 3 ≡ Ok (
    (codes "/", marked_dir 0 3) ∷ (codes "/pub", marked_dir 1 3) ∷ (codes "/pub/a", new_file (codes "abc") 1)
    ∷ (codes "/pub/s", record { node = record { kind = Dir; props = []; text = []; created = 3 }; line = record { since = 3; source = Some (codes "/sec", 1) } })
    ∷ (codes "/pub/s/k", record { node = record { kind = File; props = []; text = codes "key"; created = 1 }; line = record { since = 3; source = Some (codes "/sec/k", 1) } })
    ∷ (codes "/sec", marked_dir 1 2) ∷ (codes "/sec/k", marked_file (codes "new") 1 2) ∷ [])
unfolding apply_from apply unfit parent_text is_under is_path is_utf8 chars encode
copied_tree = refl

-- a copy of the root
copied_root : apply_from 0 (Copy (codes "/") 1 (codes "/r") ∷ []) (first_tree ∷ tree_f ∷ []) tree_f 2 ≡ Ok (
    (codes "/", marked_dir 0 2) ∷ (codes "/f", new_file (codes "t") 1)
    ∷ (codes "/r", record { node = record { kind = Dir; props = []; text = []; created = 2 }; line = record { since = 2; source = Some (codes "/", 1) } })
    ∷ (codes "/r/f", record { node = record { kind = File; props = []; text = codes "t"; created = 1 }; line = record { since = 2; source = Some (codes "/f", 1) } }) ∷ [])
unfolding apply_from apply unfit parent_text is_under is_path is_utf8 chars encode
copied_root = refl

-- nothing is at the source, or past the youngest revision; then the path, its parent, and its length
copy_unfit : (unfit (Copy (codes "/g") 1 (codes "/pub")) trees tree_2 ≡ Some NoNode) × (unfit (Copy (codes "/sec") 0 (codes "/x")) trees tree_2 ≡ Some NoNode) × (unfit (Copy (codes "/sec") 3 (codes "/x")) trees tree_2 ≡ Some NoNode) × (unfit (Copy (codes "/sec") 1 (codes "/pub")) trees tree_2 ≡ Some Exists) × (unfit (Copy (codes "/sec") 1 (codes "/x/y")) trees tree_2 ≡ Some NoParent)
unfolding unfit parent_text is_under is_path is_utf8 chars encode
copy_unfit = (refl, refl, refl, refl, refl)

-- a path of 65 names is none
abbrev deep : ℕ → List ℕ
deep zero = []
deep (suc n) = 47 ∷ 97 ∷ deep n

too_long : unfit (Copy (codes "/sec") 1 (deep 64)) trees ((codes "/", new_dir 1) ∷ (deep 63, new_dir 1) ∷ []) ≡ Some TooLong
unfolding unfit parent_text is_under is_path is_utf8 chars encode
too_long = refl

-- what is told of the paths that changes name
abbrev told : List ℕ → Mark → Kind → Option (List ℕ × ℕ) → Changed
told path mark kind source = record { path = path; mark = mark; kind = kind; source = source }

added_and_modified : changed_paths changes_1 first_tree tree_1 ≡ told (codes "/pub") Added Dir None ∷ told (codes "/pub/a") Added File None ∷ told (codes "/sec") Added Dir None ∷ told (codes "/sec/k") Added File None ∷ []
unfolding changed_paths is_under
added_and_modified = refl

modified_once : changed_paths (SetProp (codes "/f") (codes "b") [] ∷ Put (codes "/f") [] ∷ SetProp (codes "/") [] [] ∷ []) tree_f (tree_p [] []) ≡ told (codes "/") Modified Dir None ∷ told (codes "/f") Modified File None ∷ []
unfolding changed_paths is_under
modified_once = refl

-- deleted; deleted and put again; there neither before nor after
deleted_paths : changed_paths (Delete (codes "/f") ∷ Mkdir (codes "/g") ∷ Delete (codes "/g") ∷ []) tree_f ((codes "/", marked_dir 0 2) ∷ []) ≡ told (codes "/f") Deleted File None ∷ []
unfolding changed_paths is_under
deleted_paths = refl

replaced_below : changed_paths (Delete (codes "/sec") ∷ Mkdir (codes "/sec") ∷ Put (codes "/sec/k") [] ∷ []) tree_1 tree_1 ≡ told (codes "/sec") Replaced Dir None ∷ told (codes "/sec/k") Replaced File None ∷ []
unfolding changed_paths is_under
replaced_below = refl

-- the source of the last copy, unless a delete took that away; a source is told at the path that the
-- copy names, and not below it
sources : changed_paths (Copy (codes "/pub") 1 (codes "/x") ∷ Put (codes "/x/a") [] ∷ []) tree_1 ((codes "/x", new_dir 2) ∷ (codes "/x/a", new_file [] 2) ∷ []) ≡ told (codes "/x") Added Dir (Some (codes "/pub", 1)) ∷ told (codes "/x/a") Added File None ∷ []
unfolding changed_paths is_under
sources = refl

lost_source : changed_paths (Mkdir (codes "/y") ∷ Copy (codes "/pub/a") 1 (codes "/y/b") ∷ Delete (codes "/y") ∷ Mkdir (codes "/y") ∷ Put (codes "/y/b") [] ∷ []) tree_1 ((codes "/y", new_dir 2) ∷ (codes "/y/b", new_file [] 2) ∷ []) ≡ told (codes "/y") Added Dir None ∷ told (codes "/y/b") Added File None ∷ []
unfolding changed_paths is_under
lost_source = refl

replaced_by_copy : changed_paths (Delete (codes "/pub/a") ∷ Copy (codes "/sec/k") 1 (codes "/pub/a") ∷ []) tree_1 tree_1 ≡ told (codes "/pub/a") Replaced File (Some (codes "/sec/k", 1)) ∷ []
unfolding changed_paths is_under
replaced_by_copy = refl

-- a change touches what it names and what stands above, and not what stands below or beside
touched_above : is_touched (codes "/pub") (Put (codes "/pub/a") [] ∷ []) ≡ true
unfolding is_under
touched_above = refl

untouched_below : is_touched (codes "/pub/a") (Delete (codes "/pub") ∷ []) ≡ false
unfolding is_under
untouched_below = refl

untouched_beside : is_touched (codes "/public") (Mkdir (codes "/pub") ∷ []) ≡ false
unfolding is_under
untouched_beside = refl

-- a copy touches what stands below its destination too, and not its source
touched_by_copy : is_touched (codes "/new/a") (Copy (codes "/pub") 1 (codes "/new") ∷ []) ≡ true
unfolding is_under
touched_by_copy = refl

untouched_source : is_touched (codes "/pub/a") (Copy (codes "/pub") 1 (codes "/new") ∷ []) ≡ false
unfolding is_under
untouched_source = refl

-- a draft's tree has the last number for the revision that is to come
drafted_text : draft_tree trees 1 changes_2 ≡ Ok ((codes "/", marked_dir 0 2000000000) ∷ (codes "/pub", new_dir 1) ∷ (codes "/pub/a", new_file (codes "abc") 1) ∷ (codes "/sec", marked_dir 1 2000000000) ∷ (codes "/sec/k", marked_file (codes "new") 1 2000000000) ∷ [])
unfolding apply_from apply unfit parent_text is_under
drafted_text = refl
