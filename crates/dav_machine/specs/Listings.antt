-- The listing of a directory: a page of HTML with a link for each child.
use Rattle.std.specs.Prelude.{ℕ, List, [], ◌∷◌, ◌++◌, Option, None, Some, codes, if◌then◌else◌}
use Rattle.std.specs.List.{filter_map}
use Rattle.dsv_base.specs.Paths.{name_of, join_text}
use Rattle.rev_nodes.specs.declared.kind.Kind.{Kind}
use Rattle.rev_nodes.specs.declared.kind.Kind.TheVariants.{File, Dir}
use Rattle.rev_nodes.specs.Entries.{is_child}
use Rattle.rev_nodes.specs.Trees.{TreeNode, Tree}
use Rattle.dav_names.specs.declared.resource.Resource.{Resource}
use Rattle.dav_names.specs.declared.resource.Resource.TheVariants.{Public, Rvr}
use Rattle.dav_names.specs.Written.{target_text}
use Rattle.dav_documents.specs.Written.{Written, attribute, text_element, element, for_each, written_text}

-- a child of a directory: its name and its kind
pub record Child : Type 0 where
  pub name : List ℕ
  pub kind : Kind

-- the child that a place of a tree is, if it is one of the directory
abbrev pub listed_child : List ℕ → List ℕ × TreeNode → Option Child
listed_child directory place = if is_child directory place.0 then Some (record { name = name_of place.0; kind = place.1.node.kind }) else None

-- what stands in a directory, in byte order of the names
abbrev pub children_in : Tree → List ℕ → List Child
children_in tree directory = filter_map (listed_child directory) tree

-- a directory's name ends with a slash
abbrev pub slash_of : Kind → List ℕ
slash_of File = []
slash_of Dir = codes "/"

-- another path of the resource's revision
abbrev pub at_path : Resource → List ℕ → Resource
at_path (Rvr rev old) path = Rvr rev path
at_path resource path = Public path

-- where the child of a directory is
abbrev pub href_of : List ℕ → Resource → List ℕ → Child → List ℕ
href_of root resource directory child = target_text root (at_path resource (join_text directory child.name)) ++ slash_of child.kind

-- an item with a link
abbrev pub link_item : List ℕ → List ℕ → Written
link_item href text = element (codes "li") [] (text_element (codes "a") (attribute (codes "href") href ∷ []) text)

-- the item of a child
abbrev pub listed_item : List ℕ → Resource → List ℕ → Child → Written
listed_item root resource directory child = link_item (href_of root resource directory child) (child.name ++ slash_of child.kind)

-- the page that lists the children of the directory that the resource names
unfoldable pub listing_text : List ℕ → Resource → List ℕ → List Child → List ℕ
listing_text root resource directory children =
    codes "<html><body><ul>" ++ written_text (for_each (listed_item root resource directory) children) ++ codes "</ul></body></html>\n"
