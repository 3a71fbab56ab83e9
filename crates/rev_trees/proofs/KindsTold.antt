-- The changed paths that kinds tell are those of the trees.
use Rattle.std.proofs.Common.{◌≡◌, ℕ, Bool, true, false, List, [], ◌∷◌, Option, None, Some, refl, sym, ap, ◌∙◌}
use Rattle.std.specs.Prelude.{is_some}
use Rattle.std.specs.Option.{option_map}
use Rattle.std.specs.List.{filter_map, cons_option, list_all}
use Rattle.std.proofs.lemmas.Bool.{and_parts}
use Rattle.dsv_base.specs.Paths.{is_path}
use Rattle.rev_nodes.specs.declared.cell.Cell.{Cell}
use Rattle.rev_nodes.specs.declared.change.Change.{Change}
use Rattle.rev_nodes.specs.declared.changed.Changed.{Changed}
use Rattle.rev_nodes.specs.declared.kind.Kind.{Kind}
use Rattle.rev_nodes.specs.Trees.{TreeNode, Tree, at}
use Rattle.rev_nodes.specs.ChangedPaths.{changed_paths}
use Rattle.change_table.specs.ChangeTables.{LastChanges, ChangeTable, deleted, source_of, kept_as, changed_as, changed_in, noted_from, has_named_path}
use Rattle.change_table.proofs.OnePass.{has_key, keys_of_changes, told_so}
use Rattle.node_table.specs.Ways.{names_in}
use Rattle.node_table.specs.Tables.{cell_at, reach}
use Rattle.node_table.specs.Shown.{IsShown}
use Rattle.node_table.proofs.Found.{found_as, none_at}
use Rattle.node_table.proofs.PathNames.{names_of_path}
use Rattle.tree_edits.specs.declared.held.Held.{Held}
use Rattle.tree_edits.specs.Edits.{EditedTree, held, held_node, AreShown}
use Rattle.rev_trees.specs.ChangedKinds.{kind_before, kind_after, kept_kind, changed_kind, row_between}

abbrev kind_of : TreeNode → Kind
kind_of found = found.node.kind

as_kinds : (path : List ℕ) (delete : Bool) (source : Option (List ℕ × ℕ)) (was now : Option TreeNode) → changed_kind path delete source (option_map kind_of was) (option_map kind_of now) ≡ changed_as path delete source was now
as_kinds path delete source None None = refl
as_kinds path delete source None (Some now) = refl
as_kinds path delete source (Some was) None = refl
as_kinds path delete source (Some was) (Some now) = ap Some (either delete)
  where
    either : (b : Bool) → kept_kind path source now.node.kind b ≡ kept_as path source now b
    either true = refl
    either false = refl

module _ (cells : List Cell) (root : ℕ) (edits : EditedTree) (before after : Tree) (shown : IsShown cells root before) (now : AreShown cells edits after) where
  module _ (path : List ℕ) (one : is_path path ≡ true) where
    kind_was : kind_before cells root path ≡ option_map kind_of (at path before)
    kind_was = by (reach cells (Some root) (names_in path)) refl
      where
        by : (o : Option ℕ) → reach cells (Some root) (names_in path) ≡ o → option_map (λ (id : ℕ). (cell_at cells id).node.kind) o ≡ option_map kind_of (at path before)
        by None e = sym (ap (option_map kind_of) (none_at cells root before shown.shown path one e))
        by (Some id) e = let f = found_as cells root before shown.shown path one id e in ap (λ n. Some n.kind) (sym f.node) ∙ sym (ap (option_map kind_of) f.at_path)

    kind_is : kind_after cells edits path ≡ option_map kind_of (at path after)
    kind_is =
        let n = names_of_path path one in
        by (held cells edits (names_in path)) ∙ sym (ap (option_map kind_of) (ap (λ p. at p after) (sym n.path) ∙ now.shows (names_in path) n.names))
      where
        by : (o : Option Held) → option_map (λ (h : Held). h.node.kind) o ≡ option_map kind_of (option_map held_node o)
        by None = refl
        by (Some h) = refl

    one_told : (table : ChangeTable) (last : LastChanges) → row_between table cells root edits (path, last) ≡ changed_in table before after (path, last)
    one_told table last =
        (λ i. changed_kind path (is_some (deleted table path)) (source_of table path) (kind_was i) (kind_is i))
        ∙ as_kinds path (is_some (deleted table path)) (source_of table path) (at path before) (at path after)

  rows_told : (table rows : ChangeTable) → list_all has_key rows ≡ true → filter_map (row_between table cells root edits) rows ≡ filter_map (changed_in table before after) rows
  rows_told table [] keys = refl
  rows_told table (row ∷ rows) keys =
      let p = and_parts (has_key row) (list_all has_key rows) keys in
      λ i. cons_option (one_told row.0 p.0 table row.1 i) (rows_told table rows p.1 i)

  -- the list that a table of the changes tells by kinds
  pub all_told : (changes : List Change) (table : ChangeTable) (list : List Changed) → table ≡ noted_from 0 changes [] → list_all has_named_path changes ≡ true → list ≡ filter_map (row_between table cells root edits) table → list ≡ changed_paths changes before after
  all_told changes table list is paths told = told_so changes before after table list is paths (told ∙ rows_told table table (ap (list_all has_key) is ∙ keys_of_changes changes paths))
