-- What is read without memory is what stands there.
use Rattle.std.proofs.Common.{◌≡◌, ℕ, ◌<◌, Bool, false, List, Option, None, Some, length, refl, sym, ap, subst, ◌∙◌}
use Rattle.std.specs.Prelude.{IfSome}
use Rattle.std.specs.Option.{option_map, option_and_then}
use Rattle.dsv_base.specs.Paths.{components}
use Rattle.rev_nodes.specs.declared.cell.Cell.{Cell}
use Rattle.rev_nodes.specs.Trees.{is_dir, is_dir_kind}
use Rattle.node_table.specs.Ways.{Name}
use Rattle.node_table.specs.Tables.{child_in, IsSoundTable}
use Rattle.node_table.proofs.Growing.{child_within}
use Rattle.tree_edits.specs.Edits.{Held, Touched, touched_at, child_of, or_touched, held_from, held_node}
use Rattle.tree_edits.specs.Reading.{Glance, glance_of, sight_of, sight_in, IsUnder, IsNextName}
use Rattle.tree_edits.proofs.Views.{none_from}

-- what is read of the table one name below a place has a number of the table
pub sight_under : (cells : List Cell) → IsSoundTable cells → (n : Name) (since : ℕ) (under : Option ℕ) → IsUnder cells under → IfSome (option_map (sight_in cells since) (option_and_then (child_in cells n) under)) (λ sight. IsUnder cells sight.under)
sight_under cells sound n since None u = tt
sight_under cells sound n since (Some id) u = by (child_in cells n id) refl
  where
    by : (o : Option ℕ) → child_in cells n id ≡ o → IfSome (option_map (sight_in cells since) o) (λ sight. IsUnder cells sight.under)
    by None e = tt
    by (Some i) e = λ k f. subst (λ m. m < length cells) (let s : i ≡ k = cc in s) (child_within cells sound n id i (u id refl) e)

-- nothing stands where nothing is found at the first name
pub no_glance : (cells : List Cell) (touched : Touched) (text path rest name next after : List ℕ) → IsNextName text path rest name next after → (here : Held) → None ≡ option_map sight_of (or_touched (touched_at touched next) (child_of cells name here)) → None ≡ option_map glance_of (held_from cells touched path (Some here) (components rest))
no_glance cells touched text path rest name next after n here none =
    by (or_touched (touched_at touched next) (child_of cells name here)) none
    ∙ sym (ap (λ ns. option_map glance_of (held_from cells touched path (Some here) ns)) n.cut
    ∙ ap (λ t. option_map glance_of (held_from cells touched t (or_touched (touched_at touched t) (child_of cells name here)) (components after))) (sym n.is))
  where
    by : (o : Option Held) → None ≡ option_map sight_of o → None ≡ option_map glance_of (held_from cells touched next o (components after))
    by None e = sym (ap (option_map glance_of) (none_from cells touched next (components after)))
    by (Some h) e = absurd (cc e)

-- a glance sees a directory
abbrev pub sees_dir : Option Glance → Bool
sees_dir None = false
sees_dir (Some glance) = is_dir_kind glance.kind

pub glance_dir : (o : Option Held) → is_dir (option_map held_node o) ≡ sees_dir (option_map glance_of o)
glance_dir None = refl
glance_dir (Some h) = refl
