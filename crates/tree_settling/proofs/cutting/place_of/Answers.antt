use Rattle.std.proofs.Common.{◌≡◌, rules}
use Rattle.std.specs.Ordering.{nat_cmp}
use Rattle.std.specs.Cmp.Lexicographic.{slice_cmp}
use Rattle.std.proofs.lemmas.Fn.{always_returns_same}
use Rattle.rev_nodes.specs.declared.entry.Entry.{Entry}
use Rattle.tree_settling.proofs.Cuttings.{cut_by}
use Rattle.tree_settling.proofs.cutting.place_of.Goals as goal

pub returns : goal.returns
returns c =
    let facts = c.binary_search_by.ensures in
    let by_name = facts.position (λ (e : Entry). slice_cmp nat_cmp e.name c.args.name.now) (always_returns_same _ (λ a r. r ≡ slice_cmp nat_cmp a.0.now.name c.args.name.now) _ (λ a r after called. search rules)) in
    cut_by c.args.name.now c.args.entries.now c.requires c.binary_search_by.result facts.bound by_name
