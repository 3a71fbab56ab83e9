use Rattle.std.proofs.Common.{rules, not}
use Rattle.std.proofs.lemmas.Map.Made.{filter_same_pairs}
use Rattle.tree_edits.specs.Hanging.{is_below}
use Rattle.tree_edits.proofs.Lists.{cleared_is}
use Rattle.tree_edits.proofs.store.Store.clear_below.Goals as goal

pub returns : goal.returns
returns c = cleared_is (λ k. k.items) c.args.path.now c.self.inside.map.entries c.retain.new.self.entries c.args.self.now c.self.view_is c.args.path.now (filter_same_pairs _ (λ e. not (is_below e.0.items c.args.path.now)) _ (λ k v b w f' t. search rules) _ _ c.retain.ensures.filtered)
