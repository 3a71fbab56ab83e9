-- What OPTIONS is answered, and a GET where nothing stands at a readable path and where a node does.
use Rattle.std.proofs.Common.{◌≡◌, ℕ, ◌-◌, true, List, Option, None, Some, Result, Ok, Err, length, sym, ap, ◌∙◌, subst}
use Rattle.std.proofs.lemmas.List.{length-map}
use Rattle.std.specs.Option.{option_map}
use Rattle.dsv_base.specs.Gives.{Gives, ◌>>=◌}
use Rattle.dsv_base.specs.declared.reply.Reply.{Reply}
use Rattle.dav_names.specs.declared.resource.Resource.{Resource}
use Rattle.dav_names.specs.Targets.{root_of}
use Rattle.dav_replies.specs.Faults.{refusal_no_memory}
use Rattle.dav_replies.specs.declared.client.Client.{Client}
use Rattle.dav_replies.specs.declared.refusal.Refusal.{Refusal}
use Rattle.dav_replies.specs.declared.refusal.Refusal.TheVariants.{NoNode}
use Rattle.rev_nodes.specs.declared.node.Node.{Node}
use Rattle.rev_nodes.specs.Trees.{TreeNode}
use Rattle.rev_nodes.specs.Forests.{Numbered, Forest, without_numbers, repository_of, id_at, node_at}
use Rattle.authz_file.specs.declared.rule.Rule.{Rule}
use Rattle.authz_check.specs.Access.{can_read}
use Rattle.log_access.specs.Shown.{shown_node, shown_of}
use Rattle.log_access.proofs.ShownNodes.{nothing_at, place_with, node_in-shown}
use Rattle.dav_machine.specs.Options.{options_reply}
use Rattle.dav_machine.specs.ReadReplies.{or_no_node, node_reply, get_reply}

-- the youngest revision that is shown is the youngest there is
pub options_shown : (client : Client) (trees : Forest) (rules : List Rule) (user : Option (List ℕ)) (result : Result Reply Refusal)
    → Gives refusal_no_memory result (Ok (options_reply client (root_of trees.name) trees.uuid (length trees.revisions - 1)))
    → Gives refusal_no_memory result (Ok (options_reply client (root_of (shown_of (repository_of trees) rules user).name) (shown_of (repository_of trees) rules user).uuid (shown_of (repository_of trees) rules user).youngest))
unfolding shown_of
options_shown client trees rules user result told =
    subst (λ (n : ℕ). Gives refusal_no_memory result (Ok (options_reply client (root_of trees.name) trees.uuid n))) (ap (λ (n : ℕ). n - 1) (sym (length-map trees.revisions without_numbers))) told

module _ (trees : Forest) (rules : List Rule) (user : Option (List ℕ)) (rev : ℕ) (path : List ℕ) (resource : Resource) where
  pub get_missing : (other : Forest) → other ≡ trees → can_read rules trees.name user path ≡ true → None ≡ id_at other rev path → get_reply (shown_of (repository_of trees) rules user) resource rev path ≡ Err NoNode
  get_missing other same readable missing =
      let gone : id_at trees rev path ≡ None = ap (λ (f : Forest). id_at f rev path) (sym same) ∙ sym missing in
      ap (λ (o : Option TreeNode). or_no_node o >>= (λ found. Ok (node_reply (shown_of (repository_of trees) rules user) resource rev path found.node found.node.kind)))
      (node_in-shown trees rules user rev path readable ∙ ap (option_map (λ (p : Numbered). shown_node (can_read rules trees.name user) p.here)) (nothing_at trees rev path gone))

  pub get_found : (node : Node) → can_read rules trees.name user path ≡ true → node_at trees rev path ≡ Some node → get_reply (shown_of (repository_of trees) rules user) resource rev path ≡ Ok (node_reply (shown_of (repository_of trees) rules user) resource rev path node node.kind)
  get_found node readable found =
      let place = place_with trees rev path node found in
      ap (λ (o : Option TreeNode). or_no_node o >>= (λ found. Ok (node_reply (shown_of (repository_of trees) rules user) resource rev path found.node found.node.kind)))
      (node_in-shown trees rules user rev path readable ∙ ap (option_map (λ (p : Numbered). shown_node (can_read rules trees.name user) p.here)) place.1)
      ∙ ap (λ (n : Node). Ok (node_reply (shown_of (repository_of trees) rules user) resource rev path n n.kind)) place.2
