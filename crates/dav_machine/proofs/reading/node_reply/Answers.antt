use Rattle.std.proofs.Common.{◌≡◌, ◌∙◌, Ok, Some, sym, ap}
use Rattle.std.specs.Option.{option_copied}
use Rattle.dsv_base.specs.declared.reply.Reply.{Reply}
use Rattle.rev_nodes.specs.declared.kind.Kind.{Kind}
use Rattle.rev_nodes.specs.Forests.{Forest, repository_of, id_at, node_at}
use Rattle.log_access.specs.Shown.{Shown, shown_of}
use Rattle.dav_machine.specs.Media.{media_type}
use Rattle.dav_machine.specs.Replies.{content_reply, html_type}
use Rattle.dav_machine.specs.ReadReplies.{node_reply}
use Rattle.dav_machine.proofs.Getting.{get_found}
use Rattle.dav_machine.proofs.reading.node_reply.Goals as goal

pub returns-in_ok-content_reply-in-File-clause-value : goal.returns-in_ok-content_reply-in-File-clause-value
returns-in_ok-content_reply-in-File-clause-value c =
    let trees = c.args.present.now.trees in
    let rules = c.args.present.now.rules in
    let user = option_copied c.args.user in
    let rev = c.args.at.now.rev in
    let path = c.args.at.now.path.now in
    let node = c.node-node.result.now in
    let shown : Shown = shown_of (repository_of trees) rules user in
    let found : node_at trees rev path ≡ Some node = ap (λ (f : Forest). node_at f rev path) (sym c.trees.ensures) ∙ c.node-node.ensures.is rev path (ap (λ (f : Forest). id_at f rev path) c.trees.ensures ∙ c.requires.number) in
    get_found trees rules user rev path c.args.at.now.resource.now node c.requires.readable found
    ∙ ap (λ (kind : Kind). Ok (node_reply shown c.args.at.now.resource.now rev path node kind)) c.in-File.is
    ∙ ap (λ (reply : Reply). Ok reply) (sym (c.in_ok-content_reply-in-File.ensures.value ∙ (λ i. content_reply ((c.media_type.ensures ∙ ap media_type c.get.ensures) i) (c.in_ok-text-in-File.ensures i))))

pub returns-in_ok-content_reply-in-Dir-clause-value : goal.returns-in_ok-content_reply-in-Dir-clause-value
unfolding shown_of
returns-in_ok-content_reply-in-Dir-clause-value c =
    let trees = c.args.present.now.trees in
    let rules = c.args.present.now.rules in
    let user = option_copied c.args.user in
    let rev = c.args.at.now.rev in
    let path = c.args.at.now.path.now in
    let node = c.node-node.result.now in
    let shown : Shown = shown_of (repository_of trees) rules user in
    let found : node_at trees rev path ≡ Some node = ap (λ (f : Forest). node_at f rev path) (sym c.trees.ensures) ∙ c.node-node.ensures.is rev path (ap (λ (f : Forest). id_at f rev path) c.trees.ensures ∙ c.requires.number) in
    get_found trees rules user rev path c.args.at.now.resource.now node c.requires.readable found
    ∙ ap (λ (kind : Kind). Ok (node_reply shown c.args.at.now.resource.now rev path node kind)) c.in-Dir.is
    ∙ ap (λ (reply : Reply). Ok reply) (sym (c.in_ok-content_reply-in-Dir.ensures.value ∙ ap (content_reply html_type) c.in_ok-page-in-Dir.ensures))
