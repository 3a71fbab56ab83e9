-- The reply to a reading request, as a function of what the user may see: nothing else is among its
-- arguments, so that two states which show a user the same are answered alike.
use Rattle.std.specs.Prelude.{ℕ, List, [], ◌∷◌, Option, None, Some, Result, Ok, Err, nat_le, if◌then◌else◌}
use Rattle.dsv_base.specs.Gives.{◌>>=◌}
use Rattle.dsv_base.specs.declared.reply.Reply.{Reply}
use Rattle.rev_nodes.specs.declared.kind.Kind.{Kind}
use Rattle.rev_nodes.specs.declared.kind.Kind.TheVariants.{File, Dir}
use Rattle.rev_nodes.specs.declared.node.Node.{Node}
use Rattle.rev_nodes.specs.Trees.{TreeNode}
use Rattle.dav_names.specs.declared.resource.Resource.{Resource}
use Rattle.dav_names.specs.Targets.{root_of}
use Rattle.dav_replies.specs.declared.refusal.Refusal.{Refusal}
use Rattle.dav_replies.specs.declared.refusal.Refusal.TheVariants.{NoNode, NoRevision, NoMemory}
use Rattle.dav_replies.specs.Replies.{multistatus_reply}
use Rattle.log_access.specs.Shown.{Shown, node_in, nodes_in}
use Rattle.prop_values.specs.Subjects.{PropSources}
use Rattle.prop_requests.specs.Propfinds.{propfind_answer}
use Rattle.prop_requests.specs.Sights.{sources_of}
use Rattle.prop_requests.specs.declared.propfind_fault.PropfindFault.{PropfindFault}
use Rattle.prop_requests.specs.declared.propfind_fault.PropfindFault.TheVariants as faults
use Rattle.dav_machine.specs.declared.asked.Asked.{Asked}
use Rattle.dav_machine.specs.declared.asked.Asked.TheVariants.{Options, Get, Head, Propfind}
use Rattle.dav_machine.specs.Chains.{Aim, Permit, aim_of}
use Rattle.dav_machine.specs.Listings.{listing_text, children_in}
use Rattle.dav_machine.specs.Media.{media_type}
use Rattle.dav_machine.specs.Options.{options_reply}
use Rattle.dav_machine.specs.Replies.{content_reply, html_type}
use Rattle.dav_machine.specs.Views.{View}

-- ---- revision

-- each named revision has to be there
abbrev pub all_there : ℕ → List ℕ → ℕ → Result ℕ Refusal
all_there youngest [] meant = Ok meant
all_there youngest (rev ∷ revs) meant = if nat_le rev youngest then all_there youngest revs meant else Err (NoRevision rev)

-- the revision whose tree is meant, and else the youngest
abbrev pub meant_of : ℕ → Option ℕ → ℕ
meant_of youngest None = youngest
meant_of youngest (Some rev) = rev

-- the revision that is meant, where all that are named are there
abbrev pub by_revisions : ℕ → List ℕ → Option ℕ → Result ℕ Refusal
by_revisions youngest revs meant = all_there youngest revs (meant_of youngest meant)

-- ---- node

-- a node that is needed has to be there
abbrev pub or_no_node : Option TreeNode → Result TreeNode Refusal
or_no_node None = Err NoNode
or_no_node (Some found) = Ok found

-- a file's text, or the listing of a directory's readable children
abbrev pub node_reply : Shown → Resource → ℕ → List ℕ → Node → Kind → Reply
node_reply shown resource rev path node File = content_reply (media_type node.props) node.text
node_reply shown resource rev path node Dir =
    content_reply html_type (listing_text (root_of shown.name) resource path (children_in (nodes_in shown rev) path))

-- a node is asked for, and has to be there
abbrev pub get_reply : Shown → Resource → ℕ → List ℕ → Result Reply Refusal
get_reply shown resource rev path =
    or_no_node (node_in shown rev path)
    >>= (λ found. Ok (node_reply shown resource rev path found.node found.node.kind))

-- the content of the node that is asked for, where the resource names a path
abbrev pub content_at : Shown → Resource → ℕ → Option (List ℕ) → Result Reply Refusal
content_at shown resource rev None = Err NoNode
content_at shown resource rev (Some path) = get_reply shown resource rev path

-- ---- properties

-- what answers about properties are told from
abbrev pub sources_in : View → PropSources
sources_in view = sources_of (root_of view.shown.name) view.shown view.locks

-- properties are told as a multistatus, of what is there
abbrev pub propfind_reply : Result (List ℕ) PropfindFault → Result Reply Refusal
propfind_reply (Ok document) = Ok (multistatus_reply document)
propfind_reply (Err faults.NoNode) = Err NoNode
propfind_reply (Err faults.NoMemory) = Err NoMemory

-- ---- the answer, by what is asked for: OPTIONS needs no node

-- what is answered of this revision and path
abbrev pub asked_reply : View → Asked → Resource → ℕ → Option (List ℕ) → Result Reply Refusal
asked_reply view (Options client) resource rev path =
    Ok (options_reply client (root_of view.shown.name) view.shown.uuid view.shown.youngest)
asked_reply view Get resource rev path = content_at view.shown resource rev path
asked_reply view Head resource rev path = content_at view.shown resource rev path
asked_reply view (Propfind children wanted) resource rev path =
    propfind_reply (propfind_answer (sources_in view) resource children wanted)

-- what is answered of this aim
abbrev pub aimed_reply : View → Asked → Resource → Aim → Result Reply Refusal
aimed_reply view asked resource aim =
    by_revisions view.shown.youngest aim.revisions aim.meant
    >>= (λ rev. asked_reply view asked resource rev aim.path)

-- what is answered to a request that is let through: revision, node, and then the reply
unfoldable pub read_answer : View → Permit → Result Reply Refusal
read_answer view permit = aimed_reply view permit.asked permit.resource (aim_of permit.asked permit.resource)
