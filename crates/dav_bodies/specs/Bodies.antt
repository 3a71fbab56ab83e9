-- Bodies of requests, by their kinds.
use Rattle.std.specs.Prelude.{ℕ, Bool, cond, List, [], ◌∷◌, Result, Ok, Err, codes}
use Rattle.dav_elements.specs.declared.elem.Elem.{Elem}
use Rattle.dsv_base.specs.Gives.{◌>>=◌}
use Rattle.dav_reading.specs.declared.document.Document.{Document}
use Rattle.dav_reading.specs.declared.tree_fault.TreeFault.{TreeFault}
use Rattle.dav_reading.specs.declared.tree_fault.TreeFault.TheVariants as tree_faults
use Rattle.dav_reading.specs.Documents.{document}
use Rattle.dav_bodies.specs.declared.body_kind.BodyKind.{BodyKind}
use Rattle.dav_bodies.specs.declared.body_kind.BodyKind.TheVariants as kinds
use Rattle.dav_bodies.specs.declared.body.Wanted.TheVariants.{All}
use Rattle.dav_bodies.specs.declared.body.Body.{Body}
use Rattle.dav_bodies.specs.declared.body.Body.TheVariants as bodies
use Rattle.dav_bodies.specs.declared.body_fault.BodyFault.{BodyFault}
use Rattle.dav_bodies.specs.declared.body_fault.BodyFault.TheVariants.{BadBody, NotInProfile, NoMemory}
use Rattle.dav_bodies.specs.declared.said.Said.{Said}
use Rattle.dav_bodies.specs.Elements.{is_dav}
use Rattle.dav_bodies.specs.Sayings.{asked}
use Rattle.dav_bodies.specs.Propfinds.{propfind_said}

-- what no bytes at all ask for: of a PROPFIND all properties
abbrev pub empty_body : BodyKind → Result Body BodyFault
empty_body kinds.Propfind = Ok (bodies.Propfind All)

-- the root of a body of this kind has this name: `propfind` in the namespace of WebDAV
abbrev pub is_body_root : BodyKind → Elem → Bool
is_body_root kinds.Propfind root = is_dav (codes "propfind") root

-- what a root of this kind says
abbrev pub said_within : BodyKind → Elem → Result Said BodyFault
said_within kinds.Propfind root = propfind_said root

-- what an element says as a root of this kind; one that isn't is a bad body
abbrev pub said_in : BodyKind → Elem → Result Said BodyFault
said_in kind root = cond (is_body_root kind root) (said_within kind root) (Err BadBody)

-- what a document asks for; one that isn't in the grammar of documents or in the wide grammar of its kind is a bad body, and else one with left-out forms is in the first of them
abbrev pub body_of_document : BodyKind → Result Document TreeFault → Result Body BodyFault
body_of_document kind (Ok d) = said_in kind d.root >>= asked d.form
body_of_document kind (Err tree_faults.BadDocument) = Err BadBody
body_of_document kind (Err (tree_faults.NotInProfile form)) = Err (NotInProfile form)
body_of_document kind (Err tree_faults.NoMemory) = Err NoMemory

-- what bytes ask for: those of a document in which at most 32 elements stand in each other, or none at all
unfoldable pub body_read : BodyKind → List ℕ → Result Body BodyFault
body_read kind [] = empty_body kind
body_read kind (b ∷ bs) = body_of_document kind (document 32 (b ∷ bs))
